-- The first key that is retired among chains, as the first such entry.
use Rattle.std.proofs.Common.{◌≡◌, ℕ, Bool, true, false, not, cond, List, [], ◌∷◌, map, find, Option, Some}
use Rattle.std.proofs.Common.{None, refl, sym, ap, ◌∙◌}
use Rattle.std.specs.Prelude.{if◌then◌else◌}
use Rattle.std.specs.declared.cmp.Ordering.TheVariants.{Less, Equal, Greater}
use Rattle.std.specs.Ordering.{match_ordering}
use Rattle.petal_base.specs.declared.cell.Cell.{Cell}
use Rattle.petal_base.specs.declared.cell.Key.{Key}
use Rattle.petal_base.specs.Cells.{cell_of, key_at}
use Rattle.petal_table.specs.Table.{Table}
use Rattle.petal_msg.specs.declared.retired.Retired.{Retired}
use Rattle.petal_msg.specs.declared.retired.Retired.TheVariants as retired
use Rattle.spec_rules.specs.State.{State, live}
use Rattle.spec_rules.specs.Store.{Chain, Stored, cell_cmp}
use Rattle.spec_rules.specs.Sweeping.{retired_in, retired_key}
use Rattle.spec_rules.proofs.CellTables.{cell_cmp_same}
use Rattle.physical_map.specs.Keys.{IsInOrder}
use Rattle.kept_chains.specs.Chains.{chains_by}
use Rattle.kept_chains.proofs.Fronts.{front_is, in_front}

module _ (state : State) (other : Option Retired) where
  -- the first key that is retired, or else the other thing
  abbrev pub retired_by : Option Key → Option Retired
  retired_by None = other
  retired_by (Some k) = Some (retired.Key k)

  retired_if : (b : Bool) (k : Key) (o p : Option Retired) → cond b o (Some (retired.Key k)) ≡ cond b (cond b o p) (Some (retired.Key k))
  retired_if true k o p = refl
  retired_if false k o p = refl

  retired_front : (t : Table Cell Chain) (c : Cell) (row : ℕ × Stored)
      → retired_in state (in_front t c row) other ≡ (if live state c then retired_in state t other else Some (retired.Key (key_at c row.0)))
  retired_front [] c row = refl
  retired_front (r ∷ rs) c row =
      elim (cell_cmp c r.0) as (λ o. cell_cmp c r.0 ≡ o
      → retired_in state (match_ordering o ((c, row ∷ []) ∷ r ∷ rs) ((r.0, row ∷ r.1) ∷ rs) ((c, row ∷ []) ∷ r ∷ rs)) other
      ≡ (if live state c then retired_in state (r ∷ rs) other else Some (retired.Key (key_at c row.0)))) [
        | Less ↦ λ _. refl
        | Equal ↦ λ tie.
            retired_if (live state r.0) (key_at r.0 row.0) (retired_in state rs other) (retired_key r.0 r.1 (retired_in state rs other))
            ∙ ap (λ (d : Cell). if live state d then retired_in state (r ∷ rs) other else Some (retired.Key (key_at d row.0))) (sym (cell_cmp_same c r.0 tie))
        | Greater ↦ λ _. refl
      ] refl

  found_if : (b : Bool) (k : Key) (o : Option Key) → cond b (retired_by o) (Some (retired.Key k)) ≡ retired_by (cond (not b) (Some k) o)
  found_if true k o = refl
  found_if false k o = refl

  -- the first entry of a cell that is live no longer is the first such entry
  pub retired_is : {A : Type 0} (key : A → Key) (stored : A → Stored) (xs : List A) → IsInOrder key xs
      → retired_in state (chains_by key stored xs) other ≡ retired_by (find (λ k. not (live state (cell_of k))) (map key xs))
  retired_is key stored [] order = refl
  retired_is key stored (x ∷ xs) order =
      ap (λ (t : Table Cell Chain). retired_in state t other) (front_is key stored x xs order)
      ∙ retired_front (chains_by key stored xs) (cell_of (key x)) ((key x).epoch, stored x)
      ∙ ap (λ (o : Option Retired). if live state (cell_of (key x)) then o else Some (retired.Key (key x))) (retired_is key stored xs order.1)
      ∙ found_if (live state (cell_of (key x))) (key x) (find (λ k. not (live state (cell_of k))) (map key xs))
