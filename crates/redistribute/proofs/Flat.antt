-- The keys of chains as those of the entries in their order.
use Rattle.std.proofs.Common.{◌≡◌, ℕ, Bool, true, false, cond, List, [], ◌∷◌, ◌++◌, filter, map}
use Rattle.std.proofs.Common.{refl, sym, ap, ◌∙◌, inl, inr}
use Rattle.std.proofs.lemmas.Bool.{cases_Bool}
use Rattle.std.proofs.lemmas.List.Concat.{flat_map-cons}
use Rattle.std.specs.Prelude.{if◌then◌else◌}
use Rattle.std.specs.List.{flat_map}
use Rattle.std.specs.declared.cmp.Ordering.TheVariants.{Less, Equal, Greater}
use Rattle.std.specs.Ordering.{match_ordering}
use Rattle.petal_base.specs.declared.cell.Cell.{Cell}
use Rattle.petal_base.specs.declared.cell.Key.{Key}
use Rattle.petal_base.specs.Cells.{cell_of, key_at}
use Rattle.petal_table.specs.Table.{Table}
use Rattle.spec_rules.specs.Fills.{keys_of}
use Rattle.spec_rules.specs.Store.{Chain, Stored, cell_cmp}
use Rattle.spec_rules.proofs.CellTables.{cell_cmp_same}
use Rattle.physical_map.specs.Keys.{IsInOrder}
use Rattle.kept_chains.specs.Chains.{chains_by}
use Rattle.kept_chains.proofs.Fronts.{front_is, in_front}

module _ (keep : Cell → Bool) where
  -- the keys of the chains that are kept, chain by chain
  abbrev pub flat : Table Cell Chain → List Key
  flat [] = []
  flat (r ∷ rs) = if keep r.0 then keys_of r ++ flat rs else flat rs

  flat_is : (t : Table Cell Chain) → flat_map keys_of (filter (λ held. keep held.0) t) ≡ flat t
  flat_is [] = refl
  flat_is (r ∷ rs) = elim (cases_Bool (keep r.0)) [
    | inl is ↦ rw is (flat_map-cons keys_of r (filter (λ held. keep held.0) rs) ∙ ap (λ (l : List Key). keys_of r ++ l) (flat_is rs))
    | inr is ↦ rw is (flat_is rs)
  ]

  more_if : (b : Bool) (k : Key) (ks l : List Key) → cond b ((k ∷ ks) ++ l) l ≡ cond b (k ∷ cond b (ks ++ l) l) (cond b (ks ++ l) l)
  more_if true k ks l = refl
  more_if false k ks l = refl

  flat_front : (t : Table Cell Chain) (c : Cell) (row : ℕ × Stored) → flat (in_front t c row) ≡ (if keep c then key_at c row.0 ∷ flat t else flat t)
  flat_front [] c row = elim (keep c) as (λ b. cond b ((key_at c row.0 ∷ []) ++ []) [] ≡ cond b (key_at c row.0 ∷ []) []) [ true ↦ refl | false ↦ refl ]
  flat_front (r ∷ rs) c row =
      elim (cell_cmp c r.0) as (λ o. cell_cmp c r.0 ≡ o
      → flat (match_ordering o ((c, row ∷ []) ∷ r ∷ rs) ((r.0, row ∷ r.1) ∷ rs) ((c, row ∷ []) ∷ r ∷ rs))
      ≡ (if keep c then key_at c row.0 ∷ flat (r ∷ rs) else flat (r ∷ rs))) [
        | Less ↦ λ _. refl
        | Equal ↦ λ tie.
            more_if (keep r.0) (key_at r.0 row.0) (keys_of r) (flat rs)
            ∙ ap (λ (d : Cell). if keep d then key_at d row.0 ∷ flat (r ∷ rs) else flat (r ∷ rs)) (sym (cell_cmp_same c r.0 tie))
        | Greater ↦ λ _. refl
      ] refl

  flat_by : {A : Type 0} (key : A → Key) (stored : A → Stored) (xs : List A) → IsInOrder key xs
      → flat (chains_by key stored xs) ≡ filter (λ k. keep (cell_of k)) (map key xs)
  flat_by key stored [] order = refl
  flat_by key stored (x ∷ xs) order =
      ap flat (front_is key stored x xs order)
      ∙ flat_front (chains_by key stored xs) (cell_of (key x)) ((key x).epoch, stored x)
      ∙ ap (λ (l : List Key). if keep (cell_of (key x)) then key x ∷ l else l) (flat_by key stored xs order.1)

  -- the keys of the chains that are kept are those of the entries that are
  pub keys_are : {A : Type 0} (key : A → Key) (stored : A → Stored) (xs : List A) → IsInOrder key xs
      → flat_map keys_of (filter (λ held. keep held.0) (chains_by key stored xs)) ≡ filter (λ k. keep (cell_of k)) (map key xs)
  keys_are key stored xs order = flat_is (chains_by key stored xs) ∙ flat_by key stored xs order
