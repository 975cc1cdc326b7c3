-- What is to be dropped next, found among the entries in their order.
use Rattle.std.proofs.Common.{◌≡◌, ℕ, ◌||◌, Bool, true, false, not, List, [], ◌∷◌, map, find, Option, Some}
use Rattle.std.proofs.Common.{None, refl, sym, ap, ◌∙◌, inl, inr, arith}
use Rattle.std.proofs.lemmas.Bool.{cases_Bool}
use Rattle.std.proofs.lemmas.Bool.Decides.{nat_tests}
use Rattle.std.specs.Prelude.{nat_eq}
use Rattle.std.specs.List.{list_any}
use Rattle.busy_marks.specs.declared.marks.Mark.{Mark}
use Rattle.petal_base.specs.declared.cell.Key.{Key}
use Rattle.petal_base.specs.Cells.{cell_of}
use Rattle.petal_msg.specs.declared.retired.Retired.TheVariants as retired
use Rattle.spec_rules.specs.State.{State, live}
use Rattle.spec_rules.specs.Store.{chain_in, epochs_of}
use Rattle.spec_rules.specs.Sweeping.{retired_mark, next_retired}
use Rattle.physical_map.specs.declared.entry.Entry.{Entry}
use Rattle.physical_map.specs.Entries.{chain_of, in_cell}
use Rattle.physical_map.specs.Keys.{IsInOrder}
use Rattle.server_store.specs.Holdings.{Held, Holdings, key_held, listed}
use Rattle.kept_chains.specs.Kept.{chains_of, store_of, stored_of}
use Rattle.kept_chains.proofs.Walks.{epochs_is}
use Rattle.redistribute.specs.Swept.{first_retired}
use Rattle.redistribute.proofs.FirstRetired.{retired_by, retired_is}

module _ (state : State) where
  abbrev is_retired : Key → Bool
  is_retired k = not (live state (cell_of k))

  find_listed : (es : List Held) → find is_retired (map key_held es) ≡ first_retired state (listed es)
  find_listed [] = refl
  find_listed (e ∷ es) = elim (cases_Bool (live state (cell_of e.entry.key))) [
    | inl is ↦ rw is (find_listed es)
    | inr is ↦ rw is refl
  ]

  pub retired_found : {D : Type 0} (s : Holdings D) → IsInOrder key_held s.entries
      → next_retired state (store_of s) ≡ retired_by state (retired_mark state s.marks) (first_retired state (listed s.entries))
  unfolding next_retired
  retired_found s order =
      retired_is state (retired_mark state s.marks) key_held stored_of s.entries order
      ∙ ap (retired_by state (retired_mark state s.marks)) (find_listed s.entries)

  no_key : (ms : List Mark) (k : Key) → retired_mark state ms ≡ Some (retired.Key k) → ⊥
  no_key [] k is = absurd (cc)
  no_key (m ∷ ms) k is = elim (cases_Bool (live state m.cell)) [
    | inl lives ↦ no_key ms k (rw lives at is)
    | inr dies ↦ absurd (let e : Some (retired.Mark m.kind m.cell) ≡ Some (retired.Key k) = rw dies at is in cc)
  ]

  key_by : (ms : List Mark) (o : Option Key) (k : Key) → retired_by state (retired_mark state ms) o ≡ Some (retired.Key k) → o ≡ Some k
  key_by ms None k is = absurd (no_key ms k is)
  key_by ms (Some j) k is = cc

  in_own : (k : Key) → in_cell (cell_of k) k ≡ true
  in_own k = grind (arith, nat_tests)

  or_true : (a b : Bool) → b ≡ true → (a || b) ≡ true
  or_true true b is = refl
  or_true false b is = is

  abbrev epochs : List Entry → List ℕ
  epochs es = map (λ (e : Entry). e.key.epoch) es

  there_more : (e : Entry) (es : List Entry) (k : Key) → list_any (nat_eq k.epoch) (epochs (chain_of (cell_of k) es)) ≡ true
      → list_any (nat_eq k.epoch) (epochs (chain_of (cell_of k) (e ∷ es))) ≡ true
  there_more e es k is = elim (cases_Bool (in_cell (cell_of k) e.key)) [
    | inl here ↦ rw here (or_true (nat_eq k.epoch e.key.epoch) _ is)
    | inr out ↦ rw out is
  ]

  same_epoch : (n : ℕ) → nat_eq n n ≡ true
  same_epoch n = grind (arith, nat_tests)

  there_first : (e : Entry) (es : List Entry) → list_any (nat_eq e.key.epoch) (epochs (chain_of (cell_of e.key) (e ∷ es))) ≡ true
  there_first e es = rw (in_own e.key, same_epoch e.key.epoch) refl

  there : (es : List Entry) (k : Key) → first_retired state es ≡ Some k → list_any (nat_eq k.epoch) (epochs (chain_of (cell_of k) es)) ≡ true
  there [] k is = absurd (cc)
  there (e ∷ es) k is = elim (cases_Bool (live state (cell_of e.key))) [
    | inl lives ↦ there_more e es k (there es k (rw lives at is))
    | inr dies ↦
        let same : e.key ≡ k = (let found : Some e.key ≡ Some k = rw dies at is in cc) in
        ap (λ (j : Key). list_any (nat_eq j.epoch) (epochs (chain_of (cell_of j) (e ∷ es)))) (sym same) ∙ there_first e es
  ]

  -- a key that is to be dropped is there
  pub retired_there : {D : Type 0} (s : Holdings D) (k : Key) → IsInOrder key_held s.entries → next_retired state (store_of s) ≡ Some (retired.Key k)
      → list_any (nat_eq k.epoch) (epochs_of (chain_in (chains_of s.entries) (cell_of k))) ≡ true
  retired_there s k order is =
      let first = key_by s.marks (first_retired state (listed s.entries)) k (sym (retired_found s order) ∙ is) in
      ap (list_any (nat_eq k.epoch)) (sym (epochs_is s.entries (cell_of k) order)) ∙ there (listed s.entries) k first
