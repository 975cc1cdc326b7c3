-- The chains of entries in the order of their keys, with one entry more before the others.
use Rattle.std.proofs.Common.{◌≡◌, ◌≢◌, ℕ, true, cond, List, [], ◌∷◌, Some, refl, ap, ◌∙◌, arith}
use Rattle.std.specs.Prelude.{unwrap_or}
use Rattle.std.proofs.lemmas.Bool.Decides.{nat_tests}
use Rattle.std.specs.declared.cmp.Ordering.TheVariants.{Less, Equal, Greater}
use Rattle.std.specs.Ordering.{is_eq, match_ordering}
use Rattle.std.specs.BTreeMap.{insert_entry, is_at}
use Rattle.std.specs.Map.{lookup}
use Rattle.petal_base.specs.declared.cell.Cell.{Cell}
use Rattle.petal_base.specs.declared.cell.Key.{Key}
use Rattle.petal_base.specs.Cells.{cell_of}
use Rattle.petal_table.specs.Table.{Table, at, put}
use Rattle.spec_rules.specs.Store.{Chain, Stored, cell_cmp, chain_in}
use Rattle.physical_map.specs.Keys.{key_below, IsAbove, IsInOrder}
use Rattle.kept_chains.specs.Chains.{chains_by}
use Rattle.kept_chains.proofs.InOrder.{looked, new_first, none_below, both_first}
use Rattle.kept_chains.proofs.Puts.{IsSorted}
use Rattle.kept_chains.proofs.Chains.{well_by}

-- the chains with this row before all others: in the first chain, where that is of the same cell
abbrev pub in_front : Table Cell Chain → Cell → ℕ × Stored → Table Cell Chain
in_front [] c row = (c, row ∷ []) ∷ []
in_front (r ∷ rs) c row = match_ordering (cell_cmp c r.0) ((c, row ∷ []) ∷ r ∷ rs) ((r.0, row ∷ r.1) ∷ rs) ((c, row ∷ []) ∷ r ∷ rs)

-- no chain is of a cell before this one
abbrev NoneBefore : Cell → Table Cell Chain → Type 0
NoneBefore c [] = Unit {0}
NoneBefore c (r ∷ rs) = (cell_cmp c r.0 ≢ Greater) × NoneBefore c rs

before_inserted : (t : Table Cell Chain) (c d : Cell) (chain : Chain) → NoneBefore c t → cell_cmp c d ≢ Greater → NoneBefore c (insert_entry cell_cmp t d chain)
before_inserted [] c d chain none is = (is, tt)
before_inserted (r ∷ rs) c d chain none is =
    let rest = before_inserted rs c d chain none.1 is in
    elim (cell_cmp d r.0) as (λ o. NoneBefore c (match_ordering o ((d, chain) ∷ r ∷ rs) ((r.0, chain) ∷ rs) (r ∷ insert_entry cell_cmp rs d chain))) [
      | Less ↦ (is, none)
      | Equal ↦ (none.0, none.1)
      | Greater ↦ (none.0, rest)
    ]

before_put : (t : Table Cell Chain) (c d : Cell) (chain : Chain) → NoneBefore c t → cell_cmp c d ≢ Greater → NoneBefore c (put cell_cmp t d chain)
unfolding put
before_put t c d chain none is = before_inserted t c d chain none is

not_before : (k j : Key) → key_below k j ≡ true → cell_cmp (cell_of k) (cell_of j) ≢ Greater
not_before k j below is = grind (arith, nat_tests, below, is)

front_put : (t : Table Cell Chain) (c : Cell) (row : ℕ × Stored) → IsSorted cell_cmp t → NoneBefore c t
    → insert_entry cell_cmp t c (row ∷ looked c t) ≡ in_front t c row
front_put [] c row sorted none = refl
front_put (r ∷ rs) c row sorted none =
    elim (cell_cmp c r.0) as (λ o. cell_cmp c r.0 ≡ o
    → match_ordering o ((c, row ∷ looked c (r ∷ rs)) ∷ r ∷ rs) ((r.0, row ∷ looked c (r ∷ rs)) ∷ rs) (r ∷ insert_entry cell_cmp rs c (row ∷ looked c (r ∷ rs)))
    ≡ match_ordering o ((c, row ∷ []) ∷ r ∷ rs) ((r.0, row ∷ r.1) ∷ rs) ((c, row ∷ []) ∷ r ∷ rs)) [
      | Less ↦ λ less.
          let here : looked c (r ∷ rs) ≡ looked c rs = ap (λ o. unwrap_or (cond (is_eq o) (Some r.1) (lookup (is_at (cell_cmp c)) rs)) []) less in
          ap (λ (chain : Chain). (c, row ∷ chain) ∷ r ∷ rs) (here ∙ none_below c r.0 rs less (both_first _ _ sorted))
      | Equal ↦ λ tie.
          ap (λ (chain : Chain). (r.0, row ∷ chain) ∷ rs) (ap (λ o. unwrap_or (cond (is_eq o) (Some r.1) (lookup (is_at (cell_cmp c)) rs)) []) tie)
      | Greater ↦ λ more. absurd (none.0 more)
    ] refl

front_of : (t : Table Cell Chain) (c : Cell) (row : ℕ × Stored) → IsSorted cell_cmp t → NoneBefore c t
    → put cell_cmp t c (row ∷ chain_in t c) ≡ in_front t c row
unfolding put at
front_of t c row sorted none = front_put t c row sorted none

module _ {A : Type 0} (key : A → Key) (stored : A → Stored) where
  before_by : (k : Key) (xs : List A) → IsAbove key k xs → NoneBefore (cell_of k) (chains_by key stored xs)
  before_by k [] above = tt
  before_by k (x ∷ xs) above = before_put (chains_by key stored xs) (cell_of k) (cell_of (key x)) _ (before_by k xs above.1) (not_before k (key x) above.0)

  -- the first of them stands before the chains of the others
  pub front_is : (x : A) (xs : List A) → IsInOrder key (x ∷ xs)
      → chains_by key stored (x ∷ xs) ≡ in_front (chains_by key stored xs) (cell_of (key x)) ((key x).epoch, stored x)
  front_is x xs order =
      ap (put cell_cmp (chains_by key stored xs) (cell_of (key x))) (new_first key stored x xs order)
      ∙ front_of (chains_by key stored xs) (cell_of (key x)) ((key x).epoch, stored x) (well_by key stored xs).sorted (before_by (key x) xs order.0)
