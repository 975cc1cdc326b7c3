-- Chains of entries in the order of their keys: what a read finds, versions and counts.
use Rattle.std.proofs.Common.{◌&&◌, ◌≡◌, ◌≢◌, inl, inr, ℕ, ◌+◌, ◌≤◌, ◌<◌, Bool, true, false, cond, T, max, nat_lt, nat_le, List, [], ◌∷◌}
use Rattle.std.proofs.Common.{length, Option, Some, None, refl, sym, subst, ap, ◌∙◌, arith}
use Rattle.std.specs.Prelude.{unwrap_or, option_map}
use Rattle.std.proofs.lemmas.Bool.{cases_Bool}
use Rattle.std.proofs.lemmas.Bool.Decides.{nat_tests}
use Rattle.std.specs.declared.cmp.Ordering.{Ordering}
use Rattle.std.specs.declared.cmp.Ordering.TheVariants.{Less, Equal, Greater}
use Rattle.std.specs.Ordering.{nat_cmp, is_eq, is_lt, match_ordering}
use Rattle.std.specs.BTreeMap.{insert_entry, is_at}
use Rattle.std.specs.Map.{lookup}
use Rattle.std.specs.FinMap.Entries as rows
use Rattle.petal_base.specs.declared.cell.Cell.{Cell}
use Rattle.petal_base.specs.declared.cell.Key.{Key}
use Rattle.petal_base.specs.Cells.{cell_of}
use Rattle.petal_table.specs.Table.{Table, at, put}
use Rattle.petal_table.proofs.Rows.{at-empty}
use Rattle.spec_rules.specs.Store.{Chain, Stored, cell_cmp, chain_in, chains_with, entry_at, or_else, version_of, top_of, entries_of}
use Rattle.spec_rules.proofs.CellTables.{cell_cmp_total}
use Rattle.physical_map.specs.Entries.{in_cell}
use Rattle.physical_map.specs.Keys.{key_below, sees, later, newest, IsAbove, IsInOrder}
use Rattle.std.proofs.lemmas.List.Sums.{sum_by-cons}
use Rattle.kept_chains.specs.Chains.{chains_by, chain_by}
use Rattle.kept_chains.proofs.Puts.{IsSorted}
use Rattle.kept_chains.proofs.Chains.{chain_here, chain_apart, well_by}

is_less : (a b : ℕ) → a < b → nat_cmp a b ≡ Less
is_less a b h = grind (arith, nat_tests)

pub cell_in : (cell : Cell) (k : Key) → in_cell cell k ≡ true → cell ≡ cell_of k
cell_in cell k is = λ i. record { map = map_is i; block = block_is i }
  where
    map_is : cell.map ≡ k.map
    map_is = grind (arith, nat_tests)

    block_is : cell.block ≡ k.block
    block_is = grind (arith, nat_tests)

pub cell_out : (cell : Cell) (k : Key) → in_cell cell k ≡ false → cell ≢ cell_of k
cell_out cell k out e =
    let m : cell.map ≡ k.map = ap (λ (c : Cell). c.map) e in
    let n : cell.block ≡ k.block = ap (λ (c : Cell). c.block) e in
    grind (arith, nat_tests, m, n)

-- the first epoch of a chain is above
abbrev pub StartsAbove : ℕ → Chain → Type 0
StartsAbove e [] = Unit {0}
StartsAbove e (r ∷ rs) = e < r.0

put_front : (e : ℕ) (x : Stored) (chain : Chain) → StartsAbove e chain → put nat_cmp chain e x ≡ (e, x) ∷ chain
unfolding put
put_front e x [] above = refl
put_front e x (r ∷ rs) above = ap (λ o. match_ordering o ((e, x) ∷ r ∷ rs) ((r.0, x) ∷ rs) (r ∷ insert_entry nat_cmp rs e x)) (is_less e r.0 above)

epoch_above : (k j : Key) (cell : Cell) → key_below k j ≡ true → in_cell cell k ≡ true → in_cell cell j ≡ true → k.epoch < j.epoch
epoch_above k j cell below a b = grind (arith, nat_tests)

-- what stands at a cell, found row by row
abbrev pub looked : Cell → Table Cell Chain → Chain
looked c t = unwrap_or (lookup (is_at (cell_cmp c)) t) []

looked_le : (t : Table Cell Chain) (c : Cell) → version_of (looked c t) ≤ top_of t
looked_le [] c = omega arith
looked_le (r ∷ rs) c =
    let more = looked_le rs c in
    elim (is_eq (cell_cmp c r.0)) as (λ b. version_of (unwrap_or (cond b (Some r.1) (lookup (is_at (cell_cmp c)) rs)) []) ≤ max (version_of r.1) (top_of rs)) [
      | true ↦ omega arith
      | false ↦ omega (arith, more)
    ]

-- versions do not pass the greatest
pub version_le_top : (t : Table Cell Chain) (c : Cell) → version_of (chain_in t c) ≤ top_of t
unfolding at
version_le_top t c = looked_le t c

top_inserted : (t : Table Cell Chain) (c : Cell) (row : ℕ × Stored) (chain : Chain) → looked c t ≡ chain
    → top_of (insert_entry cell_cmp t c (row ∷ chain)) ≡ max row.1.version (top_of t)
top_inserted [] c row chain is = let none : 0 ≡ version_of chain = ap version_of is in omega (arith, none)
top_inserted (r ∷ rs) c row chain is =
    let rest = top_inserted rs c row chain in
    let least = looked_le rs c in
    elim (cell_cmp c r.0) as (λ o. unwrap_or (cond (is_eq o) (Some r.1) (lookup (is_at (cell_cmp c)) rs)) [] ≡ chain
    → top_of (match_ordering o ((c, row ∷ chain) ∷ r ∷ rs) ((r.0, row ∷ chain) ∷ rs) (r ∷ insert_entry cell_cmp rs c (row ∷ chain)))
    ≡ max row.1.version (max (version_of r.1) (top_of rs))) [
      | Less ↦ λ e. let same : version_of (looked c rs) ≡ version_of chain = ap version_of e in omega (arith, same, least)
      | Equal ↦ λ e. let same : version_of r.1 ≡ version_of chain = ap version_of e in omega (arith, same)
      | Greater ↦ λ e. let more = rest e in omega (arith, more)
    ] is

top_put : (t : Table Cell Chain) (c : Cell) (row : ℕ × Stored) → top_of (put cell_cmp t c (row ∷ chain_in t c)) ≡ max row.1.version (top_of t)
unfolding at put
top_put t c row = top_inserted t c row (looked c t) refl

less_is : (o : Ordering) → T (is_lt o) → o ≡ Less
less_is Less h = refl
less_is Equal h = absurd h
less_is Greater h = absurd h

pub both_first : (a b : Bool) → T (a && b) → T a
both_first true b h = tt
both_first false b h = h

both_second : (a b : Bool) → T (a && b) → T b
both_second true b h = h
both_second false b h = absurd h

pub none_below : (c e : Cell) (t : Table Cell Chain) → cell_cmp c e ≡ Less → T (rows.below_all cell_cmp e t) → looked c t ≡ []
none_below c e [] less h = refl
none_below c e (d ∷ ds) less h =
    let lower = cell_cmp_total.trans c e d.0 less (less_is _ (both_first _ _ h)) in
    ap (λ o. unwrap_or (cond (is_eq o) (Some d.1) (lookup (is_at (cell_cmp c)) ds)) []) lower ∙ none_below c e ds less (both_second _ _ h)

-- the entries of a table, row by row
abbrev pub counted : Table Cell Chain → ℕ
counted [] = 0
counted (r ∷ rs) = length r.1 + counted rs

counted_is : (t : Table Cell Chain) → entries_of t ≡ counted t
counted_is [] = refl
counted_is (r ∷ rs) = sum_by-cons (λ (row : Cell × Chain). length row.1) r rs ∙ ap (λ (n : ℕ). length r.1 + n) (counted_is rs)

count_inserted : (t : Table Cell Chain) (c : Cell) (row : ℕ × Stored) (chain : Chain) → IsSorted cell_cmp t → looked c t ≡ chain
    → counted (insert_entry cell_cmp t c (row ∷ chain)) ≡ 1 + counted t
count_inserted [] c row chain sorted is = let none : 0 ≡ length chain = ap length is in omega (arith, none)
count_inserted (r ∷ rs) c row chain sorted is =
    let rest = count_inserted rs c row chain (both_second _ _ sorted) in
    let none = none_below c r.0 rs in
    elim (cell_cmp c r.0) as (λ o. cell_cmp c r.0 ≡ o → unwrap_or (cond (is_eq o) (Some r.1) (lookup (is_at (cell_cmp c)) rs)) [] ≡ chain
    → counted (match_ordering o ((c, row ∷ chain) ∷ r ∷ rs) ((r.0, row ∷ chain) ∷ rs) (r ∷ insert_entry cell_cmp rs c (row ∷ chain)))
    ≡ 1 + (length r.1 + counted rs)) [
      | Less ↦ λ less e. let same : 0 ≡ length chain = ap length (sym (none less (both_first _ _ sorted)) ∙ e) in omega (arith, same)
      | Equal ↦ λ less e. let same : length r.1 ≡ length chain = ap length e in omega (arith, same)
      | Greater ↦ λ less e. let more = rest e in omega (arith, more)
    ] refl is

count_put : (t : Table Cell Chain) (c : Cell) (row : ℕ × Stored) → IsSorted cell_cmp t → counted (put cell_cmp t c (row ∷ chain_in t c)) ≡ 1 + counted t
unfolding at put
count_put t c row sorted = count_inserted t c row (looked c t) sorted refl

module _ {A : Type 0} (key : A → Key) (stored : A → Stored) where
  starts_above : (k : Key) (cell : Cell) (xs : List A) → in_cell cell k ≡ true → IsAbove key k xs → StartsAbove k.epoch (chain_by key stored cell xs)
  starts_above k cell [] own above = tt
  starts_above k cell (x ∷ xs) own above = elim (cases_Bool (in_cell cell (key x))) [
    | inl is ↦ rw is (epoch_above k (key x) cell above.0 own is)
    | inr is ↦ rw is (starts_above k cell xs own above.1)
  ]

  -- the chain of a cell has what stands at it
  pub chain_is : (xs : List A) (cell : Cell) → IsInOrder key xs → chain_in (chains_by key stored xs) cell ≡ chain_by key stored cell xs
  chain_is [] cell order = ap (λ (o : Option Chain). unwrap_or o []) (at-empty cell_cmp cell)
  chain_is (x ∷ xs) cell order =
      let t = chains_by key stored xs in
      let rest = chain_is xs cell order.1 in
      elim (cases_Bool (in_cell cell (key x))) [
        | inl is ↦ rw is
            (ap (chain_in (chains_with t (key x) (stored x))) (cell_in cell (key x) is) ∙ chain_here t (cell_of (key x)) (key x).epoch (stored x)
            ∙ ap (λ (chain : Chain). put nat_cmp chain (key x).epoch (stored x)) (ap (chain_in t) (sym (cell_in cell (key x) is)) ∙ rest)
            ∙ put_front (key x).epoch (stored x) (chain_by key stored cell xs) (starts_above (key x) cell xs is order.0))
        | inr is ↦ rw is (chain_apart t (cell_of (key x)) (key x).epoch (stored x) cell (cell_out cell (key x) is) ∙ rest)
      ]

  in_own : (k : Key) → in_cell (cell_of k) k ≡ true
  in_own k = grind (arith, nat_tests)

  -- the first entry's row stands before those of its cell
  pub new_first : (x : A) (xs : List A) → IsInOrder key (x ∷ xs) → put nat_cmp (chain_in (chains_by key stored xs) (cell_of (key x))) (key x).epoch
      (stored x) ≡ ((key x).epoch, stored x) ∷ chain_in (chains_by key stored xs) (cell_of (key x))
  new_first x xs order =
      let own = chain_is xs (cell_of (key x)) order.1 in
      rw own (put_front (key x).epoch (stored x) _ (starts_above (key x) (cell_of (key x)) xs (in_own (key x)) order.0))

  pub top_is : (x : A) (xs : List A) → IsInOrder key (x ∷ xs)
      → top_of (chains_by key stored (x ∷ xs)) ≡ max (stored x).version (top_of (chains_by key stored xs))
  top_is x xs order = rw (new_first x xs order) (top_put (chains_by key stored xs) (cell_of (key x)) ((key x).epoch, stored x))

  counted_by : (xs : List A) → IsInOrder key xs → counted (chains_by key stored xs) ≡ length xs
  counted_by [] order = refl
  counted_by (x ∷ xs) order =
      let t = chains_by key stored xs in
      let rest = counted_by xs order.1 in
      rw (new_first x xs order) (count_put t (cell_of (key x)) ((key x).epoch, stored x) (well_by key stored xs).sorted ∙ omega (arith, rest))

  -- each entry has its place
  pub count_is : (xs : List A) → IsInOrder key xs → entries_of (chains_by key stored xs) ≡ length xs
  count_is xs order = counted_is (chains_by key stored xs) ∙ counted_by xs order

  later_of : (x : A) (o : Option A) → ((y : A) → o ≡ Some y → (key x).epoch < (key y).epoch)
      → Some (or_else (option_map stored o) (stored x)) ≡ option_map stored (later key (Some x) o)
  later_of x None up = refl
  later_of x (Some y) up = let less = up y refl in grind (arith, nat_tests, less)

  joined_above : (k : Key) (x y : A) (o : Option A) → key_below k (key x) ≡ true → (o ≡ Some y → key_below k (key y) ≡ true)
      → later key (Some x) o ≡ Some y → key_below k (key y) ≡ true
  joined_above k x y None up rest is = grind (arith, nat_tests)
  joined_above k x y (Some z) up rest is = elim (cases_Bool (nat_lt (key x).epoch (key z).epoch)) [
    | inl less ↦ rest (rw less at is)
    | inr less ↦ let same : x ≡ y = (let e : Some x ≡ Some y = rw less at is in cc) in subst (λ (a : A). key_below k (key a) ≡ true) same up
  ]

  newest_above : (k j : Key) (xs : List A) (y : A) → IsAbove key k xs → newest key j xs ≡ Some y → key_below k (key y) ≡ true
  newest_above k j [] y above is = absurd (cc)
  newest_above k j (x ∷ xs) y above is = elim (cases_Bool (sees j (key x))) [
    | inl seen ↦ joined_above k x y (newest key j xs) above.0 (newest_above k j xs y above.1) (rw seen at is)
    | inr seen ↦ newest_above k j xs y above.1 (rw seen at is)
  ]

  joined_seen : (j : Key) (x y : A) (o : Option A) → sees j (key x) ≡ true → (o ≡ Some y → sees j (key y) ≡ true)
      → later key (Some x) o ≡ Some y → sees j (key y) ≡ true
  joined_seen j x y None own rest is = let same : x ≡ y = cc in subst (λ (a : A). sees j (key a) ≡ true) same own
  joined_seen j x y (Some z) own rest is = elim (cases_Bool (nat_lt (key x).epoch (key z).epoch)) [
    | inl less ↦ rest (rw less at is)
    | inr less ↦ let same : x ≡ y = (let e : Some x ≡ Some y = rw less at is in cc) in subst (λ (a : A). sees j (key a) ≡ true) same own
  ]

  newest_seen : (j : Key) (xs : List A) (y : A) → newest key j xs ≡ Some y → sees j (key y) ≡ true
  newest_seen j [] y is = absurd (cc)
  newest_seen j (x ∷ xs) y is = elim (cases_Bool (sees j (key x))) [
    | inl seen ↦ joined_seen j x y (newest key j xs) seen (newest_seen j xs y) (rw seen at is)
    | inr seen ↦ newest_seen j xs y (rw seen at is)
  ]

  later_epoch : (k a b : Key) → sees k a ≡ true → sees k b ≡ true → key_below a b ≡ true → a.epoch < b.epoch
  later_epoch k a b sa sb below = grind (arith, nat_tests)

  past : (k a b : Key) → in_cell (cell_of k) a ≡ true → nat_le a.epoch k.epoch ≡ false → key_below a b ≡ true → sees k b ≡ false
  past k a b own above below = grind (arith, nat_tests)

  none_past : (k a : Key) (xs : List A) → in_cell (cell_of k) a ≡ true → nat_le a.epoch k.epoch ≡ false → IsAbove key a xs → newest key k xs ≡ None
  none_past k a [] own late above = refl
  none_past k a (x ∷ xs) own late above = rw (past k a (key x) own late above.0) (none_past k a xs own late above.1)

  sees_is : (k a : Key) → sees k a ≡ (in_cell (cell_of k) a && nat_le a.epoch k.epoch)
  sees_is k a = grind (arith, nat_tests)

  -- a read of the list and one of its cell's chain find the same
  pub entry_by : (xs : List A) (k : Key) → IsInOrder key xs → entry_at (chain_by key stored (cell_of k) xs) k.epoch ≡ option_map stored (newest key k xs)
  entry_by [] k order = refl
  entry_by (x ∷ xs) k order =
      let rest = entry_by xs k order.1 in
      elim (cases_Bool (in_cell (cell_of k) (key x))) [
        | inl is ↦ elim (cases_Bool (nat_le (key x).epoch k.epoch)) [
          | inl le ↦
              let seen : sees k (key x) ≡ true = rw (sees_is k (key x), is, le) refl in
              rw (is, le, rest) (later_of x (newest key k xs)
              (λ y found. later_epoch k (key x) (key y) seen (newest_seen k xs y found) (newest_above (key x) k xs y order.0 found)))
          | inr le ↦
              rw (is, le) (ap (option_map stored) (sym (none_past k (key x) xs is le order.0)))
        ]
        | inr is ↦ rw is rest
      ]

  pub entry_is : (xs : List A) (k : Key) → IsInOrder key xs
      → entry_at (chain_in (chains_by key stored xs) (cell_of k)) k.epoch ≡ option_map stored (newest key k xs)
  entry_is xs k order = ap (λ (chain : Chain). entry_at chain k.epoch) (chain_is xs (cell_of k) order) ∙ entry_by xs k order
