-- The first key that is left, by block and of one block by falling epoch, is found among the entries in their order.
use Rattle.std.proofs.Common.{◌≡◌, ◌⊎◌, inl, inr, ℕ, ◌<◌, ◌-◌, ◌==◌, ◌&&◌, Bool, true, false, cond, List, [], ◌∷◌, filter, map, find}
use Rattle.std.proofs.Common.{option_map, Option, Some, None, refl, sym, subst, ap, ◌∙◌, arith}
use Rattle.std.proofs.lemmas.Bool.{cases_Bool}
use Rattle.std.proofs.lemmas.Bool.Decides.{nat_tests}
use Rattle.global_tables.specs.Region.{region_of}
use Rattle.global_tables.specs.declared.link.LinkRow.{LinkRow}
use Rattle.petal_base.specs.declared.cell.Cell.{Cell}
use Rattle.petal_base.specs.declared.cell.Key.{Key}
use Rattle.petal_base.specs.Cells.{cell_of}
use Rattle.petal_command.proofs.Equal.{both_left, both_right}
use Rattle.spec_rules.specs.Fills.{comes_before, comes_next, earlier, first_key}
use Rattle.spec_rules.specs.State.{State, is_on}
use Rattle.physical_map.specs.declared.entry.Entry.{Entry}
use Rattle.physical_map.specs.Entries.{above, chain_of, in_cell, key_of, map_entries}
use Rattle.physical_map.specs.Keys.{key_below, IsAbove, IsInOrder}
use Rattle.server_store.specs.Holdings.{Held, key_held, listed}
use Rattle.kept_chains.specs.Kept.{chains_of, stored_of}
use Rattle.kept_chains.proofs.InOrder.{cell_in}
use Rattle.pair_memory.proofs.Linked.{on_map}
use Rattle.redistribute.specs.Next.{first_left, is_left, is_of, last_left, next_after, none_below, or_key}
use Rattle.redistribute.proofs.Flat.{keys_are}

abbrev own : Key → Key
own key = key

-- the first key of a cell
abbrev first_of : Cell → Key
first_of cell = record { map = cell.map; block = cell.block; epoch = 0 }

module _ (state : State) (row : LinkRow) (region : ℕ) (last : Option Key) where
  abbrev left : Key → Bool
  left key = is_left state row region last key

  abbrev keep : Cell → Bool
  keep cell = is_of state row region cell

  -- what the rule finds among keys
  abbrev pub ruled : List Key → Option Key
  ruled ks = first_key (filter (comes_next region last) (filter (λ k. keep (cell_of k)) ks))

  abbrev last_key : List Key → Option Key
  last_key [] = None
  last_key (k ∷ ks) = or_key (last_key ks) (comes_next region last k) k

  -- the last key of the cell that is after the last one
  abbrev pub last_in : Cell → List Key → Option Key
  last_in cell ks = last_key (filter (in_cell cell) ks)

  ruled_yes : (x : Key) (xs : List Key) → left x ≡ true → ruled (x ∷ xs) ≡ Some (earlier x (ruled xs))
  ruled_yes x xs is =
      let kept : keep (cell_of x) ≡ true = both_left (keep (cell_of x)) (comes_next region last x) is in
      let next : comes_next region last x ≡ true = both_right (keep (cell_of x)) (comes_next region last x) is in
      rw (kept, next) refl

  ruled_no : (x : Key) (xs : List Key) → left x ≡ false → ruled (x ∷ xs) ≡ ruled xs
  ruled_no x xs is = elim (cases_Bool (keep (cell_of x))) [
    | inl kept ↦ let next : comes_next region last x ≡ false = rw kept at is in rw (kept, next) refl
    | inr kept ↦ rw kept refl
  ]

  -- each key that is left has the property
  abbrev AllLeft : (Key → Type 0) → List Key → Type 0
  AllLeft Q [] = Unit {0}
  AllLeft Q (k ∷ ks) = (left k ≡ true → Q k) × AllLeft Q ks

  earlier_is : (x : Key) (o : Option Key) (j : Key) → Some (earlier x o) ≡ Some j → (x ≡ j) ⊎ (o ≡ Some j)
  earlier_is x None j is = inl (cc)
  earlier_is x (Some y) j is = elim (cases_Bool (comes_before y x)) [
    | inl before ↦ inr (rw before at is)
    | inr before ↦ inl (let e : Some x ≡ Some j = rw before at is in cc)
  ]

  -- so has the one that is found
  ruled_in : (Q : Key → Type 0) (ks : List Key) → AllLeft Q ks → (j : Key) → ruled ks ≡ Some j → Q j
  ruled_in Q [] all j is = absurd (cc)
  ruled_in Q (x ∷ xs) all j is = elim (cases_Bool (left x)) [
    | inl has ↦ elim (earlier_is x (ruled xs) j (sym (ruled_yes x xs has) ∙ is)) [
      | inl same ↦ subst Q same (all.0 has)
      | inr later ↦ ruled_in Q xs all.1 j later
    ]
    | inr lacks ↦ ruled_in Q xs all.1 j (sym (ruled_no x xs lacks) ∙ is)
  ]

  above_left : (k : Key) (ks : List Key) → IsAbove own k ks → AllLeft (λ j. key_below k j ≡ true) ks
  above_left k [] above = tt
  above_left k (x ∷ xs) above = ((λ _. above.0), above_left k xs above.1)

  or_is : (o : Option Key) (b : Bool) (x j : Key) → or_key o b x ≡ Some j → (x ≡ j) ⊎ (o ≡ Some j)
  or_is None true x j is = inl (cc)
  or_is None false x j is = absurd (cc)
  or_is (Some y) b x j is = inr is

  or_none : (o : Option Key) (x : Key) → or_key o true x ≡ None → ⊥
  or_none None x is = absurd (cc)
  or_none (Some y) x is = absurd (cc)

  or_same : (o : Option Key) (x : Key) → or_key o false x ≡ o
  or_same None x = refl
  or_same (Some y) x = refl

  last_own : (cell : Cell) (x : Key) (xs : List Key) → in_cell cell x ≡ true → last_in cell (x ∷ xs) ≡ or_key (last_in cell xs) (comes_next region last x) x
  last_own cell x xs is = rw is refl

  last_other : (cell : Cell) (x : Key) (xs : List Key) → in_cell cell x ≡ false → last_in cell (x ∷ xs) ≡ last_in cell xs
  last_other cell x xs is = rw is refl

  -- the last one of a cell is of the cell
  last_is_in : (cell : Cell) (ks : List Key) (j : Key) → last_in cell ks ≡ Some j → in_cell cell j ≡ true
  last_is_in cell [] j is = absurd (cc)
  last_is_in cell (x ∷ xs) j is = elim (cases_Bool (in_cell cell x)) [
    | inl here ↦ elim (or_is (last_in cell xs) (comes_next region last x) x j (sym (last_own cell x xs here) ∙ is)) [
      | inl same ↦ ap (in_cell cell) (sym same) ∙ here
      | inr later ↦ last_is_in cell xs j later
    ]
    | inr out ↦ last_is_in cell xs j (sym (last_other cell x xs out) ∙ is)
  ]

  -- ### From the first key of a cell on

  abbrev AllFrom : Cell → List Key → Type 0
  AllFrom cell [] = Unit {0}
  AllFrom cell (k ∷ ks) = (key_below k (first_of cell) ≡ false) × AllFrom cell ks

  no_more : (cell : Cell) (k l : Key) → key_below k (first_of cell) ≡ false → in_cell cell k ≡ false → key_below k l ≡ true → in_cell cell l ≡ false
  no_more cell k l from out rises = grind (arith, nat_tests)

  none_later : (cell : Cell) (k : Key) (ks : List Key) → key_below k (first_of cell) ≡ false → in_cell cell k ≡ false
      → IsAbove own k ks → last_in cell ks ≡ None
  none_later cell k [] from out above = refl
  none_later cell k (x ∷ xs) from out above = last_other cell x xs (no_more cell k x from out above.0) ∙ none_later cell k xs from out above.1

  past_block : (cell : Cell) (k : Key) → key_below k (first_of cell) ≡ false → in_cell cell k ≡ false → k.map ≡ cell.map → cell.block < k.block
  past_block cell k from out same = grind (arith, nat_tests, same)

  past_later : (cell : Cell) (k l : Key) → key_below k (first_of cell) ≡ false → in_cell cell k ≡ false → key_below k l ≡ true
      → l.map ≡ cell.map → cell.block < l.block
  past_later cell k l from out rises same = grind (arith, nat_tests, same)

  left_map : (cell : Cell) (k : Key) → keep cell ≡ true → left k ≡ true → k.map ≡ cell.map
  left_map cell k kept is =
      let here = both_left (keep (cell_of k)) (comes_next region last k) is in
      on_map state row (cell_of k) (both_left (is_on state row (cell_of k)) (region_of k.block == region) here)
      ∙ sym (on_map state row cell (both_left (is_on state row cell) (region_of cell.block == region) kept))

  later_past : (cell : Cell) (k : Key) (ks : List Key) → keep cell ≡ true → key_below k (first_of cell) ≡ false → in_cell cell k ≡ false → IsAbove own k ks
      → AllLeft (λ j. cell.block < j.block) ks
  later_past cell k [] kept from out above = tt
  later_past cell k (x ∷ xs) kept from out above =
      ((λ is. past_later cell k x from out above.0 (left_map cell x kept is)), later_past cell k xs kept from out above.1)

  -- either none of the cell is left, and what is found is of a later block, or the last one of the cell is found
  abbrev Split : Cell → List Key → Type 0
  Split cell ks =
      ((last_in cell ks ≡ None) × ((j : Key) → ruled ks ≡ Some j → cell.block < j.block))
      ⊎ ((j : Key) × (last_in cell ks ≡ Some j) × (ruled ks ≡ Some j))

  not_before : (x y : Key) → x.block < y.block → comes_before y x ≡ false
  not_before x y less = grind (arith, nat_tests, less)

  earlier_past : (x : Key) (cell : Cell) (o : Option Key) → x.block ≡ cell.block → ((j : Key) → o ≡ Some j → cell.block < j.block) → earlier x o ≡ x
  earlier_past x cell None same past = refl
  earlier_past x cell (Some y) same past =
      let less = past y refl in
      let further : x.block < y.block = grind (arith, same, less) in
      ap (λ b. cond b y x) (not_before x y further)

  before_in : (cell : Cell) (x j : Key) → in_cell cell x ≡ true → in_cell cell j ≡ true → key_below x j ≡ true → comes_before j x ≡ true
  before_in cell x j here there rises = grind (arith, nat_tests, here, there, rises)

  block_in : (cell : Cell) (x : Key) → in_cell cell x ≡ true → x.block ≡ cell.block
  block_in cell x here = grind (arith, nat_tests, here)

  kept_in : (cell : Cell) (x : Key) → keep cell ≡ true → in_cell cell x ≡ true → keep (cell_of x) ≡ true
  kept_in cell x kept here = ap keep (sym (cell_in cell x here)) ∙ kept

  left_in : (cell : Cell) (x : Key) → keep cell ≡ true → in_cell cell x ≡ true → left x ≡ comes_next region last x
  left_in cell x kept here = rw (kept_in cell x kept here) refl

  split_next : (cell : Cell) (x : Key) (xs : List Key) → keep cell ≡ true → IsAbove own x xs → in_cell cell x ≡ true → comes_next region last x ≡ true
      → Split cell xs → Split cell (x ∷ xs)
  split_next cell x xs kept above here next rest =
      let has : left x ≡ true = left_in cell x kept here ∙ next in
      let lasts : last_in cell (x ∷ xs) ≡ or_key (last_in cell xs) true x = last_own cell x xs here ∙ ap (λ b. or_key (last_in cell xs) b x) next in
      elim rest [
        | inl none ↦ inr (
          x,
          (lasts ∙ ap (λ o. or_key o true x) none.0),
          (ruled_yes x xs has ∙ ap (λ (k : Key). Some k) (earlier_past x cell (ruled xs) (block_in cell x here) none.1)),
        )
        | inr some ↦
            let rises : key_below x some.0 ≡ true = ruled_in (λ j. key_below x j ≡ true) xs (above_left x xs above) some.0 some.2 in
            let before = before_in cell x some.0 here (last_is_in cell xs some.0 some.1) rises in
            inr (
              some.0,
              (lasts ∙ ap (λ o. or_key o true x) some.1),
              (ruled_yes x xs has ∙ ap (λ o. Some (earlier x o)) some.2 ∙ ap (λ b. Some (cond b some.0 x)) before),
            )
      ]

  split_same : (cell : Cell) (x : Key) (xs : List Key) → last_in cell (x ∷ xs) ≡ last_in cell xs → ruled (x ∷ xs) ≡ ruled xs
      → Split cell xs → Split cell (x ∷ xs)
  split_same cell x xs lasts rules rest = elim rest [
    | inl none ↦ inl ((lasts ∙ none.0), λ j is. none.1 j (sym rules ∙ is))
    | inr some ↦ inr (some.0, (lasts ∙ some.1), (rules ∙ some.2))
  ]

  split : (cell : Cell) → keep cell ≡ true → (ks : List Key) → IsInOrder own ks → AllFrom cell ks → Split cell ks
  split cell kept [] order from = inl (refl, λ j is. absurd (cc))
  split cell kept (x ∷ xs) order from = elim (cases_Bool (in_cell cell x)) [
    | inl here ↦
        let rest = split cell kept xs order.1 from.1 in
        elim (cases_Bool (comes_next region last x)) [
          | inl next ↦ split_next cell x xs kept order.0 here next rest
          | inr not ↦
              split_same cell x xs
              (last_own cell x xs here ∙ ap (λ b. or_key (last_in cell xs) b x) not ∙ or_same (last_in cell xs) x)
              (ruled_no x xs (left_in cell x kept here ∙ not)) rest
        ]
    | inr out ↦
        let all : AllLeft (λ j. cell.block < j.block) (x ∷ xs) =
        ((λ is. past_block cell x from.0 out (left_map cell x kept is)), later_past cell x xs kept from.0 out order.0) in
        inl ((last_other cell x xs out ∙ none_later cell x xs from.0 out order.0), ruled_in (λ j. cell.block < j.block) (x ∷ xs) all)
  ]

  -- ### As it is searched for

  abbrev pub found : Option Key → List Key → Option Key
  found None ks = None
  found (Some first) ks = last_in (cell_of first) ks

  from_own : (k : Key) → key_below k (first_of (cell_of k)) ≡ false
  from_own k = grind (arith, nat_tests)

  from_later : (k l : Key) → key_below k l ≡ true → key_below l (first_of (cell_of k)) ≡ false
  from_later k l rises = grind (arith, nat_tests, rises)

  all_from : (k : Key) (ks : List Key) → IsAbove own k ks → AllFrom (cell_of k) ks
  all_from k [] above = tt
  all_from k (x ∷ xs) above = (from_later k x above.0, all_from k xs above.1)

  found_has : (ks : List Key) (f : Key) → find left ks ≡ Some f → left f ≡ true
  found_has [] f is = absurd (cc)
  found_has (x ∷ xs) f is = elim (cases_Bool (left x)) [
    | inl has ↦ let same : x ≡ f = (let e : Some x ≡ Some f = rw has at is in cc) in ap left (sym same) ∙ has
    | inr lacks ↦ found_has xs f (rw lacks at is)
  ]

  more : (x f : Key) (xs : List Key) → left x ≡ false → left f ≡ true → last_in (cell_of f) xs ≡ last_in (cell_of f) (x ∷ xs)
  more x f xs lacks has = elim (cases_Bool (in_cell (cell_of f) x)) [
    | inl here ↦
        let kept = both_left (keep (cell_of f)) (comes_next region last f) has in
        let not : comes_next region last x ≡ false = sym (left_in (cell_of f) x kept here) ∙ lacks in
        sym (last_own (cell_of f) x xs here ∙ ap (λ b. or_key (last_in (cell_of f) xs) b x) not ∙ or_same (last_in (cell_of f) xs) x)
    | inr out ↦ sym (last_other (cell_of f) x xs out)
  ]

  found_more : (x : Key) (xs : List Key) (o : Option Key) → left x ≡ false → find left xs ≡ o → found o xs ≡ found o (x ∷ xs)
  found_more x xs None lacks is = refl
  found_more x xs (Some f) lacks is = more x f xs lacks (found_has xs f is)

  first_split : (x : Key) (xs : List Key) → left x ≡ true → Split (cell_of x) (x ∷ xs) → in_cell (cell_of x) x ≡ true
      → ruled (x ∷ xs) ≡ last_in (cell_of x) (x ∷ xs)
  first_split x xs has parts here =
      let next = both_right (keep (cell_of x)) (comes_next region last x) has in
      let lasts : last_in (cell_of x) (x ∷ xs) ≡ or_key (last_in (cell_of x) xs) true x =
      last_own (cell_of x) x xs here ∙ ap (λ b. or_key (last_in (cell_of x) xs) b x) next in
      elim parts [
        | inl none ↦ absurd (or_none (last_in (cell_of x) xs) x (sym lasts ∙ none.0))
        | inr some ↦ some.2 ∙ sym some.1
      ]

  in_own : (k : Key) → in_cell (cell_of k) k ≡ true
  in_own k = grind (arith, nat_tests)

  pub first_is : (ks : List Key) → IsInOrder own ks → ruled ks ≡ found (find left ks) ks
  first_is [] order = refl
  first_is (x ∷ xs) order = elim (cases_Bool (left x)) [
    | inl has ↦
        let kept = both_left (keep (cell_of x)) (comes_next region last x) has in
        first_split x xs has (split (cell_of x) kept (x ∷ xs) order (from_own x, all_from x xs order.0)) (in_own x)
        ∙ ap (λ b. found (cond b (Some x) (find left xs)) (x ∷ xs)) (sym has)
    | inr lacks ↦
        ruled_no x xs lacks ∙ first_is xs order.1 ∙ found_more x xs (find left xs) lacks refl
        ∙ ap (λ b. found (cond b (Some x) (find left xs)) (x ∷ xs)) (sym lacks)
  ]

  -- ### Among entries

  above_keys : (k : Key) (es : List Held) → IsAbove key_held k es → IsAbove own k (map key_held es)
  above_keys k [] above = tt
  above_keys k (e ∷ es) above = (above.0, above_keys k es above.1)

  order_keys : (es : List Held) → IsInOrder key_held es → IsInOrder own (map key_held es)
  order_keys [] order = tt
  order_keys (e ∷ es) order = (above_keys (key_held e) es order.0, order_keys es order.1)

  keys_listed : (es : List Held) → map key_held es ≡ map key_of (listed es)
  keys_listed [] = refl
  keys_listed (e ∷ es) = ap (λ (ks : List Key). key_held e ∷ ks) (keys_listed es)

  find_keys : (es : List Entry) → option_map key_of (find (λ (e : Entry). left e.key) es) ≡ find left (map key_of es)
  find_keys [] = refl
  find_keys (e ∷ es) = elim (cases_Bool (left e.key)) [
    | inl is ↦ rw is refl
    | inr is ↦ rw is (find_keys es)
  ]

  -- only entries of the map from the last one's block on are left
  following_block : (k l : Key) → comes_before l k ≡ true → (l.block == 0) ≡ false → l.block - 1 < k.block
  following_block k l before some = grind (arith, nat_tests, before, some)

  left_above : (o : Option Key) (k : Key) → (region_of k.block == region) ≡ true → comes_next region o k ≡ true → above (none_below region o) k.block ≡ true
  left_above None k here next = refl
  left_above (Some l) k here next = elim (cases_Bool (region_of l.block == region)) [
    | inl same ↦
        let before : comes_before l k ≡ true = rw same at next in
        elim (cases_Bool (l.block == 0)) [
          | inl zero ↦ rw (same, zero) refl
          | inr some ↦ rw (same, some) (let less = following_block k l before some in grind (arith, nat_tests, less))
        ]
    | inr other ↦ rw other refl
  ]

  left_there : (k : Key) → left k ≡ true → (k.map == row.map && above (none_below region last) k.block) ≡ true
  left_there k is =
      let kept = both_left (keep (cell_of k)) (comes_next region last k) is in
      let here = both_right (is_on state row (cell_of k)) (region_of k.block == region) kept in
      let same : k.map ≡ row.map = on_map state row (cell_of k) (both_left (is_on state row (cell_of k)) (region_of k.block == region) kept) in
      let of_map : (k.map == row.map) ≡ true = grind (arith, nat_tests, same) in
      rw of_map (left_above last k here (both_right (keep (cell_of k)) (comes_next region last k) is))

  find_part : (es : List Entry) → find (λ (e : Entry). left e.key) (map_entries row.map (none_below region last) es) ≡ find (λ (e : Entry). left e.key) es
  find_part [] = refl
  find_part (e ∷ es) = elim (cases_Bool (left e.key)) [
    | inl has ↦ rw (left_there e.key has, has) refl
    | inr lacks ↦ elim (cases_Bool (e.key.map == row.map && above (none_below region last) e.key.block)) [
      | inl here ↦ rw (here, lacks) (find_part es)
      | inr out ↦ rw (out, lacks) (find_part es)
    ]
  ]

  pub last_is : (cell : Cell) (es : List Entry) → last_left region last (chain_of cell es) ≡ last_in cell (map key_of es)
  last_is cell [] = refl
  last_is cell (e ∷ es) = elim (cases_Bool (in_cell cell e.key)) [
    | inl here ↦ rw here (ap (λ o. or_key o (comes_next region last e.key) e.key) (last_is cell es))
    | inr out ↦ rw out (last_is cell es)
  ]

  next_is : (es : List Held) → IsInOrder key_held es
      → next_after state row region last (chains_of es)
      ≡ found (first_left state row region last (map_entries row.map (none_below region last) (listed es))) (map key_of (listed es))
  next_is es order =
      let ks = map key_of (listed es) in
      ap (λ (l : List Key). first_key (filter (comes_next region last) l)) (keys_are keep key_held stored_of es order)
      ∙ first_is (map key_held es) (order_keys es order)
      ∙ ap (λ (l : List Key). found (find left l) l) (keys_listed es)
      ∙ ap (λ (o : Option Key). found o ks) (sym (ap (option_map key_of) (find_part (listed es)) ∙ find_keys (listed es)))

  -- what is found from the first one of these entries on is what the rule finds in the chains
  pub next_found : (es : List Held) → IsInOrder key_held es → (below : Option ℕ) (part : List Entry) (first : Option Key) → below ≡ none_below region last
      → part ≡ map_entries row.map below (listed es) → first ≡ first_left state row region last part
      → found first (map key_of (listed es)) ≡ next_after state row region last (chains_of es)
  next_found es order below part first bound lent is =
      let whole = is ∙ ap (first_left state row region last) (lent ∙ ap (λ (o : Option ℕ). map_entries row.map o (listed es)) bound) in
      ap (λ (o : Option Key). found o (map key_of (listed es))) whole ∙ sym (next_is es order)
