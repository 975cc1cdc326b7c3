-- What a walk over the entries or the marks finds.
use Rattle.std.proofs.Common.{◌≡◌, inl, inr, ℕ, zero, suc, ◌-◌, ◌^◌, ◌<◌, ◌==◌, not, length, ◌&&◌, ◌||◌, Bool, true, false, cond, T}
use Rattle.std.proofs.Common.{nat_le, nat_lt, List, [], ◌∷◌, map}
use Rattle.std.proofs.Common.{Option, Some, None, is_some, option_map, refl, sym, subst, ap, ◌∙◌, arith}
use Rattle.std.proofs.lemmas.Bool.{cases_Bool}
use Rattle.std.proofs.lemmas.Bool.Decides.{nat_tests}
use Rattle.std.proofs.lemmas.Option.{slice_get-map, slice_get_within}
use Rattle.std.proofs.lemmas.List.{length-map}
use Rattle.std.proofs.lemmas.List.Filters.{length-filter_both}
use Rattle.std.specs.Prelude.{filter, slice_get, nat_eq}
use Rattle.std.specs.Cmp.Lexicographic.{pointwise}
use Rattle.std.specs.List.{find, list_any}
use Rattle.std.specs.Option.{option_map_or}
use Rattle.std.specs.declared.cmp.Ordering.TheVariants.{Less, Equal, Greater}
use Rattle.std.specs.Ordering.{nat_cmp, is_eq, is_lt, match_ordering}
use Rattle.std.specs.Cmp.{unsigned_tied}
use Rattle.std.specs.BTreeMap.{insert_entry}
use Rattle.std.specs.FinMap.Entries as rows
use Rattle.busy_marks.specs.declared.marks.Mark.{Mark}
use Rattle.busy_marks.specs.Marks.{above, lesser, next_marked}
use Rattle.petal_base.specs.declared.cell.Cell.{Cell}
use Rattle.petal_base.specs.declared.cell.Key.{Key}
use Rattle.petal_base.specs.Cells.{cell_of}
use Rattle.petal_table.specs.Table.{Table, at, put}
use Rattle.spec_rules.specs.Copies.{least}
use Rattle.spec_rules.specs.Store.{Chain, Stored, bytes_of, cell_cmp, chain_in, entry_at, epochs_of, or_else, same_stored}
use Rattle.spec_rules.proofs.CellTables.{cell_cmp_same}
use Rattle.physical_map.specs.declared.entry.Entry.{Entry}
use Rattle.physical_map.specs.Entries as entries
use Rattle.physical_map.specs.Entries.{chain_of, in_cell, next_block_of, slot_of}
use Rattle.physical_map.specs.Keys.{later, newest, same_key, sees, IsInOrder}
use Rattle.server_store.specs.Holdings.{Held, key_held, listed}
use Rattle.kept_chains.specs.Kept.{chains_of, stored_of}
use Rattle.kept_chains.specs.Walking.{marked_in, place_of, stored_in}
use Rattle.kept_chains.proofs.Puts.{IsSorted}
use Rattle.kept_chains.proofs.Chains.{well_by}
use Rattle.kept_chains.proofs.Drops.{chain_held}
use Rattle.kept_chains.proofs.InOrder.{chain_is, entry_is}

-- the least marked block above a number
pub marked_is : (of : ℕ) (after : Option ℕ) (ms : List Mark) → next_marked of after ms ≡ least (filter (above after) (marked_in of ms))
marked_is of after [] = refl
marked_is of after (m ∷ ms) =
    let rest = marked_is of after ms in
    elim (cases_Bool (m.cell.map == of)) [
      | inl own ↦ elim (cases_Bool (above after m.cell.block)) [
        | inl over ↦ rw (own, over) (ap (lesser (Some m.cell.block)) rest)
        | inr over ↦ rw (own, over) rest
      ]
      | inr own ↦ rw own rest
    ]

module _ (of : ℕ) (after : Option ℕ) where
  -- the least block so far with one more
  abbrev step : Cell → Option ℕ → Option ℕ
  step c o = cond (c.map == of && above after c.block) (lesser (Some c.block) o) o

  abbrev walked : Table Cell Chain → Option ℕ
  walked [] = None
  walked (row ∷ later) = step row.0 (walked later)

  walked_is : (t : Table Cell Chain) → walked t ≡ least (filter (above after) (stored_in of t))
  walked_is [] = refl
  walked_is (row ∷ later) =
      let rest = walked_is later in
      elim (cases_Bool (row.0.map == of)) [
        | inl own ↦ elim (cases_Bool (above after row.0.block)) [
          | inl over ↦ rw (own, over) (ap (lesser (Some row.0.block)) rest)
          | inr over ↦ rw (own, over) rest
        ]
        | inr own ↦ rw own rest
      ]

  lesser_twice : (n : ℕ) (o : Option ℕ) → lesser (Some n) (lesser (Some n) o) ≡ lesser (Some n) o
  lesser_twice n None = grind (arith, nat_tests)
  lesser_twice n (Some m) = grind (arith, nat_tests)

  lesser_swap : (n m : ℕ) (o : Option ℕ) → lesser (Some n) (lesser (Some m) o) ≡ lesser (Some m) (lesser (Some n) o)
  lesser_swap n m None = grind (arith, nat_tests)
  lesser_swap n m (Some k) = grind (arith, nat_tests)

  step_twice : (c : Cell) (o : Option ℕ) → step c (step c o) ≡ step c o
  step_twice c o = elim (cases_Bool (c.map == of && above after c.block)) [
    | inl is ↦ rw is (lesser_twice c.block o)
    | inr is ↦ rw is refl
  ]

  step_swap : (c d : Cell) (o : Option ℕ) → step c (step d o) ≡ step d (step c o)
  step_swap c d o = elim (cases_Bool (c.map == of && above after c.block)) [
    | inl is ↦ elim (cases_Bool (d.map == of && above after d.block)) [
      | inl also ↦ rw (is, also) (lesser_swap c.block d.block o)
      | inr also ↦ rw (is, also) refl
    ]
    | inr is ↦ rw is refl
  ]

  walked_inserted : (t : Table Cell Chain) (c : Cell) (chain : Chain) → walked (insert_entry cell_cmp t c chain) ≡ step c (walked t)
  walked_inserted [] c chain = refl
  walked_inserted (row ∷ later) c chain =
      let rest = walked_inserted later c chain in
      elim (cell_cmp c row.0) as (λ o. cell_cmp c row.0 ≡ o
      → walked (match_ordering o ((c, chain) ∷ row ∷ later) ((row.0, chain) ∷ later) (row ∷ insert_entry cell_cmp later c chain))
      ≡ step c (step row.0 (walked later))) [
        | Less ↦ λ _. refl
        | Equal ↦ λ tie. sym (ap (λ (d : Cell). step d (step row.0 (walked later))) (cell_cmp_same c row.0 tie) ∙ step_twice row.0 (walked later))
        | Greater ↦ λ _. ap (step row.0) rest ∙ step_swap row.0 c (walked later)
      ] refl

  walked_put : (t : Table Cell Chain) (c : Cell) (chain : Chain) → walked (put cell_cmp t c chain) ≡ step c (walked t)
  unfolding put
  walked_put t c chain = walked_inserted t c chain

  same_above : (n : ℕ) → entries.above after n ≡ above after n
  same_above n = elim after as (λ a. entries.above a n ≡ above a n) [
    | None ↦ refl
    | Some m ↦ refl
  ]

  same_lesser : (n : ℕ) (o : Option ℕ) → entries.lesser (Some n) o ≡ lesser (Some n) o
  same_lesser n None = refl
  same_lesser n (Some m) = refl

  walked_held : (es : List Held) → next_block_of of after (listed es) ≡ walked (chains_of es)
  walked_held [] = refl
  walked_held (e ∷ es) =
      let c = cell_of e.entry.key in
      let rest = walked_held es in
      let put_is = walked_put (chains_of es) c _ in
      elim (cases_Bool (c.map == of)) [
        | inl own ↦ elim (cases_Bool (above after c.block)) [
          | inl over ↦
              let right : walked (chains_of (e ∷ es)) ≡ lesser (Some c.block) (walked (chains_of es)) = put_is ∙ rw (own, over) refl in
              let left : next_block_of of after (listed (e ∷ es)) ≡ lesser (Some c.block) (walked (chains_of es)) =
              rw (own, same_above c.block ∙ over) (same_lesser c.block _ ∙ ap (lesser (Some c.block)) rest) in
              left ∙ sym right
          | inr over ↦ rw (own, same_above c.block ∙ over) (rest ∙ sym (put_is ∙ rw (own, over) refl))
        ]
        | inr own ↦ rw own (rest ∙ sym (put_is ∙ rw own refl))
      ]

  -- the least block above a number that has an entry
  pub stored_is : (es : List Held) → next_block_of of after (listed es) ≡ least (filter (above after) (stored_in of (chains_of es)))
  stored_is es = walked_held es ∙ walked_is (chains_of es)

-- the entries of a cell stand in its chain
places_are : (es : List Held) (cell : Cell) → map (λ (e : Entry). (e.key.epoch, e.version)) (chain_of cell (listed es)) ≡ map place_of (chain_held cell es)
places_are [] cell = refl
places_are (e ∷ es) cell = elim (cases_Bool (in_cell cell e.entry.key)) [
  | inl own ↦ rw own (ap (λ (l : List (ℕ × ℕ)). (e.entry.key.epoch, e.entry.version) ∷ l) (places_are es cell))
  | inr own ↦ rw own (places_are es cell)
]

epochs_are : (es : List Held) (cell : Cell) → map (λ (e : Entry). e.key.epoch) (chain_of cell (listed es)) ≡ epochs_of (chain_held cell es)
epochs_are [] cell = refl
epochs_are (e ∷ es) cell = elim (cases_Bool (in_cell cell e.entry.key)) [
  | inl own ↦ rw own (ap (λ (l : List ℕ). e.entry.key.epoch ∷ l) (epochs_are es cell))
  | inr own ↦ rw own (epochs_are es cell)
]

pub nth_is : (es : List Held) (cell : Cell) (place : ℕ) → IsInOrder key_held es
    → option_map (λ (e : Entry). (e.key.epoch, e.version)) (slice_get (chain_of cell (listed es)) place)
    ≡ option_map place_of (slice_get (chain_in (chains_of es) cell) place)
nth_is es cell place order =
    sym (slice_get-map (λ (e : Entry). (e.key.epoch, e.version)) (chain_of cell (listed es)) place)
    ∙ ap (λ (l : List (ℕ × ℕ)). slice_get l place) (places_are es cell)
    ∙ slice_get-map place_of (chain_held cell es) place
    ∙ ap (λ (chain : Chain). option_map place_of (slice_get chain place)) (sym (chain_is key_held stored_of es cell order))

-- who has fewer entries than numbers has a number for the place after each of them
pub nth_within : (es : List Held) (cell : Cell) (place : ℕ) (entry : Entry) → length es < 2 ^ 32
    → slice_get (chain_of cell (listed es)) place ≡ Some entry → place < 2 ^ 32 - 1
nth_within es cell place entry few is =
    let inside = slice_get_within (chain_of cell (listed es)) place entry is in
    let parts = length-filter_both (λ e. in_cell cell e.key) (λ e. not (in_cell cell e.key)) (λ _. refl) (listed es) in
    omega (arith, inside, parts, length-map es (λ h. h.entry), few)

pub epochs_is : (es : List Held) (cell : Cell) → IsInOrder key_held es
    → map (λ (e : Entry). e.key.epoch) (chain_of cell (listed es)) ≡ epochs_of (chain_in (chains_of es) cell)
epochs_is es cell order = epochs_are es cell ∙ ap epochs_of (sym (chain_is key_held stored_of es cell order))

-- an entry is there where its epoch is one of its chain
slot_by : (es : List Held) (k : Key) → is_some (slot_of (listed es) k) ≡ list_any (nat_eq k.epoch) (epochs_of (chain_held (cell_of k) es))
slot_by [] k = refl
slot_by (e ∷ es) k = elim (cases_Bool (same_key e.entry.key k)) [
  | inl same ↦ let own = own_key e.entry.key k same in let here = own_epoch e.entry.key k same in rw (same, own, here) refl
  | inr same ↦ elim (cases_Bool (in_cell (cell_of k) e.entry.key)) [
    | inl own ↦ let there = other_epoch e.entry.key k same own in rw (same, own, there) (slot_by es k)
    | inr own ↦ rw (same, own) (slot_by es k)
  ]
]
  where
    own_key : (j k : Key) → same_key j k ≡ true → in_cell (cell_of k) j ≡ true
    own_key j k same = grind (arith, nat_tests)

    own_epoch : (j k : Key) → same_key j k ≡ true → nat_eq k.epoch j.epoch ≡ true
    own_epoch j k same = grind (arith, nat_tests)

    other_epoch : (j k : Key) → same_key j k ≡ false → in_cell (cell_of k) j ≡ true → nat_eq k.epoch j.epoch ≡ false
    other_epoch j k differ own = grind (arith, nat_tests)

pub slot_is : (es : List Held) (k : Key) → IsInOrder key_held es
    → list_any (nat_eq k.epoch) (epochs_of (chain_in (chains_of es) (cell_of k))) ≡ true → is_some (slot_of (listed es) k) ≡ true
slot_is es k order there =
    slot_by es k ∙ ap (λ (chain : Chain). list_any (nat_eq k.epoch) (epochs_of chain)) (sym (chain_is key_held stored_of es (cell_of k) order)) ∙ there

-- the first entry of an epoch is the one of its chain
found_held : (es : List Held) (cell : Cell) (epoch : ℕ)
    → option_map (λ (e : Entry). e.version) (find (λ (e : Entry). nat_eq epoch e.key.epoch) (chain_of cell (listed es)))
    ≡ option_map (λ (x : Stored). x.version) (at nat_cmp (chain_held cell es) epoch)
unfolding at
found_held [] cell epoch = refl
found_held (e ∷ es) cell epoch =
    let rest = found_held es cell epoch in
    let tie : is_eq (nat_cmp epoch e.entry.key.epoch) ≡ nat_eq epoch e.entry.key.epoch = unsigned_tied epoch e.entry.key.epoch in
    elim (cases_Bool (in_cell cell e.entry.key)) [
      | inl own ↦ elim (cases_Bool (nat_eq epoch e.entry.key.epoch)) [
        | inl here ↦ rw (own, tie, here) refl
        | inr apart ↦ rw (own, tie, apart) rest
      ]
      | inr own ↦ rw own rest
    ]

-- the version of the entry that has a key
pub version_found : (es : List Held) (k : Key) → IsInOrder key_held es
    → option_map (λ (e : Entry). e.version) (find (λ (e : Entry). nat_eq k.epoch e.key.epoch) (chain_of (cell_of k) (listed es)))
    ≡ option_map (λ (x : Stored). x.version) (at nat_cmp (chain_in (chains_of es) (cell_of k)) k.epoch)
version_found es k order =
    found_held es (cell_of k) k.epoch
    ∙ ap (λ (chain : Chain). option_map (λ (x : Stored). x.version) (at nat_cmp chain k.epoch)) (sym (chain_is key_held stored_of es (cell_of k) order))

some_by : (version : ℕ) (o : Option Stored) → Some version ≡ option_map (λ (x : Stored). x.version) o → is_some o ≡ true
some_by version None is = absurd (cc)
some_by version (Some x) is = refl

-- a version where an entry has a key
pub some_version : (o : Option Stored) → is_some (option_map (λ (x : Stored). x.version) o) ≡ is_some o
some_version None = refl
some_version (Some x) = refl

abbrev entry_in : Option Held → Option Entry
entry_in o = option_map (λ (h : Held). h.entry) o

later_listed : (x : Held) (o : Option Held) → later entries.key_of (Some x.entry) (entry_in o) ≡ entry_in (later key_held (Some x) o)
later_listed x None = refl
later_listed x (Some y) = elim (cases_Bool (nat_lt x.entry.key.epoch y.entry.key.epoch)) [
  | inl is ↦ rw is refl
  | inr is ↦ rw is refl
]

newest_listed : (es : List Held) (k : Key) → newest entries.key_of k (listed es) ≡ entry_in (newest key_held k es)
newest_listed [] k = refl
newest_listed (e ∷ es) k = elim (cases_Bool (sees k e.entry.key)) [
  | inl seen ↦ rw seen (ap (later entries.key_of (Some e.entry)) (newest_listed es k) ∙ later_listed e (newest key_held k es))
  | inr seen ↦ rw seen (newest_listed es k)
]

some_held : (o : Option Entry) (held : Option Held) → o ≡ entry_in held → is_some o ≡ is_some (option_map stored_of held)
some_held o None is = rw is refl
some_held o (Some h) is = rw is refl

-- a read finds an entry where its chain has one
pub below_is : (es : List Held) (k : Key) (found : Option Entry) → IsInOrder key_held es → found ≡ newest entries.key_of k (listed es)
    → is_some found ≡ is_some (entry_at (chain_in (chains_of es) (cell_of k)) k.epoch)
below_is es k found order is =
    some_held found (newest key_held k es) (is ∙ newest_listed es k) ∙ sym (ap is_some (entry_is key_held stored_of es k order))

first_of : (a b : Bool) → T (a && b) → T a
first_of true b h = tt
first_of false b h = h

second_of : (a b : Bool) → T (a && b) → T b
second_of true b h = h
second_of false b h = absurd h

less_of : (a b : ℕ) → T (is_lt (nat_cmp a b)) → a < b
less_of a b h = elim (cases_Bool (is_lt (nat_cmp a b))) [
  | inl is ↦ grind (arith, nat_tests, is)
  | inr is ↦ absurd (rw is at h)
]

-- nothing of a chain that begins later is found
none_at : (chain : Chain) (epoch : ℕ) → T (rows.below_all nat_cmp epoch chain) → entry_at chain epoch ≡ None
none_at [] epoch above = refl
none_at (row ∷ later) epoch above =
    let less = less_of epoch row.0 (first_of _ _ above) in
    let over : nat_le row.0 epoch ≡ false = grind (arith, nat_tests, less) in
    rw over refl

later_nth : (chain : Chain) (epoch place : ℕ) (row : ℕ × Stored) → T (rows.below_all nat_cmp epoch chain) → slice_get chain place ≡ Some row → epoch < row.0
later_nth [] epoch place row above is = absurd (cc)
later_nth (r ∷ rs) epoch zero row above is =
    let same : r ≡ row = cc in subst (λ (x : ℕ × Stored). epoch < x.0) same (less_of epoch r.0 (first_of _ _ above))
later_nth (r ∷ rs) epoch (suc place) row above is = later_nth rs epoch place row (second_of _ _ above) is

-- an entry of a chain is what a read at its epoch finds
entry_nth : (chain : Chain) (place : ℕ) (row : ℕ × Stored) → IsSorted nat_cmp chain → slice_get chain place ≡ Some row → entry_at chain row.0 ≡ Some row.1
entry_nth [] place row sorted is = absurd (cc)
entry_nth (r ∷ rs) zero row sorted is =
    let same : r ≡ row = cc in
    let not_over : nat_le r.0 r.0 ≡ true = grind (arith, nat_tests) in
    let here : entry_at (r ∷ rs) r.0 ≡ Some r.1 = rw not_over (ap (λ (o : Option Stored). Some (or_else o r.1)) (none_at rs r.0 (first_of _ _ sorted))) in
    subst (λ (x : ℕ × Stored). entry_at (r ∷ rs) x.0 ≡ Some x.1) same here
entry_nth (r ∷ rs) (suc place) row sorted is =
    let less = later_nth rs r.0 place row (first_of _ _ sorted) is in
    let not_over : nat_le r.0 row.0 ≡ true = grind (arith, nat_tests, less) in
    rw not_over (ap (λ (o : Option Stored). Some (or_else o r.1)) (entry_nth rs place row (second_of _ _ sorted) is))

later_at : (chain : Chain) (epoch e : ℕ) (x : Stored) → T (rows.below_all nat_cmp epoch chain) → at nat_cmp chain e ≡ Some x → epoch < e
unfolding at
later_at [] epoch e x above is = absurd (cc)
later_at (r ∷ rs) epoch e x above is =
    let rest = later_at rs epoch e x (second_of _ _ above) in
    elim (cases_Bool (nat_eq e r.0)) [
      | inl tie ↦ let less = less_of epoch r.0 (first_of _ _ above) in let same : e ≡ r.0 = grind (arith, nat_tests, tie) in omega (arith, less, same)
      | inr apart ↦ rest (rw (unsigned_tied e r.0 ∙ apart) at is)
    ]

-- an entry of a chain is what a read at its epoch finds
entry_there : (chain : Chain) (e : ℕ) (x : Stored) → IsSorted nat_cmp chain → at nat_cmp chain e ≡ Some x → entry_at chain e ≡ Some x
unfolding at
entry_there [] e x sorted is = absurd (cc)
entry_there (r ∷ rs) e x sorted is =
    let rest = entry_there rs e x (second_of _ _ sorted) in
    let later = later_at rs r.0 e x (first_of _ _ sorted) in
    elim (cases_Bool (nat_eq e r.0)) [
      | inl tie ↦
          let same : e ≡ r.0 = grind (arith, nat_tests, tie) in
          let own : r.1 ≡ x = (let o : Some r.1 ≡ Some x = rw (unsigned_tied e r.0 ∙ tie) at is in cc) in
          let not_over : nat_le r.0 e ≡ true = grind (arith, nat_tests, same) in
          rw not_over (ap (λ (o : Option Stored). Some (or_else o r.1)) (ap (entry_at rs) same ∙ none_at rs r.0 (first_of _ _ sorted))
          ∙ ap (λ (y : Stored). Some y) own)
      | inr apart ↦
          let there : at nat_cmp rs e ≡ Some x = rw (unsigned_tied e r.0 ∙ apart) at is in
          let less = later there in
          let not_over : nat_le r.0 e ≡ true = grind (arith, nat_tests, less) in
          rw not_over (ap (λ (o : Option Stored). Some (or_else o r.1)) (rest there))
    ]

bytes_by : (chain : Chain) (e : ℕ) (bytes : List ℕ) (o : Option Stored) → IsSorted nat_cmp chain → at nat_cmp chain e ≡ o → is_some o ≡ true
    → bytes ≡ bytes_of (entry_at chain e) → Some bytes ≡ option_map (λ (x : Stored). x.bytes) o
bytes_by chain e bytes None sorted is some read = absurd (cc)
bytes_by chain e bytes (Some x) sorted is some read =
    ap (λ (b : List ℕ). Some b) (read ∙ ap bytes_of (entry_there chain e x sorted is))

-- what is read at a key that an entry has
pub key_read : (es : List Held) (k : Key) (bytes : List ℕ) → is_some (at nat_cmp (chain_in (chains_of es) (cell_of k)) k.epoch) ≡ true
    → bytes ≡ bytes_of (entry_at (chain_in (chains_of es) (cell_of k)) k.epoch)
    → Some bytes ≡ option_map (λ (x : Stored). x.bytes) (at nat_cmp (chain_in (chains_of es) (cell_of k)) k.epoch)
key_read es k bytes some read =
    bytes_by (chain_in (chains_of es) (cell_of k)) k.epoch bytes _ ((well_by key_held stored_of es).each (cell_of k)) refl some read

same_by : (o : Option Stored) (x : Stored) (version : ℕ) (bytes : List ℕ) → Some version ≡ option_map (λ (y : Stored). y.version) o
    → version ≡ x.version → Some bytes ≡ option_map (λ (y : Stored). y.bytes) o
    → pointwise nat_eq x.bytes bytes ≡ option_map_or (same_stored x) o false
same_by None x version bytes is same read = absurd (cc)
same_by (Some y) x version bytes is same read =
    let version_is : version ≡ y.version = cc in
    let bytes_are : bytes ≡ y.bytes = cc in
    let tie : (x.version == y.version) ≡ true = grind (arith, nat_tests, same, version_is) in
    rw tie (ap (pointwise nat_eq x.bytes) bytes_are)

-- an entry of this version is the same where its bytes are
pub same_read : (es : List Held) (k : Key) (x : Stored) (version : ℕ) (bytes : List ℕ)
    → Some version ≡ option_map (λ (y : Stored). y.version) (at nat_cmp (chain_in (chains_of es) (cell_of k)) k.epoch)
    → version ≡ x.version → bytes ≡ bytes_of (entry_at (chain_in (chains_of es) (cell_of k)) k.epoch)
    → pointwise nat_eq x.bytes bytes ≡ option_map_or (same_stored x) (at nat_cmp (chain_in (chains_of es) (cell_of k)) k.epoch) false
same_read es k x version bytes is same read =
    same_by _ x version bytes is same (key_read es k bytes (some_by version _ is) read)

pub key_none : (o : Option Stored) → is_some o ≡ false → None ≡ option_map (λ (x : Stored). x.bytes) o
key_none None is = refl
key_none (Some x) is = absurd (cc)

-- the row of a place, by its epoch, its version and what a read at its epoch finds
read_row : (chain : Chain) (o : Option (ℕ × Stored)) (epoch version : ℕ) (bytes : List ℕ)
    → ((row : ℕ × Stored) → o ≡ Some row → entry_at chain row.0 ≡ Some row.1)
    → Some (epoch, version) ≡ option_map place_of o → bytes ≡ bytes_of (entry_at chain epoch)
    → Some (epoch, record { version = version; bytes = bytes }) ≡ o
read_row chain None epoch version bytes finds is read = absurd (cc)
read_row chain (Some row) epoch version bytes finds is read =
    let place : (epoch, version) ≡ place_of row = cc in
    let epoch_is : epoch ≡ row.0 = ap (λ (p : ℕ × ℕ). p.0) place in
    let version_is : version ≡ row.1.version = ap (λ (p : ℕ × ℕ). p.1) place in
    let bytes_is : bytes ≡ row.1.bytes = read ∙ ap (λ (n : ℕ). bytes_of (entry_at chain n)) epoch_is ∙ ap bytes_of (finds row refl) in
    λ i. Some (epoch_is i, record { version = version_is i; bytes = bytes_is i })

pub read_is : (es : List Held) (cell : Cell) (place epoch version : ℕ) (bytes : List ℕ)
    → Some (epoch, version) ≡ option_map place_of (slice_get (chain_in (chains_of es) cell) place)
    → bytes ≡ bytes_of (entry_at (chain_in (chains_of es) cell) epoch)
    → Some (epoch, record { version = version; bytes = bytes }) ≡ slice_get (chain_in (chains_of es) cell) place
read_is es cell place epoch version bytes is read =
    let chain = chain_in (chains_of es) cell in
    read_row chain (slice_get chain place) epoch version bytes
    (λ row found. entry_nth chain place row ((well_by key_held stored_of es).each cell) found) is read
