-- What a commit that is needed does to what is kept: it changes it, and no more marks and rows are there than may be.
use Rattle.std.proofs.Common.{◌≡◌, ◌≢◌, ◌≤◌, ◌<◌, ◌+◌, ◌==◌, ℕ, Bool, true, false, not, ◌&&◌, ◌||◌, List, [], ◌∷◌, ◌++◌, length, filter, map, fold}
use Rattle.std.proofs.Common.{Option, None, Some, is_some, refl, sym, ap, subst, ◌∙◌, inl, inr, arith}
use Rattle.std.proofs.lemmas.Bool.{cases_Bool}
use Rattle.std.proofs.lemmas.Bool.Decides.{nat_tests}
use Rattle.std.specs.List.{All, AllByRecursion, list_any}
use Rattle.std.specs.List.Sorted.{IsStrictlySortedBy}
use Rattle.std.proofs.lemmas.List.Elements.{All-cons, All-nil}
use Rattle.server_store.specs.Shown.{PutsNothing, picture_after_all}
use Rattle.std.specs.Ordering.{match_ordering}
use Rattle.std.specs.declared.cmp.Ordering.TheVariants.{Less, Equal, Greater}
use Rattle.busy_marks.specs.declared.marks.Mark.{Mark}
use Rattle.busy_marks.specs.declared.marks.MarkKind.{MarkKind}
use Rattle.busy_marks.specs.Marks.{has_mark, same_mark, with_mark, without_mark}
use Rattle.busy_marks.proofs.Sets.{is_set, not_marked, unset_back}
use Rattle.client_rows.specs.declared.row.Row.{Row}
use Rattle.client_rows.specs.Rows.{greater, has_rows, is_of, is_on, row_cmp, row_of, rows_after, without_rows}
use Rattle.petal_base.specs.declared.cell.Cell.{Cell}
use Rattle.petal_base.specs.declared.cell.Key.{Key}
use Rattle.petal_base.specs.Limits.{marks_limit}
use Rattle.petal_base.specs.Origins.{Named}
use Rattle.physical_map.specs.declared.entry.Entry.{Entry}
use Rattle.physical_map.specs.Entries.{key_of, slot_of, without_key}
use Rattle.physical_map.specs.Keys.{placed, same_key, IsInOrder}
use Rattle.data_device.specs.Accounts.{Book, as_count, holders}
use Rattle.data_device.specs.Kept.{Kept, AllFit, IsWithin, kept_after}
use Rattle.data_device.specs.declared.record.StoreRecord.{StoreRecord}
use Rattle.data_device.specs.declared.record.StoreRecord.TheVariants as kind
use Rattle.data_device.proofs.Ledgers.{holders-placed, holders-without_key, no-holder}
use Rattle.data_device.proofs.MarkOrder.{length_with}
use Rattle.data_device.proofs.Ordered.{length_row}
use Rattle.sorted_list.specs.Lists.{placed as placed_row}
use Rattle.server_store.specs.Committing.{unmarked, unmarks_of}
use Rattle.server_store.specs.Holdings.{Held, adds_to, held_in, listed}
use Rattle.server_store.proofs.Contents.{is_listed}

-- ### Lists without what passes a test

pub no_longer : {A : Type 0} (p : A → Bool) (xs : List A) → length (filter (λ x. not (p x)) xs) ≤ length xs
no_longer p [] = omega arith
no_longer p (x ∷ xs) = elim (cases_Bool (p x)) [
  | inl is ↦ rw is (omega (arith, no_longer p xs))
  | inr is ↦ rw is (omega (arith, no_longer p xs))
]

pub shorter : {A : Type 0} (p : A → Bool) (xs : List A) → list_any p xs ≡ true → length (filter (λ x. not (p x)) xs) < length xs
shorter p [] some = absurd (cc)
shorter p (x ∷ xs) some = elim (cases_Bool (p x)) [
  | inl is ↦ rw is (omega (arith, no_longer p xs))
  | inr is ↦ let there : list_any p xs ≡ true = rw is at some in rw is (omega (arith, shorter p xs there))
]

pub none_goes : {A : Type 0} (p : A → Bool) (xs : List A) → list_any p xs ≡ false → filter (λ x. not (p x)) xs ≡ xs
none_goes p [] none = refl
none_goes {A = A} p (x ∷ xs) none = elim (cases_Bool (p x)) [
  | inl is ↦ let here : true ≡ false = rw is at none in absurd (cc)
  | inr is ↦ let rest : list_any p xs ≡ false = rw is at none in rw is (ap (λ (l : List A). x ∷ l) (none_goes p xs rest))
]

-- ### Each needed record changes what is kept

pub marks_change : (kept : Kept) (m : Mark) → has_mark m kept.marks ≡ false
    → kept_after kept (kind.Mark m.kind m.cell) ≢ kept
marks_change kept m none same =
    let there : true ≡ false = sym (is_set m kept.marks) ∙ ap (λ (k : Kept). has_mark m k.marks) same ∙ none in cc

pub unmark_changes : (kept : Kept) (m : Mark) → has_mark m kept.marks ≡ true → kept_after kept (kind.Unmark m.kind m.cell) ≢ kept
unmark_changes kept m there same =
    let less = shorter (λ x. same_mark x m) kept.marks there in
    let equal : length (without_mark kept.marks m) ≡ length kept.marks = ap (λ (k : Kept). length k.marks) same in
    omega (arith, less, equal)

pub drop_changes : (kept : Kept) (key : Key) → is_some (slot_of kept.entries key) ≡ true → kept_after kept (kind.Drop key) ≢ kept
drop_changes kept key some same =
    let less = without_less kept.entries key some in
    let equal : length (without_key kept.entries key) ≡ length kept.entries = ap (λ (k : Kept). length k.entries) same in
    omega (arith, less, equal) where
      without_less : (es : List Entry) (at : Key) → is_some (slot_of es at) ≡ true → length (without_key es at) < length es
      without_less [] at there = absurd (cc)
      without_less (x ∷ xs) at there = elim (cases_Bool (same_key x.key at)) [
        | inl is ↦ rw is (omega arith)
        | inr is ↦ let later : is_some (slot_of xs at) ≡ true = rw is at there in rw is (omega (arith, without_less xs at later))
      ]

pub forget_changes : (kept : Kept) (m l : ℕ) → has_rows m l kept.rows ≡ true → kept_after kept (kind.Forget m l) ≢ kept
forget_changes kept m l some same =
    let less = shorter (is_on m l) kept.rows some in
    let equal : length (without_rows kept.rows m l) ≡ length kept.rows = ap (λ (k : Kept). length k.rows) same in
    omega (arith, less, equal)

pub settled_changes : (kept : Kept) → kept.fresh ≡ true → kept_after kept kind.Settled ≢ kept
settled_changes kept fresh same = let clash : false ≡ true = ap (λ (k : Kept). k.fresh) same ∙ fresh in cc

pub put_changes : (kept : Kept) (key : Key) (version slot : ℕ) (origin : Option Named) → IsInOrder key_of kept.entries
    → All (λ e. e.slot ≢ slot) kept.entries → kept_after kept (kind.Put key version slot origin) ≢ kept
put_changes kept key version slot origin order free same =
    let e : Entry = record { key = key; slot = slot; version = version } in
    let all = holders-placed slot kept.entries e order in
    let none = no-holder kept.entries slot free in
    let gone = holders-without_key slot kept.entries key in
    let own : as_count (slot == slot) ≡ 1 = grind (arith, nat_tests) in
    let equal : holders slot (placed key_of kept.entries e) ≡ holders slot kept.entries = ap (λ (k : Kept). holders slot k.entries) same in
    omega (arith, all, none, gone, own, equal)

-- also of the entries without their contents
pub put_changes_listed : (file : List ℕ) (ledger : Book) (marks : List Mark) (rows : List Row) (fresh : Bool) (key : Key) (version slot : ℕ)
    (origin : Option Named) → IsInOrder key_of ledger.entries → All (λ e. e.slot ≢ slot) ledger.entries
    → kept_after (record { entries = listed (map (held_in file) ledger.entries); marks = marks; rows = rows; fresh = fresh }) (kind.Put key version slot origin)
    ≢ record { entries = listed (map (held_in file) ledger.entries); marks = marks; rows = rows; fresh = fresh }
put_changes_listed file ledger marks rows fresh key version slot origin order free =
    let with_entries : List Entry → Kept = λ es. record { entries = es; marks = marks; rows = rows; fresh = fresh } in
    subst (λ (es : List Entry). kept_after (with_entries es) (kind.Put key version slot origin) ≢ with_entries es) (is_listed file ledger.entries)
    (put_changes (with_entries ledger.entries) key version slot origin order free)

-- ### Marks of several cells

pub unmarked_fewer : (k : MarkKind) (ms : List Mark) (cells : List Cell) → length (unmarked k cells ms) ≤ length ms
unmarked_fewer k ms [] = omega arith
unmarked_fewer k ms (cell ∷ cells) =
    let m : Mark = record { kind = k; cell = cell } in
    let rest = unmarked_fewer k (without_mark ms m) cells in
    let here = no_longer (λ x. same_mark x m) ms in
    omega (arith, rest, here)

unmarked_less : (k : MarkKind) (ms : List Mark) (cells : List Cell) → 0 < length (unmarks_of k cells ms) → length (unmarked k cells ms) < length ms
unmarked_less k ms [] some = absurd (omega (arith, some))
unmarked_less k ms (cell ∷ cells) some =
    let m : Mark = record { kind = k; cell = cell } in
    elim (cases_Bool (has_mark m ms)) [
      | inl is ↦
          let rest = unmarked_fewer k (without_mark ms m) cells in
          let here = shorter (λ x. same_mark x m) ms is in
          omega (arith, rest, here)
      | inr is ↦
          let later : 0 < length (unmarks_of k cells ms) = rw is at some in
          let rest = unmarked_less k ms cells later in
          rw (not_marked m ms is) rest
    ]

module _ (k : MarkKind) (were : List Mark) where
  abbrev at : Cell → Mark
  at cell = record { kind = k; cell = cell }

  -- the records take the marks away from all of the cells
  pub unmarks_all : (kept : Kept) (cells : List Cell) → ((m : Mark) → has_mark m kept.marks ≡ true → has_mark m were ≡ true)
      → fold kept_after kept (unmarks_of k cells were) ≡ record kept { marks = unmarked k cells kept.marks }
  unmarks_all kept [] back = refl
  unmarks_all kept (cell ∷ cells) back = elim (cases_Bool (has_mark (at cell) were)) [
    | inl is ↦
        rw is (unmarks_all (record kept { marks = without_mark kept.marks (at cell) }) cells (λ m there. back m (unset_back (at cell) m kept.marks there)))
    | inr is ↦
        let none : has_mark (at cell) kept.marks ≡ false = elim (cases_Bool (has_mark (at cell) kept.marks)) [
          | inl there ↦ let clash : true ≡ false = sym (back (at cell) there) ∙ is in absurd (cc)
          | inr gone ↦ gone
        ] in
        rw is (unmarks_all kept cells back ∙ ap (λ (ms : List Mark). record kept { marks = unmarked k cells ms }) (sym (not_marked (at cell) kept.marks none)))
  ]

  -- each of them leaves no more marks
  pub unmarks_fit : (slots : ℕ) (kept : Kept) (cells : List Cell) → IsWithin kept → AllFit slots kept (unmarks_of k cells were)
  unmarks_fit slots kept [] within = tt
  unmarks_fit slots kept (cell ∷ cells) within = elim (cases_Bool (has_mark (at cell) were)) [
    | inl is ↦
        let fewer = no_longer (λ m. same_mark m (at cell)) kept.marks in
        let still : IsWithin (record kept { marks = without_mark kept.marks (at cell) }) = omega (arith, fewer, within) in
        rw is ((tt, still), unmarks_fit slots (record kept { marks = without_mark kept.marks (at cell) }) cells still)
    | inr is ↦ rw is (unmarks_fit slots kept cells within)
  ]

pub unmarks_change : (k : MarkKind) (kept : Kept) (cells : List Cell) → 0 < length (unmarks_of k cells kept.marks)
    → fold kept_after kept (unmarks_of k cells kept.marks) ≢ kept
unmarks_change k kept cells some same =
    let all = unmarks_all k kept.marks kept cells (λ m there. there) in
    let less = unmarked_less k kept.marks cells some in
    let equal : length (unmarked k cells kept.marks) ≡ length kept.marks = ap (λ (x : Kept). length x.marks) (sym all ∙ same) in
    omega (arith, less, equal)

-- ### Rows

none_past : (r x : Row) (rows : List Row) → row_cmp r x ≡ Less → AllByRecursion (λ y. row_cmp x y ≡ Less) rows → row_of rows r.map r.link r.client ≡ None
none_past r x [] less over = refl
none_past r x (y ∷ rows) less over =
    let next = over.0 in
    let other : is_of r.map r.link r.client y ≡ false = grind (arith, nat_tests, less, next) in
    rw other (none_past r x rows less over.1)

-- a row that is there is put in its own place
put_there : (r : Row) (rows : List Row) → IsStrictlySortedBy row_cmp rows → is_some (row_of rows r.map r.link r.client) ≡ true
    → length (placed_row row_cmp rows r) ≤ length rows
unfolding IsStrictlySortedBy
put_there r [] sorted there = absurd (cc)
put_there r (x ∷ rows) sorted there =
    elim (row_cmp r x) as (λ o. row_cmp r x ≡ o → length (match_ordering o (r ∷ x ∷ rows) (r ∷ rows) (x ∷ placed_row row_cmp rows r)) ≤ length (x ∷ rows)) [
      | Less ↦ λ less.
          let other : is_of r.map r.link r.client x ≡ false = grind (arith, nat_tests, less) in
          let none = none_past r x rows less sorted.0 in
          let there' : is_some (row_of rows r.map r.link r.client) ≡ true = rw other at there in
          let clash : false ≡ true = ap is_some (sym none) ∙ there' in absurd (cc)
      | Equal ↦ λ _. omega arith
      | Greater ↦ λ more.
          let other : is_of r.map r.link r.client x ≡ false = grind (arith, nat_tests, more) in
          let later : is_some (row_of rows r.map r.link r.client) ≡ true = rw other at there in
          omega (arith, put_there r rows sorted.1 later)
    ] refl

-- ### No more marks and rows are there than may be

pub room_left : (n : ℕ) → n ≤ marks_limit → (n == marks_limit) ≡ false → n < marks_limit
room_left n within other = grind (arith, nat_tests, within, other)

pub room_for_row : (n : ℕ) (adds : Bool) → n ≤ marks_limit → not ((n == marks_limit) && adds) ≡ true → adds ≡ true → n < marks_limit
room_for_row n false within room adds = absurd (cc)
room_for_row n true within room adds = grind (arith, nat_tests, within, room)

pub mark_fits : (slots : ℕ) (kept : Kept) (m : Mark) → length kept.marks + length kept.rows < marks_limit → AllFit slots kept (kind.Mark m.kind m.cell ∷ [])
mark_fits slots kept m room = let one = length_with m kept.marks in ((tt, omega (arith, one, room)), tt)

pub unmark_fits : (slots : ℕ) (kept : Kept) (m : Mark) → IsWithin kept → AllFit slots kept (kind.Unmark m.kind m.cell ∷ [])
unmark_fits slots kept m within = let fewer = no_longer (λ x. same_mark x m) kept.marks in ((tt, omega (arith, fewer, within)), tt)

pub drop_fits : (slots : ℕ) (kept : Kept) (key : Key) → IsWithin kept → AllFit slots kept (kind.Drop key ∷ [])
drop_fits slots kept key within = ((tt, within), tt)

pub settled_fits : (slots : ℕ) (kept : Kept) → IsWithin kept → AllFit slots kept (kind.Settled ∷ [])
settled_fits slots kept within = ((tt, within), tt)

pub forget_fits : (slots : ℕ) (kept : Kept) (m l : ℕ) → IsWithin kept → AllFit slots kept (kind.Forget m l ∷ [])
forget_fits slots kept m l within = let fewer = no_longer (is_on m l) kept.rows in ((tt, omega (arith, fewer, within)), tt)

-- marks and rows after a put for a write
rows_within : (rows : List Row) (marks m : ℕ) (origin : Option Named) → IsStrictlySortedBy row_cmp rows → marks + length rows ≤ marks_limit
    → (adds_to rows m origin ≡ true → marks + length rows < marks_limit) → marks + length (rows_after rows m origin) ≤ marks_limit
rows_within rows marks m None sorted within room = within
rows_within rows marks m (Some o) sorted within room = elim (cases_Bool (is_some (row_of rows m o.link o.client))) [
  | inl there ↦
      let still = put_there (record { map = m; link = o.link; client = o.client; seq = greater (row_of rows m o.link o.client) o.seq }) rows sorted there in
      omega (arith, still, within)
  | inr new ↦ let one = length_row rows m o in let less = room (ap not new) in omega (arith, one, less)
]

pub put_fits : (slots : ℕ) (kept : Kept) (key : Key) (version slot : ℕ) (origin : Option Named) → IsStrictlySortedBy row_cmp kept.rows → IsWithin kept
    → (adds_to kept.rows key.map origin ≡ true → length kept.marks + length kept.rows < marks_limit) → slot < slots
    → All (λ e. e.slot ≢ slot) kept.entries → AllFit slots kept (kind.Put key version slot origin ∷ [])
put_fits slots kept key version slot origin sorted within room lt free =
    (((lt, free), rows_within kept.rows (length kept.marks) key.map origin sorted within room), tt)

-- ### One cell more

pub unmarks_more : (k : MarkKind) (ms : List Mark) (cells : List Cell) (cell : Cell)
    → unmarks_of k (cells ++ cell ∷ []) ms ≡ unmarks_of k cells ms ++ unmarks_of k (cell ∷ []) ms
unmarks_more k ms [] cell = refl
unmarks_more k ms (c ∷ cells) cell = elim (cases_Bool (has_mark (record { kind = k; cell = c }) ms)) [
  | inl is ↦ rw is (ap (λ (l : List StoreRecord). kind.Unmark k c ∷ l) (unmarks_more k ms cells cell))
  | inr is ↦ rw is (unmarks_more k ms cells cell)
]

pub unmarked_more : (k : MarkKind) (ms : List Mark) (cells : List Cell) (cell : Cell)
    → unmarked k (cells ++ cell ∷ []) ms ≡ without_mark (unmarked k cells ms) (record { kind = k; cell = cell })
unmarked_more k ms [] cell = refl
unmarked_more k ms (c ∷ cells) cell = unmarked_more k (without_mark ms (record { kind = k; cell = c })) cells cell

-- where none of them has the mark none is taken away
pub unmarks_none : (k : MarkKind) (ms : List Mark) (cells : List Cell) → unmarks_of k cells ms ≡ [] → unmarked k cells ms ≡ ms
unmarks_none k ms [] none = refl
unmarks_none k ms (cell ∷ cells) none =
    let m : Mark = record { kind = k; cell = cell } in
    elim (cases_Bool (has_mark m ms)) [
      | inl is ↦ let clash : kind.Unmark k cell ∷ unmarks_of k cells ms ≡ [] = rw is at none in absurd (cc)
      | inr is ↦ let rest : unmarks_of k cells ms ≡ [] = rw is at none in rw (not_marked m ms is) (unmarks_none k ms cells rest)
    ]

-- each of the records puts nothing
pub unmarks_put_nothing : (k : MarkKind) (ms : List Mark) (cells : List Cell) → All PutsNothing (unmarks_of k cells ms)
unmarks_put_nothing k ms [] = All-nil PutsNothing
unmarks_put_nothing k ms (cell ∷ cells) = elim (cases_Bool (has_mark (record { kind = k; cell = cell }) ms)) [
  | inl is ↦ rw is (All-cons PutsNothing (kind.Unmark k cell) (unmarks_of k cells ms) tt (unmarks_put_nothing k ms cells))
  | inr is ↦ rw is (unmarks_put_nothing k ms cells)
]

-- what the records show
pub unmarks_shown : (k : MarkKind) (were : List Mark) (helds : List Held) (now : List Mark) (rows : List Row) (fresh : Bool) (cells : List Cell)
    → ((m : Mark) → has_mark m now ≡ true → has_mark m were ≡ true)
    → picture_after_all (record { entries = helds; marks = now; rows = rows; fresh = fresh }) (unmarks_of k cells were) []
    ≡ record { entries = helds; marks = unmarked k cells now; rows = rows; fresh = fresh }
unmarks_shown k were helds now rows fresh [] back = refl
unmarks_shown k were helds now rows fresh (cell ∷ cells) back = elim (cases_Bool (has_mark (record { kind = k; cell = cell }) were)) [
  | inl is ↦
      let m : Mark = record { kind = k; cell = cell } in
      rw is (unmarks_shown k were helds (without_mark now m) rows fresh cells (λ x there. back x (unset_back m x now there)))
  | inr is ↦
      let m : Mark = record { kind = k; cell = cell } in
      rw (is, not_marked m now (gone m now back is)) (unmarks_shown k were helds now rows fresh cells back)
] where
  gone : (m : Mark) (ms : List Mark) → ((x : Mark) → has_mark x ms ≡ true → has_mark x were ≡ true) → has_mark m were ≡ false → has_mark m ms ≡ false
  gone m ms before is = elim (cases_Bool (has_mark m ms)) [
    | inl there ↦ let clash : true ≡ false = sym (before m there) ∙ is in absurd (cc)
    | inr none ↦ none
  ]
