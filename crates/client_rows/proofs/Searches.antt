-- What is found among rows, and what is left of them.
use Rattle.std.proofs.Common.{◌++◌, append_assoc, fold, rules, subst, ◌≡◌, ◌<◌, ◌⊎◌, ◌+◌, ℕ, Bool, true, false, not, ◌&&◌, nat_le, List, [], ◌∷◌, length}
use Rattle.std.proofs.Common.{Option, None, Some, refl, sym, ap, ◌∙◌, inl, inr, arith}
use Rattle.std.proofs.lemmas.Bool.{cases_Bool}
use Rattle.std.proofs.lemmas.List.{append-nil}
use Rattle.std.specs.Cmp.{IsTotalOrder}
use Rattle.std.specs.Cmp.Rules.{comparing}
use Rattle.petal_base.specs.Origins.{Named}
use Rattle.sorted_list.proofs.Orders.{below_next, placed_last}
use Rattle.std.proofs.lemmas.Bool.Decides.{nat_tests}
use Rattle.std.proofs.lemmas.List.Elements.{All-cons, All-head, All-nil, All-tail}
use Rattle.std.specs.BTreeMap.{is_at}
use Rattle.std.specs.BTreeMap.Range.{is_from_start}
use Rattle.std.proofs.lemmas.Map.Views.{All-remove_key}
use Rattle.std.specs.List.{All, AllByRecursion, find}
use Rattle.std.specs.List.Sorted.{IsStrictlySortedBy}
use Rattle.std.specs.Set.{remove_key}
use Rattle.std.specs.Option.{IsSome, is_some}
use Rattle.std.specs.Ordering.{match_ordering}
use Rattle.std.specs.declared.cmp.Ordering.{Ordering}
use Rattle.std.specs.declared.cmp.Ordering.TheVariants.{Less, Equal, Greater}
use Rattle.petal_base.specs.Limits.{client_limit}
use Rattle.sorted_list.specs.Lists.{placed}
use Rattle.client_rows.specs.declared.row.Row.{Row}
use Rattle.client_rows.specs.Rows.{behind, is_of, is_on, is_past, row_cmp, row_of, seq_in, with_row, without_from, without_rows}

at_is : (map link client seq : ℕ) (r : Row)
    → is_at (row_cmp (record { map = map; link = link; client = client; seq = seq })) r ≡ is_of map link client r
at_is map link client seq r = grind (arith, nat_tests)

found_is : (map link client seq : ℕ) (rows : List Row)
    → find (is_at (row_cmp (record { map = map; link = link; client = client; seq = seq }))) rows ≡ find (is_of map link client) rows
found_is map link client seq [] = refl
found_is map link client seq (r ∷ rows) = elim (cases_Bool (is_of map link client r)) [
  | inl is ↦ rw (at_is map link client seq r, is) refl
  | inr is ↦ rw (at_is map link client seq r, is) (found_is map link client seq rows)
]

some_in : (o : Option Row) → is_some (seq_in o) ≡ is_some o
some_in None = refl
some_in (Some r) = refl

-- there is room for a row that is there
pub room_at : (map link client seq spare : ℕ) (rows : List Row) → (0 < spare) ⊎ IsSome (row_of rows map link client)
    → (0 < spare) ⊎ IsSome (find (is_at (row_cmp (record { map = map; link = link; client = client; seq = seq }))) rows)
room_at map link client seq spare rows room = elim room [
  | inl there ↦ inl there
  | inr some ↦ inr (ap is_some (found_is map link client seq rows) ∙ sym (some_in (find (is_of map link client) rows)) ∙ some)
]

-- what holds of all rows and of a new one
pub placed_all : {A : Type 0} (P : A → Type 0) (R : A → A → Ordering) (xs : List A) (x : A) → All P xs → P x → All P (placed R xs x)
placed_all P R [] x all here = All-cons P x [] here (All-nil P)
placed_all P R (y ∷ ys) x all here =
    let rest = All-tail P y ys all in
    elim (R x y) as (λ o. All P (match_ordering o (x ∷ y ∷ ys) (x ∷ ys) (y ∷ placed R ys x))) [
      | Less ↦ All-cons P x (y ∷ ys) here all
      | Equal ↦ All-cons P x ys here rest
      | Greater ↦ All-cons P y (placed R ys x) (All-head P y ys all) (placed_all P R ys x rest here)
    ]

-- the rows past a map and a link are those past the last client's there
past_is : (after : Option (ℕ × ℕ)) (r : Row) → r.client < client_limit → is_from_start row_cmp (behind after) r ≡ is_past after r
past_is None r lt = refl
past_is (Some place) r lt = grind (arith, nat_tests, lt)

pub first_past : (after : Option (ℕ × ℕ)) (rows : List Row) → All (λ r. r.client < client_limit) rows
    → find (is_from_start row_cmp (behind after)) rows ≡ find (is_past after) rows
first_past after [] all = refl
first_past after (r ∷ rows) all =
    let here = past_is after r (All-head (λ x. x.client < client_limit) r rows all) in
    let rest = first_past after rows (All-tail (λ x. x.client < client_limit) r rows all) in
    elim (cases_Bool (is_past after r)) [
      | inl is ↦ rw (here, is) refl
      | inr is ↦ rw (here, is) rest
    ]

-- ### The rows of a link go

none_from : (map link : ℕ) (rows : List Row) → All (λ r. r.client < client_limit) rows → rows ≡ without_from 8 rows map link
none_from map link [] all = refl
none_from map link (r ∷ rows) all =
    let lt = All-head (λ x. x.client < client_limit) r rows all in
    let short : nat_le 8 r.client ≡ false = grind (arith, nat_tests, lt) in
    let kept : not (is_on map link r && nat_le 8 r.client) ≡ true = rw short (grind (arith, nat_tests)) in
    rw kept (ap (λ (l : List Row). r ∷ l) (none_from map link rows (All-tail (λ x. x.client < client_limit) r rows all)))

-- a row past one of a client is none of its own
later_row : (map link client : ℕ) (r x : Row) → is_of map link client r ≡ true → row_cmp r x ≡ Less
    → is_on map link x && nat_le (client + 1) x.client ≡ is_on map link x && nat_le client x.client
later_row map link client r x is less = grind (arith, nat_tests, is, less)

rest_same : (map link client : ℕ) (r : Row) (rows : List Row) → is_of map link client r ≡ true → AllByRecursion (λ x. row_cmp r x ≡ Less) rows
    → without_from (client + 1) rows map link ≡ without_from client rows map link
rest_same map link client r [] is over = refl
rest_same map link client r (x ∷ rows) is over =
    let rest = rest_same map link client r rows is over.1 in
    let same = later_row map link client r x is over.0 in
    elim (cases_Bool (is_on map link x && nat_le client x.client)) [
      | inl gone ↦ rw (same, gone) rest
      | inr stays ↦ rw (same, stays) (ap (λ (l : List Row). x ∷ l) rest)
    ]

own_row : (map link client : ℕ) (r : Row) → is_of map link client r ≡ true → is_on map link r && nat_le client r.client ≡ true
own_row map link client r is = grind (arith, nat_tests, is)

other_row : (map link client : ℕ) (r : Row) → is_of map link client r ≡ false
    → is_on map link r && nat_le (client + 1) r.client ≡ is_on map link r && nat_le client r.client
other_row map link client r isnt = grind (arith, nat_tests, isnt)

dropped_is : (map link client : ℕ) (rows : List Row) → IsStrictlySortedBy row_cmp rows
    → without_from (client + 1) (remove_key (is_at (row_cmp (record { map = map; link = link; client = client; seq = 0 }))) rows) map link
    ≡ without_from client rows map link
unfolding IsStrictlySortedBy
dropped_is map link client [] sorted = refl
dropped_is map link client (r ∷ rows) sorted = elim (cases_Bool (is_of map link client r)) [
  | inl is ↦ rw (at_is map link client 0 r, is, own_row map link client r is) (rest_same map link client r rows is sorted.0)
  | inr isnt ↦
      let rest = dropped_is map link client rows sorted.1 in
      let same = other_row map link client r isnt in
      elim (cases_Bool (is_on map link r && nat_le client r.client)) [
        | inl gone ↦ rw (at_is map link client 0 r, isnt, same, gone) rest
        | inr stays ↦ rw (at_is map link client 0 r, isnt, same, stays) (ap (λ (l : List Row). r ∷ l) rest)
      ]
]

pub dropped_all : (map link client : ℕ) (rows mid new : List Row) → IsStrictlySortedBy row_cmp rows
    → mid ≡ remove_key (is_at (row_cmp (record { map = map; link = link; client = client; seq = 0 }))) rows
    → new ≡ without_from (client + 1) mid map link → new ≡ without_from client rows map link
dropped_all map link client rows mid new sorted is gone =
    gone ∙ ap (λ (l : List Row). without_from (client + 1) l map link) is ∙ dropped_is map link client rows sorted

pub dropped_none : (map link client : ℕ) (rows : List Row) → client ≡ 8 → All (λ r. r.client < client_limit) rows → rows ≡ without_from client rows map link
dropped_none map link client rows is all = rw is (none_from map link rows all)

pub removed_all : (P : Row → Type 0) (test : Row → Bool) (rows mid : List Row) → mid ≡ remove_key test rows → All P rows → All P mid
removed_all P test rows mid is all = rw is (All-remove_key test P rows all)

-- from the first client on
pub all_dropped : (map link : ℕ) (rows : List Row) → without_from 0 rows map link ≡ without_rows rows map link
all_dropped map link [] = refl
all_dropped map link (r ∷ rows) =
    let whole : is_on map link r && nat_le 0 r.client ≡ is_on map link r = grind (arith, nat_tests) in
    elim (cases_Bool (is_on map link r)) [
      | inl gone ↦ rw (whole, gone) (all_dropped map link rows)
      | inr stays ↦ rw (whole, stays) (ap (λ (l : List Row). r ∷ l) (all_dropped map link rows))
    ]

-- ### Rows in order, one by one

none_of : (r : Row) (rows : List Row) → AllByRecursion (λ y. row_cmp y r ≡ Less) rows → row_of rows r.map r.link r.client ≡ None
none_of r [] over = refl
none_of r (y ∷ rows) over =
    let less = over.0 in
    let other : is_of r.map r.link r.client y ≡ false = grind (arith, nat_tests, less) in
    rw other (none_of r rows over.1)

row_total : IsTotalOrder row_cmp
row_total = search (comparing, rules)

-- the write that a row is of
abbrev pub origin_of : Row → Named
origin_of row = record { link = row.link; client = row.client; seq = row.seq }

-- a row that comes after all others stands last
pub row_last : (r : Row) (rows : List Row) → AllByRecursion (λ y. row_cmp y r ≡ Less) rows → with_row rows r.map (origin_of r) ≡ rows ++ r ∷ []
row_last r rows over = rw (none_of r rows over) (placed_last row_cmp row_total r rows over)

pub rows_refilled : (front rows : List Row) → IsStrictlySortedBy row_cmp (front ++ rows)
    → fold (λ kept row. with_row kept row.map (origin_of row)) front rows ≡ front ++ rows
rows_refilled front [] sorted = sym (append-nil front)
rows_refilled front (r ∷ rows) sorted =
    let last : with_row front r.map (origin_of r) ≡ front ++ r ∷ [] = row_last r front (below_next row_cmp r front rows sorted) in
    let whole : (front ++ r ∷ []) ++ rows ≡ front ++ r ∷ rows = append_assoc front (r ∷ []) rows in
    ap (λ (l : List Row). fold (λ kept row. with_row kept row.map (origin_of row)) l rows) last
    ∙ rows_refilled (front ++ r ∷ []) rows (subst (λ (l : List Row). IsStrictlySortedBy row_cmp l) (sym whole) sorted)
    ∙ whole

-- ### One row more

-- a row whose map, link and client have none is one more
pub row_more : (r : Row) (rows : List Row) → is_some (row_of rows r.map r.link r.client) ≡ false → length (placed row_cmp rows r) ≡ length rows + 1
row_more r [] none = refl
row_more r (x ∷ rows) none =
    elim (row_cmp r x) as (λ o. row_cmp r x ≡ o → length (match_ordering o (r ∷ x ∷ rows) (r ∷ rows) (x ∷ placed row_cmp rows r)) ≡ length (x ∷ rows) + 1) [
      | Less ↦ λ _. omega arith
      | Equal ↦ λ same.
          let here : is_of r.map r.link r.client x ≡ true = grind (arith, nat_tests, same) in
          let clash : true ≡ false = rw here at none in absurd (cc)
      | Greater ↦ λ more.
          let other : is_of r.map r.link r.client x ≡ false = grind (arith, nat_tests, more) in
          let later : is_some (row_of rows r.map r.link r.client) ≡ false = rw other at none in
          let rest = row_more r rows later in omega (arith, rest)
    ] refl
