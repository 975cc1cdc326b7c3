-- What a search in a sorted list of marks finds.
use Rattle.std.proofs.Common.{◌++◌, append_assoc, subst, ◌+◌, length, get_or, ◌≡◌, ◌≤◌, ◌<◌, ◌⊎◌, ℕ, Bool, true, false, ◌&&◌, ◌==◌, nat_lt, nat_le}
use Rattle.std.proofs.Common.{List, [], ◌∷◌, Option, None, Some, refl, sym, ap, ◌∙◌, arith, inl, inr}
use Rattle.std.proofs.lemmas.Bool.{cases_Bool, cases_eq}
use Rattle.std.proofs.lemmas.Map.Keys.{Less-from_sorted}
use Rattle.std.proofs.lemmas.Option.{slice_get-get_or}
use Rattle.std.proofs.lemmas.Bool.Decides.{nat_tests}
use Rattle.std.proofs.lemmas.List.Elements.{All-head, All-tail}
use Rattle.std.proofs.lemmas.List.{append-nil}
use Rattle.sorted_list.proofs.Orders.{below_next}
use Rattle.busy_marks.specs.declared.marks.MarkKind.{MarkKind}
use Rattle.std.specs.Prelude.{filter, fold}
use Rattle.std.specs.List.{All, AllByRecursion, find}
use Rattle.std.specs.List.Sorted.{IsStrictlySortedBy}
use Rattle.std.specs.Ordering.{is_eq, match_ordering, nat_cmp, ordering_then}
use Rattle.std.specs.Set.{remove_key}
use Rattle.std.specs.BTreeMap.{is_at}
use Rattle.std.specs.declared.cmp.Ordering.TheVariants.{Less, Equal, Greater}
use Rattle.std.specs.BTreeMap.Range.{is_from_start}
use Rattle.std.specs.BTreeSet.{insert_key}
use Rattle.sorted_list.specs.Lists.{placed}
use Rattle.std.specs.Option.{IsSome, is_some}
use Rattle.std.specs.declared.cmp.Ordering.{Ordering}
use Rattle.std.specs.declared.ops.Bound.{Bound}
use Rattle.busy_marks.specs.declared.marks.Mark.{Mark}
use Rattle.busy_marks.specs.Marks.{kind_rank, mark_cmp, has_mark, same_mark, with_mark, without_mark, above, lesser, next_marked, next_marked_map}
use Rattle.busy_marks.specs.Searches.{after_block, from_map, block_on, map_on}
use Rattle.busy_marks.proofs.Orders.{is_mark, ties, reach, reach_map, before}

-- a mark is taken out once where the list is sorted
rest_stays : (mark x : Mark) (ms : List Mark) → same_mark x mark ≡ true → AllByRecursion (λ y. mark_cmp x y ≡ Less) ms → without_mark ms mark ≡ ms
rest_stays mark x [] same over = refl
rest_stays mark x (m ∷ ms) same over =
    let less : mark_cmp mark m ≡ Less = ap (λ k. mark_cmp k m) (sym (is_mark x mark same)) ∙ over.0 in
    let apart : same_mark m mark ≡ false = sym (ties mark m) ∙ ap is_eq less in
    rw apart (ap (λ (l : List Mark). m ∷ l) (rest_stays mark x ms same over.1))

pub taken_out : (mark : Mark) (ms : List Mark) → IsStrictlySortedBy mark_cmp ms → remove_key (is_at (mark_cmp mark)) ms ≡ without_mark ms mark
unfolding IsStrictlySortedBy
taken_out mark [] sorted = refl
taken_out mark (m ∷ ms) sorted = elim (cases_Bool (same_mark m mark)) [
  | inl same ↦ rw (ties mark m, same) (sym (rest_stays mark m ms same sorted.0))
  | inr apart ↦ rw (ties mark m, apart) (ap (λ (l : List Mark). m ∷ l) (taken_out mark ms sorted.1))
]

-- no mark on this map after these
pub none_over : (map : ℕ) (after : Option ℕ) (x : Mark) (ms : List Mark) → nat_lt map x.cell.map ≡ true → AllByRecursion (λ y. mark_cmp x y ≡ Less) ms
    → next_marked map after ms ≡ None
none_over map after x [] past over = refl
none_over map after x (m ∷ ms) past over =
    let first = before x m over.0 in
    let other : m.cell.map == map ≡ false = grind (arith, nat_tests, past, first.0) in
    rw other (none_over map after x ms past over.1)

no_less : (a b : ℕ) (o : Option ℕ) → nat_le a b ≡ true → lesser (Some a) o ≡ Some a → lesser (Some a) (lesser (Some b) o) ≡ Some a
no_less a b None le rest = grind (arith, nat_tests, le)
no_less a b (Some c) le rest = grind (arith, nat_tests, le, rest)

-- what is over a mark on the map is no less
at_least : (map : ℕ) (after : Option ℕ) (x : Mark) (ms : List Mark) → x.cell.map == map ≡ true → AllByRecursion (λ y. mark_cmp x y ≡ Less) ms
    → lesser (Some x.cell.block) (next_marked map after ms) ≡ Some x.cell.block
at_least map after x [] own over = refl
at_least map after x (m ∷ ms) own over =
    let first = before x m over.0 in
    let rest = at_least map after x ms own over.1 in
    elim (cases_Bool (m.cell.map == map && above after m.cell.block)) [
      | inl is ↦ let le : nat_le x.cell.block m.cell.block ≡ true = first.1 (grind (arith, nat_tests, own, is)) in
          rw is (no_less x.cell.block m.cell.block (next_marked map after ms) le rest)
      | inr is ↦ rw is rest
    ]

pub block_found : (map : ℕ) (after : Option ℕ) (ms : List Mark) → IsStrictlySortedBy mark_cmp ms
    → block_on map (find (is_from_start mark_cmp (after_block map after)) ms) ≡ next_marked map after ms
unfolding IsStrictlySortedBy
block_found map after [] sorted = refl
block_found map after (m ∷ ms) sorted =
    let rest = block_found map after ms sorted.1 in
    elim (cases_Bool (m.cell.map == map && above after m.cell.block)) [
      | inl is ↦
          let here : is_from_start mark_cmp (after_block map after) m ≡ true = reach map after m ∙ grind (arith, nat_tests, is) in
          let own : m.cell.map == map ≡ true = grind (arith, nat_tests, is) in
          rw (is, here, own) (sym (at_least map after m ms own sorted.0))
      | inr is ↦ elim (cases_Bool (nat_lt map m.cell.map)) [
        | inl past ↦
            let here : is_from_start mark_cmp (after_block map after) m ≡ true = reach map after m ∙ grind (arith, nat_tests, past) in
            let other : m.cell.map == map ≡ false = grind (arith, nat_tests, past) in
            rw (is, here, other) (sym (none_over map after m ms past sorted.0))
        | inr short ↦
            let skipped : is_from_start mark_cmp (after_block map after) m ≡ false = reach map after m ∙ grind (arith, nat_tests, short, is) in
            rw (is, skipped) rest
      ]
    ]

-- ### Maps

-- what is over a mark is on no lesser map
least_map : (after : Option ℕ) (x : Mark) (ms : List Mark) → AllByRecursion (λ y. mark_cmp x y ≡ Less) ms
    → lesser (Some x.cell.map) (next_marked_map after ms) ≡ Some x.cell.map
least_map after x [] over = refl
least_map after x (m ∷ ms) over =
    let first = before x m over.0 in
    let rest = least_map after x ms over.1 in
    elim (cases_Bool (above after m.cell.map)) [
      | inl is ↦ rw is (no_less x.cell.map m.cell.map (next_marked_map after ms) first.0 rest)
      | inr is ↦ rw is rest
    ]

pub map_found : (after : Option ℕ) (first : ℕ) (ms : List Mark) → ((n : ℕ) → above after n ≡ nat_le first n) → IsStrictlySortedBy mark_cmp ms
    → map_on (find (is_from_start mark_cmp (from_map first)) ms) ≡ next_marked_map after ms
unfolding IsStrictlySortedBy
map_found after first [] same sorted = refl
map_found after first (m ∷ ms) same sorted =
    let rest = map_found after first ms same sorted.1 in
    let test : is_from_start mark_cmp (from_map first) m ≡ above after m.cell.map = reach_map first m ∙ sym (same m.cell.map) in
    elim (cases_Bool (above after m.cell.map)) [
      | inl is ↦ rw (test, is) (sym (least_map after m ms sorted.0))
      | inr is ↦ rw (test, is) rest
    ]

pub no_map : (after : Option ℕ) (last : ℕ) (ms : List Mark) → ((n : ℕ) → n ≤ last → above after n ≡ false) → All (λ m. m.cell.map ≤ last) ms
    → next_marked_map after ms ≡ None
no_map after last [] none all = refl
no_map after last (m ∷ ms) none all =
    let skipped = none m.cell.map (All-head (λ x. x.cell.map ≤ last) m ms all) in
    rw skipped (no_map after last ms none (All-tail (λ x. x.cell.map ≤ last) m ms all))

-- the last mark has the greatest map
pub last_greatest : (ms : List Mark) (at : ℕ) (any : Mark) → IsStrictlySortedBy mark_cmp ms → at + 1 ≡ length ms
    → All (λ m. m.cell.map ≤ (get_or ms at any).cell.map) ms
last_greatest ms at any sorted ends = λ k d lt.
    let here = slice_get-get_or ms at d (omega (arith, ends)) in
    let there = slice_get-get_or ms at any (omega (arith, ends)) in
    let same : get_or ms at d ≡ get_or ms at any = cc (here, there) in
    elim (cases_eq k at) [
      | inl one ↦ rw (one, same) (omega arith)
      | inr other ↦
          let over = Less-from_sorted mark_cmp ms k at d sorted (omega (arith, lt, ends, other)) (omega (arith, ends)) in
          let le = (before (get_or ms k d) (get_or ms at d) over).0 in
          let less : nat_le (get_or ms k d).cell.map (get_or ms at any).cell.map ≡ true = rw same at le in
          grind (arith, nat_tests, less)
    ]

-- ### By an order that is this one

pub first_by : (order : Mark → Mark → Ordering) (start : Bound Mark) (ms : List Mark) (r : Option Mark) → IsStrictlySortedBy order ms → order ≡ mark_cmp
    → r ≡ find (is_from_start order start) ms → r ≡ find (is_from_start mark_cmp start) ms
first_by order start ms r ordered same is = is ∙ ap (λ (R : Mark → Mark → Ordering). find (is_from_start R start) ms) same

-- that what is left is in the order tells which order it is
pub taken_by : (order : Mark → Mark → Ordering) (mark : Mark) (ms left : List Mark) → IsStrictlySortedBy order left → order ≡ mark_cmp
    → IsStrictlySortedBy mark_cmp ms → left ≡ remove_key (is_at (order mark)) ms → left ≡ without_mark ms mark
taken_by order mark ms left ordered same sorted is =
    is ∙ ap (λ (R : Mark → Mark → Ordering). remove_key (is_at (R mark)) ms) same ∙ taken_out mark ms sorted

-- a mark takes the place of itself
placed_is : (ms : List Mark) (mark : Mark) → placed mark_cmp ms mark ≡ with_mark ms mark
placed_is [] mark = refl
placed_is (m ∷ ms) mark = elim (mark_cmp mark m) as (λ o. mark_cmp mark m ≡ o
    → match_ordering o (mark ∷ m ∷ ms) (mark ∷ ms) (m ∷ placed mark_cmp ms mark)
    ≡ match_ordering o (mark ∷ m ∷ ms) (m ∷ ms) (m ∷ insert_key mark_cmp ms mark)) [
      | Less ↦ λ _. refl
      | Equal ↦ λ tie. ap (λ (k : Mark). k ∷ ms) (sym (is_mark m mark (sym (ties mark m) ∙ ap is_eq tie)))
      | Greater ↦ λ _. ap (λ (l : List Mark). m ∷ l) (placed_is ms mark)
    ] refl

pub set_by : (order : Mark → Mark → Ordering) (mark : Mark) (ms new : List Mark) → IsStrictlySortedBy order new → order ≡ mark_cmp
    → new ≡ placed order ms mark → new ≡ with_mark ms mark
set_by order mark ms new ordered same is = is ∙ ap (λ (R : Mark → Mark → Ordering). placed R ms mark) same ∙ placed_is ms mark

found_any : (ms : List Mark) (mark : Mark) → is_some (find (is_at (mark_cmp mark)) ms) ≡ has_mark mark ms
found_any [] mark = refl
found_any (m ∷ ms) mark = elim (cases_Bool (same_mark m mark)) [
  | inl same ↦ rw (ties mark m, same) refl
  | inr apart ↦ rw (ties mark m, apart) (found_any ms mark)
]

pub has_by : (order : Mark → Mark → Ordering) (mark : Mark) (ms : List Mark) → IsStrictlySortedBy order ms → order ≡ mark_cmp
    → is_some (find (is_at (order mark)) ms) ≡ has_mark mark ms
has_by order mark ms ordered same = ap (λ (R : Mark → Mark → Ordering). is_some (find (is_at (R mark)) ms)) same ∙ found_any ms mark

pub room_by : (order : Mark → Mark → Ordering) (mark : Mark) (ms : List Mark) (spare : ℕ) → order ≡ mark_cmp
    → (0 < spare) ⊎ (has_mark mark ms ≡ true) → (0 < spare) ⊎ IsSome (find (is_at (order mark)) ms)
room_by order mark ms spare same room = elim room [
  | inl there ↦ inl there
  | inr has ↦ inr (ap (λ (R : Mark → Mark → Ordering). is_some (find (is_at (R mark)) ms)) same ∙ found_any ms mark ∙ has)
]

-- ### Marks in order, one by one

turned : (a b : Mark) (j k : MarkKind)
    → ordering_then (ordering_then (nat_cmp a.cell.map b.cell.map) (nat_cmp a.cell.block b.cell.block)) (nat_cmp (kind_rank j) (kind_rank k)) ≡ Less
    → ordering_then (ordering_then (nat_cmp b.cell.map a.cell.map) (nat_cmp b.cell.block a.cell.block)) (nat_cmp (kind_rank k) (kind_rank j)) ≡ Greater
turned a b j k less = grind (arith, nat_tests, less)

-- a mark that comes after all others stands last
pub mark_last : (mark : Mark) (ms : List Mark) → AllByRecursion (λ m. mark_cmp m mark ≡ Less) ms → with_mark ms mark ≡ ms ++ mark ∷ []
mark_last mark [] over = refl
mark_last mark (m ∷ ms) over =
    let past : mark_cmp mark m ≡ Greater = turned m mark m.kind mark.kind over.0 in rw past (ap (λ (l : List Mark). m ∷ l) (mark_last mark ms over.1))

pub marks_refilled : (front ms : List Mark) → IsStrictlySortedBy mark_cmp (front ++ ms) → fold with_mark front ms ≡ front ++ ms
marks_refilled front [] sorted = sym (append-nil front)
marks_refilled front (m ∷ ms) sorted =
    let last : with_mark front m ≡ front ++ m ∷ [] = mark_last m front (below_next mark_cmp m front ms sorted) in
    let whole : (front ++ m ∷ []) ++ ms ≡ front ++ m ∷ ms = append_assoc front (m ∷ []) ms in
    ap (λ (l : List Mark). fold with_mark l ms) last
    ∙ marks_refilled (front ++ m ∷ []) ms (subst (λ (l : List Mark). IsStrictlySortedBy mark_cmp l) (sym whole) sorted)
    ∙ whole
