-- Marks that are set stay in their order, so that a mark that is set already is not set twice.
use Rattle.std.proofs.Common.{◌≡◌, ◌≤◌, ◌+◌, ◌||◌, true, false, List, [], ◌∷◌, length, refl, sym, ap, ◌∙◌, arith}
use Rattle.std.proofs.lemmas.Cmp.{nat_cmp_total, on_total, then_total}
use Rattle.std.specs.BTreeSet.{insert_key}
use Rattle.std.specs.Cmp.{IsTotalOrder}
use Rattle.std.specs.List.{AllByRecursion}
use Rattle.std.specs.List.Sorted.{IsStrictlySortedBy}
use Rattle.std.specs.Ordering.{is_eq, match_ordering, ordering_reverse}
use Rattle.std.specs.declared.cmp.Ordering.TheVariants.{Less, Equal, Greater}
use Rattle.busy_marks.specs.declared.marks.Mark.{Mark}
use Rattle.busy_marks.specs.Marks.{has_mark, kind_rank, mark_cmp, same_mark, with_mark}
use Rattle.busy_marks.proofs.Orders.{ties}

mark_cmp_total : IsTotalOrder mark_cmp
mark_cmp_total =
    then_total (then_total (on_total (λ (m : Mark). m.cell.map) nat_cmp_total) (on_total (λ (m : Mark). m.cell.block) nat_cmp_total))
    (on_total (λ (m : Mark). kind_rank m.kind) nat_cmp_total)

above_less : (m x : Mark) (xs : List Mark) → mark_cmp m x ≡ Less → AllByRecursion (λ y. mark_cmp x y ≡ Less) xs → AllByRecursion (λ y. mark_cmp m y ≡ Less) xs
above_less m x [] less over = over
above_less m x (y ∷ xs) less over = (mark_cmp_total.trans m x y less over.0, above_less m x xs less over.1)

above_with : (x m : Mark) (xs : List Mark) → mark_cmp x m ≡ Less → AllByRecursion (λ y. mark_cmp x y ≡ Less) xs
    → AllByRecursion (λ y. mark_cmp x y ≡ Less) (with_mark xs m)
above_with x m [] less over = (less, over)
above_with x m (y ∷ xs) less over =
    elim (mark_cmp m y) as (λ o. AllByRecursion (λ z. mark_cmp x z ≡ Less) (match_ordering o (m ∷ y ∷ xs) (y ∷ xs) (y ∷ insert_key mark_cmp xs m))) [
      | Less ↦ (less, over)
      | Equal ↦ over
      | Greater ↦ (over.0, above_with x m xs less over.1)
    ]

-- a mark that is set stands in its place
pub sorted_with : (m : Mark) (ms : List Mark) → IsStrictlySortedBy mark_cmp ms → IsStrictlySortedBy mark_cmp (with_mark ms m)
unfolding IsStrictlySortedBy
sorted_with m [] sorted = (sorted, sorted)
sorted_with m (x ∷ ms) sorted =
    elim (mark_cmp m x) as (λ o. mark_cmp m x ≡ o → IsStrictlySortedBy mark_cmp (match_ordering o (m ∷ x ∷ ms) (x ∷ ms) (x ∷ insert_key mark_cmp ms m))) [
      | Less ↦ λ less. ((less, above_less m x ms less sorted.0), sorted)
      | Equal ↦ λ _. sorted
      | Greater ↦ λ more. (above_with x m ms (mark_cmp_total.antisymm x m ∙ ap ordering_reverse more) sorted.0, sorted_with m ms sorted.1)
    ] refl

none_above : (m : Mark) (ms : List Mark) → AllByRecursion (λ y. mark_cmp m y ≡ Less) ms → has_mark m ms ≡ false
none_above m [] over = refl
none_above m (x ∷ ms) over = ap (λ b. b || has_mark m ms) (sym (ties m x) ∙ ap is_eq over.0) ∙ none_above m ms over.1

-- a mark that is set already is not set twice
pub set_already : (m : Mark) (ms : List Mark) → IsStrictlySortedBy mark_cmp ms → has_mark m ms ≡ true → with_mark ms m ≡ ms
unfolding IsStrictlySortedBy
set_already m [] sorted there = absurd (cc)
set_already m (x ∷ ms) sorted there =
    elim (mark_cmp m x) as (λ o. mark_cmp m x ≡ o → match_ordering o (m ∷ x ∷ ms) (x ∷ ms) (x ∷ insert_key mark_cmp ms m) ≡ x ∷ ms) [
      | Less ↦ λ less.
          let none : has_mark m (x ∷ ms) ≡ false = none_above m (x ∷ ms) (less, above_less m x ms less sorted.0) in
          let clash : true ≡ false = sym there ∙ none in absurd (cc)
      | Equal ↦ λ _. refl
      | Greater ↦ λ more.
          let other : same_mark x m ≡ false = sym (ties m x) ∙ ap is_eq more in
          ap (λ (l : List Mark). x ∷ l) (set_already m ms sorted.1 (sym (ap (λ b. b || has_mark m ms) other) ∙ there))
    ] refl

-- one mark more, or none
pub length_with : (m : Mark) (ms : List Mark) → length (with_mark ms m) ≤ length ms + 1
length_with m [] = omega arith
length_with m (x ∷ ms) =
    elim (mark_cmp m x) as (λ o. length (match_ordering o (m ∷ x ∷ ms) (x ∷ ms) (x ∷ insert_key mark_cmp ms m)) ≤ length (x ∷ ms) + 1) [
      | Less ↦ omega arith
      | Equal ↦ omega arith
      | Greater ↦ omega (arith, length_with m ms)
    ]
