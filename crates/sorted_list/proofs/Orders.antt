-- Where an item stands among those in order, and what stands there after a change.
use Rattle.std.proofs.Common.{◌++◌, append_assoc, subst, ◌+◌, ◌≡◌, ◌<◌, ◌≤◌, ℕ, zero, suc, List, [], ◌∷◌, length, get_or, set, Option, None, Some}
use Rattle.std.proofs.Common.{refl, sym, ap, ◌∙◌, arith, inl, inr}
use Rattle.std.proofs.lemmas.List.{append-nil}
use Rattle.std.proofs.lemmas.Map.Keys.{Less-from_sorted}
use Rattle.std.proofs.lemmas.Option.{slice_get-get_or, slice_get_past}
use Rattle.std.proofs.lemmas.Bool.{cases_Bool, cases_eq}
use Rattle.std.specs.BTreeMap.Comparable.{le_lt_trans}
use Rattle.std.specs.BTreeMap.Range.{is_from_start}
use Rattle.std.specs.declared.ops.Bound.{Bound}
use Rattle.std.specs.declared.ops.Bound.TheVariants.{Included, Excluded, Unbounded}
use Rattle.std.specs.Prelude.{fold, Bool, true, false, not, slice_get, Result, Ok, Err, IfOk, IfErr, IsSome}
use Rattle.std.specs.List.{prefix_len, AllByRecursion, find, insert, remove}
use Rattle.std.specs.List.Sorted.{IsPartitionedBy, IsBinarySearchResult, IsNonDecreasingBy, IsPartitionPoint, IsSearchInRange, IsStrictlySortedBy}
use Rattle.std.specs.Ordering.{is_le, is_lt, match_ordering, ordering_index, ordering_reverse}
use Rattle.std.specs.BTreeMap.{is_at}
use Rattle.std.specs.Cmp.{IsTotalOrder, alike_right, tied_back}
use Rattle.std.specs.Set.{remove_key}
use Rattle.std.specs.declared.cmp.Ordering.{Ordering}
use Rattle.std.specs.declared.cmp.Ordering.TheVariants.{Less, Equal, Greater}
use Rattle.sorted_list.specs.Lists.{Gap, Hit, placed}

le_of : (o : Ordering) → is_lt o ≡ true → is_le o ≡ true
le_of Less is = refl
le_of Equal is = cc
le_of Greater is = cc

-- the first item that passes stands behind those at the front that don't
pub first_behind : {A : Type 0} (p : A → Bool) (xs : List A) → find p xs ≡ slice_get xs (prefix_len (λ y. not (p y)) xs)
first_behind p [] = refl
first_behind p (x ∷ xs) = elim (cases_Bool (p x)) [
  | inl is ↦ rw is refl
  | inr is ↦
      let behind = prefix_len (λ y. not (p y)) xs in
      let one : 1 + behind ≡ suc behind = omega arith in
      rw (is, one) (first_behind p xs)
]

module _ {A : Type 0} (R : A → A → Ordering) (x : A) where
  -- ### What a place means for a change there

  hit_rest : (y : A) (ys : List A) (at : ℕ) → Hit R x (y ∷ ys) (suc at) → Hit R x ys at
  hit_rest y ys at hit = record {
    within = omega (arith, hit.within);
    before = λ k d lt. hit.before (suc k) d (omega (arith, lt));
    ties = λ d. hit.ties d;
  }

  gap_rest : (y : A) (ys : List A) (at : ℕ) → Gap R x (y ∷ ys) (suc at) → Gap R x ys at
  gap_rest y ys at gap = record {
    within = omega (arith, gap.within);
    before = λ k d lt. gap.before (suc k) d (omega (arith, lt));
    following = λ k d le lt. gap.following (suc k) d (omega (arith, le)) (omega (arith, lt));
  }

  gap_later : (y : A) (ys : List A) → Gap R x (y ∷ ys) zero → Gap R x ys zero
  gap_later y ys gap = record {
    within = omega arith;
    before = λ k d lt. absurd (omega (arith, lt));
    following = λ k d le lt. gap.following (suc k) d (omega arith) (omega (arith, lt));
  }

  pub placed_hit : (xs : List A) (at : ℕ) → Hit R x xs at → placed R xs x ≡ set xs at x
  placed_hit [] at hit = absurd (let lt = hit.within in omega (arith, lt))
  placed_hit (y ∷ ys) zero hit = let tie : R x y ≡ Equal = hit.ties y in rw tie refl
  placed_hit (y ∷ ys) (suc at) hit =
      let past : R x y ≡ Greater = hit.before 0 y (omega arith) in rw past (ap (λ (l : List A). y ∷ l) (placed_hit ys at (hit_rest y ys at hit)))

  pub placed_gap : (xs : List A) (at : ℕ) → Gap R x xs at → placed R xs x ≡ insert xs at x
  placed_gap [] zero gap = refl
  placed_gap [] (suc at) gap = absurd (let le = gap.within in omega (arith, le))
  placed_gap (y ∷ ys) zero gap = let short : R x y ≡ Less = gap.following 0 y (omega arith) (omega arith) in rw short refl
  placed_gap (y ∷ ys) (suc at) gap =
      let past : R x y ≡ Greater = gap.before 0 y (omega arith) in rw past (ap (λ (l : List A). y ∷ l) (placed_gap ys at (gap_rest y ys at gap)))

  pub removed_hit : (xs : List A) (at : ℕ) → Hit R x xs at → remove_key (is_at (R x)) xs ≡ remove xs at
  removed_hit [] at hit = absurd (let lt = hit.within in omega (arith, lt))
  removed_hit (y ∷ ys) zero hit = let tie : R x y ≡ Equal = hit.ties y in rw tie refl
  removed_hit (y ∷ ys) (suc at) hit =
      let past : R x y ≡ Greater = hit.before 0 y (omega arith) in rw past (ap (λ (l : List A). y ∷ l) (removed_hit ys at (hit_rest y ys at hit)))

  pub removed_gap : (xs : List A) (at : ℕ) → Gap R x xs at → remove_key (is_at (R x)) xs ≡ xs
  removed_gap [] at gap = refl
  removed_gap (y ∷ ys) zero gap =
      let short : R x y ≡ Less = gap.following 0 y (omega arith) (omega arith) in
      rw short (ap (λ (l : List A). y ∷ l) (removed_gap ys zero (gap_later y ys gap)))
  removed_gap (y ∷ ys) (suc at) gap =
      let past : R x y ≡ Greater = gap.before 0 y (omega arith) in rw past (ap (λ (l : List A). y ∷ l) (removed_gap ys at (gap_rest y ys at gap)))

  pub found_hit : (xs : List A) (at : ℕ) (d : A) → Hit R x xs at → find (is_at (R x)) xs ≡ Some (get_or xs at d)
  found_hit [] at d hit = absurd (let lt = hit.within in omega (arith, lt))
  found_hit (y ∷ ys) zero d hit = let tie : R x y ≡ Equal = hit.ties y in rw tie refl
  found_hit (y ∷ ys) (suc at) d hit = let past : R x y ≡ Greater = hit.before 0 y (omega arith) in rw past (found_hit ys at d (hit_rest y ys at hit))

  pub found_gap : (xs : List A) (at : ℕ) → Gap R x xs at → find (is_at (R x)) xs ≡ None
  found_gap [] at gap = refl
  found_gap (y ∷ ys) zero gap =
      let short : R x y ≡ Less = gap.following 0 y (omega arith) (omega arith) in rw short (found_gap ys zero (gap_later y ys gap))
  found_gap (y ∷ ys) (suc at) gap = let past : R x y ≡ Greater = gap.before 0 y (omega arith) in rw past (found_gap ys at (gap_rest y ys at gap))

  -- ### What is found by a search

  module _ (order : IsTotalOrder R) where
    turned : (y : A) (o : Ordering) → R y x ≡ o → R x y ≡ ordering_reverse o
    turned y o is = order.antisymm x y ∙ ap ordering_reverse is

    turned_back : (y : A) (o : Ordering) → R x y ≡ o → R y x ≡ ordering_reverse o
    turned_back y o is = order.antisymm y x ∙ ap ordering_reverse is

    pub hit_from : (xs : List A) (at : ℕ) → IsStrictlySortedBy R xs → at < length xs → ((d : A) → R (get_or xs at d) x ≡ Equal) → Hit R x xs at
    hit_from xs at sorted lt ties = record {
      within = lt;
      before = λ k d less.
          let here = get_or xs k d in
          let there = get_or xs at d in
          let below : R here there ≡ Less = Less-from_sorted R xs k at d sorted less lt in
          turned here Less (sym (alike_right order there x here (ties d)) ∙ below);
      ties = λ d. tied_back order (get_or xs at d) x (ties d);
    }

    rises_by : (y z : A) (o : Ordering) → R y x ≡ o → R y z ≡ Less → ordering_index (R y x) ≤ ordering_index (R z x)
    rises_by y z Less is less = rw is (omega arith)
    rises_by y z Equal is less =
        let over : R z x ≡ Greater = turned_back z Less (sym (order.congr y x z is) ∙ less) in rw (is, over) (omega arith)
    rises_by y z Greater is less =
        let over : R z x ≡ Greater = turned_back z Less (order.trans x y z (turned y Greater is) less) in rw (is, over) (omega arith)

    pub rises : (xs : List A) → IsStrictlySortedBy R xs → IsNonDecreasingBy (λ y. ordering_index (R y x)) xs
    rises xs sorted = λ i j d le lt. elim (cases_eq i j) [
      | inl same ↦ rw same (omega arith)
      | inr other ↦ rises_by (get_or xs i d) (get_or xs j d) (R (get_or xs i d) x) refl
          (Less-from_sorted R xs i j d sorted (omega (arith, le, other)) lt)
    ]

    pub gap_from : (xs : List A) (at : ℕ) → at ≤ length xs → IsPartitionPoint (λ y. R y x ≡ Less) (λ y. R y x ≡ Greater) xs at → Gap R x xs at
    gap_from xs at le point = record {
      within = le;
      before = λ k d lt. turned (get_or xs k d) Less (point.0 k d (omega arith) lt);
      following = λ k d from lt. turned (get_or xs k d) Greater (point.1 k d from lt);
    }

    -- by what a search answers
    pub hit_found : (xs : List A) (r : Result ℕ ℕ) → IsStrictlySortedBy R xs → IsSearchInRange r (length xs)
        → IsBinarySearchResult (λ y. R y x) xs r → IfOk r (Hit R x xs)
    hit_found xs (Ok at) sorted range found = hit_from xs at sorted range found
    hit_found xs (Err at) sorted range found = tt

    pub gap_found : (xs : List A) (r : Result ℕ ℕ) → IsStrictlySortedBy R xs → IsSearchInRange r (length xs)
        → IsBinarySearchResult (λ y. R y x) xs r → IfErr r (Gap R x xs)
    gap_found xs (Ok at) sorted range found = tt
    gap_found xs (Err at) sorted range found = gap_from xs at range (found (rises xs sorted))

    -- ### The order stays

    over_less : (w y : A) (ys : List A) → R w y ≡ Less → AllByRecursion (λ z. R y z ≡ Less) ys → AllByRecursion (λ z. R w z ≡ Less) ys
    over_less w y [] less over = tt
    over_less w y (z ∷ zs) less over = (order.trans w y z less over.0, over_less w y zs less over.1)

    over_tie : (y : A) (ys : List A) → R x y ≡ Equal → AllByRecursion (λ z. R y z ≡ Less) ys → AllByRecursion (λ z. R x z ≡ Less) ys
    over_tie y [] tie over = tt
    over_tie y (z ∷ zs) tie over = (order.congr x y z tie ∙ over.0, over_tie y zs tie over.1)

    placed_over : (w : A) (ys : List A) → R w x ≡ Less → AllByRecursion (λ z. R w z ≡ Less) ys → AllByRecursion (λ z. R w z ≡ Less) (placed R ys x)
    placed_over w [] less over = (less, tt)
    placed_over w (y ∷ ys) less over =
        elim (R x y) as (λ o. AllByRecursion (λ z. R w z ≡ Less) (match_ordering o (x ∷ y ∷ ys) (x ∷ ys) (y ∷ placed R ys x))) [
          | Less ↦ (less, over)
          | Equal ↦ (less, over.1)
          | Greater ↦ (over.0, placed_over w ys less over.1)
        ]

    pub placed_sorted : (xs : List A) → IsStrictlySortedBy R xs → IsStrictlySortedBy R (placed R xs x)
    unfolding IsStrictlySortedBy
    placed_sorted [] sorted = (tt, tt)
    placed_sorted (y ∷ ys) sorted =
        elim (R x y) as (λ o. R x y ≡ o → IsStrictlySortedBy R (match_ordering o (x ∷ y ∷ ys) (x ∷ ys) (y ∷ placed R ys x))) [
          | Less ↦ λ is. ((is, over_less x y ys is sorted.0), sorted)
          | Equal ↦ λ is. (over_tie y ys is sorted.0, sorted.1)
          | Greater ↦ λ is. (placed_over y ys (turned_back y Greater is) sorted.0, placed_sorted ys sorted.1)
        ] refl

  removed_over : (w : A) (ys : List A) → AllByRecursion (λ z. R w z ≡ Less) ys → AllByRecursion (λ z. R w z ≡ Less) (remove_key (is_at (R x)) ys)
  removed_over w [] over = tt
  removed_over w (y ∷ ys) over = elim (R x y) as (λ o. R x y ≡ o → AllByRecursion (λ z. R w z ≡ Less) (remove_key (is_at (R x)) (y ∷ ys))) [
    | Less ↦ λ is. rw is (over.0, removed_over w ys over.1)
    | Equal ↦ λ is. rw is over.1
    | Greater ↦ λ is. rw is (over.0, removed_over w ys over.1)
  ] refl

  pub removed_sorted : (xs : List A) → IsStrictlySortedBy R xs → IsStrictlySortedBy R (remove_key (is_at (R x)) xs)
  unfolding IsStrictlySortedBy
  removed_sorted [] sorted = tt
  removed_sorted (y ∷ ys) sorted = elim (R x y) as (λ o. R x y ≡ o → IsStrictlySortedBy R (remove_key (is_at (R x)) (y ∷ ys))) [
    | Less ↦ λ is. rw is (removed_over y ys sorted.0, removed_sorted ys sorted.1)
    | Equal ↦ λ is. rw is sorted.1
    | Greater ↦ λ is. rw is (removed_over y ys sorted.0, removed_sorted ys sorted.1)
  ] refl

-- ### The first within a bound

module _ {A : Type 0} (R : A → A → Ordering) (order : IsTotalOrder R) where
  from_later : (start : Bound A) (y z : A) → R y z ≡ Less → is_from_start R start y ≡ true → is_from_start R start z ≡ true
  from_later (Included k) y z less here = ap is_le (le_lt_trans order k y z here less)
  from_later (Excluded k) y z less here = ap is_lt (le_lt_trans order k y z (le_of (R k y) here) less)
  from_later Unbounded y z less here = refl

  not_from : (start : Bound A) (y z : A) → R y z ≡ Less → not (is_from_start R start z) ≡ true → not (is_from_start R start y) ≡ true
  not_from start y z less short = elim (cases_Bool (is_from_start R start y)) [
    | inl here ↦ let there : false ≡ true = rw (from_later start y z less here) at short in absurd (cc)
    | inr here ↦ rw here refl
  ]

  pub parted : (start : Bound A) (xs : List A) → IsStrictlySortedBy R xs → IsPartitionedBy (λ y. not (is_from_start R start y)) xs
  parted start xs sorted = λ i j d le lt short. elim (cases_eq i j) [
    | inl same ↦ rw same short
    | inr other ↦ not_from start (get_or xs i d) (get_or xs j d) (Less-from_sorted R xs i j d sorted (omega (arith, le, other)) lt) short
  ]

-- ### A list in order, item by item

module _ {A : Type 0} (R : A → A → Ordering) where
  over_next : (w x : A) (front xs : List A) → AllByRecursion (λ z. R w z ≡ Less) (front ++ x ∷ xs) → R w x ≡ Less
  over_next w x [] xs over = over.0
  over_next w x (y ∷ ys) xs over = over_next w x ys xs over.1

  pub below_next : (x : A) (front xs : List A) → IsStrictlySortedBy R (front ++ x ∷ xs) → AllByRecursion (λ y. R y x ≡ Less) front
  unfolding IsStrictlySortedBy
  below_next x [] xs sorted = tt
  below_next x (y ∷ ys) xs sorted = (over_next y x ys xs sorted.0, below_next x ys xs sorted.1)

module _ {A : Type 0} (R : A → A → Ordering) (order : IsTotalOrder R) where
  -- an item that comes after all others stands last
  pub placed_last : (x : A) (xs : List A) → AllByRecursion (λ y. R y x ≡ Less) xs → placed R xs x ≡ xs ++ x ∷ []
  placed_last x [] over = refl
  placed_last x (y ∷ ys) over =
      let past : R x y ≡ Greater = order.antisymm x y ∙ ap ordering_reverse over.0 in rw past (ap (λ (l : List A). y ∷ l) (placed_last x ys over.1))

  pub refilled : (front xs : List A) → IsStrictlySortedBy R (front ++ xs) → fold (placed R) front xs ≡ front ++ xs
  refilled front [] sorted = sym (append-nil front)
  refilled front (x ∷ xs) sorted =
      let last : placed R front x ≡ front ++ x ∷ [] = placed_last x front (below_next R x front xs sorted) in
      let whole : (front ++ x ∷ []) ++ xs ≡ front ++ x ∷ xs = append_assoc front (x ∷ []) xs in
      ap (λ (l : List A). fold (placed R) l xs) last
      ∙ refilled (front ++ x ∷ []) xs (subst (λ (l : List A). IsStrictlySortedBy R l) (sym whole) sorted)
      ∙ whole

-- ### Small facts

-- no item is in order
pub none_sorted : {A : Type 0} (R : A → A → Ordering) (xs : List A) → xs ≡ [] → IsStrictlySortedBy R xs
unfolding IsStrictlySortedBy
none_sorted R xs none = rw none tt

pub none_some : {A : Type 0} (o : Option A) → o ≡ None → IsSome o → ⊥
none_some None is some = grind arith
none_some (Some x) is some = cc

-- where the items before a place pass, and those from it on don't
pub rank_is : {A : Type 0} (p : A → Bool) (xs : List A) (at : ℕ) → at ≤ length xs → IsPartitionPoint (λ y. p y ≡ true) (λ y. p y ≡ false) xs at
    → at ≡ prefix_len p xs
rank_is p [] zero le point = refl
rank_is p [] (suc at) le point = absurd (omega (arith, le))
rank_is p (y ∷ ys) zero le point = let no : p y ≡ false = point.1 0 y (omega arith) (omega arith) in rw no refl
rank_is p (y ∷ ys) (suc at) le point =
    let yes : p y ≡ true = point.0 0 y (omega arith) (omega arith) in
    let rest : at ≡ prefix_len p ys = rank_is p ys at (omega (arith, le))
    (λ k d from lt. point.0 (suc k) d (omega arith) (omega (arith, lt)), λ k d from lt. point.1 (suc k) d (omega (arith, from)) (omega (arith, lt))) in
    rw yes (omega (arith, rest))

-- the item at the place behind those at the front that don't pass, and none where that is the end
pub first_at : {A : Type 0} (p : A → Bool) (xs : List A) (at : ℕ) (d : A) → at ≡ prefix_len (λ y. not (p y)) xs → at < length xs
    → Some (get_or xs at d) ≡ find p xs
first_at p xs at d is lt = sym (slice_get-get_or xs at d lt) ∙ ap (slice_get xs) is ∙ sym (first_behind p xs)

pub none_at : {A : Type 0} (p : A → Bool) (xs : List A) (at : ℕ) → at ≡ prefix_len (λ y. not (p y)) xs → length xs ≤ at → None ≡ find p xs
none_at p xs at is le = sym (slice_get_past xs at le) ∙ ap (slice_get xs) is ∙ sym (first_behind p xs)
