-- The order of keys, and what a read finds after a put: for callers that follow a run of puts and reads.
use Rattle.std.proofs.Common.{◌≡◌, ℕ, zero, suc, ◌<◌, true, false, not, nat_lt, List, [], ◌∷◌, length, Option, None, Some}
use Rattle.std.proofs.Common.{refl, sym, ◌∙◌, ap, subst, get_or, arith, inl, inr}
use Rattle.std.proofs.lemmas.Bool.{cases_Bool, cases_eq}
use Rattle.std.proofs.lemmas.Bool.Decides.{nat_tests}
use Rattle.std.specs.List.Sorted.{IsPartitionedBy}
use Rattle.petal_base.specs.declared.cell.Key.{Key}
use Rattle.physical_map.specs.Keys.{key_below, same_key, sees, placed, later, newest, IsAbove, IsInOrder}

-- two keys, of which one stands before the other or which are the same
abbrev pub Apart : Key → Key → Type 0
Apart a b = key_below b a ≡ true

pub beyond : (a b : Key) → key_below a b ≡ false → same_key a b ≡ false → Apart a b
beyond a b below same = grind (arith, nat_tests)

-- keys are totally ordered
pub below-trans : (a b c : Key) → key_below a b ≡ true → key_below b c ≡ true → key_below a c ≡ true
below-trans a b c ab bc = grind (arith, nat_tests)

same-below : (a b c : Key) → same_key a b ≡ true → key_below a c ≡ key_below b c
same-below a b c same = grind (arith, nat_tests)

same-sees : (at a b : Key) → same_key a b ≡ true → sees at a ≡ sees at b
same-sees at a b same = grind (arith, nat_tests)

not-seen : (at key : Key) → key_below at key ≡ true → sees at key ≡ false
not-seen at key below = grind (arith, nat_tests)

sees-itself : (a : Key) → sees a a ≡ true
sees-itself a = grind (arith, nat_tests)

-- of one cell, what stands before has a lower epoch
earlier : (at key : Key) → key_below key at ≡ true → sees at key ≡ true → nat_lt key.epoch at.epoch ≡ true
earlier at key below seen = grind (arith, nat_tests)

-- what stands before is not the same
pub below-other : (a b : Key) → key_below a b ≡ true → same_key a b ≡ false
below-other a b below = grind (arith, nat_tests)

pub above-other : (a b : Key) → key_below b a ≡ true → same_key a b ≡ false
above-other a b below = grind (arith, nat_tests)

not-following : (k a b : Key) → key_below a b ≡ true → not (key_below k b) ≡ true → not (key_below k a) ≡ true
not-following k a b ab kb = grind (arith, nat_tests)

module _ {A : Type 0} (key : A → Key) where
  pub above-at : (k : Key) (xs : List A) (j : ℕ) (d : A) → IsAbove key k xs → j < length xs → key_below k (key (get_or xs j d)) ≡ true
  above-at k [] j d above within = absurd (omega arith)
  above-at k (x ∷ xs) zero d above within = above.0
  above-at k (x ∷ xs) (suc j) d above within = above-at k xs j d above.1 (omega arith)

  above-weaker : (a b : Key) (xs : List A) → key_below a b ≡ true → IsAbove key b xs → IsAbove key a xs
  above-weaker a b [] below above = tt
  above-weaker a b (x ∷ xs) below above = (below-trans a b (key x) below above.0, above-weaker a b xs below above.1)

  above-same : (a b : Key) (xs : List A) → same_key a b ≡ true → IsAbove key a xs → IsAbove key b xs
  above-same a b [] same above = tt
  above-same a b (x ∷ xs) same above = (sym (same-below a b (key x) same) ∙ above.0, above-same a b xs same above.1)

  above-placed : (k : Key) (xs : List A) (x : A) → key_below k (key x) ≡ true → IsAbove key k xs → IsAbove key k (placed key xs x)
  above-placed k [] x below above = (below, tt)
  above-placed k (y ∷ ys) x below above = elim (cases_Bool (key_below (key y) (key x))) [
    | inl before ↦ rw before (above.0, above-placed k ys x below above.1)
    | inr before ↦ elim (cases_Bool (same_key (key y) (key x))) [
      | inl same ↦ rw (before, same) (below, above.1)
      | inr same ↦ rw (before, same) (below, above)
    ]
  ]

  -- a put keeps the order
  pub ordered-placed : (xs : List A) (x : A) → IsInOrder key xs → IsInOrder key (placed key xs x)
  ordered-placed [] x order = (tt, tt)
  ordered-placed (y ∷ ys) x order = elim (cases_Bool (key_below (key y) (key x))) [
    | inl before ↦ rw before (above-placed (key y) ys x before order.0, ordered-placed ys x order.1)
    | inr before ↦ elim (cases_Bool (same_key (key y) (key x))) [
      | inl same ↦ rw (before, same) (above-same (key y) (key x) ys same order.0, order.1)
      | inr same ↦
          let next : key_below (key x) (key y) ≡ true = beyond (key y) (key x) before same in
          rw (before, same) ((next, above-weaker (key x) (key y) ys next order.0), order)
    ]
  ]

  -- of two entries the earlier has the lower key
  pub order-at : (xs : List A) (i j : ℕ) (d : A) → IsInOrder key xs → i < j → j < length xs → key_below (key (get_or xs i d)) (key (get_or xs j d)) ≡ true
  order-at [] i j d order less within = absurd (omega arith)
  order-at (x ∷ xs) zero zero d order less within = absurd (omega arith)
  order-at (x ∷ xs) (suc i) zero d order less within = absurd (omega arith)
  order-at (x ∷ xs) zero (suc j) d order less within = above-at (key x) xs j d order.0 (omega arith)
  order-at (x ∷ xs) (suc i) (suc j) d order less within = order-at xs i j d order.1 (omega arith) (omega arith)

  -- so a binary search finds the place of a key
  pub partitioned : (xs : List A) (k : Key) → IsInOrder key xs → IsPartitionedBy (λ x. key_below (key x) k) xs
  partitioned xs k order i j d le within up = elim (cases_eq i j) [
    | inl same ↦ subst (λ (n : ℕ). key_below (key (get_or xs n d)) k ≡ true) (sym same) up
    | inr apart ↦ below-trans (key (get_or xs i d)) (key (get_or xs j d)) k (order-at xs i j d order (omega (arith, apart)) within) up
  ]

  -- and that of what stands at a key or before it
  pub partitioned-following : (xs : List A) (k : Key) → IsInOrder key xs → IsPartitionedBy (λ x. not (key_below k (key x))) xs
  partitioned-following xs k order i j d le within up = elim (cases_eq i j) [
    | inl same ↦ subst (λ (n : ℕ). not (key_below k (key (get_or xs n d))) ≡ true) (sym same) up
    | inr apart ↦ not-following k (key (get_or xs i d)) (key (get_or xs j d)) (order-at xs i j d order (omega (arith, apart)) within) up
  ]

  pub nothing-above : (at : Key) (xs : List A) → IsAbove key at xs → newest key at xs ≡ None
  nothing-above at [] above = refl
  nothing-above at (x ∷ xs) above = rw (not-seen at (key x) above.0) (nothing-above at xs above.1)

  -- a read at the key of the last put finds it
  pub newest-placed_here : (xs : List A) (x : A) → IsInOrder key xs → newest key (key x) (placed key xs x) ≡ Some x
  newest-placed_here [] x order = rw (sees-itself (key x)) refl
  newest-placed_here (y ∷ ys) x order = elim (cases_Bool (key_below (key y) (key x))) [
    | inl before ↦ elim (cases_Bool (sees (key x) (key y))) [
      | inl seen ↦ rw (before, seen, newest-placed_here ys x order.1) (rw (earlier (key x) (key y) before seen) refl)
      | inr seen ↦ rw (before, seen) (newest-placed_here ys x order.1)
    ]
    | inr before ↦ elim (cases_Bool (same_key (key y) (key x))) [
      | inl same ↦ rw (before, same, sees-itself (key x), nothing-above (key x) ys (above-same (key y) (key x) ys same order.0)) refl
      | inr same ↦
          let next : key_below (key x) (key y) ≡ true = beyond (key y) (key x) before same in
          let none : newest key (key x) (y ∷ ys) ≡ None = nothing-above (key x) (y ∷ ys) (next, above-weaker (key x) (key y) ys next order.0) in
          rw (before, same, sees-itself (key x)) (ap (λ (o : Option A). later key (Some x) o) none)
    ]
  ]

  -- and a read that does not see that key finds what it found
  pub newest-placed_apart : (at : Key) (xs : List A) (x : A) → sees at (key x) ≡ false → newest key at (placed key xs x) ≡ newest key at xs
  newest-placed_apart at [] x apart = rw apart refl
  newest-placed_apart at (y ∷ ys) x apart = elim (cases_Bool (key_below (key y) (key x))) [
    | inl before ↦ rw (before, newest-placed_apart at ys x apart) refl
    | inr before ↦ elim (cases_Bool (same_key (key y) (key x))) [
      | inl same ↦ rw (before, same, apart, same-sees at (key y) (key x) same ∙ apart) refl
      | inr same ↦ rw (before, same, apart) refl
    ]
  ]
