-- Chains whose rows rise: which row stands at an epoch, and when two chains are one.
use Rattle.law_copies.proofs.Imports.{[], ◌<◌, ◌||◌, ◌∙◌, ◌∷◌, ◌≡◌, ◌≢◌, Bool, In, IsRising, Less, List, None, Some, Table, ap, arith, at, at-empty}
use Rattle.law_copies.proofs.Imports.{at_row, by_bool, cond, false, filter, get_in, in_get, inl, inr, list_any, map, nat_cmp, nat_cmp_total, nat_tests}
use Rattle.law_copies.proofs.Imports.{none_some, ranked, refl, same_or_apart, same_some, slice_get, some_or_none, subst, sym, true, true_false, ℕ}

module _ {X : Type 0} where
  at_here : (es : Table ℕ X) (k : ℕ) (x : X) → at nat_cmp ((k, x) ∷ es) k ≡ Some x
  unfolding at
  at_here es k x = grind (arith, nat_tests)

  at_there : (e : ℕ × X) (es : Table ℕ X) (k : ℕ) → k ≢ e.0 → at nat_cmp (e ∷ es) k ≡ at nat_cmp es k
  unfolding at
  at_there e es k ne = grind (arith, nat_tests)

  -- what stands at a key is a row
  pub at_in : (t : Table ℕ X) (k : ℕ) (x : X) → at nat_cmp t k ≡ Some x → In (k, x) t
  unfolding In
  at_in [] k x is = none_some (at-empty nat_cmp k) is
  at_in (e ∷ es) k x is = elim (same_or_apart k e.0) [
    | inl same ↦ (
        let head : at nat_cmp (e ∷ es) k ≡ Some e.1 = ap (at nat_cmp (e ∷ es)) same ∙ at_here es e.0 e.1 in
        let value : x ≡ e.1 = same_some (sym is ∙ head) in
        inl (λ i. (same i, value i)))
    | inr ne ↦ inr (at_in es k x (sym (at_there e es k ne) ∙ is))
  ]

  -- those after a row are above it
  above_head : (e : ℕ × X) (es : Table ℕ X) (k : ℕ) (x : X) → IsRising nat_cmp (e ∷ es) → at nat_cmp es k ≡ Some x → e.0 < k
  above_head e es k x h is = ranked e.0 k Less (sym (h.0 (k, x) (at_in es k x is)))

  none_after : (e : ℕ × X) (es : Table ℕ X) → IsRising nat_cmp (e ∷ es) → at nat_cmp es e.0 ≡ None
  none_after e es h = elim (some_or_none (at nat_cmp es e.0)) [
    | inl there ↦ (let lt = above_head e es e.0 there.0 h there.1 in absurd (omega arith))
    | inr none ↦ none
  ]

  -- tables that rise, and have the same at each key, are one
  pub same_tables : (t u : Table ℕ X) → IsRising nat_cmp t → IsRising nat_cmp u → ((k : ℕ) → at nat_cmp t k ≡ at nat_cmp u k) → t ≡ u
  same_tables [] [] g h same = refl
  same_tables [] (e ∷ es) g h same = none_some (at-empty nat_cmp e.0) (same e.0 ∙ at_here es e.0 e.1)
  same_tables (d ∷ ds) [] g h same = none_some (at-empty nat_cmp d.0) (sym (same d.0) ∙ at_here ds d.0 d.1)
  same_tables (d ∷ ds) (e ∷ es) g h same = elim (same_or_apart d.0 e.0) [
    | inl key ↦ (
        let value : d.1 ≡ e.1 = same_some (sym (at_here ds d.0 d.1) ∙ same d.0 ∙ ap (at nat_cmp (e ∷ es)) key ∙ at_here es e.0 e.1) in
        let rest : ds ≡ es = same_tables ds es g.1 h.1 (λ k. tails key k) in
        λ i. (key i, value i) ∷ rest i)
    | inr ne ↦ (
        let one = above_head e es d.0 d.1 h (sym (at_there e es d.0 ne) ∙ sym (same d.0) ∙ at_here ds d.0 d.1) in
        let two = above_head d ds e.0 e.1 g (sym (at_there d ds e.0 (λ is. ne (sym is))) ∙ same e.0 ∙ at_here es e.0 e.1) in
        absurd (omega arith))
  ]
    where
      tails : d.0 ≡ e.0 → (k : ℕ) → at nat_cmp ds k ≡ at nat_cmp es k
      tails key k = elim (same_or_apart k d.0) [
        | inl is ↦ ap (at nat_cmp ds) is ∙ none_after d ds g ∙ sym (none_after e es h) ∙ ap (at nat_cmp es) (sym key ∙ sym is)
        | inr ne ↦ sym (at_there d ds k ne) ∙ same k ∙ at_there e es k (λ is. ne (is ∙ sym key))
      ]

  -- the row at a place of a table that rises
  pub row_at : (t : Table ℕ X) (i : ℕ) (row : ℕ × X) → IsRising nat_cmp t → slice_get t i ≡ Some row → at nat_cmp t row.0 ≡ Some row.1
  row_at t i row h is = at_row nat_cmp_total t row h (in_get t i row is)

  pub place_of : (t : Table ℕ X) (k : ℕ) (x : X) → at nat_cmp t k ≡ Some x → (i : ℕ) × (slice_get t i ≡ Some (k, x))
  place_of t k x is = get_in t (k, x) (at_in t k x is)

-- ### Tests on lists

pub none_left : {A : Type 0} (p : A → Bool) (xs : List A) → filter p xs ≡ [] → (x : A) → In x xs → p x ≡ false
unfolding In
none_left p [] none x i = absurd i
none_left {A} p (y ∷ ys) none x i = by_bool (p y)
    (λ t. let kept : y ∷ filter p ys ≡ [] = sym (ap (λ b. cond b (y ∷ filter p ys) (filter p ys)) t) ∙ none in absurd cc)
    (λ f. let rest : filter p ys ≡ [] = sym (ap (λ b. cond b (y ∷ filter p ys) (filter p ys)) f) ∙ none in
    elim i [ inl e ↦ ap p e ∙ f | inr j ↦ none_left p ys rest x j ])

pub all_left : {A : Type 0} (p : A → Bool) (xs : List A) → ((x : A) → In x xs → p x ≡ false) → filter p xs ≡ []
unfolding In
all_left p [] h = refl
all_left p (y ∷ ys) h = ap (λ b. cond b (y ∷ filter p ys) (filter p ys)) (h y (inl refl)) ∙ all_left p ys (λ x i. h x (inr i))

pub any_in : {A : Type 0} (p : A → Bool) (xs : List A) (x : A) → In x xs → p x ≡ true → list_any p xs ≡ true
unfolding In
any_in p [] x i t = absurd i
any_in p (y ∷ ys) x (inl e) t = ap (λ b. b || list_any p ys) (ap p (sym e) ∙ t)
any_in p (y ∷ ys) x (inr i) t = by_bool (p y) (λ u. ap (λ b. b || list_any p ys) u)
    (λ u. ap (λ b. b || list_any p ys) u ∙ any_in p ys x i t)

pub in_any : {A : Type 0} (p : A → Bool) (xs : List A) → list_any p xs ≡ true → (x : A) × In x xs × (p x ≡ true)
unfolding In
in_any p [] e = true_false e refl
in_any p (y ∷ ys) e = by_bool (p y) (λ t. (y, inl refl, t))
    (λ f. let rest = in_any p ys (sym (ap (λ b. b || list_any p ys) f) ∙ e) in (rest.0, inr rest.1, rest.2))

pub in_mapped : {A B : Type 0} (f : A → B) (xs : List A) (x : A) → In x xs → In (f x) (map f xs)
unfolding In
in_mapped f [] x i = absurd i
in_mapped f (y ∷ ys) x (inl e) = inl (ap f e)
in_mapped f (y ∷ ys) x (inr i) = inr (in_mapped f ys x i)

pub in_kept : {A : Type 0} (p : A → Bool) (xs : List A) (x : A) → In x xs → p x ≡ true → In x (filter p xs)
unfolding In
in_kept p [] x i t = absurd i
in_kept {A} p (y ∷ ys) x (inl e) t = subst (λ (zs : List A). In x zs)
    (sym (ap (λ b. cond b (y ∷ filter p ys) (filter p ys)) (ap p (sym e) ∙ t))) (inl e)
in_kept {A} p (y ∷ ys) x (inr i) t = by_bool (p y)
    (λ u. subst (λ (zs : List A). In x zs) (sym (ap (λ b. cond b (y ∷ filter p ys) (filter p ys)) u)) (inr (in_kept p ys x i t)))
    (λ u. subst (λ (zs : List A). In x zs) (sym (ap (λ b. cond b (y ∷ filter p ys) (filter p ys)) u)) (in_kept p ys x i t))
