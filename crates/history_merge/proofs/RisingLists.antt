-- Lists along which a number does not fall: two of them are one where they have the same items at each number.
use Rattle.std.proofs.Common.{◌≡◌, ℕ, ◌≤◌, ◌<◌, Bool, true, false, List, [], ◌∷◌, inl, inr, refl, sym, ap, ◌∙◌, arith, length}
use Rattle.std.proofs.lemmas.Bool.{cases_lt}
use Rattle.std.proofs.lemmas.Bool.Decides.{nat_tests}
use Rattle.std.proofs.lemmas.List.Sorted.{IsNonDecreasingBy-drop}
use Rattle.std.specs.List.Sorted.{IsNonDecreasingBy}
use Rattle.std.specs.Prelude.{◌==◌, ◌&&◌, filter, if◌then◌else◌, slice_index_or}

module _ {X : Type 0} where
  fuse_at : (p : X → Bool) (b : Bool) (x : X) (us vs : List X) → filter p us ≡ vs → filter p (if b then x ∷ us else us) ≡ (if b && p x then x ∷ vs else vs)
  fuse_at p true x us vs e = ap (λ zs. if p x then x ∷ zs else zs) e
  fuse_at p false x us vs e = e

  pub fuse : (p q : X → Bool) (xs : List X) → filter p (filter q xs) ≡ filter (λ x. q x && p x) xs
  fuse p q [] = refl
  fuse p q (x ∷ xs) = fuse_at p (q x) x (filter q xs) (filter (λ y. q y && p y) xs) (fuse p q xs)

  module _ (key : X → ℕ) where
    -- the number does not fall from one to the next
    abbrev pub Rise : ℕ → List X → Type 0
    Rise low [] = Unit {0}
    Rise low (x ∷ xs) = (low ≤ key x) × Rise (key x) xs

    rise_lower : (low high : ℕ) (xs : List X) → low ≤ high → Rise high xs → Rise low xs
    rise_lower low high [] le h = tt
    rise_lower low high (x ∷ xs) le h = let own = h.0 in (omega arith, h.1)

    rise_at : (b : Bool) (low : ℕ) (x : X) (xs : List X) → low ≤ key x → Rise (key x) xs → Rise low (if b then x ∷ xs else xs)
    rise_at true low x xs le h = (le, h)
    rise_at false low x xs le h = rise_lower low (key x) xs le h

    pub rise_filter : (p : X → Bool) (low : ℕ) (xs : List X) → Rise low xs → Rise low (filter p xs)
    rise_filter p low [] h = tt
    rise_filter p low (x ∷ xs) h = rise_at (p x) low x (filter p xs) h.0 (rise_filter p (key x) xs h.1)

    pub rise_from : (low : ℕ) (xs : List X) → IsNonDecreasingBy key xs → ((d : X) → 0 < length xs → low ≤ key (slice_index_or xs 0 d)) → Rise low xs
    rise_from low [] up first = tt
    rise_from low (x ∷ xs) up first =
        (first x (omega arith), rise_from (key x) xs (IsNonDecreasingBy-drop key 1 (x ∷ xs) up) (λ d some. up 0 1 d (omega arith) (omega arith)))

    abbrev pub at : ℕ → List X → List X
    at n xs = filter (λ x. key x == n) xs

    none_below : (n low : ℕ) (xs : List X) → n < low → Rise low xs → at n xs ≡ []
    none_below n low [] less h = refl
    none_below n low (x ∷ xs) less h =
        let le : low ≤ key x = h.0 in
        let apart : (key x == n) ≡ false = grind (arith, nat_tests) in
        ap (λ (b : Bool). if b then x ∷ at n xs else at n xs) apart ∙ none_below n (key x) xs (omega arith) h.1

    own_at : (x : X) (xs : List X) → at (key x) (x ∷ xs) ≡ x ∷ at (key x) xs
    own_at x xs =
        let same : (key x == key x) ≡ true = grind (arith, nat_tests) in
        ap (λ (b : Bool). if b then x ∷ at (key x) xs else at (key x) xs) same

    rest_same : (b c : Bool) (x y : X) (us vs : List X) → b ≡ c → (if b then x ∷ us else us) ≡ (if c then y ∷ vs else vs) → us ≡ vs
    rest_same true true x y us vs e same = cc
    rest_same false false x y us vs e same = same
    rest_same true false x y us vs e same = absurd (let k : ⊥ = cc in k)
    rest_same false true x y us vs e same = absurd (let k : ⊥ = cc in k)

    clash : (x : X) (xs : List X) → [] ≡ x ∷ xs → ⊥
    clash x xs e = cc

    first_same : (x y : X) (us vs : List X) → x ∷ us ≡ y ∷ vs → x ≡ y
    first_same x y us vs e = cc

    join : (x y : X) (xs ys : List X) → x ≡ y → xs ≡ ys → x ∷ xs ≡ y ∷ ys
    join x y xs ys e f = cc

    pub unique : (low lower : ℕ) (xs ys : List X) → Rise low xs → Rise lower ys → ((n : ℕ) → at n xs ≡ at n ys) → xs ≡ ys
    unique low lower [] [] up rises same = refl
    unique low lower [] (y ∷ ys) up rises same = absurd (clash y (at (key y) ys) (same (key y) ∙ own_at y ys))
    unique low lower (x ∷ xs) [] up rises same = absurd (clash x (at (key x) xs) (sym (same (key x)) ∙ own_at x xs))
    unique low lower (x ∷ xs) (y ∷ ys) up rises same = elim (cases_lt (key x) (key y)) [
      | inl less ↦
          absurd (clash x (at (key x) xs) (sym (none_below (key x) (key y) (y ∷ ys) less (omega arith, rises.1)) ∙ sym (same (key x)) ∙ own_at x xs))
      | inr le ↦ elim (cases_lt (key y) (key x)) [
        | inl less ↦
            absurd (clash y (at (key y) ys) (sym (none_below (key y) (key x) (x ∷ xs) less (omega arith, up.1)) ∙ same (key y) ∙ own_at y ys))
        | inr ge ↦
            let equal : key x ≡ key y = omega arith in
            let heads : x ≡ y = first_same x y (at (key x) xs) (at (key y) ys)
            (sym (own_at x xs) ∙ same (key x) ∙ ap (λ n. at n (y ∷ ys)) equal ∙ own_at y ys) in
            join x y xs ys heads (unique (key x) (key y) xs ys up.1 rises.1
            (λ n. rest_same (key x == n) (key y == n) x y (at n xs) (at n ys) (ap (λ k. k == n) equal) (same n)))
      ]
    ]
