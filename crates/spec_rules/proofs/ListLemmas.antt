-- Laws of membership and of changed functions.
use Rattle.std.proofs.Common.{◌≡◌, ◌≢◌, ℕ, List, [], ◌∷◌, ◌++◌, ◌⊎◌, inl, inr, arith}
use Rattle.std.proofs.lemmas.Bool.Decides.{nat_tests}
use Rattle.spec_rules.specs.Lists.{In, put_at}

pub in-append : {A : Type 0} (x : A) (xs ys : List A) → In x (xs ++ ys) → In x xs ⊎ In x ys
unfolding In
in-append x [] ys h = inr h
in-append x (z ∷ xs) ys (inl e) = inl (inl e)
in-append x (z ∷ xs) ys (inr h) = elim (in-append x xs ys h) [ inl a ↦ inl (inr a) | inr b ↦ inr b ]

pub in_later : {A : Type 0} (x : A) (xs ys : List A) → In x ys → In x (xs ++ ys)
unfolding In
in_later x [] ys h = h
in_later x (z ∷ xs) ys h = inr (in_later x xs ys h)

pub in_former : {A : Type 0} (x : A) (xs ys : List A) → In x xs → In x (xs ++ ys)
unfolding In
in_former x [] ys h = absurd h
in_former x (z ∷ xs) ys (inl e) = inl e
in_former x (z ∷ xs) ys (inr h) = inr (in_former x xs ys h)

pub put_same : {A : Type 0} (f : ℕ → A) (i : ℕ) (x : A) → put_at f i x i ≡ x
unfolding put_at
put_same f i x = grind (arith, nat_tests)

pub put_apart : {A : Type 0} (f : ℕ → A) (i : ℕ) (x : A) (k : ℕ) → k ≢ i → put_at f i x k ≡ f k
unfolding put_at
put_apart f i x k ne = grind (arith, nat_tests)
