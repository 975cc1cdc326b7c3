-- What `grind` needs to know of membership and of functions with one value given again. Both are shut, so that it can match them.
use Rattle.std.proofs.Common.{ℕ, ◌≡◌, ◌≢◌, ◌⊎◌, inl, inr, Bool, true, false, if◌then◌else◌, List, [], ◌∷◌, ◌==◌, ◌&&◌, Some, slice_get, refl, arith}
use Rattle.std.proofs.lemmas.Bool.Decides.{nat_tests}
use Rattle.spec_paxos.specs.Member.{In, put, put_at}

pub in_nil : {X : Type 0} (x : X) → In x [] → ⊥
unfolding In
in_nil x h = h

pub in_cons : {X : Type 0} (x y : X) (ys : List X) → In x (y ∷ ys) → (x ≡ y) ⊎ In x ys
unfolding In
in_cons x y ys h = h

pub in_there : {X : Type 0} (x y : X) (ys : List X) → In x ys → In x (y ∷ ys)
unfolding In
in_there x y ys h = inr h

pub in_here : {X : Type 0} (x : X) (ys : List X) → In x (x ∷ ys)
unfolding In
in_here x ys = inl refl

pub put_cases : {A : Type 0} (f : ℕ → A) (k : ℕ) (x : A) (j : ℕ) → ((j ≡ k) × (put f k x j ≡ x)) ⊎ ((j ≢ k) × (put f k x j ≡ f j))
unfolding put
put_cases f k x j = by f k x j (j == k) refl
  where
    by : {A : Type 0} (f : ℕ → A) (k : ℕ) (x : A) (j : ℕ) (b : Bool) → (j == k) ≡ b
        → ((j ≡ k) × ((if b then x else f j) ≡ x)) ⊎ ((j ≢ k) × ((if b then x else f j) ≡ f j))
    by f k x j true e = inl (grind (arith, nat_tests), refl)
    by f k x j false e = inr (grind (arith, nat_tests), refl)

pub put_at_cases : {A : Type 0} (f : ℕ → ℕ → A) (s p : ℕ) (x : A) (i j : ℕ)
    → ((i ≡ s) × (j ≡ p) × (put_at f s p x i j ≡ x)) ⊎ (((i ≢ s) ⊎ (j ≢ p)) × (put_at f s p x i j ≡ f i j))
unfolding put_at
put_at_cases f s p x i j = by f s p x i j (i == s) (j == p) refl refl
  where
    by : {A : Type 0} (f : ℕ → ℕ → A) (s p : ℕ) (x : A) (i j : ℕ) (b c : Bool) → (i == s) ≡ b → (j == p) ≡ c
        → ((i ≡ s) × (j ≡ p) × ((if b && c then x else f i j) ≡ x)) ⊎ (((i ≢ s) ⊎ (j ≢ p)) × ((if b && c then x else f i j) ≡ f i j))
    by f s p x i j true true d e = inl (grind (arith, nat_tests), grind (arith, nat_tests), refl)
    by f s p x i j true false d e = inr (inr (grind (arith, nat_tests)), refl)
    by f s p x i j false c d e = inr (inl (grind (arith, nat_tests)), refl)

pub in_got : {X : Type 0} (xs : List X) (k : ℕ) (x : X) → slice_get xs k ≡ Some x → In x xs
unfolding In
in_got [] k x e = absurd (cc)
in_got (y ∷ ys) ℕ.zero x e = inl (cc)
in_got (y ∷ ys) (ℕ.suc k) x e = inr (in_got ys k x e)

pub ruleset members = (in_cons, in_there, in_here)
