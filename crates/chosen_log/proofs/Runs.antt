-- A run of learnt places is given by what is learnt.
use Rattle.std.proofs.Common.{◌≡◌, ◌≢◌, ℕ, zero, suc, ◌+◌, ◌-◌, ◌≤◌, ◌<◌, ◌==◌, Bool, true, false, if◌then◌else◌, List, [], ◌∷◌, ◌++◌, length, take, drop}
use Rattle.std.proofs.Common.{slice_get, Option, Some, None, refl, sym, ap, ◌∙◌, arith, length-append}
use Rattle.std.proofs.lemmas.List.{take_at, take-append-le, take_rest}
use Rattle.std.specs.Prelude.{nat_le}
use Rattle.std.proofs.lemmas.Bool.Decides.{nat_tests}

-- two lists that give the same answer at each place up to their ends are equal
pub same_run : {X : Type 0} (f : ℕ → Option X) (xs ys : List X) → ((k : ℕ) → k ≤ length xs → slice_get xs k ≡ f k)
    → ((k : ℕ) → k ≤ length ys → slice_get ys k ≡ f k) → xs ≡ ys
same_run f [] [] h g = refl
same_run f [] (y ∷ ys) h g = let a = h 0 (omega arith) in let b = g 0 (omega arith) in absurd (cc)
same_run f (x ∷ xs) [] h g = let a = h 0 (omega arith) in let b = g 0 (omega arith) in absurd (cc)
same_run f (x ∷ xs) (y ∷ ys) h g =
    let a = h 0 (omega arith) in
    let b = g 0 (omega arith) in
    let first : x ≡ y = cc in
    let rest : xs ≡ ys = same_run (λ k. f (suc k)) xs ys (λ k lt. h (suc k) (omega arith)) (λ k lt. g (suc k) (omega arith)) in
    cc (first, rest)

inside : {X : Type 0} (xs : List X) (k : ℕ) → slice_get xs k ≡ None → length xs ≤ k
inside [] k e = omega arith
inside (x ∷ xs) zero e = absurd (cc)
inside (x ∷ xs) (suc k) e = let l = inside xs k e in omega arith

-- one item more, which stands at its place
pub pushed_run : {X : Type 0} (g : ℕ → Option X) (xs : List X) (x : X) → ((k : ℕ) → k < length xs → slice_get xs k ≡ g k) → g (length xs) ≡ Some x
    → (k : ℕ) → k < length (xs ++ x ∷ []) → slice_get (xs ++ x ∷ []) k ≡ g k
pushed_run g [] x h e zero lt = sym e
pushed_run g [] x h e (suc k) lt = absurd (omega arith)
pushed_run g (y ∷ ys) x h e zero lt = h 0 (omega arith)
pushed_run g (y ∷ ys) x h e (suc k) lt = pushed_run (λ k. g (suc k)) ys x (λ k lt. h (suc k) (omega arith)) e k (omega arith)

-- nothing stands after the items
pub whole_run : {X : Type 0} (g : ℕ → Option X) (xs : List X) → ((k : ℕ) → k < length xs → slice_get xs k ≡ g k) → g (length xs) ≡ None → (k : ℕ)
    → k ≤ length xs → slice_get xs k ≡ g k
whole_run g [] h e zero le = sym e
whole_run g [] h e (suc k) le = absurd (omega arith)
whole_run g (y ∷ ys) h e zero le = h 0 (omega arith)
whole_run g (y ∷ ys) h e (suc k) le = whole_run (λ k. g (suc k)) ys (λ k lt. h (suc k) (omega arith)) e k (omega arith)

-- what is learnt once the place has the command, by the number of places before
abbrev pub with_place : {X : Type 0} → (ℕ → Option X) → ℕ → X → ℕ → Option X
with_place f place x k = if k + 1 == place then Some x else f (k + 1)

other_place : {X : Type 0} (f : ℕ → Option X) (place : ℕ) (x : X) (k : ℕ) → k + 1 ≢ place → with_place f place x k ≡ f (k + 1)
other_place f place x k ne = by (k + 1 == place) refl
  where
    by : (b : Bool) → (k + 1 == place) ≡ b → (if b then Some x else f (k + 1)) ≡ f (k + 1)
    by true e = absurd (ne (grind (arith, nat_tests)))
    by false e = refl

same_place : {X : Type 0} (f : ℕ → Option X) (place : ℕ) (x : X) (k : ℕ) → k + 1 ≡ place → with_place f place x k ≡ Some x
same_place f place x k is = by (k + 1 == place) refl
  where
    by : (b : Bool) → (k + 1 == place) ≡ b → (if b then Some x else f (k + 1)) ≡ Some x
    by true e = refl
    by false e = absurd (grind (arith, nat_tests))

-- a place that is not the next one leaves the run as it is
pub unchanged_run : {X : Type 0} (f : ℕ → Option X) (place : ℕ) (x : X) (xs : List X) → ((k : ℕ) → k ≤ length xs → slice_get xs k ≡ f (k + 1))
    → f place ≡ None → length xs + 1 ≢ place → (k : ℕ) → k ≤ length xs → slice_get xs k ≡ with_place f place x k
unchanged_run f place x xs h none ne k le = h k le ∙ sym (other_place f place x k (λ is. let past = inside xs k (h k le ∙ ap f is ∙ none) in ne (omega arith)))

-- the next place begins to lengthen it
pub begun_run : {X : Type 0} (f : ℕ → Option X) (place : ℕ) (x : X) (xs : List X) → ((k : ℕ) → k ≤ length xs → slice_get xs k ≡ f (k + 1))
    → length xs + 1 ≡ place → (k : ℕ) → k < length (xs ++ x ∷ []) → slice_get (xs ++ x ∷ []) k ≡ with_place f place x k
begun_run f place x xs h next = pushed_run (with_place f place x) xs x
    (λ k lt. h k (omega arith) ∙ sym (other_place f place x k (λ is. absurd (omega arith)))) (same_place f place x (length xs) next)

-- a learnt place that follows lengthens it
pub longer_run : {X : Type 0} (f : ℕ → Option X) (place : ℕ) (x y : X) (xs : List X) → ((k : ℕ) → k < length xs → slice_get xs k ≡ with_place f place x k)
    → place ≤ length xs → f (length xs + 1) ≡ Some y → (k : ℕ) → k < length (xs ++ y ∷ []) → slice_get (xs ++ y ∷ []) k ≡ with_place f place x k
longer_run f place x y xs h le is = pushed_run (with_place f place x) xs y h (other_place f place x (length xs) (λ is. absurd (omega arith)) ∙ is)

-- and a place that is not learnt ends it
pub ended_run : {X : Type 0} (f : ℕ → Option X) (place : ℕ) (x : X) (xs : List X) → ((k : ℕ) → k < length xs → slice_get xs k ≡ with_place f place x k)
    → place ≤ length xs → f (length xs + 1) ≡ None → (k : ℕ) → k ≤ length xs → slice_get xs k ≡ with_place f place x k
ended_run f place x xs h le none = whole_run (with_place f place x) xs h (other_place f place x (length xs) (λ is. absurd (omega arith)) ∙ none)

-- what was there stays in front
pub pushed_front : {X : Type 0} (old xs : List X) (x : X) → length old ≤ length xs → take (length old) xs ≡ old → take (length old) (xs ++ x ∷ []) ≡ old
pushed_front old xs x le is = take-append-le (length old) xs (x ∷ []) le ∙ is

pub begun_front : {X : Type 0} (old : List X) (x : X) → take (length old) (old ++ x ∷ []) ≡ old
begun_front old x = take_at old (x ∷ []) (length old) refl

pub pushed_length : {X : Type 0} (xs : List X) (x : X) → length (xs ++ x ∷ []) ≡ length xs + 1
pushed_length xs x = omega (arith, length-append xs (x ∷ []))

drop_past : {X : Type 0} (xs : List X) (n : ℕ) → length xs ≤ n → drop n xs ≡ []
drop_past [] zero le = refl
drop_past [] (suc n) le = refl
drop_past (x ∷ xs) zero le = absurd (omega arith)
drop_past (x ∷ xs) (suc n) le = drop_past xs n (omega arith)

-- what stands after the first ones, where there are so many
pub rest_of : {X : Type 0} (xs : List X) (m n : ℕ) → (n ≤ length xs → m ≡ n) → (length xs ≤ n → m ≡ length xs) → take (length xs - m) (drop m xs) ≡ drop n xs
rest_of xs m n inside_it past = take_rest xs m ∙ by (nat_le n (length xs)) refl
  where
    by : (b : Bool) → nat_le n (length xs) ≡ b → drop m xs ≡ drop n xs
    by true e = ap (λ k. drop k xs) (inside_it (grind (arith, nat_tests)))
    by false e =
        let far : length xs ≤ n = grind (arith, nat_tests) in
        let end : m ≡ length xs = past far in
        drop_past xs m (omega arith) ∙ sym (drop_past xs n far)
