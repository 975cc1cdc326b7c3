-- What tests of numbers and of two values tell.
use Rattle.law_state.proofs.Imports.{◌<◌, ◌||◌, ◌≡◌, Bool, Only, arith, false, nat_lt, nat_tests, not, refl, true, true_false, ℕ}

pub less_by : (a b : ℕ) → nat_lt a b ≡ true → a < b
less_by a b e = grind (arith, nat_tests)

pub less_test : (a b : ℕ) → a < b → nat_lt a b ≡ true
less_test a b lt = grind (arith, nat_tests)

pub was_true : (b : Bool) → not b ≡ false → b ≡ true
was_true true e = refl
was_true false e = true_false refl e

pub or_first : (a b : Bool) → a ≡ true → (a || b) ≡ true
or_first true b e = refl
or_first false b e = true_false e refl

pub same_only : {h k : ℕ} {one other : Bool} → Only h one ≡ Only k other → h ≡ k
same_only e = cc
