-- What a step of a server leaves.
use Rattle.std.proofs.Common.{◌≡◌, ◌≢◌, ◌<◌, ◌+◌, arith, ℕ, List, [], ◌∷◌, Some, Result, Ok, Err, IsErr, IsErrAnd, IfOk, sym, subst}
use Rattle.std.specs.Prelude.{slice_get}

-- what holds of each value holds of the one that came
pub of_each : {A E : Type 0} (P Q : A → Type 0) → ((a : A) → P a → Q a) → (result : Result A E) → IfOk result P → IfOk result Q
of_each P Q each (Ok a) holds = each a holds
of_each P Q each (Err e) holds = tt

-- a number of a type that is not its greatest can be counted up
pub below : (n known most : ℕ) → known ≡ n → known < most + 1 → n ≢ most → n < most
below n known most is fits other = grind arith

-- a list with a first item is not empty
pub has_first : {A : Type 0} (xs : List A) (x : A) → slice_get xs 0 ≡ Some x → xs ≢ []
has_first [] x is empty = absurd (cc)
has_first (y ∷ xs) x is empty = absurd (cc)

-- what holds of an error holds of the result that has it
pub of_error : {T E : Type 0} (P : Result T E → Type 0) (e : E) (result : Result T E) → IsErr result × IsErrAnd result (λ it. it ≡ e) → P (Err e) → P result
of_error P e (Ok value) is holds = let no = is.0 in absurd (cc)
of_error P e (Err it) is holds = subst (λ (x : _). P (Err x)) (sym is.1) holds
