-- A number that is found among some that follow each other is one of them.
use Rattle.std.proofs.Common.{◌+◌, ◌<◌, ℕ, zero, suc, Bool, true, false, cond, Some, IfSome, arith}
use Rattle.std.proofs.lemmas.Option.{IfSome_then}
use Rattle.std.specs.List.{find, range_with_len}

pub found_within : (test : ℕ → Bool) (first count : ℕ) → IfSome (find test (range_with_len first count)) (λ found. found < first + count)
found_within test first zero = tt
found_within test first (suc count) = by (test first) (found_within test (first + 1) count)
  where
    by : (b : Bool) → IfSome (find test (range_with_len (first + 1) count)) (λ found. found < first + 1 + count)
        → IfSome (cond b (Some first) (find test (range_with_len (first + 1) count))) (λ found. found < first + suc count)
    by true rest = omega arith
    by false rest =
        IfSome_then _ {P = λ found. found < first + 1 + count} {Q = λ found. found < first + suc count} rest (λ found below. omega (arith, below))
