-- Which words ask for what.
use Rattle.std.specs.Prelude.{◌≤◌, ℕ, nat_eq, List, [], ◌∷◌, codes, if◌then◌else◌, Option, Some, None, Result, Ok}
use Rattle.std.specs.Cmp.Lexicographic.{pointwise}
use Rattle.petal_script.specs.Fields.{in_limits}
use Rattle.petal_script.specs.declared.cause.Cause.{Cause}
use Rattle.call_words.specs.declared.form.Form.{Form}
use Rattle.call_words.specs.declared.form.Form.TheVariants.{Run, Drill}

abbrev pub both_numbers : Result ℕ Cause → Result ℕ Cause → Option Form
both_numbers (Ok seed) (Ok count) = Some (Drill seed count)
both_numbers _ _ = None

-- the seed is below 2^31, and there are at most 800 requests
abbrev pub IsWithinLimits : Form → Type 0
IsWithinLimits Run = Unit {0}
IsWithinLimits (Drill seed count) = (seed ≤ 2147483647) × (count ≤ 800)

-- a drill of two numbers within these limits
abbrev pub drill_of : (seed count : List ℕ) → Option Form
drill_of seed count = both_numbers (in_limits 0 2147483647 seed) (in_limits 0 800 count)

-- `run` alone, or `drill SEED COUNT`
abbrev pub form_of : List (List ℕ) → Option Form
form_of (first ∷ []) = if pointwise nat_eq first (codes "run") then Some Run else None
form_of (first ∷ seed ∷ count ∷ []) = if pointwise nat_eq first (codes "drill") then drill_of seed count else None
form_of _ = None
