use Rattle.std.proofs.Common.{◌≡◌, drop}
use Rattle.std.specs.Prelude.{nat_eq}
use Rattle.std.specs.Cmp.Lexicographic.{pointwise}
use Rattle.std.specs.Map.{keys_of}
use Rattle.plain_schedule.specs.Places.{numbers}
use Rattle.plain_schedule.proofs.answers.Answers.are_of.Given as goal

-- the keys that are left against the lines that are left
abbrev pub invariant-loop-line : goal.invariant-loop-line
invariant-loop-line l =
    pointwise nat_eq l.keys (numbers (drop l.line-index l.lines)) ≡ pointwise nat_eq (keys_of l.self) (numbers l.lines)
