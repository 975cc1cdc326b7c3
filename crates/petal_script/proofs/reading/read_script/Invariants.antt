use Rattle.std.proofs.Common.{◌≤◌, length, IfSome}
use Rattle.petal_script.proofs.Following.{IsReading}
use Rattle.petal_script.proofs.reading.read_script.Given as goal

abbrev pub invariant-loop-rest : goal.invariant-loop-rest
invariant-loop-rest l = IsReading l.bytes l.rest l.number l.draft × IfSome l.draft (λ s. s.phases ≤ l.number)

abbrev pub decreases-loop-rest : goal.decreases-loop-rest
decreases-loop-rest l = length l.rest
