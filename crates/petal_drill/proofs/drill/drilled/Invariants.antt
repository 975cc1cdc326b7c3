use Rattle.std.proofs.Common.{◌≡◌}
use Rattle.petal_drill.specs.Drill.{drill_after}
use Rattle.petal_drill.proofs.drill.drilled.Given as goal

-- so many turns are written
abbrev pub invariant-loop-i : goal.invariant-loop-i
invariant-loop-i l = l.drill ≡ drill_after l.seed l.i
