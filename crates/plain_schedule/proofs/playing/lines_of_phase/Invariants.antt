use Rattle.std.proofs.Common.{◌≡◌, ◌+◌, drop}
use Rattle.plain_schedule.specs.Places.{phase_run}
use Rattle.plain_schedule.proofs.playing.lines_of_phase.Given as goal

-- the lines so far are of the phase
abbrev pub invariant-loop-line : goal.invariant-loop-line
invariant-loop-line l = (l.count ≡ l.line-index) × (phase_run l.phase l.lines ≡ l.count + phase_run l.phase (drop l.line-index l.lines))
