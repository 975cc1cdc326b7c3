use Rattle.std.proofs.Common.{◌≡◌, ◌≤◌, []}
use Rattle.plain_schedule.specs.Phases.{GoesByPhases}
use Rattle.petal_run.specs.Written.{Wrote}
use Rattle.petal_run.proofs.script.play_phases.Given as goal

-- the text of the phases that have ended stands written
abbrev pub invariant-loop : goal.invariant-loop
invariant-loop g l =
    (goal.iterator-loop g).can_next l.iterator' × (goal.iterator-loop g).is_finite l.iterator'
    × (l.playing.script ≡ l.fn.playing.script) × GoesByPhases l.playing × (l.playing.since ≡ [])
    × (g.W.Sink.observable → Wrote (g.W.Sink.taken l.fn.sink) l.playing.ended (g.W.Sink.taken l.sink))
    × (g.W.Sink.faults l.fn.sink ≤ g.W.Sink.faults l.sink)
