use Rattle.std.proofs.Common.{◌≡◌, []}
use Rattle.petal_run.proofs.drill.play_to_end.Given as goal

-- no record came after the phases that have ended
abbrev pub invariant-loop : goal.invariant-loop
invariant-loop g l =
    (goal.iterator-loop g).can_next l.iterator' × (goal.iterator-loop g).is_finite l.iterator'
    × (l.playing.script ≡ l.fn.playing.script) × (l.playing.since ≡ [])
