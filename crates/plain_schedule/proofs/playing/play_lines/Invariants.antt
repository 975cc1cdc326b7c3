use Rattle.plain_schedule.specs.Going.{WentOn}
use Rattle.plain_schedule.proofs.playing.play_lines.Given as goal

abbrev pub invariant-loop : goal.invariant-loop
invariant-loop g l =
    (goal.iterator-loop g).can_next l.iterator' × (goal.iterator-loop g).is_finite l.iterator'
    × WentOn l.fn.rounds.world l.rounds.world
