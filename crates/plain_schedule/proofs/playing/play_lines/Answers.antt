use Rattle.plain_schedule.proofs.Prefixes.{still}
use Rattle.plain_schedule.proofs.playing.play_lines.Goals as goal

pub phase_answers-requires-clause-told : goal.phase_answers-requires-clause-told
phase_answers-requires-clause-told g c =
    (still c.args.told c.args.rounds.now.world.records c.loop.rounds.world.records c.requires.told c.loop.invariant.2.1).within
