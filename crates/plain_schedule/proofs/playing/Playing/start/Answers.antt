use Rattle.plain_schedule.proofs.Ended.{goes_by_phases, start_places}
use Rattle.plain_schedule.proofs.playing.Playing.start.Goals as goal

pub invariant_of-result : goal.invariant_of-result
invariant_of-result c =
    let world = c.in_ok-new.field-0.world in (
      start_places c.args.script world.script world.records c.in_ok-new.ensures.script c.in_ok-new.ensures.records c.requires.rising
          c.requires.ordered c.requires.joins,
      c.in_ok-new.ensures.free,
    )

pub returns-clause-by_phases : goal.returns-clause-by_phases
returns-clause-by_phases c =
    goes_by_phases c.in_ok-new.field-0.world.script c.in_ok-new.field-0.world.records 0 0 0 (invariant_of-result c).0
