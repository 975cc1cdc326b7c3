use Rattle.std.proofs.Common.{subst}
use Rattle.plain_schedule.specs.Phases.{GoesByPhases}
use Rattle.plain_schedule.proofs.Ended.{goes_by_phases}
use Rattle.plain_schedule.proofs.playing.Playing.play_phase.Goals as goal

pub returns-in-Some-clause-by_phases : goal.returns-in-Some-clause-by_phases
returns-in-Some-clause-by_phases g c =
    let i = c.self.inside in
    subst GoesByPhases c.self.view_is (goes_by_phases i.rounds.world.script i.rounds.world.records i.told i.place i.phase c.self.invariant.0)

pub returns-then-is_over-clause-by_phases : goal.returns-then-is_over-clause-by_phases
returns-then-is_over-clause-by_phases g c =
    let i = c.self.inside in
    subst GoesByPhases c.self.view_is (goes_by_phases i.rounds.world.script i.rounds.world.records i.told i.place i.phase c.self.invariant.0)
