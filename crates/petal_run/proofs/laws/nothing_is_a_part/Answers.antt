use Rattle.petal_run.proofs.Telling.{nothing_done, nothing_wrote}
use Rattle.petal_run.proofs.laws.nothing_is_a_part.Goals as goal

pub returns-clause-part : goal.returns-clause-part
returns-clause-part c = nothing_done c.read_scripts_are_sound.ensures.law

pub returns-clause-by_phases : goal.returns-clause-by_phases
returns-clause-by_phases c = nothing_wrote
