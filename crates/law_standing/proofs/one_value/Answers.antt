use Rattle.law_standing.proofs.Imports.{begin, run}
use Rattle.law_standing.proofs.StandingSchedulesKeepFacts.{run_sound, begin_sound, one_chosen}
use Rattle.law_standing.proofs.one_value.Goals as goal

pub returns : goal.returns
returns c o events place v u fit = one_chosen o (run o events begin) (run_sound o begin fit (begin_sound o) events) place v u
