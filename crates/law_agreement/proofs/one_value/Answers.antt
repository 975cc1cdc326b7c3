use Rattle.law_agreement.proofs.Imports.{begin, run}
use Rattle.law_agreement.proofs.SchedulesKeepFacts.{run_holds, begin_holds, one_chosen}
use Rattle.law_agreement.proofs.one_value.Goals as goal

pub returns : goal.returns
returns c n events place v u small = one_chosen n (run n events begin) (run_holds n begin small (begin_holds n) events) place v u
