use Rattle.law_agreement.proofs.Imports.{Chosen, begin}
use Rattle.law_agreement.proofs.SchedulesKeepFacts.{run_holds, begin_holds}
use Rattle.law_agreement.proofs.told_is_chosen.Goals as goal

pub returns-clause-letters : goal.returns-clause-letters
returns-clause-letters c n events from place v small = (run_holds n begin small (begin_holds n) events).backed from (Chosen place v)

pub returns-clause-devices : goal.returns-clause-devices
returns-clause-devices c n events s place v small = (run_holds n begin small (begin_holds n) events).learnt s place v
