use Rattle.law_agreement.proofs.Imports.{Accepted, Promise, begin}
use Rattle.law_agreement.proofs.SchedulesKeepFacts.{run_holds, begin_holds}
use Rattle.law_agreement.proofs.letters_stand.Goals as goal

pub returns-clause-promises : goal.returns-clause-promises
returns-clause-promises c n events from place b before small i = ((run_holds n begin small (begin_holds n) events).backed from (Promise place b before) i).0

pub returns-clause-acceptances : goal.returns-clause-acceptances
returns-clause-acceptances c n events from place b small = (run_holds n begin small (begin_holds n) events).backed from (Accepted place b)
