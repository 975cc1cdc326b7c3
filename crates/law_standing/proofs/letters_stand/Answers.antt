use Rattle.law_standing.proofs.Imports.{Accepted, Promise, begin}
use Rattle.law_standing.proofs.StandingSchedulesKeepFacts.{run_sound, begin_sound}
use Rattle.law_standing.proofs.letters_stand.Goals as goal

pub returns-clause-promises : goal.returns-clause-promises
returns-clause-promises c o events server first b until listed fit i =
    ((run_sound o begin fit (begin_sound o) events).backed server (Promise first b until listed) i).covers

pub returns-clause-lists : goal.returns-clause-lists
returns-clause-lists c o events server first b until listed fit i =
    ((run_sound o begin fit (begin_sound o) events).backed server (Promise first b until listed) i).voted

pub returns-clause-acceptances : goal.returns-clause-acceptances
returns-clause-acceptances c o events server place b fit = (run_sound o begin fit (begin_sound o) events).backed server (Accepted place b)
