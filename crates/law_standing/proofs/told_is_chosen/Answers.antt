use Rattle.law_standing.proofs.Imports.{Chosen, begin, known_stands, run}
use Rattle.law_standing.proofs.StandingSchedulesKeepFacts.{run_sound, begin_sound}
use Rattle.law_standing.proofs.told_is_chosen.Goals as goal

pub returns-clause-letters : goal.returns-clause-letters
returns-clause-letters c o events server place v fit = (run_sound o begin fit (begin_sound o) events).backed server (Chosen place v)

pub returns-clause-devices : goal.returns-clause-devices
returns-clause-devices c o events server place v fit e =
    (run_sound o begin fit (begin_sound o) events).learnt server place v (known_stands ((run o events begin).devices server) place v e)
