use Rattle.law_standing.proofs.StandingChosenWasWanted.{lasting, wanted}
use Rattle.law_standing.proofs.chosen_stays.Goals as goal

pub returns-clause-lasting : goal.returns-clause-lasting
returns-clause-lasting c o early late place v fit = lasting o early late place v fit

pub returns-clause-wanted : goal.returns-clause-wanted
returns-clause-wanted c o events place v fit = wanted o events place v fit
