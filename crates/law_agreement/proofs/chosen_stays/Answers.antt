use Rattle.law_agreement.proofs.ChosenWasWanted.{lasting, wanted}
use Rattle.law_agreement.proofs.chosen_stays.Goals as goal

pub returns-clause-lasting : goal.returns-clause-lasting
returns-clause-lasting c n early late place v small = lasting n early late place v small

pub returns-clause-wanted : goal.returns-clause-wanted
returns-clause-wanted c n events place v small = wanted n events place v small
