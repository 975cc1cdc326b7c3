use Rattle.law_agreement.proofs.MajoritiesChoose.{chosen_stays}
use Rattle.law_agreement.proofs.ChosenLogGrows.{log_grows}
use Rattle.law_agreement.proofs.chosen.log_only_grows.Goals as goal

pub returns : goal.returns
returns c = record { chosen = chosen_stays; log = log_grows }
