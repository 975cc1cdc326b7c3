use Rattle.law_agreement.proofs.MajoritiesChoose.{told_is_chosen, chosen_is_told}
use Rattle.law_agreement.proofs.chosen.majorities_choose.Goals as goal

pub returns : goal.returns
returns c = record { told = told_is_chosen; tells = chosen_is_told }
