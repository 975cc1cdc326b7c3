use Rattle.law_agreement.proofs.Quorum.{majorities_meet}
use Rattle.law_agreement.proofs.majorities_meet.Goals as goal

pub returns : goal.returns
returns c = majorities_meet
