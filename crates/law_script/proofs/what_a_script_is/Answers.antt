use Rattle.law_script.proofs.TakenLines.{is_accepted}
use Rattle.law_script.proofs.what_a_script_is.Goals as goal

pub returns : goal.returns
returns c = is_accepted
