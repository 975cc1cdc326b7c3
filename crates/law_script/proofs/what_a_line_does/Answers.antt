use Rattle.law_script.proofs.TakenLines.{taken_does}
use Rattle.law_script.proofs.what_a_line_does.Goals as goal

pub returns : goal.returns
returns c = taken_does
