use Rattle.petal_run.proofs.Ordered.{script-rises}
use Rattle.petal_run.proofs.laws.phases_rise.Goals as goal

pub returns : goal.returns
returns c = λ text script is. script-rises text script (c.what_a_script_is.ensures text script is)
