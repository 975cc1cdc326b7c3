use Rattle.petal_run.proofs.Ordered.{lines-rise}
use Rattle.petal_run.proofs.laws.lines_rise.Goals as goal

pub returns : goal.returns
returns c = λ text script is. lines-rise text script (c.what_a_script_is.ensures text script is)
