use Rattle.petal_run.proofs.Ordered.{lines-few}
use Rattle.petal_run.proofs.laws.lines_are_few.Goals as goal

pub returns : goal.returns
returns c = λ text script is. lines-few text script (c.what_a_script_is.ensures text script is)
