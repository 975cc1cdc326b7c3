use Rattle.law_script.proofs.FirstRefusedLine.{is_script, is_refused}
use Rattle.law_script.proofs.first_refused_line.Goals as goal

pub returns-clause-script : goal.returns-clause-script
returns-clause-script c = is_script

pub returns-clause-refused : goal.returns-clause-refused
returns-clause-refused c = is_refused
