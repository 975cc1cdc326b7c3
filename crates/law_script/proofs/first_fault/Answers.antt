use Rattle.law_script.proofs.FirstFaults.{first_fault}
use Rattle.law_script.proofs.first_fault.Goals as goal

pub returns : goal.returns
returns c = first_fault
