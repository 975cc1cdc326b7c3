-- The step of each record is of a kind, and of these only the lead's put changes a chain that it leads.
use Rattle.law_copies.proofs.MarksPrecedePuts.{marks_first}
use Rattle.law_copies.proofs.leads_put_on_marked_blocks.Goals as goal

pub returns : goal.returns
returns c script records sound legal = marks_first script records sound legal
