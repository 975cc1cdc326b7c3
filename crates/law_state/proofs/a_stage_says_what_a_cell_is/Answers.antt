-- By the row of the disk for which the cell's map was made.
use Rattle.law_state.proofs.Imports.{state_after}
use Rattle.law_state.proofs.EntriesOnlyAdd.{log_plain}
use Rattle.law_state.proofs.Homes.{has_stage}
use Rattle.law_state.proofs.a_stage_says_what_a_cell_is.Goals as goal

pub returns : goal.returns
returns c servers log cell all = let p = log_plain servers log all in has_stage (state_after servers log) p.rows p.homes cell
