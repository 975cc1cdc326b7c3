-- By induction on the history.
use Rattle.law_jobs.proofs.Imports.{always_firm, setting_of, start, start_rests}
use Rattle.law_jobs.proofs.EntriesReachComingCells.{comes_after, start_comes}
use Rattle.law_jobs.proofs.entries_move_to_cells_on_their_way.Goals as goal

pub returns : goal.returns
returns c script records sound legal =
    let setting = setting_of script in
    comes_after setting (start setting) records (always_firm script records sound legal) (start_rests script) (start_comes script) legal
