-- By induction on the history.
use Rattle.law_steps.proofs.Imports.{setting_of, start}
use Rattle.law_steps.proofs.WorldsAreFirm.{always_firm}
use Rattle.law_steps.proofs.KindsInHistories.{ready_chosen, rests_after, firm_after, start_rests}
use Rattle.law_steps.proofs.operations_rest_in_three_stages.Goals as goal

pub returns-clause-chosen : goal.returns-clause-chosen
returns-clause-chosen c script records sound legal =
    let setting = setting_of script in
    let firm = always_firm script records sound legal in
    ready_chosen setting _ (firm_after setting (start setting) records firm) (rests_after setting (start setting) records firm (start_rests script) legal)

pub returns-clause-own : goal.returns-clause-own
returns-clause-own c script records sound legal =
    let setting = setting_of script in
    rests_after setting (start setting) records (always_firm script records sound legal) (start_rests script) legal
