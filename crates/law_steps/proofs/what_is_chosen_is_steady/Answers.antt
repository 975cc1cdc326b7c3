-- The chosen log is plain.
use Rattle.law_steps.proofs.Imports.{setting_of, start}
use Rattle.law_steps.proofs.WorldsAreFirm.{always_firm}
use Rattle.law_steps.proofs.KindsInHistories.{chosen_steady, firm_after}
use Rattle.law_steps.proofs.what_is_chosen_is_steady.Goals as goal

pub returns : goal.returns
returns c script records sound legal =
    let setting = setting_of script in
    chosen_steady setting _ (firm_after setting (start setting) records (always_firm script records sound legal))
