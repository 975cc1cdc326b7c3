-- A Caught of its own stands at most after its last entry.
use Rattle.law_steps.proofs.Imports.{◌∙◌, ap, number_itself, serves, setting_of, start}
use Rattle.law_steps.proofs.WorldsAreFirm.{always_firm}
use Rattle.law_steps.proofs.KindsInHistories.{firm_after}
use Rattle.law_steps.proofs.Ties.{running_prefixes, stays_alone, stays_both}
use Rattle.law_steps.proofs.a_running_server_is_tied_to_what_is_chosen.Goals as goal

pub returns-clause-both : goal.returns-clause-both
returns-clause-both c script records sound legal n prefix more runs own is_prefix chosen seat cell row is has under both =
    let setting = setting_of script in
    let firm = firm_after setting (start setting) records (always_firm script records sound legal) in
    stays_both (running_prefixes firm n runs own is_prefix chosen seat) cell row is has (ap (serves n row) both ∙ has) under both

pub returns-clause-alone : goal.returns-clause-alone
returns-clause-alone c script records sound legal n prefix more runs own is_prefix chosen seat cell row is has under whole only =
    let setting = setting_of script in
    let firm = firm_after setting (start setting) records (always_firm script records sound legal) in
    stays_alone (running_prefixes firm n runs own is_prefix chosen seat) cell row is has (ap (serves n row) only ∙ number_itself n) under whole only
