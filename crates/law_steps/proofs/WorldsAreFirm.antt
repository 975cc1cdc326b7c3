-- By the law of the log, each world on the way of a legal history is firm, and what is chosen stays chosen.
use Rattle.law_steps.proofs.Imports.{AreSteps, IsSound, List, Record, Script, history_grows, history_is_firm, setting_of, start}
use Rattle.law_steps.specs.Ready.{AreFirm}
use Rattle.law_steps.proofs.KindsInHistories.{firm_way}

pub always_firm : (script : Script) (records : List Record) → IsSound script → AreSteps script records
    → AreFirm (setting_of script) (start (setting_of script)) records
always_firm script records sound legal =
    firm_way script (λ prefix l. history_is_firm script prefix sound l) (λ prefix l. history_grows script prefix sound l) records legal
