-- By whose step it is, and its kind.
use Rattle.law_steps.proofs.Imports.{[], ◌++◌, ◌∷◌}
use Rattle.law_steps.proofs.WorldsAreFirm.{always_firm}
use Rattle.law_steps.proofs.KindsInHistories.{last_happens}
use Rattle.law_steps.proofs.each_step_is_of_a_kind.Goals as goal

pub returns : goal.returns
returns c script prefix own sound legal state below =
    last_happens script prefix own (always_firm script (prefix ++ own ∷ []) sound legal) legal state below
