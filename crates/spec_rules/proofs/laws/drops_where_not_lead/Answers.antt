-- By whether it is the lead, and the stage.
use Rattle.std.proofs.Common.{◌≡◌, Bool, true, false, refl}
use Rattle.std.specs.Prelude.{◌↔◌, if◌then◌else◌}
use Rattle.petal_msg.specs.declared.operation.Action.TheVariants.{Drop}
use Rattle.petal_msg.specs.declared.operation.Stage.{Stage}
use Rattle.spec_rules.specs.State.{in_both, leads_link}
use Rattle.spec_rules.specs.Writes.{both_action, alone_action}
use Rattle.spec_rules.proofs.laws.drops_where_not_lead.Goals as goal

works : (stage : Stage) → both_action stage ≡ Drop → ⊥
works stage e = by stage.reserved stage.busy stage.put stage.paired e
  where
    by : (reserved busy put paired : Bool) → both_action (record stage { reserved = reserved; busy = busy; put = put; paired = paired }) ≡ Drop → ⊥
    by false busy put paired e = cc
    by true false false paired e = cc
    by true false true false e = cc
    by true false true true e = cc
    by true true false paired e = cc
    by true true true false e = cc
    by true true true true e = cc

works_alone : (stage : Stage) → alone_action stage ≡ Drop → ⊥
works_alone stage e = by stage.stale stage.put stage.busy e
  where
    by : (stale put busy : Bool) → alone_action (record stage { stale = stale; put = put; busy = busy }) ≡ Drop → ⊥
    by false put busy e = cc
    by true false busy e = cc
    by true true false e = cc
    by true true true e = cc

drops : (lead both : Bool) (stage : Stage)
    → ((if lead then if both then both_action stage else alone_action stage else Drop) ≡ Drop) ↔ (lead ≡ false)
drops true true stage = (λ e. absurd (works stage e), λ e. cc)
drops true false stage = (λ e. absurd (works_alone stage e), λ e. cc)
drops false both stage = (λ e. refl, λ e. refl)

pub returns : goal.returns
returns c state me op = drops (leads_link state me op.cell) (in_both state op.cell) op.stage
