use Rattle.std.proofs.Common.{subst, sym}
use Rattle.spec_state.specs.State.{State}
use Rattle.spec_state.specs.Bound.{IsWithin}
use Rattle.spec_state.proofs.Bounds.{after_within}
use Rattle.global_state.proofs.state.GlobalState.apply.Goals as goal

pub invariant_of-self : goal.invariant_of-self
invariant_of-self c = subst (λ (s : State). IsWithin s.rev s) (sym c.in_ok-next.ensures) (after_within c.self.inside.tables c.args.command.now c.self.invariant)
