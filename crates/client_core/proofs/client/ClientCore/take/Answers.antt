-- One entry more is applied, as the rule has it.
use Rattle.std.proofs.Common.{sym, ◌∙◌}
use Rattle.client_core.proofs.Learnt.{entry_learnt}
use Rattle.client_core.proofs.client.ClientCore.take.Goals as goal

pub returns-clause-taken : goal.returns-clause-taken
returns-clause-taken c =
    entry_learnt c.args.self.now.me c.args.self.now.client c.in-Some.open c.args.learning.now c.apply.new.self c.args.entry.now
    c.in-Waits.witnesses c.in_ok-learning.field-0 (rw (← c.self.view_is) c.in-Some.is)
    c.in_ok-apply.ensures.state c.in_ok-apply.ensures.applied (sym c.apply.ensures.fate ∙ c.in-Waits.is)
    (λ asker. rw (← c.self.view_is) (c.in_ok-learning.ensures.fate asker))
