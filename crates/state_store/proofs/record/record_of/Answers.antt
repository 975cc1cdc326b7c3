use Rattle.std.proofs.Common.{ap, length, ◌∙◌}
use Rattle.state_store.proofs.Bodies.{length-body}
use Rattle.state_store.proofs.record.record_of.Goals as goal

pub returns-then-body-ne-BODY_BYTES-clause-only : goal.returns-then-body-ne-BODY_BYTES-clause-only
returns-then-body-ne-BODY_BYTES-clause-only c r fits is = absurd (c.if-body-ne-BODY_BYTES.true (ap length is ∙ length-body r fits))
