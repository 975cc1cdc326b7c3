use Rattle.petal_base.specs.declared.cell.Cell.{Cell}
use Rattle.petal_msg.specs.declared.operation.Pending.{Pending}
use Rattle.spec_rules.specs.Server.{sender}
use Rattle.spec_rules.specs.Jobs.{sent_again}
use Rattle.pair_memory.proofs.Letters.{next_letters, last_letters}
use Rattle.write_pair.proofs.lead.resend.all_after.Goals as goal

pub loop-op-preserved : goal.loop-op-preserved
loop-op-preserved c = λ own.
    next_letters (sender c.args.here.now) (λ (row : Cell × Pending). sent_again c.args.here.now own row.1) c.loop-op.letters c.in_ok-letters.letters _
    (c.in-Some.field-0-0.now, c.in-Some.op.now) c.loop-op.op-iterator c.next.new.self c.in-Some.ensures.steps
    (c.in_ok-letters.ensures own) (c.loop-op.invariant own)

pub returns : goal.returns
returns c = λ own.
    last_letters (sender c.args.here.now) (λ (row : Cell × Pending). sent_again c.args.here.now own row.1) c.loop-op.letters _
    c.loop-op.op-iterator c.in-None.ensures.steps.0 (c.loop-op.invariant own)
