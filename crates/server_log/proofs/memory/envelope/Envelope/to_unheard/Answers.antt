use Rattle.std.proofs.Common.{not, arith}
use Rattle.petal_msg.specs.declared.body.Body.TheVariants as body
use Rattle.spec_paxos.specs.Proposer.{is_in}
use Rattle.spec_rules.specs.Ballots.{post_of}
use Rattle.server_log.proofs.Letters.{next_unheard}
use Rattle.server_log.proofs.memory.envelope.Envelope.to_unheard.Goals as goal

pub loop-server-preserved : goal.loop-server-preserved
loop-server-preserved c = (
  next_unheard c.args.self.now (post_of (body.Pax c.args.said.now)) (λ n. not (is_in c.args.heard.now n)) c.loop-server.letters _ _
      c.loop-server.nth _ c.loop-server.server c.args.servers (omega arith) c.in_ok-nth.ensures.letters c.loop-server.invariant.0,
  c.in_ok-nth.ensures.count,
)
