use Rattle.std.proofs.Common.{◌==◌, not, arith}
use Rattle.petal_msg.specs.declared.body.Body.TheVariants as body
use Rattle.spec_rules.specs.Ballots.{post_of}
use Rattle.server_log.proofs.Letters.{next_unheard, last_unheard}
use Rattle.server_log.proofs.memory.envelope.Envelope.down_letters.Goals as goal

pub loop-server-preserved : goal.loop-server-preserved
loop-server-preserved c = (
  next_unheard c.args.self.now (post_of (body.Down c.args.me c.args.inc)) (λ n. not (n == c.args.me)) c.loop-server.letters _ _
      c.loop-server.nth _ c.loop-server.server c.args.servers (omega arith) c.in_ok-nth.ensures.letters c.loop-server.invariant.0,
  c.in_ok-nth.ensures.count,
)

pub returns : goal.returns
returns c =
    last_unheard c.args.self.now (post_of (body.Down c.args.me c.args.inc)) (λ n. not (n == c.args.me)) c.loop-server.letters _
    c.loop-server.nth c.loop-server.server c.args.servers (omega arith) c.loop-server.invariant.0
