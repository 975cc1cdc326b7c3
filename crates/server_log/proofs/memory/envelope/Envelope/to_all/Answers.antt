use Rattle.std.proofs.Common.{arith}
use Rattle.petal_msg.specs.declared.body.Body.TheVariants as body
use Rattle.spec_rules.specs.Ballots.{post_of}
use Rattle.server_log.proofs.Letters.{next_letter, posts_next}
use Rattle.server_log.proofs.memory.envelope.Envelope.to_all.Goals as goal

pub loop-server-preserved : goal.loop-server-preserved
loop-server-preserved c = record {
  all = next_letter c.args.self.now c.loop-server.letters.items c.push_reserved.new.self.items _ c.letter_to.result c.loop-server.server
      (post_of (body.Pax c.args.said.now) c.loop-server.server) _ _
      (posts_next (post_of (body.Pax c.args.said.now)) c.loop-server.server c.args.servers (omega arith))
      c.letter_to.ensures c.push_reserved.ensures.items c.loop-server.invariant.all;
  len = omega arith;
  room = omega arith;
}
