use Rattle.std.proofs.Common.{arith}
use Rattle.std.proofs.lemmas.Result.{IfOk-weaker}
use Rattle.server_log.specs.Part.{Part}
use Rattle.server_log.proofs.Wanted.{idle_want}
use Rattle.server_log.proofs.memory.side.LogSide.next_want.Goals as goal

pub returns : goal.returns
returns c =
    let it = c.self.inside in
    let part : Part = record {
      voter = record { me = it.proposer.me; inc = it.inc; servers = it.proposer.servers };
      phase = it.proposer.phase;
      refused = it.refused;
      applied = it.applied;
      leaves = it.leaves;
      wants = it.wants;
      asks = it.asks;
    } in
    let entries = rw (← c.self.view_is) at c.rev.ensures.entries in
    let below = c.if-rev-ge-GREATEST_PLACE.false in
    rw (← c.self.view_is)
    (IfOk-weaker c.most_urgent.result _ _ (idle_want part c.args.returning.now c.in-Idle.is (omega (arith, entries, below)))
    (rw (← c.self.view_is) at c.most_urgent.ensures))
