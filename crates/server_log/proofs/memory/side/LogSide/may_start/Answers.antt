use Rattle.std.proofs.lemmas.Result.{IfOk-weaker}
use Rattle.server_log.specs.Part.{Part}
use Rattle.server_log.proofs.Wanted.{start_wanted}
use Rattle.server_log.proofs.memory.side.LogSide.may_start.Goals as goal

pub returns-in-Idle : goal.returns-in-Idle
returns-in-Idle c =
    let it = c.self.inside in
    let part : Part = record {
      voter = record { me = it.proposer.me; inc = it.inc; servers = it.proposer.servers };
      phase = it.proposer.phase;
      refused = it.refused;
      applied = it.applied;
      leaves = it.leaves;
      wants = it.wants;
      asks = it.asks;
    } in
    rw (← c.self.view_is)
    (IfOk-weaker c.has_wanted.result _ _ (start_wanted part c.args.returning.now c.in-Idle.is) (rw (← c.self.view_is) at c.has_wanted.ensures))
