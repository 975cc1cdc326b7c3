use Rattle.std.proofs.Common.{inr}
use Rattle.std.proofs.lemmas.Result.{on_ok_weaker}
use Rattle.block_journal.proofs.Gates.{shut_still, clearing}
use Rattle.block_journal.proofs.halves.Halves.format_after_gate.Goals as goal

pub returns-clause-shut : goal.returns-clause-shut
returns-clause-shut g c = on_ok_weaker c.format.result
    (λ _ observed. shut_still c.args.base _ _ _ c.requires.following (c.format.ensures.outside observed) (c.in_ok-close_gate.ensures.shut observed))
    c.format.ensures.durable

pub returns-clause-any_moment : goal.returns-clause-any_moment
returns-clause-any_moment g c observed =
    clearing g.D.Disk.moment g.D.Disk.left_since c.args.disk.now c.close_gate.new.disk c.format.new.disk c.args.base _ _ _ _ c.requires.following
    (c.in_ok-close_gate.ensures.durable observed) (c.in_ok-close_gate.ensures.shut observed)
    (c.close_gate.ensures.any_moment observed) c.format.ensures.any_moment

pub returns-clause-either : goal.returns-clause-either
returns-clause-either g c observed =
    inr (shut_still c.args.base _ _ _ c.requires.following (c.format.ensures.outside observed) (c.in_ok-close_gate.ensures.shut observed))
