-- Each line that was taken waits.
use Rattle.std.proofs.Common.{[], sym, subst, ℕ}
use Rattle.petal_table.specs.Table.{Table}
use Rattle.server_host.specs.Waiting.{Await}
use Rattle.server_host.proofs.Awaiting.{none_wait, more_wait}
use Rattle.server_host.proofs.waiting.Waiting.start.Goals as goal

pub loop-line-init : goal.loop-line-init
loop-line-init c = subst (λ (t : Table ℕ ℕ). Await [] [] t) (sym c.new-waiting.ensures) none_wait

pub loop-line-preserved : goal.loop-line-preserved
loop-line-preserved c = more_wait c.args.lines.now c.loop-line.line-index c.line-item.result c.loop-line.waiting c.add.new.self c.requires
    c.loop-line-test.true c.line-item.is c.loop-line.invariant c.in_ok-add.ensures.ok
