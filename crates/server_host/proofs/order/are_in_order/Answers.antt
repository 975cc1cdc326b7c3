-- Each line goes on from the last one.
use Rattle.std.proofs.Common.{refl, ◌∙◌}
use Rattle.server_host.proofs.Ordering.{none_yet, next_up, climb_on}
use Rattle.server_host.proofs.order.are_in_order.Goals as goal

pub loop-line-init : goal.loop-line-init
loop-line-init c = (none_yet, refl)

pub loop-line-preserved : goal.loop-line-preserved
loop-line-preserved c =
    let lines = c.args.lines.now in
    let i = c.loop-line.line-index in
    let line = c.line-item.result in
    let number = c.loop-line.number in
    let phase = c.loop-line.phase in
    let (up, exactly) = c.loop-line.invariant in (
      next_up lines i line number phase c.loop-line-test.true c.line-item.is up c.if-line-number.false c.if-line-phase.false,
      exactly ∙ climb_on lines i line number phase c.loop-line-test.true c.line-item.is c.if-line-number.false c.if-line-phase.false,
    )
