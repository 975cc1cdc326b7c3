-- One more write remembers.
use Rattle.std.proofs.Common.{sym, ap, ◌∙◌, arith, slice_set}
use Rattle.std.proofs.lemmas.List.Edits.{map_over_more}
use Rattle.spec_machine.specs.Machine.{remembers}
use Rattle.spec_machine.proofs.machine.remember.Goals as goal

pub loop-own-preserved : goal.loop-own-preserved
loop-own-preserved c =
    ap (slice_set c.loop-own.opened c.loop-own.own-index) (c.remember_one.ensures ∙ ap (remembers c.args.disks.now) (sym c.own-item.is))
    ∙ map_over_more (remembers c.args.disks.now) c.args.opened.now c.loop-own.opened c.loop-own.own-index c.own-item.result
    (omega (arith, c.loop-own.auto.opened)) c.loop-own.invariant c.own-item.is
