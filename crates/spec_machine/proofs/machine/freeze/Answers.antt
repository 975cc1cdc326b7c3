-- The disk stands at its place.
use Rattle.std.proofs.Common.{sym, ap, ◌∙◌, slice_set}
use Rattle.spec_machine.specs.declared.state.PlainDisk.{PlainDisk}
use Rattle.spec_machine.specs.Machine.{is_named, snap_of}
use Rattle.spec_machine.specs.Run.{frozen}
use Rattle.spec_machine.proofs.Places.{found, not_found, changed_at, same_some, on_ok_map}
use Rattle.spec_machine.proofs.machine.freeze.Goals as goal

pub returns-in_default-clause-not_allowed : goal.returns-in_default-clause-not_allowed
returns-in_default-clause-not_allowed c _ h = let e = not_found (is_named c.args.name.now) c.args.disks.now (sym c.in_default.is ∙ c.place_of.ensures) in
    let f = h.known.is in cc

pub returns-clause-ok : goal.returns-clause-ok
returns-clause-ok c =
    let e = sym c.in-Some.is ∙ c.place_of.ensures in
    on_ok_map c.freeze_disk.result c.freeze_disk.ensures.ok (λ ok. (
      record { known = record { disk = _; is = found (is_named c.args.name.now) c.args.disks.now c.in-Some.place c.index-disks-place.result e }; fresh = ok.0 },
      ap (slice_set c.args.disks.now c.in-Some.place) ok.1
          ∙ sym (changed_at c.args.name.now (frozen c.args.snap) c.args.disks.now c.in-Some.place c.index-disks-place.result e),
    ))

pub returns-clause-not_allowed : goal.returns-clause-not_allowed
returns-clause-not_allowed c e h =
    let at = found (is_named c.args.name.now) c.args.disks.now c.in-Some.place c.index-disks-place.result (sym c.in-Some.is ∙ c.place_of.ensures) in
    c.freeze_disk.ensures.not_allowed e (ap (λ (d : PlainDisk). snap_of d c.args.snap) (same_some (sym at ∙ h.known.is)) ∙ h.fresh)
