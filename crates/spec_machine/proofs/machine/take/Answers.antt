-- The disk stands at its place.
use Rattle.std.proofs.Common.{List, ℕ, sym, ap, ◌∙◌, slice_set, get_or}
use Rattle.spec_machine.specs.Machine.{is_named}
use Rattle.spec_machine.specs.Run.{written}
use Rattle.spec_machine.proofs.Places.{found, not_found, changed_at}
use Rattle.spec_machine.proofs.machine.take.Goals as goal

pub returns-in_default-clause-not_allowed : goal.returns-in_default-clause-not_allowed
returns-in_default-clause-not_allowed c _ h = let e =
    not_found (is_named c.args.write.now.disk) c.args.disks.now (sym c.in_default.is ∙ c.place_of.ensures) in let f = h.is in cc

pub returns-clause-ok : goal.returns-clause-ok
returns-clause-ok c =
    let e = sym c.in-Some.is ∙ c.place_of.ensures in
    let own = get_or c.args.disks.now c.in-Some.place c.index-disks-place.result in (
      record { disk = _; is = found (is_named c.args.write.now.disk) c.args.disks.now c.in-Some.place c.index-disks-place.result e },
      ap (slice_set c.args.disks.now c.in-Some.place)
          (c.in_ok-write_disk.ensures.ok ∙ ap (λ (x : List ℕ). written c.args.write.now.block x own) c.in_ok-bytes.ensures)
          ∙ sym (changed_at c.args.write.now.disk (written c.args.write.now.block c.args.write.now.bytes) c.args.disks.now c.in-Some.place
          c.index-disks-place.result e),
    )
