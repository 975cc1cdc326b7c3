use Rattle.std.proofs.Common.{◌≡◌, ℕ, subst, length}
use Rattle.std.specs.Result.{OnOk}
use Rattle.petal_disk.specs.Disk.{part}
use Rattle.slot_store.specs.Slots.{slot_start}
use Rattle.slot_store.proofs.slots.SlotStore.read.Goals as goal

pub returns-clause-bytes : goal.returns-clause-bytes
returns-clause-bytes g c =
    let file = g.D.Disk.seen c.args.disk.now in
    let at = subst (λ (at : ℕ). OnOk c.read.result (g.D.Disk.observable → c.read.new.into ≡ part file at (length c.args.into.now)))
    c.start-at.ensures c.read.ensures.bytes in
    let whole =
    subst (λ (n : ℕ). OnOk c.read.result (g.D.Disk.observable → c.read.new.into ≡ part file (slot_start c.self.inside.base c.args.slot) n)) c.requires.block
    at in
    rw (← c.self.view_is) whole
