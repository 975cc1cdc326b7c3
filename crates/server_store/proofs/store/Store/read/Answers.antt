use Rattle.std.proofs.Common.{◌∙◌, ◌≡◌, sym, Some, None}
use Rattle.petal_disk.specs.Disk.{part}
use Rattle.data_device.specs.Slots.{slot_start}
use Rattle.server_store.proofs.Contents.{found-listed, found-content}
use Rattle.server_store.proofs.Opening.{keeps_within}
use Rattle.server_store.proofs.store.Store.read.Goals as goal
use Rattle.petal_base.specs.Block.{block_bytes}

pub returns-in_ok-read-in-Some-clause-found : goal.returns-in_ok-read-in-Some-clause-found
returns-in_ok-read-in-Some-clause-found g c =
    rw (← c.self.view_is) (found-listed (g.D.Disk.seen c.self.inside.disk) (record { map = c.args.map; block = c.args.block; epoch = c.args.epoch })
    c.self.inside.ledger.entries (Some c.in-Some.entry) (sym c.in-Some.is ∙ c.lookup-found.ensures.found))

pub returns-in_ok-read-in-Some-clause-content : goal.returns-in_ok-read-in-Some-clause-content
returns-in_ok-read-in-Some-clause-content g c observed =
    let file = g.D.Disk.seen c.self.inside.disk in
    let bytes : c.read.new.into ≡ part file (slot_start c.in-Some.entry.slot) block_bytes =
    rw c.slots.ensures.base at c.in_ok-read-in-Some.ensures.bytes observed in
    rw (← c.self.view_is) (bytes ∙ found-content file (record { map = c.args.map; block = c.args.block; epoch = c.args.epoch }) c.self.inside.ledger.entries
    (Some c.in-Some.entry) (sym c.in-Some.is ∙ c.lookup-found.ensures.found))

pub returns-in-None-clause-found : goal.returns-in-None-clause-found
returns-in-None-clause-found g c =
    rw (← c.self.view_is) (found-listed (g.D.Disk.seen c.self.inside.disk) (record { map = c.args.map; block = c.args.block; epoch = c.args.epoch })
    c.self.inside.ledger.entries c.lookup-found.result c.lookup-found.ensures.found)

pub returns-in-None-clause-content : goal.returns-in-None-clause-content
returns-in-None-clause-content g c observed =
    let file = g.D.Disk.seen c.self.inside.disk in
    rw (← c.self.view_is) (c.write_zeros.ensures ∙ found-content file (record { map = c.args.map; block = c.args.block; epoch = c.args.epoch })
    c.self.inside.ledger.entries None (sym c.in-None.is ∙ c.lookup-found.ensures.found))

pub returns-in_err-read-in-Some-clause-holds : goal.returns-in_err-read-in-Some-clause-holds
returns-in_err-read-in-Some-clause-holds g c observed =
    let own = c.self.inside in
    rw (← c.self.view_is, c.read.ensures.seen) (λ h. keeps_within own.ledger.slots own.log _ _ _ _ c.read.ensures.crash h)

pub returns-in_ok-read-in-Some-clause-holds : goal.returns-in_ok-read-in-Some-clause-holds
returns-in_ok-read-in-Some-clause-holds g c observed =
    let own = c.self.inside in
    rw (← c.self.view_is, c.read.ensures.seen) (λ h. keeps_within own.ledger.slots own.log _ _ _ _ c.read.ensures.crash h)
