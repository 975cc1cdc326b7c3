use Rattle.std.proofs.Common.{arith}
use Rattle.std.proofs.lemmas.List.{length-map}
use Rattle.server_store.specs.Holdings.{held_in}
use Rattle.server_store.proofs.Contents.{order-held}
use Rattle.server_store.proofs.store.Store.free.Goals as goal

pub returns-clause-order : goal.returns-clause-order
returns-clause-order g c = rw (← c.self.view_is) (order-held (g.D.Disk.seen c.self.inside.disk) c.self.inside.ledger.entries c.free.ensures.order)

pub returns-clause-few : goal.returns-clause-few
returns-clause-few g c =
    rw (← c.self.view_is) (omega (arith, length-map c.self.inside.ledger.entries (held_in (g.D.Disk.seen c.self.inside.disk)), c.free.ensures.few))
