use Rattle.std.proofs.Common.{refl, arith}
use Rattle.std.specs.List.{Contains}
use Rattle.data_device.specs.Tickets.{without}
use Rattle.data_device.proofs.Ledgers.{length-without, times-contains}
use Rattle.server_store.proofs.Steps.{kept_anew}
use Rattle.server_store.proofs.store.Store.give_back.Goals as goal

pub invariant_of-self : goal.invariant_of-self
invariant_of-self g c =
    let own = c.self.inside in
    let has : Contains own.ledger.tickets c.args.ticket = rw (← c.self.view_is) at c.requires in
    let out = length-without c.args.ticket own.ledger.tickets (times-contains own.ledger.tickets c.args.ticket has) in
    rw c.give_back.ensures
    (kept_anew own.ledger (record own.ledger { tickets = without own.ledger.tickets c.args.ticket }) own.marks own.marks own.rows own.rows
    own.fresh own.fresh own.log own.log own.buffer own.buffer _ _ c.self.invariant refl c.self.invariant.kept c.self.invariant.within
    (omega (arith, c.self.invariant.room, out)) refl refl)
