use Rattle.std.proofs.Common.{◌-◌, arith}
use Rattle.std.specs.List.{Contains}
use Rattle.data_device.proofs.Ledgers.{sound-give_back, used-ticket, some-out}
use Rattle.data_device.proofs.ledger.Ledger.give_back.Goals as goal

pub give-requires : goal.give-requires
give-requires c =
    let own = c.self.inside in
    let has : Contains own.tickets.items c.args.ticket = rw (← c.self.view_is) at c.requires in
    rw c.slot.ensures (used-ticket own.map.entries own.tickets.items own.slots.used c.args.ticket c.self.invariant.0.accounts has)

pub invariant_of-self : goal.invariant_of-self
invariant_of-self c =
    let own = c.self.inside in
    let has : Contains own.tickets.items c.args.ticket = rw (← c.self.view_is) at c.requires in
    let some = some-out own.map.entries own.tickets.items own.slots.used own.map.spare own.out c.args.ticket has c.self.invariant.0 in
    rw (c.changed-self-inside.ensures, c.give.ensures, c.slot.ensures) (
      sound-give_back own.map.entries own.tickets.items own.slots.used c.args.ticket own.map.spare own.out (own.out - 1) has
          (omega (arith, some)) c.self.invariant.0,
      c.self.invariant.1,
    )
