use Rattle.data_device.proofs.Ledgers.{sound-drop, used-entry}
use Rattle.data_device.proofs.ledger.Ledger.drop_key.Goals as goal

pub give_if_any-requires : goal.give_if_any-requires
give_if_any-requires c =
    let own = c.self.inside in
    used-entry own.map.entries own.tickets.items own.slots.used c.args.key c.drop_key-dropped.result c.self.invariant.0.accounts
    c.drop_key-dropped.ensures.dropped

pub invariant_of-self : goal.invariant_of-self
invariant_of-self c =
    let own = c.self.inside in
    rw (c.give_if_any.ensures, c.drop_key-dropped.ensures.entries, c.drop_key-dropped.ensures.dropped) (
      sound-drop own.map.entries own.tickets.items own.slots.used c.args.key own.map.spare c.drop_key-dropped.new.self.spare own.out
          c.drop_key-dropped.ensures.spare c.self.invariant.0,
      c.self.invariant.1,
    )
