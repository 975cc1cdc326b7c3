use Rattle.std.proofs.Common.{◌≡◌, ℕ, ◌+◌, ◌-◌, arith, is_some, if◌then◌else◌, sym, ◌∙◌, ap, Option}
use Rattle.std.specs.List.{Contains}
use Rattle.physical_map.specs.declared.entry.Entry.{Entry}
use Rattle.physical_map.specs.Entries.{slot_of}
use Rattle.data_device.proofs.Ledgers.{sound-settle, used-entry, some-out}
use Rattle.data_device.proofs.ledger.Ledger.settle.Goals as goal

pub give_if_any-requires : goal.give_if_any-requires
give_if_any-requires c =
    let own = c.self.inside in
    used-entry own.map.entries own.tickets.items own.slots.used c.args.key c.put-replaced.result c.self.invariant.0.accounts c.put-replaced.ensures.replaced

pub invariant_of-self : goal.invariant_of-self
invariant_of-self c =
    let own = c.self.inside in
    let e : Entry = record { key = c.args.key; slot = c.args.ticket; version = c.args.version } in
    let has : Contains own.tickets.items e.slot = rw (← c.self.view_is) at c.requires in
    let some = some-out own.map.entries own.tickets.items own.slots.used own.map.spare own.out c.args.ticket has c.self.invariant.0 in
    let room : c.put-replaced.new.self.spare + (if is_some (slot_of own.map.entries e.key) then 0 else 1) ≡ own.map.spare =
    ap (λ (o : Option ℕ). c.put-replaced.new.self.spare + (if is_some o then 0 else 1)) (sym c.put-replaced.ensures.replaced) ∙ c.put-replaced.ensures.spare in
    rw (c.changed-self-inside.ensures, c.give_if_any.ensures, c.put-replaced.ensures.entries, c.put-replaced.ensures.replaced, c.slot-slot.ensures) (
      sound-settle own.map.entries own.tickets.items own.slots.used e own.map.spare c.put-replaced.new.self.spare own.out (own.out - 1) has room
          (omega (arith, some)) c.self.invariant.0,
      c.self.invariant.1,
    )
