use Rattle.std.proofs.Common.{ap, arith}
use Rattle.slot_store.specs.Slots.{Slots}
use Rattle.data_device.proofs.Ledgers.{sound-new}
use Rattle.data_device.proofs.ledger.Ledger.new.Goals as goal

pub invariant_of-result : goal.invariant_of-result
invariant_of-result c = (
  sound-new c.args.slots c.new.result.spare c.in_ok-new.field-0.used c.new-3.result.items c.new.result.entries
      (ap (λ (s : Slots). s.used) c.in_ok-new.ensures) c.new-3.ensures c.new.ensures (omega (arith, c.ranges.slots)),
  ap (λ (s : Slots). s.base) c.in_ok-new.ensures,
)
