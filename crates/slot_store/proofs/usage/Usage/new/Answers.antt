use Rattle.std.proofs.Common.{◌≡◌, false, replicate, rules}
use Rattle.slot_store.proofs.Turns.{turn-first}
use Rattle.slot_store.proofs.usage.Usage.new.Goals as goal

pub invariant_of-result : goal.invariant_of-result
invariant_of-result c =
    let items : c.in_ok-vec.field-0.items ≡ replicate c.args.slots false = search rules in
    rw (items, c.in_ok-numbers.ensures, c.in_ok-numbers-2.ensures) (turn-first c.args.slots (search rules))
