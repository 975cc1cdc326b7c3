use Rattle.std.proofs.Common.{◌≡◌, ◌+◌, ◌-◌, length, arith, rules}
use Rattle.petal_disk.proofs.Synced.{padded_up}
use Rattle.petal_disk.proofs.memory_disk.MemDisk.reach_up.Goals as goal

pub returns-then-high-end-clause-synced : goal.returns-then-high-end-clause-synced
returns-then-high-end-clause-synced c =
    let old = c.args.self.now in
    let high = old.low + c.len.result in
    let up : high ≡ old.low + length old.before.items = search rules in
    padded_up old.now.items c.deref.result.now old.low high (c.args.end - high) old.len old.before.items c.add_part.new.to.items old.within (omega arith) up
    c.deref.ensures.value c.add_part.ensures.items
