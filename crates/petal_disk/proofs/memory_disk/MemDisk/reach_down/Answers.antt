use Rattle.std.proofs.Common.{◌≡◌, ◌-◌, ◌++◌, length, take, drop, vec_len, subst, arith, rules}
use Rattle.petal_disk.proofs.Synced.{padded_down}
use Rattle.petal_disk.proofs.memory_disk.MemDisk.reach_down.Goals as goal

pub returns-then-at-self-clause-synced : goal.returns-then-at-self-clause-synced
returns-then-at-self-clause-synced c =
    let old = c.args.self.now in
    let n = old.low - c.args.at in
    let more = c.add_part.new.to in
    let all : vec_len more ≡ length more.items = search rules in
    padded_down old.now.items c.deref.result.now c.args.at old.low old.len old.before.items more.items c.rotate_right.new.self.items old.within
    (omega arith) (omega arith) c.deref.ensures.value c.add_part.ensures.items
    (subst (λ (k : _). c.rotate_right.new.self.items ≡ drop (k - n) more.items ++ take (k - n) more.items) all c.rotate_right.ensures.items)
