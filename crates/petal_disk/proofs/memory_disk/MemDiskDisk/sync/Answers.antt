use Rattle.std.proofs.Common.{sym, subst}
use Rattle.petal_disk.specs.Mixes.{LeftOf}
use Rattle.petal_disk.specs.Padded.{padded}
use Rattle.petal_disk.proofs.Padding.{within_padded}
use Rattle.petal_disk.proofs.Synced.{only_now, left_now}
use Rattle.petal_disk.proofs.memory_disk.MemDiskDisk.sync.Goals as goal

pub returns-clause-durable : goal.returns-clause-durable
returns-clause-durable c _ left m = only_now _ c.args.self.now.low _ left c.clear.ensures.items m

pub returns-clause-crash : goal.returns-clause-crash
returns-clause-crash c left m =
    let old = c.args.self.now in
    let file = padded old.now.items old.len in
    subst (LeftOf file old.low old.before.items) (sym (only_now file old.low _ left c.clear.ensures.items m))
    (left_now file old.low old.before.items (within_padded old.now.items old.len _ old.within old.range_within))
