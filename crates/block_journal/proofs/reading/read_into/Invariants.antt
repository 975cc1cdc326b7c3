use Rattle.std.proofs.Common.{◌≡◌, ◌≤◌, ◌-◌, length, vec_len}
use Rattle.petal_disk.specs.Keeping.{KeepsDevice}
use Rattle.block_journal.specs.Records.{contents, Counts}
use Rattle.block_journal.proofs.reading.read_into.Given as goal

abbrev pub invariant-loop-first : goal.invariant-loop-first
invariant-loop-first g l =
    let d = g.D.Disk in
    record {
      within : l.first ≤ l.limit;
      count : vec_len l.all ≤ l.first;
      counts : d.observable → Counts g.row.R l.base l.first (d.seen l.fn.disk) (contents l.all.items);
      all : d.observable → length (contents l.all.items) ≡ l.first;
      device : KeepsDevice d.size d.seen d.may_leave d.moment d.left_since l.fn.disk l.disk;
      later : d.faults l.fn.disk ≤ d.faults l.disk;
      run : d.came_to l.fn.disk l.disk;
    }

abbrev pub decreases-loop-first : goal.decreases-loop-first
decreases-loop-first g l = l.limit - l.first
