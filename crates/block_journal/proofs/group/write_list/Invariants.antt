use Rattle.std.proofs.Common.{◌≡◌, ◌+◌, ◌-◌, ◌≤◌, ◌∷◌, length}
use Rattle.petal_disk.specs.Disk.{Torn, Follows, LeavesOnly, LeftByWrite}
use Rattle.block_journal.specs.Groups.{Laid}
use Rattle.block_journal.proofs.group.write_list.Given as goal

abbrev pub invariant-loop-first : goal.invariant-loop-first
invariant-loop-first g l =
    let d = g.D.Disk in
    let bodies = g.B.Bodies.bodies l.bodies in
    record {
      within : l.first ≤ length bodies + 1;
      laid : d.observable → Laid l.at 32768 l.first (d.seen l.disk) (l.head ∷ bodies);
      torn : d.observable → Torn (l.at + 1) 2097151 (d.seen l.fn.disk) (d.seen l.disk);
      size : d.size l.disk ≡ d.size l.fn.disk;
      crash : Follows (Torn (l.at + 1) 2097151) (d.may_leave l.fn.disk) (d.may_leave l.disk);
      moments : LeavesOnly d.moment d.left_since l.fn.disk l.disk (LeftByWrite (l.at + 1) 2097151 (d.may_leave l.fn.disk));
      later : d.faults l.fn.disk ≤ d.faults l.disk;
      run : d.came_to l.fn.disk l.disk;
    }

abbrev pub decreases-loop-first : goal.decreases-loop-first
decreases-loop-first g l = l.total - l.first
