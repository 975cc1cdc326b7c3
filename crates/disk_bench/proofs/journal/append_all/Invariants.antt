use Rattle.std.proofs.Common.{◌≡◌}
use Rattle.disk_bench.proofs.journal.append_all.Given as goal

abbrev pub invariant-loop : goal.invariant-loop
invariant-loop g l =
    (l.journal.base ≡ l.fn.journal.base) × (l.journal.limit ≡ l.fn.journal.limit) × (g.D.Disk.size l.disk ≡ g.D.Disk.size l.fn.disk)
