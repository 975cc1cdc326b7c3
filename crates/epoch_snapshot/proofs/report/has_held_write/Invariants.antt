-- Whether one of the rows that are left is such a write, is whether one of all is.
use Rattle.std.proofs.Common.{◌≡◌}
use Rattle.std.specs.List.{list_any}
use Rattle.epoch_snapshot.specs.Report.{is_held_write}
use Rattle.epoch_snapshot.proofs.report.has_held_write.Given as goal

abbrev pub invariant-loop-cell : goal.invariant-loop-cell
invariant-loop-cell l = list_any (is_held_write l.state) l.cell-iterator ≡ list_any (is_held_write l.state) l.locks
