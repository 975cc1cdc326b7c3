use Rattle.std.proofs.Common.{◌≡◌, ◌<◌, Some, subst, sym}
use Rattle.global_tables.specs.declared.disk.DiskRow.{DiskRow}
use Rattle.global_tables.specs.Disk.{disk_at}
use Rattle.spec_state.specs.State.{State}
use Rattle.state_fold.proofs.tables.Tables.effect.Goals as goal

pub freeze-requires : goal.freeze-requires
freeze-requires c = subst (λ (s : State). (row : DiskRow) → disk_at s.disks.rows c.in-Whole.disk ≡ Some row → row.epoch < 4294967295) (sym c.self.view_is)
    (c.requires c.in-Whole.disk)
