use Rattle.std.proofs.Common.{◌≡◌, Some, None, position}
use Rattle.global_tables.specs.Disk.{is_disk, row_fenced}
use Rattle.global_tables.proofs.Changes.{change_at, change_none}
use Rattle.virtual_dir.proofs.rows.fence_region.Goals as goal

pub returns-in_ok-fence_row-in-Some-clause-ok : goal.returns-in_ok-fence_row-in-Some-clause-ok
returns-in_ok-fence_row-in-Some-clause-ok c =
    let at : position (is_disk c.args.disk) c.args.rows.now ≡ Some c.in-Some.at = cc in
    change_at c.args.disk (row_fenced c.args.region) c.args.rows.now c.in-Some.at c.fence_row.new.row c.index-rows-at.result
    at c.in_ok-fence_row-in-Some.ensures.ok

pub returns-in-None-clause-ok : goal.returns-in-None-clause-ok
returns-in-None-clause-ok c =
    let none : position (is_disk c.args.disk) c.args.rows.now ≡ None = cc in
    change_none c.args.disk (row_fenced c.args.region) c.args.rows.now none
