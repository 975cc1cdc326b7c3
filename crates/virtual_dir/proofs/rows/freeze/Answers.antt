use Rattle.std.proofs.Common.{◌≡◌, Some, None, position}
use Rattle.global_tables.specs.Disk.{is_disk, row_frozen}
use Rattle.global_tables.proofs.Changes.{change_at, change_none, disk_at_place}
use Rattle.virtual_dir.proofs.rows.freeze.Goals as goal

pub freeze_row-requires : goal.freeze_row-requires
freeze_row-requires c =
    let at : position (is_disk c.args.disk) c.args.rows.now ≡ Some c.in-Some.at = cc in
    c.requires _ (disk_at_place c.args.disk c.args.rows.now c.in-Some.at c.index-rows-at.result at)

pub returns-in_ok-freeze_row-in-Some-clause-ok : goal.returns-in_ok-freeze_row-in-Some-clause-ok
returns-in_ok-freeze_row-in-Some-clause-ok c =
    let at : position (is_disk c.args.disk) c.args.rows.now ≡ Some c.in-Some.at = cc in
    change_at c.args.disk (row_frozen c.args.name.now) c.args.rows.now c.in-Some.at c.freeze_row.new.row c.index-rows-at.result
    at c.in_ok-freeze_row-in-Some.ensures.ok

pub returns-in-None-clause-ok : goal.returns-in-None-clause-ok
returns-in-None-clause-ok c =
    let none : position (is_disk c.args.disk) c.args.rows.now ≡ None = cc in
    change_none c.args.disk (row_frozen c.args.name.now) c.args.rows.now none
