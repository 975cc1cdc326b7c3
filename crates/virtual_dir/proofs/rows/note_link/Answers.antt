use Rattle.std.proofs.Common.{◌≡◌, refl, Some, None, position}
use Rattle.global_tables.specs.Disk.{is_disk, row_noted}
use Rattle.global_tables.proofs.Changes.{change_at, change_none, disk_at_place, disk_at_none}
use Rattle.virtual_dir.proofs.rows.note_link.Goals as goal

pub returns-in_ok-note_row-in-Some-clause-ok : goal.returns-in_ok-note_row-in-Some-clause-ok
returns-in_ok-note_row-in-Some-clause-ok c =
    let at : position (is_disk c.args.disk) c.args.rows.now ≡ Some c.in-Some.at = cc in
    change_at c.args.disk (row_noted c.args.note.region c.args.note.link c.args.note.links) c.args.rows.now c.in-Some.at c.note_row.new.row
    c.index-rows-at.result at c.in_ok-note_row-in-Some.ensures.ok

pub returns-in-None-clause-ok : goal.returns-in-None-clause-ok
returns-in-None-clause-ok c =
    let none : position (is_disk c.args.disk) c.args.rows.now ≡ None = cc in
    change_none c.args.disk (row_noted c.args.note.region c.args.note.link c.args.note.links) c.args.rows.now none

pub returns-in_ok-note_row-in-Some-clause-done : goal.returns-in_ok-note_row-in-Some-clause-done
returns-in_ok-note_row-in-Some-clause-done c =
    let at : position (is_disk c.args.disk) c.args.rows.now ≡ Some c.in-Some.at = cc in
    rw (disk_at_place c.args.disk c.args.rows.now c.in-Some.at c.index-rows-at.result at) c.in_ok-note_row-in-Some.ensures.done

pub returns-in-None-clause-done : goal.returns-in-None-clause-done
returns-in-None-clause-done c =
    let none : position (is_disk c.args.disk) c.args.rows.now ≡ None = cc in
    rw (disk_at_none c.args.disk c.args.rows.now none) refl
