-- A disk's row is changed at its place in the list.
use Rattle.std.proofs.Common.{◌≡◌, ℕ, ◌<◌, ◌≤◌, List, [], ◌∷◌, length, Some, None, refl, arith, get_or, set}
use Rattle.std.specs.List.{position, position_or_len}
use Rattle.std.proofs.lemmas.Bool.Decides.{nat_tests}
use Rattle.global_tables.specs.declared.disk.DiskRow.{DiskRow}
use Rattle.global_tables.specs.Disk.{change, disk_at, is_disk}

change_there : (disk : ℕ) (f : DiskRow → DiskRow) (rows : List DiskRow) (d : DiskRow) → position_or_len (is_disk disk) rows < length rows
    → set rows (position_or_len (is_disk disk) rows) (f (get_or rows (position_or_len (is_disk disk) rows) d)) ≡ change disk f rows
change_there disk f [] d below = absurd (omega arith)
change_there disk f (row ∷ rows) d below = grind (arith, nat_tests, change_there disk f rows d)

change_nowhere : (disk : ℕ) (f : DiskRow → DiskRow) (rows : List DiskRow) → length rows ≤ position_or_len (is_disk disk) rows → change disk f rows ≡ rows
change_nowhere disk f [] past = refl
change_nowhere disk f (row ∷ rows) past = grind (arith, nat_tests, change_nowhere disk f rows)

-- the row at the disk's place is changed, and no other
pub change_at : (disk : ℕ) (f : DiskRow → DiskRow) (rows : List DiskRow) (i : ℕ) (row d : DiskRow) → position (is_disk disk) rows ≡ Some i
    → row ≡ f (get_or rows i d) → set rows i row ≡ change disk f rows
change_at disk f rows i row d at is = grind (arith, nat_tests, change_there disk f rows d)

-- where the disk is unknown nothing changes
pub change_none : (disk : ℕ) (f : DiskRow → DiskRow) (rows : List DiskRow) → position (is_disk disk) rows ≡ None → rows ≡ change disk f rows
change_none disk f rows none = grind (arith, nat_tests, change_nowhere disk f rows)

disk_there : (disk : ℕ) (rows : List DiskRow) (d : DiskRow) → position_or_len (is_disk disk) rows < length rows
    → disk_at rows disk ≡ Some (get_or rows (position_or_len (is_disk disk) rows) d)
disk_there disk [] d below = absurd (omega arith)
disk_there disk (row ∷ rows) d below = grind (arith, nat_tests, disk_there disk rows d)

disk_nowhere : (disk : ℕ) (rows : List DiskRow) → length rows ≤ position_or_len (is_disk disk) rows → disk_at rows disk ≡ None
disk_nowhere disk [] past = refl
disk_nowhere disk (row ∷ rows) past = grind (arith, nat_tests, disk_nowhere disk rows)

-- the disk's row stands at its place
pub disk_at_place : (disk : ℕ) (rows : List DiskRow) (i : ℕ) (d : DiskRow) → position (is_disk disk) rows ≡ Some i → disk_at rows disk ≡ Some (get_or rows i d)
disk_at_place disk rows i d at = grind (arith, nat_tests, disk_there disk rows d)

pub disk_at_none : (disk : ℕ) (rows : List DiskRow) → position (is_disk disk) rows ≡ None → disk_at rows disk ≡ None
disk_at_none disk rows none = grind (arith, nat_tests, disk_nowhere disk rows)
