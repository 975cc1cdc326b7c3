-- Virtual disks, their snapshots and their moves.
use Rattle.std.specs.Prelude.{ℕ, ◌+◌, Bool, false, ◌==◌, nat_eq, if◌then◌else◌, List, [], ◌∷◌, ◌++◌, find, replicate, slice_set, Option, Some, None, option_map}
use Rattle.std.specs.List.{list_any, list_all, range_with_len}
use Rattle.std.specs.Cmp.Lexicographic.{pointwise}
use Rattle.global_tables.specs.declared.disk.DiskRow.{DiskRow}
use Rattle.global_tables.specs.declared.disk.Snapshot.{Snapshot}
use Rattle.global_tables.specs.declared.disk.Move.{Move}
use Rattle.global_tables.specs.declared.disk.RegionState.TheVariants.{Old, Fenced, New}

-- the disks in the order of making, and how many were made so far
pub record Disks : Type 0 where
  pub rows : List DiskRow
  pub made : ℕ

-- the bytes of two names are the same
abbrev pub same_name : List ℕ → List ℕ → Bool
same_name = pointwise nat_eq

-- the row is that of the disk
abbrev pub is_disk : ℕ → DiskRow → Bool
is_disk disk row = row.id == disk

abbrev pub disk_at : List DiskRow → ℕ → Option DiskRow
disk_at rows disk = find (is_disk disk) rows

abbrev pub named : List DiskRow → List ℕ → Option DiskRow
named rows name = find (λ row. same_name row.name name) rows

abbrev pub snapshot_named : List Snapshot → List ℕ → Option Snapshot
snapshot_named snaps name = find (λ snap. same_name snap.name name) snaps

-- the rows with a disk's row changed
abbrev pub change : ℕ → (DiskRow → DiskRow) → List DiskRow → List DiskRow
change disk f [] = []
change disk f (row ∷ rows) = if is_disk disk row then f row ∷ rows else row ∷ change disk f rows

-- a new disk of epoch 0
abbrev pub made : Disks → List ℕ → ℕ → Disks
made disks name of = record {
  rows = disks.rows ++ record { id = disks.made; name = name; map = of; epoch = 0; snaps = []; moving = None } ∷ [];
  made = disks.made + 1;
}

-- a snapshot of what was written up to the present epoch, after which a newer one begins
abbrev pub row_frozen : List ℕ → DiskRow → DiskRow
row_frozen name row = record row { snaps = row.snaps ++ record { name = name; epoch = row.epoch } ∷ []; epoch = row.epoch + 1 }

abbrev pub frozen : Disks → ℕ → List ℕ → Disks
frozen disks disk name = record disks { rows = change disk (row_frozen name) disks.rows }

-- a move to a map begins: all regions are under the old map
abbrev pub row_moving : ℕ → DiskRow → DiskRow
row_moving of row = record row { map = of; moving = Some (record { old_map = row.map; regions = replicate 16 Old; noted = [] }) }

abbrev pub moving : Disks → ℕ → ℕ → Disks
moving disks disk of = record disks { rows = change disk (row_moving of) disks.rows }

-- a region is on its way, and nothing of it is noted
abbrev pub move_fenced : ℕ → Move → Move
move_fenced region move = record move { regions = slice_set move.regions region Fenced; noted = [] }

abbrev pub row_fenced : ℕ → DiskRow → DiskRow
row_fenced region row = record row { moving = option_map (move_fenced region) row.moving }

abbrev pub fenced : Disks → ℕ → ℕ → Disks
fenced disks disk region = record disks { rows = change disk (row_fenced region) disks.rows }

abbrev pub has_link : ℕ → List ℕ → Bool
has_link link noted = list_any (nat_eq link) noted

-- a link is noted, once
abbrev pub with_link : ℕ → List ℕ → List ℕ
with_link link noted = if has_link link noted then noted else noted ++ link ∷ []

-- every link of the old map is noted
abbrev pub all_noted : ℕ → List ℕ → Bool
all_noted links noted = list_all (λ link. has_link link noted) (range_with_len 0 links)

-- a region has moved; with the last one the move is over
abbrev pub move_done : ℕ → Move → Option Move
move_done region move = if region == 15 then None else Some (record move { regions = slice_set move.regions region New; noted = [] })

-- a link has moved all that it holds of a region
abbrev pub move_noted : ℕ → ℕ → ℕ → Move → Option Move
move_noted region link links move =
    if all_noted links (with_link link move.noted) then move_done region move else Some (record move { noted = with_link link move.noted })

abbrev pub option_moved : ℕ → ℕ → ℕ → Option Move → Option Move
option_moved region link links None = None
option_moved region link links (Some move) = move_noted region link links move

abbrev pub row_noted : ℕ → ℕ → ℕ → DiskRow → DiskRow
row_noted region link links row = record row { moving = option_moved region link links row.moving }

abbrev pub noted : Disks → ℕ → ℕ → ℕ → ℕ → Disks
noted disks disk region link links = record disks { rows = change disk (row_noted region link links) disks.rows }

-- whether the region becomes `New` with this link
abbrev pub completes : ℕ → ℕ → Option Move → Bool
completes link links None = false
completes link links (Some move) = all_noted links (with_link link move.noted)
