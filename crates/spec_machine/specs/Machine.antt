-- The plain machine of block maps: its state.
use Rattle.std.specs.Prelude.{ℕ, Bool, false, ◌||◌, ◌==◌, List, [], ◌∷◌, find, filter, not, nat_eq, if◌then◌else◌, Option, Some, None, unwrap_or}
use Rattle.std.specs.Cmp.Lexicographic.{pointwise}
use Rattle.std.specs.Option.{option_map}
use Rattle.std.specs.Ordering.{nat_cmp}
use Rattle.petal_base.specs.Block.{zero_block}
use Rattle.petal_table.specs.Table.{Table, at}
use Rattle.spec_machine.specs.declared.event.Write.{Write}
use Rattle.spec_machine.specs.declared.state.PlainDisk.{PlainDisk}
use Rattle.spec_machine.specs.declared.state.Open.{Open}
use Rattle.spec_machine.specs.declared.state.PlainSnapshot.{PlainSnapshot}

-- the disks in the order in which they were made, and the writes under way, at most one for each client
pub record Plain : Type 0 where
  pub disks : List PlainDisk
  pub opened : List Open

-- the machine with these disks and writes under way
abbrev pub plain : List PlainDisk → List Open → Plain
plain disks opened = record { disks = disks; opened = opened }

-- no disk, and no write under way
abbrev pub blank : Plain
blank = plain [] []

-- two texts, or the bytes of two blocks, are the same
abbrev pub same_bytes : List ℕ → List ℕ → Bool
same_bytes = pointwise nat_eq

abbrev pub is_named : List ℕ → PlainDisk → Bool
is_named name disk = same_bytes disk.name name

-- the disk of this name
abbrev pub disk_of : List PlainDisk → List ℕ → Option PlainDisk
disk_of disks name = find (is_named name) disks

abbrev pub is_snap_named : List ℕ → PlainSnapshot → Bool
is_snap_named name snap = same_bytes snap.name name

-- the disk's snapshot of this name
abbrev pub snap_of : PlainDisk → List ℕ → Option PlainSnapshot
snap_of disk name = find (is_snap_named name) disk.snaps

-- the disk's blocks, or those of its snapshot of this name
abbrev pub blocks_of : PlainDisk → Option (List ℕ) → Option (Table ℕ (List ℕ))
blocks_of disk None = Some disk.now
blocks_of disk (Some name) = option_map (λ snap. snap.blocks) (snap_of disk name)

abbrev pub is_of : ℕ → Open → Bool
is_of client open_write = open_write.write.client == client

-- the client's write under way
abbrev pub open_of : List Open → ℕ → Option Open
open_of opened client = find (is_of client) opened

-- a block's content: what stands there, or zeros
unfoldable pub content : Table ℕ (List ℕ) → ℕ → List ℕ
content blocks block = unwrap_or (at nat_cmp blocks block) zero_block

-- the disks, with what is made of the one of this name
abbrev pub with_disk : List PlainDisk → List ℕ → (PlainDisk → PlainDisk) → List PlainDisk
with_disk [] name change = []
with_disk (d ∷ ds) name change = if is_named name d then change d ∷ ds else d ∷ with_disk ds name change

-- the writes but the client's
abbrev pub but_of : List Open → ℕ → List Open
but_of opened client = filter (λ o. not (is_of client o)) opened

abbrev pub has_content : Write → Option PlainDisk → Bool
has_content w None = false
has_content w (Some disk) = same_bytes (content disk.now w.block) w.bytes

-- the block has the write's bytes
abbrev pub stands : List PlainDisk → Write → Bool
stands disks w = has_content w (disk_of disks w.disk)

-- a write under way remembers that its block has had its bytes
abbrev pub remembers : List PlainDisk → Open → Open
remembers disks o = record o { held = o.held || stands disks o.write }
