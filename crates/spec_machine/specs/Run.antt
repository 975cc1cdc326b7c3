-- The plain machine of block maps: its events and runs.
use Rattle.std.specs.Prelude.{◌≡◌, ℕ, Bool, true, false, List, [], ◌∷◌, ◌++◌, map, Option, Some, None}
use Rattle.std.specs.Ordering.{nat_cmp}
use Rattle.petal_table.specs.Table.{Table, put}
use Rattle.spec_machine.specs.declared.event.Event.{Event}
use Rattle.spec_machine.specs.declared.event.Event.TheVariants.{Make, Freeze, Begin, Take, End, Look}
use Rattle.spec_machine.specs.declared.event.Write.{Write}
use Rattle.spec_machine.specs.declared.event.WriteEnd.{WriteEnd}
use Rattle.spec_machine.specs.declared.event.WriteEnd.TheVariants as write_end
use Rattle.spec_machine.specs.declared.state.PlainDisk.{PlainDisk}
use Rattle.spec_machine.specs.declared.state.Open.{Open}
use Rattle.spec_machine.specs.Machine.{Plain, blank, blocks_of, disk_of, snap_of, open_of, content, with_disk, but_of, remembers}

-- the write is under way
pub record IsOpen (opened : List Open) (w : Write) : Type 0 where
  pub held : Bool
  pub is : open_of opened w.client ≡ Some (record { write = w; held = held })

-- there is a disk of this name
pub record HasDisk (disks : List PlainDisk) (name : List ℕ) : Type 0 where
  pub disk : PlainDisk
  pub is : disk_of disks name ≡ Some disk

-- the disk is known and has no snapshot of this name
pub record MayFreeze (disks : List PlainDisk) (name snap : List ℕ) : Type 0 where
  pub known : HasDisk disks name
  pub fresh : snap_of known.disk snap ≡ None

-- the disk, or its snapshot where one is named, has these bytes as the block's content
pub record MayLook (disks : List PlainDisk) (name : List ℕ) (snap : Option (List ℕ)) (block : ℕ) (bytes : List ℕ) : Type 0 where
  pub known : HasDisk disks name
  pub blocks : Table ℕ (List ℕ)
  pub is : blocks_of known.disk snap ≡ Some blocks
  pub has : content blocks block ≡ bytes

-- a write is answered `ok` only where its block has had its bytes since it was opened
abbrev pub MayEnd : List Open → Write → WriteEnd → Type 0
MayEnd opened w write_end.Ok = open_of opened w.client ≡ Some (record { write = w; held = true })
MayEnd opened w write_end.NoSpace = IsOpen opened w
MayEnd opened w write_end.Unavailable = IsOpen opened w
MayEnd opened w write_end.NoDisk = IsOpen opened w

-- when an event is allowed
abbrev pub May : Plain → Event → Type 0
May m (Make name) = disk_of m.disks name ≡ None
May m (Freeze name snap) = MayFreeze m.disks name snap
May m (Begin w) = open_of m.opened w.client ≡ None
May m (Take w) = IsOpen m.opened w × HasDisk m.disks w.disk
May m (End w answer) = MayEnd m.opened w answer
May m (Look name snap block bytes) = MayLook m.disks name snap block bytes

-- the disk with these bytes as the content of this block
abbrev pub written : ℕ → List ℕ → PlainDisk → PlainDisk
written block bytes disk = record disk { now = put nat_cmp disk.now block bytes }

-- the disk with a copy of its blocks as one snapshot more
abbrev pub frozen : List ℕ → PlainDisk → PlainDisk
frozen snap disk = record disk { snaps = disk.snaps ++ record { name = snap; blocks = disk.now } ∷ [] }

-- what an event does
abbrev pub changed : Plain → Event → Plain
changed m (Make name) = record m { disks = m.disks ++ record { name = name; now = []; snaps = [] } ∷ [] }
changed m (Freeze name snap) = record m { disks = with_disk m.disks name (frozen snap) }
changed m (Begin w) = record m { opened = m.opened ++ record { write = w; held = false } ∷ [] }
changed m (Take w) = record m { disks = with_disk m.disks w.disk (written w.block w.bytes) }
changed m (End w answer) = record m { opened = but_of m.opened w.client }
changed m (Look name snap block bytes) = m

-- each write under way remembers whether its block has its bytes
abbrev pub remembered : Plain → Plain
remembered m = record m { opened = map (remembers m.disks) m.opened }

-- the machine after an event
unfoldable pub after : Plain → Event → Plain
after m e = remembered (changed m e)

-- each event is allowed in the state that the events before it leave
abbrev pub Obeys : Plain → List Event → Type 0
Obeys m [] = Unit {0}
Obeys m (e ∷ es) = May m e × Obeys (after m e) es

-- the machine after a list of events
abbrev pub replay : Plain → List Event → Plain
replay m [] = m
replay m (e ∷ es) = replay (after m e) es

-- a run: from the machine without disks and writes, each event is allowed
abbrev pub IsRun : List Event → Type 0
IsRun es = Obeys blank es
