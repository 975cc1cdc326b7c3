-- The kinds of requests, each with what it names.
use Rattle.std.specs.Prelude.{ℕ, Bool, true, false, List, Option, Some, None}
use Rattle.script_lines.specs.declared.request.Request.{Request}
use Rattle.script_lines.specs.declared.request.Request.TheVariants.{Disk, Write, Read, Snap, Move, Stop, StopAt, Fault, Start, Blank, Settle}

abbrev pub is_disk : Request → Bool
is_disk (Disk name tuple) = true
is_disk _ = false

abbrev pub is_write : Request → Bool
is_write (Write name block pattern) = true
is_write _ = false

abbrev pub is_read : Request → Bool
is_read (Read name snap block) = true
is_read _ = false

abbrev pub is_snap : Request → Bool
is_snap (Snap name snap) = true
is_snap _ = false

abbrev pub is_move : Request → Bool
is_move (Move name tuple) = true
is_move _ = false

abbrev pub is_stop : Request → Bool
is_stop (Stop server) = true
is_stop _ = false

abbrev pub is_boot : Request → Bool
is_boot (Start server) = true
is_boot (Blank server) = true
is_boot _ = false

-- what a request names: a disk, a block of it, a server
pub record Names : Type 0 where
  pub disk : Option (List ℕ)
  pub block : Option ℕ
  pub server : Option ℕ

abbrev pub names : Request → Names
names (Disk name tuple) = record { disk = Some name; block = None; server = None }
names (Write name block pattern) = record { disk = Some name; block = Some block; server = None }
names (Read name snap block) = record { disk = Some name; block = Some block; server = None }
names (Snap name snap) = record { disk = Some name; block = None; server = None }
names (Move name tuple) = record { disk = Some name; block = None; server = None }
names (Stop server) = record { disk = None; block = None; server = Some server }
names (StopAt server at) = record { disk = None; block = None; server = Some server }
names (Fault server which kind at) = record { disk = None; block = None; server = Some server }
names (Start server) = record { disk = None; block = None; server = Some server }
names (Blank server) = record { disk = None; block = None; server = Some server }
names Settle = record { disk = None; block = None; server = None }

-- the name and the servers of the disk that is made
abbrev pub disk_of : Request → Option (List ℕ × List ℕ)
disk_of (Disk name tuple) = Some (name, tuple)
disk_of _ = None
