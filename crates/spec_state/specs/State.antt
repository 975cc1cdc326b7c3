-- The global state, and its parts as commands name them.
use Rattle.std.specs.Prelude.{ℕ, Bool, false, ◌==◌, List, [], Option, Some, None, length, map, find, replicate}
use Rattle.std.specs.Prelude.{slice_get, slice_set, unwrap_or, option_and_then}
use Rattle.std.specs.Option.{option_map_or}
use Rattle.global_tables.specs.declared.map.MapRow.{MapRow}
use Rattle.global_tables.specs.declared.link.LinkRow.{LinkRow}
use Rattle.global_tables.specs.declared.disk.DiskRow.{DiskRow}
use Rattle.global_tables.specs.declared.disk.Move.{Move}
use Rattle.global_tables.specs.declared.disk.Latest.{Latest}
use Rattle.global_tables.specs.declared.disk.Verdict.{Verdict}
use Rattle.global_tables.specs.Map.{tuple_of}
use Rattle.global_tables.specs.Disk.{Disks}
use Rattle.global_tables.specs.View.{View, new_view, inc_in, is_in}

-- what the entries so far have made
pub record State : Type 0 where
  pub rev : ℕ
  pub maps : List MapRow
  pub disks : Disks
  pub links : List LinkRow
  pub view : View
  pub verdicts : List (Option Latest)

-- before the first entry all servers are In, there is no disk, and none of the 9 clients was told anything
abbrev pub start : ℕ → State
start servers = record {
  rev = 0;
  maps = [];
  disks = record { rows = []; made = 0 };
  links = [];
  view = new_view servers;
  verdicts = replicate 9 None;
}

-- the incarnation with which a server is In
abbrev pub inc_of : State → ℕ → Option ℕ
inc_of s server = option_and_then inc_in (slice_get s.view.members server)

-- the server is In
abbrev pub is_up : State → ℕ → Bool
is_up s server = option_map_or is_in (slice_get s.view.members server) false

-- the server is In with this incarnation
abbrev pub is_up_as : State → ℕ → ℕ → Bool
is_up_as s server inc = option_map_or (λ present. present == inc) (inc_of s server) false

-- for each server whether it is In
abbrev pub ups : State → List Bool
ups s = map is_in s.view.members

-- a client's last command
abbrev pub latest : State → ℕ → Option Latest
latest s client = unwrap_or (slice_get s.verdicts client) None

-- a client is told what became of its command
abbrev pub told : State → ℕ → ℕ → Verdict → State
told s client seq verdict = record s { verdicts = slice_set s.verdicts client (Some (record { seq = seq; verdict = verdict })) }

-- the number of links of a map
abbrev pub links_of : State → ℕ → ℕ
links_of s of = option_map_or length (tuple_of s.maps of) 0

-- the move leaves this map
abbrev pub leaves : ℕ → Option Move → Bool
leaves of None = false
leaves of (Some move) = move.old_map == of

-- the disk that is on its way from this map
abbrev pub mover : State → ℕ → Option DiskRow
mover s of = find (λ row. leaves of row.moving) s.disks.rows
