-- The counts that the code keeps beside the lines.
use Rattle.std.specs.Prelude.{◌≡◌, ℕ, ◌+◌, ◌<◌, ◌≤◌, Bool, true, false, List, length, get_or, slice_set}
use Rattle.script_lines.specs.Requests.{is_disk, is_snap, is_move, is_boot}
use Rattle.petal_script.specs.Script.{count, is_down}
use Rattle.script_lines.specs.declared.script.Script.{Script}
use Rattle.petal_script.specs.declared.tally.Tally.{Tally}
use Rattle.script_lines.specs.declared.request.Line.{Line}
use Rattle.script_lines.specs.declared.request.Request.{Request}
use Rattle.script_lines.specs.declared.request.Request.TheVariants.{Stop, StopAt, Fault, Start, Blank}

pub record Tallies (lines : List Line) (t : Tally) : Type 0 where
  pub requests : t.requests ≡ length lines
  pub disks : t.disks ≡ count is_disk lines
  pub snaps : t.snaps ≡ count is_snap lines
  pub moves : t.moves ≡ count is_move lines
  pub boots : t.boots ≡ count is_boot lines
  pub down : (s : ℕ) → s < 8 → get_or t.down s false ≡ is_down lines s

pub record IsSmall (t : Tally) : Type 0 where
  pub requests : t.requests ≤ 1024
  pub disks : t.disks ≤ 16
  pub snaps : t.snaps ≤ 64
  pub moves : t.moves ≤ 8
  pub boots : t.boots ≤ 64

pub record IsDraft (s : Script) (t : Tally) : Type 0 where
  pub tallies : Tallies s.lines t
  pub small : IsSmall t
  pub least : 2 ≤ s.servers
  pub most : s.servers ≤ 8
  pub begun : 1 ≤ s.phases

-- one more where it is of the kind
abbrev pub one_more : ℕ → Bool → ℕ
one_more n true = n + 1
one_more n false = n

-- which servers are possibly down after one request more
abbrev pub down_with : List Bool → Request → List Bool
down_with down (Stop server) = slice_set down server true
down_with down (StopAt server at) = slice_set down server true
down_with down (Fault server which kind at) = slice_set down server true
down_with down (Start server) = slice_set down server false
down_with down (Blank server) = slice_set down server false
down_with down _ = down

-- one request more
abbrev pub tally_with : Tally → Request → Tally
tally_with t request = record {
  requests = t.requests + 1;
  disks = one_more t.disks (is_disk request);
  snaps = one_more t.snaps (is_snap request);
  moves = one_more t.moves (is_move request);
  boots = one_more t.boots (is_boot request);
  down = down_with t.down request;
}
