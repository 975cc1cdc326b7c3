-- Runs worked by hand from the rules, computed from the definitions.
use Rattle.std.proofs.Common.{◌≡◌, ℕ, ◌+◌, ◌++◌, Bool, true, false, List, [], ◌∷◌, map, length, Option, Some, None, refl, codes}
use Rattle.std.specs.Prelude.{slice_get}
use Rattle.global_tables.specs.declared.link.LinkState.{LinkState}
use Rattle.global_tables.specs.declared.link.LinkState.TheVariants.{Both, Only, Lost}
use Rattle.global_tables.specs.declared.disk.Verdict.TheVariants as Verdict
use Rattle.petal_command.specs.declared.command.Command.{Command}
use Rattle.global_tables.specs.declared.disk.RegionState.{RegionState}
use Rattle.global_tables.specs.declared.disk.RegionState.TheVariants.{Old, Fenced, New}
use Rattle.petal_command.specs.declared.command.Command.TheVariants.{Join, Leave, Caught, MakeDisk, Snap, StartMove, Drained, Moved}
use Rattle.spec_state.specs.State.{State, latest}
use Rattle.spec_state.specs.CellState.{lead, live, region_at}
use Rattle.spec_state.specs.Command.{after, state_after}

-- one disk over five servers
abbrev disk : Command
disk = MakeDisk 0 1 (codes "vol") (0 ∷ 1 ∷ 2 ∷ 3 ∷ 4 ∷ [])

abbrev states : List Command → List LinkState
states log = map (λ row. row.state) (state_after 5 log).links

abbrev epochs : List Command → List ℕ
epochs log = map (λ row. row.epoch) (state_after 5 log).disks.rows

abbrev two_left : List Command
two_left = disk ∷ Leave 1 1 ∷ Leave 2 1 ∷ []

pub one_leaves : states (disk ∷ Leave 1 1 ∷ []) ≡ Only 0 false ∷ Only 2 false ∷ Both ∷ Both ∷ Both ∷ []
one_leaves = refl

pub lead_after_one : lead (state_after 5 (disk ∷ Leave 1 1 ∷ [])) (record { map = 0; block = 1 }) ≡ Some 2
lead_after_one = refl

pub two_leave : states two_left ≡ Only 0 false ∷ Only 2 false ∷ Only 3 false ∷ Both ∷ Both ∷ []
two_leave = refl

pub no_lead_after_two : lead (state_after 5 two_left) (record { map = 0; block = 1 }) ≡ None
no_lead_after_two = refl

-- a leave of an incarnation that is not In changes nothing
pub other_incarnation_leaves : states (disk ∷ Leave 1 2 ∷ []) ≡ Both ∷ Both ∷ Both ∷ Both ∷ Both ∷ []
other_incarnation_leaves = refl

-- one that kept its blocks changes no link, and a leave of its incarnation before does nothing
pub one_joins : states (two_left ++ Join 1 2 false ∷ Leave 1 1 ∷ []) ≡ states two_left
one_joins = refl

-- a blank one loses what it alone held, and its neighbour's link has to be copied whole
pub blank_joins : states (two_left ++ Join 1 2 false ∷ Join 2 2 true ∷ Caught 0 2 3 1 2 1 ∷ []) ≡ Only 0 false ∷ Lost ∷ Only 3 true ∷ Both ∷ Both ∷ []
blank_joins = refl

pub is_caught : states (two_left ++ Join 2 2 true ∷ Caught 0 2 3 1 2 2 ∷ []) ≡ Only 0 false ∷ Lost ∷ Both ∷ Both ∷ Both ∷ []
is_caught = refl

abbrev reports : ℕ → List Command
reports fence = Drained 0 1 fence ∷ Drained 1 1 fence ∷ Drained 2 1 fence ∷ Drained 3 1 fence ∷ Drained 4 1 fence ∷ []

abbrev snapping : List Command
snapping = disk ∷ Snap 0 2 (codes "vol") (codes "s1") ∷ []

abbrev verdict_of : List Command → Option Rattle.global_tables.specs.declared.disk.Latest.Latest
verdict_of log = latest (state_after 5 log) 0

pub snapshot_waits : verdict_of snapping ≡ Some (record { seq = 2; verdict = Verdict.Waiting })
snapshot_waits = refl

pub snapshot_taken : epochs (snapping ++ reports 1) ≡ 1 ∷ []
snapshot_taken = refl

pub snapshot_told : verdict_of (snapping ++ reports 1) ≡ Some (record { seq = 2; verdict = Verdict.Ok })
snapshot_told = refl

-- one report more changes the revision alone
pub sixth_report : epochs (snapping ++ reports 1 ++ Drained 4 1 1 ∷ []) ≡ 1 ∷ []
sixth_report = refl

pub sixth_report_told : verdict_of (snapping ++ reports 1 ++ Drained 4 1 1 ∷ []) ≡ Some (record { seq = 2; verdict = Verdict.Ok })
sixth_report_told = refl

pub sixth_report_links : states (snapping ++ reports 1 ++ Drained 4 1 1 ∷ []) ≡ Both ∷ Both ∷ Both ∷ Both ∷ Both ∷ []
sixth_report_links = refl

pub sixth_report_rev : (state_after 5 (snapping ++ reports 1 ++ Drained 4 1 1 ∷ [])).rev ≡ 8
sixth_report_rev = refl

-- the same number again queues nothing
pub repeated : length (state_after 5 (snapping ++ Snap 0 2 (codes "vol") (codes "s2") ∷ [])).view.queue ≡ 1
repeated = refl

-- the client has gone on to a later number
pub gone_on : verdict_of (snapping ++ (MakeDisk 0 3 (codes "vol") (0 ∷ 1 ∷ []) ∷ []) ++ reports 1) ≡ Some (record { seq = 3; verdict = Verdict.Exists })
gone_on = refl

-- a leave between two reports: the first must come again
pub leave_between : epochs (snapping ++ Drained 0 1 1 ∷ Leave 4 1 ∷ Drained 1 1 1 ∷ Drained 2 1 1 ∷ Drained 3 1 1 ∷ []) ≡ 0 ∷ []
leave_between = refl

pub again_after_leave : epochs (snapping ++ Drained 0 1 1 ∷ Leave 4 1 ∷ Drained 1 1 1 ∷ Drained 2 1 1 ∷ Drained 3 1 1 ∷ Drained 0 1 1 ∷ []) ≡ 1 ∷ []
again_after_leave = refl

-- ### A move of a disk over two servers to the same two in the other order

abbrev moving : List Command
moving = MakeDisk 0 1 (codes "vol") (0 ∷ 1 ∷ []) ∷ StartMove 0 2 (codes "vol") (1 ∷ 0 ∷ []) ∷ []

abbrev region_of : List Command → ℕ → RegionState
region_of log region = region_at (slice_get (state_after 2 log).disks.rows 0) region

abbrev leads : List Command → (map block : ℕ) → Option ℕ
leads log of block = lead (state_after 2 log) (record { map = of; block = block })

abbrev lives : List Command → (map block : ℕ) → Bool
lives log of block = live (state_after 2 log) (record { map = of; block = block })

-- a region waits until both servers have reported, and is done once both old links are noted
abbrev fences : ℕ → List Command
fences region = Drained 0 1 (region + 1) ∷ Drained 1 1 (region + 1) ∷ []

abbrev passes : ℕ → List Command
passes region = fences region ++ Moved 0 region 0 ∷ Moved 0 region 1 ∷ []

pub second_move_refused : latest (state_after 2 (moving ++ StartMove 0 3 (codes "vol") (0 ∷ 1 ∷ []) ∷ [])) 0
    ≡ Some (record { seq = 3; verdict = Verdict.Moving })
second_move_refused = refl

pub refused_without_a_map : length (state_after 2 (moving ++ StartMove 0 3 (codes "vol") (0 ∷ 1 ∷ []) ∷ [])).maps ≡ 2
refused_without_a_map = refl

-- before a region's fence takes effect its blocks are under the old map alone
pub old_region : (region_of moving 0 ≡ Old) × (leads moving 0 0 ≡ Some 0) × (leads moving 1 0 ≡ None)
old_region = (refl, refl, refl)

-- then under both, and the new map's lead alone takes writes
pub fenced_region : (region_of (moving ++ fences 0) 0 ≡ Fenced) × (lives (moving ++ fences 0) 0 0 ≡ true) × (leads (moving ++ fences 0) 0 0 ≡ None)
    × (leads (moving ++ fences 0) 1 0 ≡ Some 1)
fenced_region = (refl, refl, refl, refl)

-- one old link is not enough
pub one_link_noted : region_of (moving ++ fences 0 ++ Moved 0 0 0 ∷ []) 0 ≡ Fenced
one_link_noted = refl

pub first_region_moved : (region_of (moving ++ passes 0) 0 ≡ New) × (lives (moving ++ passes 0) 0 0 ≡ false) × (region_of (moving ++ passes 0) 1 ≡ Old)
first_region_moved = (refl, refl, refl)

-- a note of a region that is not on its way changes nothing
pub early_note : region_of (moving ++ Moved 0 3 0 ∷ []) 3 ≡ Old
early_note = refl

-- ### A report while no fence waits

-- it changes the revision alone
pub idle_report : (s : State) (server inc fence : ℕ) → s.view.queue ≡ [] → after s (Drained server inc fence) ≡ record s { rev = s.rev + 1 }
idle_report s server inc fence none = rw none refl

pub no_fence_left : (state_after 5 (snapping ++ reports 1)).view.queue ≡ []
no_fence_left = refl

-- so does the sixth report
pub sixth_report_alone : after (state_after 5 (snapping ++ reports 1)) (Drained 4 1 1)
    ≡ record (state_after 5 (snapping ++ reports 1)) { rev = (state_after 5 (snapping ++ reports 1)).rev + 1 }
sixth_report_alone = idle_report (state_after 5 (snapping ++ reports 1)) 4 1 1 no_fence_left
