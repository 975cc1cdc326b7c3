-- What each command does: its condition, and its effect where that holds. An entry whose condition fails changes nothing but
-- the revision.
use Rattle.std.specs.Prelude.{ℕ, ◌+◌, Bool, true, false, not, ◌==◌, ◌&&◌, ◌||◌, nat_lt, if◌then◌else◌, List, ◌++◌, length, fold, slice_get}
use Rattle.std.specs.Prelude.{Option, Some, None, is_some, option_and_then, Result, Ok, Err}
use Rattle.std.specs.List.{list_any}
use Rattle.std.specs.Option.{option_map_or}
use Rattle.global_tables.specs.declared.link.LinkRow.{LinkRow}
use Rattle.global_tables.specs.declared.link.LinkState.{LinkState}
use Rattle.global_tables.specs.declared.link.LinkState.TheVariants.{Both, Only, Lost}
use Rattle.global_tables.specs.declared.disk.DiskRow.{DiskRow}
use Rattle.global_tables.specs.declared.disk.Move.{Move}
use Rattle.global_tables.specs.declared.disk.Latest.{Latest}
use Rattle.global_tables.specs.declared.disk.Verdict.{Verdict}
use Rattle.global_tables.specs.declared.disk.Verdict.TheVariants as Verdict
use Rattle.global_tables.specs.declared.fence.Member.{Member}
use Rattle.global_tables.specs.declared.fence.Member.TheVariants.{In, Out}
use Rattle.global_tables.specs.declared.fence.FenceKind.{FenceKind}
use Rattle.global_tables.specs.declared.fence.FenceKind.TheVariants.{Whole, Region}
use Rattle.global_tables.specs.Map as maps
use Rattle.global_tables.specs.Link as links
use Rattle.global_tables.specs.Disk as disks
use Rattle.global_tables.specs.View as view
use Rattle.petal_command.specs.declared.command.Command.{Command}
use Rattle.petal_command.specs.declared.command.Command.TheVariants.{Join, Leave, Caught, MakeDisk, Snap, StartMove, Drained, Moved, Witness}
use Rattle.spec_state.specs.State.{State, start, is_up_as, ups, latest, told, links_of, mover}
use Rattle.spec_state.specs.CellState.{move_region, is_fenced}
use Rattle.spec_state.specs.Fence.{settled}

-- a server may join that is Out and whose incarnation is greater than its last
abbrev pub may_join : Option Member → ℕ → Bool
may_join None inc = false
may_join (Some (In last)) inc = false
may_join (Some (Out last)) inc = nat_lt last inc

abbrev pub join : State → (server inc : ℕ) → Bool → State
join s server inc blank =
    if may_join (slice_get s.view.members server) inc
    then record s { view = view.joined s.view server inc; links = links.joined s.links server blank }
    else s

-- a server leaves that is In with this incarnation
abbrev pub leave : State → (server inc : ℕ) → State
leave s server inc =
    if is_up_as s server inc then record s { view = view.left s.view server; links = links.left s.links server } else s

abbrev pub is_alone : ℕ → LinkState → Bool
is_alone holder Both = false
is_alone holder (Only alone whole) = alone == holder
is_alone holder Lost = false

-- the holder has the link alone, and this is its other server
abbrev pub may_catch : (holder other : ℕ) → Option LinkRow → Bool
may_catch holder other None = false
may_catch holder other (Some row) = is_alone holder row.state && links.other_of holder row == other

-- a link is `Both` again where its two servers are In with these incarnations
abbrev pub caught : State → (map link holder holder_inc other other_inc : ℕ) → State
caught s of link holder holder_inc other other_inc =
    if may_catch holder other (links.link_at s.links of link) && is_up_as s holder holder_inc && is_up_as s other other_inc
    then record s { links = links.caught s.links of link }
    else s

-- a client's command counts where its number is above that of the client's last one
abbrev pub is_new : ℕ → Option Latest → Bool
is_new seq None = true
is_new seq (Some last) = nat_lt last.seq seq

-- one map more, with its links
abbrev pub with_map : State → List ℕ → ℕ → State
with_map s tuple disk = record s { maps = maps.added s.maps tuple disk; links = s.links ++ links.new_rows (length s.maps) tuple (ups s) }

-- one disk more, over a new map
abbrev pub with_disk : State → (name tuple : List ℕ) → State
with_disk s name tuple = record (with_map s tuple s.disks.made) { disks = disks.made s.disks name (length s.maps) }

-- a disk is made where its name is unknown
abbrev pub make_disk : State → (client seq : ℕ) → (name tuple : List ℕ) → State
make_disk s client seq name tuple =
    if not (is_new seq (latest s client)) then s
    else if is_some (disks.named s.disks.rows name) then told s client seq Verdict.Exists
    else told (with_disk s name tuple) client seq Verdict.Ok

-- one fence more
abbrev pub with_fence : State → FenceKind → State
with_fence s kind = record s { view = view.queued s.view kind }

-- the fence takes a snapshot of this name of the disk
abbrev pub takes : ℕ → List ℕ → FenceKind → Bool
takes disk name (Whole other taken client seq) = other == disk && disks.same_name taken name
takes disk name (Region other region) = false

-- the name is a snapshot of the disk, or one is queued
abbrev pub is_taken : State → List ℕ → DiskRow → Bool
is_taken s name row = is_some (disks.snapshot_named row.snaps name) || list_any (λ fence. takes row.id name fence.kind) s.view.queue

-- the disk of which a snapshot of this name can be queued, or the verdict where there is none
abbrev pub snap_target : State → List ℕ → Option DiskRow → Result ℕ Verdict
snap_target s name None = Err Verdict.NoDisk
snap_target s name (Some row) = if is_taken s name row then Err Verdict.Exists else Ok row.id

abbrev pub snapped : State → (client seq : ℕ) → List ℕ → Result ℕ Verdict → State
snapped s client seq name (Err verdict) = told s client seq verdict
snapped s client seq name (Ok disk) = told (with_fence s (Whole disk name client seq)) client seq Verdict.Waiting

-- a snapshot of a known disk is queued where its name is new
abbrev pub snap : State → (client seq : ℕ) → (disk name : List ℕ) → State
snap s client seq disk name =
    if is_new seq (latest s client) then snapped s client seq name (snap_target s name (disks.named s.disks.rows disk)) else s

-- the disk is under a new map, on its way from the one that it had, and its first region waits
abbrev pub with_move : State → List ℕ → ℕ → State
with_move s tuple disk =
    with_fence (record (with_map s tuple disk) { disks = disks.moving s.disks disk (length s.maps) }) (Region disk 0)

-- the disk that can begin a move, or the verdict where there is none
abbrev pub move_target : Option DiskRow → Result ℕ Verdict
move_target None = Err Verdict.NoDisk
move_target (Some row) = if is_some row.moving then Err Verdict.Moving else Ok row.id

abbrev pub move_begun : State → (client seq : ℕ) → List ℕ → Result ℕ Verdict → State
move_begun s client seq tuple (Err verdict) = told s client seq verdict
move_begun s client seq tuple (Ok disk) = told (with_move s tuple disk) client seq Verdict.Ok

-- a known disk moves that is not on the move
abbrev pub start_move : State → (client seq : ℕ) → (disk tuple : List ℕ) → State
start_move s client seq disk tuple =
    if is_new seq (latest s client) then move_begun s client seq tuple (move_target (disks.named s.disks.rows disk)) else s

-- the head of the queue has this number
abbrev pub is_head : State → ℕ → Bool
is_head s number = option_map_or (λ fence. fence.number == number) (view.head s.view.queue) false

-- a server that is In with this incarnation leaves the waiting set of the head, if that is the fence named
abbrev pub drained : State → (server inc fence : ℕ) → State
drained s server inc fence =
    if is_head s fence && is_up_as s server inc then record s { view = view.drained s.view server } else s

-- a region is `New`: the next one waits, or after the last the old map is retired
abbrev pub after_region : State → (map disk region : ℕ) → State
after_region s of disk region =
    if region == 15 then record s { links = links.dropped s.links of } else with_fence s (Region disk (region + 1))

-- the move of a disk
abbrev pub move_of : State → ℕ → Option Move
move_of s disk = option_and_then (λ row. row.moving) (disks.disk_at s.disks.rows disk)

-- the link is noted; once all links of the old map are, the region is `New`
abbrev pub note : State → (map disk region link : ℕ) → State
note s of disk region link =
    if disks.completes link (links_of s of) (move_of s disk)
    then after_region (record s { disks = disks.noted s.disks disk region link (links_of s of) }) of disk region
    else record s { disks = disks.noted s.disks disk region link (links_of s of) }

-- the disk whose region is on its way from this map
abbrev pub mover_in : State → (map region : ℕ) → Option ℕ
mover_in s of region = option_and_then (λ row. if is_fenced (move_region region row.moving) then Some row.id else None) (mover s of)

abbrev pub moved_by : State → (map region link : ℕ) → Option ℕ → State
moved_by s of region link None = s
moved_by s of region link (Some disk) = if nat_lt link (links_of s of) then note s of disk region link else s

-- a link of an old map has moved all that it has of the region that is on its way
abbrev pub moved : State → (map region link : ℕ) → State
moved s of region link = moved_by s of region link (mover_in s of region)

-- what a command does to the tables
abbrev pub act : Command → State → State
act (Join server inc blank) s = join s server inc blank
act (Leave server inc) s = leave s server inc
act (Caught of link holder holder_inc other other_inc) s = caught s of link holder holder_inc other other_inc
act (MakeDisk client seq name tuple) s = make_disk s client seq name tuple
act (Snap client seq disk name) s = snap s client seq disk name
act (StartMove client seq disk tuple) s = start_move s client seq disk tuple
act (Drained server inc fence) s = drained s server inc fence
act (Moved of region link) s = moved s of region link
act (Witness client seq turn) s = s

-- one entry more: its command acts, fences that wait for nobody take effect, and the revision rises
abbrev pub after : State → Command → State
after s command = record (settled (act command s)) { rev = s.rev + 1 }

-- the fold: what a log makes of the state at the start
abbrev pub state_after : ℕ → List Command → State
state_after servers log = fold after (start servers) log
