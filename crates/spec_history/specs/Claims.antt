-- What every legal history keeps. These are statements; `law_run` shows them.
use Rattle.std.specs.Prelude.{◌≡◌, ◌≢◌, ◌⊎◌, ◌+◌, ◌&&◌, ◌++◌, [], ◌∷◌, ◌≤◌, ◌<◌, ℕ, Bool, List, slice_get, Option, Some, None, true, false, is_some}
use Rattle.std.specs.Ordering.{nat_cmp}
use Rattle.busy_marks.specs.declared.marks.MarkKind.TheVariants.{Busy, Stale}
use Rattle.petal_base.specs.Cells.{cell_of}
use Rattle.petal_base.specs.declared.cell.Cell.{Cell}
use Rattle.petal_base.specs.declared.cell.Key.{Key}
use Rattle.petal_command.specs.declared.command.Command.{Command}
use Rattle.petal_command.specs.declared.command.Command.TheVariants.{Drained}
use Rattle.spec_paxos.specs.Kept.{known_at}
use Rattle.petal_table.specs.Table.{at, put}
use Rattle.global_tables.specs.Disk.{named}
use Rattle.global_tables.specs.Region.{region_of}
use Rattle.global_tables.specs.Link.{other_of}
use Rattle.global_tables.specs.declared.link.LinkRow.{LinkRow}
use Rattle.global_tables.specs.declared.disk.DiskRow.{DiskRow}
use Rattle.global_tables.specs.declared.disk.Snapshot.{Snapshot}
use Rattle.spec_machine.specs.Machine.{Plain, blank, content, disk_of}
use Rattle.spec_machine.specs.Run.{replay}
use Rattle.spec_machine.specs.declared.event.Event.{Event}
use Rattle.spec_machine.specs.declared.state.PlainDisk.{PlainDisk}
use Rattle.spec_machine.specs.declared.state.PlainSnapshot.{PlainSnapshot}
use Rattle.petal_msg.specs.declared.body.Body.TheVariants as body
use Rattle.petal_msg.specs.declared.letter.Letter.{Letter}
use Rattle.petal_msg.specs.declared.operation.Finished.{Finished}
use Rattle.petal_msg.specs.declared.operation.Pending.{Pending}
use Rattle.script_lines.specs.declared.script.Script.{Script}
use Rattle.spec_rules.specs.Clients.{Asked}
use Rattle.spec_rules.specs.Lists.{In}
use Rattle.spec_rules.specs.Draining.{draining}
use Rattle.spec_rules.specs.Jobs.{here_of}
use Rattle.spec_rules.specs.Progress.{copying_on, has_proposed}
use Rattle.spec_state.specs.CellState.{cell_link, source}
use Rattle.spec_state.specs.CellState.{noted as is_noted}
use Rattle.spec_state.specs.Command.{is_alone, state_after}
use Rattle.spec_state.specs.Place.{places_from}
use Rattle.spec_state.specs.State.{start as first_state}
use Rattle.spec_state.specs.declared.answer.Hold.TheVariants.{No}
use Rattle.spec_rules.specs.State.{State, authority, coming, first, second, is_in, is_lead, needs_full_copy, lead, leads_link, leaving, live, held}
use Rattle.spec_rules.specs.Store.{Chain, Store, cell_cmp, chain_in, version_of, is_marked}
use Rattle.spec_rules.specs.Log.{rev_of}
use Rattle.spec_rules.specs.World.{Setting, World, start, setting_of, server_state, devices, chosen_log, chosen_state, counted, kept}
use Rattle.spec_rules.specs.Writes.{is_clients, is_writes_held}
use Rattle.spec_history.specs.Contents.{content_at, has_content_at}
use Rattle.spec_history.specs.Events.{IsRunOf, events_of}
use Rattle.spec_history.specs.Steps.{AreSteps, stepped, world_after}
use Rattle.spec_history.specs.Sound.{IsSound}
use Rattle.spec_history.specs.declared.record.Record.{Record}

-- a chain after one more put with the next version
abbrev pub one_put_ahead : Chain → Pending → Chain
one_put_ahead chain op = put nat_cmp chain op.key.epoch (record { version = version_of chain + 1; bytes = op.bytes })

-- two chains of a cell are equal, or the first is the second after one more put, the block is marked busy, and the operation
-- that put is pending, where its server is at work
abbrev pub Copies : Chain → Chain → (works : Bool) → Option Pending → (busy : Bool) → Type 0
Copies first second works pending busy =
    (first ≡ second) ⊎ ((op : Pending) × (first ≡ one_put_ahead second op) × (busy ≡ true) × (works ≡ true → pending ≡ Some op))

-- the server runs, as the incarnation that is In
abbrev pub is_at_work : State → World → ℕ → Bool
is_at_work state w n = (w.servers n).life.running && is_in state n (w.servers n).life.inc

-- the two-copy rule for a cell in Both
abbrev pub TwoCopies : State → World → Cell → Type 0
TwoCopies state w cell =
    (n m : ℕ) → first state cell ≡ Some n → second state cell ≡ Some m
    → Copies (chain_in (w.servers n).own.store.chains cell) (chain_in (w.servers m).own.store.chains cell) (is_at_work state w n)
    (at cell_cmp (w.servers n).own.pairs.pending cell) (is_marked (w.servers n).own.store Busy cell)

-- the block is marked on the device, as busy or as stale
abbrev pub IsMarked : Store → Cell → Type 0
IsMarked store cell = (is_marked store Busy cell ≡ true) ⊎ (is_marked store Stale cell ≡ true)

-- the other server came back with nothing, so that the holder is to copy each block that it has; it has this one
pub record IsToBeCopied (row : LinkRow) (holder : Store) (cell : Cell) : Type 0 where
  pub whole : needs_full_copy row.state ≡ true
  pub stored : chain_in holder.chains cell ≢ []

-- two copies of a cell are equal, or the block is marked at one of them, or the holder is to copy all that it has
abbrev pub AreCovered : LinkRow → (holder other : Store) → Cell → Type 0
AreCovered row holder other cell =
    (chain_in holder.chains cell ≡ chain_in other.chains cell) ⊎ IsMarked holder cell ⊎ IsMarked other cell ⊎ IsToBeCopied row holder cell

-- the rule for a cell that one server holds alone
abbrev pub Covered : State → World → Cell → Type 0
Covered state w cell =
    (row : LinkRow) (holder : ℕ) → live state cell ≡ true → cell_link state cell ≡ Some row → is_alone holder row.state ≡ true
    → AreCovered row (w.servers holder).own.store (w.servers (other_of holder row)).own.store cell

-- where a step changes a cell's chain at a running server that by its own state leads the cell's link, and by which the cell is live, the block
-- was marked there. What is not live is swept
pub record ChangesMarked (setting : Setting) (w v : World) (n : ℕ) (cell : Cell) : Type 0 where
  pub marked : (w.servers n).life.running ≡ true → live (server_state setting w n) cell ≡ true → leads_link (server_state setting w n) n cell ≡ true
      → chain_in (v.servers n).own.store.chains cell ≢ chain_in (w.servers n).own.store.chains cell
      → IsMarked (w.servers n).own.store cell

-- the client called a request under this number, and has answered it
pub record IsOver (w : World) (client seq : ℕ) : Type 0 where
  pub called : seq ≤ (w.clients client).seq
  pub answered : (asked : Asked) → (w.clients client).asked ≡ Some asked → asked.seq ≢ seq

-- the lead has finished this request or a later one of its client
pub record HasFinished (finished : Option Finished) (seq : ℕ) : Type 0 where
  pub last : Finished
  pub is : finished ≡ Some last
  pub past : seq ≤ last.seq

-- a server that is at work by its own state, at the revision of a Write letter, has its request as finished, or by its own state
-- is not the cell's lead, or would answer that it is held: a fence covers the cell, or the server has started a ballot for the Caught of
-- the cell's link
abbrev pub IsLateAt : Setting → World → Letter → (client seq : ℕ) → Cell → ℕ → Type 0
IsLateAt setting w letter client seq cell n =
    is_at_work (server_state setting w n) w n ≡ true → rev_of (w.servers n).log ≡ letter.rev
    → HasFinished (at nat_cmp (w.servers n).own.pairs.finished client) seq
    ⊎ (is_lead (server_state setting w n) n cell ≡ false) ⊎ (held (server_state setting w n) cell ≢ No)
    ⊎ (has_proposed (server_state setting w n) (w.servers n).own cell ≡ true)

-- a request that its client has answered is pending at no running server, and its Write letters come too late, or are held, everywhere
pub record Requests (setting : Setting) (w : World) : Type 0 where
  pub pending : (n : ℕ) (cell : Cell) (op : Pending) → (w.servers n).life.running ≡ true → at cell_cmp (w.servers n).own.pairs.pending cell ≡ Some op
      → is_clients op.kind ≡ true
      → IsOver w op.client op.seq → ⊥
  pub late : (letter : Letter) (client seq epoch : ℕ) (cell : Cell) (bytes : List ℕ) → In letter w.sent
      → letter.body ≡ body.Write client seq cell epoch bytes → IsOver w client seq
      → (n : ℕ) → IsLateAt setting w letter client seq cell n

-- these commands stand at the front of the log
pub record IsPrefix (prefix whole : List Command) : Type 0 where
  pub later : List Command
  pub is : whole ≡ prefix ++ later

-- what a state device knows to be chosen stands in the chosen log at its place, and what servers and clients have applied
-- stands at its front
pub record Agrees (setting : Setting) (w : World) : Type 0 where
  pub known : (n i : ℕ) (command : Command) → known_at (devices w n) (i + 1) ≡ Some command → slice_get (chosen_log setting w) i ≡ Some command
  pub servers : (n : ℕ) → IsPrefix (w.servers n).log.applied (chosen_log setting w)
  pub clients : (c : ℕ) → IsPrefix (w.clients c).applied (chosen_log setting w)

-- the machine after the events, where there are events
abbrev pub machine_after : Option (List Event) → Plain
machine_after None = blank
machine_after (Some events) = replay blank events

-- the machine's snapshots are these, in their order, each with the contents at its epoch, where a block has one
abbrev pub AreSnapshots : List PlainSnapshot → List Snapshot → (has : (epoch block : ℕ) → Bool) → (contents : (epoch block : ℕ) → List ℕ) → Type 0
AreSnapshots [] [] has contents = Unit {0}
AreSnapshots (taken ∷ later) (snap ∷ snaps) has contents =
    (taken.name ≡ snap.name) × ((block : ℕ) → has snap.epoch block ≡ true → content taken.blocks block ≡ contents snap.epoch block)
    × AreSnapshots later snaps has contents
AreSnapshots _ _ has contents = ⊥

-- the machine has the disk, with these contents at its epoch and at that of each of its snapshots, where a block has one
pub record Holds (disks : List PlainDisk) (row : DiskRow) (has : (epoch block : ℕ) → Bool) (contents : (epoch block : ℕ) → List ℕ) : Type 0 where
  pub disk : PlainDisk
  pub is : disk_of disks row.name ≡ Some disk
  pub same : (block : ℕ) → has row.epoch block ≡ true → content disk.now block ≡ contents row.epoch block
  pub snapshots : AreSnapshots disk.snaps row.snaps has contents

-- the machine has the disks of the chosen state, each with its contents but for links that are Lost, and no other
pub record AreHeld (setting : Setting) (w : World) (disks : List PlainDisk) : Type 0 where
  pub known : (row : DiskRow) → In row (chosen_state setting w).disks.rows
      → Holds disks row (has_content_at setting w row.id) (content_at setting w row.id)
  pub unknown : (name : List ℕ) → named (chosen_state setting w).disks.rows name ≡ None → disk_of disks name ≡ None

-- at each epoch below that of a disk its contents are the same in the later world, where a block has one in both
abbrev pub IsStill : Setting → (w later : World) → Type 0
IsStill setting w later =
    (row : DiskRow) (epoch block : ℕ) → In row (chosen_state setting w).disks.rows → epoch < row.epoch
    → has_content_at setting w row.id epoch block ≡ true → has_content_at setting later row.id epoch block ≡ true
    → content_at setting later row.id epoch block ≡ content_at setting w row.id epoch block

-- a store that waits to be filled is empty
abbrev pub AreEmpty : World → Type 0
AreEmpty w = (n : ℕ) → (w.servers n).own.store.fresh ≡ true → ((w.servers n).own.store.chains ≡ []) × ((w.servers n).own.store.marks ≡ [])

-- ### Moves

-- where a chain has an epoch, it has each greater one of the other chain
abbrev pub HasNewer : Chain → (epoch : ℕ) → Chain → Type 0
HasNewer before epoch chain =
    (later : ℕ) → epoch < later → is_some (at nat_cmp before later) ≡ true → is_some (at nat_cmp chain later) ≡ true

-- a server's copy of the cell counts, or it takes the cell's writes
abbrev pub Matters : State → Cell → ℕ → Type 0
Matters state cell n = (authority state cell ≡ Some n) ⊎ (lead state cell ≡ Some n)

-- the chain that a cell of a new map is filled from
pub record IsFilledFrom (setting : Setting) (w : World) (cell : Cell) (before : Chain) : Type 0 where
  pub old : Cell
  pub is : source (chosen_state setting w) cell ≡ Some old
  pub frozen : w.frozen old ≡ Some before

-- the two-copy rule in a region that is on its way: no client's write is pending under the old map, whose copies are still; what the new map
-- has of a block, or can still get, has all that is newer after it; and where a link is noted the new map has all of it
pub record Moves (setting : Setting) (w : World) : Type 0 where
  pub unwritten : (n : ℕ) (cell : Cell) (op : Pending) → (w.servers n).life.running ≡ true
      → at cell_cmp (w.servers n).own.pairs.pending cell ≡ Some op → is_clients op.kind ≡ true → leaving (chosen_state setting w) cell ≡ false
  pub still : (cell : Cell) (n : ℕ) → leaving (chosen_state setting w) cell ≡ true → authority (chosen_state setting w) cell ≡ Some n
      → w.frozen cell ≡ Some (chain_in (kept setting w n).chains cell)
  pub equal : (cell : Cell) (n m : ℕ) → leaving (chosen_state setting w) cell ≡ true → first (chosen_state setting w) cell ≡ Some n
      → second (chosen_state setting w) cell ≡ Some m → chain_in (kept setting w n).chains cell ≡ chain_in (kept setting w m).chains cell
  pub stored : (cell : Cell) (n epoch : ℕ) (before : Chain) → coming (chosen_state setting w) cell ≡ true → Matters (chosen_state setting w) cell n
      → IsFilledFrom setting w cell before → is_some (at nat_cmp (chain_in (kept setting w n).chains cell) epoch) ≡ true
      → HasNewer before epoch (chain_in (kept setting w n).chains cell)
  pub pending : (cell : Cell) (n m : ℕ) (before : Chain) (op : Pending) → coming (chosen_state setting w) cell ≡ true
      → Matters (chosen_state setting w) cell n → IsFilledFrom setting w cell before → (w.servers m).life.running ≡ true
      → at cell_cmp (w.servers m).own.pairs.pending cell ≡ Some op → is_clients op.kind ≡ false
      → HasNewer before op.key.epoch (chain_in (kept setting w n).chains cell)
  pub sent : (letter : Letter) (key : Key) (bytes : List ℕ) (n : ℕ) (before : Chain) → In letter w.sent → letter.body ≡ body.Fill key bytes
      → coming (chosen_state setting w) (cell_of key) ≡ true → Matters (chosen_state setting w) (cell_of key) n
      → IsFilledFrom setting w (cell_of key) before → HasNewer before key.epoch (chain_in (kept setting w n).chains (cell_of key))
  pub noted : (cell old : Cell) (row : LinkRow) (n epoch : ℕ) (before : Chain) → coming (chosen_state setting w) cell ≡ true
      → source (chosen_state setting w) cell ≡ Some old → w.frozen old ≡ Some before → cell_link (chosen_state setting w) old ≡ Some row
      → is_noted (chosen_state setting w) row.map (region_of cell.block) row.link ≡ true → authority (chosen_state setting w) cell ≡ Some n
      → is_some (at nat_cmp before epoch) ≡ true → is_some (at nat_cmp (chain_in (kept setting w n).chains cell) epoch) ≡ true

-- ### Who is Out, and what was proposed

-- this incarnation of the server has stopped: the server does not run, or runs as a later one
abbrev pub HasStopped : World → (server inc : ℕ) → Type 0
HasStopped w server inc = (((w.servers server).life.running ≡ false) × (inc ≤ (w.servers server).life.inc)) ⊎ (inc < (w.servers server).life.inc)

-- an incarnation that the chosen log has put Out has stopped
abbrev pub HaveStopped : Setting → World → Type 0
HaveStopped setting w =
    (n inc : ℕ) (prefix : List Command) → IsPrefix prefix (chosen_log setting w) → is_in (state_after setting.servers prefix) n inc ≡ true
    → is_in (chosen_state setting w) n inc ≡ false → HasStopped w n inc

-- a server that is at work by its own state, and has started a ballot for the Caught of a live cell's link, has nothing pending on the cell:
-- no operation, and no copy
abbrev pub AreCaughtUp : Setting → World → Type 0
AreCaughtUp setting w =
    (n : ℕ) (cell : Cell) → is_at_work (server_state setting w n) w n ≡ true → live (server_state setting w n) cell ≡ true
    → has_proposed (server_state setting w n) (w.servers n).own cell ≡ true
    → (at cell_cmp (w.servers n).own.pairs.pending cell ≡ None) × (copying_on (w.servers n).own cell ≡ None)

-- the server is at work by its own state, by which it holds the cell's link alone, and has started a ballot for the link's Caught
pub record IsCatching (setting : Setting) (w : World) (n : ℕ) (cell : Cell) (row : LinkRow) : Type 0 where
  pub works : is_at_work (server_state setting w n) w n ≡ true
  pub linked : cell_link (server_state setting w n) cell ≡ Some row
  pub alone : is_alone n row.state ≡ true
  pub started : has_proposed (server_state setting w n) (w.servers n).own cell ≡ true

-- the two copies of the cell at the link's servers are equal, by the stores that count
abbrev pub HasEqualCopies : Setting → World → (n : ℕ) → LinkRow → Cell → Type 0
HasEqualCopies setting w n row cell =
    chain_in ((counted setting w).servers n).own.store.chains cell ≡ chain_in ((counted setting w).servers (other_of n row)).own.store.chains cell

-- the place of a link by these entries: how many of them have touched it
abbrev pub place_in : (servers : ℕ) → List Command → LinkRow → ℕ
place_in servers log row = places_from (first_state servers) log row

-- by each state from these entries' to those', the writes of the cell are held
abbrev pub AreHeldAlong : (servers : ℕ) → (prefix whole : List Command) → Cell → Type 0
AreHeldAlong servers prefix whole cell =
    (log : List Command) → IsPrefix prefix log → IsPrefix log whole → is_writes_held (held (state_after servers log) cell) ≡ true

-- the server runs, and wants this report of its own to the active fence chosen: only then does it start a ballot for it
pub record WantsReport (setting : Setting) (w : World) (n fence : ℕ) : Type 0 where
  pub runs : (w.servers n).life.running ≡ true
  pub wants : In (Drained n (w.servers n).life.inc fence) (draining (here_of (server_state setting w n) n (w.servers n)) (w.servers n).own)

-- no client's write is pending at the server on a cell whose writes were held by each state from these entries' to the server's own
abbrev pub WritesNothingSince : Setting → World → (n : ℕ) → (since : List Command) → Type 0
WritesNothingSince setting w n since =
    (cell : Cell) (op : Pending) → AreHeldAlong setting.servers since (w.servers n).log.applied cell
    → at cell_cmp (w.servers n).own.pairs.pending cell ≡ Some op → is_clients op.kind ≡ true → ⊥

-- what a world keeps: agreement, the rules of two copies for each cell, by the stores that count, that of empty stores, the rule of requests,
-- and those of moves; who is Out has stopped, and who has started a ballot for a Caught has nothing under way
pub record Stands (setting : Setting) (w : World) : Type 0 where
  pub agrees : Agrees setting w
  pub copies : (cell : Cell) → TwoCopies (chosen_state setting w) (counted setting w) cell
  pub covered : (cell : Cell) → Covered (chosen_state setting w) (counted setting w) cell
  pub empty : AreEmpty w
  pub requests : Requests setting w
  pub moves : Moves setting w
  pub stopped : HaveStopped setting w
  pub caught : AreCaughtUp setting w

-- the chosen log after a list of records is at the front of that after more of them
abbrev pub Grows : Script → List Record → Type 0
Grows script records =
    (prefix suffix : List Record) → records ≡ prefix ++ suffix
    → IsPrefix (chosen_log (setting_of script) (world_after (setting_of script) (start (setting_of script)) prefix))
    (chosen_log (setting_of script) (world_after (setting_of script) (start (setting_of script)) records))

-- each put of a lead fell on a block that was marked on its device
abbrev pub MarksFirst : Script → List Record → Type 0
MarksFirst script records =
    (prefix suffix : List Record) (own : Record) → records ≡ prefix ++ own ∷ suffix → (n : ℕ) (cell : Cell)
    → ChangesMarked (setting_of script) (world_after (setting_of script) (start (setting_of script)) prefix)
    (stepped (setting_of script) (world_after (setting_of script) (start (setting_of script)) prefix) own).world n cell

-- a snapshot never changes: the content of a block at an epoch below the disk's own is the same after more records, but for links that are
-- Lost
abbrev pub SnapshotsStay : Script → List Record → Type 0
SnapshotsStay script records =
    (prefix suffix : List Record) → records ≡ prefix ++ suffix
    → IsStill (setting_of script) (world_after (setting_of script) (start (setting_of script)) prefix)
    (world_after (setting_of script) (start (setting_of script)) records)

-- from where a server had started a ballot for a link's Caught, the two copies of each live cell of the link are equal while no entry that is chosen
-- has touched the link since: also where the server has stopped
abbrev pub CopiesStayEqual : Script → List Record → Type 0
CopiesStayEqual script records =
    (prefix suffix : List Record) (n : ℕ) (cell : Cell) (row : LinkRow) → records ≡ prefix ++ suffix
    → IsCatching (setting_of script) (world_after (setting_of script) (start (setting_of script)) prefix) n cell row
    → live (chosen_state (setting_of script) (world_after (setting_of script) (start (setting_of script)) records)) cell ≡ true
    → place_in script.servers (chosen_log (setting_of script) (world_after (setting_of script) (start (setting_of script)) records)) row
    ≡ place_in script.servers ((world_after (setting_of script) (start (setting_of script)) prefix).servers n).log.applied row
    → HasEqualCopies (setting_of script) (world_after (setting_of script) (start (setting_of script)) records) n row cell

-- by what is chosen the two servers of the link are In as they were then by the server's own state
pub record AreInAsThen (setting : Setting) (then w : World) (n : ℕ) (row : LinkRow) : Type 0 where
  pub inc : is_in (chosen_state setting w) n (then.servers n).life.inc ≡ true
  pub other_inc : ℕ
  pub was : is_in (server_state setting then n) (other_of n row) other_inc ≡ true
  pub is : is_in (chosen_state setting w) (other_of n row) other_inc ≡ true

-- since these records the server, while it was this incarnation, has applied no entry that touches the link
abbrev pub HasAppliedNone : Script → (prefix suffix : List Record) → (n : ℕ) → LinkRow → Type 0
HasAppliedNone script prefix suffix n row =
    (until rest : List Record) → suffix ≡ until ++ rest
    → ((world_after (setting_of script) (start (setting_of script)) (prefix ++ until)).servers n).life.inc
    ≡ ((world_after (setting_of script) (start (setting_of script)) prefix).servers n).life.inc
    → place_in script.servers ((world_after (setting_of script) (start (setting_of script)) (prefix ++ until)).servers n).log.applied row
    ≡ place_in script.servers ((world_after (setting_of script) (start (setting_of script)) prefix).servers n).log.applied row

-- and while both servers are In as they were, they are equal until that incarnation has applied such an entry: also where the Caught is chosen
-- already, and the link in Both again
abbrev pub CopiesWaitEqual : Script → List Record → Type 0
CopiesWaitEqual script records =
    (prefix suffix : List Record) (n : ℕ) (cell : Cell) (row : LinkRow) → records ≡ prefix ++ suffix
    → IsCatching (setting_of script) (world_after (setting_of script) (start (setting_of script)) prefix) n cell row
    → live (chosen_state (setting_of script) (world_after (setting_of script) (start (setting_of script)) records)) cell ≡ true
    → AreInAsThen (setting_of script) (world_after (setting_of script) (start (setting_of script)) prefix)
    (world_after (setting_of script) (start (setting_of script)) records) n row
    → HasAppliedNone script prefix suffix n row
    → HasEqualCopies (setting_of script) (world_after (setting_of script) (start (setting_of script)) records) n row cell

-- from where a server wanted its report chosen it takes no client's write that the fence holds, until it has applied the entry at which the fence
-- takes effect
abbrev pub ReportsHold : Script → List Record → Type 0
ReportsHold script records =
    (prefix suffix : List Record) (n fence : ℕ) → records ≡ prefix ++ suffix
    → WantsReport (setting_of script) (world_after (setting_of script) (start (setting_of script)) prefix) n fence
    → WritesNothingSince (setting_of script) (world_after (setting_of script) (start (setting_of script)) records) n
    ((world_after (setting_of script) (start (setting_of script)) prefix).servers n).log.applied

-- what every legal history of a script keeps: the rules of its world at its end, that the chosen log has only grown, that
-- leads put only on marked blocks, that its events are a run of the plain machine, that the contents are the machine's, that snapshots
-- never change, that copies are equal once a ballot for their Caught was started, and wait so for its server to apply it, and that who wanted to
-- report writes nothing that is held
pub record Keeps (script : Script) (records : List Record) : Type 0 where
  pub world : Stands (setting_of script) (world_after (setting_of script) (start (setting_of script)) records)
  pub grows : Grows script records
  pub marks : MarksFirst script records
  pub run : IsRunOf (events_of script records)
  pub holds : AreHeld (setting_of script) (world_after (setting_of script) (start (setting_of script)) records) (machine_after (events_of script records)).disks
  pub snapshots : SnapshotsStay script records
  pub equal : CopiesStayEqual script records
  pub waiting : CopiesWaitEqual script records
  pub reports : ReportsHold script records

-- the whole law, of each sound script
abbrev pub Law : Type 0
Law = (script : Script) (records : List Record) → IsSound script → AreSteps script records → Keeps script records
