-- What ties servers and clients to the plain machine.
use Rattle.std.specs.Prelude.{◌≡◌, ◌≤◌, ◌<◌, ◌+◌, ℕ, true, false, List, [], ◌∷◌, Some, None, ◌++◌, length}
use Rattle.std.specs.Ordering.{nat_cmp}
use Rattle.petal_base.specs.Cells.{cell_of}
use Rattle.petal_base.specs.declared.cell.Cell.{Cell}
use Rattle.petal_command.specs.declared.command.Command.{Command}
use Rattle.petal_command.specs.declared.command.Command.TheVariants.{Caught}
use Rattle.petal_table.specs.Table.{at}
use Rattle.global_tables.specs.Disk.{named}
use Rattle.global_tables.specs.declared.disk.DiskRow.{DiskRow}
use Rattle.global_tables.specs.declared.link.LinkRow.{LinkRow}
use Rattle.global_tables.specs.declared.link.LinkState.TheVariants.{Both}
use Rattle.spec_machine.specs.Machine.{Plain, disk_of, open_of}
use Rattle.petal_msg.specs.declared.body.Body.TheVariants as body
use Rattle.petal_msg.specs.declared.letter.Actor.TheVariants as actor
use Rattle.petal_msg.specs.declared.letter.Letter.{Letter}
use Rattle.petal_msg.specs.declared.operation.Ending.TheVariants as ending
use Rattle.petal_msg.specs.declared.operation.Finished.{Finished}
use Rattle.petal_msg.specs.declared.operation.Pending.{Pending}
use Rattle.spec_state.specs.Command.{state_after}
use Rattle.spec_rules.specs.Lists.{In}
use Rattle.spec_rules.specs.Reads.{is_all_held}
use Rattle.spec_rules.specs.State.{State, authority, held, in_both, is_in}
use Rattle.spec_rules.specs.Server.{PairState, Pairs}
use Rattle.spec_rules.specs.Store.{Chain, Stored, cell_cmp, chain_in}
use Rattle.spec_rules.specs.World.{Setting, World, blank_joins_in, clock_of, server_state, start, chosen_log, chosen_state, counted, kept}
use Rattle.spec_rules.specs.Writes.{is_clients}
use Rattle.spec_history.specs.Claims.{Holds, IsPrefix}
use Rattle.spec_history.specs.Contents.{content_at, has_content_at}
use Rattle.spec_history.specs.Events.{open_write, same_name}
use Rattle.spec_history.specs.Steps.{world_after}
use Rattle.spec_history.specs.declared.record.Record.{Record}
use Rattle.law_state.specs.Homes.{epoch_at, stage_at}
use Rattle.law_log.specs.ProposedCommands.{WasStarted}
use Rattle.law_steps.specs.Operations.{progress}
use Rattle.law_steps.specs.Ready.{IsRising, Ready}
use Rattle.law_steps.specs.WakingServers.{AllMayWake}
use Rattle.law_copies.specs.WaitingStores.{IsOwn}
use Rattle.law_copies.specs.GoodCopies.{Good}
use Rattle.law_copies.specs.Pair.{owns_of}
use Rattle.law_copies.specs.Visits.{IsLast, IsLinked, Visits, WasThere, place_by}
use Rattle.law_requests.specs.AskedRequests.{IsOpen}
use Rattle.law_requests.specs.KnownRequests.{Lives, PendingFor, seen, asked_for, AskingBy, KnowsReports}
use Rattle.law_moves.specs.EntryEpochs.{HaveEarlyEntries}
use Rattle.law_moves.specs.InTime.{IsTimely}
use Rattle.law_moves.specs.Fills.{AreFilled, HaveComeOver, IsFrozen}
use Rattle.law_moves.specs.FrozenCopies.{AreStill}
use Rattle.law_run.specs.WritesGoOn.{IsMindful, is_held, Seat}

-- ### The ground

-- two letters of one name are one, and none has a later stamp than its sender
pub record Named (w : World) : Type 0 where
  pub unique : (one other : Letter) → In one w.sent → In other w.sent → same_name one other ≡ true → one ≡ other
  pub early : (letter : Letter) → In letter w.sent → letter.stamp ≤ clock_of w letter.from

-- a client's write that a server had pending when it last was at this place of the cell's link: it is pending there still, at this place, or
-- it was known of, up to this place, at an incarnation that has ended
pub data IsRemembered (setting : Setting) (w : World) (lives : Lives) (n place : ℕ) (cell : Cell) (op : Pending) : Type 0 where
  Is_pending : at cell_cmp (owns_of w n).pairs.pending cell ≡ Some op → (row : LinkRow)
      → IsLinked setting (w.servers n).log.applied cell row
      → place_by setting (w.servers n).log.applied row ≡ place → IsRemembered setting w lives n place cell op
  Was_pending : (inc : ℕ) → inc < lives.ran n → (known : PendingFor setting (seen lives w) n inc (asked_for cell op) op.rev)
      → (row : LinkRow)
      → IsLinked setting known.upto cell row → place_by setting known.upto row ≡ place → IsRemembered setting w lives n place cell op

-- so are the writes of all visits of a place at which the cell's link is in Both, and after which no server that serves the link has been
abbrev pub AreRemembered : (setting : Setting) (w : World) (lives : Lives) (visits : Visits) (reached : Cell → ℕ) → Type 0
AreRemembered setting w lives visits reached = (prefix : List Command) (cell : Cell) (row : LinkRow) (n : ℕ) (own : PairState) (op : Pending)
    → IsPrefix prefix (chosen_log setting w) → IsLinked setting prefix cell row → row.state ≡ Both → IsLast reached setting prefix cell row
    → visits n (place_by setting prefix row) cell ≡ Some own → at cell_cmp own.pairs.pending cell ≡ Some op → is_clients op.kind ≡ true
    → IsRemembered setting w lives n (place_by setting prefix row) cell op

-- what is known of epochs, after these records: a client's write that is pending is in time by each prefix from the one on at which it was
-- opened, by which its server is In as itself; so is one of a place, by each prefix at that place; and one that a second server can put, by what
-- is chosen; and no server has an entry of an epoch that it doesn't know of, or of a cell that it doesn't know to have been live
pub record KnowEpochs (setting : Setting) (records : List Record) (w : World) : Type 0 where
  pub pending : (n inc : ℕ) (cell : Cell) (op : Pending) (opened prefix : List Command)
      → at cell_cmp (owns_of w n).pairs.pending cell ≡ Some op → is_clients op.kind ≡ true → IsPrefix opened prefix
      → IsPrefix prefix (chosen_log setting w)
      → length opened ≡ op.rev → is_in (state_after setting.servers opened) n inc ≡ true
      → is_in (state_after setting.servers prefix) n inc ≡ true → IsTimely setting.servers prefix cell op
  pub place : (n place : ℕ) (cell : Cell) (pairs : Pairs) (op : Pending) (prefix : List Command) (row : LinkRow)
      → WasThere setting records n place cell pairs → at cell_cmp pairs.pending cell ≡ Some op → is_clients op.kind ≡ true
      → IsPrefix prefix (chosen_log setting w)
      → IsLinked setting prefix cell row → place_by setting prefix row ≡ place → op.rev ≤ length prefix
      → IsTimely setting.servers prefix cell op
  pub second : (n m : ℕ) (cell : Cell) (pairs : Pairs) (op : Pending) (row : LinkRow) → (w.servers m).life.running ≡ true
      → is_in (server_state setting w m) m (w.servers m).life.inc ≡ true → IsLinked setting (w.servers m).log.applied cell row
      → row.state ≡ Both → row.primary ≡ n → row.secondary ≡ m
      → WasThere setting records n (place_by setting (w.servers m).log.applied row) cell pairs → at cell_cmp pairs.pending cell ≡ Some op
      → is_clients op.kind ≡ true → (prefix : List Command) (now : LinkRow) → IsPrefix prefix (chosen_log setting w) → IsLinked setting prefix cell now
      → place_by setting prefix now ≡ place_by setting (w.servers m).log.applied row → op.rev ≤ length prefix
      → IsTimely setting.servers (chosen_log setting w) cell op
  pub early : HaveEarlyEntries setting.servers w

-- ### Moves

-- what is frozen is of a cell that is leaving, or has left, and of no epoch above the one that its disk has
pub record IsFrozenSo (setting : Setting) (w : World) (cell : Cell) (before : Chain) : Type 0 where
  pub rising : IsRising nat_cmp before
  pub left : 3 ≤ stage_at (chosen_state setting w) cell
  pub early : (row : ℕ × Stored) → In row before → row.0 ≤ epoch_at (chosen_state setting w) cell

-- what is known of moves, after these records: what has left was frozen; while a server that is In as itself knows of no fence that holds reads
-- of a cell, that is not leaving; what law_moves says of copies, of fills and of regions that have moved; and of the fills of places
pub record KnowMoves (setting : Setting) (records : List Record) (w : World) : Type 0 where
  pub frozen : (cell : Cell) (before : Chain) → w.frozen cell ≡ Some before → IsFrozenSo setting w cell before
  pub died : (cell : Cell) → stage_at (chosen_state setting w) cell ≡ 4 → (before : Chain) × (w.frozen cell ≡ Some before)
  pub unread : (n : ℕ) (cell : Cell) → (w.servers n).life.running ≡ true → is_in (server_state setting w n) n (w.servers n).life.inc ≡ true
      → is_all_held (held (server_state setting w n) cell) ≡ false → 1 ≤ stage_at (server_state setting w n) cell
      → stage_at (server_state setting w n) cell ≤ 2 → stage_at (chosen_state setting w) cell ≤ 2
  pub still : AreStill setting w
  pub fills : AreFilled setting w
  pub over : HaveComeOver setting w
  pub coming : (n place : ℕ) (cell : Cell) (pairs : Pairs) (op : Pending) (row : LinkRow) → WasThere setting records n place cell pairs
      → at cell_cmp pairs.pending cell ≡ Some op → is_clients op.kind ≡ false → IsLinked setting (chosen_log setting w) cell row
      → place_by setting (chosen_log setting w) row ≡ place → op.rev ≤ length (chosen_log setting w)
      → stage_at (chosen_state setting w) cell ≤ 3 → stage_at (chosen_state setting w) cell ≡ 1
  pub keyed : (n place : ℕ) (cell : Cell) (pairs : Pairs) (op : Pending) → WasThere setting records n place cell pairs
      → at cell_cmp pairs.pending cell ≡ Some op → cell_of op.key ≡ cell
  pub filling : (n place : ℕ) (cell : Cell) (pairs : Pairs) (op : Pending) → WasThere setting records n place cell pairs
      → at cell_cmp pairs.pending cell ≡ Some op → is_clients op.kind ≡ false → IsFrozen setting w op.rev op.key op.bytes
  pub second : (n m : ℕ) (cell : Cell) (pairs : Pairs) (op : Pending) (row : LinkRow) → (w.servers m).life.running ≡ true
      → is_in (server_state setting w m) m (w.servers m).life.inc ≡ true → IsLinked setting (w.servers m).log.applied cell row
      → row.state ≡ Both → row.primary ≡ n → row.secondary ≡ m
      → WasThere setting records n (place_by setting (w.servers m).log.applied row) cell pairs → at cell_cmp pairs.pending cell ≡ Some op
      → is_clients op.kind ≡ false → progress (at cell_cmp (w.servers m).own.pairs.last cell) ≤ op.op + op.op
      → stage_at (chosen_state setting w) cell ≤ 3 → stage_at (chosen_state setting w) cell ≡ 1

-- the ground on which the run stands, at a state from what is chosen on: the laws below it, after these records, of two copies by the
-- stores that count, which of a server that runs and is In as itself is its own, and no Join of it with an empty store stands after the
-- prefix by which it is so; the writes that servers had at places that count are known of; and what is known of epochs and of moves
pub record Ground (setting : Setting) (state : State) (w : World) : Type 0 where
  pub ready : Ready setting state w
  pub wake : AllMayWake setting w
  pub records : List Record
  pub come : world_after setting (start setting) records ≡ w
  pub good : Good setting records (chosen_log setting w) (counted setting w)
  pub started : (prefix : List Command) (of link holder inc other other_inc : ℕ)
      → IsPrefix (prefix ++ Caught of link holder inc other other_inc ∷ []) (chosen_log setting w)
      → WasStarted setting records holder inc prefix (record { map = of; link = link })
  pub own : (n : ℕ) → (w.servers n).life.running ≡ true → is_in (server_state setting w n) n (w.servers n).life.inc ≡ true → IsOwn setting w n
  pub joined : (n : ℕ) (prefix : List Command) → IsPrefix prefix (chosen_log setting w)
      → is_in (state_after setting.servers prefix) n (w.servers n).life.inc ≡ true
      → blank_joins_in setting prefix n ≡ blank_joins_in setting (chosen_log setting w) n
  pub lives : Lives
  pub asking : AskingBy setting w lives
  pub reports : KnowsReports setting w lives
  pub recalled : AreRemembered setting w lives good.visits good.reached
  pub named : Named w
  pub epochs : KnowEpochs setting records w
  pub moves : KnowMoves setting records w

-- ### The machine

-- the machine has these disks, each with the contents of the world, at its epoch and at those of its snapshots, where a block has one, and
-- no other
pub record Stores (setting : Setting) (rows : List DiskRow) (w : World) (m : Plain) : Type 0 where
  pub known : (row : DiskRow) → In row rows → Holds m.disks row (has_content_at setting w row.id) (content_at setting w row.id)
  pub unknown : (name : List ℕ) → named rows name ≡ None → disk_of m.disks name ≡ None
  pub mindful : IsMindful m

-- why the write of an operation that is pending at this server, which has this chain, has had its bytes: while the server has the cell's
-- link in Both by its own state, the second one has put, and the link is in Both by what is chosen; or the server has put itself, and its copy
-- counts by what is chosen
pub data HasCounted (setting : Setting) (w : World) (n : ℕ) (cell : Cell) (op : Pending) (chain : Chain) : Type 0 where
  Is_followed : (row : LinkRow) → IsLinked setting (w.servers n).log.applied cell row → row.state ≡ Both → in_both (chosen_state setting w) cell ≡ true
      → op.stage.put ≡ true → chain ≡ chain_in (kept setting w row.secondary).chains cell → HasCounted setting w n cell op chain
  Is_counted : op.stage.put ≡ true → authority (chosen_state setting w) cell ≡ Some n → HasCounted setting w n cell op chain

-- its disks are these; the writes under way are those that clients have open; and one whose operation was put where it counts, at
-- a server that runs, or that ended as written, has had its bytes
pub record Follow (setting : Setting) (rows : List DiskRow) (w : World) (m : Plain) : Type 0 where
  pub stores : Stores setting rows w m
  pub seats : (c : ℕ) → Seat (open_write w c) (open_of m.opened c)
  pub letters : (letter : Letter) (c seq : ℕ) → In letter w.sent → letter.to ≡ actor.Client c → letter.body ≡ body.Written seq
      → IsOpen (w.clients c) seq → is_held m c ≡ true
  pub pending : (n : ℕ) (cell : Cell) (op : Pending) → (w.servers n).life.running ≡ true → at cell_cmp (owns_of w n).pairs.pending cell ≡ Some op
      → is_clients op.kind ≡ true → HasCounted setting w n cell op (chain_in (kept setting w n).chains cell) → IsOpen (w.clients op.client) op.seq
      → is_held m op.client ≡ true
  pub finished : (n c : ℕ) (last : Finished) → (w.servers n).life.running ≡ true → at nat_cmp (owns_of w n).pairs.finished c ≡ Some last
      → last.ending ≡ ending.Written → IsOpen (w.clients c) last.seq → is_held m c ≡ true
