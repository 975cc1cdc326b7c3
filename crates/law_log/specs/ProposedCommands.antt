-- Which commands a run proposes: those of requests that clients have called, Leaves of incarnations that have stopped, Joins of
-- incarnations that have begun, and at its place each Caught, of the holder that found nothing left to copy, each report to the active
-- fence, of a server that had drained, and each Moved, of a lead that had nothing left to move.
use Rattle.std.specs.Prelude.{◌≡◌, ◌≢◌, ◌⊎◌, ◌+◌, ◌<◌, ◌≤◌, ◌++◌, ℕ, Bool, List, [], ◌∷◌, true, false, length, slice_get, Some, None}
use Rattle.global_tables.specs.Link.{link_at}
use Rattle.global_tables.specs.View.{head}
use Rattle.global_tables.specs.declared.fence.Fence.{Fence}
use Rattle.global_tables.specs.declared.link.LinkRow.{LinkRow}
use Rattle.petal_command.specs.declared.command.Command.{Command}
use Rattle.petal_command.specs.declared.command.Command.TheVariants.{Join, Leave, Caught, Drained, Moved, Witness}
use Rattle.script_lines.specs.declared.request.Line.{Line}
use Rattle.petal_msg.specs.declared.copying.LinkId.{LinkId}
pub use Rattle.spec_history.specs.Claims.{HasStopped}
use Rattle.spec_history.specs.Claims.{IsPrefix}
use Rattle.spec_history.specs.Steps.{world_after}
use Rattle.spec_history.specs.declared.record.Record.{Record}
use Rattle.law_state.specs.StartedBallots.{HasStarted, is_flagged}
use Rattle.spec_state.specs.Command.{may_catch, state_after}
use Rattle.spec_rules.specs.Lists.{In}
use Rattle.spec_rules.specs.declared.step.Step.TheVariants.{Boot}
use Rattle.spec_rules.specs.declared.step.WorkEnd.{WorkEnd}
use Rattle.spec_rules.specs.Clients.{command_of}
use Rattle.spec_rules.specs.Draining.{awaits, has_held_write}
use Rattle.spec_rules.specs.Fills.{fill_of, region_to_move}
use Rattle.spec_rules.specs.Server.{Server}
use Rattle.spec_rules.specs.State.{is_in}
use Rattle.spec_rules.specs.World.{Setting, World, chosen_log, lines_of, start}

-- of how many of its lines each client has called: the command is that of one of them, or a Witness of it. The lines of a
-- client are its requests, counted from 1
pub record IsRequested (lines : List Line) (called : ℕ → ℕ) (command : Command) : Type 0 where
  pub client : ℕ
  pub before : ℕ
  pub line : Line
  pub is : slice_get (lines_of lines client) before ≡ Some line
  pub past : before < called client
  pub so : (command_of client (before + 1) line.request ≡ Some command) ⊎ ((turn : ℕ) × (command ≡ Witness client (before + 1) turn))

-- how many lines each client has called
abbrev pub calls_in : World → ℕ → ℕ
calls_in w c = (w.clients c).seq

-- the command is that of a line that its client has called, or a Witness of it
abbrev pub IsScripted : Setting → World → Command → Type 0
IsScripted setting w command = IsRequested setting.lines (calls_in w) command

-- this incarnation of the server has begun: the server has it, or a later one
abbrev pub HasBegun : World → (server inc : ℕ) → Type 0
HasBegun w server inc = inc ≤ (w.servers server).life.inc

-- the command is the Leave of an incarnation that has stopped, or the Join of one that has begun after the first
abbrev pub IsOfLives : World → Command → Type 0
IsOfLives w (Leave server inc) = HasStopped w server inc
IsOfLives w (Join server inc blank) = (1 < inc) × HasBegun w server inc
IsOfLives w _ = ⊥

-- what may be proposed: what a script asks for, or such a Leave or Join
abbrev pub IsCalledFor : Setting → World → Command → Type 0
IsCalledFor setting w command = IsScripted setting w command ⊎ IsOfLives w command

-- ### Caughts

-- after these entries the Caught acts: the holder has the link alone, and both servers are In; and the holder started its ballot there
pub record IsCaughtAt (servers : ℕ) (actors : ℕ → Server) (prefix : List Command) (of link holder inc other other_inc : ℕ) : Type 0 where
  pub may : may_catch holder other (link_at (state_after servers prefix).links of link) ≡ true
  pub holds : is_in (state_after servers prefix) holder inc ≡ true
  pub joins : is_in (state_after servers prefix) other other_inc ≡ true
  pub started : HasStarted actors holder inc (length prefix) (record { map = of; link = link })

-- ### Reports to fences

-- after these entries the report counts: the server is In, and the active fence has this number and awaits it
pub record IsReportAt (servers : ℕ) (prefix : List Command) (server inc fence : ℕ) : Type 0 where
  pub seated : is_in (state_after servers prefix) server inc ≡ true
  pub active : Fence
  pub is : head (state_after servers prefix).view.queue ≡ Some active
  pub number : active.number ≡ fence
  pub awaited : awaits active server ≡ true

-- on the way the server ran as this incarnation; and then it took one step more
pub record WasRunning (setting : Setting) (records : List Record) (server inc : ℕ) : Type 0 where
  pub before : List Record
  pub own : Record
  pub later : List Record
  pub is : records ≡ before ++ own ∷ later
  pub lives : ((world_after setting (start setting) before).servers server).life.inc ≡ inc
  pub runs : ((world_after setting (start setting) before).servers server).life.running ≡ true

-- it did so with these entries applied, and none of its clients' writes was under way on a cell of which the active fence held the writes
pub record WasDraining (setting : Setting) (records : List Record) (server inc : ℕ) (prefix : List Command) : Type 0 where
  pub ran : WasRunning setting records server inc
  pub open ran use *
  pub at : ((world_after setting (start setting) before).servers server).log.applied ≡ prefix
  pub drained : has_held_write (state_after setting.servers prefix) ((world_after setting (start setting) before).servers server).own ≡ false

-- ### Moves

-- after these entries the Moved counts: a server that is In is to move the region of the link
pub record IsMovedAt (servers : ℕ) (prefix : List Command) (of region link : ℕ) : Type 0 where
  pub server : ℕ
  pub inc : ℕ
  pub seated : is_in (state_after servers prefix) server inc ≡ true
  pub row : LinkRow
  pub linked : link_at (state_after servers prefix).links of link ≡ Some row
  pub moves : region_to_move (state_after servers prefix) server row ≡ Some region

-- on the way such a server ran as the incarnation by which it was In, with these entries applied, and nothing was left of the link's blocks of
-- the region; and then it took one step more
pub record WasMoving (setting : Setting) (records : List Record) (prefix : List Command) (of region link : ℕ) : Type 0 where
  pub moving : IsMovedAt setting.servers prefix of region link
  pub open moving use *
  pub ran : WasRunning setting records server inc
  pub open ran use *
  pub at : ((world_after setting (start setting) before).servers server).log.applied ≡ prefix
  pub left : fill_of (state_after setting.servers prefix) server row ((world_after setting (start setting) before).servers server).own ≡ None

-- ### What servers want of themselves

-- the command is a Caught, a report to a fence, or a Moved, that counts after these entries
abbrev pub IsWantedAt : (servers : ℕ) → (actors : ℕ → Server) → (prefix : List Command) → Command → Type 0
IsWantedAt servers actors prefix (Caught of link holder inc other other_inc) = IsCaughtAt servers actors prefix of link holder inc other other_inc
IsWantedAt servers actors prefix (Drained server inc fence) = IsReportAt servers prefix server inc fence
IsWantedAt servers actors prefix (Moved of region link) = IsMovedAt servers prefix of region link
IsWantedAt servers actors prefix _ = ⊥

-- the command stands in the chosen log as such a one after the entries before it
pub record WasWanted (setting : Setting) (w : World) (command : Command) : Type 0 where
  pub prefix : List Command
  pub stands : IsPrefix (prefix ++ command ∷ []) (chosen_log setting w)
  pub is : IsWantedAt setting.servers w.servers prefix command

-- on the way the holder, as this incarnation and with these entries applied, had in mind that it had started a ballot for the link's
-- Caught
pub record WasStarted (setting : Setting) (records : List Record) (holder inc : ℕ) (prefix : List Command) (id : LinkId) : Type 0 where
  pub before : List Record
  pub later : List Record
  pub is : records ≡ before ++ later
  pub lives : ((world_after setting (start setting) before).servers holder).life.inc ≡ inc
  pub at : ((world_after setting (start setting) before).servers holder).log.applied ≡ prefix
  pub minded : is_flagged ((world_after setting (start setting) before).servers holder).own id ≡ true

-- on the way the server ran as this incarnation, and its store waited to be filled or not; and then it took one step more
pub record WasReturning (setting : Setting) (records : List Record) (server inc : ℕ) (blank : Bool) : Type 0 where
  pub ran : WasRunning setting records server inc
  pub open ran use *
  pub waits : ((world_after setting (start setting) before).servers server).own.store.fresh ≡ blank

-- no record tells of a boot
abbrev pub NoneBoots : List Record → Type 0
NoneBoots records = (own : Record) → In own records → (end : WorkEnd) → own.step ≢ Boot end
