-- What is kept of the agreed log from step to step: a schedule of agreement that the world is seen as, and what goes with it.
use Rattle.std.specs.Prelude.{ℕ, ◌+◌, ◌≡◌, ◌↔◌, ◌⊎◌, ◌<◌, ◌≤◌, ⊤, Bool, true, false, List, length, slice_get, Some}
use Rattle.petal_command.specs.declared.ballot.Ballot.{Ballot}
use Rattle.petal_command.specs.declared.command.Command.{Command}
use Rattle.petal_command.specs.declared.command.Command.TheVariants.{Caught, Drained, Join, Leave, Moved}
use Rattle.petal_command.specs.declared.pax.Pax.{Pax}
use Rattle.petal_command.specs.declared.pax.Pax.TheVariants.{Prepare, Accept}
use Rattle.petal_msg.specs.declared.body.Body.{Body}
use Rattle.petal_msg.specs.declared.body.Body.TheVariants as body
use Rattle.petal_msg.specs.declared.copying.LinkId.{LinkId}
use Rattle.petal_msg.specs.declared.letter.Actor.{Actor}
use Rattle.petal_msg.specs.declared.letter.Actor.TheVariants as actor
use Rattle.petal_msg.specs.declared.letter.Letter.{Letter}
use Rattle.script_lines.specs.declared.request.Line.{Line}
use Rattle.spec_paxos.specs.Kept.{acceptor_of, known_at, inc_of}
use Rattle.spec_paxos.specs.Member.{In}
use Rattle.spec_paxos.specs.Schedule as schedule
use Rattle.spec_paxos.specs.declared.phase.Phase.{Phase}
use Rattle.spec_paxos.specs.declared.record.StateRecord.{StateRecord}
use Rattle.spec_paxos.specs.declared.record.StateRecord.TheVariants.{Accepted}
use Rattle.spec_rules.specs.Agreement.{IsAnnounced, IsProposer, IsAskedFor}
use Rattle.spec_rules.specs.Clients.{Asked}
use Rattle.spec_rules.specs.Lists.{In as Among}
use Rattle.spec_rules.specs.Server.{Server}
use Rattle.spec_rules.specs.World.{Setting, World, lines_of}
use Rattle.spec_rules.specs.declared.job.Job.TheVariants as job
use Rattle.spec_state.specs.Command.{may_join, state_after}
use Rattle.law_log.specs.ProposedCommands.{IsCaughtAt, IsCalledFor, IsMovedAt, IsReportAt}

-- ### A schedule

-- for each place from 1 up to before this one, some server told which command is chosen
pub record IsReached (p : schedule.World) (place : ℕ) : Type 0 where
  pub starts : 0 < place
  pub told : (i : ℕ) → i + 1 < place → (command : Command) × IsAnnounced p (i + 1) command

-- these commands were told for the places before this one
pub record IsToldBefore (p : schedule.World) (place : ℕ) (prefix : List Command) : Type 0 where
  pub many : length prefix + 1 ≡ place
  pub told : (i : ℕ) (command : Command) → slice_get prefix i ≡ Some command → IsAnnounced p (i + 1) command

-- what is remembered of a server that started a ballot: that it had the Caught of this link in mind then, whether its store waited to be
-- filled before, that before it had no client's write under way on a cell of which the active fence held the writes, or that it was to move
-- the region of a link and had nothing left of it
pub data Mind : Type 0 where
  Catches : LinkId → Mind
  Waits : Bool → Mind
  Drains : Mind
  Moves : (of region link : ℕ) → Mind

-- it was so of the server as this incarnation and with these entries applied
abbrev pub Minded : Type 1
Minded = (server inc : ℕ) (prefix : List Command) → Mind → Type 0

-- it was so after these entries of the Caught's holder, of the Join's or the report's server, or of one that moved
abbrev pub WasMinded : Minded → (prefix : List Command) → Command → Type 0
WasMinded Was prefix (Caught of link holder inc other other_inc) = Was holder inc prefix (Catches (record { map = of; link = link }))
WasMinded Was prefix (Join server inc blank) = Was server inc prefix (Waits blank)
WasMinded Was prefix (Drained server inc fence) = Was server inc prefix Drains
WasMinded Was prefix (Moved of region link) = (server : ℕ) × (inc : ℕ) × Was server inc prefix (Moves of region link)
WasMinded Was prefix _ = ⊤

-- after these entries the Join acts, of an incarnation after the first that has begun
pub record IsJoinAt (servers : ℕ) (actors : ℕ → Server) (prefix : List Command) (server inc : ℕ) : Type 0 where
  pub may : may_join (slice_get (state_after servers prefix).view.members server) inc ≡ true
  pub later : 1 < inc
  pub begun : inc ≤ (actors server).life.inc

-- the command acts after these entries, as a Caught, a Join, a report to the active fence or a Moved
abbrev pub Returns : (servers : ℕ) → (actors : ℕ → Server) → (prefix : List Command) → Command → Type 0
Returns servers actors prefix (Caught of link holder inc other other_inc) = IsCaughtAt servers actors prefix of link holder inc other other_inc
Returns servers actors prefix (Join server inc blank) = IsJoinAt servers actors prefix server inc
Returns servers actors prefix (Drained server inc fence) = IsReportAt servers prefix server inc fence
Returns servers actors prefix (Moved of region link) = IsMovedAt servers prefix of region link
Returns servers actors prefix _ = ⊥

-- it does so after what was told for the places before this one
pub record IsReturnFor (Was : Minded) (servers : ℕ) (actors : ℕ → Server) (p : schedule.World) (place : ℕ) (command : Command) : Type 0 where
  pub prefix : List Command
  pub told : IsToldBefore p place prefix
  pub is : Returns servers actors prefix command
  pub was : WasMinded Was prefix command

abbrev pub is_join : Command → Bool
is_join (Join server inc blank) = true
is_join _ = false

-- what may be proposed for any place: what is called for, but no Join
abbrev pub IsCalledAnywhere : Setting → World → Command → Type 0
IsCalledAnywhere setting w command = IsCalledFor setting w command × (is_join command ≡ false)

-- what may be wanted for a place: what is called for anywhere, or what acts there as a Caught, a Join, a report or a Moved
abbrev pub MayWant : Minded → Setting → World → (actors : ℕ → Server) → schedule.World → ℕ → Command → Type 0
MayWant Was setting w actors p place command =
    (IsCalledAnywhere setting w command ⊎ IsReturnFor Was setting.servers actors p place command) × IsReached p place

-- a ballot that is asked for is of a server whose number is a byte
abbrev pub IsLow : Pax → Type 0
IsLow (Prepare place ballot) = ballot.server < 256
IsLow (Accept place ballot command) = ballot.server < 256
IsLow _ = ⊤

-- and so is each ballot that was promised
pub record AreLow (p : schedule.World) : Type 0 where
  pub acceptors : (s place : ℕ) (ballot : Ballot) → (p.acceptors s place).promised ≡ Some ballot → ballot.server < 256
  pub letters : (from : ℕ) (said : Pax) → In (schedule.sent from said) p.letters → IsLow said

-- ### One server

-- the schedule has what the server's state device has; what it knows was told; what it has applied, it knows
pub record IsSeenAt (s : ℕ) (records : List StateRecord) (entries : List Command) (p : schedule.World) : Type 0 where
  pub acceptors : (place : ℕ) → p.acceptors s place ≡ acceptor_of records place
  pub known : (place : ℕ) → p.known s place ≡ known_at records place
  pub inc : p.incs s ≡ inc_of records
  pub votes : (place : ℕ) (ballot : Ballot) (command : Command) → In (schedule.vote s place ballot command) p.votes ↔ In (Accepted place ballot command) records
  pub told : (place : ℕ) (command : Command) → known_at records place ≡ Some command → IsAnnounced p place command
  pub applied : (i : ℕ) (command : Command) → slice_get entries i ≡ Some command → known_at records (i + 1) ≡ Some command

-- a stopped server has no proposer there, and what it was about was asked for
pub record IsBusyAs (servers s : ℕ) (running : Bool) (phase : Phase) (p : schedule.World) : Type 0 where
  pub proposer : IsProposer running phase (p.proposers s)
  pub asked : IsAskedFor p s servers phase

-- ### Letters

-- what a letter says of the log was said there: a Propose has a command that may be proposed, and so is the Leave of which a Down
-- tells; a ballot's letter was sent in the schedule, and each command of a News was told for its place
abbrev pub IsBacked : schedule.World → (Command → Type 0) → (Pax → Type 0) → Body → Type 0
IsBacked p Good Said (body.Down server inc) = Good (Leave server inc)
IsBacked p Good Said (body.Propose command) = Good command
IsBacked p Good Said (body.Pax said) = Said said
IsBacked p Good Said (body.News after commands) = (i : ℕ) (command : Command) → slice_get commands i ≡ Some command → IsAnnounced p (after + i + 1) command
IsBacked p Good Said _ = ⊤

-- a server's letter of a ballot was sent there
abbrev pub IsSaidBy : schedule.World → Actor → Pax → Type 0
IsSaidBy p (actor.Server n) said = In (schedule.sent n said) p.letters
IsSaidBy p (actor.Client c) said = ⊤

-- ### One client

-- the request that is open is that of a line which the client has called
pub record IsOpen (lines : List Line) (c called : ℕ) (asked : Asked) : Type 0 where
  pub before : ℕ
  pub line : Line
  pub is : slice_get (lines_of lines c) before ≡ Some line
  pub seq : asked.seq ≡ before + 1
  pub request : asked.request ≡ line.request
  pub past : before < called

-- ### A world

pub record IsLogged (Was : Minded) (setting : Setting) (w : World) (events : List schedule.Event) (p : schedule.World) : Type 0 where
  pub servers : (s : ℕ) → IsSeenAt s (w.servers s).log.records (w.servers s).log.applied p
  pub known : (s : ℕ) → (w.servers s).life.running ≡ true → s < setting.servers
  pub incs : (s : ℕ) → inc_of (w.servers s).log.records ≡ (w.servers s).life.inc
  pub first : (s : ℕ) → 1 ≤ (w.servers s).life.inc
  pub busy : (s : ℕ) → s < setting.servers → IsBusyAs setting.servers s (w.servers s).life.running (w.servers s).log.phase p
  pub low : AreLow p
  pub sent : (letter : Letter) → Among letter w.sent → IsBacked p (IsCalledAnywhere setting w) (IsSaidBy p letter.from) letter.body
  pub wanted : (place : ℕ) (command : Command) → schedule.IsWanted events place command → MayWant Was setting w w.servers p place command
  pub wants : (s : ℕ) (command : Command) → Among command (w.servers s).log.wants → IsCalledAnywhere setting w command
  pub leaves : (s : ℕ) (command : Command) → Among command (w.servers s).log.leaves → IsCalledAnywhere setting w command
  pub queued : (s : ℕ) (letter : Letter) → Among (job.Letter letter) (w.servers s).queue → Among letter w.sent
  pub applied : (c i : ℕ) (command : Command) → slice_get (w.clients c).applied i ≡ Some command → IsAnnounced p (i + 1) command
  pub asked : (c : ℕ) (asked : Asked) → (w.clients c).asked ≡ Some asked → IsOpen setting.lines c (w.clients c).seq asked

pub record Logged (Was : Minded) (setting : Setting) (w : World) : Type 0 where
  pub events : List schedule.Event
  pub is : IsLogged Was setting w events (schedule.run setting.servers events schedule.begin)
