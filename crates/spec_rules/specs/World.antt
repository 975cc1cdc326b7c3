-- The world of all servers and clients, and its steps.
use Rattle.std.specs.Prelude.{◌≡◌, ◌≢◌, ◌⊎◌, ℕ, ◌+◌, ◌==◌, ◌||◌, ◌&&◌, ◌<◌, max, Bool, true, false, nat_lt, List, [], ◌∷◌, ◌++◌, map, filter}
use Rattle.std.specs.Prelude.{slice_get, take, if◌then◌else◌, not, option_map, Option, Some, None}
use Rattle.std.specs.Option.{option_map_or}
use Rattle.petal_base.specs.declared.cell.Cell.{Cell}
use Rattle.petal_command.specs.declared.command.Command.{Command}
use Rattle.petal_msg.specs.declared.letter.Actor.{Actor}
use Rattle.petal_msg.specs.declared.letter.Actor.TheVariants as actor
use Rattle.petal_msg.specs.declared.letter.Letter.{Letter}
use Rattle.script_lines.specs.declared.answer.Answer.{Answer}
use Rattle.script_lines.specs.declared.request.Line.{Line}
use Rattle.script_lines.specs.declared.request.Request.{Request}
use Rattle.script_lines.specs.declared.request.Request.TheVariants as request
use Rattle.script_lines.specs.declared.script.Script.{Script}
use Rattle.spec_paxos.specs.Chosen.{Devices}
use Rattle.spec_paxos.specs.Chosen.{chosen_log as chosen_by}
use Rattle.spec_state.specs.Command.{state_after}
use Rattle.spec_state.specs.State as empty
use Rattle.spec_rules.specs.Blanked.{BeforeBlank, blank_joins_from, kept_store}
use Rattle.spec_rules.specs.Lists.{In, put_at}
use Rattle.spec_rules.specs.Log.{state_in}
use Rattle.spec_rules.specs.State.{State, authority, leaving}
use Rattle.spec_rules.specs.Store.{Chain, Store, chain_in, top_of}
use Rattle.spec_rules.specs.Server.{PairState, Server, first_server, letters_of}
use Rattle.spec_rules.specs.Jobs.{Acted, here_of, works, delivered, ticks, faults, stops, glances, operator}
use Rattle.spec_rules.specs.Boots.{boots, blanked, stays}
use Rattle.spec_rules.specs.Clients.{Client, Asked, Reaction, first_client, client_sender, rests, called, heard, ticked}
use Rattle.spec_rules.specs.declared.step.Step.{Step}
use Rattle.spec_rules.specs.declared.step.Step.TheVariants.{Call, Deliver, Tick, Work, StopIn, Stop, Blank, Boot, Arm, Glance}
use Rattle.spec_rules.specs.declared.step.WorkEnd.TheVariants as work_end

-- what a run is given: how many servers and slots, and the lines of its script
pub record Setting : Type 0 where
  pub servers : ℕ
  pub slots : ℕ
  pub lines : List Line

-- a step that a line of the operator gives a server
pub data Deed : Type 0 where
  Stopped : Deed
  Blanked : Deed
  Booted : Deed

-- what was done of the operator's last line: the server that is at its hand, with the last step that the line gave it, until
-- that server is glanced at; and the line of the last glance
pub record Control : Type 0 where
  pub hand : Option (ℕ × Deed)
  pub glanced : Option ℕ

-- all servers and clients, by number, with the stamp of the last step of each; all letters ever sent, the newest first; the
-- answers given so far, each with its line; what was done of the operator's last line; and, which no rule reads, of each server that was
-- blanked the store from before, and of each cell of an old map the chain that it had when its region's fence took effect
pub record World : Type 0 where
  pub servers : ℕ → Server
  pub clients : ℕ → Client
  pub server_clocks : ℕ → ℕ
  pub client_clocks : ℕ → ℕ
  pub sent : List Letter
  pub answers : List (ℕ × Answer)
  pub control : Control
  pub before_blank : ℕ → Option BeforeBlank
  pub frozen : Cell → Option Chain

-- the servers run, nothing was stored, called or sent
abbrev pub start : Setting → World
start setting = record {
  servers = λ n. first_server (nat_lt n setting.servers) setting.slots;
  clients = λ c. first_client;
  server_clocks = λ n. 0;
  client_clocks = λ c. 0;
  sent = [];
  answers = [];
  control = record { hand = None; glanced = None };
  before_blank = λ n. None;
  frozen = λ cell. None;
}

-- ### What a script sets

abbrev pub setting_of : Script → Setting
setting_of script = record {
  servers = script.servers;
  slots = script.slots;
  lines = script.lines;
}

-- the lines of a client, in order
abbrev pub lines_of : List Line → ℕ → List Line
lines_of lines client = filter (λ line. line.client == client) lines

-- the line that a client calls next
abbrev pub next_line : List Line → ℕ → Client → Option Line
next_line lines me client = slice_get (lines_of lines me) client.seq

-- ### Steps

-- the line that a step calls
abbrev pub line_in : Step → Option ℕ
line_in (Call line) = Some line
line_in (Deliver letter) = None
line_in Tick = None
line_in (Work end) = None
line_in (StopIn end) = None
line_in Stop = None
line_in Blank = None
line_in (Boot end) = None
line_in (Arm which plan) = None
line_in (Glance line round) = None

-- the letter that it hands over
abbrev pub letter_in : Step → Option Letter
letter_in (Call line) = None
letter_in (Deliver letter) = Some letter
letter_in Tick = None
letter_in (Work end) = None
letter_in (StopIn end) = None
letter_in Stop = None
letter_in Blank = None
letter_in (Boot end) = None
letter_in (Arm which plan) = None
letter_in (Glance line round) = None

-- ### States

-- the state of a server: what the entries make that it has applied
abbrev pub server_state : Setting → World → ℕ → State
server_state setting w n = state_in setting.servers (w.servers n).log

-- the state of a client, likewise
abbrev pub client_state : Setting → World → ℕ → State
client_state setting w c = state_after setting.servers (w.clients c).applied

-- ### What is chosen

-- the records on each state device. Those that accept are the votes made so far
abbrev pub devices : World → Devices
devices w n = (w.servers n).log.records

-- the longest list of commands that are chosen for the places 1, 2, ..
abbrev pub chosen_log : Setting → World → List Command
chosen_log setting w = chosen_by setting.servers (devices w)

-- the state at a place: what the chosen entries up to it make
abbrev pub state_at : Setting → World → ℕ → State
state_at setting w place = state_after setting.servers (take place (chosen_log setting w))

-- what all of them make
abbrev pub chosen_state : Setting → World → State
chosen_state setting w = state_after setting.servers (chosen_log setting w)

-- ### What counts of stores

-- how many Joins of the server with an empty store are among these entries
abbrev pub blank_joins_in : Setting → List Command → ℕ → ℕ
blank_joins_in setting log n = blank_joins_from (empty.start setting.servers) log n

-- the store of a server that counts by these entries: from its blank until they tell of it, the one before the blank
abbrev pub kept_by : Setting → List Command → World → ℕ → Store
kept_by setting log w n = kept_store (blank_joins_in setting log n) (w.before_blank n) (w.servers n).own.store

abbrev pub with_store : Server → Store → Server
with_store server store =
    let own : PairState = server.own in
    record server { own = record own { store = store } }

-- the world as it counts by these entries: each server has the store that counts
abbrev pub counted_by : Setting → List Command → World → World
counted_by setting log w = record w { servers = λ n. with_store (w.servers n) (kept_by setting log w n) }

-- the same by what is chosen
abbrev pub kept : Setting → World → ℕ → Store
kept setting w n = kept_by setting (chosen_log setting w) w n

abbrev pub counted : Setting → World → World
counted setting w = counted_by setting (chosen_log setting w) w

-- a blank leaves the store before
abbrev pub before_blanks : Step → Setting → World → ℕ → ℕ → Option BeforeBlank
before_blanks Blank setting w n =
    put_at w.before_blank n (Some (record { joins = blank_joins_in setting (chosen_log setting w) n; store = kept setting w n }))
before_blanks _ setting w n = w.before_blank

-- ### What a move starts from

-- the chain of the server whose copy of a live cell counts, where there is one
abbrev pub chain_that_counts : Setting → World → Cell → Option Chain
chain_that_counts setting w cell =
    option_map (λ n. chain_in (kept setting w n).chains cell) (authority (chosen_state setting w) cell)

-- the cell's region is on its way by the chosen state, and was not before
abbrev pub begins_to_leave : Setting → (w next : World) → Cell → Bool
begins_to_leave setting w next cell = leaving (chosen_state setting next) cell && not (leaving (chosen_state setting w) cell)

-- what is frozen once a step has chosen the entry with which a region's fence takes effect
abbrev pub frozen_by : Setting → (w next : World) → Cell → Option Chain
frozen_by setting w next cell = if begins_to_leave setting w next cell then chain_that_counts setting next cell else w.frozen cell

abbrev pub with_frozen : Setting → (w next : World) → World
with_frozen setting w next = record next { frozen = frozen_by setting w next }

-- ### What a step does

-- a server's step, at its state
abbrev pub server_step : Step → State → ℕ → Server → Acted
server_step (Call line) state me server = record { server = server; letters = [] }
server_step (Deliver letter) state me server = record { server = delivered server letter; letters = [] }
server_step Tick state me server = ticks (here_of state me server) server
server_step (Work work_end.Done) state me server = works (here_of state me server) server server.queue
server_step (Work (work_end.Fault end)) state me server = faults (here_of state me server) server server.queue end
server_step (StopIn end) state me server = faults (here_of state me server) server server.queue end
server_step Stop state me server = stops (here_of state me server) server
server_step Blank state me server = stays (blanked server)
server_step (Boot end) state me server = boots (here_of state me server) server end
server_step (Arm which plan) state me server = stays server
server_step (Glance line round) state me server = glances (here_of state me server) line round server

abbrev pub calls : State → ℕ → Client → Option Line → Reaction
calls state me client None = rests client
calls state me client (Some line) = called state me client line.number line.request

-- a client's step, at its state, where this is its next line
abbrev pub client_step : Step → State → ℕ → Client → Option Line → Reaction
client_step (Call number) state me client line = calls state me client line
client_step (Deliver letter) state me client line = heard state me client letter
client_step Tick state me client line = ticked state me client
client_step (Work end) state me client line = rests client
client_step (StopIn end) state me client line = rests client
client_step Stop state me client line = rests client
client_step Blank state me client line = rests client
client_step (Boot end) state me client line = rests client
client_step (Arm which plan) state me client line = rests client
client_step (Glance number round) state me client line = rests client

-- the letters carry the stamp of the step that sent them
abbrev pub stamped : ℕ → List Letter → List Letter
stamped stamp letters = map (λ (letter : Letter). record letter { stamp = stamp }) letters

-- the world after a step, the letters that the step sent, and the answer that it gave
pub record StepResult : Type 0 where
  pub world : World
  pub letters : List Letter
  pub answer : Option (ℕ × Answer)

-- a line that names a server has its one glance in round 0. The glances of a settle, whose rounds count from 1, leave all as it was
abbrev pub glanced_in : (line round : ℕ) → Control → Control
glanced_in line round control = if round == 0 then record { hand = None; glanced = Some line } else control

-- the steps of a line wait for their glance
abbrev pub controls : Step → ℕ → Control → Control
controls Stop n control = record control { hand = Some (n, Stopped) }
controls Blank n control = record control { hand = Some (n, Blanked) }
controls (Boot end) n control = record control { hand = Some (n, Booted) }
controls (Glance line round) n control = glanced_in line round control
controls _ n control = control

abbrev pub acts : Setting → World → ℕ → Step → ℕ → Acted → StepResult
acts setting w n what stamp acted = record {
  world = with_frozen setting w (record w {
    servers = put_at w.servers n acted.server;
    server_clocks = put_at w.server_clocks n stamp;
    sent = stamped stamp acted.letters ++ w.sent;
    control = controls what n w.control;
    before_blank = before_blanks what setting w n;
  });
  letters = stamped stamp acted.letters;
  answer = None;
}

abbrev pub with_answer : Option (ℕ × Answer) → List (ℕ × Answer) → List (ℕ × Answer)
with_answer None given = given
with_answer (Some answer) given = answer ∷ given

abbrev pub reacts : World → ℕ → ℕ → Reaction → StepResult
reacts w c stamp reacted =
    let letters = stamped stamp (letters_of (client_sender c reacted.client) 0 reacted.posts) in
    record {
      world = record w {
        clients = put_at w.clients c reacted.client;
        client_clocks = put_at w.client_clocks c stamp;
        sent = letters ++ w.sent;
        answers = with_answer reacted.answer w.answers;
      };
      letters = letters;
      answer = reacted.answer;
    }

-- a step of an actor with this stamp
unfoldable pub step : Actor → Step → Setting → World → ℕ → StepResult
step (actor.Server n) what setting w stamp = acts setting w n what stamp (server_step what (server_state setting w n) n (w.servers n))
step (actor.Client c) what setting w stamp =
    reacts w c stamp (client_step what (client_state setting w c) c (w.clients c) (next_line setting.lines c (w.clients c)))

-- ### When a step is allowed

-- the greatest numbers of 32 and of 64 bits
abbrev pub greatest_u32 : ℕ
greatest_u32 = 4294967295

abbrev pub greatest_u64 : ℕ
greatest_u64 = 18446744073709551615

-- the line was answered
pub record IsAnswered (given : List (ℕ × Answer)) (number : ℕ) : Type 0 where
  pub answer : Answer
  pub is : In (number, answer) given

-- a client with nothing open calls its next line, after every answer of the phases before
pub record MayCall (setting : Setting) (w : World) (c number : ℕ) : Type 0 where
  pub free : (w.clients c).asked ≡ None
  pub line : Line
  pub next : next_line setting.lines c (w.clients c) ≡ Some line
  pub is : line.number ≡ number
  pub before : (other : Line) → In other setting.lines → other.phase < line.phase → IsAnswered w.answers other.number

-- a letter that was ever sent comes to the one it is addressed to
pub record MayDeliver (w : World) (to : Actor) (letter : Letter) : Type 0 where
  pub sent : In letter w.sent
  pub own : letter.to ≡ to

-- the operator's line is open, and was not glanced at
pub record IsOpenLine (w : World) (asked : Asked) : Type 0 where
  pub is : (w.clients operator).asked ≡ Some asked
  pub first : w.control.glanced ≢ Some asked.line

-- a line stops this server, as its first step
abbrev pub Stops : Request → ℕ → Option (ℕ × Deed) → Type 0
Stops (request.Stop server) n before = (server ≡ n) × (before ≡ None)
Stops (request.Blank server) n before = (server ≡ n) × (before ≡ None)
Stops _ n before = ⊥

-- the operator's open line stops this server, which runs
pub record MayStop (w : World) (n : ℕ) : Type 0 where
  pub runs : (w.servers n).life.running ≡ true
  pub asked : Asked
  pub opened : IsOpenLine w asked
  pub stops : Stops asked.request n w.control.hand

-- a line blanks this server, after its stop or as its first step
abbrev pub Blanks : Request → ℕ → Option (ℕ × Deed) → Type 0
Blanks (request.Blank server) n before = (server ≡ n) × ((before ≡ None) ⊎ (before ≡ Some (n, Stopped)))
Blanks _ n before = ⊥

-- the operator's open line blanks this server, which is stopped
pub record MayBlank (w : World) (n : ℕ) : Type 0 where
  pub rests : (w.servers n).life.running ≡ false
  pub asked : Asked
  pub opened : IsOpenLine w asked
  pub blanks : Blanks asked.request n w.control.hand

-- a line boots this server, after what the line did before
abbrev pub Boots : Request → ℕ → Option (ℕ × Deed) → Type 0
Boots (request.Start server) n before = (server ≡ n) × (before ≡ None)
Boots (request.Blank server) n before = (server ≡ n) × (before ≡ Some (n, Blanked))
Boots _ n before = ⊥

-- the operator's open line boots this server, which is stopped and whose incarnation can be raised
pub record MayBoot (w : World) (n : ℕ) : Type 0 where
  pub rests : (w.servers n).life.running ≡ false
  pub raises : (w.servers n).life.inc < greatest_u32
  pub asked : Asked
  pub opened : IsOpenLine w asked
  pub boots : Boots asked.request n w.control.hand

-- a line has stopped, started or blanked the server, or is for one of its devices
abbrev pub IsDone : Request → (n : ℕ) → (running : Bool) → Option (ℕ × Deed) → Type 0
IsDone (request.Stop server) n running before = (server ≡ n) × (running ≡ false)
IsDone (request.StopAt server at) n running before = server ≡ n
IsDone (request.Fault server which kind at) n running before = server ≡ n
IsDone (request.Start server) n running before = (server ≡ n) × ((running ≡ true) ⊎ (before ≡ Some (n, Booted)))
IsDone (request.Blank server) n running before = (server ≡ n) × (before ≡ Some (n, Booted))
IsDone _ n running before = ⊥

-- after the steps that it gives, or at once where it gives none, the operator's open line has its one glance at its server
pub record IsGlanceDue (w : World) (n line round : ℕ) : Type 0 where
  pub asked : Asked
  pub opened : IsOpenLine w asked
  pub line_is : asked.line ≡ line
  pub once : round ≡ 0
  pub done : IsDone asked.request n (w.servers n).life.running w.control.hand

-- a settle that the operator has called, which is open or answered, glances at each server in each of its rounds
pub record IsSettleGlance (setting : Setting) (w : World) (line round : ℕ) : Type 0 where
  pub place : ℕ
  pub own : Line
  pub is : slice_get (lines_of setting.lines operator) place ≡ Some own
  pub called : place < (w.clients operator).seq
  pub line_is : own.number ≡ line
  pub request_is : own.request ≡ request.Settle
  pub counts : 0 < round

-- a line of the operator glances at this server
abbrev pub MayGlance : Setting → World → (n line round : ℕ) → Type 0
MayGlance setting w n line round = IsGlanceDue w n line round ⊎ IsSettleGlance setting w line round

-- the server is not at the operator's hand: between the first step that a line gives a server and its glance, the server
-- takes no other step
abbrev pub IsFree : World → ℕ → Type 0
IsFree w n = (deed : Deed) → w.control.hand ≢ Some (n, deed)

-- a letter comes to the server
pub record MayReceive (w : World) (n : ℕ) (letter : Letter) : Type 0 where
  pub comes : MayDeliver w (actor.Server n) letter
  pub free : IsFree w n

-- the server runs, and takes a step by itself
pub record MayAct (w : World) (n : ℕ) : Type 0 where
  pub runs : (w.servers n).life.running ≡ true
  pub free : IsFree w n

-- it has a job, too
pub record MayWork (w : World) (n : ℕ) : Type 0 where
  pub acts : MayAct w n
  pub busy : (w.servers n).queue ≢ []

abbrev pub MayServer : Step → Setting → World → ℕ → Type 0
MayServer (Call line) setting w n = ⊥
MayServer (Deliver letter) setting w n = MayReceive w n letter
MayServer Tick setting w n = MayAct w n
MayServer (Work end) setting w n = MayWork w n
MayServer (StopIn end) setting w n = MayWork w n
MayServer Stop setting w n = MayStop w n
MayServer Blank setting w n = MayBlank w n
MayServer (Boot end) setting w n = MayBoot w n
MayServer (Arm which plan) setting w n = Unit {0}
MayServer (Glance line round) setting w n = MayGlance setting w n line round

abbrev pub MayClient : Step → Setting → World → ℕ → Type 0
MayClient (Call line) setting w c = MayCall setting w c line
MayClient (Deliver letter) setting w c = MayDeliver w (actor.Client c) letter
MayClient Tick setting w c = Unit {0}
MayClient (Work end) setting w c = ⊥
MayClient (StopIn end) setting w c = ⊥
MayClient Stop setting w c = ⊥
MayClient Blank setting w c = ⊥
MayClient (Boot end) setting w c = ⊥
MayClient (Arm which plan) setting w c = ⊥
MayClient (Glance line round) setting w c = ⊥

-- the stamp of what a step receives
abbrev pub received : Step → ℕ
received what = option_map_or (λ (letter : Letter). letter.stamp) (letter_in what) 0

abbrev pub clock_of : World → Actor → ℕ
clock_of w (actor.Server n) = w.server_clocks n
clock_of w (actor.Client c) = w.client_clocks c

-- one more than the greatest of the actor's last stamp and the stamp of what it receives ("Time, Clocks, and the Ordering
-- of Events", 1978)
abbrev pub next_stamp : World → Actor → Step → ℕ
next_stamp w who what = max (clock_of w who) (received what) + 1

abbrev pub turn_of : Option Asked → ℕ
turn_of None = 0
turn_of (Some asked) = asked.turn

abbrev pub round_of : Option Asked → ℕ
round_of None = 0
round_of (Some asked) = asked.round

-- a running server has a number that is the greatest of its type, so that a step could not count on
abbrev pub is_spent_server : Server → Bool
is_spent_server server = server.life.running && ((server.own.pairs.next == greatest_u64) || (top_of server.own.store.chains == greatest_u64))

-- the same of any actor
abbrev pub is_spent : World → Actor → Bool
is_spent w (actor.Server n) = is_spent_server (w.servers n)
is_spent w (actor.Client c) =
    ((w.clients c).seq == greatest_u32) || (turn_of (w.clients c).asked == greatest_u32) || (round_of (w.clients c).asked == greatest_u32)

abbrev pub MayActor : Actor → Step → Setting → World → Type 0
MayActor (actor.Server n) what setting w = (n < setting.servers) × MayServer what setting w n
MayActor (actor.Client c) what setting w = (c < 9) × MayClient what setting w c

-- the step is allowed in this world
pub record MayStep (setting : Setting) (w : World) (who : Actor) (what : Step) : Type 0 where
  pub may : MayActor who what setting w
  pub clock : clock_of w who < greatest_u64
  pub receives : received what < greatest_u64
  pub goes_on : is_spent w who ≡ false
