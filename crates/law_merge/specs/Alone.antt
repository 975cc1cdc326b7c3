-- The steps of one actor by themselves: what each of them owes its actor alone.
use Rattle.law_merge.specs.Imports.{Acted, Actor, Arm, Blank, Boot, Call, Client, Deliver, Glance, InPhase, Letter, Line, Reaction, Record, Server, Setting}
use Rattle.law_merge.specs.Imports.{Step, Stop, StopIn, Tick, Work, client_sender, client_step, greatest_u32, greatest_u64, is_spent_server, letters_of}
use Rattle.law_merge.specs.Imports.{next_line, received, round_of, server_step, stamped, state_after, state_in, turn_of}
use Rattle.std.specs.Prelude.{◌≡◌, ◌≢◌, ℕ, ◌+◌, ◌≤◌, ◌<◌, ◌==◌, ◌||◌, max, Bool, true, false, List, [], ◌∷◌, filter, Some, None}
use Rattle.petal_msg.specs.declared.letter.Actor.TheVariants as actor

-- ### Whose step it is

abbrev pub is_by_server : ℕ → Actor → Bool
is_by_server n (actor.Server m) = m == n
is_by_server n (actor.Client c) = false

abbrev pub is_by_client : ℕ → Actor → Bool
is_by_client c (actor.Server n) = false
is_by_client c (actor.Client d) = d == c

-- the records of a server, and of a client
abbrev pub of_server : ℕ → List Record → List Record
of_server n records = filter (λ (own : Record). is_by_server n own.actor) records

abbrev pub of_client : ℕ → List Record → List Record
of_client c records = filter (λ (own : Record). is_by_client c own.actor) records

-- a letter that comes is addressed to this one
abbrev pub IsFor : Actor → Step → Type 0
IsFor who (Deliver letter) = letter.to ≡ who
IsFor who _ = Unit {0}

-- ### A server

-- what a step makes of a server, whose state is that of its own log
abbrev pub acted_by : Setting → ℕ → Server → Step → Acted
acted_by setting n server what = server_step what (state_in setting.servers server.log) n server

-- it takes the step by itself, whatever others do
abbrev pub MayAlone : Step → Server → Type 0
MayAlone (Call line) server = ⊥
MayAlone (Deliver letter) server = Unit {0}
MayAlone Tick server = server.life.running ≡ true
MayAlone (Work end) server = (server.life.running ≡ true) × (server.queue ≢ [])
MayAlone (StopIn end) server = (server.life.running ≡ true) × (server.queue ≢ [])
MayAlone Stop server = server.life.running ≡ true
MayAlone Blank server = server.life.running ≡ false
MayAlone (Boot end) server = (server.life.running ≡ false) × (server.life.inc < greatest_u32)
MayAlone (Arm which plan) server = Unit {0}
MayAlone (Glance line round) server = Unit {0}

-- the record is of the server's next step, with the letters that the step gives
pub record IsNextOf (setting : Setting) (n : ℕ) (server : Server) (clock : ℕ) (own : Record) : Type 0 where
  pub may : MayAlone own.step server
  pub own_letter : IsFor (actor.Server n) own.step
  pub clock_goes_on : clock < greatest_u64
  pub receives : received own.step < greatest_u64
  pub goes_on : is_spent_server server ≡ false
  pub stamp : max clock (received own.step) + 1 ≤ own.stamp
  pub sent : own.sent ≡ stamped own.stamp (acted_by setting n server own.step).letters
  pub answer : own.answer ≡ None

-- each record is, from this server and this stamp on
abbrev pub IsAlone : Setting → ℕ → Server → ℕ → List Record → Type 0
IsAlone setting n server clock [] = Unit {0}
IsAlone setting n server clock (own ∷ later) =
    IsNextOf setting n server clock own × IsAlone setting n (acted_by setting n server own.step).server own.stamp later

-- the server after its own records
abbrev pub server_along : Setting → ℕ → Server → List Record → Server
server_along setting n server [] = server
server_along setting n server (own ∷ later) = server_along setting n (acted_by setting n server own.step).server later

-- ### A client

-- what a step makes of a client, whose state is that of the entries that it has applied
abbrev pub reacted_by : Setting → ℕ → Client → Step → Reaction
reacted_by setting c client what = client_step what (state_after setting.servers client.applied) c client (next_line setting.lines c client)

-- it calls its next line, with nothing open
pub record CallsNext (setting : Setting) (c : ℕ) (client : Client) (number : ℕ) : Type 0 where
  pub free : client.asked ≡ None
  pub line : Line
  pub next : next_line setting.lines c client ≡ Some line
  pub is : line.number ≡ number

abbrev pub ClientMayAlone : Step → Setting → ℕ → Client → Type 0
ClientMayAlone (Call number) setting c client = CallsNext setting c client number
ClientMayAlone (Deliver letter) setting c client = Unit {0}
ClientMayAlone Tick setting c client = Unit {0}
ClientMayAlone _ setting c client = ⊥

-- a call is made in its line's phase
abbrev pub IsInPhase : Step → Setting → ℕ → Client → ℕ → Type 0
IsInPhase (Call number) setting c client phase = InPhase (next_line setting.lines c client) phase
IsInPhase _ setting c client phase = Unit {0}

abbrev pub is_spent_client : Client → Bool
is_spent_client client = (client.seq == greatest_u32) || (turn_of client.asked == greatest_u32) || (round_of client.asked == greatest_u32)

abbrev pub letters_by : ℕ → ℕ → Reaction → List Letter
letters_by c stamp reacted = stamped stamp (letters_of (client_sender c reacted.client) 0 reacted.posts)

-- the record is of the client's next step, with the letters and the answer that the step gives
pub record IsNextOfClient (setting : Setting) (c : ℕ) (client : Client) (clock : ℕ) (own : Record) : Type 0 where
  pub may : ClientMayAlone own.step setting c client
  pub own_letter : IsFor (actor.Client c) own.step
  pub clock_goes_on : clock < greatest_u64
  pub receives : received own.step < greatest_u64
  pub goes_on : is_spent_client client ≡ false
  pub stamp : max clock (received own.step) + 1 ≤ own.stamp
  pub phase : IsInPhase own.step setting c client own.phase
  pub sent : own.sent ≡ letters_by c own.stamp (reacted_by setting c client own.step)
  pub answer : own.answer ≡ (reacted_by setting c client own.step).answer

-- each record is, from this client and this stamp on
abbrev pub IsAloneClient : Setting → ℕ → Client → ℕ → List Record → Type 0
IsAloneClient setting c client clock [] = Unit {0}
IsAloneClient setting c client clock (own ∷ later) =
    IsNextOfClient setting c client clock own × IsAloneClient setting c (reacted_by setting c client own.step).client own.stamp later

-- the client after its own records
abbrev pub client_along : Setting → ℕ → Client → List Record → Client
client_along setting c client [] = client
client_along setting c client (own ∷ later) = client_along setting c (reacted_by setting c client own.step).client later
