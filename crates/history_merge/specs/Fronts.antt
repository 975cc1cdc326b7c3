-- What joins the actors, after some records of a history: as far as a record's place among others depends on it.
use Rattle.std.specs.Prelude.{◌≡◌, ◌≢◌, ◌<◌, ◌+◌, ◌==◌, ◌&&◌, ℕ, Bool, true, false, List, [], ◌∷◌, Option, Some, None}
use Rattle.std.specs.Prelude.{if◌then◌else◌, is_some, length, slice_get, take}
use Rattle.petal_msg.specs.declared.body.Body.{Body}
use Rattle.petal_msg.specs.declared.body.Body.TheVariants as body
use Rattle.petal_msg.specs.declared.letter.Actor.{Actor}
use Rattle.petal_msg.specs.declared.letter.Actor.TheVariants as actor
use Rattle.petal_msg.specs.declared.letter.Letter.{Letter}
use Rattle.script_lines.specs.declared.answer.Answer.{Answer}
use Rattle.script_lines.specs.declared.request.Line.{Line}
use Rattle.script_lines.specs.declared.request.Request.TheVariants as request
use Rattle.spec_rules.specs.Clients.{Asked}
use Rattle.spec_rules.specs.Jobs.{operator}
use Rattle.spec_rules.specs.Lists.{In}
use Rattle.spec_rules.specs.World.{Control, Deed, IsDone, Setting, World, Blanks, Boots, Stops, controls, line_in, lines_of, setting_of, start}
use Rattle.spec_rules.specs.declared.step.Step.{Step}
use Rattle.spec_rules.specs.declared.step.Step.TheVariants.{Arm, Blank, Boot, Call, Deliver, Glance, Stop, StopIn, Tick, Work}
use Rattle.spec_history.specs.Controls.{Errand, ObeysAs, errand_along, no_errand}
use Rattle.spec_history.specs.Steps.{AreSteps, world_after}
use Rattle.law_merge.specs.Joined.{AreJoinedIn}
use Rattle.spec_history.specs.declared.record.Record.{Record}
use Rattle.server_host.specs.Waiting.{AreAfter, AreRising, Await}
use Rattle.petal_world.specs.Actors.{without_answered}
use Rattle.petal_world.specs.Errands.{errand_next}
use Rattle.script_lines.specs.declared.script.Script.{Script}
use Rattle.history_merge.specs.Runs.{AreOwn}
use Rattle.history_merge.specs.declared.front.Front.{Front}

-- ### Of which world it is

-- the operator's open line
abbrev pub IsOpenAs : Option Asked → Option Line → Type 0
IsOpenAs None None = Unit {0}
IsOpenAs (Some asked) (Some line) = (asked.line ≡ line.number) × (asked.request ≡ line.request)
IsOpenAs _ _ = ⊥

-- this is the front in this world, with this errand of the operator's last line
pub record Shows (setting : Setting) (w : World) (errand : Errand) (front : Front) : Type 0 where
  pub orders : front.orders ≡ lines_of setting.lines operator
  pub called : front.called ≡ (w.clients operator).seq
  pub open_as : IsOpenAs (w.clients operator).asked front.order
  pub control : front.control ≡ w.control
  pub errand_is : front.errand ≡ errand
  pub waiting : Await setting.lines w.answers front.waiting

-- ### Which records come next

-- the operator calls its next line
abbrev pub is_order : Actor → Step → Bool
is_order (actor.Server n) what = false
is_order (actor.Client c) what = (c == operator) && is_some (line_in what)

-- a server's record tells whether it runs, where this counts: a stop that it does, a blank and a boot that it does not, and a glance by what
-- the server shows
abbrev pub shows_running : Body → Bool
shows_running (body.Seen line round running inc full) = running
shows_running _ = false

abbrev pub first_shows : List Letter → Bool
first_shows [] = false
first_shows (letter ∷ later) = shows_running letter.body

abbrev pub runs_in : Step → List Letter → Bool
runs_in Stop sent = true
runs_in (Glance line round) sent = first_shows sent
runs_in _ sent = false

-- the operator's line is open, was not glanced at, and does this
pub record IsOrderedIn (front : Front) (does : Line → Type 0) : Type 0 where
  pub line : Line
  pub is : front.order ≡ Some line
  pub first : front.control.glanced ≢ Some line.number
  pub so : does line

abbrev pub IsFreeIn : Front → ℕ → Type 0
IsFreeIn front n = (deed : Deed) → front.control.hand ≢ Some (n, deed)

-- the operator has called a settle of this number
pub record HasSettled (front : Front) (number : ℕ) : Type 0 where
  pub place : ℕ
  pub line : Line
  pub is : slice_get front.orders place ≡ Some line
  pub called : place < front.called
  pub number_is : line.number ≡ number
  pub request_is : line.request ≡ request.Settle

abbrev pub GlancesIn : (once : Bool) → Front → (n number round : ℕ) → (running : Bool) → Type 0
GlancesIn true front n number round running =
    (round ≡ 0) × IsOrderedIn front (λ line. (line.number ≡ number) × IsDone line.request n running front.control.hand)
GlancesIn false front n number round running = (0 < round) × HasSettled front number

-- a server's step comes where the operator's lines have it
abbrev pub IsTurnIn : Step → Front → ℕ → (running : Bool) → Type 0
IsTurnIn (Call line) front n running = ⊥
IsTurnIn (Deliver letter) front n running = IsFreeIn front n
IsTurnIn Tick front n running = IsFreeIn front n
IsTurnIn (Work end) front n running = IsFreeIn front n
IsTurnIn (StopIn end) front n running = IsFreeIn front n
IsTurnIn Stop front n running = IsOrderedIn front (λ line. Stops line.request n front.control.hand)
IsTurnIn Blank front n running = IsOrderedIn front (λ line. Blanks line.request n front.control.hand)
IsTurnIn (Boot end) front n running = IsOrderedIn front (λ line. Boots line.request n front.control.hand)
IsTurnIn (Arm which plan) front n running = Unit {0}
IsTurnIn (Glance line round) front n running = GlancesIn (round == 0) front n line round running

-- and its errand allows it; a device is armed whether the server runs or not
abbrev pub IsAllowedIn : Step → Errand → ℕ → (running : Bool) → Type 0
IsAllowedIn (Arm which plan) errand n running = ObeysAs (Arm which plan) errand n true × ObeysAs (Arm which plan) errand n false
IsAllowedIn what errand n running = ObeysAs what errand n running

-- the operator has a line to call
abbrev pub HasOrder : Actor → Step → Front → Type 0
HasOrder who what front = is_order who what ≡ true → front.called < length front.orders

-- a call comes where no line of an earlier phase waits
abbrev pub IsCallIn : Step → Front → (phase : ℕ) → Type 0
IsCallIn (Call line) front phase = AreRising front.waiting → AreAfter front.waiting phase
IsCallIn _ front phase = Unit {0}

abbrev pub IsAdmittedAs : Actor → Front → (servers : ℕ) → Record → Type 0
IsAdmittedAs (actor.Server n) front servers own =
    (n < servers) × IsTurnIn own.step front n (runs_in own.step own.sent) × IsAllowedIn own.step front.errand n (runs_in own.step own.sent)
IsAdmittedAs (actor.Client c) front servers own = (c < 9) × IsCallIn own.step front own.phase × HasOrder (actor.Client c) own.step front

-- a letter that comes stands in one of these records
pub record IsSentIn (records : List Record) (letter : Letter) : Type 0 where
  pub own : Record
  pub there : In own records
  pub sent : In letter own.sent

abbrev pub ComesFrom : Step → List Record → Type 0
ComesFrom (Deliver letter) records = IsSentIn records letter
ComesFrom _ records = Unit {0}

-- the record comes next after these
pub record IsAdmitted (front : Front) (servers : ℕ) (past : List Record) (own : Record) : Type 0 where
  pub turn : IsAdmittedAs own.actor front servers own
  pub comes : ComesFrom own.step past

-- ### What a record leaves

-- the operator answers its line
abbrev pub ends_order : Actor → Option (ℕ × Answer) → Bool
ends_order (actor.Server n) answer = false
ends_order (actor.Client c) answer = (c == operator) && is_some answer

abbrev pub controlled : Actor → Step → Control → Control
controlled (actor.Server n) what control = controls what n control
controlled (actor.Client c) what control = control

abbrev pub opened : Actor → Record → Front → Option Line
opened who own front = if ends_order who own.answer then None else if is_order who own.step then slice_get front.orders front.called else front.order

abbrev pub called_after : Actor → Step → Front → ℕ
called_after who what front = if is_order who what then front.called + 1 else front.called

abbrev pub errand_after : Record → Front → Errand
errand_after own front = errand_next own.actor own.step (runs_in own.step own.sent) (slice_get front.orders front.called) front.errand

abbrev pub front_after : Record → Front → Front
front_after own front = record {
  orders = front.orders;
  called = called_after own.actor own.step front;
  order = opened own.actor own front;
  control = controlled own.actor own.step front.control;
  errand = errand_after own front;
  waiting = without_answered front.waiting own.answer;
}

-- ### The first records

-- the world and the operator's errand after some records
abbrev pub world_of : Script → List Record → World
world_of script records = world_after (setting_of script) (start (setting_of script)) records

abbrev pub errand_in : Script → List Record → Errand
errand_in script records = errand_along (setting_of script) (start (setting_of script)) no_errand records

-- the records are steps that are joined, and this is the front after them
pub record IsFrontOf (script : Script) (records : List Record) (front : Front) : Type 0 where
  pub steps : AreSteps script records
  pub joined : AreJoinedIn script records
  pub shows : Shows (setting_of script) (world_of script records) (errand_in script records) front

-- so it is of the first records, where each actor's are its own
abbrev pub IsSoFar : Script → List Record → ℕ → Front → Type 0
IsSoFar script records place front = AreOwn script records → IsFrontOf script (take place records) front
