-- The steps that the operator's lines give their servers: in order, each after the call of its line; and after the last of them the line's
-- one glance.
use Rattle.std.specs.Prelude.{◌≡◌, ◌≢◌, ◌==◌, ℕ, Bool, true, false, List, [], ◌∷◌, drop, Option, Some, None, if◌then◌else◌}
use Rattle.device_faults.specs.declared.plan.Plan.{Plan}
use Rattle.device_faults.specs.declared.which.Which.{Which}
use Rattle.device_faults.specs.declared.which.Which.TheVariants.{Data, State}
use Rattle.petal_msg.specs.declared.letter.Actor.{Actor}
use Rattle.petal_msg.specs.declared.letter.Actor.TheVariants as actor
use Rattle.script_lines.specs.Requests.{names}
use Rattle.script_lines.specs.declared.request.Line.{Line}
use Rattle.script_lines.specs.declared.request.Request.{Request}
use Rattle.script_lines.specs.declared.request.Request.TheVariants as request
use Rattle.spec_rules.specs.Jobs.{operator}
use Rattle.spec_rules.specs.Plans.{fault_plan, stop_plan}
use Rattle.spec_rules.specs.World.{Setting, World, next_line}
use Rattle.spec_rules.specs.declared.step.Step.{Step}
use Rattle.spec_rules.specs.declared.step.Step.TheVariants.{Call, Stop, Blank, Boot, Arm, Glance}
use Rattle.spec_history.specs.Steps.{stepped}
use Rattle.spec_history.specs.declared.record.Record.{Record}

-- a step that a line gives its server: to stop, where it runs; a blank data device; a plan for a device, or none; to boot, where it is stopped
pub data Given : Type 0 where
  Stops : Given
  Blanks : Given
  Arms : Which → Option Plan → Given
  Boots : Given

-- both devices lose their plans, the data device first, before a boot
abbrev pub boot_steps : List Given
boot_steps = Arms Data None ∷ Arms State None ∷ Boots ∷ []

-- the steps that a line gives its server, in order
abbrev pub steps_of : Request → List Given
steps_of (request.Stop server) = Stops ∷ []
steps_of (request.StopAt server at) = Arms Data (Some (stop_plan at)) ∷ []
steps_of (request.Fault server which kind at) = Arms which (Some (fault_plan kind at)) ∷ []
steps_of (request.Start server) = boot_steps
steps_of (request.Blank server) = Stops ∷ Blanks ∷ boot_steps
steps_of _ = []

-- a server that is stopped is not told to stop, and one that runs not to boot
abbrev pub due : (running : Bool) → List Given → List Given
due true (Boots ∷ later) = later
due false (Stops ∷ later) = later
due running given = given

-- the operator's last line on its way: its server, the steps that it has still to give, and whether it has given one
pub record Errand : Type 0 where
  pub server : Option ℕ
  pub left : List Given
  pub begun : Bool

-- no line is on its way
abbrev pub no_errand : Errand
no_errand = record { server = None; left = []; begun = false }

-- a line that is called
abbrev pub errand_of : Option Line → Errand
errand_of None = no_errand
errand_of (Some line) = record { server = (names line.request).server; left = steps_of line.request; begun = false }

-- ### Which steps of a server the errand allows

-- the line's next step is this one
pub record IsNext (errand : Errand) (n : ℕ) (running : Bool) (given : Given) : Type 0 where
  pub server : errand.server ≡ Some n
  pub later : List Given
  pub is : due running errand.left ≡ given ∷ later

-- the line has given its server each step
pub record IsThrough (errand : Errand) (n : ℕ) (running : Bool) : Type 0 where
  pub server : errand.server ≡ Some n
  pub all : due running errand.left ≡ []

-- from the first step that a line gives a server up to its glance, the server takes no other step
abbrev pub IsLeftAlone : Errand → ℕ → Type 0
IsLeftAlone errand n = errand.begun ≡ true → errand.server ≢ Some n

-- a line's one glance is that of round 0; a settle's rounds count from 1
abbrev pub ObeysGlance : (once : Bool) → Errand → ℕ → (running : Bool) → Type 0
ObeysGlance true errand n running = IsThrough errand n running
ObeysGlance false errand n running = IsLeftAlone errand n

-- what a server that runs, or not, may do
abbrev pub ObeysAs : Step → Errand → ℕ → (running : Bool) → Type 0
ObeysAs Stop errand n running = IsNext errand n running Stops
ObeysAs Blank errand n running = IsNext errand n running Blanks
ObeysAs (Arm which plan) errand n running = IsNext errand n running (Arms which plan)
ObeysAs (Boot end) errand n running = IsNext errand n running Boots
ObeysAs (Glance line round) errand n running = ObeysGlance (round == 0) errand n running
ObeysAs _ errand n running = IsLeftAlone errand n

-- the step is one that the errand allows
abbrev pub Obeys : Actor → Step → World → Errand → Type 0
Obeys (actor.Server n) what w errand = ObeysAs what errand n (w.servers n).life.running
Obeys (actor.Client c) what w errand = Unit {0}

-- ### What a step leaves of the errand

-- the next step is given
abbrev pub with_given : (running : Bool) → Errand → Errand
with_given running errand = record errand { left = drop 1 (due running errand.left); begun = true }

abbrev pub served : Step → (running : Bool) → Errand → Errand
served Stop running errand = with_given running errand
served Blank running errand = with_given running errand
served (Arm which plan) running errand = with_given running errand
served (Boot end) running errand = with_given running errand
served (Glance line round) running errand = if round == 0 then no_errand else errand
served _ running errand = errand

-- the operator calls its next line
abbrev pub called_by : ℕ → Step → Setting → World → Errand → Errand
called_by c (Call number) setting w errand = if c == operator then errand_of (next_line setting.lines c (w.clients c)) else errand
called_by c _ setting w errand = errand

abbrev pub errand_after : Actor → Step → Setting → World → Errand → Errand
errand_after (actor.Server n) what setting w errand = served what (w.servers n).life.running errand
errand_after (actor.Client c) what setting w errand = called_by c what setting w errand

-- ### A list of records

-- what the records leave of the errand
abbrev pub errand_along : Setting → World → Errand → List Record → Errand
errand_along setting w errand [] = errand
errand_along setting w errand (own ∷ later) =
    errand_along setting (stepped setting w own).world (errand_after own.actor own.step setting w errand) later

-- each step that stops, blanks, arms or boots a server, and each glance but a settle's, is one that the operator's line gives, in its order
abbrev pub ObeyFrom : Setting → World → Errand → List Record → Type 0
ObeyFrom setting w errand [] = Unit {0}
ObeyFrom setting w errand (own ∷ later) =
    Obeys own.actor own.step w errand
    × ObeyFrom setting (stepped setting w own).world (errand_after own.actor own.step setting w errand) later
