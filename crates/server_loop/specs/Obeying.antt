-- How a server obeys a line of the operator: the records that the line gives it.
use Rattle.std.specs.Prelude.{◌≡◌, ℕ, ◌<◌, ◌++◌, Bool, List, [], ◌∷◌, Option, None, Some, All}
use Rattle.petal_msg.specs.declared.letter.Actor.TheVariants as actor
use Rattle.petal_msg.specs.declared.letter.Letter.{Letter}
use Rattle.script_lines.specs.declared.request.Line.{Line}
use Rattle.spec_rules.specs.World.{Setting}
use Rattle.spec_rules.specs.declared.step.Step.{Step}
use Rattle.spec_rules.specs.declared.step.Step.TheVariants.{Call, Deliver, Tick, Work, StopIn, Stop, Blank, Boot, Arm, Glance}
use Rattle.spec_rules.specs.declared.step.WorkEnd.TheVariants.{Done}
use Rattle.spec_history.specs.Controls.{Given}
use Rattle.spec_history.specs.declared.record.Record.{Record}
use Rattle.petal_world.specs.declared.errand.Deed.{Deed}
use Rattle.petal_world.specs.declared.errand.Deed.TheVariants as deed
use Rattle.law_merge.specs.OwnLines.{Duty, KeepsToLines, duty_of}
use Rattle.server_loop.specs.Seat.{Kept, server_of}

-- ### Steps

-- the step that a line gives; how a boot ends is for the devices to say
abbrev pub step_of : Deed → Step
step_of deed.Stop = Stop
step_of deed.Blank = Blank
step_of (deed.Arm which plan) = Arm which plan
step_of deed.Boot = Boot Done

-- the step of a line that comes next: what it gives, or its one glance
abbrev pub next_step : ℕ → Option Deed → Step
next_step number None = Glance number 0
next_step number (Some deed) = step_of deed

-- a step that a line of this number gives, or its one glance
abbrev pub IsOfLine : ℕ → Step → Type 0
IsOfLine number (Call line) = ⊥
IsOfLine number (Deliver letter) = ⊥
IsOfLine number Tick = ⊥
IsOfLine number (Work end) = ⊥
IsOfLine number (StopIn end) = ⊥
IsOfLine number Stop = Unit {0}
IsOfLine number Blank = Unit {0}
IsOfLine number (Boot end) = Unit {0}
IsOfLine number (Arm which plan) = Unit {0}
IsOfLine number (Glance line round) = (line ≡ number) × (round ≡ 0)

-- the server's record of such a step, later than the call of the line
pub record IsGivenBy (n number called : ℕ) (own : Record) : Type 0 where
  pub actor_is : own.actor ≡ actor.Server n
  pub later : called < own.stamp
  pub of_line : IsOfLine number own.step

-- the letters of the records, in order
abbrev pub sent_in : List Record → List Letter
sent_in [] = []
sent_in (own ∷ later) = own.sent ++ sent_in later

-- ### Some of a line's steps, and all of them

-- what the server has still to do of the line, where these steps are left of it
abbrev pub duty_with : ℕ → (begun : Bool) → List Given → Line → Duty
duty_with n begun left line = record { lines = line ∷ []; errand = record { server = Some n; left = left; begun = begun } }

-- the server took some of the steps that are left of the line, in their order, and no other ones
pub record HasGiven (setting : Setting) (line : Line) (called : ℕ) (left : List Given) (old new : Kept) : Type 0 where
  pub more : List Record
  pub is : new ≡ record old { records = old.records ++ more }
  pub each : All (IsGivenBy old.me line.number called) more
  pub keeps : (begun : Bool) → KeepsToLines setting old.me (server_of setting old) (duty_with old.me begun left line) more

-- the last record is the line's one glance
pub record EndsWithGlance (number : ℕ) (more : List Record) : Type 0 where
  pub before : List Record
  pub glance : Record
  pub is : more ≡ before ++ glance ∷ []
  pub shows : glance.step ≡ Glance number 0

-- it took each of them, and was glanced at
pub record HasGivenAll (setting : Setting) (line : Line) (called : ℕ) (left : List Given) (old new : Kept) : Type 0 where
  pub given : HasGiven setting line called left old new
  pub ends : EndsWithGlance line.number given.more

-- ### A line

-- the server took some of the steps that the line gives it, in their order, and no other ones
pub record HasBegun (setting : Setting) (line : Line) (called : ℕ) (old new : Kept) : Type 0 where
  pub more : List Record
  pub is : new ≡ record old { records = old.records ++ more }
  pub each : All (IsGivenBy old.me line.number called) more
  pub keeps : KeepsToLines setting old.me (server_of setting old) (duty_of (line ∷ [])) more

-- it took each of them, and was glanced at
pub record HasObeyed (setting : Setting) (line : Line) (called : ℕ) (old new : Kept) (letters : List Letter) : Type 0 where
  pub begun : HasBegun setting line called old new
  pub ends : EndsWithGlance line.number begun.more
  pub sent : letters ≡ sent_in begun.more
