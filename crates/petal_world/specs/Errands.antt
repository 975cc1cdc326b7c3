-- The operator's last line on its way, as the code has it: which of its steps are left.
use Rattle.std.specs.Prelude.{◌≡◌, ◌==◌, ℕ, Bool, List, [], ◌∷◌, Option, Some, None, if◌then◌else◌}
use Rattle.device_faults.specs.declared.which.Which.TheVariants.{State}
use Rattle.petal_msg.specs.declared.letter.Actor.{Actor}
use Rattle.petal_msg.specs.declared.letter.Actor.TheVariants as actor
use Rattle.script_lines.specs.declared.request.Line.{Line}
use Rattle.spec_rules.specs.Jobs.{operator}
use Rattle.spec_rules.specs.World.{World}
use Rattle.spec_rules.specs.declared.step.Step.{Step}
use Rattle.spec_rules.specs.declared.step.Step.TheVariants.{Call}
use Rattle.spec_history.specs.Controls.{Errand, Given, Stops, Blanks, Arms, Boots, ObeysAs, boot_steps, errand_of, served}
use Rattle.petal_world.specs.declared.errand.Left.{Left}
use Rattle.petal_world.specs.declared.errand.Left.TheVariants as left
use Rattle.petal_world.specs.declared.errand.Deed.{Deed}
use Rattle.petal_world.specs.declared.errand.Deed.TheVariants as deed

-- the step that a deed is
abbrev pub given_of : Deed → Given
given_of deed.Stop = Stops
given_of deed.Blank = Blanks
given_of (deed.Arm which plan) = Arms which plan
given_of deed.Boot = Boots

-- the steps that are left
abbrev pub steps_left : Left → List Given
steps_left left.Nothing = []
steps_left left.Stop = Stops ∷ []
steps_left left.StopAndBlank = Stops ∷ Blanks ∷ boot_steps
steps_left left.Blank = Blanks ∷ boot_steps
steps_left left.Disarm = boot_steps
steps_left left.DisarmState = Arms State None ∷ Boots ∷ []
steps_left left.Boot = Boots ∷ []
steps_left (left.Arm which plan) = Arms which (Some plan) ∷ []

-- the first of them
abbrev pub first_step : List Given → Option Given
first_step [] = None
first_step (given ∷ later) = Some given

abbrev pub given_in : Option Deed → Option Given
given_in None = None
given_in (Some deed) = Some (given_of deed)

-- a server that runs, or not, may take the step; a client may take each
abbrev pub ObeysBy : Actor → Step → Errand → (running : Bool) → Type 0
ObeysBy (actor.Server n) what errand running = ObeysAs what errand n running
ObeysBy (actor.Client c) what errand running = Unit {0}

-- what a step of a client leaves, which calls this line where it is the operator and calls one
abbrev pub called_next : ℕ → Step → Option Line → Errand → Errand
called_next c (Call number) line errand = if c == operator then errand_of line else errand
called_next c _ line errand = errand

-- what a step leaves, of a server that ran or not
abbrev pub errand_next : Actor → Step → (running : Bool) → Option Line → Errand → Errand
errand_next (actor.Server n) what running line errand = served what running errand
errand_next (actor.Client c) what running line errand = called_next c what line errand

-- the server runs, or not
abbrev pub Runs : World → Actor → Bool → Type 0
Runs w (actor.Server n) running = running ≡ (w.servers n).life.running
Runs w (actor.Client c) running = Unit {0}
