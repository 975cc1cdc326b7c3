-- Which lists of records are of allowed steps of a run.
use Rattle.std.specs.Prelude.{◌≡◌, ℕ, ◌≤◌, List, [], ◌∷◌, Option, Some, None}
use Rattle.petal_msg.specs.declared.letter.Actor.{Actor}
use Rattle.petal_msg.specs.declared.letter.Actor.TheVariants as actor
use Rattle.script_lines.specs.declared.request.Line.{Line}
use Rattle.script_lines.specs.declared.script.Script.{Script}
use Rattle.spec_rules.specs.World.{Setting, World, StepResult, MayStep, start, step, next_line, next_stamp, setting_of}
use Rattle.spec_rules.specs.declared.step.Step.{Step}
use Rattle.spec_rules.specs.declared.step.Step.TheVariants.{Call}
use Rattle.spec_history.specs.declared.record.Record.{Record}

-- the step that a record tells of
abbrev pub stepped : Setting → World → Record → StepResult
stepped setting w record_of = step record_of.actor record_of.step setting w record_of.stamp

-- a call is made in its line's phase
abbrev pub InPhase : Option Line → ℕ → Type 0
InPhase None phase = Unit {0}
InPhase (Some line) phase = line.phase ≡ phase

abbrev pub CallsInPhase : Step → Actor → Setting → World → ℕ → Type 0
CallsInPhase (Call line) (actor.Client c) setting w phase = InPhase (next_line setting.lines c (w.clients c)) phase
CallsInPhase _ _ setting w phase = Unit {0}

-- the record is of an allowed step, with the letters and the answer that the step gives. Its stamp is at least the next
-- one of its actor: clients' clocks are raised at a phase's start
pub record Follows (setting : Setting) (w : World) (own : Record) : Type 0 where
  pub may : MayStep setting w own.actor own.step
  pub stamp : next_stamp w own.actor own.step ≤ own.stamp
  pub phase : CallsInPhase own.step own.actor setting w own.phase
  pub sent : own.sent ≡ (stepped setting w own).letters
  pub answer : own.answer ≡ (stepped setting w own).answer

-- each record is of a step that is allowed in the world that the records before it leave
abbrev pub AreStepsFrom : Setting → World → List Record → Type 0
AreStepsFrom setting w [] = Unit {0}
AreStepsFrom setting w (own ∷ later) = Follows setting w own × AreStepsFrom setting (stepped setting w own).world later

-- the world after a list of records
abbrev pub world_after : Setting → World → List Record → World
world_after setting w [] = w
world_after setting w (own ∷ later) = world_after setting (stepped setting w own).world later

-- the records are allowed steps of the script's servers and clients, in whatever order. Of these the laws speak: the operator may
-- arm a device at any time, and a device may fail at will
abbrev pub AreSteps : Script → List Record → Type 0
AreSteps script records = AreStepsFrom (setting_of script) (start (setting_of script)) records
