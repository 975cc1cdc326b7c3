-- Which lists of records are histories of a script.
use Rattle.std.specs.Prelude.{List}
use Rattle.script_lines.specs.declared.script.Script.{Script}
use Rattle.spec_rules.specs.World.{setting_of, start}
use Rattle.spec_history.specs.Controls.{ObeyFrom, no_errand}
use Rattle.spec_history.specs.Failures.{FailByPlans}
use Rattle.spec_history.specs.Steps.{AreSteps}
use Rattle.spec_history.specs.declared.record.Record.{Record}

-- the steps that the script gives servers stand there in its order and no others do
abbrev pub ObeyScript : Script → List Record → Type 0
ObeyScript script records = ObeyFrom (setting_of script) (start (setting_of script)) no_errand records

-- the records are legal for the script: each is of an allowed step, servers are stopped, blanked, armed, booted and glanced at as its lines
-- say, and no device fails but by a plan that a line armed
pub record IsLegal (script : Script) (records : List Record) : Type 0 where
  pub steps : AreSteps script records
  pub obey : ObeyScript script records
  pub planned : FailByPlans records
