-- Runs: the lists of allowed steps of sound scripts.
use Rattle.law_jobs.specs.Imports.{AreSteps, IsSound, Record, Script, Setting, World, setting_of, start, world_after}
use Rattle.std.specs.Prelude.{[], ◌++◌, ◌∷◌, List}

-- the world after these records
abbrev pub At : Script → List Record → World
At script records = world_after (setting_of script) (start (setting_of script)) records

pub record Run : Type 0 where
  pub script : Script
  pub sound : IsSound script
  pub records : List Record
  pub legal : AreSteps script records

abbrev pub run_of : (script : Script) → IsSound script → (records : List Record) → AreSteps script records → Run
run_of script sound records legal = record { script = script; sound = sound; records = records; legal = legal }

abbrev pub setting_in : Run → Setting
setting_in run = setting_of run.script

-- the world that it leads to
abbrev pub after : Run → World
after run = At run.script run.records

-- a run, and one record more
pub record OneMore : Type 0 where
  pub prior : Run
  pub own : Record
  pub legal : AreSteps prior.script (prior.records ++ own ∷ [])

abbrev pub longer : OneMore → Run
longer it = run_of it.prior.script it.prior.sound (it.prior.records ++ it.own ∷ []) it.legal
