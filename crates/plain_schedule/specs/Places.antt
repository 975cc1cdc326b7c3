-- What is kept of a script in play.
use Rattle.std.specs.Prelude.{◌≡◌, ◌≤◌, ◌<◌, ℕ, suc, ◌==◌, List, [], ◌∷◌, length, map, take, drop, if◌then◌else◌}
use Rattle.std.specs.Map.{keys_of}
use Rattle.script_lines.specs.declared.request.Line.{Line}
use Rattle.script_lines.specs.declared.script.Script.{Script}
use Rattle.spec_history.specs.Legal.{IsLegal}
use Rattle.spec_history.specs.Text.{answers_of}
use Rattle.spec_history.specs.declared.record.Record.{Record}
use Rattle.spec_rules.specs.Lists.{In}
use Rattle.server_host.specs.Playable.{AreOrdered}
use Rattle.spec_history.specs.Order.{AreRising, IsRecordPrefix, JoinsAnswers}
use Rattle.plain_schedule.specs.Phases.{GoesByPhases, Progress, records_of}

abbrev pub numbers : List Line → List ℕ
numbers lines = map (λ line. line.number) lines

-- how many of the first lines are of this phase
abbrev pub phase_run : ℕ → List Line → ℕ
phase_run phase [] = 0
phase_run phase (line ∷ lines) = if line.phase == phase then suc (phase_run phase lines) else 0

-- the first so many records are of the phases that have ended
abbrev pub progress_of : Script → List Record → (told phases : ℕ) → Progress
progress_of script records told phases = record { script = script; phases = phases; ended = take told records; since = drop told records }

-- the records are a legal history, of which the first so many answer exactly the first so many lines: those of the first so
-- many phases
pub record KeepsPlaces (script : Script) (records : List Record) (told place phases : ℕ) : Type 0 where
  pub legal : IsLegal script records
  pub rising : AreRising script.lines
  pub ordered : AreOrdered script.lines
  pub joins : JoinsAnswers script
  pub told_is : told ≤ length records
  pub place_is : place ≤ length script.lines
  pub answered : keys_of (answers_of (take told records)) ≡ numbers (take place script.lines)
  pub played : (line : Line) → In line (take place script.lines) → line.phase < phases
  pub to_play : (line : Line) → In line (drop place script.lines) → phases ≤ line.phase
  pub small : phases ≤ 4294967296

-- what holds at each end of a call: the script is the same, the records are by phases, and they only grow
pub record PlaysOn (old new : Progress) : Type 0 where
  pub script : new.script ≡ old.script
  pub by_phases : GoesByPhases new
  pub grows : IsRecordPrefix (records_of old) (records_of new)
