-- A script that is played phase by phase.
use Rattle.std.specs.Prelude.{◌≡◌, ℕ, ◌+◌, List, [], ◌++◌}
use Rattle.petal_table.specs.Table.{Table}
use Rattle.script_lines.specs.declared.answer.Answer.{Answer}
use Rattle.script_lines.specs.declared.script.Script.{Script}
use Rattle.spec_history.specs.Legal.{IsLegal}
use Rattle.spec_history.specs.Text.{answers_of}
use Rattle.spec_history.specs.declared.record.Record.{Record}
use Rattle.spec_history.specs.Order.{AnsweredComeFirst, AnswersPhases}

-- the script, how many of its phases have ended, their records, and the records since
pub record Progress : Type 0 where
  pub script : Script
  pub phases : ℕ
  pub ended : List Record
  pub since : List Record

-- all records so far
abbrev pub records_of : Progress → List Record
records_of p = p.ended ++ p.since

-- the records are a legal history; those of the phases that have ended answer exactly the lines of these phases, which come
-- before the other lines
pub record GoesByPhases (p : Progress) : Type 0 where
  pub legal : IsLegal p.script (records_of p)
  pub exactly : AnswersPhases p.phases p.script.lines p.ended
  pub first : AnsweredComeFirst p.script.lines p.ended

-- a phase more has ended, which gave these answers
pub record Ends (old new : Progress) (answers : Table ℕ Answer) : Type 0 where
  pub phase : List Record
  pub phases : new.phases ≡ old.phases + 1
  pub ended : new.ended ≡ old.ended ++ phase
  pub since : new.since ≡ []
  pub gave : answers ≡ answers_of phase
