-- What a call of the program has done when it ends.
use Rattle.std.specs.Prelude.{◌≡◌, ℕ, ◌+◌, true, List, [], ◌++◌, Ok, Err}
use Rattle.byte_streams.specs.Streams.{Adds}
use Rattle.script_lines.specs.declared.script.Script.{Script}
use Rattle.spec_history.specs.declared.record.Record.{Record}
use Rattle.spec_history.specs.Claims.{Keeps}
use Rattle.spec_history.specs.Legal.{IsLegal}
use Rattle.spec_history.specs.Text.{answers_of, text_of}
use Rattle.spec_history.specs.Order.{AnswersPhases, IsRecordPrefix, all_answered}
use Rattle.petal_drill.specs.Summary.{summary}
use Rattle.petal_run.specs.Asked.{Asked, Refuse, Play, Drill}
use Rattle.petal_run.specs.Statuses.{status_ended}

-- a whole run of a script: each record is a real step of its servers and clients, each line is answered, and what the plain
-- machine is told of it is a run of that machine, whose contents are those of the disk
pub record Plays (script : Script) (history : List Record) : Type 0 where
  pub legal : IsLegal script history
  pub whole : all_answered (answers_of history) script.lines ≡ true
  pub keeps : Keeps script history

-- all that was asked for is done: a refusal is written; or the script was read to its end and played, and the text of the
-- history is written; or the script of a drill was played, and the line is written that tells what the answers of the history
-- came to
abbrev pub Done : Asked → (status : ℕ) → List Record → (left old new : List ℕ) → Type 0
Done (Refuse of bytes) status history left old new = (status ≡ of) × (history ≡ []) × (new ≡ old ++ bytes)
Done (Play script) status history left old new = (status ≡ status_ended) × (left ≡ []) × Plays script history × (new ≡ old ++ text_of history)
Done (Drill seed count (Ok script)) status history left old new =
    (status ≡ status_ended) × Plays script history × (new ≡ old ++ summary seed count script.lines (answers_of history))
Done (Drill seed count (Err refusal)) status history left old new = ⊥

-- a part of what was asked for is done: some of a refusal is written; or the script was played so far, and some of the text of
-- the history is written, or of a drill's line; or a drill has no script yet
abbrev pub DoneInPart : Asked → List Record → (old new : List ℕ) → Type 0
DoneInPart (Refuse of bytes) history old new = (history ≡ []) × Adds old bytes new
DoneInPart (Play script) history old new = IsLegal script history × Keeps script history × Adds old (text_of history) new
DoneInPart (Drill seed count (Ok script)) history old new =
    IsLegal script history × Keeps script history × Adds old (summary seed count script.lines (answers_of history)) new
DoneInPart (Drill seed count (Err refusal)) history old new = (history ≡ []) × (new ≡ old)

-- the history of a script that was played answers the lines of the first so many phases, and no others; that of a drill answers
-- all lines
abbrev pub EndsWithPhase : Asked → List Record → Type 0
EndsWithPhase (Refuse of bytes) history = Unit {0}
EndsWithPhase (Play script) history = (phases : ℕ) × AnswersPhases phases script.lines history
EndsWithPhase (Drill seed count (Ok script)) history = all_answered (answers_of history) script.lines ≡ true
EndsWithPhase (Drill seed count (Err refusal)) history = ⊥

-- the history begins with the records of the first so many phases, and what is written is their text
pub record WrotePhases (script : Script) (history : List Record) (old new : List ℕ) : Type 0 where
  pub phases : ℕ
  pub ended : List Record
  pub prefix : IsRecordPrefix ended history
  pub exactly : AnswersPhases phases script.lines ended
  pub text : new ≡ old ++ text_of ended

-- nothing is written by halves: none of a refusal or of a drill's line, and of the text of a history that of whole phases
abbrev pub WrittenByPhases : Asked → List Record → (old new : List ℕ) → Type 0
WrittenByPhases (Refuse of bytes) history old new = new ≡ old
WrittenByPhases (Play script) history old new = WrotePhases script history old new
WrittenByPhases (Drill seed count script) history old new = new ≡ old

-- the history ends with this phase; the text of the phases before it is written, and then some of its own
pub record WroteInPhase (script : Script) (history : List Record) (old new : List ℕ) : Type 0 where
  pub phase : ℕ
  pub ended : List Record
  pub last : List Record
  pub history_is : history ≡ ended ++ last
  pub before : AnswersPhases phase script.lines ended
  pub whole : AnswersPhases (phase + 1) script.lines history
  pub text : Adds (old ++ text_of ended) (text_of last) new

-- all that was written before is whole: some of a refusal is written, or of a drill's line, or of the text of the last phase
abbrev pub WrittenInPhase : Asked → List Record → (old new : List ℕ) → Type 0
WrittenInPhase (Refuse of bytes) history old new = Adds old bytes new
WrittenInPhase (Play script) history old new = WroteInPhase script history old new
WrittenInPhase (Drill seed count (Ok script)) history old new = Adds old (summary seed count script.lines (answers_of history)) new
WrittenInPhase (Drill seed count (Err refusal)) history old new = ⊥
