-- Which lines a history answers, and in which order.
use Rattle.std.specs.Prelude.{◌≡◌, ◌<◌, ◌++◌, ℕ, Bool, true, false, nat_lt, List, [], ◌∷◌, is_some}
use Rattle.std.specs.List.{list_all}
use Rattle.std.specs.Ordering.{nat_cmp}
use Rattle.petal_table.specs.Table.{Table, at}
use Rattle.script_lines.specs.declared.answer.Answer.{Answer}
use Rattle.script_lines.specs.declared.request.Line.{Line}
use Rattle.script_lines.specs.declared.script.Script.{Script}
use Rattle.spec_rules.specs.Lists.{In}
use Rattle.spec_history.specs.Steps.{AreSteps}
use Rattle.spec_history.specs.Text.{answers_of}
use Rattle.spec_history.specs.declared.record.Record.{Record}

-- each line's number is below those of the lines after it
abbrev pub AreRising : List Line → Type 0
AreRising [] = Unit {0}
AreRising (line ∷ lines) = ((other : Line) → In other lines → line.number < other.number) × AreRising lines

-- the history has an answer for the line of this number
abbrev pub is_answered : List Record → ℕ → Bool
is_answered records number = is_some (at nat_cmp (answers_of records) number)

-- each of the lines has an answer
abbrev pub all_answered : Table ℕ Answer → List Line → Bool
all_answered answers lines = list_all (λ line. is_some (at nat_cmp answers line.number)) lines

-- each line that the history answers comes before each that it does not
abbrev pub AnsweredComeFirst : List Line → List Record → Type 0
AnsweredComeFirst lines records =
    (one other : Line) → In one lines → In other lines → is_answered records one.number ≡ true → is_answered records other.number ≡ false
    → one.number < other.number

-- the history answers each line of the first so many phases, and no line of a later one
abbrev pub AnswersPhases : ℕ → List Line → List Record → Type 0
AnswersPhases phases lines records = (line : Line) → In line lines → is_answered records line.number ≡ nat_lt line.phase phases

-- where a prefix of a legal history answers the first lines, the answers of the rest come after its answers
abbrev pub JoinsAnswers : Script → Type 0
JoinsAnswers script =
    (prefix suffix : List Record) → AreRising script.lines → AreSteps script (prefix ++ suffix) → AnsweredComeFirst script.lines prefix
    → answers_of (prefix ++ suffix) ≡ answers_of prefix ++ answers_of suffix

-- this is the number of a line, which the history does not answer
pub record IsOpenLine (lines : List Line) (records : List Record) (number : ℕ) : Type 0 where
  pub line : Line
  pub there : In line lines
  pub is : line.number ≡ number
  pub open_yet : is_answered records number ≡ false

-- these records stand at the front
pub record IsRecordPrefix (prefix whole : List Record) : Type 0 where
  pub following : List Record
  pub is : whole ≡ prefix ++ following
