-- Why a server stops.
use Rattle.law_answers.specs.Imports.{Asked, CommitEnd, In, IsMoment, Job, Line, Record, Request, Setting, Step, Stop, StopIn, Work, World, has_full_log}
use Rattle.law_answers.specs.Imports.{has_too_many_marks, job_done, own_place, stepped, world_after}
use Rattle.std.specs.Prelude.{[], ◌++◌, ◌∷◌, ◌≡◌, Bool, List, false, true, ℕ}
use Rattle.law_answers.specs.Lines.{AsksToStop, IsLineOf}
use Rattle.petal_msg.specs.declared.letter.Actor.TheVariants as actor
use Rattle.script_lines.specs.declared.request.Request.TheVariants as request
use Rattle.spec_rules.specs.declared.step.WorkEnd.TheVariants as work_end

-- the server ran, and does not run after this step of its own
pub record Stops (setting : Setting) (w : World) (own : Record) (n : ℕ) : Type 0 where
  pub who : own.actor ≡ actor.Server n
  pub ran : (w.servers n).life.running ≡ true
  pub rests : ((stepped setting w own).world.servers n).life.running ≡ false

-- why it stops in such a step: a line of the script that the operator has open tells it to; a device failed; a device's plan stops the
-- server at a call; or what the first job of its queue leaves has more records in its state journal, or more marks on its data device, than there
-- is room for
pub data IsReasonToStop (setting : Setting) (w : World) (n : ℕ) (what : Step) : Type 0 where
  Was_told : (asked : Asked) (line : Line) → what ≡ Stop → AsksToStop line.request n → IsLineOf setting.lines w asked line
      → IsReasonToStop setting w n what
  Device_failed : (end : CommitEnd) → what ≡ Work (work_end.Fault end) → IsReasonToStop setting w n what
  Device_stopped : (end : CommitEnd) → what ≡ StopIn end → IsReasonToStop setting w n what
  Journal_full : (first : Job) (rest : List Job) → what ≡ Work work_end.Done → (w.servers n).queue ≡ first ∷ rest
      → has_full_log (job_done (own_place setting w n) (w.servers n) first rest).server ≡ true → IsReasonToStop setting w n what
  Marks_full : (first : Job) (rest : List Job) → what ≡ Work work_end.Done → (w.servers n).queue ≡ first ∷ rest
      → has_too_many_marks (job_done (own_place setting w n) (w.servers n) first rest).server ≡ true → IsReasonToStop setting w n what

-- the server does not run, and after none of the records does
abbrev pub StaysDown : Setting → World → List Record → ℕ → Type 0
StaysDown setting w [] n = (w.servers n).life.running ≡ false
StaysDown setting w (own ∷ later) n = ((w.servers n).life.running ≡ false) × StaysDown setting (stepped setting w own).world later n

-- one of the records is of a step in which the server stopped, for such a reason, and it has not run since
pub record HasReasonToStop (setting : Setting) (w : World) (records : List Record) (n : ℕ) : Type 0 where
  pub moment : IsMoment records
  pub open moment use *
  pub stops : Stops setting (world_after setting w prefix) own n
  pub why : IsReasonToStop setting (world_after setting w prefix) n own.step
  pub since : StaysDown setting (stepped setting (world_after setting w prefix) own).world following n

-- ### Where no server stops

-- the request stops a server: a stop, or a blank, which stops one that runs
abbrev pub stops_a_server : Request → Bool
stops_a_server (request.Stop server) = true
stops_a_server (request.Blank server) = true
stops_a_server _ = false

-- no line stops a server
abbrev pub NoneIsStopped : List Line → Type 0
NoneIsStopped lines = (line : Line) → In line lines → stops_a_server line.request ≡ false

-- the step is of a job, which may have met a device's fault
abbrev pub is_of_a_job : Step → Bool
is_of_a_job (Work end) = true
is_of_a_job (StopIn end) = true
is_of_a_job _ = false

-- the server stops in a job: nobody told it to
pub record StopsByItself (setting : Setting) (w : World) (own : Record) (n : ℕ) : Type 0 where
  pub stops : Stops setting w own n
  pub works : is_of_a_job own.step ≡ true

-- in none of these steps does a server stop by itself
abbrev pub NoneStopsByItself : Setting → World → List Record → Type 0
NoneStopsByItself setting w records =
    (prefix : List Record) (own : Record) (following : List Record) (n : ℕ) → records ≡ prefix ++ own ∷ following
    → StopsByItself setting (world_after setting w prefix) own n → ⊥
