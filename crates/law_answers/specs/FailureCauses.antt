-- Why a start or a blank fails: the boot that it gives its server.
use Rattle.law_answers.specs.Imports.{Asked, Boot, CommitEnd, IsMoment, Line, Record, Setting, Step, World, has_full_log, raised, world_after}
use Rattle.std.specs.Prelude.{◌≡◌, List, true, ℕ}
use Rattle.law_answers.specs.Lines.{AsksToBoot, IsLineOf}
use Rattle.petal_msg.specs.declared.letter.Actor.TheVariants as actor
use Rattle.spec_rules.specs.declared.step.WorkEnd.TheVariants as work_end

-- why a boot leaves the server stopped: a device failed, or the state journal has no room for the record of the next incarnation
pub data IsReasonToFail (w : World) (n : ℕ) (what : Step) : Type 0 where
  Device_failed : (end : CommitEnd) → what ≡ Boot (work_end.Fault end) → IsReasonToFail w n what
  Journal_full : what ≡ Boot work_end.Done → has_full_log (raised (w.servers n)) ≡ true → IsReasonToFail w n what

-- the line of this number starts or blanks a server, and one of the records is of the boot that it gave the server while it was open, which
-- left the server stopped for such a reason
pub record HasReasonToFail (setting : Setting) (w : World) (records : List Record) (number : ℕ) : Type 0 where
  pub moment : IsMoment records
  pub open moment use *
  pub server : ℕ
  pub asked : Asked
  pub line : Line
  pub number_is : line.number ≡ number
  pub boots : AsksToBoot line.request server
  pub given : IsLineOf setting.lines (world_after setting w prefix) asked line
  pub who : own.actor ≡ actor.Server server
  pub why : IsReasonToFail (world_after setting w prefix) server own.step
