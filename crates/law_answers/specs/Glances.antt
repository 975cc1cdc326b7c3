-- What the answer of a line that names a server comes by: its glance.
use Rattle.law_answers.specs.Imports.{Answer, Asked, Glance, In, IsMoment, Line, Record, Request, Setting, World, world_after}
use Rattle.std.specs.Prelude.{if◌then◌else◌, ◌++◌, ◌≡◌, ◌≢◌, Bool, List, false, ℕ}
use Rattle.law_answers.specs.Lines.{IsLineOf}
use Rattle.petal_msg.specs.declared.letter.Actor.TheVariants as actor
use Rattle.script_lines.specs.declared.answer.Answer.TheVariants as answer
use Rattle.script_lines.specs.declared.request.Request.TheVariants as request

-- a stop is answered `ok`, where its server does not run; a line that arms a device `ok`; a start or a blank `ok` where its server runs,
-- and `failed` where it does not
abbrev pub Tells : Request → (running : Bool) → Answer → Type 0
Tells (request.Stop server) running given = (running ≡ false) × (given ≡ answer.Ok)
Tells (request.StopAt server at) running given = given ≡ answer.Ok
Tells (request.Fault server which kind at) running given = given ≡ answer.Ok
Tells (request.Start server) running given = given ≡ (if running then answer.Ok else answer.Failed)
Tells (request.Blank server) running given = given ≡ (if running then answer.Ok else answer.Failed)
Tells _ running given = ⊥

-- the record is of a glance at the server for this line, which the operator has open, and the answer tells whether the server runs
pub record IsGlance (setting : Setting) (w : World) (own : Record) (line : Line) (server : ℕ) (given : Answer) : Type 0 where
  pub asked : Asked
  pub opened : IsLineOf setting.lines w asked line
  pub who : own.actor ≡ actor.Server server
  pub what : own.step ≡ Glance line.number 0
  pub tells : Tells line.request (w.servers server).life.running given

-- one of the records is such a glance, and no other one is a glance for this line
pub record HasGlance (setting : Setting) (w : World) (records : List Record) (line : Line) (server : ℕ) (given : Answer) : Type 0 where
  pub moment : IsMoment records
  pub open moment use *
  pub so : IsGlance setting (world_after setting w prefix) own line server given
  pub once : (other : Record) (round : ℕ) → In other (prefix ++ following) → other.step ≢ Glance line.number round
