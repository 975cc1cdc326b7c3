-- Why a client is told that its letter has another revision.
use Rattle.law_answers.specs.Imports.{In, IsMoment, Job, Letter, Record, Setting, Work, World, asked_by, is_in, rev_of, server_state, world_after}
use Rattle.std.specs.Prelude.{◌∷◌, ◌≡◌, ◌≢◌, List, Some, true, ℕ}
use Rattle.petal_msg.specs.declared.letter.Actor.TheVariants as actor
use Rattle.spec_rules.specs.declared.job.Job.TheVariants as job
use Rattle.spec_rules.specs.declared.step.WorkEnd.TheVariants as work_end

-- in this step a server that is In as itself handled a read or write of this number, which a client had sent to it at another
-- revision than the server's own, and told that client
pub record IsOtherRev (setting : Setting) (w : World) (own : Record) (letter : Letter) (seq : ℕ) : Type 0 where
  pub server : ℕ
  pub client : ℕ
  pub asked : Letter
  pub rest : List Job
  pub who : own.actor ≡ actor.Server server
  pub what : own.step ≡ Work work_end.Done
  pub next : (w.servers server).queue ≡ job.Letter asked ∷ rest
  pub sent : In asked w.sent
  pub reached : asked.to ≡ actor.Server server
  pub «from» : asked.from ≡ actor.Client client
  pub number : asked_by asked.body ≡ Some seq
  pub itself : is_in (server_state setting w server) server (w.servers server).life.inc ≡ true
  pub other : asked.rev ≢ rev_of (w.servers server).log
  pub told : letter.to ≡ actor.Client client

-- one of the records sent the letter, and was such a step
pub record HasReason (setting : Setting) (w : World) (records : List Record) (letter : Letter) (seq : ℕ) : Type 0 where
  pub moment : IsMoment records
  pub open moment use *
  pub sent : In letter own.sent
  pub so : IsOtherRev setting (world_after setting w prefix) own letter seq
