-- What a job of the log leaves, as far as it makes no call of the device.
use Rattle.std.specs.Prelude.{◌≡◌, Bool, true, false, List, [], Option, None, Some, ◌∷◌, Result, IfOk, IfErr}
use Rattle.petal_msg.specs.declared.letter.Letter.{Letter}
use Rattle.spec_paxos.specs.declared.record.StateRecord.{StateRecord}
use Rattle.spec_rules.specs.Log.{Log}
use Rattle.spec_rules.specs.Log.{LogDone as Rule}
use Rattle.spec_rules.specs.Server.{Sender, letters_of}
use Rattle.spec_rules.specs.declared.job.Job.{Job}
use Rattle.spec_rules.specs.declared.job.Job.TheVariants as job
use Rattle.paxos_core.specs.StateError.{StateError}
use Rattle.paxos_core.specs.StateError.TheVariants.{NoMemory}
use Rattle.server_log.specs.declared.memory.done.LogDone.{LogDone}
use Rattle.server_log.specs.Part.{Part, log_of, sender_of}

abbrev pub letter_again : Option Letter → List Job
letter_again None = []
letter_again (Some letter) = job.Letter letter ∷ []

-- that an entry is applied, before other jobs
abbrev pub apply_first : Bool → List Job → List Job
apply_first true jobs = job.Apply ∷ jobs
apply_first false jobs = jobs

-- the jobs that follow a job up: that an entry is applied, and a letter once more
abbrev pub follow_ups : LogDone → List Job
follow_ups done = apply_first done.apply (letter_again done.again)

-- what a job left of the log, its letters and the jobs that follow it up are what the rule says
pub record IsBy (who : Sender) (left : Log) (done : LogDone) (rule : Rule) : Type 0 where
  pub log : left ≡ rule.log
  pub letters : done.letters ≡ letters_of who 0 rule.posts
  pub jobs : follow_ups done ≡ rule.jobs

-- a job without a call of the device is the rule's; one that was refused, for memory alone, left all as it was
pub record IsLogSaid (old new : Part) (records : List StateRecord) (result : Result LogDone StateError) (rule : Rule) : Type 0 where
  pub done : IfOk result (λ done. IsBy (sender_of old) (log_of new records) done rule)
  pub voter : new.voter ≡ old.voter
  pub err : IfErr result (λ e. (e ≡ NoMemory) × (new ≡ old))
