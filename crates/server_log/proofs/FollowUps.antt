-- The jobs that follow a job of the log up.
use Rattle.std.proofs.Common.{◌≡◌, ℕ, ◌<◌, Bool, true, false, ◌&&◌, List, [], ◌∷◌, ◌++◌, length, get_or, Option, Some, None, is_none, refl, arith}
use Rattle.petal_command.specs.declared.command.Command.{Command}
use Rattle.petal_msg.specs.declared.letter.Letter.{Letter}
use Rattle.spec_rules.specs.Entries.{applies_then, followed_by, learns, learns_first}
use Rattle.spec_rules.specs.Log.{Log}
use Rattle.spec_rules.specs.declared.job.Job.{Job}
use Rattle.spec_rules.specs.declared.job.Job.TheVariants as job
use Rattle.server_log.specs.Said.{apply_first}

pub learnt_jobs : (known : Option Command) (next : Bool) → apply_first (is_none known && next) [] ≡ applies_then known next
learnt_jobs None true = refl
learnt_jobs None false = refl
learnt_jobs (Some c) next = refl

pub then_more : (is : Bool) (jobs more : List Job) → apply_first is [] ≡ jobs → apply_first is more ≡ jobs ++ more
then_more true jobs more e = rw (← e) refl
then_more false jobs more e = rw (← e) refl

-- the first of two or more entries is learnt, and the letter follows up
pub first_of_more : (log : Log) (letter : Letter) (unknown : List (ℕ × Command)) (a b : ℕ × Command) → 1 < length unknown
    → followed_by (learns log (get_or unknown 0 a).0 (get_or unknown 0 b).1) (job.Letter letter) ≡ learns_first log letter unknown
first_of_more log letter [] a b more = absurd (omega arith)
first_of_more log letter (u ∷ []) a b more = absurd (omega arith)
first_of_more log letter (u ∷ v ∷ rest) a b more = refl
