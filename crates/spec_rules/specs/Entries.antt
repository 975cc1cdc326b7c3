-- Entries of the agreed log at a server: it learns which are chosen, applies them in order, and tells others.
use Rattle.std.specs.Prelude.{ℕ, zero, suc, ◌+◌, ◌==◌, not, Bool, true, List, [], ◌∷◌, ◌++◌, filter, if◌then◌else◌, Option, Some, None, is_some}
use Rattle.petal_command.specs.Same.{same_command}
use Rattle.petal_command.specs.declared.command.Command.{Command}
use Rattle.petal_msg.specs.declared.body.Body.TheVariants as body
use Rattle.petal_msg.specs.declared.letter.Actor.{Actor}
use Rattle.petal_msg.specs.declared.letter.Letter.{Letter}
use Rattle.spec_paxos.specs.declared.phase.Phase.TheVariants.{Idle}
use Rattle.spec_paxos.specs.declared.record.StateRecord.TheVariants.{Chosen}
use Rattle.spec_rules.specs.Log.{Log, LogDone, next_place, known, commits, keeps, posts_one}
use Rattle.spec_rules.specs.declared.job.Job.{Job}
use Rattle.spec_rules.specs.declared.job.Job.TheVariants as job

-- ### Learning

-- a place that was not known, and is the next one, is now to be applied
abbrev pub applies_then : (before : Option Command) → (is_next : Bool) → List Job
applies_then None true = job.Apply ∷ []
applies_then _ _ = []

-- the command is chosen for the place
unfoldable pub learns : Log → ℕ → Command → LogDone
learns log place command = record {
  log = commits log (Chosen place command);
  posts = [];
  jobs = applies_then (known log place) (place == next_place log);
}

-- the entries of a list that are not known, each with its place; the first of the list stands at this place
abbrev pub unknown_from : Log → ℕ → List Command → List (ℕ × Command)
unknown_from log place [] = []
unknown_from log place (command ∷ commands) =
    if is_some (known log place) then unknown_from log (place + 1) commands
    else (place, command) ∷ unknown_from log (place + 1) commands

abbrev pub followed_by : LogDone → Job → LogDone
followed_by done next = record done { jobs = done.jobs ++ next ∷ [] }

-- the first of them is learnt, and the letter follows up while one is left
abbrev pub learns_first : Log → Letter → List (ℕ × Command) → LogDone
learns_first log letter [] = keeps log
learns_first log letter (first ∷ []) = learns log first.0 first.1
learns_first log letter (first ∷ next ∷ more) = followed_by (learns log first.0 first.1) (job.Letter letter)

-- one entry a job
unfoldable pub on_news : Log → Letter → ℕ → List Command → LogDone
on_news log letter after commands = learns_first log letter (unknown_from log (after + 1) commands)

-- ### Applying

-- the commands but this one
abbrev pub but : Command → List Command → List Command
but command commands = filter (λ other. not (same_command other command)) commands

-- one entry more is applied: it is no longer wanted, and the proposer starts afresh with the place after it
abbrev pub with_entry : Log → Command → Log
with_entry log entry = record log { phase = Idle; refused = 0; applied = log.applied ++ entry ∷ []; wants = but entry log.wants }

abbrev pub applies_known : Log → Option Command → LogDone
applies_known log None = keeps log
applies_known log (Some entry) =
    let later = with_entry log entry in
    record { log = later; posts = []; jobs = applies_then None (is_some (known later (next_place later))) }

-- the next entry is applied, where it is known
unfoldable pub applies : Log → LogDone
applies log = applies_known log (known log (next_place log))

-- ### Telling

abbrev pub before_known : Option Command → List Command → List Command
before_known None later = []
before_known (Some command) later = command ∷ later

-- the commands known for this place and the ones after it, up to the first that is not known, and so many at most
abbrev pub known_run : Log → ℕ → (most : ℕ) → List Command
known_run log place zero = []
known_run log place (suc most) = before_known (known log place) (known_run log (place + 1) most)

-- what follows the revision asked, perhaps nothing
unfoldable pub on_ask : Log → Actor → ℕ → LogDone
on_ask log from rev = posts_one log from (body.News rev (known_run log (rev + 1) 64))
