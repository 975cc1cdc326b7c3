-- What is wanted, and what an idle proposer does about it.
use Rattle.std.proofs.Common.{◌≡◌, ℕ, ◌<◌, nat_lt, Bool, true, List, [], ◌∷◌, length, Option, is_some, if◌then◌else◌, refl, sym, ap, ◌∙◌, arith}
use Rattle.std.proofs.lemmas.Bool.Decides.{nat_tests}
use Rattle.std.specs.Prelude.{slice_get}
use Rattle.petal_command.specs.declared.command.Command.{Command}
use Rattle.spec_paxos.specs.declared.phase.Phase.{Phase}
use Rattle.spec_paxos.specs.declared.phase.Phase.TheVariants.{Idle}
use Rattle.spec_paxos.specs.declared.record.StateRecord.{StateRecord}
use Rattle.spec_rules.specs.Ballots.{first_wanted, greatest_place, start_jobs, wanted}
use Rattle.spec_rules.specs.declared.job.Job.TheVariants as job
use Rattle.server_log.specs.Part.{Part, log_of, next_want, wants_of}

first_is : (rev : ℕ) (wants : List Command) → rev < greatest_place → slice_get wants 0 ≡ first_wanted Idle rev wants
first_is rev [] few = refl
first_is rev (want ∷ wants) few =
    let below : nat_lt rev greatest_place ≡ true = grind (arith, nat_tests) in
    rw below refl

-- an idle proposer starts a ballot for the first command that is wanted
pub idle_want : (part : Part) (returning : List Command) → part.phase ≡ Idle → length part.applied < greatest_place → (found : Option Command)
    → ((records : List StateRecord) → found ≡ slice_get (wanted part.voter (log_of part records) returning) 0)
    → found ≡ next_want part returning
idle_want part returning idle few found is =
    is [] ∙ first_is (length part.applied) (wants_of part returning) few
    ∙ ap (λ (phase : Phase). first_wanted phase (length part.applied) (wants_of part returning)) (sym idle)

start_first : (wants : List Command) → (if is_some (slice_get wants 0) then job.Start ∷ [] else []) ≡ start_jobs Idle wants
start_first [] = refl
start_first (want ∷ wants) = refl

pub start_wanted : (part : Part) (returning : List Command) → part.phase ≡ Idle → (has : Bool)
    → ((records : List StateRecord) → has ≡ is_some (slice_get (wanted part.voter (log_of part records) returning) 0))
    → (records : List StateRecord) → (if has then job.Start ∷ [] else []) ≡ start_jobs part.phase (wanted part.voter (log_of part records) returning)
start_wanted part returning idle has is records =
    let wants = wanted part.voter (log_of part records) returning in
    ap (λ (b : Bool). if b then job.Start ∷ [] else []) (is records) ∙ start_first wants
    ∙ ap (λ (phase : Phase). start_jobs phase wants) (sym idle)
