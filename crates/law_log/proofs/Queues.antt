-- What stands in a server's queue: among the jobs that a tick, or an entry, puts there no letter is; and what a tick sends of a ballot is backed.
use Rattle.law_log.proofs.Imports.{[], if◌then◌else◌, ◌&&◌, ◌++◌, ◌∷◌, ◌≡◌, Among, Cell, Collecting, Command, Idle, In, IsAskedFor, Job, JobContext, Letter}
use Rattle.law_log.proofs.Imports.{LinkRow, List, None, Option, PairState, Pending, Phase, Server, Some, State, Voter, Voting, after, ballot_posts, by_test}
use Rattle.law_log.proofs.Imports.{filter, has_majority, id_of, in-append, inl, inr, is_repaired, jobs_by, link_jobs, map, not, range_with_len, refl}
use Rattle.law_log.proofs.Imports.{repair_jobs, seated, sent, stage_jobs, start_jobs, sweep_jobs, tick_jobs, touches, touches_cell, waits_for_job, wanted_by}
use Rattle.law_log.proofs.Imports.{ℕ}
use Rattle.spec_paxos.specs.Proposer.{is_in}
use Rattle.spec_rules.specs.Posts.{Post}
use Rattle.law_log.specs.AgreedLog.{IsBacked}
use Rattle.law_log.proofs.FillJobsLeaveLog.{no_sweep}
use Rattle.law_log.proofs.ProposersInSchedule.{all_backed}
use Rattle.law_log.proofs.ScheduleTurns.{no_posts, no_letter}
use Rattle.petal_command.specs.declared.pax.Pax.TheVariants as pax
use Rattle.spec_paxos.specs.Schedule as schedule
use Rattle.spec_rules.specs.declared.job.Job.TheVariants as job

pub job_here : (x : Job) (xs : List Job) → Among x (x ∷ xs)
unfolding Among
job_here x xs = inl refl

pub job_there : (x y : Job) (xs : List Job) → Among x xs → Among x (y ∷ xs)
unfolding Among
job_there x y xs h = inr h

start_only : (phase : Phase) (wants : List Command) (letter : Letter) → Among (job.Letter letter) (start_jobs phase wants) → ⊥
unfolding Among
start_only Idle (want ∷ wants) letter (inl e) = let f : job.Letter letter ≡ job.Start = e in absurd cc
start_only Idle (want ∷ wants) letter (inr h) = h
start_only _ _ letter h = h

pub letter_is : (a b : Letter) → job.Letter a ≡ job.Letter b → a ≡ b
letter_is a b e = cc

-- ### A tick

pub ballot_backed : (p : schedule.World) (n : ℕ) (voter : Voter) (phase : Phase) → IsAskedFor p n voter.servers phase → (post : Post)
    → Among post (ballot_posts voter phase)
    → IsBacked p (λ c. ⊥) (λ said. In (sent n said) p.letters) post.body
ballot_backed p n voter Idle a post i = no_posts post i
ballot_backed p n voter (Collecting place ballot want heard best) a post i =
    all_backed p (λ c. ⊥) n (pax.Prepare place ballot) (filter (λ n. not (is_in heard n)) (range_with_len 0 voter.servers)) a post i
ballot_backed p n voter (Voting place ballot command heard) a post i =
    by_test (λ (posts : List Post). Among post posts → IsBacked p (λ c. ⊥) (λ said. In (sent n said) p.letters) post.body)
    (has_majority voter.servers heard) _ _
    (λ e i. all_backed p (λ c. ⊥) n (pax.Chosen place command) (range_with_len 0 voter.servers) (a.1 e) post i)
    (λ e i. all_backed p (λ c. ⊥) n (pax.Accept place ballot command) (filter (λ n. not (is_in heard n)) (range_with_len 0 voter.servers)) a.0 post i) i

pub no_command : {A : Type 0} (c : Command) → Among c [] → A
unfolding Among
no_command c h = absurd h

no_mend : {A : Type 0} (rows : List LinkRow) (letter : Letter) → Among (job.Letter letter) (map (λ (row : LinkRow). job.Repair (id_of row)) rows) → A
unfolding Among
no_mend [] letter h = absurd h
no_mend (row ∷ rows) letter (inl e) = let f : job.Letter letter ≡ job.Repair (id_of row) = e in absurd cc
no_mend (row ∷ rows) letter (inr h) = no_mend rows letter h

-- nor among the jobs of a tick
pub tick_only : (here : JobContext) (server : Server) (letter : Letter) → Among (job.Letter letter) (tick_jobs here server) → ⊥
tick_only here server letter h =
    elim (in-append (job.Letter letter) (start_jobs server.log.phase (wanted_by here server))
    (if seated here.state here.me here.inc then repair_jobs here server.own ++ sweep_jobs here server.own else []) h) [
      | inl start ↦ start_only server.log.phase (wanted_by here server) letter start
      | inr other ↦ by_test (λ (xs : List Job). Among (job.Letter letter) xs → ⊥) (seated here.state here.me here.inc)
          (repair_jobs here server.own ++ sweep_jobs here server.own) []
          (λ e i. elim (in-append (job.Letter letter) (repair_jobs here server.own) (sweep_jobs here server.own) i) [
            | inl mend ↦ no_mend (filter (λ row. waits_for_job here server.own row row.state) here.state.links) letter mend
            | inr sweep ↦ no_sweep here server.own letter sweep
          ])
          (λ e i. no_letter letter i) other
    ]

-- no letter is among the stages that follow an entry up
no_stage : {A : Type 0} (rows : List (Cell × Pending)) (letter : Letter) → Among (job.Letter letter) (map (λ (row : Cell × Pending). job.Stage row.0) rows) → A
unfolding Among
no_stage [] letter h = absurd h
no_stage (row ∷ rows) letter (inl e) = let f : job.Letter letter ≡ job.Stage row.0 = e in absurd cc
no_stage (row ∷ rows) letter (inr h) = no_stage rows letter h

pub stages_only : {A : Type 0} (state : State) (me : ℕ) (entry : Option Command) (own : PairState) (letter : Letter)
    → Among (job.Letter letter) (jobs_by state me entry own) → A
stages_only state me None own letter h = no_letter letter h
stages_only state me (Some entry) own letter h = elim (in-append (job.Letter letter) (stage_jobs state entry own) (link_jobs state entry me) h) [
  | inl stage ↦ no_stage (filter (λ row. touches_cell state entry row.0) own.pairs.pending) letter stage
  | inr mend ↦ no_mend (filter (λ row. touches state entry row && is_repaired (after state entry) me row row.state) (after state entry).links) letter mend
]
