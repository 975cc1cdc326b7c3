-- Where no server boots, each keeps its first incarnation.
use Rattle.law_log.proofs.Imports.{[], ◌∙◌, ◌∷◌, ◌≡◌, ◌≢◌, Acted, Actor, After, Boot, Deliver, Job, JobContext, List, Record, Script, Server, Setting, State}
use Rattle.law_log.proofs.Imports.{Step, StopIn, Work, WorkEnd, all_put, by_test, here_of, inl, inr, is_log_job, is_overfull, job_done, refl, server_state}
use Rattle.law_log.proofs.Imports.{server_step, setting_of, start, step, stepped, works, world_after, ℕ}
use Rattle.spec_rules.specs.Lists.{In}
use Rattle.spec_rules.specs.World.{World}
use Rattle.law_log.specs.ProposedCommands.{NoneBoots}
use Rattle.petal_msg.specs.declared.letter.Actor.TheVariants as actor
use Rattle.spec_rules.specs.declared.job.Job.TheVariants as job
use Rattle.spec_rules.specs.declared.step.WorkEnd.TheVariants as work_end

job_inc : (here : JobContext) (server : Server) (first : Job) (rest : List Job) → (job_done here server first rest).server.life.inc ≡ server.life.inc
job_inc here server (job.Letter letter) rest =
    by_test (λ (a : Acted). a.server.life.inc ≡ server.life.inc) (is_log_job (job.Letter letter)) _ _ (λ t. refl) (λ t. refl)
job_inc here server _ rest = refl

works_inc : (here : JobContext) (server : Server) (queue : List Job) → (works here server queue).server.life.inc ≡ server.life.inc
works_inc here server [] = refl
works_inc here server (first ∷ rest) =
    by_test (λ (a : Acted). a.server.life.inc ≡ server.life.inc) (is_overfull (job_done here server first rest).server) _ _
    (λ full. refl) (λ room. job_inc here server first rest)

server_inc : (what : Step) → ((end : WorkEnd) → what ≢ Boot end) → (state : State) (me : ℕ) (server : Server)
    → (server_step what state me server).server.life.inc ≡ server.life.inc
server_inc (Deliver letter) other state me server =
    by_test (λ (x : Server). x.life.inc ≡ server.life.inc) server.life.running _ _ (λ t. refl) (λ t. refl)
server_inc (Work work_end.Done) other state me server = works_inc (here_of state me server) server server.queue
server_inc (Work (work_end.Fault After)) other state me server = works_inc (here_of state me server) server server.queue
server_inc (StopIn After) other state me server = works_inc (here_of state me server) server server.queue
server_inc (Boot end) other state me server = absurd (other end refl)
server_inc _ other state me server = refl

step_inc : (setting : Setting) (w : World) (who : Actor) (what : Step) (stamp : ℕ) → ((end : WorkEnd) → what ≢ Boot end) → (n : ℕ)
    → ((step who what setting w stamp).world.servers n).life.inc ≡ (w.servers n).life.inc
unfolding step
step_inc setting w (actor.Client c) what stamp other n = refl
step_inc setting w (actor.Server m) what stamp other n =
    all_put w.servers m (server_step what (server_state setting w m) m (w.servers m)).server (λ k (x : Server). x.life.inc ≡ (w.servers k).life.inc)
    (λ k. refl) (server_inc what other (server_state setting w m) m (w.servers m)) n

records_inc : (setting : Setting) (w : World) (records : List Record) → NoneBoots records → (n : ℕ)
    → ((world_after setting w records).servers n).life.inc ≡ (w.servers n).life.inc
unfolding In
records_inc setting w [] none n = refl
records_inc setting w (own ∷ later) none n =
    records_inc setting (stepped setting w own).world later (λ other i. none other (inr i)) n
    ∙ step_inc setting w own.actor own.step own.stamp (none own (inl refl)) n

pub unbooted : (script : Script) (records : List Record) → NoneBoots records → (n : ℕ)
    → ((world_after (setting_of script) (start (setting_of script)) records).servers n).life.inc ≡ 1
unbooted script records none n = records_inc (setting_of script) (start (setting_of script)) records none n
