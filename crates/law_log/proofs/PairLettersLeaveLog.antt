-- What is done with a letter of the pairs, and each stage, is calm: what it says is handled at its revision alone, it puts no letter into the queue,
-- and it forgets no Caught for which a ballot was started. A job may besides tell a client of another revision.
use Rattle.law_log.proofs.Imports.{[], if◌then◌else◌, ◌++◌, ◌==◌, Actor, Among, Body, Cell, Job, JobContext, JobResult, Letter, None, Option, PairState, Post}
use Rattle.law_log.proofs.Imports.{Some, asked_by, at_other_rev, by_test, copies_again, copy_posts, copying_on, does, fill_posts, handles, in-append, inl}
use Rattle.law_log.proofs.Imports.{inr, is_from_in, is_in, is_some, not, on_letter, only, page_posts, pending_on, refl, silent, stages, wrong_rev, ℕ}
use Rattle.law_log.proofs.CopyJobsLeaveLog.{calm_copies, calm_mends, calm_hello_ask, calm_hello, calm_trims, calm_trim, calm_sync, calm_trimmed, calm_synced}
use Rattle.law_log.proofs.CopyJobsLeaveLog.{calm_sync_full, dated_copy_posts, dated_page_posts}
use Rattle.law_log.proofs.FillJobsLeaveLog.{calm_fill_full, calm_filled, calm_sweeps, dated_fill_posts, pair_fill}
use Rattle.law_log.proofs.PairJobsLeaveLog.{IsDated, IsOther, other_dated, pair_goes, pair_read, pair_write, pair_reserve, pair_reserved, pair_pair_full}
use Rattle.law_log.proofs.PairJobsLeaveLog.{pair_replicate, pair_replicated, IsCalm, IsKept, calm_silent, kept_itself}
use Rattle.law_log.proofs.ScheduleTurns.{no_posts, no_letter}
use Rattle.petal_msg.specs.declared.body.Body.TheVariants as body
use Rattle.petal_msg.specs.declared.letter.Actor.TheVariants as actor
use Rattle.spec_rules.specs.declared.job.Job.TheVariants as job

pub calm_handles : (here : JobContext) (own : PairState) (what : Body) → IsCalm own (handles here own what)
unfolding handles
calm_handles here own (body.Read client seq cell epoch) =
    pair_read here own client seq cell epoch
calm_handles here own (body.Write client seq cell epoch bytes) = pair_write here own _
calm_handles here own (body.Reserve number cell) = pair_reserve here own number cell
calm_handles here own (body.Reserved number cell) = pair_reserved here own number cell
calm_handles here own (body.PairFull number cell) = pair_pair_full here own number cell
calm_handles here own (body.Replicate number key version origin bytes) =
    pair_replicate here own number key origin bytes
calm_handles here own (body.Replicated number cell) = pair_replicated here own number cell
calm_handles here own (body.HelloAsk map link after) = calm_hello_ask here own _ after
calm_handles here own (body.Hello map link after block) = calm_hello here own _ after block
calm_handles here own (body.Trim number cell epochs) = calm_trim here own number cell epochs
calm_handles here own (body.Trimmed number cell) = calm_trimmed here own number cell
calm_handles here own (body.Sync number key version index bytes) = calm_sync here own _
calm_handles here own (body.Synced number cell index) = calm_synced here own number cell index
calm_handles here own (body.SyncFull number cell) = calm_sync_full own number cell
calm_handles here own (body.Fill key bytes) = pair_fill here own _
calm_handles here own (body.Filled key) = calm_filled here own key
calm_handles here own (body.FillFull key) = calm_fill_full here own key
calm_handles here own _ = calm_silent own

pub calm_stages : (here : JobContext) (own : PairState) (cell : Cell) → IsCalm own (stages here own cell)
calm_stages here own cell =
    by_test (IsCalm own) (is_some (pending_on own cell)) _ _ (λ e. pair_goes here own cell)
    (λ e. by_test (IsCalm own) (is_some (copying_on own cell)) _ _ (λ f. calm_copies here own cell) (λ f. calm_trims here own cell))

-- what a job of the pairs leaves: no letter of the log was sent or queued
pub record IsHarmless (own : PairState) (done : JobResult) : Type 0 where
  pub posts : (post : Post) → Among post done.posts → IsOther post.body
  pub jobs : (letter : Letter) → Among (job.Letter letter) done.jobs → ⊥
  pub kept : IsKept own done.own

harmless : (own : PairState) (done : JobResult) → IsCalm own done → IsHarmless own done
harmless own done calm = record { posts = λ post i. other_dated post.body (calm.quiet.posts post i); jobs = calm.quiet.jobs; kept = calm.kept }

harmless_silent : (own : PairState) → IsHarmless own (silent own)
harmless_silent own = harmless own _ (calm_silent own)

harmless_wrong : (own : PairState) (client : ℕ) (o : Option ℕ) → IsHarmless own (wrong_rev own client o)
harmless_wrong own client None = harmless_silent own
harmless_wrong own client (Some seq) = record {
  posts = λ post i. only (λ (x : Post). IsOther x.body) (record { to = actor.Client client; body = body.WrongRev seq }) post i refl;
  jobs = no_letter;
  kept = kept_itself own;
}

harmless_elsewhere : (own : PairState) (letter : Letter) (who : Actor) → IsHarmless own (at_other_rev own letter who)
harmless_elsewhere own letter (actor.Server n) = harmless_silent own
harmless_elsewhere own letter (actor.Client c) = harmless_wrong own c (asked_by letter.body)

harmless_letter : (here : JobContext) (own : PairState) (letter : Letter) → IsHarmless own (on_letter here own letter)
harmless_letter here own letter =
    by_test (IsHarmless own) (not (is_in here.state here.me here.inc)) _ _ (λ e. harmless_silent own)
    (λ e. by_test (IsHarmless own) (not (letter.rev == here.state.rev)) _ _ (λ f. harmless_elsewhere own letter letter.from)
    (λ f. by_test (IsHarmless own) (not (is_from_in here.state letter.inc letter.from)) _ _ (λ g. harmless_silent own)
    (λ g. harmless own _ (calm_handles here own letter.body))))

-- where the server is In as itself
pub calm_where_in : (here : JobContext) (own : PairState) (done : JobResult) → IsCalm own done
    → IsCalm own (if is_in here.state here.me here.inc then done else silent own)
calm_where_in here own done calm = by_test (IsCalm own) (is_in here.state here.me here.inc) _ _ (λ e. calm) (λ e. calm_silent own)

pub harmless_job : (here : JobContext) (own : PairState) (what : Job) → IsHarmless own (does here own what)
unfolding does
harmless_job here own (job.Letter letter) = harmless_letter here own letter
harmless_job here own (job.Stage cell) = harmless own _ (calm_where_in here own _ (calm_stages here own cell))
harmless_job here own (job.Repair link) = harmless own _ (calm_where_in here own _ (calm_mends here own link))
harmless_job here own job.Sweep = harmless own _ (calm_where_in here own _ (calm_sweeps here own))
harmless_job here own job.Apply = harmless_silent own
harmless_job here own job.Start = harmless_silent own

-- what a tick sends for copies and fills
pub dated_copies_again : (here : JobContext) (own : PairState) (post : Post) → Among post (copies_again here own) → IsDated post.body
dated_copies_again here own post i =
    by_test (λ posts. Among post posts → IsDated post.body) (is_in here.state here.me here.inc)
    (copy_posts here own ++ page_posts here own ++ fill_posts here own) []
    (λ e j. elim (in-append post (copy_posts here own ++ page_posts here own) (fill_posts here own) j) [
      | inl former ↦ elim (in-append post (copy_posts here own) (page_posts here own) former) [
        | inl copy ↦ dated_copy_posts here own post copy
        | inr page ↦ dated_page_posts here own post page
      ]
      | inr fill ↦ dated_fill_posts here own post fill
    ])
    (λ e j. no_posts post j) i
