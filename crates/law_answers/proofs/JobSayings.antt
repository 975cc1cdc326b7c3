-- What a job of a server says of two matters: nothing of either, or that its letter had another revision; and what a tick says.
use Rattle.law_answers.proofs.Imports.{if◌then◌else◌, ◌==◌, ◌≡◌, ◌≢◌, Actor, In, IsCalm, Job, JobContext, JobResult, Letter, None, Option, PairState, Post}
use Rattle.law_answers.proofs.Imports.{Server, Some, arith, ask_logged, asked_by, at_other_rev, ballot_logged, by_test, calm_handles, calm_mends, calm_stages}
use Rattle.law_answers.proofs.Imports.{calm_sweeps, calm_where_in, dated_again, dated_copies_again, does, handles, is_from_in, is_in, nat_tests, not}
use Rattle.law_answers.proofs.Imports.{not_true, one_post, refl, repairs, silent, stages, sweeps, tick_posts, true, voter_of, was_true, wrong_rev, ℕ}
use Rattle.law_answers.proofs.LettersMuteOfRevisions.{IsMute, AreMute, M, both_mute, calm_mute, dated_mute, logged_mute, none_mute}
use Rattle.petal_msg.specs.declared.body.Body.TheVariants as body
use Rattle.petal_msg.specs.declared.letter.Actor.TheVariants as actor
use Rattle.spec_rules.specs.declared.job.Job.TheVariants as job

module _ (here : JobContext) where
  pub tick_mute : (server : Server) → AreMute (tick_posts here server)
  tick_mute server =
      both_mute _ _
      (both_mute _ _
      (both_mute _ _ (λ post h. logged_mute post.body (ballot_logged (voter_of here) server.log.phase post h))
      (λ post h. dated_mute post.body (dated_again here server.own server.own.pairs.pending post h)))
      (λ post h. dated_mute post.body (dated_copies_again here server.own post h)))
      (λ post h. logged_mute post.body (ask_logged (voter_of here) server.log post h))

  -- a job that tells of another revision
  pub record IsTold (what : Job) (post : Post) (seq : ℕ) : Type 0 where
    pub client : ℕ
    pub asked : Letter
    pub job_is : what ≡ job.Letter asked
    pub from_is : asked.from ≡ actor.Client client
    pub number : asked_by asked.body ≡ Some seq
    pub itself : is_in here.state here.me here.inc ≡ true
    pub other : asked.rev ≢ here.state.rev
    pub told : post.to ≡ actor.Client client

  -- what a job says: nothing of either, or of another revision
  pub data JobSays (what : Job) (post : Post) : Type 0 where
    Mute_post : IsMute post.body → JobSays what post
    Rev_post : (seq : ℕ) → post.body ≡ body.WrongRev seq → IsTold what post seq → JobSays what post

  abbrev W : Job → JobResult → Type 0
  W what done = (post : Post) → In post done.posts → JobSays what post

  mute_tells : (what : Job) (done : JobResult) → M done → W what done
  mute_tells what done mute post h = Mute_post (mute post h)

  rev_tells : (own : PairState) (letter : Letter) (client : ℕ) (o : Option ℕ) → is_in here.state here.me here.inc ≡ true → letter.rev ≢ here.state.rev
      → letter.from ≡ actor.Client client
      → asked_by letter.body ≡ o → W (job.Letter letter) (wrong_rev own client o)
  rev_tells own letter client None itself other from_is number post h = mute_tells (job.Letter letter) (wrong_rev own client None) none_mute post h
  rev_tells own letter client (Some k) itself other from_is number post h =
      let one = one_post (actor.Client client) (body.WrongRev k) post h in
      Rev_post k one.1 (record {
        client = client;
        asked = letter;
        job_is = refl;
        from_is = from_is;
        number = number;
        itself = itself;
        other = other;
        told = one.0;
      })

  other_tells : (own : PairState) (letter : Letter) (who : Actor) → is_in here.state here.me here.inc ≡ true → letter.rev ≢ here.state.rev → letter.from ≡ who
      → W (job.Letter letter) (at_other_rev own letter who)
  other_tells own letter (actor.Server n) itself other from_is = mute_tells (job.Letter letter) (at_other_rev own letter (actor.Server n)) none_mute
  other_tells own letter (actor.Client c) itself other from_is = rev_tells own letter c (asked_by letter.body) itself other from_is refl

  differs : (a b : ℕ) → not (a == b) ≡ true → a ≢ b
  differs a b t = grind (arith, nat_tests, not_true)

  tells_in : (own : PairState) (what : Job) (done : JobResult) → IsCalm own done → W what (if is_in here.state here.me here.inc then done else silent own)
  tells_in own what done calm =
      let found = if is_in here.state here.me here.inc then done else silent own in
      mute_tells what found (calm_mute own found (calm_where_in here own done calm))

  pub job_tells : (own : PairState) (what : Job) → W what (does here own what)
  unfolding does
  job_tells own (job.Letter letter) =
      by_test (W (job.Letter letter)) (not (is_in here.state here.me here.inc)) _ _ (λ t. mute_tells (job.Letter letter) (silent own) none_mute) (λ now.
      by_test (W (job.Letter letter)) (not (letter.rev == here.state.rev)) _ _
      (λ t. other_tells own letter letter.from (was_true (is_in here.state here.me here.inc) now) (differs letter.rev here.state.rev t) refl) (λ t.
      by_test (W (job.Letter letter)) (not (is_from_in here.state letter.inc letter.from)) _ _ (λ t. mute_tells (job.Letter letter) (silent own) none_mute)
      (λ t. mute_tells (job.Letter letter) (handles here own letter.body) (calm_mute own (handles here own letter.body) (calm_handles here own letter.body)))))
  job_tells own (job.Stage cell) = tells_in own (job.Stage cell) (stages here own cell) (calm_stages here own cell)
  job_tells own (job.Repair id) = tells_in own (job.Repair id) (repairs here own id) (calm_mends here own id)
  job_tells own job.Sweep = tells_in own job.Sweep (sweeps here own) (calm_sweeps here own)
  job_tells own job.Apply = mute_tells job.Apply (silent own) none_mute
  job_tells own job.Start = mute_tells job.Start (silent own) none_mute
