-- A server's step is of the agreed log, and leaves its part in the pairs and speaks of no request, or it is a boot; or it leaves
-- what its state device has, so that nothing more is chosen.
use Rattle.law_run.proofs.Imports.{[], ◌+◌, ◌∙◌, ◌∷◌, ◌≡◌, Acted, After, Before, Boot, Command, Deliver, In, Job, JobContext, Letter, List, LogDone, LogFrame}
use Rattle.law_run.proofs.Imports.{None, Option, Sender, Server, Some, State, Step, StopIn, Work, WorkEnd, ap, applied_entry, applied_none, applies, awake}
use Rattle.law_run.proofs.Imports.{ballot_store, boots, by_test, crossing, does, down_posts, entered, false, first_wanted, has_full_log, here_of, is_log_job}
use Rattle.law_run.proofs.Imports.{is_overfull, job_done, known, letter_frame_of, letters_of, log_does, next_place, no_pairs, proposed_pairs, raised, refl}
use Rattle.law_run.proofs.Imports.{rev_of, said, sender, server_step, servers_of, stamped, start_frame_of, starts, stays, stops, subject_of, voter_of, wakes}
use Rattle.law_run.proofs.Imports.{wanted_by, without_rev, worked, works, ℕ}
use Rattle.law_run.proofs.DataLetters.{downs_unended, is_reply, logged_unended}
use Rattle.petal_msg.specs.declared.letter.Actor.TheVariants as actor
use Rattle.spec_rules.specs.declared.job.Job.TheVariants as job
use Rattle.spec_rules.specs.declared.step.WorkEnd.TheVariants as work_end

-- what the step has done
pub data IsOfKind (server : Server) (acted : Acted) : Type 0 where
  Of_the_log : acted.server.own.store ≡ server.own.store → acted.server.own.pairs ≡ server.own.pairs
      → ((stamp : ℕ) (letter : Letter) → In letter (stamped stamp acted.letters) → is_reply (subject_of letter.body) ≡ false)
      → IsOfKind server acted
  Of_a_boot : acted.server.own.store.chains ≡ server.own.store.chains → acted.server.own.pairs ≡ no_pairs
      → ((stamp : ℕ) (letter : Letter) → In letter (stamped stamp acted.letters) → is_reply (subject_of letter.body) ≡ false)
      → IsOfKind server acted
  Of_the_rest : acted.server.log.records ≡ server.log.records → IsOfKind server acted

module _ (state : State) (me : ℕ) (server : Server) where
  abbrev here : JobContext
  here = here_of state me server

  abbrev K : Acted → Type 0
  K acted = IsOfKind server acted

  entered_kind : (what : Job) (rest : List Job) (done : LogDone) → LogFrame server.log what done → K (entered here server rest done)
  entered_kind what rest done frame =
      Of_the_log refl refl (λ stamp letter h. let s = said (sender here) stamp 0 done.posts letter h in
      ap (λ b. is_reply (subject_of b)) s.body ∙ logged_unended s.post.body (frame.says s.post s.there))

  applied_kind : (rest : List Job) (o : Option Command) → known server.log (next_place server.log) ≡ o → K (crossing here server rest o (applies server.log))
  applied_kind rest None none = Of_the_rest (ap (λ (d : LogDone). d.log.records) (applied_none server.log none))
  applied_kind rest (Some entry) is = Of_the_rest (applied_entry server.log entry is).records

  job_kind : (what : Job) (rest : List Job) → K (job_done here server what rest)
  job_kind (job.Letter letter) rest =
      by_test K (is_log_job (job.Letter letter)) (entered here server rest (log_does (voter_of here) server.log (job.Letter letter)))
      (worked here server rest (does here server.own (job.Letter letter)))
      (λ t. entered_kind (job.Letter letter) rest _ (letter_frame_of (voter_of here) server.log letter))
      (λ t. Of_the_rest refl)
  job_kind job.Apply rest = applied_kind rest (known server.log (next_place server.log)) refl
  job_kind job.Start rest =
      let wants = wanted_by here server in
      let first = first_wanted server.log.phase (rev_of server.log) wants in
      let done = starts (voter_of here) server.log wants in
      let frame = start_frame_of (voter_of here) server.log wants in
      Of_the_log (ballot_store here.state server.own first) (proposed_pairs here.state server.own first)
      (λ stamp letter h. let s = said (sender here) stamp 0 done.posts letter h in
      ap (λ b. is_reply (subject_of b)) s.body ∙ logged_unended s.post.body (frame.says s.post s.there))
  job_kind _ rest = Of_the_rest refl

  works_kind : (queue : List Job) → K (works here server queue)
  works_kind [] = Of_the_rest refl
  works_kind (what ∷ rest) =
      let acted = job_done here server what rest in
      by_test K (is_overfull acted.server) (stops here server) acted (λ t. Of_the_rest refl) (λ t. job_kind what rest)

  -- a server that stops tells the others, whatever it has done, and so does one that boots
  downs_quiet : (who : Sender) (stamp : ℕ) (letter : Letter) → In letter (stamped stamp (letters_of who 0 (down_posts me server.life.inc (servers_of state))))
      → is_reply (subject_of letter.body) ≡ false
  downs_quiet who stamp letter h =
      let s = said who stamp 0 (down_posts me server.life.inc (servers_of state)) letter h in
      ap (λ b. is_reply (subject_of b)) s.body ∙ downs_unended me server.life.inc (servers_of state) s.post s.there

  stopped_kind : (acted : Acted) → K acted → K (stops here acted.server)
  stopped_kind acted (Of_the_rest same) = Of_the_rest same
  stopped_kind acted (Of_a_boot chains none quiet) = Of_a_boot chains none (downs_quiet (without_rev here))
  stopped_kind acted (Of_the_log store pairs quiet) = Of_the_log store pairs (downs_quiet (without_rev here))

  boots_kind : (end : WorkEnd) → K (boots here server end)
  unfolding In
  boots_kind work_end.Done = by_test K (has_full_log (raised server)) (stays server) (wakes here (awake (raised server))) (λ t. Of_the_rest refl)
      (λ t. Of_a_boot refl refl (downs_quiet (record { from = actor.Server me; inc = server.life.inc + 1; rev = rev_of (awake (raised server)).log })))
  boots_kind (work_end.Fault Before) = Of_the_rest refl
  boots_kind (work_end.Fault After) = by_test (λ (x : Server). K (stays x)) (has_full_log (raised server)) server (raised server) (λ t. Of_the_rest refl)
      (λ t. Of_the_log refl refl (λ stamp letter h. absurd h))

  pub step_kind : (what : Step) → K (server_step what state me server)
  step_kind (Deliver letter) = by_test (λ (x : Server). K (record { server = x; letters = [] })) server.life.running _ server
      (λ t. Of_the_rest refl) (λ t. Of_the_rest refl)
  step_kind (Work work_end.Done) = works_kind server.queue
  step_kind (Work (work_end.Fault After)) = stopped_kind (works here server server.queue) (works_kind server.queue)
  step_kind (StopIn After) = stopped_kind (works here server server.queue) (works_kind server.queue)
  step_kind (Boot end) = boots_kind end
  step_kind _ = Of_the_rest refl
