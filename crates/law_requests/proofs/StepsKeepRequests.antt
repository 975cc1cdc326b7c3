-- What is known of requests is kept by each step.
use Rattle.law_requests.proofs.Imports.{◌<◌, ◌≡◌, ◌≢◌, Acted, Actor, AllMayWake, Blank, Blanks, Body, Bool, Cell, Firm, Glanced, Happens, HasProperTuples}
use Rattle.law_requests.proofs.Imports.{Heard, In, IsPrefix, Letter, Logged, Pending, Reaction, Ready, Serves, Serving, Setting, Some, State, Step, Subject}
use Rattle.law_requests.proofs.Imports.{Turned, Turns, Wanted, World, acts, ap, arith, at, blanked, cell_cmp, client_sender, false, in_later, inl, inr}
use Rattle.law_requests.proofs.Imports.{is_clients, is_notice, length, letters_of, log_rev, reacts, refl, server_state, serves_sent, stamped, stays}
use Rattle.law_requests.proofs.Imports.{subject_of, subst, sym, true, true_false, was_same, ℕ}
use Rattle.law_requests.specs.KnownRequests.{Lives, AreLives, lives_after, seen, Known, KnownLetter, PendingFor, AskingBy, KnowsReports}
use Rattle.law_requests.proofs.LeadJobsKeepRequests.{job_tells}
use Rattle.law_requests.proofs.ServerStepsKeepRequests.{IsStepped, SaysOk, Scene, WasOrNew, goes_on, opened_now, says_known, step_asking, steps}
use Rattle.law_requests.proofs.RequestsKnownLater.{Later, pending_later, tells_request, untold}
use Rattle.law_requests.proofs.IncarnationsGoOn.{Lived, done_beside, lives_still}
use Rattle.law_requests.proofs.ClientKindsKeepRequests.{turn_ok}
use Rattle.law_requests.proofs.ClientStepsKeepRequests.{TurnOk, seen_with, turn_asking, turn_later}
use Rattle.law_requests.proofs.StepsGoOnOrBoot.{blanks_step, serves_step}
use Rattle.petal_msg.specs.declared.letter.Actor.TheVariants as actor
pub use Rattle.law_steps.proofs.KindsInHistories.{proposed_pairs}

-- time goes on from this world to that one, and each server as the incarnation that it ran as last, or as a new one
pub record GoesOn (setting : Setting) (w v : World) (lives : Lives) : Type 0 where
  pub later : Later setting (seen lives w) (seen (lives_after lives v) v)
  pub steps : (n : ℕ) → Lived lives n (w.servers n) (v.servers n)
  pub opened : (n : ℕ) (cell : Cell) (op : Pending) → at cell_cmp (v.servers n).own.pairs.pending cell ≡ Some op → is_clients op.kind ≡ true
      → WasOrNew w n cell op

-- a write that was known of at an incarnation that has ended is known of later
pub ended_later : (setting : Setting) (w v : World) (lives : Lives) → AreLives w lives → GoesOn setting w v lives → (n inc : ℕ)
    (want : Wanted) (rev : ℕ) → inc < (lives_after lives v).ran n → PendingFor setting (seen lives w) n inc want rev
    → PendingFor setting (seen (lives_after lives v) v) n inc want rev
ended_later setting w v lives known on n inc want rev lt p =
    let apart : inc ≢ (lives_after lives v).ran n = λ e. omega arith in
    let same = done_beside lives w v known on.steps n inc want.client apart in
    let un = p.unfinished in
    pending_later setting (seen lives w) (seen (lives_after lives v) v) on.later n inc want rev p (omega arith)

notice_untold : (subject : Subject) → is_notice subject ≡ true → tells_request subject ≡ false
notice_untold Logged e = refl
notice_untold Glanced e = refl
notice_untold _ e = true_false e refl

module _ (scene : Scene) (ready : Ready scene.setting scene.state scene.w) (n stamp : ℕ) (what : Step) where
  open scene use {setting, w, lives}

  abbrev after : Acted → World
  after acted = (acts setting w n what stamp acted).world

  abbrev Keeps : Acted → Type 0
  Keeps acted = AskingBy setting (after acted) (lives_after lives (after acted)) × GoesOn setting w (after acted) lives

  keeps_by : (acted : Acted) → IsStepped scene n acted.server
      → ((letter : Letter) → In letter (stamped stamp acted.letters) → KnownLetter setting (seen (lives_after lives (after acted)) (after acted)) letter)
      → Keeps acted
  keeps_by acted step says = (
    step_asking scene n stamp what acted step says,
    record {
      later = goes_on scene n stamp what acted step;
      steps = steps scene n stamp what acted step;
      opened = opened_now scene n stamp what acted step;
    },
  )

  -- a job tells of requests what is known of them, and no other letter of a server tells of one
  serves_keeps : AllMayWake setting w → (acted : Acted) → Serving setting w n what acted → Keeps acted
  serves_keeps wake acted serving =
      let step = serves_step scene ready n stamp what wake acted serving in
      let later = seen (lives_after lives (after acted)) (after acted) in
      let rev : length (w.servers n).log.applied ≡ (server_state setting w n).rev = sym (log_rev setting.servers (w.servers n).log.applied) in
      keeps_by acted step (λ letter i. elim (serves_sent setting w n stamp what acted serving letter i) [
        | inl job ↦ (
            let says = (job_tells scene n job.runs job.done job.seat job.did).says job.post job.there in
            let k = says_known scene n stamp what acted step job.runs (ap (λ (a : Acted). a.server.life.inc) job.acted_is)
            (server_state setting w n).rev rev job.post.to job.post.body
            (subst (λ (a : Acted). SaysOk setting w lives n a.server.own job.post.to job.post.body) (sym job.acted_is) says) in
            subst (λ (b : Body). Known setting later letter.from letter.to letter.rev b) (sym job.body)
            (subst (λ (r : ℕ). Known setting later letter.from letter.to r job.post.body) (sym job.rev)
            (subst (λ (a : Actor). Known setting later letter.from a (server_state setting w n).rev job.post.body) (sym job.to)
            (subst (λ (a : Actor). Known setting later a job.post.to (server_state setting w n).rev job.post.body) (sym job.sent.from) k))))
        | inr apart ↦ untold setting later letter.from letter.to letter.rev letter.body (notice_untold (subject_of letter.body) apart)
      ])

  blanks_keeps : (w.servers n).life.running ≡ false → Keeps (stays (blanked (w.servers n)))
  unfolding In
  blanks_keeps asleep = keeps_by (stays (blanked (w.servers n))) (blanks_step scene ready n stamp what asleep) (λ letter i. absurd i)

turned_ok : (setting : Setting) (w : World) (lives : Lives) (firm : Firm setting w) → AskingBy setting w lives → (c : ℕ) → c < 9 → (stamp : ℕ) (in_call : Bool)
    (reacted : Reaction) → IsPrefix (w.clients c).applied reacted.client.applied → HasProperTuples setting.servers reacted.client.applied
    → Turned (Heard w (actor.Client c)) setting.servers setting.lines c (w.clients c) in_call reacted
    → TurnOk setting w lives (seen_with lives w (reacts w c stamp reacted).world.sent c reacted.client) c reacted.client reacted.posts
turned_ok setting w lives firm asking c within stamp in_call reacted grows plain turned =
    turn_ok setting w lives firm asking c within (reacts w c stamp reacted).world.sent
    (λ letter h. in_later letter (stamped stamp (letters_of (client_sender c reacted.client) 0 reacted.posts)) w.sent h)
    in_call reacted (grows, plain) turned

module _ (setting : Setting) (state : State) (w v : World) (lives : Lives) (ready : Ready setting state w) (wake : AllMayWake setting w)
    (asking : AskingBy setting w lives) (reports : KnowsReports setting w lives) (happened : Happens setting state w v) where
  abbrev scene : Scene
  scene = record {
    setting = setting;
    state = state;
    w = w;
    lives = lives;
    firm = ready.firm;
    rests = ready.rests;
    asking = asking;
    reports = reports;
  }

  keeps_on : (u : World) → Happens setting state w u → AskingBy setting u (lives_after lives u) × GoesOn setting w u lives
  keeps_on _ (Serves n stamp what acted lt member unblanked serving) = serves_keeps scene ready n stamp what wake acted serving
  keeps_on _ (Blanks n stamp lt member asleep) = blanks_keeps scene ready n stamp Blank asleep
  keeps_on _ (Turns c stamp in_call reacted lt within turned onward) =
      let turn = turned_ok setting w lives ready.firm asking c within stamp in_call reacted onward.grows onward.plain turned in (
        turn_asking scene c stamp reacted turn onward,
        record {
          later = turn_later scene c stamp reacted turn onward;
          steps = lives_still lives w asking.lived;
          opened = λ n cell op is clients. inl (was_same (w.servers n).own cell op is);
        },
      )

  pub happens_asking : AskingBy setting v (lives_after lives v)
  happens_asking = (keeps_on v happened).0

  pub happens_later : GoesOn setting w v lives
  happens_later = (keeps_on v happened).1
