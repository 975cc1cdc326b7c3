-- A server remembers that a slot was wanting since a letter told it so: of its last copy, by the link's other server, which had none; or of an
-- entry that it is to move, by the new map's lead, which had none, or whose second server had none.
use Rattle.law_answers.proofs.Imports.{[], ◌++◌, ◌∙◌, ◌∷◌, ◌≡◌, ◌⊎◌, Acted, Actor, At, Blank, Body, Bool, By_ballot, By_entry, By_job, Caught, Cell, Command}
use Rattle.law_answers.proofs.Imports.{Copies, Did, Effect, Fails, Firm, Goes, Handled, HearsNone, In, Is_full, JobContext, JobResult, Letter, LinkRow, List}
use Rattle.law_answers.proofs.Imports.{May, MayActor, None, OneMore, Option, PairState, Record, Rests, Run, Server, Serving, Setting, Some, State, Stays, Step}
use Rattle.law_answers.proofs.Imports.{Wakes, Work, World, after, all_put, ap, applied, at_moment, by_run, crossed, firm_in, firm_then, follows_in, holds_link}
use Rattle.law_answers.proofs.Imports.{inl, inr, job_keeps, last_moment, link_named, longer, moment_more, own_place, own_steady, proposed, refl, rests_in}
use Rattle.law_answers.proofs.Imports.{server_serves, server_state, setting_in, settling, step, stepped_in, subst, sym, true, true_false, was_sent, ℕ}
use Rattle.law_steps.specs.DidStep.{Ends}
use Rattle.law_answers.specs.FullCauses.{By_copy, By_fill, HadNoRoom, HasFoundNone, HasJob, WasTold}
use Rattle.law_answers.proofs.Reasons.{reason_found}
use Rattle.law_answers.proofs.RefusalsHaveReasons.{was_declined}
use Rattle.law_answers.proofs.SlotLetters.{one_server}
use Rattle.petal_msg.specs.declared.body.Body.TheVariants as body
use Rattle.petal_msg.specs.declared.letter.Actor.TheVariants as actor
use Rattle.spec_rules.specs.declared.step.WorkEnd.TheVariants as work_end

-- ### What is remembered

abbrev full_of : PairState → Bool
full_of own = own.copies.full

ballot_full : (state : State) (own : PairState) (o : Option Command) → full_of (proposed state own o) ≡ full_of own
ballot_full state own (Some (Caught of link holder inc other other_inc)) = by (link_named state (record { map = of; link = link }))
  where
    by : (o : Option LinkRow) → full_of (holds_link own o) ≡ full_of own
    by None = refl
    by (Some row) = refl
ballot_full state own (Some _) = refl
ballot_full state own None = refl

module _ (heard : Body → Type 0) (here : JobContext) (own : PairState) where
  abbrev F : PairState → Type 0
  F now = full_of now ≡ true → (full_of own ≡ true) ⊎ HearsNone heard here own

  each_full : (now : PairState) (e : Effect) → May heard here own now e → F now → F (applied now e)
  each_full now (Is_full full) may so e = inr (may e)
  each_full now _ may so e = so e

  did_full : (done : JobResult) → Did heard here own done → F done.own
  did_full = job_keeps heard here own F each_full (λ e. inl e)

-- ### A step

-- the server ran as this incarnation, with what it remembers
record WasFull (w : World) (n inc : ℕ) : Type 0 where
  runs : (w.servers n).life.running ≡ true
  lives : (w.servers n).life.inc ≡ inc
  full : full_of (w.servers n).own ≡ true

-- or it hears of it in this step
record IsTold (setting : Setting) (w : World) (who : Actor) (what : Step) (n inc : ℕ) : Type 0 where
  is : who ≡ actor.Server n
  works : what ≡ Work work_end.Done
  runs : (w.servers n).life.running ≡ true
  lives : (w.servers n).life.inc ≡ inc
  told : HearsNone (Handled w n) (own_place setting w n) (w.servers n).own

abbrev HasCause : Setting → World → Actor → Step → (n : ℕ) → Server → Type 0
HasCause setting w who what n server =
    server.life.running ≡ true → full_of server.own ≡ true → WasFull w n server.life.inc ⊎ IsTold setting w who what n server.life.inc

module _ (setting : Setting) (w : World) where
  still : (who : Actor) (what : Step) (n : ℕ) → HasCause setting w who what n (w.servers n)
  still who what n runs full = inl (record { runs = runs; lives = refl; full = full })

  serves_cause : (n : ℕ) (what : Step) (acted : Acted) → Serving setting w n what acted → HasCause setting w (actor.Server n) what n acted.server
  serves_cause n what _ (Goes _ _ queue runs (By_job log done same did seat) queued (inl works)) on full =
      elim (did_full (Handled w n) (own_place setting w n) (w.servers n).own done did full) [
        | inl was ↦ still (actor.Server n) what n runs was
        | inr told ↦ inr (record { is = refl; works = works; runs = runs; lives = refl; told = told })
      ]
  serves_cause n what _ (Goes _ _ queue runs (By_job log done same did seat) queued (inr idle)) on full =
      still (actor.Server n) what n runs (sym (ap full_of idle.same) ∙ full)
  serves_cause n what _ (Goes _ _ queue runs (By_ballot log started posts same starts says) queued works) on full =
      still (actor.Server n) what n runs (sym (ballot_full (server_state setting w n) (w.servers n).own started) ∙ full)
  serves_cause n what _ (Goes _ _ queue runs (By_entry log entry plus prefix) queued works) on full =
      still (actor.Server n) what n runs
      (sym (ap (λ (c : Copies). c.full)
      (settling (own_place setting w n) entry (crossed (server_state setting w n) entry (w.servers n).own)).copies) ∙ full)
  serves_cause n what _ (Ends log done runs worked) on full = true_false on refl
  serves_cause n what _ (Stays who posts from shown) on full = still (actor.Server n) what n on full
  serves_cause n what _ (Wakes booted asleep) on full = true_false full refl
  serves_cause n what _ (Fails booted asleep) on full = true_false on asleep

  step_cause : Firm setting w → Rests setting w → (who : Actor) (what : Step) (stamp : ℕ) → MayActor who what setting w
      → Firm setting (step who what setting w stamp).world → (n : ℕ) → HasCause setting w who what n ((step who what setting w stamp).world.servers n)
  unfolding step
  step_cause firm rests (actor.Server m) Blank stamp may later =
      all_put w.servers m _ (HasCause setting w (actor.Server m) Blank) (still (actor.Server m) Blank) (λ on full. true_false on may.1.rests)
  step_cause firm rests (actor.Server m) what stamp may later =
      all_put w.servers m _ (HasCause setting w (actor.Server m) what) (still (actor.Server m) what)
      (serves_cause m what _ (server_serves setting w rests firm m (own_steady setting w firm m) stamp what refl may.1 later))
  step_cause firm rests (actor.Client c) what stamp may later = still (actor.Client c) what

-- ### Histories

-- who told a holder that its copy finds no slot
record TellsNow (setting : Setting) (w : World) (who : Actor) (what : Step) (letter : Letter) (number : ℕ) (cell : Cell) : Type 0 where
  holder : ℕ
  to : letter.to ≡ actor.Server holder
  reason : HadNoRoom setting w who what holder number cell

tells_now : (it : OneMore) (letter : Letter) (number : ℕ) (cell : Cell) → In letter it.own.sent → letter.body ≡ body.SyncFull number cell
    → TellsNow (setting_in it.prior) (after it.prior) it.own.actor it.own.step letter number cell
tells_now it letter number cell i says =
    let f = reason_found it letter (body.SyncFull number cell) i says refl in
    record {
      holder = f.reason.holder;
      to = f.reason.goes;
      reason = record { server = f.server; is = f.is; works = f.works; lacks = f.reason.lacks };
    }

-- so was the one told that handled the letter
was_told : (run : Run) (n number : ℕ) (cell : Cell) (heard : Handled (after run) n (body.SyncFull number cell))
    → WasTold (setting_in run) run.records heard.letter n number cell
was_told run n number cell heard =
    let was = was_sent run heard.letter heard.sent in
    let t = tells_now (at_moment run was.moment) heard.letter number cell was.sent heard.is in
    record {
      moment = was.moment;
      sent = was.sent;
      reason = subst (λ k. HadNoRoom (setting_in run) (At run.script was.prefix) was.own.actor was.own.step k number cell)
          (one_server (sym t.to ∙ heard.own)) t.reason;
    }

module _ (setting : Setting) where
  abbrev job_more : (records : List Record) (next : Record) (n inc : ℕ) → HasJob setting records n inc → HasJob setting (records ++ next ∷ []) n inc
  job_more records next n inc h =
      record { moment = moment_more records next h.moment; who = h.who; works = h.works; runs = h.runs; lives = h.lives }

  none_more : (records : List Record) (next : Record) (n inc : ℕ) → HasFoundNone setting records n inc → HasFoundNone setting (records ++ next ∷ []) n inc
  none_more records next n inc (By_copy h) = By_copy (record { job = job_more records next n inc h.job; full = h.full })
  none_more records next n inc (By_fill h) =
      By_fill (record { job = job_more records next n inc h.job; key = h.key; row = h.row; next = h.next; heard = h.heard; told = h.told })

-- what a server that runs and remembers so has found
abbrev FoundNone : Run → World → List Record → Type 0
FoundNone run w records = (n : ℕ) → (w.servers n).life.running ≡ true → (w.servers n).own.copies.full ≡ true
    → HasFoundNone (setting_in run) records n (w.servers n).life.inc

module _ (it : OneMore) where
  open it use {own}

  abbrev setting : Setting
  setting = setting_in it.prior

  abbrev w : World
  w = after it.prior

  abbrev all : List Record
  all = (longer it).records

  abbrev job_now : (n inc : ℕ) → IsTold setting w own.actor own.step n inc → HasJob setting all n inc
  job_now n inc t = record { moment = last_moment it.prior.records own; who = t.is; works = t.works; runs = t.runs; lives = t.lives }

  heard_now : (n inc : ℕ) → IsTold setting w own.actor own.step n inc → HasFoundNone setting all n inc
  heard_now n inc t = elim t.told [
    | inl h ↦ By_copy (record {
      job = job_now n inc t;
      full = record {
        cell = h.cell;
        copy = h.copy;
        copying = h.copying;
        trimmed = h.trimmed;
        left = h.left;
        heard = h.said;
        told = was_told it.prior n h.copy.op h.cell h.said;
      };
    })
    | inr h ↦ By_fill (record {
      job = job_now n inc t;
      key = h.key;
      row = h.row;
      next = h.next;
      heard = h.said;
      told = was_declined it.prior h.said.letter h.key h.said.sent h.said.is;
    })
  ]

  found_next : FoundNone it.prior w it.prior.records → FoundNone it.prior (after (longer it)) all
  found_next old = subst (λ v. FoundNone it.prior v all) (sym (stepped_in it)) (λ n runs full.
      elim (step_cause setting w (firm_in it.prior) (rests_in it.prior) own.actor own.step own.stamp (follows_in it).may.may (firm_then it) n runs full) [
        | inl was ↦ subst (HasFoundNone setting all n) was.lives (none_more setting it.prior.records own n (w.servers n).life.inc (old n was.runs was.full))
        | inr told ↦ heard_now n _ told
      ])

pub found_none : (run : Run) → FoundNone run (after run) run.records
found_none = by_run (λ run. FoundNone run (after run) run.records) (λ script sound legal n runs full. true_false full refl) found_next
