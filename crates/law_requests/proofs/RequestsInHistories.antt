-- What is known of requests holds after every legal history, and the rule of requests follows.
use Rattle.law_requests.proofs.Imports.{[], ◌++◌, ◌<◌, ◌∙◌, ◌∷◌, ◌≡◌, ◌≢◌, ◌≤◌, ◌⊎◌, All, AreSteps, At, Body, Cell, Command, Finished, Firm, Happens, Hold}
use Rattle.law_requests.proofs.Imports.{In, IsLateAt, IsOver, IsPrefix, IsSound, Join, Letter, List, No, None, OneMore, Option, Pending, Ready, Record}
use Rattle.law_requests.proofs.Imports.{Requests, Rests, Script, Server, Setting, Some, State, Wanted, WasDraining, World, Writes, after, ap, arith, at}
use Rattle.law_requests.proofs.Imports.{at-empty, below_itself, both_true, by_bool, by_run, cell_cmp, chosen_below, chosen_caught_was, chosen_log}
use Rattle.law_requests.proofs.Imports.{chosen_state, done_to, false, firm_in, grown_in, happened_in, has_held_write, held, history_is_firm, in_former, inl}
use Rattle.law_requests.proofs.Imports.{inr, is_clients, is_in, is_lead, is_writes_held, join_was_wanted, length, longer, may_wake, more_of, nat_cmp}
use Rattle.law_requests.proofs.Imports.{none_before_none, none_some, one_prefix, prefix_itself, prefix_long, prefix_on, prefix_plain, prefix_same, ready_in}
use Rattle.law_requests.proofs.Imports.{refl, report_was_made, rests_in, rev_of, run_of, same_or_apart, server_state, setting_in, setting_of, split_last}
use Rattle.law_requests.proofs.Imports.{split_one, state_after, subst, sym, true, true_false, who_is_in, world_after, ℕ}
use Rattle.spec_rules.specs.World.{start}
use Rattle.spec_history.specs.Claims.{HasFinished}
use Rattle.law_requests.specs.AskedRequests.{IsOpen}
use Rattle.law_requests.specs.KnownRequests.{Lives, LedBy, lives_after, seen, done_by, WriteKnown, Known, IsUsed, Has_pending, Has_finished, asked_for}
use Rattle.law_requests.specs.KnownRequests.{AskingBy, Asking, KnowsReports}
use Rattle.law_requests.specs.OpenRequests.{AreOpen}
use Rattle.law_requests.proofs.PendingHoldsReports.{held_write}
use Rattle.law_requests.proofs.RequestsKnownLater.{one_log}
use Rattle.law_requests.proofs.IncarnationsGoOn.{IsSince, no_earlier, ran_now, since_on}
use Rattle.law_requests.proofs.OpenWhileRunning.{IsUnleft, PendingHere, RemembersCaughts, chosen_prefix, late_where, own_prefix, open_running, pending_here}
use Rattle.law_requests.proofs.OpenWhileRunning.{unleft_now}
use Rattle.law_requests.proofs.StepsKeepRequests.{GoesOn, happens_asking, happens_later}
use Rattle.law_requests.proofs.OpenAfterStop.{HadPending, HaveRun, open_in_both, open_led, open_secondary}

-- ### The start

-- each server runs as its first incarnation, which has finished nothing
abbrev pub first_lives : Lives
first_lives = record { ran = λ n. 1; done = λ n inc c. 0 }

pub start_asking : (script : Script) → AskingBy (setting_of script) (start (setting_of script)) first_lives
unfolding In
start_asking script = record {
  lived = record {
    ran = λ n on. refl;
    begun = λ n. omega arith;
    tied = λ n c. sym (none n c);
    unborn = λ n inc c lt. refl;
  };
  asked = λ c asked e. none_some refl e;
  ways = λ c asked e. none_some refl e;
  letters = λ letter h. absurd h;
  pending = λ n cell op is clients. none_some (at-empty cell_cmp cell) is;
  come = λ n cell op is clients. none_some (at-empty cell_cmp cell) is;
  finished = λ n c. let e = none n c in omega arith;
  used = λ n u. unused n u;
}
  where
    none : (n c : ℕ) → done_by ((start (setting_of script)).servers n).own c ≡ 0
    none n c = ap done_to (at-empty nat_cmp c)

    unused : {A : Type 0} (n : ℕ) → IsUsed ((start (setting_of script)).servers n).own → A
    unused n (Has_pending cell op is) = none_some (at-empty cell_cmp cell) is
    unused n (Has_finished c le) = let e = none n c in absurd (omega arith)

-- ### Worlds on the way

-- what is known of requests after these records, and of each server as it was on the way; and what a client has pending at a server that has
-- reported to a fence, on a cell of which the fence held the writes, was opened later
pub record AskingAlong (setting : Setting) (records : List Record) (w : World) : Type 0 where
  pub asks : Asking setting w
  pub first : (n : ℕ) → 1 ≤ asks.lives.ran n
  pub since : (before later : List Record) → records ≡ before ++ later → (n : ℕ)
      → IsSince ((world_after setting (start setting) before).servers n) (w.servers n) (asks.lives.ran n)
  pub drained : (n inc : ℕ) (until : List Command) → WasDraining setting records n inc until → (cell : Cell) (op : Pending)
      → at cell_cmp (w.servers n).own.pairs.pending cell ≡ Some op → is_clients op.kind ≡ true
      → is_writes_held (held (state_after setting.servers until) cell) ≡ true → length until < op.rev

since_itself : (server : Server) (last : ℕ) → (server.life.running ≡ true → server.life.inc ≤ last) → IsSince server server last
since_itself server last ran = record {
  ran = ran;
  incs = omega arith;
  grows = prefix_itself server.log.applied;
  flags = λ is same row flag. flag;
}

pub start_along : (script : Script) → AskingAlong (setting_of script) [] (start (setting_of script))
start_along script = record {
  asks = record { lives = first_lives; known = start_asking script };
  first = λ n. omega arith;
  since = λ before later is n.
      subst (λ rs. IsSince ((world_after (setting_of script) (start (setting_of script)) rs).servers n) ((start (setting_of script)).servers n) 1)
      (sym (none_before_none before later is))
      (since_itself ((start (setting_of script)).servers n) 1 (λ runs. omega arith));
  drained = λ n inc until was cell op is clients holds. none_some (at-empty cell_cmp cell) is;
}

pub start_lives : (script : Script) → (start_along script).asks.lives ≡ first_lives
unfolding start_along
start_lives script = refl

module _ (script : Script) (sound : IsSound script) where
  abbrev setting : Setting
  setting = setting_of script

  abbrev KnownAfter : List Record → Type 0
  KnownAfter records = AskingAlong setting records (At script records)

  -- of the reports that are chosen
  pub reports_known : (records : List Record) → AreSteps script records → (k : KnownAfter records)
      → KnowsReports setting (At script records) k.asks.lives
  reports_known records legal k = record {
    reached = λ n fence until stands.
        let was = report_was_made script records sound legal until n (k.asks.lives.ran n) fence stands in
        subst (λ log. IsPrefix log ((At script records).servers n).log.applied) was.at (k.since was.before (was.own ∷ was.later) was.is n).grows;
    later = λ n fence until stands cell op is clients holds.
        k.drained n (k.asks.lives.ran n) until (report_was_made script records sound legal until n (k.asks.lives.ran n) fence stands) cell op is clients holds;
  }

  -- ### One step more

  module _ (records : List Record) (own : Record) (legal : AreSteps script (records ++ own ∷ [])) (k : KnownAfter records) where
    abbrev all : List Record
    all = records ++ own ∷ []

    abbrev w : World
    w = At script records

    abbrev v : World
    v = At script all

    abbrev chosen_now : State
    chosen_now = chosen_state setting v

    abbrev it : OneMore
    it = more_of script sound records own legal

    grows : IsPrefix (chosen_log setting w) (chosen_log setting v)
    grows = grown_in it

    firm_now : Firm setting v
    firm_now = firm_in (longer it)

    ready : Ready setting chosen_now w
    ready = ready_in it.prior chosen_now (chosen_below setting w v firm_now grows)

    happened : Happens setting chosen_now w v
    happened = happened_in it chosen_now (below_itself chosen_now)

    goes : GoesOn setting w v k.asks.lives
    goes = happens_later setting chosen_now w v k.asks.lives ready (may_wake script records sound it.prior.legal) k.asks.known
        (reports_known records it.prior.legal k) happened

    asking_now : AskingBy setting v (lives_after k.asks.lives v)
    asking_now = happens_asking setting chosen_now w v k.asks.lives ready (may_wake script records sound it.prior.legal) k.asks.known
        (reports_known records it.prior.legal k) happened

    -- what is pending on a cell was not opened by entries by which a fence held its writes
    not_then : (n : ℕ) (cell : Cell) (op : Pending) → at cell_cmp (v.servers n).own.pairs.pending cell ≡ Some op → is_clients op.kind ≡ true
        → (until : List Command) → IsPrefix until (chosen_log setting v) → is_writes_held (held (state_after setting.servers until) cell) ≡ true
        → op.rev ≡ length until → ⊥
    not_then n cell op is clients until lies holds rev =
        let p = asking_now.pending n cell op is clients in
        let at = p.known.sent.at in
        let same : at.prefix ≡ until =
        one_prefix at.prefix until (chosen_log setting v) (chosen_prefix setting v firm_now op.client op.rev at) lies (at.long ∙ rev) in
        true_false holds (subst (λ log. is_writes_held (held (state_after setting.servers log) cell) ≡ false) same p.unfenced)

    -- a server that had reported before
    drained_before : (n inc : ℕ) (until : List Command) → WasDraining setting records n inc until → (cell : Cell) (op : Pending)
        → at cell_cmp (v.servers n).own.pairs.pending cell ≡ Some op → is_clients op.kind ≡ true
        → is_writes_held (held (state_after setting.servers until) cell) ≡ true → length until < op.rev
    drained_before n inc until was cell op is clients holds =
        let before = subst (λ log. IsPrefix log (w.servers n).log.applied) was.at (k.since was.before (was.own ∷ was.later) was.is n).grows in
        let le = prefix_long until (w.servers n).log.applied before in
        elim (goes.opened n cell op is clients) [
          | inl stood ↦ (
              let lt = k.drained n inc until was cell stood.was stood.is (ap is_clients stood.same.kind ∙ clients) holds in
              let rev = stood.same.rev in
              omega arith)
          | inr new ↦ elim (same_or_apart op.rev (length until)) [
            | inl same ↦ absurd (not_then n cell op is clients until
                (prefix_on until (w.servers n).log.applied _ before (prefix_on _ (chosen_log setting w) _ (ready.firm.servers n) grows)) holds same)
            | inr ne ↦ omega arith
          ]
        ]

    -- one that reported in the step before this one
    drained_last : (n : ℕ) (until : List Command) → (w.servers n).log.applied ≡ until
        → has_held_write (state_after setting.servers until) (w.servers n).own ≡ false
        → (cell : Cell) (op : Pending) → at cell_cmp (v.servers n).own.pairs.pending cell ≡ Some op → is_clients op.kind ≡ true
        → is_writes_held (held (state_after setting.servers until) cell) ≡ true → length until < op.rev
    drained_last n until here drained cell op is clients holds =
        elim (goes.opened n cell op is clients) [
          | inl stood ↦ true_false
              (held_write (state_after setting.servers until) (w.servers n).own cell stood.was stood.is (ap is_clients stood.same.kind ∙ clients) holds) drained
          | inr new ↦ absurd (not_then n cell op is clients until
              (subst (λ log. IsPrefix log (chosen_log setting v)) here (prefix_on _ (chosen_log setting w) _ (ready.firm.servers n) grows)) holds
              (new ∙ ap length here))
        ]

    drained_now : (n inc : ℕ) (until : List Command) → WasDraining setting all n inc until → (cell : Cell) (op : Pending)
        → at cell_cmp (v.servers n).own.pairs.pending cell ≡ Some op → is_clients op.kind ≡ true
        → is_writes_held (held (state_after setting.servers until) cell) ≡ true → length until < op.rev
    drained_now n inc until was cell op is clients holds = elim (split_one records own was.before was.own was.later was.is) [
      | inl last ↦ drained_last n until (subst (λ rs. ((At script rs).servers n).log.applied ≡ until) (sym last) was.at)
          (subst (λ rs. has_held_write (state_after setting.servers until) ((At script rs).servers n).own ≡ false) (sym last) was.drained) cell op is clients
          holds
      | inr more ↦ drained_before n inc until (record {
        ran = record { before = was.before; own = was.own; later = more.0; is = more.1; lives = was.lives; runs = was.runs };
        at = was.at;
        drained = was.drained;
      }) cell op is clients holds
    ]

    pub one_more : KnownAfter all
    one_more =
        let lived = k.asks.known.lived in
        record {
          asks = record { lives = lives_after k.asks.lives v; known = asking_now };
          first = λ n. let one = k.first n in let more = no_earlier k.asks.lives w v lived goes.steps n in omega arith;
          since = λ before later is n. elim (split_last records own before later is) [
            | inl whole ↦ subst (λ rs. IsSince ((At script rs).servers n) (v.servers n) ((lives_after k.asks.lives v).ran n)) (sym whole)
                (since_itself (v.servers n) ((lives_after k.asks.lives v).ran n)
                (λ runs. let now = ran_now k.asks.lives w v lived goes.steps n runs in omega arith))
            | inr more ↦
                since_on k.asks.lives w v lived goes.steps n ((At script before).servers n) (k.since before more.0 more.1 n) (goes.later.logs n)
          ];
          drained = drained_now;
        }

    -- of the incarnations after it
    pub more_lives : one_more.asks.lives ≡ lives_after k.asks.lives v
    unfolding one_more
    more_lives = refl

  -- ### What is known of incarnations

  module _ (records : List Record) (legal : AreSteps script records) (along : AskingAlong setting records (At script records)) where
    -- whoever is In by a prefix of what is chosen is so with an incarnation that ran
    pub have_run : HaveRun setting (At script records) along.asks.lives
    have_run prefix n inc lies is =
        let plain = prefix_plain setting.servers prefix _ (history_is_firm script records sound legal).plain lies in
        elim (who_is_in setting.servers prefix n inc plain is) [
          | inl one ↦ let first = along.first n in omega arith
          | inr joined ↦ (
              let there : In (Join n inc joined.0) (chosen_log setting (At script records)) =
              subst (In (Join n inc joined.0)) (sym lies.is) (in_former (Join n inc joined.0) prefix lies.later joined.1) in
              let was = join_was_wanted script records sound legal n inc joined.0 there in
              let low = (along.since was.before (was.own ∷ was.later) was.is n).ran was.runs in
              let same = was.lives in
              omega arith)
        ]

    -- the incarnation that ran last remembers each ballot that it started for a Caught, also when it has stopped
    pub remembers : (n : ℕ) → RemembersCaughts setting (At script records) n (along.asks.lives.ran n)
    remembers n prefix row other other_inc more stands =
        let own = ((At script records).servers n).log.applied in
        let was = chosen_caught_was script records sound legal prefix row.map row.link n (along.asks.lives.ran n) other other_inc stands in
        let since = along.since was.before was.later was.is n in
        let same : prefix ≡ own = one_log prefix own (subst (λ l. IsPrefix l own) was.at since.grows) more in
        since.flags was.lives (was.at ∙ same) row was.minded

-- after each legal history
pub asking_along : (script : Script) → IsSound script → (records : List Record) → AreSteps script records
    → AskingAlong (setting_of script) records (At script records)
asking_along script sound records legal =
    by_run (λ run. AskingAlong (setting_in run) run.records (after run)) (λ script sound legal. start_along script)
    (λ it known. one_more it.prior.script it.prior.sound it.prior.records it.own it.legal known) (run_of script sound records legal)

pub asking_after : (script : Script) (records : List Record) → IsSound script → AreSteps script records
    → Asking (setting_of script) (world_after (setting_of script) (start (setting_of script)) records)
asking_after script records sound legal = (asking_along script sound records legal).asks

-- ### The rule of requests

over_open : (w : World) (c seq : ℕ) → IsOver w c seq → IsOpen (w.clients c) seq → ⊥
over_open w c seq over open_now = over.answered open_now.asked open_now.is open_now.same

free_or_held : (hold : Hold) → (hold ≡ No) ⊎ (hold ≢ No)
free_or_held No = inl refl
free_or_held Writes = inr (λ e. cc)
free_or_held All = inr (λ e. cc)

has_finished : (o : Option Finished) (seq : ℕ) → seq < done_to o → HasFinished o seq
has_finished None seq lt = absurd (omega arith)
has_finished (Some last) seq lt = record { last = last; is = refl; past = omega arith }

module _ (setting : Setting) (w : World) (firm : Firm setting w) (rests : Rests setting w) (asks : Asking setting w)
    (reports : KnowsReports setting w asks.lives) where
  abbrev lives : Lives
  lives = asks.lives

  abbrev asking : AskingBy setting w lives
  asking = asks.known

  here : (n : ℕ) (cell : Cell) (op : Pending) → at cell_cmp (w.servers n).own.pairs.pending cell ≡ Some op → is_clients op.kind ≡ true
      → PendingHere setting w lives n (asked_for cell op) op.rev
  here = pending_here setting w firm lives rests asking reports

  running_open : (n : ℕ) (cell : Cell) (op : Pending) → at cell_cmp (w.servers n).own.pairs.pending cell ≡ Some op → is_clients op.kind ≡ true
      → (w.servers n).life.running ≡ true
      → IsOpen (w.clients op.client) op.seq
  running_open n cell op is clients runs =
      open_running setting w firm lives n (asked_for cell op) op.rev (here n cell op is clients) (asking.lived.ran n runs) runs

  -- a server at work at the revision of a Write letter that leads the cell is past it, or holds it back
  module _ (letter : Letter) (want : Wanted) (n : ℕ) (k : WriteKnown setting (seen lives w) want letter.rev) (over : IsOver w want.client want.seq) where
    -- where no fence holds the cell
    late_led : (w.servers n).life.running ≡ true → LedBy (server_state setting w n) n (w.servers n).life.inc want.cell → rev_of (w.servers n).log ≡ letter.rev
        → held (server_state setting w n) want.cell ≡ No → IsLateAt setting w letter want.client want.seq want.cell n
    late_led runs led rev free works at_rev = elim k.still [
      | inl open_now ↦ absurd (over_open w want.client want.seq over open_now.now)
      | inr late ↦ (
          let at = k.sent.at in
          let own = (w.servers n).log.applied in
          let ran = asking.lived.ran n runs in
          let same : own ≡ at.prefix = own_prefix setting w firm want.client n letter.rev at rev in
          let then : LedBy (state_after setting.servers at.prefix) n (w.servers n).life.inc want.cell =
          subst (λ log. LedBy (state_after setting.servers log) n (w.servers n).life.inc want.cell) same led in
          let stays : IsUnleft setting w n (w.servers n).life.inc want.cell =
          subst (λ i. IsUnleft setting w n i want.cell) ran
          (unleft_now setting w firm lives reports n want.cell (subst (λ i. LedBy (server_state setting w n) n i want.cell) (sym ran) led)
          (ap is_writes_held free)) in
          elim (late_where setting w firm lives n runs want.cell led stays at.prefix (prefix_same own at.prefix (sym same)) want.client want.seq
          (late n (w.servers n).life.inc then)) [
            | inl past ↦ (
                let tied : lives.done n (w.servers n).life.inc want.client ≡ done_by (w.servers n).own want.client =
                ap (λ i. lives.done n i want.client) (sym ran) ∙ asking.lived.tied n want.client in
                inl (has_finished _ want.seq (omega arith)))
            | inr kept ↦ inr (inr (inr kept))
          ])
    ]

    late_at : IsLateAt setting w letter want.client want.seq want.cell n
    late_at works rev = by_bool (is_lead (server_state setting w n) n want.cell)
        (λ leads. elim (free_or_held (held (server_state setting w n) want.cell)) [
          | inl free ↦ (
              let both = both_true (w.servers n).life.running (is_in (server_state setting w n) n (w.servers n).life.inc) works in
              late_led both.0 (record { seated = both.1; leads = leads }) rev free works rev)
          | inr holds ↦ inr (inr (inl holds))
        ])
        (λ none. inr (inl none))

  pub rule : Requests setting w
  rule = record {
    pending = λ n cell op runs is clients over. over_open w op.client op.seq over (running_open n cell op is clients runs);
    late = λ letter c seq epoch cell bytes sent is over n.
        let want : Wanted = record { client = c; seq = seq; cell = cell; epoch = epoch; bytes = bytes } in
        let k : WriteKnown setting (seen lives w) want letter.rev =
        subst (λ (b : Body). Known setting (seen lives w) letter.from letter.to letter.rev b) is (asking.letters letter sent) in
        late_at letter want n k over;
  }

  -- the request of a pending operation is open still
  pub are_open : HaveRun setting w lives → ((n : ℕ) → RemembersCaughts setting w n (lives.ran n)) → AreOpen setting w
  are_open run remembers = record {
    running = running_open;
    led = λ n leader cell op is clients led still no_other.
        open_led setting w firm lives run n (had n cell op is clients) leader led still no_other;
    in_both = λ n cell op is clients both.
        open_in_both setting w firm lives run n (had n cell op is clients) both;
    beside = λ n m leader cell op is clients one two led still apart.
        open_secondary setting w firm lives run n (had n cell op is clients) m leader one two led still apart;
  }
    where
      had : (n : ℕ) (cell : Cell) (op : Pending) → at cell_cmp (w.servers n).own.pairs.pending cell ≡ Some op → is_clients op.kind ≡ true
          → HadPending setting w lives n
      had n cell op is clients =
          record { want = asked_for cell op; rev = op.rev; p = here n cell op is clients; remembers = remembers n }

pub requests_after : (script : Script) (records : List Record) → IsSound script → AreSteps script records
    → Requests (setting_of script) (At script records)
requests_after script records sound legal =
    let run = run_of script sound records legal in
    let along = asking_along script sound records legal in
    rule (setting_in run) (after run) (firm_in run) (rests_in run) along.asks (reports_known script sound records legal along)

pub open_after : (script : Script) (records : List Record) → IsSound script → AreSteps script records → AreOpen (setting_of script) (At script records)
open_after script records sound legal =
    let run = run_of script sound records legal in
    let along = asking_along script sound records legal in
    are_open (setting_in run) (after run) (firm_in run) (rests_in run) along.asks (reports_known script sound records legal along)
    (have_run script sound records legal along) (remembers script sound records legal along)
