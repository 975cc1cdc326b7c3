-- What is known of the servers' states in one world whose log is firm, and what rests at a state rests at the later ones.
use Rattle.law_steps.proofs.Imports.{[], ◌++◌, ◌+◌, ◌<◌, ◌∙◌, ◌∷◌, ◌≡◌, ◌≤◌, Bool, Caught, Cell, Command, Firm, HasLater, HasProperTuples, HasStarted, In}
use Rattle.law_steps.proofs.Imports.{IsBelow, IsCaughtStill, IsHeldBy, IsPrefix, IsRetired, IsSteady, Job, Letter, LinkRow, List, None, Only, Option}
use Rattle.law_steps.proofs.Imports.{PairState, Pending, Setting, Some, State, Table, World, alone_not_both, alone_row, ap, arith, at, between, by_bool}
use Rattle.law_steps.proofs.Imports.{cell_cmp, cell_link, chosen_log, chosen_state, false, has_proposed, holder_is_one, holds_link, id_of, in_both, in_once}
use Rattle.law_steps.proofs.Imports.{in_up, inl, inr, is_alone_on, is_in, leads_link, length, link_named, live, log_alone, log_below, log_roles, log_steady}
use Rattle.law_steps.proofs.Imports.{max, number_itself, other_of, prefix_itself, prefix_long, prefix_more, prefix_on, prefix_plain, proposed, refl}
use Rattle.law_steps.proofs.Imports.{same_only, server_state, serves, so_alone, so_both, stage_at, state_after, subst, sym, true, true_false, ℕ}
use Rattle.law_steps.specs.DidStep.{AreQueued}
use Rattle.law_steps.specs.Ready.{IsReady, Rests}
use Rattle.law_steps.specs.Operations.{AtRest}
use Rattle.law_steps.proofs.WhoLeads.{link_alone, live_stage, stage_live}
use Rattle.law_steps.proofs.HeldBackForCaughts.{held_as_flag}

pub past_max : (clock got stamp : ℕ) → max clock got + 1 ≤ stamp → clock < stamp
past_max clock got stamp h = omega arith

pub queues_later : (w v : World) → ((letter : Letter) → In letter w.sent → In letter v.sent) → (m : ℕ) (queue : List Job) → AreQueued w m queue
    → AreQueued v m queue
queues_later w v later m queue h letter i = let known = h letter i in (later letter known.0, known.1)

-- where less is held back
pub ready_held : (state : State) (me : ℕ) (held later : Cell → Bool) (pending : Table Cell Pending)
    → ((cell : Cell) (op : Pending) → at cell_cmp pending cell ≡ Some op → live state cell ≡ true → held cell ≡ false → later cell ≡ false)
    → IsReady state me held pending → IsReady state me later pending
ready_held state me held later pending less ready = record {
  staged = λ cell op is. let s = ready.staged cell op is in
      record {
        own = s.own;
        opened = s.opened;
        keyed = s.keyed;
        born = s.born;
        leads = s.leads;
        stage = s.stage;
        unheld = λ on. less cell op is on (s.unheld on);
      };
  rising = ready.rising;
}

-- a live cell is not retired
pub not_retired : {B : Type 0} (state : State) (cell : Cell) → live state cell ≡ true → IsRetired state cell → B
not_retired state cell alive died =
    let most = (live_stage state cell alive).1 in
    let retired = died.1 in
    absurd (omega arith)

-- what a server has pending by an earlier state, and a later one by which it is In as the same incarnation, where no Caught of the server's
-- stands between them on the link of an operation
pub record LaterPending : Type 0 where
  pub servers : ℕ
  pub prefix : List Command
  pub whole : List Command
  pub plain : HasProperTuples servers whole
  pub is_prefix : IsPrefix prefix whole
  pub n : ℕ
  pub inc : ℕ
  pub held : Cell → Bool
  pub pending : Table Cell Pending
  pub before : (cell : Cell) (op : Pending) → at cell_cmp pending cell ≡ Some op → is_in (state_after servers prefix) n inc ≡ true
  pub still : (cell : Cell) (op : Pending) → at cell_cmp pending cell ≡ Some op → is_in (state_after servers whole) n inc ≡ true
  pub caught : (cell : Cell) (op : Pending) → at cell_cmp pending cell ≡ Some op → (row : LinkRow) (copied : Bool)
      → cell_link (state_after servers prefix) cell ≡ Some row → IsCaughtStill servers prefix whole cell row n copied → held cell ≡ true
  pub ready : IsReady (state_after servers prefix) n held pending

-- what rests at the earlier state rests at the later one
module _ (it : LaterPending) where
  open it use {servers, prefix, whole, plain, is_prefix, n, inc, held, pending, before, still, caught, ready}

  abbrev earlier : State
  earlier = state_after servers prefix

  abbrev later : State
  later = state_after servers whole

  was_steady : IsSteady earlier
  was_steady = log_steady servers prefix (prefix_plain servers prefix whole plain is_prefix)

  goes_forward : (cell : Cell) → stage_at earlier cell ≤ stage_at later cell
  goes_forward cell = (log_below servers prefix whole plain is_prefix).stages cell

  -- a cell that is live later was live when its operation was opened, and is so since
  was_live : (cell : Cell) (op : Pending) → at cell_cmp pending cell ≡ Some op → live later cell ≡ true → live earlier cell ≡ true
  was_live cell op is alive =
      let born = (ready.staged cell op is).born in
      let grows = goes_forward cell in
      let most = (live_stage later cell alive).1 in
      stage_live earlier cell born (omega arith)

  later_row : (cell : Cell) (row : LinkRow) → cell_link earlier cell ≡ Some row → live later cell ≡ true → HasLater earlier later cell row
  later_row cell row there alive = elim ((log_below servers prefix whole plain is_prefix).rows cell row there) [
    | inl h ↦ h
    | inr died ↦ not_retired later cell alive died
  ]

  -- who holds the link of such an operation alone goes on to
  alone_still : (cell : Cell) (op : Pending) → at cell_cmp pending cell ≡ Some op → live later cell ≡ true → (row : LinkRow) (copied : Bool)
      → cell_link earlier cell ≡ Some row → row.state ≡ Only n copied → is_alone_on later n cell ≡ true
  alone_still cell op is alive row copied there alone =
      let h = later_row cell row there alive in
      let held : IsHeldBy earlier cell n =
      record { row = row; is = there; linked = was_steady.linked cell row there; whole = copied; so = alone; up = in_up earlier n inc (before cell op is) } in
      let on = h.on n inc (holder_is_one earlier cell n held) (ap (serves n row) alone ∙ number_itself n) (before cell op is) (still cell op is) in
      elim (log_alone servers prefix whole plain is_prefix cell row h.now n copied there alone h.is) [
        | inl same ↦ so_alone later n cell h.now same.0 h.is same.1
        | inr (inl gone) ↦ true_false on (ap (serves n h.now) gone.0)
        | inr (inr found) ↦ true_false (caught cell op is row copied there found) ((ready.staged cell op is).unheld (was_live cell op is alive))
      ]

  lead_still : (cell : Cell) (op : Pending) → at cell_cmp pending cell ≡ Some op → live later cell ≡ true → leads_link later n cell ≡ true
  lead_still cell op is alive =
      elim ((log_roles servers prefix whole plain is_prefix).leads n inc cell (before cell op is) (still cell op is)
      ((ready.staged cell op is).leads (was_live cell op is alive))) [
        | inl leads ↦ leads
        | inr (inl come) ↦ (
            let one = come.second in
            let alone = come.alone in
            true_false (so_both later cell one.row one.is one.both)
            (alone_not_both later n cell (alone_still cell op is alive alone.row alone.whole alone.is alone.alone)))
        | inr (inr died) ↦ not_retired later cell alive died
      ]

  stage_still : (cell : Cell) (op : Pending) → at cell_cmp pending cell ≡ Some op → live later cell ≡ true → in_both later cell ≡ true → AtRest op.stage
  stage_still cell op is alive both =
      let s = ready.staged cell op is in
      let on = was_live cell op is alive in
      by_bool (in_both earlier cell) (λ was. s.stage on was)
      (λ apart.
      let alone = alone_row earlier n cell (link_alone earlier n cell (s.leads on) apart) in
      true_false both (alone_not_both later n cell (alone_still cell op is alive alone.row alone.whole alone.is alone.alone)))

  ready_on : IsReady later n held pending
  ready_on = record {
    staged = λ cell op is. let s = ready.staged cell op is in
        record {
          own = s.own;
          opened = s.opened;
          keyed = s.keyed;
          born = (let born = s.born in let grows = goes_forward cell in omega arith);
          leads = λ alive. lead_still cell op is alive;
          stage = λ alive both. stage_still cell op is alive both;
          unheld = λ alive. s.unheld (was_live cell op is alive);
        };
    rising = ready.rising;
  }

-- ### One world

module _ (setting : Setting) (w : World) (firm : Firm setting w) where
  pub own_plain : (n : ℕ) → HasProperTuples setting.servers (w.servers n).log.applied
  own_plain n = prefix_plain setting.servers _ _ firm.plain (firm.servers n)

  pub own_steady : (n : ℕ) → IsSteady (server_state setting w n)
  own_steady n = log_steady setting.servers _ (own_plain n)

  pub chosen_steady : IsSteady (chosen_state setting w)
  chosen_steady = log_steady setting.servers _ firm.plain

  pub own_below : (n : ℕ) → IsBelow (server_state setting w n) (chosen_state setting w)
  own_below n = log_below setting.servers _ _ firm.plain (firm.servers n)

  -- a running server that is In as itself by some entries is so by each prefix of what is chosen that goes on from them
  pub runs_at : (prefix more : List Command) → IsPrefix prefix more → IsPrefix more (chosen_log setting w) → (n : ℕ) → (w.servers n).life.running ≡ true
      → is_in (state_after setting.servers prefix) n (w.servers n).life.inc ≡ true → is_in (state_after setting.servers more) n (w.servers n).life.inc ≡ true
  runs_at prefix more one two n runs is =
      between (state_after setting.servers prefix) (state_after setting.servers more) (chosen_state setting w) n (w.servers n).life.inc
      ((log_below setting.servers prefix more (prefix_plain setting.servers _ _ firm.plain two) one).ages n)
      ((log_below setting.servers more _ firm.plain two).ages n) is (firm.runs n prefix runs (prefix_on prefix more _ one two) is)

  -- by what is chosen, where it is by its own state
  pub runs_now : (n : ℕ) → (w.servers n).life.running ≡ true → is_in (server_state setting w n) n (w.servers n).life.inc ≡ true
      → is_in (chosen_state setting w) n (w.servers n).life.inc ≡ true
  runs_now n runs is = firm.runs n (w.servers n).log.applied runs (firm.servers n) is

  -- a Caught after its own entries the server has in mind, where it is In as itself
  caught_held : (n : ℕ) (more : List Command) → IsPrefix (w.servers n).log.applied more → IsPrefix more (chosen_log setting w)
      → (w.servers n).life.running ≡ true → is_in (server_state setting w n) n (w.servers n).life.inc ≡ true → (cell : Cell) (row : LinkRow)
      → (copied : Bool) → cell_link (server_state setting w n) cell ≡ Some row
      → IsCaughtStill setting.servers (w.servers n).log.applied more cell row n copied → has_proposed (server_state setting w n) (w.servers n).own cell ≡ true
  caught_held n more on chosen runs seat cell row copied is still =
      let found = still.found in
      let acts = found.acts in
      let stands = prefix_on (found.until ++ found.entry ∷ []) more (chosen_log setting w) found.stands chosen in
      let mine : acts.holder ≡ n = same_only (sym acts.alone) in
      let until_chosen = prefix_on found.until _ _ (prefix_more found.until found.entry) stands in
      let seated_then = runs_at (w.servers n).log.applied found.until found.following until_chosen n runs seat in
      let inc_is : acts.inc ≡ (w.servers n).life.inc =
      in_once (state_after setting.servers found.until) n acts.inc (w.servers n).life.inc
      (subst (λ k. is_in (state_after setting.servers found.until) k acts.inc ≡ true) mine acts.holds) seated_then in
      let started = firm.started found.until row.map row.link acts.holder acts.inc (other_of acts.holder row) acts.other_inc
      (subst (λ (c : Command). IsPrefix (found.until ++ c ∷ []) (chosen_log setting w)) acts.is stands) in
      let mine_started = subst (λ k. HasStarted w.servers k acts.inc (length found.until) (id_of row)) mine started in
      elim mine_started [
        | inl past ↦ absurd (omega (arith, inc_is))
        | inr flag ↦ (
            let reached = flag.1.reached in
            let long = prefix_long (w.servers n).log.applied found.until found.following in
            held_as_flag (server_state setting w n) (w.servers n).own cell row is ∙ flag.1.flagged (omega arith))
      ]

  -- what rests where a server runs, rests at each prefix of what is chosen from its own entries on
  pub ready_at : Rests setting w → (n : ℕ) → (w.servers n).life.running ≡ true → (more : List Command) → IsPrefix (w.servers n).log.applied more
      → IsPrefix more (chosen_log setting w)
      → IsReady (state_after setting.servers more) n (has_proposed (server_state setting w n) (w.servers n).own) (w.servers n).own.pairs.pending
  ready_at rests n runs more on chosen =
      ready_on (record {
        servers = setting.servers;
        prefix = (w.servers n).log.applied;
        whole = more;
        plain = prefix_plain setting.servers more _ firm.plain chosen;
        is_prefix = on;
        n = n;
        inc = (w.servers n).life.inc;
        held = has_proposed (server_state setting w n) (w.servers n).own;
        pending = (w.servers n).own.pairs.pending;
        before = λ cell op is. rests.seated n cell op runs is;
        still = λ cell op is. runs_at (w.servers n).log.applied more on chosen n runs (rests.seated n cell op runs is);
        caught = λ cell op is row copied there found. caught_held n more on chosen runs (rests.seated n cell op runs is) cell row copied there found;
        ready = rests.pending n;
      })

  pub ready_chosen : Rests setting w → (n : ℕ) → (w.servers n).life.running ≡ true
      → IsReady (chosen_state setting w) n (has_proposed (server_state setting w n) (w.servers n).own) (w.servers n).own.pairs.pending
  ready_chosen rests n runs = ready_at rests n runs (chosen_log setting w) (firm.servers n) (prefix_itself (chosen_log setting w))

pub chosen_below : (setting : Setting) (w v : World) → Firm setting v → IsPrefix (chosen_log setting w) (chosen_log setting v)
    → IsBelow (chosen_state setting w) (chosen_state setting v)
chosen_below setting w v firm grows = log_below setting.servers _ _ firm.plain grows

-- ### A ballot leaves pairs and copies as they are

-- what no ballot changes of a server's own part, whatever it is of it
pub proposed_as : {X : Type 0} (of : PairState → X) → ((own : PairState) (row : LinkRow) → of (holds_link own (Some row)) ≡ of own)
    → (state : State) (own : PairState) (o : Option Command) → of (proposed state own o) ≡ of own
proposed_as of same state own (Some (Caught map link holder inc other other_inc)) = by (link_named state (record { map = map; link = link }))
  where
    by : (o : Option LinkRow) → of (holds_link own o) ≡ of own
    by None = refl
    by (Some row) = same own row
proposed_as of same state own (Some _) = refl
proposed_as of same state own None = refl

pub proposed_pairs : (state : State) (own : PairState) (o : Option Command) → (proposed state own o).pairs ≡ own.pairs
proposed_pairs state own o = proposed_as (λ (x : PairState). x.pairs) (λ own row. refl) state own o

pub proposed_copies : (state : State) (own : PairState) (o : Option Command) → (proposed state own o).copies.pending ≡ own.copies.pending
proposed_copies state own o = proposed_as (λ (x : PairState). x.copies.pending) (λ own row. refl) state own o
