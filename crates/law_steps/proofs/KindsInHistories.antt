-- Each step that is allowed is of one of the kinds that the relation names, and what each kind keeps holds after every history.
use Rattle.law_steps.proofs.Imports.{[], ◌++◌, ◌<◌, ◌∙◌, ◌∷◌, ◌≡◌, Acted, Actor, AreSteps, AreStepsFrom, Blank, Cell, Client, Firm, Follows, Grows}
use Rattle.law_steps.proofs.Imports.{HasProperTuples, In, IsBelow, IsPrefix, JobResult, List, Log, MayActor, MayServer, PairState, Pairs, Pending, Record}
use Rattle.law_steps.proofs.Imports.{Script, Server, Setting, Some, State, Step, World, all_put, ap, append_assoc, arith, at, at-empty, awake, below_on}
use Rattle.law_steps.proofs.Imports.{blanked, by_settled, cell_cmp, chosen_log, chosen_state, client_state, client_step, clock_of, crossed, false}
use Rattle.law_steps.proofs.Imports.{has_proposed, in_later, inl, inr, is_in, latter, log_below, next_line, none_some, prefix_plain, proposed, put_same}
use Rattle.law_steps.proofs.Imports.{raised, reacts, received, refl, server_state, server_step, setting_of, settled_by, settling, start, state_after}
use Rattle.law_steps.proofs.Imports.{state_in, stays, step, stepped, steps_begin, subst, sym, true, true_false, wakes, world_after, world_joins, ℕ}
use Rattle.spec_rules.specs.World.{acts}
use Rattle.law_steps.specs.DidStep.{Handled, AreQueued, Worked, By_job, By_ballot, By_entry, Serving, Goes, Ends, Stays, Wakes, Fails, served_so, stopped_so}
use Rattle.law_steps.specs.DidStep.{shown_so, own_place, Happens, Serves, Blanks, Turns}
use Rattle.law_steps.specs.Ready.{IsReady, IsRising, Ready, Rests, AreFirm}
use Rattle.law_steps.proofs.Subjects.{of_did, unheld_stays}
use Rattle.law_steps.proofs.TablesOfPuts.{rising_filter}
use Rattle.law_steps.proofs.WhoLeads.{led_by_link, live_stage, stage_live}
use Rattle.law_steps.specs.RestingCopies.{AreResting}
use Rattle.law_steps.proofs.CopiesRest.{ballot_rests, did_rests, resting_equal}
use Rattle.law_steps.proofs.RestAfterEntries.{log_rests, none_rest}
use Rattle.law_steps.proofs.HeldBackForCaughts.{ballot_unheld, crossed_unheld}
use Rattle.law_steps.proofs.ServerStepKinds.{is_blank, server_serves}
use Rattle.law_steps.proofs.OperationsRest.{did_ready}
use Rattle.law_steps.proofs.ClientStepKinds.{is_call, client_turns}
use Rattle.law_steps.proofs.OneWorld.{past_max, queues_later, ready_held, not_retired, proposed_copies, ready_at}
use Rattle.petal_msg.specs.declared.letter.Actor.TheVariants as actor
pub use Rattle.law_steps.proofs.OneWorld.{own_plain, own_steady, chosen_steady, own_below, runs_at, runs_now, ready_chosen, chosen_below, proposed_pairs}

-- ### One step

module _ (setting : Setting) (w : World) (rests : Rests setting w) (firm : Firm setting w) where
  -- what a running server leaves rests at the state that it leaves
  worked_ready : (n : ℕ) → (w.servers n).life.running ≡ true → (log : Log) (done : JobResult) → Worked setting w n log done
      → IsReady (state_in setting.servers log) n (has_proposed (state_in setting.servers log) done.own) done.own.pairs.pending
  worked_ready n runs _ _ (By_job log done same did seat) =
      subst (λ applied. IsReady (state_after setting.servers applied) n (has_proposed (state_after setting.servers applied) done.own) done.own.pairs.pending)
      (sym same)
      (ready_held (server_state setting w n) n _ _ done.own.pairs.pending
      (λ cell op is alive unheld. unheld_stays (Handled w n) (own_place setting w n) (w.servers n).own done did (server_state setting w n) cell unheld)
      (did_ready (Handled w n) (own_place setting w n) (w.servers n).own (rests.pending n) done did))
  worked_ready n runs _ _ (By_ballot log started posts same starts says) =
      let to = proposed (server_state setting w n) (w.servers n).own started in
      subst (λ applied. IsReady (state_after setting.servers applied) n (has_proposed (state_after setting.servers applied) to) to.pairs.pending) (sym same)
      (subst (λ (p : Pairs). IsReady (server_state setting w n) n (has_proposed (server_state setting w n) to) p.pending)
      (sym (proposed_pairs (server_state setting w n) (w.servers n).own started))
      (ready_held (server_state setting w n) n _ _ (w.servers n).own.pairs.pending
      (λ cell op is alive unheld. ballot_unheld (own_place setting w n) (w.servers n).own started starts cell op is unheld) (rests.pending n)))
  worked_ready n runs _ _ (By_entry log entry more prefix) =
      let on : IsPrefix (w.servers n).log.applied log.applied = record { later = entry ∷ []; is = more } in
      let now = state_after setting.servers log.applied in
      by_settled (λ (own : PairState). IsReady now n (has_proposed now own) own.pairs.pending) (own_place setting w n) entry
      (crossed (server_state setting w n) entry (w.servers n).own) (λ store.
      ready_held (state_after setting.servers log.applied) n _ _ (w.servers n).own.pairs.pending
      (λ cell op is alive unheld.
      let below = log_below setting.servers (w.servers n).log.applied log.applied (prefix_plain setting.servers _ _ firm.plain prefix) on in
      let s = (rests.pending n).staged cell op is in
      let grows = below.stages cell in
      let most = (live_stage now cell alive).1 in
      let row = led_by_link (server_state setting w n) n cell (s.leads (stage_live (server_state setting w n) cell s.born (omega arith))) in
      elim (below.rows cell row.0 row.1) [
        | inl h ↦ crossed_unheld (server_state setting w n) (state_after setting.servers log.applied) entry (w.servers n).own cell row.0 row.1 h unheld
        | inr died ↦ not_retired now cell alive died
      ])
      (ready_at setting w firm rests n runs log.applied on prefix))

  -- it has operations only while it is In as itself
  worked_seated : (n : ℕ) → (w.servers n).life.running ≡ true → (log : Log) (done : JobResult) → Worked setting w n log done → (cell : Cell) (op : Pending)
      → at cell_cmp done.own.pairs.pending cell ≡ Some op → is_in (state_in setting.servers log) n (w.servers n).life.inc ≡ true
  worked_seated n runs _ _ (By_job log done same did seat) cell op is =
      let now : is_in (server_state setting w n) n (w.servers n).life.inc ≡ true = elim seat [
        | inl so ↦ so
        | inr apart ↦ rests.seated n cell op runs (sym (ap (λ (o : PairState). at cell_cmp o.pairs.pending cell) apart.same) ∙ is)
      ] in
      subst (λ applied. is_in (state_after setting.servers applied) n (w.servers n).life.inc ≡ true) (sym same) now
  worked_seated n runs _ _ (By_ballot log started posts same starts says) cell op is =
      subst (λ applied. is_in (state_after setting.servers applied) n (w.servers n).life.inc ≡ true) (sym same)
      (rests.seated n cell op runs
      (sym (ap (λ (p : Pairs). at cell_cmp p.pending cell) (proposed_pairs (server_state setting w n) (w.servers n).own started)) ∙ is))
  worked_seated n runs _ _ (By_entry log entry more prefix) cell op is =
      let e = (settling (own_place setting w n) entry (crossed (server_state setting w n) entry (w.servers n).own)).pairs in
      runs_at setting w firm (w.servers n).log.applied log.applied (record { later = entry ∷ []; is = more }) prefix n runs
      (rests.seated n cell op runs (sym (ap (λ (p : Pairs). at cell_cmp p.pending cell) e) ∙ is))

  worked_copying : (n : ℕ) (log : Log) (done : JobResult) → Worked setting w n log done → IsRising cell_cmp done.own.copies.pending
  worked_copying n _ _ (By_job log done same did seat) = (of_did (Handled w n) (own_place setting w n) (w.servers n).own done did).rises (rests.copying n)
  worked_copying n _ _ (By_ballot log started posts same starts says) =
      subst (IsRising cell_cmp) (sym (proposed_copies (server_state setting w n) (w.servers n).own started)) (rests.copying n)
  worked_copying n _ _ (By_entry log entry more prefix) =
      by_settled (λ (own : PairState). IsRising cell_cmp own.copies.pending) (own_place setting w n) entry
      (crossed (server_state setting w n) entry (w.servers n).own)
      (λ store. rising_filter cell_cmp _ (w.servers n).own.copies.pending (rests.copying n))

  worked_resting : (n : ℕ) (log : Log) (done : JobResult) → Worked setting w n log done → AreResting (state_in setting.servers log) n done.own
  worked_resting n _ _ (By_job log done same did seat) =
      subst (λ applied. AreResting (state_after setting.servers applied) n done.own) (sym same)
      (did_rests (Handled w n) (own_place setting w n) (w.servers n).own done (rests.resting n) did)
  worked_resting n _ _ (By_ballot log started posts same starts says) =
      subst (λ applied. AreResting (state_after setting.servers applied) n (proposed (server_state setting w n) (w.servers n).own started)) (sym same)
      (ballot_rests (own_place setting w n) (w.servers n).own started (rests.resting n))
  worked_resting n _ _ (By_entry log entry more prefix) =
      let plain : HasProperTuples setting.servers ((w.servers n).log.applied ++ entry ∷ []) =
      subst (HasProperTuples setting.servers) more (prefix_plain setting.servers _ _ firm.plain prefix) in
      let own = crossed (server_state setting w n) entry (w.servers n).own in
      subst (λ applied. AreResting (state_after setting.servers applied) n (settled_by (own_place setting w n) entry own)) (sym more)
      (resting_equal (state_after setting.servers ((w.servers n).log.applied ++ entry ∷ [])) n own (settled_by (own_place setting w n) entry own)
      (settling (own_place setting w n) entry own).copies
      (log_rests setting.servers (w.servers n).log.applied entry plain n (w.servers n).own (rests.resting n)))

  -- the worlds that a server's step leads to
  rests_put : (n stamp : ℕ) (what : Step) (acted : Acted) → AreQueued w n acted.server.queue
      → IsReady (state_in setting.servers acted.server.log) n (has_proposed (state_in setting.servers acted.server.log) acted.server.own)
      acted.server.own.pairs.pending
      → ((cell : Cell) (op : Pending) → acted.server.life.running ≡ true → at cell_cmp acted.server.own.pairs.pending cell ≡ Some op
      → is_in (state_in setting.servers acted.server.log) n acted.server.life.inc ≡ true) → IsRising cell_cmp acted.server.own.copies.pending
      → AreResting (state_in setting.servers acted.server.log) n acted.server.own → Rests setting (acts setting w n what stamp acted).world
  rests_put n stamp what acted queued ready seated copying resting =
      let v = (acts setting w n what stamp acted).world in
      record {
        queues = all_put w.servers n acted.server (λ m (x : Server). AreQueued v m x.queue)
            (λ m. queues_later w v (λ letter. in_later letter _ w.sent) m (w.servers m).queue (rests.queues m))
            (queues_later w v (λ letter. in_later letter _ w.sent) n acted.server.queue queued);
        pending = all_put w.servers n acted.server
            (λ m (x : Server). IsReady (state_in setting.servers x.log) m (has_proposed (state_in setting.servers x.log) x.own) x.own.pairs.pending)
            rests.pending ready;
        seated = all_put w.servers n acted.server (λ m (x : Server). (cell : Cell) (op : Pending) → x.life.running ≡ true
            → at cell_cmp x.own.pairs.pending cell ≡ Some op → is_in (state_in setting.servers x.log) m x.life.inc ≡ true) rests.seated seated;
        copying = all_put w.servers n acted.server (λ m (x : Server). IsRising cell_cmp x.own.copies.pending) rests.copying copying;
        resting = all_put w.servers n acted.server (λ m (x : Server). AreResting (state_in setting.servers x.log) m x.own) rests.resting resting;
      }

  serves_rest : (n stamp : ℕ) (what : Step) (acted : Acted) → Serving setting w n what acted → Rests setting (acts setting w n what stamp acted).world
  unfolding In
  serves_rest n stamp what _ (Goes log done queue runs worked queued works) =
      rests_put n stamp what (served_so setting w n log done queue) queued (worked_ready n runs log done worked)
      (λ cell op e is. worked_seated n runs log done worked cell op is) (worked_copying n log done worked) (worked_resting n log done worked)
  serves_rest n stamp what _ (Ends log done runs worked) =
      rests_put n stamp what (stopped_so setting w n log done) (λ letter i. absurd i) (worked_ready n runs log done worked)
      (λ cell op e is. true_false e refl) (worked_copying n log done worked)
      (worked_resting n log done worked)
  serves_rest n stamp what _ (Stays who posts from shown) = rests_put n stamp what (shown_so w n who posts) (rests.queues n) (rests.pending n)
      (rests.seated n) (rests.copying n) (rests.resting n)
  serves_rest n stamp what _ (Wakes booted asleep) =
      rests_put n stamp what (wakes (own_place setting w n) (awake (raised (w.servers n)))) (λ letter i. absurd i)
      (record { staged = λ cell op is. none_some (at-empty cell_cmp cell) is; rising = tt }) (λ cell op e is. none_some (at-empty cell_cmp cell) is) tt
      (none_rest _ n _ refl)
  serves_rest n stamp what _ (Fails booted asleep) =
      rests_put n stamp what (stays (raised (w.servers n))) (rests.queues n) (rests.pending n) (λ cell op e is. true_false e asleep) (rests.copying n)
      (rests.resting n)

  -- a blank device leaves pairs and copies as they are
  blank_rests : (n stamp : ℕ) → (w.servers n).life.running ≡ false → Rests setting (acts setting w n Blank stamp (stays (blanked (w.servers n)))).world
  blank_rests n stamp asleep =
      rests_put n stamp Blank (stays (blanked (w.servers n))) (rests.queues n) (rests.pending n) (λ cell op e is. true_false e asleep) (rests.copying n)
      (resting_equal (server_state setting w n) n (w.servers n).own (blanked (w.servers n)).own refl (rests.resting n))

  serves_by : (n stamp : ℕ) (what : Step) → is_blank what ≡ false → MayServer what setting w n
      → Firm setting (acts setting w n what stamp (server_step what (server_state setting w n) n (w.servers n))).world
      → Serving setting w n what (server_step what (server_state setting w n) n (w.servers n))
  serves_by n stamp what other may later = server_serves setting w rests firm n (own_steady setting w firm n) stamp what other may later

  rests_by : (who : Actor) (what : Step) (stamp : ℕ) → MayActor who what setting w → Firm setting (step who what setting w stamp).world
      → Rests setting (step who what setting w stamp).world
  unfolding step
  rests_by (actor.Server n) Blank stamp may later = blank_rests n stamp may.1.rests
  rests_by (actor.Server n) what stamp may later = serves_rest n stamp what _ (serves_by n stamp what refl may.1 later)
  rests_by (actor.Client c) what stamp may later = record {
    queues = λ m letter i. let known = rests.queues m letter i in (in_later letter _ w.sent known.0, known.1);
    pending = rests.pending;
    seated = rests.seated;
    copying = rests.copying;
    resting = rests.resting;
  }

  happens_by : (who : Actor) (what : Step) (stamp : ℕ) → MayActor who what setting w → clock_of w who < stamp
      → Firm setting (step who what setting w stamp).world
      → (state : State) → IsBelow (chosen_state setting (step who what setting w stamp).world) state
      → Happens setting state w (step who what setting w stamp).world
  unfolding step
  happens_by (actor.Server n) Blank stamp may lt later state below = Blanks n stamp lt may.0 may.1.rests
  happens_by (actor.Server n) what stamp may lt later state below = Serves n stamp what _ lt may.0 refl (serves_by n stamp what refl may.1 later)
  happens_by (actor.Client c) what stamp may lt later state below =
      let reacted = client_step what (client_state setting w c) c (w.clients c) (next_line setting.lines c (w.clients c)) in
      let v = (reacts w c stamp reacted).world in
      let t = client_turns setting w c what may.1 in
      let is : v.clients c ≡ reacted.client = put_same w.clients c reacted.client in
      let prefix : IsPrefix reacted.client.applied (chosen_log setting v) =
      subst (λ (x : Client). IsPrefix x.applied (chosen_log setting v)) is (later.clients c) in
      Turns c stamp (is_call what) reacted lt may.0 t.turned (record {
        grows = t.grows;
        plain = prefix_plain setting.servers _ _ later.plain prefix;
        below = below_on _ _ _ (log_below setting.servers _ _ later.plain prefix) below;
      })

module _ (setting : Setting) (w : World) (own : Record) (rests : Rests setting w) (firm : Firm setting w) (follows : Follows setting w own)
    (later : Firm setting (stepped setting w own).world) where
  -- what rests is kept
  pub rests_next : Rests setting (stepped setting w own).world
  rests_next = rests_by setting w rests firm own.actor own.step own.stamp follows.may.may later

  -- a record of a legal history tells of a step of one of these kinds
  pub happens : (state : State) → IsBelow (chosen_state setting (stepped setting w own).world) state → Happens setting state w (stepped setting w own).world
  happens = happens_by setting w rests firm own.actor own.step own.stamp follows.may.may
      (past_max (clock_of w own.actor) (received own.step) own.stamp follows.stamp) later

-- ### Histories

pub firm_now : (setting : Setting) (w : World) (records : List Record) → AreFirm setting w records → Firm setting w
firm_now setting w [] firm = firm
firm_now setting w (own ∷ later) firm = firm.0

module _ (setting : Setting) where
  pub rests_after : (w : World) (records : List Record) → AreFirm setting w records → Rests setting w → AreStepsFrom setting w records
      → Rests setting (world_after setting w records)
  rests_after w [] firm rests legal = rests
  rests_after w (own ∷ later) firm rests legal =
      let v = (stepped setting w own).world in
      rests_after v later firm.2 (rests_next setting w own rests firm.0 legal.0 (firm_now setting v later firm.2)) legal.1

  pub firm_after : (w : World) (records : List Record) → AreFirm setting w records → Firm setting (world_after setting w records)
  firm_after w [] firm = firm
  firm_after w (own ∷ later) firm = firm_after (stepped setting w own).world later firm.2

  -- the parts of a history
  pub prefix_legal : (w : World) (prefix following : List Record) → AreStepsFrom setting w (prefix ++ following)
      → AreStepsFrom setting w prefix × AreStepsFrom setting (world_after setting w prefix) following
  prefix_legal w prefix following legal = (steps_begin setting w prefix following legal, latter setting w prefix following legal)

  pub prefix_firm : (w : World) (prefix following : List Record) → AreFirm setting w (prefix ++ following)
      → AreFirm setting w prefix × AreFirm setting (world_after setting w prefix) following
  prefix_firm w [] following firm = (firm_now setting w following firm, firm)
  prefix_firm w (own ∷ prefix) following firm =
      let rest = prefix_firm (stepped setting w own).world prefix following firm.2 in ((firm.0, firm.1, rest.0), rest.1)

  pub world_more : (w : World) (done : List Record) (own : Record)
      → world_after setting w (done ++ own ∷ []) ≡ (stepped setting (world_after setting w done) own).world
  world_more w done own = world_joins setting w done (own ∷ [])

-- ### From the start

pub start_rests : (script : Script) → Rests (setting_of script) (start (setting_of script))
unfolding In
start_rests script = record {
  queues = λ n letter h. absurd h;
  pending = λ n. record { staged = λ cell op is. none_some (at-empty cell_cmp cell) is; rising = tt };
  seated = λ n cell op e is. none_some (at-empty cell_cmp cell) is;
  copying = λ n. tt;
  resting = λ n. none_rest (server_state (setting_of script) (start (setting_of script)) n) n _ refl;
}

-- where each legal history is firm and its log only grows, each world on its way is
pub firm_way : (script : Script)
    → ((records : List Record) → AreSteps script records → Firm (setting_of script) (world_after (setting_of script) (start (setting_of script)) records))
    → ((records : List Record) → AreSteps script records → Grows script records)
    → (records : List Record) → AreSteps script records → AreFirm (setting_of script) (start (setting_of script)) records
firm_way script firm grows records legal = by [] records legal
  where
    by : (prefix later : List Record) → AreSteps script (prefix ++ later)
        → AreFirm (setting_of script) (world_after (setting_of script) (start (setting_of script)) prefix) later
    by prefix [] legal = firm prefix (prefix_legal (setting_of script) (start (setting_of script)) prefix [] legal).0
    by prefix (own ∷ later) legal =
        let setting = setting_of script in
        let w = world_after setting (start setting) prefix in
        let e = world_more setting (start setting) prefix own in
        let whole : AreSteps script ((prefix ++ own ∷ []) ++ later) = subst (AreSteps script) (sym (append_assoc prefix (own ∷ []) later)) legal in
        let part = (prefix_legal setting (start setting) (prefix ++ own ∷ []) later whole).0 in (
          firm prefix (prefix_legal setting (start setting) prefix (own ∷ later) legal).0,
          subst (λ v. IsPrefix (chosen_log setting w) (chosen_log setting v)) e (grows (prefix ++ own ∷ []) part prefix (own ∷ []) refl),
          subst (λ v. AreFirm setting v later) e (by (prefix ++ own ∷ []) later whole),
        )

pub ready_after : (script : Script) (records : List Record) → AreFirm (setting_of script) (start (setting_of script)) records → AreSteps script records
    → (state : State) → IsBelow (chosen_state (setting_of script) (world_after (setting_of script) (start (setting_of script)) records)) state
    → Ready (setting_of script) state (world_after (setting_of script) (start (setting_of script)) records)
ready_after script records firm legal state below =
    let setting = setting_of script in
    record {
      rests = rests_after setting (start setting) records firm (start_rests script) legal;
      firm = firm_after setting (start setting) records firm;
      below = below;
    }

-- the last step of a history is of a kind, at each state from the chosen one on
pub last_happens : (script : Script) (prefix : List Record) (own : Record) → AreFirm (setting_of script) (start (setting_of script)) (prefix ++ own ∷ [])
    → AreSteps script (prefix ++ own ∷ []) → (state : State)
    → IsBelow (chosen_state (setting_of script) (world_after (setting_of script) (start (setting_of script)) (prefix ++ own ∷ []))) state
    → Happens (setting_of script) state (world_after (setting_of script) (start (setting_of script)) prefix)
    (world_after (setting_of script) (start (setting_of script)) (prefix ++ own ∷ []))
last_happens script prefix own firm legal state =
    let setting = setting_of script in
    let w = world_after setting (start setting) prefix in
    let firms = prefix_firm setting (start setting) prefix (own ∷ []) firm in
    let parts = prefix_legal setting (start setting) prefix (own ∷ []) legal in
    let rests = rests_after setting (start setting) prefix firms.0 (start_rests script) parts.0 in
    subst (λ v. IsBelow (chosen_state setting v) state → Happens setting state w v) (sym (world_more setting (start setting) prefix own))
    (happens setting w own rests firms.1.0 parts.1.0 firms.1.2 state)
