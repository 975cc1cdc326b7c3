-- A client's write that is under way is in time: had the era of its cell risen, its server would have reported before, with no such write
-- under way.
use Rattle.law_epochs.proofs.Imports.{[], ◌++◌, ◌<◌, ◌∙◌, ◌∷◌, ◌≡◌, ◌⊎◌, AreSteps, At, Cell, Command, Drained, Firm, HasProperTuples, IsPrefix, IsSound, List}
use Rattle.law_epochs.proofs.Imports.{Pending, Record, Script, Setting, Some, WasDraining, World, arith, at, cell_cmp, chosen_log, chosen_prefix, era_at}
use Rattle.law_epochs.proofs.Imports.{false, held, history_is_firm, inl, inr, is_clients, is_in, is_writes_held, leads_link, length, log_epochs, log_unheld}
use Rattle.law_epochs.proofs.Imports.{one_prefix, prefix_itself, prefix_long, prefix_more, prefix_on, prefix_plain, report_was_made, runs_now, same_or_apart}
use Rattle.law_epochs.proofs.Imports.{server_state, setting_of, stage_facts, state_after, subst, sym, true, ℕ}
use Rattle.law_epochs.specs.InTime.{IsTimely}
use Rattle.law_epochs.proofs.ReportedHaveNoPending.{asking, resting}
use Rattle.law_epochs.proofs.InTimeStays.{on_time}

-- a write that a server opened by these entries: they are chosen, the server was In and led the cell, no fence held the cell's writes, and the
-- write was in time
pub record IsOpened (script : Script) (chosen : List Command) (n inc : ℕ) (cell : Cell) (op : Pending) : Type 0 where
  pub opened : List Command
  pub lies : IsPrefix opened chosen
  pub long : length opened ≡ op.rev
  pub seated : is_in (state_after script.servers opened) n inc ≡ true
  pub unfenced : is_writes_held (held (state_after script.servers opened) cell) ≡ false
  pub leads : leads_link (state_after script.servers opened) n cell ≡ true
  pub timely : IsTimely script.servers opened cell op

module _ (script : Script) (sound : IsSound script) (records : List Record) (legal : AreSteps script records) where
  abbrev setting : Setting
  setting = setting_of script

  abbrev w : World
  w = At script records

  abbrev chosen : List Command
  chosen = chosen_log setting w

  pub firm : Firm setting w
  firm = history_is_firm script records sound legal

  pub chosen_plain : (prefix : List Command) → IsPrefix prefix chosen → HasProperTuples script.servers prefix
  chosen_plain prefix lies = prefix_plain script.servers prefix chosen firm.plain lies

  -- what is pending was opened as the incarnation that ran last, which leads the cell by the server's own state
  abbrev pub ran : ℕ → ℕ
  ran n = (asking script sound records legal).asks.lives.ran n

  pub was_opened : (n : ℕ) (cell : Cell) (op : Pending) → at cell_cmp (w.servers n).own.pairs.pending cell ≡ Some op → is_clients op.kind ≡ true
      → IsOpened script chosen n (ran n) cell op
  was_opened n cell op is clients =
      let p = (asking script sound records legal).asks.known.pending n cell op is clients in
      let sent = p.known.sent in
      let lies = chosen_prefix setting w firm op.client op.rev sent.at in
      let first = p.along sent.at.prefix (prefix_itself sent.at.prefix) p.opened in
      let led = (stage_facts script.servers sent.at.prefix (chosen_plain sent.at.prefix lies) cell).leads n first.leads in
      record {
        opened = sent.at.prefix;
        lies = lies;
        long = sent.at.long;
        seated = first.seated;
        unfenced = p.unfenced;
        leads = led.0;
        timely = record { epoch = sym sent.epoch; born = led.1; stays = led.2 };
      }

  -- and is still In as it, by its own entries
  pub seated_now : (n : ℕ) (cell : Cell) (op : Pending) → at cell_cmp (w.servers n).own.pairs.pending cell ≡ Some op → is_clients op.kind ≡ true
      → is_in (server_state setting w n) n (ran n) ≡ true
  seated_now n cell op is clients =
      let asks = (asking script sound records legal).asks in
      let p = asks.known.pending n cell op is clients in
      subst (λ log. is_in (state_after script.servers log) n (ran n) ≡ true) (asks.known.come n cell op is clients)
      (p.along p.upto p.opened (prefix_itself p.upto)).seated

  -- and it has applied the entries by which it was opened
  pub opened_by : (n : ℕ) (cell : Cell) (op : Pending) (is : at cell_cmp (w.servers n).own.pairs.pending cell ≡ Some op) (clients : is_clients op.kind ≡ true)
      → IsPrefix (was_opened n cell op is clients).opened (w.servers n).log.applied
  unfolding was_opened
  opened_by n cell op is clients =
      let known = (asking script sound records legal).asks.known in
      let p = known.pending n cell op is clients in
      subst (IsPrefix p.known.sent.at.prefix) (known.come n cell op is clients) p.opened

  -- as long as the server is In, the era rises only after a report of the server's, made on the way
  pub record IsReported (n inc : ℕ) (cell : Cell) (opened prefix : List Command) : Type 0 where
    pub until : List Command
    pub following : IsPrefix opened until
    pub before : IsPrefix until prefix
    pub seated : is_in (state_after script.servers until) n inc ≡ true
    pub holds : is_writes_held (held (state_after script.servers until) cell) ≡ true
    pub made : WasDraining setting records n inc until

  pub timely_or_reported : (n inc : ℕ) (cell : Cell) (op : Pending) (opened prefix : List Command) → IsPrefix opened prefix → IsPrefix prefix chosen
      → is_in (state_after script.servers opened) n inc ≡ true → is_in (state_after script.servers prefix) n inc ≡ true
      → is_writes_held (held (state_after script.servers opened) cell) ≡ false → IsTimely script.servers opened cell op
      → IsTimely script.servers prefix cell op ⊎ IsReported n inc cell opened prefix
  timely_or_reported n inc cell op opened prefix more lies was now unfenced timely =
      let plain = chosen_plain prefix lies in
      let le = log_epochs script.servers opened prefix cell plain more in
      elim (same_or_apart (era_at (state_after script.servers prefix) cell) (era_at (state_after script.servers opened) cell)) [
        | inl same ↦ inl (on_time script.servers opened prefix cell plain more op timely same)
        | inr ne ↦ (
            let reported = log_unheld script.servers opened prefix n inc cell plain more was now unfenced timely.born timely.stays (omega arith) in
            inr (record {
              until = reported.until;
              following = reported.following;
              before = prefix_on reported.until _ prefix (prefix_more reported.until (Drained n inc reported.fence)) reported.stands;
              seated = reported.seated;
              holds = reported.holds;
              made = report_was_made script records sound legal reported.until n inc reported.fence
                  (prefix_on (reported.until ++ Drained n inc reported.fence ∷ []) prefix chosen reported.stands lies);
            }))
      ]

  -- a client's write that is pending after a report was opened later
  pub opened_later : (n inc : ℕ) (cell : Cell) (op : Pending) (until : List Command) → WasDraining setting records n inc until
      → is_writes_held (held (state_after script.servers until) cell) ≡ true
      → at cell_cmp (w.servers n).own.pairs.pending cell ≡ Some op → is_clients op.kind ≡ true → length until < op.rev
  opened_later n inc cell op until was holds is clients = (asking script sound records legal).drained n inc until was cell op is clients holds

  -- a client's write that is pending is in time
  pub present : (n inc : ℕ) (cell : Cell) (op : Pending) (opened prefix : List Command) → at cell_cmp (w.servers n).own.pairs.pending cell ≡ Some op
      → is_clients op.kind ≡ true → IsPrefix opened prefix → IsPrefix prefix chosen → length opened ≡ op.rev
      → is_in (state_after script.servers opened) n inc ≡ true → is_in (state_after script.servers prefix) n inc ≡ true
      → IsTimely script.servers prefix cell op
  present n inc cell op opened prefix is clients more lies long was now =
      let o = was_opened n cell op is clients in
      let same : o.opened ≡ opened = one_prefix o.opened opened chosen o.lies (prefix_on opened prefix chosen more lies) (o.long ∙ sym long) in
      let seat : is_in (state_after script.servers o.opened) n inc ≡ true = subst (λ log. is_in (state_after script.servers log) n inc ≡ true) (sym same) was in
      elim (timely_or_reported n inc cell op o.opened prefix (subst (λ log. IsPrefix log prefix) (sym same) more) lies seat now o.unfenced o.timely) [
        | inl timely ↦ timely
        | inr reported ↦ (
            let lt = opened_later n inc cell op reported.until reported.made reported.holds is clients in
            let le = prefix_long o.opened reported.until reported.following in
            let rev = o.long in
            absurd (omega arith))
      ]

  -- so it is by all that is chosen, at a server that runs
  pub present_now : (n : ℕ) (cell : Cell) (op : Pending) → (w.servers n).life.running ≡ true
      → at cell_cmp (w.servers n).own.pairs.pending cell ≡ Some op → is_clients op.kind ≡ true → IsTimely script.servers chosen cell op
  present_now n cell op runs is clients =
      let o = was_opened n cell op is clients in
      let inc = (w.servers n).life.inc in
      let same = (asking script sound records legal).asks.known.lived.ran n runs in
      present n inc cell op o.opened chosen is clients o.lies (prefix_itself chosen) o.long
      (subst (λ i. is_in (state_after script.servers o.opened) n i ≡ true) same o.seated)
      (runs_now setting w firm n runs ((resting script sound records legal).seated n cell op runs is))
