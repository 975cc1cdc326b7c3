-- Where the request of a pending operation is open still: its server has led the cell since it opened it. The cell has not been left since, since
-- the server would have reported to the fence of its region before, with no such operation pending.
use Rattle.law_requests.proofs.Imports.{[], if◌then◌else◌, ◌++◌, ◌+◌, ◌<◌, ◌∙◌, ◌∷◌, ◌≡◌, ◌≤◌, ◌⊎◌, Caught, Cell, Command, Drained, Firm, HasComeSecond}
use Rattle.law_requests.proofs.Imports.{IsPrefix, LinkRow, List, Pending, Rests, Setting, Some, Wanted, World, alone_not_both, ap, arith, at, between}
use Rattle.law_requests.proofs.Imports.{by_bool, cases_lt, cell_cmp, cell_link, chosen_log, chosen_state, epoch_at, era_at, era_low, false, has_proposed}
use Rattle.law_requests.proofs.Imports.{held, held_as_flag, id_of, in_once, inl, inr, is_clients, is_flagged, is_in, is_lead, is_the_one, is_writes_held}
use Rattle.law_requests.proofs.Imports.{lead_links, length, log_alone, log_below, log_roles, log_unheld, lost_not_both, nat_le, nat_tests, none_some}
use Rattle.law_requests.proofs.Imports.{one_prefix, other_of, places_from, places_grow, prefix_itself, prefix_long, prefix_more, prefix_on, prefix_plain}
use Rattle.law_requests.proofs.Imports.{runs_now, same_only, server_state, stage_at, start, state_after, subst, sym, true, true_false, ℕ}
use Rattle.law_requests.specs.AskedRequests.{IsOpen}
use Rattle.law_requests.specs.KnownRequests.{Lives, seen, IsAt, LedBy, IsLate, Is_past, Had_no_lead, Had_another, IsLedAlong, PendingFor, asked_for, AskingBy}
use Rattle.law_requests.specs.KnownRequests.{KnowsReports}
use Rattle.law_requests.proofs.RequestsKnownLater.{either_prefix, one_log}
use Rattle.law_requests.proofs.LeadsAtTwoPlaces.{led_at_place, led_stage, one_lead, stage_by}

-- by each prefix of what is chosen, from the server's entries on, by which the incarnation is In still, the cell has not been left
abbrev pub IsUnleft : Setting → World → (n inc : ℕ) → Cell → Type 0
IsUnleft setting w n inc cell = (log : List Command) → IsPrefix (w.servers n).log.applied log → IsPrefix log (chosen_log setting w)
    → is_in (state_after setting.servers log) n inc ≡ true → stage_at (state_after setting.servers log) cell ≤ 2

-- an operation as its server finds it, which doesn't hold it back
pub record PendingHere (setting : Setting) (w : World) (lives : Lives) (n : ℕ) (want : Wanted) (rev : ℕ) : Type 0 where
  pub known : PendingFor setting (seen lives w) n (lives.ran n) want rev
  pub here : known.upto ≡ (w.servers n).log.applied
  pub unheld : has_proposed (server_state setting w n) (w.servers n).own want.cell ≡ false
  pub stays : IsUnleft setting w n (lives.ran n) want.cell

-- the server has in mind that it has started a ballot for each Caught of this incarnation that is chosen after its own entries
abbrev pub RemembersCaughts : Setting → World → (n inc : ℕ) → Type 0
RemembersCaughts setting w n inc = (prefix : List Command) (row : LinkRow) (other other_inc : ℕ) → IsPrefix (w.servers n).log.applied prefix
    → IsPrefix (prefix ++ Caught row.map row.link n inc other other_inc ∷ []) (chosen_log setting w)
    → is_flagged (w.servers n).own (id_of row) ≡ true

module _ (setting : Setting) (w : World) (firm : Firm setting w) where
  -- what a client has applied up to a revision
  pub chosen_prefix : (c rev : ℕ) (at : IsAt (w.clients c).applied rev) → IsPrefix at.prefix (chosen_log setting w)
  chosen_prefix c rev at = prefix_on at.prefix _ _ at.lies (firm.clients c)

  -- is what a server of this revision has
  pub own_prefix : (c n rev : ℕ) (at : IsAt (w.clients c).applied rev) → length (w.servers n).log.applied ≡ rev → (w.servers n).log.applied ≡ at.prefix
  own_prefix c n rev at long =
      one_prefix (w.servers n).log.applied at.prefix (chosen_log setting w) (firm.servers n) (chosen_prefix c rev at) (long ∙ sym at.long)

  -- an incarnation that is In by two prefixes is so by each between them
  pub in_between : (one log two : List Command) → IsPrefix one log → IsPrefix log two → IsPrefix two (chosen_log setting w) → (n inc : ℕ)
      → is_in (state_after setting.servers one) n inc ≡ true → is_in (state_after setting.servers two) n inc ≡ true
      → is_in (state_after setting.servers log) n inc ≡ true
  in_between one log two more lies all n inc was now =
      let plain = prefix_plain setting.servers two _ firm.plain all in
      between (state_after setting.servers one) (state_after setting.servers log) (state_after setting.servers two) n inc
      ((log_below setting.servers one log (prefix_plain setting.servers log two plain lies) more).ages n)
      ((log_below setting.servers log two plain lies).ages n) was now

  -- ### Cells that are not left

  -- a cell that an incarnation led takes writes as long as it is In, unless it has reported since to a fence that held them
  stage_kept : (n inc : ℕ) (cell : Cell) (prefix log : List Command) → LedBy (state_after setting.servers prefix) n inc cell
      → is_writes_held (held (state_after setting.servers prefix) cell) ≡ false → IsPrefix prefix log → IsPrefix log (chosen_log setting w)
      → is_in (state_after setting.servers log) n inc ≡ true
      → ((until : List Command) (fence : ℕ) → IsPrefix prefix until → IsPrefix (until ++ Drained n inc fence ∷ []) (chosen_log setting w)
      → is_writes_held (held (state_after setting.servers until) cell) ≡ true → ⊥)
      → stage_at (state_after setting.servers log) cell ≤ 2
  stage_kept n inc cell prefix log led unfenced more all still unreported =
      let plain = prefix_plain setting.servers log _ firm.plain all in
      let at = led_stage setting.servers prefix (prefix_plain setting.servers prefix log plain more) cell n led.leads in
      let was = state_after setting.servers prefix in
      let now = state_after setting.servers log in
      elim (cases_lt (era_at was cell) (era_at now cell)) [
        | inl rises ↦ (
            let r = log_unheld setting.servers prefix log n inc cell plain more led.seated still unfenced at.0 at.1 rises in
            absurd (unreported r.until r.fence r.following (prefix_on _ log _ r.stands all) r.holds))
        | inr same ↦ by_bool (nat_le 3 (stage_at now cell))
            (λ left.
            let low = era_low (epoch_at was cell) (stage_at was cell) at.1 in
            let risen : era_at now cell ≡ epoch_at now cell + 1 = ap (λ b. epoch_at now cell + (if b then 1 else 0)) left in
            let up = (log_below setting.servers prefix log plain more).epochs cell in
            absurd (omega arith))
            (λ kept. grind (arith, nat_tests))
      ]

  -- one that a server leads by its own entries, by which no fence holds its writes
  pub unleft_now : (lives : Lives) → KnowsReports setting w lives → (n : ℕ) (cell : Cell) → LedBy (server_state setting w n) n (lives.ran n) cell
      → is_writes_held (held (server_state setting w n) cell) ≡ false → IsUnleft setting w n (lives.ran n) cell
  unleft_now lives reports n cell led unfenced log more all still =
      let own = (w.servers n).log.applied in
      stage_kept n (lives.ran n) cell own log led unfenced more all still (λ until fence following stands holds.
      let same : until ≡ own = one_log until own (reports.reached n fence until stands) following in
      true_false holds (subst (λ l. is_writes_held (held (state_after setting.servers l) cell) ≡ false) (sym same) unfenced))

  -- one of which the server has a client's write pending
  pub unleft_pending : (lives : Lives) → KnowsReports setting w lives → (n : ℕ) (cell : Cell) (op : Pending)
      → at cell_cmp (w.servers n).own.pairs.pending cell ≡ Some op → is_clients op.kind ≡ true
      → (p : PendingFor setting (seen lives w) n (lives.ran n) (asked_for cell op) op.rev) → p.upto ≡ (w.servers n).log.applied
      → IsUnleft setting w n (lives.ran n) cell
  unleft_pending lives reports n cell op is clients p here log more all still =
      let prefix = p.known.sent.at.prefix in
      let on = subst (IsPrefix prefix) here p.opened in
      stage_kept n (lives.ran n) cell prefix log (p.along prefix (prefix_itself prefix) p.opened) p.unfenced (prefix_on prefix _ log on more) all still
      (λ until fence following stands holds.
      let lt = reports.later n fence until stands cell op is clients holds in
      let le = prefix_long prefix until following in
      let long = p.known.sent.at.long in
      omega arith)

  -- ### From a server's own entries on

  -- of the incarnation that the server has, the server remembers each
  pub remembers_now : (n : ℕ) → RemembersCaughts setting w n (w.servers n).life.inc
  remembers_now n prefix row other other_inc more stands =
      elim (firm.started prefix row.map row.link n (w.servers n).life.inc other other_inc stands) [
        | inl past ↦ absurd (omega arith)
        | inr flag ↦ (
            let reached = flag.1.reached in
            let long = prefix_long (w.servers n).log.applied prefix more in
            flag.1.flagged (omega arith))
      ]

  module _ (n inc : ℕ) (seat : is_in (server_state setting w n) n inc ≡ true) (remembers : RemembersCaughts setting w n inc) (cell : Cell)
      (log : List Command) (more : IsPrefix (w.servers n).log.applied log) (all : IsPrefix log (chosen_log setting w))
      (still : is_in (state_after setting.servers log) n inc ≡ true) where
    -- it came second by a Caught that it has started a ballot for
    came_second : HasComeSecond (server_state setting w n) (state_after setting.servers log) n cell
        → has_proposed (server_state setting w n) (w.servers n).own cell ≡ true
    came_second second =
        let row = second.alone.row in
        let own = (w.servers n).log.applied in
        let plain = prefix_plain setting.servers log _ firm.plain all in
        let later = second.second in
        elim (log_alone setting.servers own log plain more cell row later.row n second.alone.whole second.alone.is second.alone.alone later.is) [
          | inl same ↦ alone_not_both later.row n same.1 later.both
          | inr (inl lost) ↦ lost_not_both later.row lost.0 later.both
          | inr (inr c) ↦ (
              let found = c.found in
              let acts = found.acts in
              let until_log = prefix_on found.until _ log (prefix_more found.until found.entry) found.stands in
              let holder : acts.holder ≡ n = same_only (sym acts.alone) in
              let seated = in_between own found.until log found.following until_log all n inc seat still in
              let inc_is : acts.inc ≡ inc = in_once (state_after setting.servers found.until) n acts.inc inc
              (subst (λ k. is_in (state_after setting.servers found.until) k acts.inc ≡ true) holder acts.holds) seated in
              let other = other_of acts.holder row in
              let stands : IsPrefix (found.until ++ Caught row.map row.link n inc other acts.other_inc ∷ []) (chosen_log setting w) =
              subst (λ i. IsPrefix (found.until ++ Caught row.map row.link n i other acts.other_inc ∷ []) (chosen_log setting w)) inc_is
              (subst (λ k. IsPrefix (found.until ++ Caught row.map row.link k acts.inc other acts.other_inc ∷ []) (chosen_log setting w)) holder
              (subst (λ (x : Command). IsPrefix (found.until ++ x ∷ []) (chosen_log setting w)) acts.is
              (prefix_on (found.until ++ found.entry ∷ []) log _ found.stands all))) in
              held_as_flag (server_state setting w n) (w.servers n).own cell row second.alone.is
              ∙ remembers found.until row other acts.other_inc found.following stands)
        ]

    -- it leads what it led, while the cell has not been left, or it has started the ballot for the Caught of the cell's link
    pub leads_on : is_lead (server_state setting w n) n cell ≡ true → stage_at (state_after setting.servers log) cell ≤ 2
        → (is_lead (state_after setting.servers log) n cell ≡ true)
        ⊎ (has_proposed (server_state setting w n) (w.servers n).own cell ≡ true)
    leads_on leads most =
        let own = (w.servers n).log.applied in
        let plain = prefix_plain setting.servers log _ firm.plain all in
        let was = (stage_by setting.servers own (prefix_plain setting.servers own log plain more) cell).leads n leads in
        let up = (log_below setting.servers own log plain more).stages cell in
        elim ((log_roles setting.servers own log plain more).leads n inc cell seat still was.0) [
          | inl so ↦ inl ((stage_by setting.servers log plain cell).led n so (omega arith) most)
          | inr (inl second) ↦ inr (came_second second)
          | inr (inr died) ↦ let e = died.1 in absurd (omega arith)
        ]

  -- ### Who comes too late

  -- a server that runs, and leads the cell, which has not been left, is late only where it is past the write, or holds it back
  module _ (lives : Lives) (n : ℕ) (runs : (w.servers n).life.running ≡ true) (cell : Cell)
      (led : LedBy (server_state setting w n) n (w.servers n).life.inc cell) (stays : IsUnleft setting w n (w.servers n).life.inc cell)
      (prefix : List Command) (own : IsPrefix (w.servers n).log.applied prefix) where
    leads_at : (log : List Command) → IsPrefix prefix log → IsPrefix log (chosen_log setting w)
        → LedBy (state_after setting.servers log) n (w.servers n).life.inc cell
        ⊎ (has_proposed (server_state setting w n) (w.servers n).own cell ≡ true)
    leads_at log more all =
        let on = prefix_on _ prefix log own more in
        let still = in_between _ log (chosen_log setting w) on all (prefix_itself (chosen_log setting w)) n (w.servers n).life.inc led.seated
        (runs_now setting w firm n runs led.seated) in
        elim (leads_on n (w.servers n).life.inc led.seated (remembers_now n) cell log on all still led.leads (stays log on all still)) [
          | inl so ↦ inl (record { seated = still; leads = so })
          | inr kept ↦ inr kept
        ]

    pub late_where : (client seq : ℕ) → IsLate setting.servers (seen lives w) prefix client seq cell n (w.servers n).life.inc
        → (seq < lives.done n (w.servers n).life.inc client) ⊎ (has_proposed (server_state setting w n) (w.servers n).own cell ≡ true)
    late_where client seq (Is_past lt) = inl lt
    late_where client seq (Had_no_lead log more lies none) = elim (leads_at log more (prefix_on log _ _ lies (firm.clients client))) [
      | inl now ↦ none_some none (is_the_one _ n now.leads)
      | inr kept ↦ inr kept
    ]
    late_where client seq (Had_another log other more lies leads apart) =
        elim (leads_at log more (prefix_on log _ _ lies (firm.servers other))) [
          | inl now ↦ true_false now.seated (apart (one_lead (state_after setting.servers log) other n cell leads now.leads))
          | inr kept ↦ inr kept
        ]

  -- ### The request of an operation

  module _ (lives : Lives) (n inc : ℕ) (want : Wanted) (rev : ℕ) (p : PendingFor setting (seen lives w) n inc want rev) where
    abbrev prefix : List Command
    prefix = p.known.sent.at.prefix

    pub upto_chosen : IsPrefix p.upto (chosen_log setting w)
    upto_chosen = prefix_on p.upto _ _ p.applied (firm.servers n)

    -- it is open, where the incarnation is not late
    pub open_or : (IsLate setting.servers (seen lives w) prefix want.client want.seq want.cell n inc → ⊥)
        → IsOpen (w.clients want.client) want.seq
    open_or late = elim p.known.still [
      | inl open_now ↦ open_now.now
      | inr all ↦ absurd (late (all n inc (p.along prefix (prefix_itself prefix) p.opened)))
    ]

    module _ (along : IsLedAlong setting.servers p.upto (chosen_log setting w) n inc want.cell) where
      led_at : (log : List Command) → IsPrefix prefix log → IsPrefix log (chosen_log setting w)
          → LedBy (state_after setting.servers log) n inc want.cell
      led_at log more all = elim (either_prefix log p.upto (chosen_log setting w) all upto_chosen) [
        | inl before ↦ p.along log more before
        | inr following ↦ along log following all
      ]

      not_late : IsLate setting.servers (seen lives w) prefix want.client want.seq want.cell n inc → ⊥
      not_late (Is_past lt) = let u = p.unfinished in omega arith
      not_late (Had_no_lead log more lies none) =
          none_some none (is_the_one _ n (led_at log more (prefix_on log _ _ lies (firm.clients want.client))).leads)
      not_late (Had_another log other more lies leads apart) =
          let now = led_at log more (prefix_on log _ _ lies (firm.servers other)) in
          true_false now.seated (apart (one_lead (state_after setting.servers log) other n want.cell leads now.leads))

    -- so where the incarnation leads the cell up to what is chosen
    pub open_along : IsLedAlong setting.servers p.upto (chosen_log setting w) n inc want.cell → IsOpen (w.clients want.client) want.seq
    open_along along = open_or (not_late along)

    -- as it does while nothing touches the cell's link, and the cell has not been left
    pub open_at_place : (row : LinkRow) → cell_link (state_after setting.servers p.upto) want.cell ≡ Some row
        → places_from (start setting.servers) (chosen_log setting w) row ≡ places_from (start setting.servers) p.upto row
        → stage_at (chosen_state setting w) want.cell ≤ 2 → IsOpen (w.clients want.client) want.seq
    open_at_place row is place most = open_along (λ log more all.
        let plain = prefix_plain setting.servers log _ firm.plain all in
        let one = places_grow setting.servers p.upto log row more in
        let two = places_grow setting.servers log (chosen_log setting w) row all in
        let up = (log_below setting.servers log (chosen_log setting w) firm.plain all).stages want.cell in
        led_at_place setting.servers p.upto log plain more n inc want.cell row is (omega arith) (omega arith)
        (p.along p.upto p.opened (prefix_itself p.upto)))

  -- ### A server that runs

  pub here_led : (lives : Lives) (n : ℕ) (want : Wanted) (rev : ℕ) → (p : PendingHere setting w lives n want rev)
      → LedBy (server_state setting w n) n (lives.ran n) want.cell
  here_led lives n want rev p =
      let k = p.known in
      subst (λ log. LedBy (state_after setting.servers log) n (lives.ran n) want.cell) p.here
      (k.along k.upto k.opened (prefix_itself k.upto))

  -- by each prefix of what is chosen by which it is In still, it leads the cell
  pub here_along : (lives : Lives) (n : ℕ) (want : Wanted) (rev : ℕ) → PendingHere setting w lives n want rev
      → RemembersCaughts setting w n (lives.ran n)
      → (log : List Command) → IsPrefix (w.servers n).log.applied log → IsPrefix log (chosen_log setting w)
      → is_in (state_after setting.servers log) n (lives.ran n) ≡ true → LedBy (state_after setting.servers log) n (lives.ran n) want.cell
  here_along lives n want rev p remembers log more all still =
      let led = here_led lives n want rev p in
      elim (leads_on n (lives.ran n) led.seated remembers want.cell log more all still led.leads (p.stays log more all still)) [
        | inl so ↦ record { seated = still; leads = so }
        | inr kept ↦ true_false kept p.unheld
      ]

  -- so where it is In by what is chosen
  pub open_still : (lives : Lives) (n : ℕ) (want : Wanted) (rev : ℕ) → PendingHere setting w lives n want rev
      → RemembersCaughts setting w n (lives.ran n)
      → is_in (chosen_state setting w) n (lives.ran n) ≡ true → IsOpen (w.clients want.client) want.seq
  open_still lives n want rev p remembers still =
      open_along lives n (lives.ran n) want rev p.known (λ log more all.
      let on = subst (λ own. IsPrefix own log) p.here more in
      here_along lives n want rev p remembers log on all
      (in_between _ log (chosen_log setting w) on all (prefix_itself (chosen_log setting w)) n (lives.ran n)
      (here_led lives n want rev p).seated still))

  -- who runs has the incarnation that ran last
  pub remembers_running : (lives : Lives) (n : ℕ) → lives.ran n ≡ (w.servers n).life.inc → RemembersCaughts setting w n (lives.ran n)
  remembers_running lives n ran = subst (RemembersCaughts setting w n) (sym ran) (remembers_now n)

  pub open_running : (lives : Lives) (n : ℕ) (want : Wanted) (rev : ℕ) → PendingHere setting w lives n want rev
      → lives.ran n ≡ (w.servers n).life.inc
      → (w.servers n).life.running ≡ true → IsOpen (w.clients want.client) want.seq
  open_running lives n want rev p ran runs =
      let seat = subst (λ i. is_in (server_state setting w n) n i ≡ true) ran (here_led lives n want rev p).seated in
      open_still lives n want rev p (remembers_running lives n ran)
      (subst (λ i. is_in (chosen_state setting w) n i ≡ true) (sym ran) (runs_now setting w firm n runs seat))

  -- what a client has pending is found so
  pub pending_here : (lives : Lives) → Rests setting w → (asking : AskingBy setting w lives) → KnowsReports setting w lives
      → (n : ℕ) (cell : Cell) (op : Pending) → at cell_cmp (w.servers n).own.pairs.pending cell ≡ Some op → is_clients op.kind ≡ true
      → PendingHere setting w lives n (asked_for cell op) op.rev
  pending_here lives rests asking reports n cell op is clients =
      let p = asking.pending n cell op is clients in
      let here = asking.come n cell op is clients in
      let led = subst (λ log. LedBy (state_after setting.servers log) n (lives.ran n) cell) here (p.along p.upto p.opened (prefix_itself p.upto)) in
      let lives_now = lead_links (server_state setting w n) n cell led.leads in
      record {
        known = p;
        here = here;
        unheld = ((rests.pending n).staged cell op is).unheld lives_now.0;
        stays = unleft_pending lives reports n cell op is clients p here;
      }
