-- What a step leaves of the server that takes it, as requests need it: it goes on as it was, or boots, and what it has pending is known of.
use Rattle.law_requests.proofs.Imports.{[], ◌+◌, ◌<◌, ◌∙◌, ◌∷◌, ◌≡◌, ◌≤◌, Acted, AllMayWake, By_ballot, By_entry, By_job, Cell, Command, Copies, Ends, Fails}
use Rattle.law_requests.proofs.Imports.{Firm, Goes, In, IsPrefix, JobResult, Log, PairState, Pairs, Pending, Progress, Ready, Server, Serving, Setting, Some}
use Rattle.law_requests.proofs.Imports.{Stays, Step, Wakes, Wanted, Worked, World, ap, arith, at, at-empty, awake, blanked, cell_cmp, chosen_log, crossed}
use Rattle.law_requests.proofs.Imports.{done_to, false, id_of, inl, inr, is_flagged, is_in, link_cmp, nat_cmp, no_pairs, none_some, option_map_or, own_place}
use Rattle.law_requests.proofs.Imports.{prefix_itself, prefix_on, prefix_same, proposed_pairs, raised, refl, runs_at, served_so, server_state, settled_by}
use Rattle.law_requests.proofs.Imports.{settling, state_after, state_in, stopped_so, subst, sym, true, true_false, was_same, ℕ}
use Rattle.law_requests.specs.KnownRequests.{LedBy, done_by, IsLedAlong, asked_for, IsUsed, Has_pending, Has_finished}
use Rattle.law_requests.proofs.EndedRequestsLeaveNothing.{bound_now, pending_new, rises}
use Rattle.law_requests.proofs.ServerStepsKeepRequests.{Scene, IsSettled, IsStepped}
use Rattle.law_requests.proofs.LeadJobsKeepRequests.{Shows, job_tells, kept_tells}
use Rattle.law_requests.proofs.RequestsKnownLater.{one_log}
use Rattle.law_requests.proofs.IncarnationsGoOn.{Goes_on, Begins}
use Rattle.law_requests.proofs.BallotsStayInMind.{worked_flags}
use Rattle.law_requests.proofs.OpenWhileRunning.{PendingHere, here_along, here_led, pending_here, remembers_running}

-- the entries that a server has applied stay, and are of what was chosen before the step
pub worked_grows : (setting : Setting) (w : World) → Firm setting w → (n : ℕ) (log : Log) (done : JobResult) → Worked setting w n log done
    → IsPrefix (w.servers n).log.applied log.applied × IsPrefix log.applied (chosen_log setting w)
worked_grows setting w firm n log done works = by log done works
  where
    same_grows : (log : Log) → log.applied ≡ (w.servers n).log.applied
        → IsPrefix (w.servers n).log.applied log.applied × IsPrefix log.applied (chosen_log setting w)
    same_grows log same =
        (prefix_same _ log.applied same, subst (λ own. IsPrefix own (chosen_log setting w)) (sym same) (firm.servers n))

    by : (log : Log) (done : JobResult) → Worked setting w n log done
        → IsPrefix (w.servers n).log.applied log.applied × IsPrefix log.applied (chosen_log setting w)
    by _ _ (By_job log done same did seat) = same_grows log same
    by _ _ (By_ballot log started posts same starts says) = same_grows log same
    by _ _ (By_entry log entry more prefix) = (record { later = entry ∷ []; is = more }, prefix)

module _ (scene : Scene) (ready : Ready scene.setting scene.state scene.w) (n stamp : ℕ) (what : Step) where
  open scene use {setting, w, lives, asking}

  -- what an entry leaves of the server's own part
  abbrev entered : Command → PairState
  entered entry = settled_by (own_place setting w n) entry (crossed (server_state setting w n) entry (w.servers n).own)

  entry_pairs : (entry : Command) → (entered entry).pairs ≡ (crossed (server_state setting w n) entry (w.servers n).own).pairs
  entry_pairs entry = (settling (own_place setting w n) entry (crossed (server_state setting w n) entry (w.servers n).own)).pairs

  pub worked_shows : (w.servers n).life.running ≡ true → (log : Log) (done : JobResult) → Worked setting w n log done
      → Shows setting w lives n done.own done.posts
  unfolding In
  worked_shows runs _ _ (By_job log done same did seat) = job_tells scene n runs done seat did
  worked_shows runs _ _ (By_ballot log started posts same starts says) =
      kept_tells scene n runs _ posts
      (ap (λ (p : Pairs). p.pending) (proposed_pairs (server_state setting w n) (w.servers n).own started))
      (ap (λ (p : Pairs). p.finished) (proposed_pairs (server_state setting w n) (w.servers n).own started)) says
  worked_shows runs _ _ (By_entry log entry more prefix) =
      let pairs = entry_pairs entry in
      kept_tells scene n runs _ [] (ap (λ (p : Pairs). p.pending) pairs)
      (ap (λ (p : Pairs). p.finished) pairs) (λ post i. absurd i)

  -- what is used stands where the server is In as itself
  used_by : (new old : PairState) → new.pairs.pending ≡ old.pairs.pending → new.pairs.finished ≡ old.pairs.finished → IsUsed new → IsUsed old
  used_by new old pending finished (Has_pending cell op is) = Has_pending cell op (sym (ap (λ t. at cell_cmp t cell) pending) ∙ is)
  used_by new old pending finished (Has_finished c le) =
      let e : done_by new c ≡ done_by old c = ap (λ t. done_to (at nat_cmp t c)) finished in Has_finished c (omega arith)

  used_same : (new old : PairState) → new.pairs ≡ old.pairs → IsUsed new → IsUsed old
  used_same new old same = used_by new old (ap (λ (p : Pairs). p.pending) same) (ap (λ (p : Pairs). p.finished) same)

  entered_used : (entry : Command) → IsUsed (entered entry) → IsUsed (w.servers n).own
  entered_used entry =
      let pairs = entry_pairs entry in
      used_by (entered entry) (w.servers n).own (ap (λ (p : Pairs). p.pending) pairs) (ap (λ (p : Pairs). p.finished) pairs)

  worked_used : (w.servers n).life.running ≡ true → (log : Log) (done : JobResult) → Worked setting w n log done → IsUsed done.own
      → is_in (state_in setting.servers log) n (lives.ran n) ≡ true
  worked_used runs _ _ (By_job log done same did seat) u =
      let now : is_in (server_state setting w n) n (lives.ran n) ≡ true = elim seat [
        | inl so ↦ subst (λ i. is_in (server_state setting w n) n i ≡ true) (sym (asking.lived.ran n runs)) so
        | inr apart ↦ asking.used n (subst IsUsed apart.same u)
      ] in
      subst (λ applied. is_in (state_after setting.servers applied) n (lives.ran n) ≡ true) (sym same) now
  worked_used runs _ _ (By_ballot log started posts same starts says) u =
      let own = (w.servers n).own in
      subst (λ applied. is_in (state_after setting.servers applied) n (lives.ran n) ≡ true) (sym same)
      (asking.used n (used_same _ own (proposed_pairs (server_state setting w n) own started) u))
  worked_used runs _ _ (By_entry log entry more prefix) u =
      let ran = asking.lived.ran n runs in
      let was : is_in (server_state setting w n) n (w.servers n).life.inc ≡ true =
      subst (λ i. is_in (server_state setting w n) n i ≡ true) ran (asking.used n (entered_used entry u)) in
      subst (λ i. is_in (state_in setting.servers log) n i ≡ true) (sym ran)
      (runs_at setting w scene.firm (w.servers n).log.applied log.applied (record { later = entry ∷ []; is = more }) prefix n runs was)

  -- while it runs it leads the cell of its operation
  worked_along : (w.servers n).life.running ≡ true → (want : Wanted) (rev : ℕ) → PendingHere setting w lives n want rev
      → IsLedAlong setting.servers (w.servers n).log.applied (chosen_log setting w) n (lives.ran n) want.cell
  worked_along runs want rev p log more all =
      let ran = asking.lived.ran n runs in
      let led = here_led setting w scene.firm lives n want rev p in
      here_along setting w scene.firm lives n want rev p (remembers_running setting w scene.firm lives n ran) log more all
      (subst (λ i. is_in (state_after setting.servers log) n i ≡ true) (sym ran)
      (runs_at setting w scene.firm (w.servers n).log.applied log more all n runs
      (subst (λ i. is_in (server_state setting w n) n i ≡ true) ran led.seated)))

  -- a server that does its work
  pub worked_stepped : (runs : (w.servers n).life.running ≡ true) (log : Log) (done : JobResult) → Worked setting w n log done → (new : Server)
      → new.log ≡ log → new.own ≡ done.own → new.life.inc ≡ (w.servers n).life.inc → IsStepped scene n new
  worked_stepped runs log done worked new logs owns incs =
      let shows = worked_shows runs log done worked in
      let grows = worked_grows setting w scene.firm n log done worked in
      let ran = incs ∙ sym (asking.lived.ran n runs) in
      record {
        life = Goes_on (λ on. ran) (omega arith)
            (λ c. subst (λ (o : PairState). done_by (w.servers n).own c ≤ done_by o c) (sym owns) (rises scene n done.own shows.tells c))
            (λ same row flag.
            subst (λ (o : PairState). is_flagged o (id_of row) ≡ true) (sym owns)
            (worked_flags setting w n log done worked (same ∙ ap (λ (l : Log). l.applied) logs) row flag));
        more = subst (λ (l : Log). IsPrefix (w.servers n).log.applied l.applied) (sym logs) grows.0;
        bound = λ c. subst (λ (o : PairState). done_by o c ≤ (w.clients c).seq + 1) (sym owns) (bound_now scene n done.own shows.tells c);
        used = λ u. record {
          same = λ on. ran;
          seated = subst (λ (l : Log). is_in (state_in setting.servers l) n (lives.ran n) ≡ true) (sym logs)
              (worked_used runs log done worked (subst IsUsed owns u));
        };
        pending = λ cell op is clients.
            let p = pending_new scene n done.own shows.tells cell op (sym (ap (λ (o : PairState). at cell_cmp o.pairs.pending cell) owns) ∙ is) clients in
            record {
              was = p.0;
              since = p.1;
              along = λ before more lies.
                  worked_along runs (asked_for cell op) op.rev p.0 before more
                  (prefix_on before log.applied _ (subst (λ (l : Log). IsPrefix before l.applied) logs lies) grows.1);
              unfinished = subst (λ (o : PairState). done_by o op.client ≤ op.seq) (sym owns) p.2;
            };
      }

  -- a server whose entries, and what it has in memory, stay as they are
  still_stepped : (new : Server) → new.log.applied ≡ (w.servers n).log.applied → new.own.pairs ≡ (w.servers n).own.pairs
      → new.own.copies ≡ (w.servers n).own.copies
      → (new.life.running ≡ true → new.life.inc ≡ lives.ran n) → (w.servers n).life.inc ≤ new.life.inc → IsStepped scene n new
  still_stepped new logs pairs copies same later =
      let done : (c : ℕ) → done_by new.own c ≡ done_by (w.servers n).own c = λ c. ap (λ (p : Pairs). done_to (at nat_cmp p.finished c)) pairs in
      record {
        life = Goes_on same later (λ c. let e = done c in omega arith)
            (λ all row flag. ap (λ (c : Copies). option_map_or (λ (p : Progress). p.caught) (at link_cmp c.progress (id_of row)) false) copies ∙ flag);
        more = subst (IsPrefix (w.servers n).log.applied) (sym logs) (prefix_itself (w.servers n).log.applied);
        bound = λ c. let e = done c in let le = asking.finished n c in omega arith;
        used = λ u. record {
          same = same;
          seated = subst (λ applied. is_in (state_after setting.servers applied) n (lives.ran n) ≡ true) (sym logs)
              (asking.used n (used_same new.own (w.servers n).own pairs u));
        };
        pending = λ cell op is clients.
            let stood = sym (ap (λ (p : Pairs). at cell_cmp p.pending cell) pairs) ∙ is in
            let p = pending_here setting w scene.firm lives ready.rests asking scene.reports n cell op stood clients in
            let tied = asking.lived.tied n op.client in
            let un = p.known.unfinished in
            let e = done op.client in
            record {
              was = p;
              since = inl (was_same (w.servers n).own cell op stood);
              along = λ log more lies.
                  let same = one_log log (w.servers n).log.applied (subst (IsPrefix log) logs lies) more in
                  subst (λ l. LedBy (state_after setting.servers l) n (lives.ran n) cell) (sym same)
                  (here_led setting w scene.firm lives n (asked_for cell op) op.rev p);
              unfinished = omega arith;
            };
      }

  -- a server that boots has nothing pending, and has finished nothing
  none_done : (new : Server) → new.own.pairs ≡ no_pairs → (c : ℕ) → done_by new.own c ≡ 0
  none_done new empty c = ap (λ (p : Pairs). done_to (at nat_cmp p.finished c)) empty ∙ ap done_to (at-empty nat_cmp c)

  none_pending : {A : Type 0} (new : Server) → new.own.pairs ≡ no_pairs → (cell : Cell) (op : Pending) → at cell_cmp new.own.pairs.pending cell ≡ Some op → A
  none_pending new empty cell op is =
      none_some (ap (λ (p : Pairs). at cell_cmp p.pending cell) empty ∙ at-empty cell_cmp cell) is

  boot_stepped : (new : Server) → new.own.pairs ≡ no_pairs → new.life.running ≡ true → (w.servers n).life.inc < new.life.inc
      → IsPrefix (w.servers n).log.applied new.log.applied → IsStepped scene n new
  boot_stepped new empty on later more = record {
    life = Begins on later (none_done new empty);
    more = more;
    bound = λ c. let e = none_done new empty c in omega arith;
    used = unused;
    pending = λ cell op is clients. none_pending new empty cell op is;
  }
    where
      unused : IsUsed new.own → IsSettled scene n new
      unused (Has_pending cell op is) = none_pending new empty cell op is
      unused (Has_finished c le) = let e = none_done new empty c in absurd (omega arith)

  pub serves_step : AllMayWake setting w → (acted : Acted) → Serving setting w n what acted → IsStepped scene n acted.server
  serves_step wake _ (Goes log done queue runs worked queued works) =
      worked_stepped runs log done worked (served_so setting w n log done queue).server refl refl refl
  serves_step wake _ (Ends log done runs worked) = worked_stepped runs log done worked (stopped_so setting w n log done).server refl refl refl
  serves_step wake _ (Stays who posts from shown) = still_stepped (w.servers n) refl refl refl (λ on. sym (asking.lived.ran n on)) (omega arith)
  serves_step wake _ (Wakes booted asleep) =
      boot_stepped (awake (raised (w.servers n))) refl refl (omega arith) (wake n).onward
  serves_step wake _ (Fails booted asleep) = still_stepped (raised (w.servers n)) refl refl refl (λ on. true_false on asleep) (omega arith)

  -- a stopped server keeps what it had in memory, whatever becomes of its data device
  pub blanks_step : (w.servers n).life.running ≡ false → IsStepped scene n (blanked (w.servers n))
  blanks_step asleep = still_stepped (blanked (w.servers n)) refl refl refl (λ on. true_false on asleep) (omega arith)
