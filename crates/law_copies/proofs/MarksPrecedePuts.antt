-- In every legal history each put of a lead fell on a block that was marked on its device.
use Rattle.law_copies.proofs.Imports.{[], ◌++◌, ◌∙◌, ◌∷◌, ◌≡◌, ◌≢◌, Acted, AreSteps, Blanks, By_ballot, By_entry, By_job, Cell, Ends, Goes, Handled, Happens}
use Rattle.law_copies.proofs.Imports.{IsMarked, IsSound, JobResult, List, Log, MarksFirst, PairState, Record, Run, Script, Server, Serves, Serving, Setting}
use Rattle.law_copies.proofs.Imports.{State, Step, Turns, Worked, World, all_put_apart, ap, append_assoc, before_part, below_itself, blanked, chain_in}
use Rattle.law_copies.proofs.Imports.{chosen_state, crossed, firm_in, happened_in, inl, inr, is_in, kept, leads_link, live, longer, more_of, own_place}
use Rattle.law_copies.proofs.Imports.{proposed, refl, rests_in, server_state, setting_in, settled_by, settling, stepped_in, subst, sym, true, true_false, ℕ}
use Rattle.law_jobs.proofs.Runs.{after}
use Rattle.law_copies.proofs.AtSeat.{AtSeat}
use Rattle.law_copies.proofs.StoreHistories.{in_counts, in_own}
use Rattle.law_copies.proofs.BallotsFindAllCopied.{ballot_alike}
use Rattle.law_copies.proofs.CopiesInHistories.{good_after}
use Rattle.law_copies.proofs.LeadsFindMarks.{job_marked}
use Rattle.law_copies.proofs.PlacesBeforeJobs.{fit, idle_copies}

module _ (run : Run) (cell : Cell) where
  abbrev setting : Setting
  setting = setting_in run

  abbrev w : World
  w = after run

  abbrev seated : (k : ℕ) → (w.servers k).life.running ≡ true → is_in (server_state setting w k) k (w.servers k).life.inc ≡ true → AtSeat
  seated k runs seat = record {
    ground = record {
      setting = setting;
      records = run.records;
      w = w;
      stores = kept setting w;
      good = good_after run.script run.records run.sound run.legal;
      firm = firm_in run;
      rests = rests_in run;
    };
    k = k;
    works = record {
      runs = runs;
      seat = seat;
      real = in_own run.script run.records k run.sound run.legal runs seat (w.servers k).own.store;
      counts = in_counts run.script run.records k (w.servers k).log.applied run.sound run.legal ((firm_in run).servers k) seat;
    };
  }

  -- where the server comes to have this, its cell was marked if it led the cell and has another copy of it
  abbrev IsFirst : ℕ → PairState → Type 0
  IsFirst n to = (w.servers n).life.running ≡ true → live (server_state setting w n) cell ≡ true → leads_link (server_state setting w n) n cell ≡ true
      → chain_in to.store.chains cell ≢ chain_in (w.servers n).own.store.chains cell → IsMarked (w.servers n).own.store cell

  same_first : (n : ℕ) (to : PairState) → to.store.chains ≡ (w.servers n).own.store.chains → IsFirst n to
  same_first n to same runs on lead changed = absurd (changed (ap (λ t. chain_in t cell) same))

  worked_first : (k : ℕ) (log : Log) (done : JobResult) → Worked setting w k log done → IsFirst k done.own
  worked_first k _ _ (By_job log done same did (inl seat)) =
      λ runs. let it = seated k runs seat in
      (job_marked (Handled w k) (own_place setting w k) (w.servers k).own (fit it) (idle_copies it) done did).first cell
  worked_first k _ _ (By_job log done same did (inr apart)) = same_first k done.own (ap (λ (o : PairState). o.store.chains) apart.same)
  worked_first k _ _ (By_ballot log started posts same starts logged) =
      same_first k (proposed (server_state setting w k) (w.servers k).own started)
      (ap (λ (o : PairState). o.store.chains) (sym (ballot_alike (server_state setting w k) (w.servers k).own started)))
  worked_first k _ _ (By_entry log entry more prefix) =
      let own = crossed (server_state setting w k) entry (w.servers k).own in
      same_first k (settled_by (own_place setting w k) entry own) (settling (own_place setting w k) entry own).chains

  server_first : (k : ℕ) (what : Step) (acted : Acted) → Serving setting w k what acted → IsFirst k acted.server.own
  server_first k what _ (Goes log done queue runs worked queued works) = worked_first k log done worked
  server_first k what _ (Ends log done runs worked) = worked_first k log done worked
  server_first k what acted _ = same_first k acted.server.own refl

  happens_first : (state : State) (v : World) → Happens setting state w v → (n : ℕ) → IsFirst n (v.servers n).own
  happens_first state _ (Serves k stamp step acted lt small unblanked serving) =
      all_put_apart w.servers k acted.server (λ n (s : Server). IsFirst n s.own) (λ n ne. same_first n (w.servers n).own refl)
      (server_first k step acted serving)
  happens_first state _ (Blanks k stamp lt small asleep) = all_put_apart w.servers k (blanked (w.servers k)) (λ n (s : Server). IsFirst n s.own)
      (λ n ne. same_first n (w.servers n).own refl) (λ runs. true_false runs asleep)
  happens_first state _ (Turns c stamp in_call reacted lt c_lt turned onward) = λ n. same_first n (w.servers n).own refl

pub marks_first : (script : Script) (records : List Record) → IsSound script → AreSteps script records → MarksFirst script records
marks_first script records sound legal prefix suffix own e n cell =
    let it = more_of script sound prefix own (before_part script (prefix ++ own ∷ []) suffix
    (subst (AreSteps script) (e ∙ sym (append_assoc prefix (own ∷ []) suffix)) legal)) in
    let happens = happened_in it (chosen_state (setting_in it.prior) (after (longer it))) (below_itself _) in
    record {
      marked = λ runs on leads changed. happens_first it.prior cell _ (after (longer it)) happens n runs on leads
          (λ same. changed (ap (λ (v : World). chain_in (v.servers n).own.store.chains cell) (sym (stepped_in it)) ∙ same));
    }
