-- A job that was done, or that met no room, as the rules have it.
use Rattle.std.proofs.Common.{◌≡◌, false, List, [], None, sym, ap, subst, ◌∙◌}
use Rattle.kept_chains.specs.Kept.{store_of}
use Rattle.server_log.specs.Done as logs
use Rattle.pair_memory.specs.JobResult.{HoldsAt}
use Rattle.petal_disk.specs.declared.disk.Disk.{Ghosts}
use Rattle.petal_msg.specs.declared.letter.Letter.{Letter}
use Rattle.spec_rules.specs.Jobs.{Acted, stops, works}
use Rattle.spec_paxos.specs.declared.record.StateRecord.{StateRecord}
use Rattle.spec_rules.specs.Store.{Store}
use Rattle.spec_rules.specs.declared.step.Step.TheVariants.{Work}
use Rattle.spec_rules.specs.declared.step.WorkEnd.TheVariants.{Done}
use Rattle.server_core.specs.ServerView.{ServerView, IsWork, acted, here_in, server_of}
use Rattle.server_core.specs.Work.{IsFullWork}
use Rattle.server_store.specs.Holdings.{Holdings}
use Rattle.state_store.specs.Device.{Keeping}
use Rattle.memory_server.specs.Booted.{Worked}
use Rattle.memory_server.specs.Server.{Mounted, Stands, left_at, whole_after, whole_of}

module _ {D : Type 0} (device : Ghosts D) (observed : device.observable) (old : Mounted D) (stands : Stands device old) where
  -- what the rule leaves is what is there
  whole_is : (new : Mounted D) (letters : List Letter) → new.core.log.voter ≡ old.core.log.voter
      → acted new.core (store_of new.store) new.state.records letters
      ≡ works (here_in old.core) (server_of old.core (store_of old.store) old.state.records) old.core.queue
      → whole_of new ≡ whole_after (whole_of old) (Work Done)
  whole_is new letters voter is = λ i. record { me = (voter i).me; servers = (voter i).servers; server = (is i).server }

  -- the job was done
  pub work_done : (new : Mounted D) (letters : List Letter)
      → acted new.core (store_of new.store) new.state.records letters
      ≡ works (here_in old.core) (server_of old.core (store_of old.store) old.state.records) old.core.queue
      → new.core.log.voter ≡ old.core.log.voter → HoldsAt device new.store → logs.HoldsAt device new.state → Worked device old new Done letters
  work_done new letters is voter holds kept = record {
    site = λ i. left_at (whole_is new letters voter is i);
    sends = ap (λ (left : Acted). left.letters) is;
    stands = record { store = holds; state = kept };
  }

  -- there was none
  pub none_done : (new : Mounted D)
      → IsWork old.core (store_of old.store) old.state.records new.core (store_of new.store) new.state.records None
      → acted new.core (store_of new.store) new.state.records []
      ≡ works (here_in old.core) (server_of old.core (store_of old.store) old.state.records) old.core.queue
  none_done new is =
      (λ i. acted (is.1 i) (is.2 i) (is.3 i) [])
      ∙ sym (ap (works (here_in old.core) (server_of old.core (store_of old.store) old.state.records)) is.0)

  -- the server stopped, since a device had no room for its commit
  pub full_done : (core new : ServerView) (store : Holdings D) (state : Keeping D) (letters : List Letter)
      → IsFullWork device device old.core core old.store store old.state state
      → ((kept : Store) (records : List StateRecord) → acted new kept records letters ≡ stops (here_in core) (server_of core kept records))
      → new ≡ record core { running = false; queue = [] }
      → Worked device old (record { core = new; store = store; state = state }) Done letters
  full_done core new store state letters full step rest =
      let voter : new.log.voter ≡ old.core.log.voter = ap (λ (it : ServerView). it.log.voter) rest ∙ ap (λ (it : ServerView). it.log.voter) full.same.0 in
      let stored : store_of store ≡ store_of old.store = ap store_of full.same.1 in
      let recorded : state.records ≡ old.state.records = ap (λ (k : Keeping D). k.records) full.same.2 in
      let is : acted new (store_of store) state.records letters
      ≡ works (here_in old.core) (server_of old.core (store_of old.store) old.state.records) old.core.queue
      = step (store_of store) state.records
      ∙ (λ i. stops (here_in (full.same.0 i)) (server_of (full.same.0 i) (stored i) (recorded i)))
      ∙ sym (full.stops observed observed stands.store stands.state) in
      record {
        site = λ i. left_at (whole_is (record { core = new; store = store; state = state }) letters voter is i);
        sends = ap (λ (left : Acted). left.letters) is;
        stands = record {
          store = subst (HoldsAt device) (sym full.same.1) stands.store;
          state = subst (λ (k : Keeping D). logs.HoldsAt device k) (sym full.same.2) stands.state;
        };
      }
