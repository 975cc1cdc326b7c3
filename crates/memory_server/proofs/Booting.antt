-- A boot, as the rules have it.
use Rattle.std.proofs.Common.{◌≡◌, ◌≤◌, ◌<◌, ℕ, Bool, true, false, None, Some, List, [], length, Ok, Err, refl, sym, ap, subst, ◌∙◌, arith}
use Rattle.std.specs.Prelude.{not, if◌then◌else◌}
use Rattle.kept_chains.specs.Kept.{store_of}
use Rattle.server_log.specs.Done as logs
use Rattle.pair_memory.proofs.Blank.{blank}
use Rattle.pair_memory.specs.JobResult.{HoldsAt}
use Rattle.pair_memory.specs.declared.error.WorkError.TheVariants.{NoRoom}
use Rattle.petal_disk.specs.declared.disk.Disk.{Ghosts}
use Rattle.petal_msg.specs.declared.letter.Letter.{Letter}
use Rattle.spec_paxos.specs.Kept.{inc_of}
use Rattle.spec_paxos.specs.declared.record.StateRecord.{StateRecord}
use Rattle.spec_rules.specs.Boots.{boots, raised, stays}
use Rattle.spec_rules.specs.Jobs.{Acted, has_full_log}
use Rattle.petal_base.specs.Limits.{journal_records}
use Rattle.spec_rules.specs.Server.{Server}
use Rattle.spec_rules.specs.Store.{Store, blank_store}
use Rattle.spec_rules.specs.declared.step.CommitEnd.{CommitEnd}
use Rattle.spec_rules.specs.declared.step.CommitEnd.TheVariants.{Before, After}
use Rattle.spec_rules.specs.declared.step.Step.TheVariants.{Boot}
use Rattle.spec_rules.specs.declared.step.WorkEnd.{WorkEnd}
use Rattle.spec_rules.specs.declared.step.WorkEnd.TheVariants.{Done, Fault}
use Rattle.server_core.specs.Boots.{IsBoot, next_voter, raised_core, raised_records, shut}
use Rattle.server_core.specs.ServerView.{ServerView, acted, here_in, server_of}
use Rattle.server_core.proofs.Boots.{raised_are, room}
use Rattle.server_core.proofs.Rooms.{few_records}
use Rattle.server_store.specs.Holdings.{Holdings}
use Rattle.server_store.specs.Slots.{slot_start}
use Rattle.state_store.specs.Device.{Keeping}
use Rattle.server_host.specs.Desks.{Site, acted_at, left_of, may_take, site_after}
use Rattle.memory_server.proofs.Faults.{left_stopped, left_with}
use Rattle.memory_server.proofs.Seen.{seen_after, seen_letters}
use Rattle.memory_server.specs.Booted.{Booted, BootedBlank, Ended, EndedBlank, core_at}
use Rattle.memory_server.specs.Recovery.{IsReread, Shown, Shows, on_device, shown_in}
use Rattle.memory_server.specs.Server.{HasFailed, IsFit, IsShown, Mounted, Ran, Stands, faults_of, left_at, site_of, store_on, whole_after, whole_of}

-- what is left of a stopped server is told by its incarnation and by what its devices show
left_alike : (old new : Server) → old.life.running ≡ false → new.life.running ≡ false → new.life.inc ≡ old.life.inc
    → on_device new.own.store ≡ on_device old.own.store → new.log.records ≡ old.log.records → left_of new ≡ left_of old
left_alike old new off still inc store records =
    left_stopped new.life.inc new.log new.own new.queue new.life.running still
    ∙ (λ i. left_with (inc i) (store i) (records i))
    ∙ sym (left_stopped old.life.inc old.log old.own old.queue old.life.running off)

-- a stopped server whose incarnation is raised stays stopped
ends_off : (end : CommitEnd) (old new : ServerView) → new ≡ core_at end old → old.running ≡ false → new.running ≡ false
ends_off Before old new same off = ap (λ (it : ServerView). it.running) same ∙ off
ends_off After old new same off = ap (λ (it : ServerView). it.running) same ∙ off

-- what a boot leaves on the devices, where the incarnation is raised
abbrev pub raised_in : {D : Type 0} → Holdings D → Keeping D → Shown
raised_in store state = record { store = store_of store; records = raised_records state.records }

module _ {D : Type 0} (old : Mounted D) (core : ServerView) (store : Holdings D) (state : Keeping D) where
  abbrev was : Server
  was = server_of old.core (store_of old.store) old.state.records

  -- a server that runs, with the store of its device
  pub booted_site : (letters : List Letter) → store_of store ≡ shut (store_of old.store) → core.log.voter ≡ next_voter old.core.log.voter
      → acted core (shut (store_of old.store)) state.records letters ≡ boots (here_in old.core) was Done
      → site_of (record { core = core; store = store; state = state }) ≡ left_at (whole_after (whole_of old) (Boot Done))
  booted_site letters stored voter is = λ i. record {
    me = (voter i).me;
    servers = (voter i).servers;
    server = left_of ((ap (λ (s : Store). server_of core s state.records) stored ∙ ap (λ (left : Acted). left.server) is) i);
  }

  pub booted_letters : (letters : List Letter) → acted core (shut (store_of old.store)) state.records letters ≡ boots (here_in old.core) was Done
      → letters ≡ (acted_at (whole_of old) (Boot Done)).letters
  booted_letters letters is = ap (λ (left : Acted). left.letters) is

  -- one that stays stopped, with what its devices show
  pub stayed_site : core ≡ old.core → old.core.running ≡ false → store_of store ≡ shut (store_of old.store) → state.records ≡ old.state.records
      → site_of (record { core = core; store = store; state = state }) ≡ left_at (whole_of old)
  stayed_site same off stored records = λ i. record {
    me = (same i).log.voter.me;
    servers = (same i).log.voter.servers;
    server = left_alike was (server_of core (store_of store) state.records) off (ap (λ (it : ServerView). it.running) same ∙ off)
        (ap (λ (it : ServerView). it.log.voter.inc) same) (ap on_device stored) records i;
  }

  -- one whose journal has no room for the incarnation
  pub full_site : core ≡ old.core → old.core.running ≡ false → store_of store ≡ shut (store_of old.store) → state.records ≡ old.state.records
      → boots (here_in old.core) was Done ≡ stays was
      → site_of (record { core = core; store = store; state = state }) ≡ left_at (whole_after (whole_of old) (Boot Done))
  full_site same off stored records is =
      stayed_site same off stored records ∙ sym (ap (λ (left : Acted). left_at (record (whole_of old) { server = left.server })) is)

  -- one whose incarnation was raised before its state device failed
  pub raised_site : core ≡ raised_core old.core → old.core.running ≡ false → old.core.log.voter.inc ≡ inc_of old.state.records
      → store_of store ≡ shut (store_of old.store) → state.records ≡ raised_records old.state.records
      → length state.records ≤ journal_records
      → site_of (record { core = core; store = store; state = state }) ≡ left_at (whole_after (whole_of old) (Boot (Fault After)))
  raised_site same off known stored records few_log =
      let fits : has_full_log (raised was) ≡ false
      = room old.core (store_of old.store) old.state.records known
      (subst (λ (rs : List StateRecord). length rs ≤ journal_records) records few_log) in
      let left : left_of (server_of core (store_of store) state.records) ≡ left_of (raised was)
      = left_alike (raised was) (server_of core (store_of store) state.records) off (ap (λ (it : ServerView). it.running) same ∙ off)
      (ap (λ (it : ServerView). it.log.voter.inc) same) (ap on_device stored)
      (records ∙ sym (raised_are old.core (store_of old.store) old.state.records known)) in
      λ i. record {
        me = (same i).log.voter.me;
        servers = (same i).log.voter.servers;
        server = (left ∙ sym (ap (λ (full : Bool). left_of (if full then was else raised was)) fits)) i;
      }

  -- one whose state device failed, and whose devices show whether the incarnation was raised
  pub failed_site : (end : CommitEnd) (between : Shown) → core ≡ core_at end old.core → old.core.running ≡ false
      → old.core.log.voter.inc ≡ inc_of old.state.records → between.store ≡ shut (store_of old.store) → between.records ≡ old.state.records
      → Shows end between (record between { records = raised_records between.records }) (store_of store) state.records
      → length state.records ≤ journal_records
      → site_of (record { core = core; store = store; state = state }) ≡ left_at (whole_after (whole_of old) (Boot (Fault end)))
  failed_site Before between same off known stored records shows few_log =
      stayed_site same off (shows.store_is ∙ ap on_device stored) (shows.records_are ∙ records)
  failed_site After between same off known stored records shows few_log =
      raised_site same off known (shows.store_is ∙ ap on_device stored) (shows.records_are ∙ ap raised_records records) few_log

full_letters : {D : Type 0} (old : Mounted D) → boots (here_in old.core) (server_of old.core (store_of old.store) old.state.records) Done
    ≡ stays (server_of old.core (store_of old.store) old.state.records)
    → [] ≡ (acted_at (whole_of old) (Boot Done)).letters
full_letters old is = sym (ap (λ (left : Acted). left.letters) is)

failed_letters : {D : Type 0} (old : Mounted D) (end : CommitEnd) → [] ≡ (acted_at (whole_of old) (Boot (Fault end))).letters
failed_letters old Before = refl
failed_letters old After = refl

-- ### Over the devices

module _ {D : Type 0} (device : Ghosts D) (observed : device.observable) (old : Mounted D) (off : old.core.running ≡ false)
    (holds : HoldsAt device old.store) (kept : logs.HoldsAt device old.state) (opened : old.store.tickets ≡ []) where
  -- no slot is set apart
  closed : store_of old.store ≡ shut (store_of old.store)
  closed = ap (λ (ts : List ℕ). record (store_of old.store) { tickets = length ts }) opened

  pub boot_done : (core : ServerView) (state : Keeping D) (letters : List Letter) → IsBoot device old.core core old.state state (Ok letters)
      → Booted device old (record { core = core; store = old.store; state = state }) Done letters
  boot_done core state letters boot =
      let is = boot.step observed kept (store_of old.store) in
      record {
        site = booted_site old core old.store state letters closed boot.voter is;
        sends = booted_letters old core old.store state letters is;
        stands = record { store = holds; state = boot.holds observed kept };
      }

  pub boot_full : (core : ServerView) (state : Keeping D) → IsBoot device old.core core old.state state (Err NoRoom)
      → Booted device old (record { core = core; store = old.store; state = state }) Done []
  boot_full core state boot =
      let full = boot.full refl in
      let is = full.stays observed kept (store_of old.store) in
      record {
        site = full_site old core old.store state full.same.0 off closed (ap (λ (k : Keeping D). k.records) full.same.1) is;
        sends = full_letters old is;
        stands = record { store = holds; state = subst (λ (k : Keeping D). logs.HoldsAt device k) (sym full.same.1) kept };
      }

  -- the devices were opened again, and show whether the incarnation was raised
  pub boot_failed : (end : CommitEnd) (core : ServerView) (store : Holdings D) (state : Keeping D) → core ≡ core_at end old.core
      → old.core.log.voter.inc ≡ inc_of old.state.records
      → Shows end (shown_in old.store old.state.records) (raised_in old.store old.state) (store_of store) state.records
      → HoldsAt device store → logs.HoldsAt device state → Booted device old (record { core = core; store = store; state = state }) (Fault end) []
  boot_failed end core store state same known shows holds' kept' =
      record {
        site = failed_site old core store state end (shown_in old.store old.state.records) same off known closed refl shows
            (few_records device state kept');
        sends = failed_letters old end;
        stands = record { store = holds'; state = kept' };
      }

-- what a boot tells, whatever is known of the bytes
module _ {D : Type 0} (device : Ghosts D) (old : Mounted D) (off : old.core.running ≡ false) where
  pub done_ended : (core : ServerView) (state : Keeping D) (letters : List Letter) → old.store.tickets ≡ []
      → IsBoot device old.core core old.state state (Ok letters) → device.came_to old.store.disk old.store.disk
      → Ended device old (record { core = core; store = old.store; state = state }) Done
  done_ended core state letters opened boot rests = record {
    tickets = λ _. blank core.side old.store boot.side opened;
    cause = λ no. absurd no;
    run = record { run = rests; state_run = boot.run };
  }

  pub full_ended : (core : ServerView) (state : Keeping D) → IsBoot device old.core core old.state state (Err NoRoom)
      → device.came_to old.store.disk old.store.disk → Ended device old (record { core = core; store = old.store; state = state }) Done
  full_ended core state boot rests =
      let full = boot.full refl in
      let still : core.running ≡ false = ap (λ (it : ServerView). it.running) full.same.0 ∙ off in
      record { tickets = λ on. absurd (cc); cause = λ no. absurd no; run = record { run = rests; state_run = boot.run } }

  pub failed_ended : (end : CommitEnd) (core : ServerView) (store : Holdings D) (state : Keeping D) → core ≡ core_at end old.core
      → HasFailed device old (record { core = core; store = store; state = state })
      → Ran device old (record { core = core; store = store; state = state })
      → Ended device old (record { core = core; store = store; state = state }) (Fault end)
  failed_ended end core store state same failed run =
      let still = ends_off end old.core core same off in record { tickets = λ on. absurd (cc); cause = λ _. failed; run = run }

-- ### Before the stores were opened again

module _ {D : Type 0} {device : Ghosts D} (old : Mounted D) (store : Holdings D) (state : Keeping D) (off : old.core.running ≡ false)
    (again : IsReread device old.store store old.state state) where
  abbrev between : Mounted D
  between = record { core = old.core; store = store; state = state }

  same_site : site_of between ≡ site_of old
  same_site = stayed_site old old.core store state refl off again.store_is again.records_are

  may : (end : WorkEnd) → may_take (Boot end) old.core.running ≡ true
  may end = ap (λ (running : Bool). not running) off

  -- what was so of a boot from then on is so of it from before
  pub from_before : {new : Mounted D} {end : WorkEnd} {letters : List Letter} → Booted device between new end letters → Booted device old new end letters
  from_before {new} {end} {letters} booted = record {
    site =
        seen_after (whole_of between) (Boot end) (may end) (whole_of new) booted.site
        ∙ ap (λ (site : Site). site_after site (Boot end)) same_site
        ∙ sym (seen_after (whole_of old) (Boot end) (may end) (whole_after (whole_of old) (Boot end)) refl);
    sends =
        seen_letters (whole_of between) (Boot end) (may end) letters booted.sends
        ∙ ap (λ (site : Site). (acted_at site (Boot end)).letters) same_site
        ∙ sym (seen_letters (whole_of old) (Boot end) (may end) (acted_at (whole_of old) (Boot end)).letters refl);
    stands = booted.stands;
  }

-- what a boot tells from then on it tells from before
pub ended_before : {D : Type 0} (device : Ghosts D) (old between : Mounted D) {new : Mounted D} {end : WorkEnd}
    → faults_of device old ≤ faults_of device between → Ran device old new → Ended device between new end → Ended device old new end
ended_before device old between later run ended = record {
  tickets = ended.tickets;
  cause = λ fault. let failed = ended.cause fault in omega (arith, later, failed);
  run = run;
}

-- ### Once it has ended

pub stands_shown : {D : Type 0} (device : Ghosts D) {new : Mounted D} → Stands device new → IsShown device.seen device.may_leave false None new
stands_shown device stands = record { store = λ _ _. stands.store; state = λ _. stands.state }

pub ended_fit : {D : Type 0} (device : Ghosts D) {old new : Mounted D} {end : WorkEnd} → Ended device old new end → IsFit device.size false None new
ended_fit device ended = record { tickets = λ _. ended.tickets; rests = λ no. absurd (cc); room = tt }

-- ### A blank device

module _ {D : Type 0} (device : Ghosts D) (core : ServerView) (store : Holdings D) (state : Keeping D) (disk : D) where
  abbrev empty : Mounted D
  empty = record { core = core; store = store_on disk store; state = state }

  -- a store was made there, with which the server booted
  pub booted_on : (made : Holdings D) (new : Mounted D) (end : WorkEnd) (letters : List Letter) → store_of made ≡ blank_store store.slots
      → Booted device (record { core = core; store = made; state = state }) new end letters → BootedBlank device empty new None end letters
  booted_on made new end letters is booted =
      let same : whole_of (record { core = core; store = made; state = state }) ≡ whole_of empty
      = ap (λ (s : Store). record { me = core.log.voter.me; servers = core.log.voter.servers; server = server_of core s state.records }) is in
      record {
        site = booted.site ∙ ap (λ (site : Site). left_at (whole_after site (Boot end))) same;
        sends = booted.sends ∙ ap (λ (site : Site). (acted_at site (Boot end)).letters) same;
        shown = stands_shown device booted.stands;
      }

  pub ended_on : (made : Holdings D) (new : Mounted D) (end : WorkEnd) → device.faults disk ≤ device.faults made.disk → Ran device empty new
      → Ended device (record { core = core; store = made; state = state }) new end → EndedBlank device empty new None end
  ended_on made new end later run ended = record {
    fit = ended_fit device ended;
    cause = λ fault. let failed = ended.cause fault in omega (arith, later, failed);
    run = run;
  }

  -- the device failed, and was handed back
  pub failed_on : (back : D) → logs.HoldsAt device state
      → BootedBlank device empty (record { core = core; store = store; state = state }) (Some back) (Fault Before) []
  failed_on back kept = record { site = refl; sends = refl; shown = record { store = λ _ no. absurd (cc); state = λ _. kept } }

  pub ended_failed : (back : D) → core.running ≡ false → slot_start store.slots ≤ device.size back → device.faults disk < device.faults back
      → device.came_to disk back → device.came_to state.disk state.disk
      → EndedBlank device empty (record { core = core; store = store; state = state }) (Some back) (Fault Before)
  ended_failed back off room failed run rests = record {
    fit = record { tickets = λ _ on. absurd (cc); rests = λ _. off; room = room };
    cause = λ _. omega (arith, failed);
    run = record { run = run; state_run = rests };
  }

-- a server whose data device was no blank one booted
pub booted_own : {D : Type 0} (device : Ghosts D) {old new : Mounted D} {end : WorkEnd} {letters : List Letter}
    → Booted device old new end letters → BootedBlank device old new None end letters
booted_own device booted = record { site = booted.site; sends = booted.sends; shown = stands_shown device booted.stands }

pub ended_own : {D : Type 0} (device : Ghosts D) {old new : Mounted D} {end : WorkEnd} → Ended device old new end → EndedBlank device old new None end
ended_own device ended = record { fit = ended_fit device ended; cause = ended.cause; run = ended.run }
