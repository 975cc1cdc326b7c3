-- A job in which a device failed, as the rules have it.
use Rattle.std.proofs.Common.{◌≡◌, ◌⊎◌, ◌≤◌, inl, inr, ℕ, Bool, true, false, List, [], ◌∷◌, Option, Some, None, Err, length, refl, sym, ap, ◌∙◌, arith}
use Rattle.std.specs.Prelude.{if◌then◌else◌}
use Rattle.kept_chains.specs.Kept.{store_of}
use Rattle.server_log.specs.Done as logs
use Rattle.pair_memory.specs.JobResult.{HoldsAt}
use Rattle.pair_memory.specs.declared.error.WorkError.TheVariants.{Failed}
use Rattle.petal_disk.specs.declared.disk.Disk.{Ghosts}
use Rattle.global_tables.specs.declared.link.LinkRow.{LinkRow}
use Rattle.petal_command.specs.declared.command.Command.{Command}
use Rattle.petal_command.specs.declared.command.Command.TheVariants.{Caught}
use Rattle.spec_paxos.specs.declared.record.StateRecord.{StateRecord}
use Rattle.spec_rules.specs.Entries.{applies}
use Rattle.spec_rules.specs.Jobs.{Acted, does, entered, faults, is_log_job, job_done, log_does, stops, voter_of, worked, works}
use Rattle.petal_base.specs.Limits.{journal_records, marks_limit}
use Rattle.spec_rules.specs.Log.{Log, Voter, first_log, known, next_place}
use Rattle.spec_rules.specs.Returns.{holds_link, proposed}
use Rattle.spec_rules.specs.Server.{JobContext, PairState, Server, no_copies, no_pairs, stopped}
use Rattle.spec_rules.specs.State.{State, link_named}
use Rattle.spec_rules.specs.Store.{Store, marked_by}
use Rattle.spec_rules.specs.declared.job.Job.{Job}
use Rattle.spec_rules.specs.declared.job.Job.TheVariants as job
use Rattle.spec_rules.specs.declared.step.CommitEnd.{CommitEnd}
use Rattle.spec_rules.specs.declared.step.CommitEnd.TheVariants.{Before, After}
use Rattle.spec_rules.specs.declared.step.Step.TheVariants.{Work}
use Rattle.spec_rules.specs.declared.step.WorkEnd.TheVariants.{Fault}
use Rattle.server_core.specs.ServerView.{ServerView, HasFaults, after_first, here_in, left_by_first, server_of}
use Rattle.server_core.specs.Farewell.{farewell_of}
use Rattle.server_core.proofs.Rooms.{few_marked, few_records}
use Rattle.server_core.proofs.Stops.{stopped_with}
use Rattle.server_core.proofs.Works.{applies_records, fits}
use Rattle.server_store.specs.Holdings.{Holdings}
use Rattle.state_store.specs.Device.{Keeping}
use Rattle.server_host.specs.Desks.{acted_at, left_of}
use Rattle.memory_server.specs.Recovery.{CommitsOnce, Shown, Shows, on_device, shown_in}
use Rattle.memory_server.proofs.Recovering.{stays_of}
use Rattle.memory_server.specs.Server.{HasFailed, Mounted, Stands, left_at, site_of, whole_after, whole_of}

-- ### What a job commits

abbrev pub shown_of : Server → Shown
shown_of server = record { store = server.own.store; records = server.log.records }

held_store : (own : PairState) (found : Option LinkRow) → (holds_link own found).store ≡ own.store
held_store own None = refl
held_store own (Some row) = refl

-- a ballot that starts leaves the store
proposed_store : (state : State) (own : PairState) (found : Option Command) → (proposed state own found).store ≡ own.store
proposed_store state own (Some (Caught of link holder holder_inc other other_inc)) =
    held_store own (link_named state (record { map = of; link = link }))
proposed_store state own _ = refl

-- a job that commits to at most one device, and keeps the server's life
record Commits (server left : Server) : Type 0 where
  once : (left.log.records ≡ server.log.records) ⊎ (on_device left.own.store ≡ on_device server.own.store)
  life : left.life ≡ server.life

one_part : (here : JobContext) (server : Server) (first : Job) (rest : List Job) (of_log : Bool)
    → Commits server (if of_log then entered here server rest (log_does (voter_of here) server.log first)
    else worked here server rest (does here server.own first)).server
one_part here server first rest true = record { once = inr refl; life = refl }
one_part here server first rest false = record { once = inl refl; life = refl }

commits : (here : JobContext) (server : Server) (queue : List Job) → Commits server (after_first here server queue)
unfolding applies
commits here server [] = record { once = inl refl; life = refl }
commits here server (job.Apply ∷ rest) = record { once = inl (applies_records server.log (known server.log (next_place server.log))); life = refl }
commits here server (job.Letter letter ∷ rest) = one_part here server (job.Letter letter) rest (is_log_job (job.Letter letter))
commits here server (job.Stage cell ∷ rest) = one_part here server (job.Stage cell) rest false
commits here server (job.Repair link ∷ rest) = one_part here server (job.Repair link) rest false
commits here server (job.Sweep ∷ rest) = one_part here server job.Sweep rest false
commits here server (job.Start ∷ rest) = record { once = inr (ap on_device (proposed_store here.state server.own _)); life = refl }

works_is : (here : JobContext) (server : Server) (queue : List Job) → marked_by (after_first here server queue).own.store ≤ marks_limit
    → length (after_first here server queue).log.records ≤ journal_records → (works here server queue).server ≡ after_first here server queue
works_is here server [] few few_log = refl
works_is here server (first ∷ rest) few few_log = ap (λ (left : Acted). left.server) (fits here server (job_done here server first rest) few few_log)

-- ### What is left of the server

-- what is left of a stopped server with this on its devices
abbrev pub left_with : ℕ → Store → List StateRecord → Server
left_with inc store records = record {
  life = record { running = false; inc = inc };
  log = record first_log { records = records };
  own = record { pairs = no_pairs; copies = no_copies; filled = []; store = on_device store };
  queue = [];
}

fault_left : (here : JobContext) (server : Server) (queue : List Job) (end : CommitEnd) (store : Store) (records : List StateRecord)
    → Shows end (shown_of server) (shown_of (after_first here server queue)) store records → marked_by store ≤ marks_limit
    → length records ≤ journal_records
    → left_with server.life.inc store records ≡ left_of (faults here server queue end).server
fault_left here server queue Before store records shows few few_log = λ i. left_with server.life.inc (shows.store_is i) (shows.records_are i)
fault_left here server queue After store records shows few few_log =
    let left = after_first here server queue in
    let few_left : marked_by left.own.store ≤ marks_limit = let same = ap (λ (s : Store). marked_by s) shows.store_is in omega (arith, same, few) in
    let few_records : length left.log.records ≤ journal_records
    = let same = ap (λ (rs : List StateRecord). length rs) shows.records_are in omega (arith, same, few_log) in
    let life = (commits here server queue).life in
    (λ i. left_with (sym life i).inc (shows.store_is i) (shows.records_are i))
    ∙ ap (λ (s : Server). left_of (stopped s)) (sym (works_is here server queue few_left few_records))

-- a job that left the records where it may have changed the store, as the rules have it
pub fault_commits : {D : Type 0} (device : Ghosts D) (old : Mounted D) (store : Holdings D) → HoldsAt device old.store
    → (store ≡ old.store) ⊎ ((left_by_first old.core (store_of old.store) old.state.records).log.records ≡ old.state.records)
    → CommitsOnce device store.disk old.store old.state.records (shown_of (left_by_first old.core (store_of old.store) old.state.records))
fault_commits device old store holds (inr same) = inl same
fault_commits {D = D} device old store holds (inl same) =
    let left = (left_by_first old.core (store_of old.store) old.state.records).own.store in
    elim ((commits (here_in old.core) (server_of old.core (store_of old.store) old.state.records) old.core.queue).once) [
      | inl records ↦ inl records
      | inr alike ↦ inr (stays_of device store.disk old.store left (ap (λ (s : Holdings D). s.disk) same) holds alike)
    ]

pub left_stopped : (inc : ℕ) (log : Log) (own : PairState) (queue : List Job) (running : Bool) → running ≡ false
    → left_of (record { life = record { running = running; inc = inc }; log = log; own = own; queue = queue }) ≡ left_with inc own.store log.records
left_stopped inc log own queue true off = absurd (cc)
left_stopped inc log own queue false off = refl

-- a server that has stopped, and whose devices show how its job ended
pub fault_site : {D : Type 0} (old : Mounted D) (core : ServerView) (store : Holdings D) (state : Keeping D) (end : CommitEnd)
    → core.running ≡ false → core.log.voter ≡ old.core.log.voter
    → Shows end (shown_in old.store old.state.records)
    (shown_of (left_by_first old.core (store_of old.store) old.state.records)) (store_of store) state.records
    → marked_by (store_of store) ≤ marks_limit → length state.records ≤ journal_records
    → site_of (record { core = core; store = store; state = state }) ≡ left_at (whole_after (whole_of old) (Work (Fault end)))
fault_site old core store state end off voter shows few few_log =
    let server = server_of core (store_of store) state.records in
    let is_left : left_of server ≡ left_with core.log.voter.inc (store_of store) state.records
    = left_stopped core.log.voter.inc server.log server.own core.queue core.running off in
    let left = fault_left (here_in old.core) (server_of old.core (store_of old.store) old.state.records) old.core.queue end
    (store_of store) state.records shows few few_log in
    λ i. record {
      me = (voter i).me;
      servers = (voter i).servers;
      server = (is_left ∙ ap (λ (v : Voter). left_with v.inc (store_of store) state.records) voter ∙ left) i;
    }

-- ### What it sends

faults_say : (here : JobContext) (server : Server) (queue : List Job) (end : CommitEnd) → (faults here server queue end).letters ≡ (stops here server).letters
faults_say here server queue Before = refl
faults_say here server queue After = refl

stops_say : (core : ServerView) (store : Store) (records : List StateRecord)
    → (stops (here_in core) (server_of core store records)).letters ≡ farewell_of core.log.voter
stops_say core store records = sym (ap (λ (left : Acted). left.letters) (stopped_with core store records (farewell_of core.log.voter) refl))

-- a server that stops says the same, whatever it has in memory
pub stops_letters : (core old : ServerView) (store : Store) (records : List StateRecord) → core.log.voter ≡ old.log.voter
    → (stops (here_in core) (server_of core store records)).letters ≡ (stops (here_in old) (server_of old store records)).letters
stops_letters core old store records voter = stops_say core store records ∙ ap farewell_of voter ∙ sym (stops_say old store records)

pub fault_letters : {D : Type 0} (old : Mounted D) (end : CommitEnd)
    → (acted_at (whole_of old) (Work (Fault end))).letters ≡ (stops (here_in old.core) (server_of old.core (store_of old.store) old.state.records)).letters
fault_letters old end = faults_say (here_in old.core) (server_of old.core (store_of old.store) old.state.records) old.core.queue end

-- ### Room

-- devices that show stores have no more than there may be
module _ {D : Type 0} {device : Ghosts D} {old : Mounted D} (stands : Stands device old) where
  pub few_after : (store : Holdings D) (state : Keeping D) → HoldsAt device store → logs.HoldsAt device state
      → (marked_by (store_of store) ≤ marks_limit) × (length state.records ≤ journal_records)
  few_after store state holds kept = (few_marked device store holds, few_records device state kept)

-- ### Counts of faults

-- a device failed in the job, and both were opened again
pub has_failed : {D T : Type 0} (device : Ghosts D) (old : Mounted D) (store : Holdings D) (state : Keeping D) (core : ServerView)
    (again : Holdings D) (kept : Keeping D)
    → HasFaults {T = T} (device.faults old.store.disk) (device.faults store.disk) (device.faults old.state.disk) (device.faults state.disk) (Err Failed)
    → (device.faults store.disk ≤ device.faults again.disk) × (device.faults state.disk ≤ device.faults kept.disk)
    → HasFailed device old (record { core = core; store = again; state = kept })
has_failed device old store state core again kept cause later =
    let data_later = cause.data_later in
    let state_later = cause.state_later in
    let again_later = later.0 in
    let kept_later = later.1 in
    elim (cause.failed refl) [
      | inl more ↦ omega (arith, more, data_later, state_later, again_later, kept_later)
      | inr more ↦ omega (arith, more, data_later, state_later, again_later, kept_later)
    ]
