-- A server with its two stores, as the rules see it.
use Rattle.std.specs.Prelude.{◌≡◌, ◌<◌, ◌≤◌, ◌+◌, ℕ, Bool, true, false, Option, None, Some, is_some, IfSome, List, []}
use Rattle.kept_chains.specs.Kept.{store_of}
use Rattle.spec_rules.specs.declared.step.Step.{Step}
use Rattle.server_host.specs.Desks.{Site, acted_at, left_of}
use Rattle.server_core.specs.ServerView.{ServerView, server_of}
use Rattle.server_log.specs.Done as logs
use Rattle.pair_memory.specs.JobResult.{HoldsAt}
use Rattle.pair_memory.specs.PairMemory.{HasTicketsAt}
use Rattle.petal_disk.specs.declared.disk.Disk.{Ghosts}
use Rattle.server_store.specs.Holdings.{Holdings}
use Rattle.server_store.specs.Shown.{Holds}
use Rattle.server_store.specs.Slots.{slot_start}
use Rattle.state_store.specs.Device.{Keeping, Holds as Keeps}

-- the store that is to be made on a blank device, which takes the place of this store's: empty, and to be filled by others
abbrev pub store_on : {D : Type 0} → D → Holdings D → Holdings D
store_on disk store =
    record store { entries = []; tickets = []; marks = []; rows = []; fresh = true; log = record store.log { fresh = true; records = [] }; disk = disk }

-- what is there of a store, where a blank device may have taken the place of its own
abbrev pub store_at : {D : Type 0} → Option D → Holdings D → Holdings D
store_at None store = store
store_at (Some disk) store = store_on disk store

-- a server's core, its store and its state store
pub record Mounted (D : Type 0) : Type 0 where
  pub core : ServerView
  pub store : Holdings D
  pub state : Keeping D

-- its number, how many servers there are and the server of the rules, with all that it has in memory
abbrev pub whole_of : {D : Type 0} → Mounted D → Site
whole_of mounted = record {
  me = mounted.core.log.voter.me;
  servers = mounted.core.log.voter.servers;
  server = server_of mounted.core (store_of mounted.store) mounted.state.records;
}

-- what is left of the server
abbrev pub left_at : Site → Site
left_at site = record site { server = left_of site.server }

abbrev pub site_of : {D : Type 0} → Mounted D → Site
site_of mounted = left_at (whole_of mounted)

-- how often its two devices have failed
abbrev pub faults_of : {D : Type 0} → Ghosts D → Mounted D → ℕ
faults_of device mounted = device.faults mounted.store.disk + device.faults mounted.state.disk

-- one of its two devices has failed since
abbrev pub HasFailed : {D : Type 0} → Ghosts D → (old new : Mounted D) → Type 0
HasFailed device old new = faults_of device old < faults_of device new

-- what calls can have made of its two devices
pub record Ran {D : Type 0} (device : Ghosts D) (old new : Mounted D) : Type 0 where
  pub run : device.came_to old.store.disk new.store.disk
  pub state_run : device.came_to old.state.disk new.state.disk

-- the server after a step, with all that it has in memory
abbrev pub whole_after : Site → Step → Site
whole_after site step = record site { server = (acted_at site step).server }

-- the devices show the stores
pub record Stands {D : Type 0} (device : Ghosts D) (mounted : Mounted D) : Type 0 where
  pub store : HoldsAt device mounted.store
  pub state : logs.HoldsAt device mounted.state

-- where a server runs whose stores are known, the tickets stand where they are needed; a blank device may have taken the place of the
-- data device of one that has stopped, and the slots fit it
pub record IsFit {D : Type 0} (size : D → ℕ) (over : Bool) (blank : Option D) (mounted : Mounted D) : Type 0 where
  pub tickets : over ≡ false → mounted.core.running ≡ true → HasTicketsAt mounted.core.side mounted.store
  pub rests : is_some blank ≡ true → mounted.core.running ≡ false
  pub room : IfSome blank (λ disk. slot_start mounted.store.slots ≤ size disk)

-- while its stores are known, its devices show them, but for a blank one
pub record IsShown {D : Type 0} (seen : D → List ℕ) (may_leave : D → List ℕ → Type 0) (over : Bool) (blank : Option D) (mounted : Mounted D) : Type 0 where
  pub store : over ≡ false → is_some blank ≡ false → Holds mounted.store (seen mounted.store.disk) (may_leave mounted.store.disk)
  pub state : over ≡ false
      → Keeps mounted.state.region (seen mounted.state.disk) (may_leave mounted.state.disk) mounted.state.records

-- what is known of a server, of whose devices contracts may know the bytes
pub record IsKept {D : Type 0} (size : D → ℕ) (observable : Type 0) (seen : D → List ℕ) (may_leave : D → List ℕ → Type 0) (over : Bool) (blank : Option D)
    (mounted : Mounted D) : Type 0 where
  pub fit : IsFit size over blank mounted
  pub shown : observable → IsShown seen may_leave over blank mounted
