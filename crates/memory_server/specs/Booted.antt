-- What a step in which a device may fail leaves of a server.
use Rattle.std.specs.Prelude.{◌≡◌, true, false, List, Option}
use Rattle.petal_disk.specs.declared.disk.Disk.{Ghosts}
use Rattle.petal_msg.specs.declared.letter.Letter.{Letter}
use Rattle.spec_rules.specs.declared.step.CommitEnd.{CommitEnd}
use Rattle.spec_rules.specs.declared.step.CommitEnd.TheVariants.{Before, After}
use Rattle.spec_rules.specs.declared.step.Step.{Step}
use Rattle.spec_rules.specs.declared.step.Step.TheVariants.{Boot, Work}
use Rattle.spec_rules.specs.declared.step.WorkEnd.{WorkEnd}
use Rattle.server_core.specs.Boots.{raised_core}
use Rattle.server_core.specs.ServerView.{ServerView}
use Rattle.pair_memory.specs.PairMemory.{HasTicketsAt}
use Rattle.server_host.specs.Desks.{IsFault, acted_at, as_end}
use Rattle.memory_server.specs.Server.{HasFailed, IsFit, IsShown, Mounted, Ran, Stands, left_at, site_of, store_at, whole_after, whole_of}

-- the core of a stopped server, after a boot in which its state device failed
abbrev pub core_at : CommitEnd → ServerView → ServerView
core_at Before core = core
core_at After core = raised_core core

-- what the end of a job or a boot tells, whatever is known of the bytes of the devices: a fault comes only where one has failed
pub record Ended {D : Type 0} (device : Ghosts D) (old new : Mounted D) (end : WorkEnd) : Type 0 where
  pub tickets : new.core.running ≡ true → HasTicketsAt new.core.side new.store
  pub cause : IsFault (as_end end) → HasFailed device old new
  pub run : Ran device old new

-- so of one whose data device may have been a blank one, as it is still where no store could be made there
pub record EndedBlank {D : Type 0} (device : Ghosts D) (old new : Mounted D) (blank : Option D) (end : WorkEnd) : Type 0 where
  pub fit : IsFit device.size false blank new
  pub cause : IsFault (as_end end) → HasFailed device old (record new { store = store_at blank new.store })
  pub run : Ran device old (record new { store = store_at blank new.store })

-- a server took the step, with these letters, and its devices show its stores
pub record Took {D : Type 0} (device : Ghosts D) (old new : Mounted D) (what : Step) (letters : List Letter) : Type 0 where
  pub site : site_of new ≡ left_at (whole_after (whole_of old) what)
  pub sends : letters ≡ (acted_at (whole_of old) what).letters
  pub stands : Stands device new

-- a server did its first job, which ended so
abbrev pub Worked : {D : Type 0} → Ghosts D → (old new : Mounted D) → WorkEnd → List Letter → Type 0
Worked device old new end letters = Took device old new (Work end) letters

-- a stopped server took a boot that ended so
abbrev pub Booted : {D : Type 0} → Ghosts D → (old new : Mounted D) → WorkEnd → List Letter → Type 0
Booted device old new end letters = Took device old new (Boot end) letters

-- so did one whose data device may have been a blank one
pub record BootedBlank {D : Type 0} (device : Ghosts D) (old new : Mounted D) (blank : Option D) (end : WorkEnd) (letters : List Letter) : Type 0 where
  pub site : site_of (record new { store = store_at blank new.store }) ≡ left_at (whole_after (whole_of old) (Boot end))
  pub sends : letters ≡ (acted_at (whole_of old) (Boot end)).letters
  pub shown : IsShown device.seen device.may_leave false blank new
