-- What a job leaves, and what every job keeps.
use Rattle.std.specs.Prelude.{◌≡◌, ◌≤◌, ◌<◌, ℕ, ◌+◌, ◌-◌, ◌^◌, List, [], ◌∷◌, Option, None, Some, Result, Err, IfOk, IfErr, OnOk, OnErr}
use Rattle.petal_disk.specs.Disk.{LeavesOnly}
use Rattle.petal_disk.specs.declared.disk.Disk.{Ghosts}
use Rattle.petal_msg.specs.declared.letter.Letter.{Letter}
use Rattle.physical_map.specs.Entries.{top_of}
use Rattle.spec_rules.specs.Server.{PairState, JobContext, sender, letters_of}
use Rattle.spec_rules.specs.Server.{JobResult as Rule}
use Rattle.spec_rules.specs.Store.{marked_by}
use Rattle.spec_rules.specs.World.{greatest_u64}
use Rattle.spec_rules.specs.declared.job.Job.{Job}
use Rattle.spec_rules.specs.declared.job.Job.TheVariants as job
use Rattle.kept_chains.specs.Holdings.{Holdings, kept_in, listed, marked_in}
pub use Rattle.kept_chains.specs.Shown.{HoldsAt}
use Rattle.kept_chains.specs.Standing.{StandsAsEither}
use Rattle.pair_memory.specs.declared.error.WorkError.{WorkError}
use Rattle.pair_memory.specs.declared.error.WorkError.TheVariants.{Failed, NoRoom, NoMemory, Exhausted}
use Rattle.pair_memory.specs.declared.job_result.JobResult.{JobResult}
use Rattle.pair_memory.specs.declared.job_result.FollowUp.{FollowUp}
use Rattle.pair_memory.specs.declared.job_result.FollowUp.TheVariants as follow
use Rattle.pair_memory.specs.PairMemory.{PairMemory, own_of, HasTicketsAt}
use Rattle.petal_base.specs.Limits.{marks_limit}

-- letters and nothing else
abbrev pub only : List Letter → JobResult
only letters = record { letters = letters; follow = None }

abbrev pub follow_up : Option FollowUp → List Job
follow_up None = []
follow_up (Some (follow.Stage cell)) = job.Stage cell ∷ []
follow_up (Some (follow.Repair link)) = job.Repair link ∷ []
follow_up (Some follow.Sweep) = job.Sweep ∷ []

-- what a job left of the server's own part, its letters and the jobs that follow it up are what the rule says
pub record IsBy (here : JobContext) (left : PairState) (done : JobResult) (rule : Rule) : Type 0 where
  pub own : left ≡ rule.own
  pub letters : done.letters ≡ letters_of (sender here) 0 rule.posts
  pub jobs : follow_up done.follow ≡ rule.jobs

-- the greatest version of the store can still be counted up
abbrev pub HasVersions : {D : Type 0} → Holdings D → Type 0
HasVersions store = top_of (listed store.entries) < 2 ^ 64 - 1

-- what a server has in memory of its pairs, and its store
pub record Held (D : Type 0) : Type 0 where
  pub side : PairMemory
  pub store : Holdings D

abbrev pub held : {D : Type 0} → PairMemory → Holdings D → Held D
held side store = record { side = side; store = store }

-- a job can be done: the tickets stand where they are needed, and the greatest version can be counted up
pub record IsReady {D : Type 0} (side : PairMemory) (store : Holdings D) : Type 0 where
  pub tickets : HasTicketsAt side store
  pub versions : HasVersions store

-- the count of faults does not fall, and `Failed` comes only where it has risen
pub record HasFault {T : Type 0} (before now : ℕ) (result : Result T WorkError) : Type 0 where
  pub later : before ≤ now
  pub failed : result ≡ Err Failed → before < now

module _ {D : Type 0} where
  -- a job without a call of the device is the rule's, and the tickets still stand where they are needed; one that was refused,
  -- for memory alone, left all as it was
  pub record IsSaid (here : JobContext) (old new : PairMemory) (before after : Holdings D) (result : Result JobResult WorkError) (rule : Rule) : Type 0 where
    pub done : IfOk result (λ done. IsBy here (own_of new after) done rule)
    pub keeps : OnOk result (HasTicketsAt new after)
    pub err : IfErr result (λ e. (e ≡ NoMemory) × (new ≡ old) × (after ≡ before))
    pub store : after ≡ record before { tickets = after.tickets }

  -- marks and rows are as many as there may be, the rule has one more, and nothing changed
  pub record IsFull (old new : PairMemory) (before after : Holdings D) (rule : Rule) : Type 0 where
    pub count : marked_in before ≡ marks_limit
    pub over : marked_by rule.own.store ≡ marks_limit + 1
    pub same : (new ≡ old) × (after ≡ before)

  -- the rule's next number of an operation is beyond the greatest, and all but the device's state is as it was
  pub record IsSpent (device : Ghosts D) (before after : Held D) (rule : Rule) : Type 0 where
    pub next : device.observable → greatest_u64 < rule.own.pairs.next
    pub same : (after.side ≡ before.side) × (after.store ≡ record before.store { disk = after.store.disk })

  -- a job is the rule's where the device tells its bytes, and the tickets still stand where they are needed; a device that showed
  -- the store shows it after the job too, and after one that was refused for memory, which left all but the device's state as it
  -- was. A crash at any moment leaves the store before the job, or the rule's after it. After any refusal it is kept in memory as before.
  -- `NoRoom` comes only where there may be no mark more, and `Exhausted` only where no number is left for the operation
  pub record IsDone (device : Ghosts D) (here : JobContext) (before after : Held D) (result : Result JobResult WorkError) (rule : Rule) : Type 0 where
    pub done : IfOk result (λ done. device.observable → IsBy here (own_of after.side after.store) done rule)
    pub keeps : OnOk result (HasTicketsAt after.side after.store)
    pub holds : device.observable → HoldsAt device before.store → OnOk result (HoldsAt device after.store)
    pub moments : device.observable → HoldsAt device before.store
        → LeavesOnly device.moment device.left_since before.store.disk after.store.disk (StandsAsEither before.store rule.own.store)
    pub still : result ≡ Err NoMemory → device.observable → HoldsAt device before.store → HoldsAt device after.store
    pub same : result ≡ Err NoMemory → (after.side ≡ before.side) × (after.store ≡ record before.store { disk = after.store.disk })
    pub kept : OnErr result (device.observable → after.store.entries ≡ before.store.entries)
    pub stays : OnErr result (kept_in after.store ≡ kept_in before.store)
    pub full : result ≡ Err NoRoom → IsFull before.side after.side before.store after.store rule
    pub spent : result ≡ Err Exhausted → IsSpent device before after rule
    pub cause : HasFault (device.faults before.store.disk) (device.faults after.store.disk) result
    pub run : device.came_to before.store.disk after.store.disk
