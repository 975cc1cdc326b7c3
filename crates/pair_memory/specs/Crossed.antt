-- What an entry of the log leaves of a side and its store.
use Rattle.std.specs.Prelude.{◌≡◌, ℕ, ◌+◌, Bool, not, filter, length, Option, Result, IfErr, OnOk, OnErr}
use Rattle.std.specs.Map.{values_of}
use Rattle.petal_base.specs.declared.cell.Cell.{Cell}
use Rattle.petal_command.specs.declared.command.Command.{Command}
use Rattle.petal_disk.specs.Disk.{LeavesOnly}
use Rattle.petal_disk.specs.declared.disk.Disk.{Ghosts}
use Rattle.petal_table.specs.Table.{Table}
use Rattle.spec_rules.specs.Crossing.{crossed, crossed_by}
use Rattle.spec_rules.specs.Server.{JobContext}
use Rattle.spec_rules.specs.State.{State}
use Rattle.kept_chains.specs.Holdings.{Holdings, kept_in}
use Rattle.kept_chains.specs.Standing.{StandsAsEither}
use Rattle.pair_memory.specs.declared.error.WorkError.{WorkError}
use Rattle.pair_memory.specs.declared.error.WorkError.TheVariants.{Failed}
use Rattle.pair_memory.specs.JobResult.{HasFault, HoldsAt}
use Rattle.pair_memory.specs.PairMemory.{PairMemory, HasTicketsAt, own_of, times}

-- the tickets on the cells that a test takes were given back, and no other
pub record AreFreed {D : Type 0} (test : Cell → Bool) (apart left : Table Cell ℕ) (before after : Holdings D) : Type 0 where
  pub table : left ≡ filter (λ row. not (test row.0)) apart
  pub store : after ≡ record before { tickets = after.tickets }
  pub out : (slot : ℕ) → times slot after.tickets + times slot (values_of apart) ≡ times slot before.tickets + times slot (values_of left)
  pub number : length after.tickets + length apart ≡ length before.tickets + length left

module _ {D : Type 0} (state : State) (entry : Command) where
  -- a server's own part is what the rule says, and the tickets stand where they are needed
  pub record IsCrossed (old new : PairMemory) (before after : Holdings D) : Type 0 where
    pub own : own_of new after ≡ crossed state entry (own_of old before)
    pub keeps : HasTicketsAt new after
    pub store : after ≡ record before { tickets = after.tickets }

module _ {D T : Type 0} where
  -- a server's own part is what the rule says of the entry, if there is one, where the device tells its bytes, and the tickets
  -- stand where they are needed. A crash at any moment leaves the store before, or the rule's after it
  pub record IsEntered (device : Ghosts D) (here : JobContext) (entry : Option Command) (old new : PairMemory) (before after : Holdings D)
      (result : Result T WorkError) : Type 0 where
    pub own : OnOk result (device.observable → own_of new after ≡ crossed_by here entry (own_of old before))
    pub keeps : HasTicketsAt new after
    pub holds : device.observable → HoldsAt device before → OnOk result (HoldsAt device after)
    pub moments : device.observable → HoldsAt device before
        → LeavesOnly device.moment device.left_since before.disk after.disk
        (StandsAsEither before (crossed_by here entry (own_of old before)).store)
    pub kept : device.observable → after.entries ≡ before.entries
    pub stays : OnErr result (kept_in after ≡ kept_in before)
    pub errors : IfErr result (λ e. e ≡ Failed)
    pub cause : HasFault (device.faults before.disk) (device.faults after.disk) result
    pub run : device.came_to before.disk after.disk
