-- An operation that is opened.
use Rattle.std.specs.Prelude.{◌≡◌, ℕ, ◌+◌, ◌<◌, ◌++◌, ◌∷◌, [], ⊤, Bool, true, false, Contains}
use Rattle.petal_table.specs.Table.{put}
use Rattle.petal_msg.specs.declared.operation.Ending.TheVariants.{Full}
use Rattle.petal_msg.specs.declared.operation.Pending.{Pending}
use Rattle.spec_rules.specs.Server.{JobResult, JobContext, PairState}
use Rattle.spec_rules.specs.Store.{cell_cmp}
use Rattle.spec_rules.specs.Writes.{ends, goes_on, with_opened}
use Rattle.spec_rules.specs.World.{greatest_u64}
use Rattle.server_store.specs.Holdings.{Holdings}
use Rattle.pair_memory.specs.PairMemory.{PairMemory}
use Rattle.pair_memory.specs.declared.error.WorkError.{WorkError}
use Rattle.pair_memory.specs.declared.error.WorkError.TheVariants.{Failed, NoRoom, NoMemory, Exhausted}

-- a slot of its own is set apart for it, and it is pending
pub record IsOpened {D : Type 0} (op : Pending) (old new : PairMemory) (before after : Holdings D) : Type 0 where
  pub slot : ℕ
  pub side : new ≡ record old {
    next = old.next + 1;
    pending = put cell_cmp old.pending op.cell op;
    own = put cell_cmp old.own op.cell slot;
  }
  pub store : after ≡ record before { tickets = before.tickets ++ slot ∷ [] }
  pub other : ¬ Contains before.tickets slot

-- why it is not opened: for memory, or since no number is left for it, though a slot is free
abbrev pub IsOpenError : (next : ℕ) → (room : Bool) → WorkError → Type 0
IsOpenError next room Failed = ⊥
IsOpenError next room NoRoom = ⊥
IsOpenError next room NoMemory = ⊤
IsOpenError next room Exhausted = (greatest_u64 < next + 1) × (room ≡ true)

-- with a slot it does its first stage, and without one what it is for ends
abbrev pub begun : JobContext → PairState → Pending → (room : Bool) → JobResult
begun here own op false = ends here own op op.kind Full
begun here own op true = goes_on here (with_opened own op) op.cell
