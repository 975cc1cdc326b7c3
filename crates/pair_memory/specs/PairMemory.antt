-- One server's side of its pairs, and the tickets that are out for it.
use Rattle.std.specs.Prelude.{◌≡◌, ℕ, ◌+◌, ◌==◌, not, Bool, false, List, [], ◌∷◌, if◌then◌else◌, is_some, Option, None, Some}
use Rattle.std.specs.Map.{values_of}
use Rattle.petal_base.specs.declared.cell.Cell.{Cell}
use Rattle.petal_table.specs.Table.{Table, at}
use Rattle.petal_base.specs.declared.cell.Key.{Key}
use Rattle.petal_msg.specs.declared.copying.LinkId.{LinkId}
use Rattle.petal_msg.specs.declared.operation.Finished.{Finished}
use Rattle.petal_msg.specs.declared.operation.LastOp.{LastOp}
use Rattle.petal_msg.specs.declared.operation.Pending.{Pending}
use Rattle.spec_rules.specs.Server.{PairState, Pairs, Copies, no_copies}
use Rattle.spec_rules.specs.Store.{cell_cmp}
use Rattle.spec_rules.specs.Writes.{has_slot}
use Rattle.kept_chains.specs.Holdings.{Holdings}
use Rattle.kept_chains.specs.Kept.{store_of}

-- the number of the next operation, what is pending, what is finished for each client, the last operation that was followed on
-- each cell, what is remembered of copies, the last key of each link that the new map is known to have, and the slots set apart: for
-- operations of this server's own, and for the lead of a cell
pub record PairMemory : Type 0 where
  pub next : ℕ
  pub pending : Table Cell Pending
  pub finished : Table ℕ Finished
  pub last : Table Cell LastOp
  pub copies : Copies
  pub filled : Table LinkId Key
  pub own : Table Cell ℕ
  pub apart : Table Cell ℕ

-- a side on which nothing was done yet
abbrev pub new_side : PairMemory
new_side = record { next = 1; pending = []; finished = []; last = []; copies = no_copies; filled = []; own = []; apart = [] }

-- what the rules know of it
abbrev pub pairs_of : PairMemory → Pairs
pairs_of side = record { pending = side.pending; next = side.next; finished = side.finished; last = side.last }

-- a server's own part: its side of its pairs, and its store
abbrev pub own_of : {D : Type 0} → PairMemory → Holdings D → PairState
own_of side store = record { pairs = pairs_of side; copies = side.copies; filled = side.filled; store = store_of store }

-- how often a number stands in a list
abbrev pub times : ℕ → List ℕ → ℕ
times n [] = 0
times n (m ∷ ms) = (if m == n then 1 else 0) + times n ms

-- an operation whose copy is not put has a slot set apart
abbrev pub needs_own : Option Pending → Bool
needs_own None = false
needs_own (Some op) = not op.stage.put

-- so has an operation that this server is to follow
abbrev pub needs_apart : Option LastOp → Bool
needs_apart None = false
needs_apart (Some last) = has_slot last.progress

-- the tickets that are out are those of the two tables, and each stands where it is needed
pub record HasTickets (pending : Table Cell Pending) (last : Table Cell LastOp) (own apart : Table Cell ℕ) (tickets : List ℕ) : Type 0 where
  pub out : (slot : ℕ) → times slot tickets ≡ times slot (values_of own) + times slot (values_of apart)
  pub owned : (cell : Cell) → is_some (at cell_cmp own cell) ≡ needs_own (at cell_cmp pending cell)
  pub kept : (cell : Cell) → is_some (at cell_cmp apart cell) ≡ needs_apart (at cell_cmp last cell)

-- so it is of this side and this store
abbrev pub HasTicketsAt : {D : Type 0} → PairMemory → Holdings D → Type 0
HasTicketsAt side store = HasTickets side.pending side.last side.own side.apart store.tickets
