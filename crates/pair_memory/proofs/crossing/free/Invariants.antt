-- The tickets that are left to be given back are those of the rows that are left.
use Rattle.std.proofs.Common.{◌≤◌, ℕ, length}
use Rattle.std.specs.Map.{values_of}
use Rattle.petal_base.specs.declared.cell.Cell.{Cell}
use Rattle.petal_table.specs.Table.{Table}
use Rattle.kept_chains.specs.Holdings.{Holdings}
use Rattle.pair_memory.specs.Ended.{cell_ends}
use Rattle.pair_memory.specs.Crossed.{AreFreed}
use Rattle.pair_memory.specs.PairMemory.{times}
use Rattle.pair_memory.proofs.crossing.free.Given as goal

abbrev pub invariant-loop-cell : goal.invariant-loop-cell
invariant-loop-cell g l = record {
  below : (slot : ℕ) → times slot (values_of l.apart) ≤ times slot l.store.tickets;
  more : (last : Table Cell ℕ) (after : Holdings _) → AreFreed (cell_ends l.here.state l.next l.entry) l.apart last l.store after
      → AreFreed (cell_ends l.here.state l.next l.entry) l.fn.apart last l.fn.store after;
}

abbrev pub decreases-loop-cell : goal.decreases-loop-cell
decreases-loop-cell g l = length l.apart
