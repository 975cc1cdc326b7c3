-- The letters so far and those of the copies that are left are all letters, and nothing of the store changed.
use Rattle.std.proofs.Common.{◌≡◌, ◌++◌, length}
use Rattle.std.specs.List.{flat_map}
use Rattle.spec_rules.specs.Copies.{copy_awaited, copy_stage}
use Rattle.spec_rules.specs.Server.{letters_of, sender}
use Rattle.kept_chains.specs.Kept.{store_of}
use Rattle.pair_memory.specs.PairMemory.{own_of}
use Rattle.pair_memory.proofs.Looks.{IsSeen}
use Rattle.copy_recovery.proofs.again.copies_after.Given as goal

abbrev pub invariant-loop-cell : goal.invariant-loop-cell
invariant-loop-cell g l = record {
  seen : IsSeen g.D.Disk l.fn.store l.store;
  letters : g.D.Disk.observable →
      l.letters ++ letters_of (sender l.here) (length l.letters)
      (flat_map (λ row. copy_awaited l.here (own_of l.side l.fn.store) row.0 row.1 (copy_stage (store_of l.fn.store) row.0 row.1)) l.cell-iterator)
      ≡ l.initial.letters
      ++ letters_of (sender l.here) (length l.initial.letters)
      (flat_map (λ row. copy_awaited l.here (own_of l.side l.fn.store) row.0 row.1 (copy_stage (store_of l.fn.store) row.0 row.1)) l.side.copies.pending);
}
