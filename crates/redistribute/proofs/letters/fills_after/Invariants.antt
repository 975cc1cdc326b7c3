-- The letters so far are those before and those of the links so far, and nothing of the store changed.
use Rattle.std.proofs.Common.{◌≡◌, ◌++◌, length, take}
use Rattle.std.specs.List.{flat_map}
use Rattle.spec_rules.specs.Fills.{fills_row}
use Rattle.spec_rules.specs.Server.{letters_of, sender}
use Rattle.pair_memory.specs.PairMemory.{own_of}
use Rattle.pair_memory.proofs.Looks.{IsSeen}
use Rattle.redistribute.proofs.letters.fills_after.Given as goal

abbrev pub invariant-loop-row : goal.invariant-loop-row
invariant-loop-row g l = record {
  seen : IsSeen g.D.Disk l.fn.store l.store;
  letters : g.D.Disk.observable → l.letters ≡ l.initial.letters
      ++ letters_of (sender l.here) (length l.initial.letters) (flat_map (fills_row l.here (own_of l.side l.fn.store)) (take l.row-index l.row-items));
}
