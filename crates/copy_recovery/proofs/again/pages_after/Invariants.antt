-- The letters so far are those before and those of the links so far.
use Rattle.std.proofs.Common.{◌≡◌, ◌+◌, ◌++◌, length, take}
use Rattle.std.specs.List.{flat_map}
use Rattle.spec_rules.specs.Copies.{page_for}
use Rattle.spec_rules.specs.Server.{letters_of, sender}
use Rattle.spec_rules.specs.State.{other_in}
use Rattle.pair_memory.specs.PairMemory.{own_of}
use Rattle.copy_recovery.proofs.again.pages_after.Given as goal

abbrev pub invariant-loop-row : goal.invariant-loop-row
invariant-loop-row g l = record {
  letters : l.letters ≡ l.initial.letters
      ++ letters_of (sender l.here) (length l.initial.letters)
      (flat_map (λ row. page_for l.here.state (own_of l.side l.store) row (other_in l.here.state l.here.me row)) (take l.row-index l.row-items));
}
