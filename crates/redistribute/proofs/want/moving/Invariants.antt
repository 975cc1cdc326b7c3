-- What is wanted so far, of the links so far.
use Rattle.std.proofs.Common.{◌≡◌, take}
use Rattle.std.specs.List.{flat_map}
use Rattle.spec_rules.specs.Fills.{moved_of}
use Rattle.pair_memory.specs.PairMemory.{own_of}
use Rattle.redistribute.proofs.want.moving.Given as goal

abbrev pub invariant-loop-row : goal.invariant-loop-row
invariant-loop-row g l = l.wants.items ≡ flat_map (moved_of l.here (own_of l.side l.store)) (take l.row-index l.row-items)
