-- What is wanted so far, of the links so far.
use Rattle.std.proofs.Common.{◌≡◌, take}
use Rattle.std.specs.List.{flat_map}
use Rattle.spec_rules.specs.Returns.{caught_of}
use Rattle.spec_rules.specs.State.{other_in}
use Rattle.pair_memory.specs.PairMemory.{own_of}
use Rattle.link_blocks.proofs.caught.caught_links.Given as goal

abbrev pub invariant-loop-row : goal.invariant-loop-row
invariant-loop-row g l =
    l.wants.items ≡ flat_map (λ row. caught_of l.here (own_of l.side l.store) row (other_in l.here.state l.here.me row)) (take l.row-index l.row-items)
