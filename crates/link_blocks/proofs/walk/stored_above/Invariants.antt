-- What is least above the block so far is what is asked for.
use Rattle.std.proofs.Common.{◌≡◌}
use Rattle.std.specs.Prelude.{filter}
use Rattle.busy_marks.specs.Marks.{above}
use Rattle.spec_rules.specs.Copies.{least}
use Rattle.pair_memory.specs.Kept.{chains_of}
use Rattle.link_blocks.specs.Walks.{stored_on, room_above}
use Rattle.link_blocks.proofs.walk.stored_above.Given as goal

abbrev pub invariant-loop-block : goal.invariant-loop-block
invariant-loop-block g l = least (filter (above l.after) (stored_on l.here.state l.row (chains_of l.store.entries)))
    ≡ least (filter (above l.fn.after) (stored_on l.here.state l.row (chains_of l.store.entries)))

abbrev pub decreases-loop-block : goal.decreases-loop-block
decreases-loop-block g l = room_above l.after
