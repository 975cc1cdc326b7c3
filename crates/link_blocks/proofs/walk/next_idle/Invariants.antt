-- What is least above the block so far is what is asked for.
use Rattle.std.proofs.Common.{◌≡◌}
use Rattle.std.specs.Prelude.{filter}
use Rattle.busy_marks.specs.Marks.{above}
use Rattle.spec_rules.specs.Copies.{least}
use Rattle.pair_memory.specs.Walking.{marked_in}
use Rattle.pair_memory.specs.PairMemory.{own_of}
use Rattle.link_blocks.specs.Walks.{idle_on, room_above}
use Rattle.link_blocks.proofs.walk.next_idle.Given as goal

abbrev pub invariant-loop-block : goal.invariant-loop-block
invariant-loop-block g l =
    least (filter (above l.after) (filter (idle_on l.here.state l.row (own_of l.side l.store) l.kind) (marked_in l.row.map l.store.marks)))
    ≡ least (filter (above l.fn.after) (filter (idle_on l.here.state l.row (own_of l.side l.store) l.kind) (marked_in l.row.map l.store.marks)))

abbrev pub decreases-loop-block : goal.decreases-loop-block
decreases-loop-block g l = room_above l.after
