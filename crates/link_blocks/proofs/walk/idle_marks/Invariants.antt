-- The cells so far and those from the next one on are what is asked for.
use Rattle.std.proofs.Common.{◌≡◌, ◌≤◌, ◌++◌, ◌-◌, length, take}
use Rattle.pair_memory.specs.PairMemory.{own_of}
use Rattle.spec_rules.specs.Copies.{idle_cells, idle_from, next_idle, unmarks_limit}
use Rattle.link_blocks.proofs.walk.idle_marks.Given as goal

abbrev pub invariant-loop-count : goal.invariant-loop-count
invariant-loop-count g l =
    let state = l.here.state in
    let own = own_of l.side l.store in
    record {
      so_far : take l.count l.into ++ idle_from state l.row own l.kind (unmarks_limit - l.count) (next_idle state l.row own l.kind l.after)
          ≡ idle_cells state l.row own l.kind;
      few : l.count ≤ unmarks_limit;
      room : length l.into ≡ unmarks_limit;
    }
