use Rattle.std.proofs.Common.{◌-◌, ◌≡◌, ◌≤◌, ◌%◌, take}
use Rattle.petal_base.proofs.block.are_same.Given as goal
use Rattle.petal_base.specs.Block.{block_bytes}

abbrev pub invariant-loop-at : goal.invariant-loop-at
invariant-loop-at l = record {
  within : l.at ≤ block_bytes;
  steps : l.at % 64 ≡ 0;
  same : take l.at l.one ≡ take l.at l.other;
}

abbrev pub decreases-loop-at : goal.decreases-loop-at
decreases-loop-at l = block_bytes - l.at
