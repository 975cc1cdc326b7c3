-- So far the letters that were taken.
use Rattle.std.proofs.Common.{◌≡◌}
use Rattle.petal_world.proofs.blocks.Blocks.share_all.Given as goal

abbrev pub invariant-loop-letter : goal.invariant-loop-letter
invariant-loop-letter l = l.shared ≡ l.yielded
