use Rattle.std.proofs.Common.{length}
use Rattle.server_log.proofs.memory.leaves.+with_leaves.Given as goal

abbrev pub decreases-with_leaves : goal.decreases-with_leaves
decreases-with_leaves l = length l.leaves.now
