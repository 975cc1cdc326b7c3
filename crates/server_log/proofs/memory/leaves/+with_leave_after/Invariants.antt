use Rattle.std.proofs.Common.{length}
use Rattle.server_log.proofs.memory.leaves.+with_leave_after.Given as goal

abbrev pub decreases-with_leave_after : goal.decreases-with_leave_after
decreases-with_leave_after l = length l.rest.now
