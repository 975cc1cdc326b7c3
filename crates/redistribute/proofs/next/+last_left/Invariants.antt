use Rattle.std.proofs.Common.{length}
use Rattle.redistribute.proofs.next.+last_left.Given as goal

abbrev pub decreases-last_left : goal.decreases-last_left
decreases-last_left l = length l.chain.now
