use Rattle.std.proofs.Common.{length}
use Rattle.global_state.proofs.ask.+next_epoch.Given as goal

abbrev pub decreases-next_epoch : goal.decreases-next_epoch
decreases-next_epoch l = length l.snaps.now
