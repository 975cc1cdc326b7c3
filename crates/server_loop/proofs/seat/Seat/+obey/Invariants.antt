-- Fewer steps are left each time.
use Rattle.std.proofs.Common.{length}
use Rattle.petal_world.specs.Errands.{steps_left}
use Rattle.server_loop.proofs.seat.Seat.+obey.Given as goal

abbrev pub decreases-obey : goal.decreases-obey
decreases-obey g l = length (steps_left l.left)
