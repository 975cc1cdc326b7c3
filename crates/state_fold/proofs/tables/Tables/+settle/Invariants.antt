use Rattle.std.proofs.Common.{length}
use Rattle.state_fold.proofs.tables.Tables.+settle.Given as goal

abbrev pub decreases-settle : goal.decreases-settle
decreases-settle l = length l.self.now.view.queue
