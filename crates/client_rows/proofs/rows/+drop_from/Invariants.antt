use Rattle.std.proofs.Common.{◌-◌}
use Rattle.client_rows.proofs.rows.+drop_from.Given as goal

abbrev pub decreases-drop_from : goal.decreases-drop_from
decreases-drop_from l = 8 - l.client
