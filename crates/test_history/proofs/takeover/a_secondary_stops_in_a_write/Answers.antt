-- The run computes.
use Rattle.std.proofs.Common.{refl}
use Rattle.petal_table.specs.Table.{at, put}
use Rattle.spec_rules.specs.Lists.{put_at}
use Rattle.spec_rules.specs.Writes.{goes_on, on_write, on_reserve, on_reserved}
use Rattle.spec_rules.specs.Jobs.{handles, hears_log, does, log_does}
use Rattle.spec_rules.specs.Clients.{heard, refusal}
use Rattle.spec_rules.specs.World.{step}
use Rattle.test_history.proofs.takeover.a_secondary_stops_in_a_write.Goals as goal

pub returns : goal.returns
unfolding at put put_at goes_on on_write on_reserve on_reserved handles hears_log does log_does heard refusal step
returns c = record { stopped = refl; primary = refl; secondary = refl; marked = refl; content = refl }
