-- The run computes.
use Rattle.std.proofs.Common.{refl}
use Rattle.petal_table.specs.Table.{at, put}
use Rattle.spec_rules.specs.Lists.{put_at}
use Rattle.spec_rules.specs.Writes.{goes_on, on_write, on_reserve, on_reserved}
use Rattle.spec_rules.specs.Jobs.{handles, does}
use Rattle.spec_rules.specs.Clients.{refusal}
use Rattle.spec_rules.specs.World.{step}
use Rattle.test_history.proofs.faults.a_device_fails_after_a_put.Goals as goal

pub returns : goal.returns
unfolding at put put_at goes_on on_write on_reserve on_reserved handles does refusal step
returns c = record { stopped = refl; chain = refl; marked = refl; told = refl }
