-- The run computes.
use Rattle.std.proofs.Common.{refl}
use Rattle.petal_table.specs.Table.{at, put, without}
use Rattle.spec_rules.specs.Lists.{put_at}
use Rattle.spec_rules.specs.Writes.{on_write, goes_on}
use Rattle.spec_rules.specs.Ballots.{on_pax}
use Rattle.spec_rules.specs.Jobs.{handles, hears_log, does, log_does}
use Rattle.spec_rules.specs.Clients.{heard, refusal}
use Rattle.spec_rules.specs.World.{step}
use Rattle.test_history.proofs.snapshots.a_fence_holds_until_it_takes_effect.Goals as goal

pub returns : goal.returns
unfolding at put without put_at on_write goes_on on_pax handles hears_log does log_does heard refusal step
returns c = record {
  wants = refl;
  other = refl;
  held = refl;
  pending = refl;
  opened = refl;
  sent = refl;
}
