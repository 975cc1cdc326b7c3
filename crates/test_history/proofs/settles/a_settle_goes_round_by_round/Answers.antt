-- The run computes.
use Rattle.std.proofs.Common.{refl}
use Rattle.petal_table.specs.Table.{at, put}
use Rattle.spec_rules.specs.Lists.{put_at}
use Rattle.spec_rules.specs.Copies.{next_copy}
use Rattle.spec_rules.specs.Clients.{heard, refusal}
use Rattle.spec_rules.specs.World.{step}
use Rattle.test_history.proofs.settles.a_settle_goes_round_by_round.Goals as goal

pub returns : goal.returns
unfolding at put put_at next_copy heard refusal step
returns c = record {
  waits = refl;
  round = refl;
  answered = refl;
}
