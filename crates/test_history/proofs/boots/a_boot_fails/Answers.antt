-- The run computes.
use Rattle.std.proofs.Common.{refl}
use Rattle.spec_rules.specs.Lists.{put_at}
use Rattle.spec_rules.specs.Clients.{heard, refusal}
use Rattle.spec_rules.specs.World.{step}
use Rattle.test_history.proofs.boots.a_boot_fails.Goals as goal

pub returns : goal.returns
unfolding put_at heard refusal step
returns c = record { before = refl; after = refl; records = refl; told = refl; answered = refl }
