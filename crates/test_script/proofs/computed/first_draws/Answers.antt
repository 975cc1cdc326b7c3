-- The numbers compute.
use Rattle.std.proofs.Common.{refl}
use Rattle.test_script.proofs.computed.first_draws.Goals as goal

pub returns : goal.returns
returns c = record { one = refl; two = refl; three = refl; four = refl }
