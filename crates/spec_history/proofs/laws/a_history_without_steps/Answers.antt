-- Each by its definition.
use Rattle.std.proofs.Common.{refl}
use Rattle.spec_rules.specs.Plans.{unarmed}
use Rattle.spec_history.proofs.laws.a_history_without_steps.Goals as goal

pub returns : goal.returns
returns c = record {
  legal = λ script. record { steps = tt; obey = tt; planned = λ n. (unarmed, refl) };
  told = λ script. refl;
  run = λ script. tt;
  text = refl;
}
