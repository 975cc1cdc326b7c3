-- The run computes.
use Rattle.std.proofs.Common.{refl, inr}
use Rattle.petal_table.specs.Table.{at, put}
use Rattle.spec_rules.specs.Lists.{put_at}
use Rattle.spec_rules.specs.Clients.{heard, refusal}
use Rattle.spec_rules.specs.World.{step}
use Rattle.spec_rules.proofs.Tests.{none_some}
use Rattle.spec_rules.specs.World.{IsOpenLine}
use Rattle.test_history.specs.Blanks.{asked_acts, blanked_acts, stopped_acts, twofold_after}
use Rattle.test_history.proofs.Lines.{blank_of, few, none_yet, one_life, one_of_three}
use Rattle.test_history.proofs.blanks.a_line_blanks_a_server.Goals as goal

asked : IsOpenLine (twofold_after asked_acts) (blank_of 4 1)
unfolding put_at refusal step
asked = record { is = refl; first = λ is. none_some refl is }

stopped : IsOpenLine (twofold_after stopped_acts) (blank_of 4 1)
unfolding put_at refusal step
stopped = record { is = refl; first = λ is. none_some refl is }

blanked : IsOpenLine (twofold_after blanked_acts) (blank_of 4 1)
unfolding put_at refusal step
blanked = record { is = refl; first = λ is. none_some refl is }

pub returns : goal.returns
unfolding at put put_at heard refusal step
returns c = record {
  stops = record {
    may = (one_of_three, record { runs = refl; asked = blank_of 4 1; opened = asked; stops = (refl, refl) });
    clock = few _ refl;
    receives = none_yet;
    goes_on = refl;
  };
  blanks = record {
    may = (one_of_three, record { rests = refl; asked = blank_of 4 1; opened = stopped; blanks = (refl, inr refl) });
    clock = few _ refl;
    receives = none_yet;
    goes_on = refl;
  };
  boots = record {
    may = (one_of_three, record { rests = refl; raises = one_life; asked = blank_of 4 1; opened = blanked; boots = (refl, refl) });
    clock = few _ refl;
    receives = none_yet;
    goes_on = refl;
  };
  blank = refl;
  answered = refl;
  kept = refl;
  content = refl;
}
