-- The run computes.
use Rattle.std.proofs.Common.{inl, refl}
use Rattle.spec_rules.proofs.Tests.{none_some}
use Rattle.spec_rules.specs.Lists.{put_at}
use Rattle.spec_rules.specs.Clients.{heard, refusal}
use Rattle.spec_rules.specs.World.{IsOpenLine, step}
use Rattle.test_history.specs.Stops.{asked_acts, stopped_acts, trio_after}
use Rattle.test_history.proofs.Lines.{asked_for, none_yet, one_of_three, one_step}
use Rattle.test_history.proofs.stops.a_line_stops_a_server.Goals as goal

asked : IsOpenLine (trio_after asked_acts) (asked_for 3 1)
unfolding put_at refusal step
asked = record { is = refl; first = λ is. none_some refl is }

stopped : IsOpenLine (trio_after stopped_acts) (asked_for 3 1)
unfolding put_at refusal step
stopped = record { is = refl; first = λ is. none_some refl is }

pub returns : goal.returns
unfolding put_at heard refusal step
returns c = record {
  may = record {
    may = (one_of_three, record { runs = refl; asked = asked_for 3 1; opened = asked; stops = (refl, refl) });
    clock = none_yet;
    receives = none_yet;
    goes_on = refl;
  };
  stopped = refl;
  told = refl;
  glance = record {
    may = (
      one_of_three,
      inl (record { asked = asked_for 3 1; opened = record { is = stopped.is; first = stopped.first }; line_is = refl; once = refl; done = (refl, refl) }),
    );
    clock = one_step;
    receives = none_yet;
    goes_on = refl;
  };
  answered = refl;
}
