-- The run computes.
use Rattle.std.proofs.Common.{◌≡◌, true, false, Some, inl, refl, sym, ◌∙◌}
use Rattle.spec_rules.specs.Lists.{put_at}
use Rattle.spec_rules.specs.Clients.{heard, refusal}
use Rattle.spec_rules.specs.World.{IsOpenLine, MayStop, step}
use Rattle.test_history.specs.Stops.{asked_again_acts, trio_after}
use Rattle.test_history.proofs.Lines.{apart, asked_for, none_yet, one_of_three, two_steps}
use Rattle.test_history.proofs.stops.a_stop_of_a_stopped_server_does_nothing.Goals as goal

rests : ((trio_after asked_again_acts).servers 1).life.running ≡ false
unfolding put_at heard refusal step
rests = refl

may_not : MayStop (trio_after asked_again_acts) 1 → ⊥
may_not may = let both : false ≡ true = sym rests ∙ may.runs in absurd cc

glanced_before : (trio_after asked_again_acts).control.glanced ≡ Some 3
unfolding put_at heard refusal step
glanced_before = refl

asked : IsOpenLine (trio_after asked_again_acts) (asked_for 4 2)
unfolding put_at heard refusal step
asked = record { is = refl; first = λ is. apart 3 4 refl (sym glanced_before ∙ is) }

pub returns : goal.returns
unfolding put_at heard refusal step
returns c = record {
  may_not = may_not;
  glance = record {
    may = (
      one_of_three,
      inl (record { asked = asked_for 4 2; opened = record { is = asked.is; first = asked.first }; line_is = refl; once = refl; done = (refl, rests) }),
    );
    clock = two_steps;
    receives = none_yet;
    goes_on = refl;
  };
  same = refl;
  answered = refl;
  told = refl;
}
