-- The run computes.
use Rattle.std.proofs.Common.{◌≡◌, true, false, Some, inl, refl, sym, ◌∙◌}
use Rattle.spec_rules.specs.Lists.{put_at}
use Rattle.spec_rules.specs.Clients.{heard, refusal}
use Rattle.spec_rules.specs.World.{IsOpenLine, MayBoot, step}
use Rattle.test_history.specs.Boots.{asked_again_acts, comeback_after}
use Rattle.test_history.proofs.Lines.{apart, few, none_yet, one_of_three, start_of}
use Rattle.test_history.proofs.boots.a_start_of_a_running_server_does_nothing.Goals as goal

runs : ((comeback_after asked_again_acts).servers 1).life.running ≡ true
unfolding put_at heard refusal step
runs = refl

may_not : MayBoot (comeback_after asked_again_acts) 1 → ⊥
may_not may = let both : true ≡ false = sym runs ∙ may.rests in absurd cc

glanced_before : (comeback_after asked_again_acts).control.glanced ≡ Some 3
unfolding put_at heard refusal step
glanced_before = refl

asked : IsOpenLine (comeback_after asked_again_acts) (start_of 4 3)
unfolding put_at heard refusal step
asked = record { is = refl; first = λ is. apart 3 4 refl (sym glanced_before ∙ is) }

pub returns : goal.returns
unfolding put_at heard refusal step
returns c = record {
  may_not = may_not;
  glance = record {
    may = (
      one_of_three,
      inl (record { asked = start_of 4 3; opened = record { is = asked.is; first = asked.first }; line_is = refl; once = refl; done = (refl, inl runs) }),
    );
    clock = few 4 refl;
    receives = none_yet;
    goes_on = refl;
  };
  same = refl;
  answered = refl;
}
