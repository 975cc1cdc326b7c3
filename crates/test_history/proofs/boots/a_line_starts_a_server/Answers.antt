-- The run computes.
use Rattle.std.proofs.Common.{◌≡◌, Some, inl, inr, refl, sym, ◌∙◌}
use Rattle.spec_rules.specs.Lists.{put_at}
use Rattle.spec_rules.specs.Clients.{heard, refusal}
use Rattle.spec_rules.specs.World.{Booted, IsOpenLine, MayAct, step}
use Rattle.spec_rules.specs.declared.step.WorkEnd.TheVariants.{Done}
use Rattle.test_history.specs.Boots.{boot_acts, comeback_after, start_acts}
use Rattle.test_history.proofs.Lines.{apart, none_yet, one_life, one_of_three, start_of, two_steps, few}
use Rattle.test_history.proofs.boots.a_line_starts_a_server.Goals as goal

glanced_before : (comeback_after start_acts).control.glanced ≡ Some 2
unfolding put_at heard refusal step
glanced_before = refl

asked : IsOpenLine (comeback_after start_acts) (start_of 3 2)
unfolding put_at heard refusal step
asked = record { is = refl; first = λ is. apart 2 3 refl (sym glanced_before ∙ is) }

glanced_still : (comeback_after (boot_acts Done)).control.glanced ≡ Some 2
unfolding put_at heard refusal step
glanced_still = refl

booted : IsOpenLine (comeback_after (boot_acts Done)) (start_of 3 2)
unfolding put_at heard refusal step
booted = record { is = refl; first = λ is. apart 2 3 refl (sym glanced_still ∙ is) }

waits : MayAct (comeback_after (boot_acts Done)) 1 → ⊥
unfolding put_at heard refusal step
waits may = may.free Booted refl

pub returns : goal.returns
unfolding put_at heard refusal step
returns c = record {
  may = record {
    may = (one_of_three, record { rests = refl; raises = one_life; asked = start_of 3 2; opened = asked; boots = (refl, refl) });
    clock = two_steps;
    receives = none_yet;
    goes_on = refl;
  };
  runs = refl;
  records = refl;
  applied = refl;
  told = refl;
  waits = waits;
  glance = record {
    may = (
      one_of_three,
      inl (record { asked = start_of 3 2; opened = record { is = booted.is; first = booted.first }; line_is = refl; once = refl; done = (refl, inr refl) }),
    );
    clock = few 3 refl;
    receives = none_yet;
    goes_on = refl;
  };
  answered = refl;
}
