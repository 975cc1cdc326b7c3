-- What an errand allows, and what a step leaves of it.
use Rattle.std.proofs.Common.{◌≡◌, ℕ, Bool, true, false, List, [], ◌∷◌, Option, Some, None, refl, sym, ap, ◌∙◌}
use Rattle.std.specs.Prelude.{◌&&◌, ◌<◌, ◌==◌, nat_lt, is_some, if◌then◌else◌}
use Rattle.std.proofs.lemmas.Bool.Decides.{nat_tests}
use Rattle.std.proofs.Common.{arith}
use Rattle.petal_msg.specs.declared.letter.Actor.{Actor}
use Rattle.petal_msg.specs.declared.letter.Actor.TheVariants as actor
use Rattle.script_lines.specs.declared.request.Line.{Line}
use Rattle.spec_rules.specs.Jobs.{operator}
use Rattle.spec_rules.specs.World.{Setting, World, next_line}
use Rattle.spec_rules.specs.declared.step.Step.{Step}
use Rattle.spec_rules.specs.declared.step.Step.TheVariants.{Call, Work, StopIn}
use Rattle.spec_rules.proofs.Tests.{none_some, same_numbers}
use Rattle.spec_history.specs.Controls.{Errand, Given, IsNext, Obeys, due, errand_after, errand_of, served}
use Rattle.petal_world.specs.Steps.{rev_of}
use Rattle.server_host.specs.Desks.{ended, job_ended}
use Rattle.server_host.specs.declared.step_end.StepEnd.{StepEnd}
use Rattle.server_host.specs.declared.step_end.StepEnd.TheVariants as step_end
use Rattle.petal_world.specs.Errands.{Runs, called_next, errand_next, first_step}

-- ### The next step

pub is_next_by : (errand : Errand) (n : ℕ) (running : Bool) (given first : Given) → errand.server ≡ Some n
    → Some first ≡ first_step (due running errand.left)
    → (first ≡ given → IsNext errand n running given) × (IsNext errand n running given → first ≡ given)
is_next_by errand n running given first server is = by (due running errand.left) refl is
  where
    by : (steps : List Given) → due running errand.left ≡ steps → Some first ≡ first_step steps
        → (first ≡ given → IsNext errand n running given) × (IsNext errand n running given → first ≡ given)
    by [] are some = none_some refl (sym some)
    by (step ∷ later) are some =
        let same : first ≡ step = cc in (
          (λ e. record { server = server; later = later; is = are ∙ ap (λ (k : Given). k ∷ later) (sym same ∙ e) }),
          (λ next. let steps : step ∷ later ≡ given ∷ next.later = sym are ∙ next.is in let heads : step ≡ given = cc in same ∙ heads),
        )

-- ### Whether a server runs

runs_when : (n servers : ℕ) (running : Bool) (rev : ℕ) → n < servers → is_some (if nat_lt n servers && running then Some rev else None) ≡ running
runs_when n servers true rev within = let less : nat_lt n servers ≡ true = grind (arith, nat_tests) in rw less refl
runs_when n servers false rev within = let less : nat_lt n servers ≡ true = grind (arith, nat_tests) in rw less refl

pub runs_by : (setting : Setting) (w : World) (who : Actor) (rev : Option ℕ) (b : Bool) → rev ≡ rev_of setting w who
    → ((n : ℕ) → who ≡ actor.Server n → n < setting.servers) → b ≡ is_some rev → Runs w who b
runs_by setting w (actor.Server n) rev b is within tells =
    tells ∙ ap (λ (o : Option ℕ). is_some o) is ∙ runs_when n setting.servers (w.servers n).life.running _ (within n refl)
runs_by setting w (actor.Client c) rev b is within tells = tt

-- ### The errand of the rules

called_by_line : (setting : Setting) (w : World) (c : ℕ) (what : Step) (errand : Errand) (line : Option Line)
    → line ≡ next_line setting.lines operator (w.clients operator)
    → called_next c what line errand ≡ errand_after (actor.Client c) what setting w errand
called_by_line setting w c (Call number) errand line is = by (c == operator) refl
  where
    by : (b : Bool) → (c == operator) ≡ b
        → (if b then errand_of line else errand) ≡ (if b then errand_of (next_line setting.lines c (w.clients c)) else errand)
    by true e =
        ap (λ (o : Option Line). errand_of o) (is ∙ ap (λ k. next_line setting.lines k (w.clients k)) (sym (same_numbers c operator e)))
    by false e = refl
called_by_line setting w c _ errand line is = refl

pub errand_by : (setting : Setting) (w : World) (who : Actor) (what : Step) (errand : Errand) (running : Bool) (line : Option Line) → Runs w who running
    → line ≡ next_line setting.lines operator (w.clients operator) → errand_next who what running line errand ≡ errand_after who what setting w errand
errand_by setting w (actor.Server n) what errand running line runs is = ap (λ (b : Bool). served what b errand) runs
errand_by setting w (actor.Client c) what errand running line runs is = called_by_line setting w c what errand line is

-- ### A job or a boot, however it ends

job_after : (end : StepEnd) (who : Actor) (what : Step) (setting : Setting) (w : World) (errand : Errand)
    → errand_after who (job_ended end) setting w errand ≡ errand
job_after step_end.Done (actor.Server n) what setting w errand = refl
job_after (step_end.Fault commit) (actor.Server n) what setting w errand = refl
job_after (step_end.StopIn commit) (actor.Server n) what setting w errand = refl
job_after step_end.Done (actor.Client c) what setting w errand = refl
job_after (step_end.Fault commit) (actor.Client c) what setting w errand = refl
job_after (step_end.StopIn commit) (actor.Client c) what setting w errand = refl

pub after_ended : (who : Actor) (what : Step) (end : StepEnd) (setting : Setting) (w : World) (errand : Errand)
    → errand_after who (ended what end) setting w errand ≡ errand_after who what setting w errand
after_ended (actor.Server n) (Work named) end setting w errand = job_after end (actor.Server n) (Work named) setting w errand
after_ended (actor.Server n) (StopIn named) end setting w errand = job_after end (actor.Server n) (StopIn named) setting w errand
after_ended (actor.Server n) _ end setting w errand = refl
after_ended (actor.Client c) (Work named) end setting w errand = job_after end (actor.Client c) (Work named) setting w errand
after_ended (actor.Client c) (StopIn named) end setting w errand = job_after end (actor.Client c) (StopIn named) setting w errand
after_ended (actor.Client c) _ end setting w errand = refl

job_obeys : (end : StepEnd) (who : Actor) (named : Step) (w : World) (errand : Errand) → Obeys who (job_ended step_end.Done) w errand
    → Obeys who (job_ended end) w errand
job_obeys step_end.Done (actor.Server n) named w errand o = o
job_obeys (step_end.Fault commit) (actor.Server n) named w errand o = o
job_obeys (step_end.StopIn commit) (actor.Server n) named w errand o = o
job_obeys end (actor.Client c) named w errand o = tt

pub obeys_ended : (who : Actor) (what : Step) (end : StepEnd) (w : World) (errand : Errand) → Obeys who what w errand
    → Obeys who (ended what end) w errand
obeys_ended (actor.Server n) (Work named) end w errand o = job_obeys end (actor.Server n) (Work named) w errand o
obeys_ended (actor.Server n) (StopIn named) end w errand o = job_obeys end (actor.Server n) (StopIn named) w errand o
obeys_ended (actor.Server n) _ end w errand o = o
obeys_ended (actor.Client c) what end w errand o = tt
