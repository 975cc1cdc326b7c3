-- What a world sees of a server after a step that it may take.
use Rattle.std.proofs.Common.{◌≡◌, Bool, true, refl, ◌∙◌, sym}
use Rattle.memory_server.specs.Server.{left_at, whole_after}
use Rattle.petal_msg.specs.declared.letter.Letter.{Letter}
use Rattle.spec_rules.specs.declared.step.Step.{Step}
use Rattle.spec_rules.specs.declared.step.Step.TheVariants.{Work, StopIn}
use Rattle.server_host.proofs.Left.{StepsLeft, steps_left}
use Rattle.server_host.specs.Desks.{Site, acted_at, ended, job_ended, may_take, site_after}
use Rattle.server_host.specs.declared.step_end.StepEnd.{StepEnd}
use Rattle.server_host.specs.declared.step_end.StepEnd.TheVariants as step_end
use Rattle.std.specs.Prelude.{List}

job_ends : (end : StepEnd) (running : Bool) → may_take (job_ended end) running ≡ running
job_ends step_end.Done running = refl
job_ends (step_end.Fault commit) running = refl
job_ends (step_end.StopIn commit) running = refl

-- a job or a boot may be taken with each end or with none
may_ended : (what : Step) (end : StepEnd) (running : Bool) → may_take (ended what end) running ≡ may_take what running
may_ended (Work named) end running = job_ends end running
may_ended (StopIn named) end running = job_ends end running
may_ended _ end running = refl

module _ (old : Site) (what : Step) (may : may_take what old.server.life.running ≡ true) where
  left : StepsLeft old.servers old.me old.server what
  left = steps_left old.servers old.me old.server what may

  pub seen_after : (new : Site) → left_at new ≡ left_at (whole_after old what) → left_at new ≡ site_after (left_at old) what
  seen_after new is = is ∙ (λ i. record { me = old.me; servers = old.servers; server = sym left.left i })

  pub seen_letters : (letters : List Letter) → letters ≡ (acted_at old what).letters → letters ≡ (acted_at (left_at old) what).letters
  seen_letters letters are = are ∙ sym left.letters

-- the same of a step with the end that its job or its boot had
module _ (old : Site) (what : Step) (end : StepEnd) (may : may_take what old.server.life.running ≡ true) where
  may_so : may_take (ended what end) old.server.life.running ≡ true
  may_so = may_ended what end old.server.life.running ∙ may

  pub ended_after : (new : Site) → left_at new ≡ left_at (whole_after old (ended what end)) → left_at new ≡ site_after (left_at old) (ended what end)
  ended_after = seen_after old (ended what end) may_so

  pub ended_letters : (letters : List Letter) → letters ≡ (acted_at old (ended what end)).letters
      → letters ≡ (acted_at (left_at old) (ended what end)).letters
  ended_letters = seen_letters old (ended what end) may_so
