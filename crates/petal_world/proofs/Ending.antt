-- A step with another end of its job or its boot is allowed, stamped and recorded like it.
use Rattle.std.proofs.Common.{◌≡◌, ℕ, ◌+◌, max, refl, sym, ap, subst, ◌<◌}
use Rattle.petal_msg.specs.declared.letter.Actor.{Actor}
use Rattle.petal_msg.specs.declared.letter.Actor.TheVariants as actor
use Rattle.spec_rules.specs.World.{Setting, Setting, World, MayWork, MayActor, MayClient, MayServer, MayStep, received, greatest_u64}
use Rattle.spec_rules.specs.declared.step.Step.{Step}
use Rattle.spec_rules.specs.declared.step.Step.TheVariants.{Work, StopIn, Boot}
use Rattle.petal_world.specs.Steps.{phase_for, stamp_of}
use Rattle.server_host.specs.Desks.{end_in, ended, job_ended}
use Rattle.server_host.specs.declared.step_end.StepEnd.{StepEnd}
use Rattle.server_host.specs.declared.step_end.StepEnd.TheVariants.{Done, Fault, StopIn as Stopped}

-- ### A job, however it ends

job_allowed : (end : StepEnd) (setting : Setting) (w : World) (n : ℕ) → MayWork w n → MayServer (job_ended end) setting w n
job_allowed Done setting w n may = may
job_allowed (Fault commit) setting w n may = may
job_allowed (Stopped commit) setting w n may = may

job_of_none : (end : StepEnd) (setting : Setting) (w : World) (c : ℕ) → MayClient (job_ended end) setting w c → ⊥
job_of_none Done setting w c may = may
job_of_none (Fault commit) setting w c may = may
job_of_none (Stopped commit) setting w c may = may

job_receives : (end : StepEnd) → received (job_ended end) ≡ 0
job_receives Done = refl
job_receives (Fault commit) = refl
job_receives (Stopped commit) = refl

job_phase : (end : StepEnd) (who : Actor) (setting : Setting) (w : World) (phase : ℕ) → phase_for (job_ended end) who setting w phase ≡ phase
job_phase Done who setting w phase = refl
job_phase (Fault commit) who setting w phase = refl
job_phase (Stopped commit) who setting w phase = refl

-- ### Any step

server_ended : (what : Step) (end : StepEnd) (setting : Setting) (w : World) (n : ℕ) → MayServer what setting w n → MayServer (ended what end) setting w n
server_ended (Work named) end setting w n may = job_allowed end setting w n may
server_ended (StopIn named) end setting w n may = job_allowed end setting w n may
server_ended _ end setting w n may = may

-- a client has no jobs
client_none : (what : Step) (end : StepEnd) (setting : Setting) (w : World) (c : ℕ) → MayClient what setting w c → ended what end ≡ what
client_none (Work named) end setting w c may = absurd may
client_none (StopIn named) end setting w c may = absurd may
client_none (Boot named) end setting w c may = absurd may
client_none _ end setting w c may = refl

pub client_ended : (what : Step) (end : StepEnd) (setting : Setting) (w : World) (c : ℕ) → MayClient (ended what end) setting w c → ended what end ≡ what
client_ended (Work named) end setting w c may = absurd (job_of_none end setting w c may)
client_ended (StopIn named) end setting w c may = absurd (job_of_none end setting w c may)
client_ended (Boot named) end setting w c may = absurd may
client_ended _ end setting w c may = refl

pub client_done : (what : Step) (setting : Setting) (w : World) (c : ℕ) → MayClient what setting w c → Done ≡ end_in what
client_done (Work named) setting w c may = absurd may
client_done (StopIn named) setting w c may = absurd may
client_done (Boot named) setting w c may = absurd may
client_done _ setting w c may = refl

received_ended : (what : Step) (end : StepEnd) → received (ended what end) ≡ received what
received_ended (Work named) end = job_receives end
received_ended (StopIn named) end = job_receives end
received_ended _ end = refl

actor_ended : (who : Actor) (what : Step) (end : StepEnd) (setting : Setting) (w : World)
    → MayActor who what setting w → MayActor who (ended what end) setting w
actor_ended (actor.Server n) what end setting w may = (may.0, server_ended what end setting w n may.1)
actor_ended (actor.Client c) what end setting w may = (may.0, subst (λ s. MayClient s setting w c) (sym (client_none what end setting w c may.1)) may.1)

-- a job is allowed with each end or with none
pub may_ended : (setting : Setting) (w : World) (who : Actor) (what : Step) (end : StepEnd)
    → MayStep setting w who what → MayStep setting w who (ended what end)
may_ended setting w who what end step = record {
  may = actor_ended who what end setting w step.may;
  clock = step.clock;
  receives = subst (λ k. k < greatest_u64) (sym (received_ended what end)) step.receives;
  goes_on = step.goes_on;
}

pub stamp_ended : (floor : ℕ) (w : World) (who : Actor) (what : Step) (end : StepEnd) → stamp_of floor w who (ended what end) ≡ stamp_of floor w who what
stamp_ended floor w (actor.Server n) what end = ap (λ k. max (w.server_clocks n) k + 1) (received_ended what end)
stamp_ended floor w (actor.Client c) what end = ap (λ k. max floor (max (w.client_clocks c) k + 1)) (received_ended what end)

pub phase_ended : (what : Step) (end : StepEnd) (who : Actor) (setting : Setting) (w : World) (phase : ℕ)
    → phase_for (ended what end) who setting w phase ≡ phase_for what who setting w phase
phase_ended (Work named) end who setting w phase = job_phase end who setting w phase
phase_ended (StopIn named) end who setting w phase = job_phase end who setting w phase
phase_ended _ end who setting w phase = refl
