-- A step of an actor: its stamp and its phase, whether it can be taken by what is kept, and what it leaves.
use Rattle.std.specs.Prelude.{◌≡◌, ℕ, ◌<◌, max, ◌&&◌, nat_lt, if◌then◌else◌, false}
use Rattle.std.specs.Prelude.{length, slice_get, IfSome, Option, Some, None}
use Rattle.petal_msg.specs.declared.letter.Actor.{Actor}
use Rattle.petal_msg.specs.declared.letter.Actor.TheVariants as actor
use Rattle.script_lines.specs.declared.request.Line.{Line}
use Rattle.spec_rules.specs.World.{Setting, World, step, next_line, next_stamp, clock_of, MayStep}
use Rattle.spec_rules.specs.Log as log
use Rattle.spec_rules.specs.declared.step.Step.{Step}
use Rattle.spec_rules.specs.declared.step.Step.TheVariants.{Call}
use Rattle.client_core.specs.ClientView.{is_spent}
use Rattle.petal_world.specs.declared.step_result.StepResult.{StepResult}
use Rattle.server_host.specs.Desks.{end_in}
use Rattle.petal_world.specs.Seats.{CanTake}
use Rattle.petal_world.specs.Actors.{Actors, Shows}

-- the stamp of a step
abbrev pub stamp_of : ℕ → World → Actor → Step → ℕ
stamp_of floor w (actor.Server n) what = next_stamp w (actor.Server n) what
stamp_of floor w (actor.Client c) what = max floor (next_stamp w (actor.Client c) what)

abbrev pub phase_of : Option Line → ℕ → ℕ
phase_of None phase = phase
phase_of (Some line) phase = line.phase

-- the phase of a record: a call's is its line's
abbrev pub phase_for : Step → Actor → Setting → World → ℕ → ℕ
phase_for (Call line) (actor.Client c) setting w phase = phase_of (next_line setting.lines c (w.clients c)) phase
phase_for _ who setting w phase = phase

-- the revision of a running server or a client
abbrev pub rev_of : Setting → World → Actor → Option ℕ
rev_of setting w (actor.Server n) = if nat_lt n setting.servers && (w.servers n).life.running then Some (log.rev_of (w.servers n).log) else None
rev_of setting w (actor.Client c) = if nat_lt c 9 then Some (length (w.clients c).applied) else None

-- the step may be taken by what is kept
abbrev pub Can : Actors → Actor → Step → Type 0
Can actors (actor.Server n) what = n < length actors.desks
Can actors (actor.Client c) what =
    (c < length actors.seats) × IfSome (slice_get actors.seats c) (λ seat. CanTake what seat.core.client)
    × IfSome (slice_get actors.seats c) (λ seat. is_spent seat.core.client ≡ false)

-- in every world of which this is kept, a step leaves and tells what the rule says
abbrev pub Leaves : Setting → World → Actor → Step → ℕ → Actors → StepResult → Type 0
Leaves setting w who what stamp new told =
    Shows setting (step who what setting w stamp).world new
    × (told ≡ record { letters = (step who what setting w stamp).letters; answer = (step who what setting w stamp).answer; end = end_in what })

-- so a step does in every world of which this is kept, where the rules allow it and the stamp is above the actor's last
abbrev pub LeavesIn : Actors → Actor → Step → ℕ → Actors → StepResult → Type 0
LeavesIn actors who what stamp new told = (setting : Setting) (w : World) → Shows setting w actors → MayStep setting w who what → clock_of w who < stamp
    → Leaves setting w who what stamp new told
