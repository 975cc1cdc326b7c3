-- The clients of a world.
use Rattle.std.specs.Prelude.{◌≡◌, ◌<◌, ◌==◌, ◌&&◌, ℕ, Bool, true, false, List, map, slice_get, Some, None}
use Rattle.std.specs.List.{range_with_len}
use Rattle.script_lines.specs.declared.request.Line.{Line}
use Rattle.script_lines.specs.declared.request.Request.{Request}
use Rattle.script_lines.specs.declared.request.Request.TheVariants as request
use Rattle.spec_rules.specs.Clients.{Client}
use Rattle.spec_rules.specs.World.{Setting, World, client_step, lines_of}
use Rattle.spec_rules.specs.declared.step.Step.{Step}
use Rattle.spec_rules.specs.declared.step.Step.TheVariants.{Call}
use Rattle.client_core.specs.ClientView.{ClientView, at_core, state_of}
use Rattle.client_core.specs.declared.reaction.Reaction.{Reaction}
use Rattle.petal_world.specs.declared.seat.Seat.{Seat}

-- the client can take the step: it calls a line only where it has nothing open
abbrev pub CanTake : Step → Client → Type 0
CanTake (Call line) client = client.asked ≡ None
CanTake _ client = Unit {0}

-- the rule of a step, at this client: the core after it, and what it gives
abbrev pub reacted_at : Seat → Step → ClientView × Reaction
reacted_at seat step = at_core seat.core (client_step step (state_of seat.core) seat.core.me seat.core.client (slice_get seat.lines seat.core.client.seq))

-- what a world keeps of one client
abbrev pub seat_of : Setting → World → ℕ → Seat
seat_of setting w c = record {
  core = record { me = c; servers = setting.servers; client = w.clients c };
  clock = w.client_clocks c;
  lines = lines_of setting.lines c;
}

-- and of all
abbrev pub seats_of : Setting → World → List Seat
seats_of setting w = map (seat_of setting w) (range_with_len 0 9)

-- ### Settles

abbrev pub is_settle : Request → Bool
is_settle request.Settle = true
is_settle _ = false

-- the line has this number, and is a settle
abbrev pub settles_as : ℕ → Line → Bool
settles_as number line = (line.number == number) && is_settle line.request

-- the client has called such a line, which is open or answered
pub record HasCalledSettle (seat : Seat) (number : ℕ) : Type 0 where
  pub place : ℕ
  pub line : Line
  pub is : slice_get seat.lines place ≡ Some line
  pub called : place < seat.core.client.seq
  pub so : settles_as number line ≡ true
