-- What a world keeps beside its records, and of which world it is.
use Rattle.std.specs.Prelude.{◌≡◌, ℕ, ◌≤◌, List, slice_set, Option, Some, None}
use Rattle.std.specs.Ordering.{nat_cmp}
use Rattle.petal_table.specs.Table.{Table, without}
use Rattle.petal_msg.specs.declared.letter.Actor.{Actor}
use Rattle.petal_msg.specs.declared.letter.Actor.TheVariants as actor
use Rattle.petal_msg.specs.declared.letter.Letter.{Letter}
use Rattle.script_lines.specs.declared.answer.Answer.{Answer}
use Rattle.spec_rules.specs.Lists.{In}
use Rattle.spec_rules.specs.World.{Setting, World, Control, clock_of, controls, stamped}
use Rattle.spec_rules.specs.declared.step.Step.{Step}
use Rattle.server_host.specs.declared.name.LetterName.{LetterName}
use Rattle.petal_world.specs.declared.seat.Seat.{Seat}
use Rattle.server_host.specs.Desks.{Desk, Equipped, LeavesPlansAt, bare, desks_of, acted_at, site_after}
use Rattle.petal_world.specs.Seats.{seats_of, reacted_at}
use Rattle.server_host.specs.Sent.{Lists, with_letters}
use Rattle.server_host.specs.Waiting.{Await}

-- the clients, the servers, the letters ever sent, the lines without an answer, and what was done of the operator's last line
pub record Actors : Type 0 where
  pub seats : List Seat
  pub desks : List Equipped
  pub sent : Table LetterName Letter
  pub waiting : Table ℕ ℕ
  pub control : Control

-- this is kept of this world
pub record Shows (setting : Setting) (w : World) (actors : Actors) : Type 0 where
  pub seats : actors.seats ≡ seats_of setting w
  pub desks : bare actors.desks ≡ desks_of setting w
  pub sent : Lists actors.sent w.sent
  pub waiting : Await setting.lines w.answers actors.waiting
  pub control : actors.control ≡ w.control
  pub past : (letter : Letter) → In letter w.sent → letter.stamp ≤ clock_of w letter.from

-- a line that has its answer waits no longer
abbrev pub without_answered : Table ℕ ℕ → Option (ℕ × Answer) → Table ℕ ℕ
without_answered rows None = rows
without_answered rows (Some given) = without nat_cmp rows given.0

-- the letters that a client's step sends
abbrev pub client_letters : Seat → Step → ℕ → List Letter
client_letters seat what stamp = stamped stamp (reacted_at seat what).1.letters

-- what is kept after it
abbrev pub with_client : Actors → ℕ → Seat → Step → ℕ → Actors
with_client actors c seat what stamp = record {
  seats = slice_set actors.seats c (record seat { core = (reacted_at seat what).0; clock = stamp });
  desks = actors.desks;
  sent = with_letters actors.sent (client_letters seat what stamp);
  waiting = without_answered actors.waiting (reacted_at seat what).1.answer;
  control = actors.control;
}

-- the letters that a server's step sends
abbrev pub server_letters : Desk → Step → ℕ → List Letter
server_letters desk what stamp = stamped stamp (acted_at desk.site what).letters

-- what is kept after it, with these desks
abbrev pub with_server : Actors → ℕ → Desk → Step → ℕ → List Equipped → Actors
with_server actors n desk what stamp desks = record {
  seats = actors.seats;
  desks = desks;
  sent = with_letters actors.sent (server_letters desk what stamp);
  waiting = actors.waiting;
  control = controls what n actors.control;
}

-- its desk alone is another
abbrev pub IsServed : Actors → ℕ → Desk → Step → ℕ → Actors → Type 0
IsServed actors n desk what stamp new =
    (bare new.desks ≡ slice_set (bare actors.desks) n (record { site = site_after desk.site what; clock = stamp }))
    × (new ≡ with_server actors n desk what stamp new.desks)

-- what a step leaves of the plans of all servers
abbrev pub LeavesPlansBy : Actor → Step → (old new : List Equipped) → Type 0
LeavesPlansBy (actor.Server n) what old new = LeavesPlansAt n what old new
LeavesPlansBy (actor.Client c) what old new = new ≡ old
