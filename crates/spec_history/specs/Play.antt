-- Runs that are computed from what is done in turn.
use Rattle.std.specs.Prelude.{ℕ, List, [], ◌∷◌, ◌++◌, reverse, slice_get, Option, Some, None}
use Rattle.petal_msg.specs.declared.letter.Actor.{Actor}
use Rattle.petal_msg.specs.declared.letter.Actor.TheVariants as actor
use Rattle.petal_msg.specs.declared.letter.Letter.{Letter}
use Rattle.spec_rules.specs.World.{Setting, World, StepResult, step, next_stamp}
use Rattle.spec_rules.specs.declared.step.Step.{Step}
use Rattle.spec_rules.specs.declared.step.Step.TheVariants.{Call, Deliver, Tick, Work}
use Rattle.spec_rules.specs.declared.step.WorkEnd.TheVariants as work_end
use Rattle.spec_history.specs.declared.record.Record.{Record}

-- one thing that is done: a client calls the line of this number, a letter is handed over (they are counted from 0 in the
-- order in which they were sent, those of one step from the last one), a server does the first job of its queue, an actor takes a tick
pub data Move : Type 0 where
  Calls : (client line : ℕ) → Move
  Hands : (letter : ℕ) → Move
  Works : (server : ℕ) → Move
  Ticks : (who : Actor) → Move

-- a record of one step, in phase 0
abbrev pub recorded : Actor → Step → ℕ → StepResult → Record
recorded who what stamp stepped = record { actor = who; stamp = stamp; phase = 0; step = what; sent = stepped.letters; answer = stepped.answer }

-- the record of the actor's step, with its next stamp
abbrev pub record_by : Setting → World → Actor → Step → Record
record_by setting w who what =
    let stamp = next_stamp w who what in
    recorded who what stamp (step who what setting w stamp)

abbrev pub handed : Setting → World → Option Letter → List Record
handed setting w None = []
handed setting w (Some letter) = record_by setting w letter.to (Deliver letter) ∷ []

-- the record of a move, where there is such a letter
abbrev pub moved : Setting → World → Move → List Record
moved setting w (Calls client line) = record_by setting w (actor.Client client) (Call line) ∷ []
moved setting w (Hands letter) = handed setting w (slice_get (reverse w.sent) letter)
moved setting w (Works server) = record_by setting w (actor.Server server) (Work work_end.Done) ∷ []
moved setting w (Ticks who) = record_by setting w who Tick ∷ []

-- the world after a record
abbrev pub following : Setting → World → List Record → World
following setting w [] = w
following setting w (own ∷ later) = following setting (step own.actor own.step setting w own.stamp).world later

-- the world after a list of moves
abbrev pub plays : Setting → World → List Move → World
plays setting w [] = w
plays setting w (move ∷ moves) = plays setting (following setting w (moved setting w move)) moves

-- the records of a list of moves
abbrev pub records_of : Setting → World → List Move → List Record
records_of setting w [] = []
records_of setting w (move ∷ moves) =
    let now = moved setting w move in
    now ++ records_of setting (following setting w now) moves
