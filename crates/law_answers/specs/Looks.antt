-- The looks of a history, each beside the number of the line that it answers; and that a line has exactly one.
use Rattle.law_answers.specs.Imports.{Actor, Body, Call, Data, Event, In, IsMoment, Letter, Line, Look, Read, Record, Setting, World, accepted, look_for}
use Rattle.law_answers.specs.Imports.{old_data, reads_old, start, stepped, world_after}
use Rattle.std.specs.Prelude.{[], if◌then◌else◌, ◌++◌, ◌==◌, ◌∷◌, ◌≡◌, ◌≢◌, List, None, Option, Some, false, filter, length, map, ℕ}
use Rattle.std.specs.List.{flat_map}
use Rattle.petal_msg.specs.declared.body.Body.TheVariants as body
use Rattle.petal_msg.specs.declared.letter.Actor.TheVariants as actor

-- ### Looks with their lines

-- each of these events, beside the number
abbrev pub beside : ℕ → List Event → List (ℕ × Event)
beside number events = map (λ event. (number, event)) events

-- the looks for the line that a letter's data answer, as `look_for` of the events tells them
abbrev pub look_beside : List Line → Option ℕ → List ℕ → List (ℕ × Event)
look_beside lines None bytes = []
look_beside lines (Some number) bytes = beside number (look_for lines (Some number) bytes)

abbrev pub look_beside_data : List Line → Option (ℕ × List ℕ) → List (ℕ × Event)
look_beside_data lines None = []
look_beside_data lines (Some given) = look_beside lines (Some given.0) given.1

-- what a letter tells that a step sent, as `look_of` of the events
abbrev pub letter_looks : Setting → (w next : World) → Actor → List Record → Letter → Body → List (ℕ × Event)
letter_looks setting w next who later letter (body.Data seq bytes) =
    if reads_old setting w who then [] else look_beside setting.lines (accepted later letter) bytes
letter_looks setting w next who later letter (body.NotHere seq) =
    look_beside_data setting.lines (old_data setting next later (record { letter = letter; seq = seq }) false)
letter_looks setting w next who later letter _ = []

-- the looks that a record tells, as `looks` of the events
abbrev pub record_looks : Setting → (w next : World) → Record → List Record → List (ℕ × Event)
record_looks setting w next own later = flat_map (λ letter. letter_looks setting w next own.actor later letter letter.body) own.sent

-- those that the record of this moment tells
abbrev pub looks_at : Setting → (records : List Record) → IsMoment records → List (ℕ × Event)
looks_at setting records moment =
    let w = world_after setting (start setting) moment.prefix in
    record_looks setting w (stepped setting w moment.own).world moment.own moment.following

-- those of the line of this number
abbrev pub of_line : ℕ → List (ℕ × Event) → List (ℕ × Event)
of_line number looks = filter (λ look. look.0 == number) looks

-- the looks for the line that the record of this moment tells
abbrev pub looks_for : Setting → (records : List Record) → IsMoment records → (number : ℕ) → List (ℕ × Event)
looks_for setting records moment number = of_line number (looks_at setting records moment)

-- ### Exactly one

-- one of these records is the call of the line by its client
pub record IsCalledIn (records : List Record) (line : Line) : Type 0 where
  pub call : Record
  pub there : In call records
  pub who : call.actor ≡ actor.Client line.client
  pub what : call.step ≡ Call line.number

-- one record, a server's step, tells this look for the line, and tells it once; no other record tells a look for the line. The line's call stands
-- before the record, and the answer after it
pub record IsLookedAtOnce (setting : Setting) (records : List Record) (line : Line) (look : Event) (answer : IsMoment records) : Type 0 where
  pub moment : IsMoment records
  pub open moment use *
  pub told : looks_for setting records moment line.number ≡ (line.number, look) ∷ []
  pub alone : (other : IsMoment records) → length other.prefix ≢ length prefix → looks_for setting records other line.number ≡ []
  pub server : ℕ
  pub who : own.actor ≡ actor.Server server
  pub called : IsCalledIn prefix line
  pub between : List Record
  pub answered : answer.prefix ≡ prefix ++ own ∷ between

-- a record after this moment answers the line of this number with data
pub record IsAnsweredAfter (records : List Record) (moment : IsMoment records) (number : ℕ) : Type 0 where
  pub answer : IsMoment records
  pub bytes : List ℕ
  pub given : answer.own.answer ≡ Some (number, Data bytes)
  pub between : List Record
  pub after : answer.prefix ≡ moment.prefix ++ moment.own ∷ between

-- the line of this number is a read of the client that the record answers with these bytes, and it is looked at once, with these bytes
pub record HasItsLook (setting : Setting) (records : List Record) (answer : IsMoment records) (number : ℕ) (bytes : List ℕ) : Type 0 where
  pub line : Line
  pub there : In line setting.lines
  pub number_is : line.number ≡ number
  pub client_is : answer.own.actor ≡ actor.Client line.client
  pub name : List ℕ
  pub snap : Option (List ℕ)
  pub block : ℕ
  pub asks : line.request ≡ Read name snap block
  pub once : IsLookedAtOnce setting records line (Look name snap block bytes) answer
