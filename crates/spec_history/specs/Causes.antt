-- Why a request is answered so: by its own entry in the chosen log, and the state at that entry's place.
use Rattle.std.specs.Prelude.{◌≡◌, ◌≢◌, ℕ, ◌+◌, ◌<◌, ◌≤◌, Bool, true, false, length, slice_get, Option, Some, None, is_none, is_some}
use Rattle.std.specs.Option.{option_map_or}
use Rattle.global_tables.specs.Disk.{named, snapshot_named}
use Rattle.petal_command.specs.declared.command.Command.{Command}
use Rattle.petal_command.specs.declared.command.Command.TheVariants.{Witness}
use Rattle.petal_msg.specs.declared.body.Body.TheVariants.{NotHere}
use Rattle.petal_msg.specs.declared.letter.Actor.TheVariants.{Client}
use Rattle.petal_msg.specs.declared.letter.Letter.{Letter}
use Rattle.spec_state.specs.Command.{is_taken}
use Rattle.spec_state.specs.State.{latest}
use Rattle.script_lines.specs.Requests.{is_snap}
use Rattle.script_lines.specs.declared.answer.Answer.{Answer}
use Rattle.script_lines.specs.declared.answer.Answer.TheVariants as answer
use Rattle.script_lines.specs.declared.request.Line.{Line}
use Rattle.script_lines.specs.declared.request.Request.{Request}
use Rattle.script_lines.specs.declared.request.Request.TheVariants as request
use Rattle.spec_rules.specs.Clients.{command_of, refusal, verdict_for}
use Rattle.spec_rules.specs.Lists.{In}
use Rattle.spec_rules.specs.State.{State}
use Rattle.spec_rules.specs.World.{Setting, World, lines_of, chosen_log, state_at}

-- what a request of each kind may be answered: this, and nothing else. Only a read that names a snapshot may hear that there is none
abbrev pub may_answer : Request → Answer → Bool
may_answer (request.Disk name tuple) answer.Ok = true
may_answer (request.Disk name tuple) answer.Exists = true
may_answer (request.Write name block pattern) answer.Ok = true
may_answer (request.Write name block pattern) answer.NoSpace = true
may_answer (request.Write name block pattern) answer.NoDisk = true
may_answer (request.Write name block pattern) answer.Unavailable = true
may_answer (request.Read name snap block) (answer.Data bytes) = true
may_answer (request.Read name snap block) answer.NoDisk = true
may_answer (request.Read name snap block) answer.Unavailable = true
may_answer (request.Read name (Some snap) block) answer.NoSnap = true
may_answer (request.Snap name snap) answer.Ok = true
may_answer (request.Snap name snap) answer.NoDisk = true
may_answer (request.Snap name snap) answer.Exists = true
may_answer (request.Move name tuple) answer.Ok = true
may_answer (request.Move name tuple) answer.NoDisk = true
may_answer (request.Move name tuple) answer.Moving = true
may_answer (request.Stop server) answer.Ok = true
may_answer (request.StopAt server at) answer.Ok = true
may_answer (request.Fault server which kind at) answer.Ok = true
may_answer (request.Start server) answer.Ok = true
may_answer (request.Start server) answer.Failed = true
may_answer (request.Blank server) answer.Ok = true
may_answer (request.Blank server) answer.Failed = true
may_answer request.Settle answer.Ok = true
may_answer request.Settle answer.NoSpace = true
may_answer _ _ = false

-- a letter told the client that the new map has nothing for this request
pub record WasTold (w : World) (client seq : ℕ) : Type 0 where
  pub letter : Letter
  pub sent : In letter w.sent
  pub to : letter.to ≡ Client client
  pub is : letter.body ≡ NotHere seq

-- a Witness of the request is chosen, and in the state at its place the request can't be served, for this cause: also not by the old map,
-- where it was told that the new one has nothing. It is a cause of the request's kind
pub record HasWitness (setting : Setting) (w : World) (client seq : ℕ) (asked : Request) (cause : Answer) : Type 0 where
  pub place : ℕ
  pub turn : ℕ
  pub told : Bool
  pub why : told ≡ true → WasTold w client seq
  pub is : slice_get (chosen_log setting w) place ≡ Some (Witness client seq turn)
  pub so : refusal (state_at setting w (place + 1)) told asked ≡ Some cause
  pub fits : may_answer asked cause ≡ true

-- the name that the request would give is taken in this state: it is that of a disk; or that of a snapshot of the request's disk, or of one
-- that waits for its fence
abbrev pub is_name_taken : State → Request → Bool
is_name_taken state (request.Disk name tuple) = is_some (named state.disks.rows name)
is_name_taken state (request.Snap name snap) = option_map_or (is_taken state snap) (named state.disks.rows name) false
is_name_taken state _ = false

-- the request is for a disk that the state doesn't know
abbrev pub lacks_disk : State → Request → Bool
lacks_disk state (request.Snap name snap) = is_none (named state.disks.rows name)
lacks_disk state (request.Move name tuple) = is_none (named state.disks.rows name)
lacks_disk state _ = false

-- the disk that the request would move is on the move
abbrev pub is_moving : State → Request → Bool
is_moving state (request.Move name tuple) = option_map_or (λ row. is_some row.moving) (named state.disks.rows name) false
is_moving state _ = false

-- what the request asked for is there: its disk, its snapshot of its disk, or its disk is on the move
abbrev pub has_made : State → Request → Bool
has_made state (request.Disk name tuple) = is_some (named state.disks.rows name)
has_made state (request.Snap name snap) = option_map_or (λ row. is_some (snapshot_named row.snaps snap)) (named state.disks.rows name) false
has_made state (request.Move name tuple) = is_moving state (request.Move name tuple)
has_made state _ = false

-- the request's own command is chosen, and its verdict says this: in the state right after its first place or, where a snapshot is taken,
-- after the entry with which its fence took effect; and no state before says anything. What is refused is so by the state before its first
-- place; and by that state a name that is given was free, and its disk known. It is a verdict of the request's kind
pub record HasVerdict (setting : Setting) (w : World) (client seq : ℕ) (asked : Request) (cause : Answer) : Type 0 where
  pub place : ℕ
  pub judged : ℕ
  pub command : Command
  pub own : command_of client seq asked ≡ Some command
  pub is : slice_get (chosen_log setting w) place ≡ Some command
  pub first : (i : ℕ) → i < place → slice_get (chosen_log setting w) i ≢ Some command
  pub since : place ≤ judged
  pub within : judged < length (chosen_log setting w)
  pub so : verdict_for seq (latest (state_at setting w (judged + 1)) client) ≡ Some cause
  pub until : (i : ℕ) → i ≤ judged → verdict_for seq (latest (state_at setting w i) client) ≡ None
  pub at_once : is_snap asked ≡ false → judged ≡ place
  pub taken : cause ≡ answer.Exists → is_name_taken (state_at setting w place) asked ≡ true
  pub unknown : cause ≡ answer.NoDisk → lacks_disk (state_at setting w place) asked ≡ true
  pub moving : cause ≡ answer.Moving → is_moving (state_at setting w place) asked ≡ true
  pub still : cause ≡ answer.Ok → is_moving (state_at setting w place) asked ≡ false
  pub free : cause ≡ answer.Ok → is_name_taken (state_at setting w place) asked ≡ false
  pub known : cause ≡ answer.Ok → lacks_disk (state_at setting w place) asked ≡ false
  pub made : cause ≡ answer.Ok → has_made (state_at setting w (judged + 1)) asked ≡ true
  pub fits : may_answer asked cause ≡ true

-- a request with a command of its own is answered by its verdict; another one that can't be served by its Witness, and what else it is answered
-- it may be
abbrev pub CauseOf : Setting → World → (client seq : ℕ) → Request → Option Command → Answer → Type 0
CauseOf setting w client seq asked (Some command) given = HasVerdict setting w client seq asked given
CauseOf setting w client seq asked None answer.NoDisk = HasWitness setting w client seq asked answer.NoDisk
CauseOf setting w client seq asked None answer.NoSnap = HasWitness setting w client seq asked answer.NoSnap
CauseOf setting w client seq asked None answer.Unavailable = HasWitness setting w client seq asked answer.Unavailable
CauseOf setting w client seq asked None answer.Ok = may_answer asked answer.Ok ≡ true
CauseOf setting w client seq asked None (answer.Data bytes) = may_answer asked (answer.Data bytes) ≡ true
CauseOf setting w client seq asked None answer.NoSpace = may_answer asked answer.NoSpace ≡ true
CauseOf setting w client seq asked None answer.Exists = may_answer asked answer.Exists ≡ true
CauseOf setting w client seq asked None answer.Moving = may_answer asked answer.Moving ≡ true
CauseOf setting w client seq asked None answer.Failed = may_answer asked answer.Failed ≡ true

-- each answer has its cause, and so is one that its request may get. The lines of a client are its requests, counted from 1
abbrev pub AreCaused : Setting → World → Type 0
AreCaused setting w =
    (line : Line) (before : ℕ) (given : Answer) → slice_get (lines_of setting.lines line.client) before ≡ Some line → In (line.number, given) w.answers
    → CauseOf setting w line.client (before + 1) line.request (command_of line.client (before + 1) line.request) given
