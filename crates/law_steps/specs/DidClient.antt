-- What a client may have done: a relation above its step, with what the laws need to know of it.
use Rattle.law_steps.specs.Imports.{Answer, Asked, Body, CallKind, Client, Command, DiskView, Ending, In, IsPrefix, Line, Pattern, Post, Reaction, Sight}
use Rattle.law_steps.specs.Imports.{State, Which, answers, cell_asked, command_of, ended, epoch_for, find, is_logged, is_read, is_settled, is_witness}
use Rattle.law_steps.specs.Imports.{is_write, latest, lines_of, next_line, pattern_block, refusal, servers_of, state_after, subject_of, verdict_for}
use Rattle.law_steps.specs.Imports.{with_sight}
use Rattle.std.specs.Prelude.{[], if◌then◌else◌, ◌++◌, ◌+◌, ◌-◌, ◌∷◌, ◌≡◌, Bool, List, None, Option, Some, false, length, map, slice_get, true, ℕ}
use Rattle.petal_msg.specs.declared.body.Body.TheVariants as body
use Rattle.petal_msg.specs.declared.letter.Actor.TheVariants as actor
use Rattle.petal_msg.specs.declared.operation.Ending.TheVariants as ending
use Rattle.script_lines.specs.declared.answer.Answer.TheVariants as answer
use Rattle.script_lines.specs.declared.request.Request.TheVariants as request

-- the line of a client's request of this number. The first has number 1
abbrev pub line_by : List Line → (client seq : ℕ) → Option Line
line_by lines client seq = slice_get (lines_of lines client) (seq - 1)

-- what a client answers where its write has ended so
abbrev pub answer_of : Ending → Answer
answer_of ending.Written = answer.Ok
answer_of ending.Full = answer.NoSpace

-- ### What it sends

-- what a client may send that has this request open, at this state: words of the agreed log, or its request, which is of the revision of its
-- latest send. A read that was told at this revision that the new map has nothing goes to the old one
pub data Says (state : State) (c : ℕ) (open_now : Option Asked) : Post → Type 0 where
  Of_the_log : (post : Post) → is_logged (subject_of post.body) ≡ true → Says state c open_now post
  A_write : (asked : Asked) (name : List ℕ) (block : ℕ) (pattern : Pattern) (disk : DiskView) (to : ℕ) → open_now ≡ Some asked
      → asked.request ≡ request.Write name block pattern → find state name ≡ Some disk → asked.rev ≡ state.rev
      → Says state c open_now (record {
        to = actor.Server to;
        body = body.Write c asked.seq (cell_asked state disk block false) disk.epoch (pattern_block pattern);
      })
  A_read : (asked : Asked) (name : List ℕ) (snap : Option (List ℕ)) (block : ℕ) (disk : DiskView) (epoch to : ℕ) → open_now ≡ Some asked
      → asked.request ≡ request.Read name snap block → find state name ≡ Some disk → epoch_for state disk snap ≡ Some epoch → asked.rev ≡ state.rev
      → Says state c open_now (record { to = actor.Server to; body = body.Read c asked.seq (cell_asked state disk block asked.old_way) epoch })

-- it sends nothing else, at the state that the step leaves, and answers nothing
pub record OnlySays (servers c : ℕ) (reacted : Reaction) : Type 0 where
  pub says : (post : Post) → In post reacted.posts → Says (state_after servers reacted.client.applied) c reacted.client.asked post
  pub unanswered : reacted.answer ≡ None

-- ### What stays open

-- how a request stands that may have been sent once more: at the revision of its latest send it goes on by the way that it went; at another
-- one, which is that of the step's end, it is sent as ever
pub data WasSent (rev : ℕ) (old new : Asked) : Type 0 where
  As_it_was : new.rev ≡ old.rev → new.old_way ≡ old.old_way → WasSent rev old new
  Anew : new.rev ≡ rev → new.old_way ≡ false → WasSent rev old new

-- a request that stays open may have been sent once more, at the revision that the step leaves, or had a Witness more, or, of a
-- settle, a server more in its round, or another round
pub record IsSame (rev : ℕ) (old new : Asked) : Type 0 where
  pub line : new.line ≡ old.line
  pub seq : new.seq ≡ old.seq
  pub request : new.request ≡ old.request
  pub told : new.saw_missing ≡ old.saw_missing
  pub sent : WasSent rev old new

abbrev pub StaysOpen : ℕ → Option Asked → Option Asked → Type 0
StaysOpen rev None None = Unit {0}
StaysOpen rev (Some old) (Some new) = IsSame rev old new
StaysOpen rev _ _ = ⊥

-- the request of this line is open under this number, from this revision on
pub record IsCalled (line : Line) (seq rev : ℕ) (asked : Asked) : Type 0 where
  pub line_is : asked.line ≡ line.number
  pub seq_is : asked.seq ≡ seq
  pub request_is : asked.request ≡ line.request
  pub rev_is : asked.rev ≡ rev
  pub untold : asked.saw_missing ≡ false
  pub new_way : asked.old_way ≡ false

-- ### Answers by an entry

-- why an entry answers the open request, in the state at its place: the verdict of the request's own command, or its own
-- Witness where this state can't serve it
pub data IsReason (c : ℕ) (asked : Asked) (given : Answer) (state : State) (entry : Command) : Type 0 where
  By_verdict : (command : Command) → command_of c asked.seq asked.request ≡ Some command → verdict_for asked.seq (latest state c) ≡ Some given
      → IsReason c asked given state entry
  By_witness : command_of c asked.seq asked.request ≡ None → is_witness c asked.seq entry ≡ true → refusal state asked.saw_missing asked.request ≡ Some given
      → IsReason c asked given state entry

-- an entry that the client applied in this step answers its request
pub record IsJudged (servers c : ℕ) (before after : List Command) (asked : Asked) (given : Answer) : Type 0 where
  pub prefix : List Command
  pub entry : Command
  pub rest : List Command
  pub lies : after ≡ prefix ++ entry ∷ rest
  pub new : IsPrefix before prefix
  pub reason : IsReason c asked given (state_after servers (prefix ++ entry ∷ [])) entry

-- ### Answers by a glance

-- why a glance answers the operator's line: a stop is done, and a plan is armed; a start, or a blank, is, or has failed where the server doesn't run; and a
-- settle has no space where the server's last copy found no slot, or is done where its round has shown each server and all is settled
pub data IsSeenAs (state : State) (asked : Asked) (sight : Sight) (given : Answer) : Type 0 where
  Stops_it : (server : ℕ) → asked.request ≡ request.Stop server → given ≡ answer.Ok → IsSeenAs state asked sight given
  Stops_at : (server at : ℕ) → asked.request ≡ request.StopAt server at → given ≡ answer.Ok → IsSeenAs state asked sight given
  Fails_it : (server : ℕ) (which : Which) (kind : CallKind) (at : ℕ) → asked.request ≡ request.Fault server which kind at → given ≡ answer.Ok
      → IsSeenAs state asked sight given
  Starts_it : (server : ℕ) → asked.request ≡ request.Start server → given ≡ (if sight.running then answer.Ok else answer.Failed)
      → IsSeenAs state asked sight given
  Blanks_it : (server : ℕ) → asked.request ≡ request.Blank server → given ≡ (if sight.running then answer.Ok else answer.Failed)
      → IsSeenAs state asked sight given
  Has_no_space : asked.request ≡ request.Settle → sight.full ≡ true → given ≡ answer.NoSpace → IsSeenAs state asked sight given
  Is_settled : asked.request ≡ request.Settle → sight.round ≡ asked.round → length (with_sight asked sight).seen ≡ servers_of state
      → is_settled state (map (λ row. row.1) (with_sight asked sight).seen) ≡ true → given ≡ answer.Ok → IsSeenAs state asked sight given

-- ### What it does

-- what a client may have done, in a call or else having heard only what `heard` knows, with the revision of its sender. A
-- reply that ends a request is of the revision of the latest send, and so is one by which a read goes to the old map
pub data Turned (heard : ℕ → Body → Type 0) (servers : ℕ) (lines : List Line) (c : ℕ) (client : Client) : (in_call : Bool) → Reaction → Type 0 where
  Goes_on : (reacted : Reaction) → reacted.client.seq ≡ client.seq → StaysOpen (length reacted.client.applied) client.asked reacted.client.asked
      → OnlySays servers c reacted
      → Turned heard servers lines c client false reacted
  Is_told : (reacted : Reaction) (asked : Asked) → heard asked.rev (body.NotHere asked.seq) → client.asked ≡ Some asked → is_read asked.request ≡ true
      → reacted.client.seq ≡ client.seq
      → StaysOpen (length reacted.client.applied) (Some (record asked { saw_missing = true; old_way = true })) reacted.client.asked
      → OnlySays servers c reacted
      → Turned heard servers lines c client false reacted
  Begins : (reacted : Reaction) (line : Line) (asked : Asked) → next_line lines c client ≡ Some line → client.asked ≡ None
      → reacted.client.seq ≡ client.seq + 1 → reacted.client.asked ≡ Some asked → IsCalled line (client.seq + 1) (length client.applied) asked
      → OnlySays servers c reacted
      → Turned heard servers lines c client true reacted
  Reads : (asked : Asked) (bytes : List ℕ) → heard asked.rev (body.Data asked.seq bytes) → client.asked ≡ Some asked → is_read asked.request ≡ true
      → Turned heard servers lines c client false (answers client asked (answer.Data bytes))
  Ends : (asked : Asked) (how : Ending) → heard asked.rev (ended asked.seq how) → client.asked ≡ Some asked → is_write asked.request ≡ true
      → Turned heard servers lines c client false (answers client asked (answer_of how))
  Shown : (asked : Asked) (rev : ℕ) (sight : Sight) (given : Answer)
      → heard rev (body.Seen asked.line sight.round sight.running sight.inc sight.full) → client.asked ≡ Some asked
      → IsSeenAs (state_after servers client.applied) asked sight given
      → Turned heard servers lines c client false (answers client asked given)
  Judges : (after : Client) (asked : Asked) (given : Answer) → client.asked ≡ Some asked → after.asked ≡ None → after.seq ≡ client.seq
      → IsJudged servers c client.applied after.applied asked given
      → Turned heard servers lines c client false (record { client = after; posts = []; answer = Some (asked.line, given) })
