-- What a client does: at a call, with a letter that comes, and at a tick.
use Rattle.std.specs.Prelude.{ℕ, ◌+◌, ◌-◌, ◌%◌, ◌==◌, ◌&&◌, ◌||◌, not, Bool, true, false, nat_le, List, [], ◌∷◌, ◌++◌, length, map, filter}
use Rattle.std.specs.Prelude.{fold, drop, slice_get, if◌then◌else◌, Option, Some, None, is_some}
use Rattle.std.specs.List.{range_with_len}
use Rattle.std.specs.Option.{option_map_or}
use Rattle.std.specs.Ordering.{nat_cmp}
use Rattle.petal_table.specs.Table.{Table, put}
use Rattle.petal_base.specs.declared.cell.Cell.{Cell}
use Rattle.petal_command.specs.declared.command.Command.{Command}
use Rattle.petal_command.specs.declared.command.Command.TheVariants.{MakeDisk, Snap, StartMove, Witness}
use Rattle.global_tables.specs.declared.disk.Latest.{Latest}
use Rattle.global_tables.specs.declared.disk.Verdict.{Verdict}
use Rattle.global_tables.specs.declared.disk.Verdict.TheVariants as verdict
use Rattle.petal_msg.specs.Kinds.{About, about}
use Rattle.petal_msg.specs.declared.body.Body.{Body}
use Rattle.petal_msg.specs.declared.body.Body.TheVariants as body
use Rattle.petal_msg.specs.declared.letter.Actor.{Actor}
use Rattle.petal_msg.specs.declared.letter.Actor.TheVariants as actor
use Rattle.petal_msg.specs.declared.letter.Letter.{Letter}
use Rattle.script_lines.specs.Pattern.{pattern_block}
pub use Rattle.script_lines.specs.Requests.{is_read, is_write, is_stop}
use Rattle.script_lines.specs.declared.answer.Answer.{Answer}
use Rattle.script_lines.specs.declared.answer.Answer.TheVariants as answer
use Rattle.script_lines.specs.declared.request.Request.{Request}
use Rattle.script_lines.specs.declared.request.Request.TheVariants as request
use Rattle.spec_state.specs.CellState.{cell_asked}
use Rattle.spec_state.specs.Settled.{is_settled}
use Rattle.spec_state.specs.State.{latest}
use Rattle.spec_state.specs.Command.{after}
use Rattle.spec_state.specs.declared.answer.DiskView.{DiskView}
use Rattle.spec_rules.specs.State.{State, servers_of, find, snapshot, lead, readable}
use Rattle.spec_rules.specs.Server.{Post, Sender, post_to}

-- a request that is open: its line, its number, how often it was sent, the revision of the latest send, and how many
-- Witnesses of it were applied. Of a read also whether it was ever told that the new map has nothing, and whether its latest send asks the
-- old map for this. Of a settle too, in which round of glances it is, counted from 1, and which servers this round showed so far, each with
-- the incarnation as which it runs
pub record Asked : Type 0 where
  pub line : ℕ
  pub seq : ℕ
  pub request : Request
  pub turn : ℕ
  pub rev : ℕ
  pub witnesses : ℕ
  pub saw_missing : Bool
  pub old_way : Bool
  pub round : ℕ
  pub seen : Table ℕ (Option ℕ)

-- a client: the entries of the log that it has applied, the number of its last request, which server it asks or proposes to
-- next, and the request that is open
pub record Client : Type 0 where
  pub applied : List Command
  pub seq : ℕ
  pub asks : ℕ
  pub asked : Option Asked

-- a client of a run that begins
abbrev pub first_client : Client
first_client = record { applied = []; seq = 0; asks = 0; asked = None }

-- what a step of a client leaves, sends and answers, with the line that is answered
pub record Reaction : Type 0 where
  pub client : Client
  pub posts : List Post
  pub answer : Option (ℕ × Answer)

-- nothing happens
abbrev pub rests : Client → Reaction
rests client = record { client = client; posts = []; answer = None }

-- ### Sending

-- the servers that may read a cell, by number
abbrev pub readers : State → Cell → List ℕ
readers state cell = filter (λ n. readable state n cell) (range_with_len 0 (servers_of state))

-- one of the servers, in turn
abbrev pub in_turn : List ℕ → ℕ → Option ℕ
in_turn servers turn = slice_get servers (turn % length servers)

-- the epoch that a read asks for: the snapshot's, or the disk's own
abbrev pub epoch_for : State → DiskView → Option (List ℕ) → Option ℕ
epoch_for state disk None = Some disk.epoch
epoch_for state disk (Some snap) = snapshot state disk.disk snap

abbrev pub write_posts : State → Option DiskView → (client seq block : ℕ) → List ℕ → List Post
write_posts state None client seq block bytes = []
write_posts state (Some disk) client seq block bytes =
    post_to (lead state (cell_asked state disk block false)) (body.Write client seq (cell_asked state disk block false) disk.epoch bytes)

abbrev pub read_posts_at : State → Cell → Option ℕ → (client seq turn : ℕ) → List Post
read_posts_at state cell None client seq turn = []
read_posts_at state cell (Some epoch) client seq turn = post_to (in_turn (readers state cell) turn) (body.Read client seq cell epoch)

-- a read of a block, in turn, by the old map or not
pub record Turn : Type 0 where
  pub block : ℕ
  pub turn : ℕ
  pub old_way : Bool

abbrev pub read_posts : State → Option DiskView → Option (List ℕ) → (client seq : ℕ) → Turn → List Post
read_posts state None snap client seq at = []
read_posts state (Some disk) snap client seq at =
    read_posts_at state (cell_asked state disk at.block at.old_way) (epoch_for state disk snap) client seq at.turn

-- what is sent for a request: a write goes to the lead, a read to the servers that may read, in turn at each send. In a region that is on its
-- way both ask the new map, and a read that was told that it has nothing the old one
abbrev pub posts_for : State → (client seq turn : ℕ) → (old_way : Bool) → Request → List Post
posts_for state client seq turn old_way (request.Write name block pattern) = write_posts state (find state name) client seq block (pattern_block pattern)
posts_for state client seq turn old_way (request.Read name snap block) =
    read_posts state (find state name) snap client seq (record { block = block; turn = turn; old_way = old_way })
posts_for state client seq turn old_way _ = []

-- ### Commands of a client

-- the command that carries the request out
abbrev pub command_of : (client seq : ℕ) → Request → Option Command
command_of client seq (request.Disk name tuple) = Some (MakeDisk client seq name tuple)
command_of client seq (request.Snap name snap) = Some (Snap client seq name snap)
command_of client seq (request.Move name tuple) = Some (StartMove client seq name tuple)
command_of client seq _ = None

abbrev pub write_refusal : State → Option DiskView → ℕ → Option Answer
write_refusal state None block = Some answer.NoDisk
write_refusal state (Some disk) block = if is_some (lead state (cell_asked state disk block false)) then None else Some answer.Unavailable

-- no server may read the cell
abbrev pub is_unread : State → Cell → Bool
is_unread state cell = length (readers state cell) == 0

-- the cell that is asked first, and the one that is asked where that has nothing
abbrev pub read_refusal_at : State → (asked old : Cell) → Option ℕ → Option Answer
read_refusal_at state asked old None = Some answer.NoSnap
read_refusal_at state asked old (Some epoch) = if is_unread state asked || is_unread state old then Some answer.Unavailable else None

abbrev pub read_refusal : State → Option DiskView → Option (List ℕ) → ℕ → (saw_missing : Bool) → Option Answer
read_refusal state None snap block saw_missing = Some answer.NoDisk
read_refusal state (Some disk) snap block saw_missing =
    read_refusal_at state (cell_asked state disk block false) (cell_asked state disk block saw_missing) (epoch_for state disk snap)

-- why a read or write can't be served in this state: its disk or snapshot is unknown, or it has no usable server. A read that was ever told
-- that the new map has nothing needs a server of either map, while the block's region is on its way
unfoldable pub refusal : State → (saw_missing : Bool) → Request → Option Answer
refusal state saw_missing (request.Write name block pattern) = write_refusal state (find state name) block
refusal state saw_missing (request.Read name snap block) = read_refusal state (find state name) snap block saw_missing
refusal state saw_missing _ = None

-- a place of the log from which the client can tell that its request can't be served
abbrev pub witness_of : ℕ → Asked → Command
witness_of client asked = Witness client asked.seq asked.witnesses

abbrev pub witness_where : Option Answer → ℕ → Asked → Option Command
witness_where None client asked = None
witness_where (Some cause) client asked = Some (witness_of client asked)

abbrev pub or_command : Option Command → Option Command → Option Command
or_command None other = other
or_command (Some command) other = Some command

-- what is to be proposed for the open request: its own command, or a Witness where the state can't serve it
abbrev pub to_propose : State → ℕ → Asked → Option Command
to_propose state me asked = or_command (command_of me asked.seq asked.request) (witness_where (refusal state asked.saw_missing asked.request) me asked)

-- ### Sending the open request

abbrev pub post_in_turn : Client → Body → List Post
post_in_turn client said = record { to = actor.Server client.asks; body = said } ∷ []

-- the client that asks or proposes to the next server next
abbrev pub next_asked : State → Client → Client
next_asked state client = record client { asks = (client.asks + 1) % servers_of state }

-- it asks the old map only at the revision at which it was told
abbrev pub way_now : State → Asked → Bool
way_now state asked = asked.old_way && (asked.rev == state.rev)

-- the request goes to its servers, at the client's revision
abbrev pub sends : State → ℕ → Client → Asked → Reaction
sends state me client asked = record {
  client = record client { asked = Some (record asked { turn = asked.turn + 1; rev = state.rev; old_way = way_now state asked }) };
  posts = posts_for state me asked.seq asked.turn (way_now state asked) asked.request;
  answer = None;
}

-- the command is proposed. The revision of the latest send stays: replies of that revision still count
abbrev pub asks_to_propose : State → Client → Asked → Command → Reaction
asks_to_propose state client asked command = record {
  client = record (next_asked state client) { asked = Some asked };
  posts = post_in_turn client (body.Propose command);
  answer = None;
}

abbrev pub sends_or_proposes : State → ℕ → Client → Asked → Option Command → Reaction
sends_or_proposes state me client asked None = sends state me client asked
sends_or_proposes state me client asked (Some command) = asks_to_propose state client asked command

abbrev pub goes_out : State → ℕ → Client → Asked → Reaction
goes_out state me client asked = sends_or_proposes state me client asked (to_propose state me asked)

abbrev pub goes_out_where : State → ℕ → Client → Option Asked → Reaction
goes_out_where state me client None = rests client
goes_out_where state me client (Some asked) = goes_out state me client asked

-- one of the servers, in turn, is asked what follows; what is proposed in the same step goes to it too
abbrev pub asking : State → Client → Reaction → Reaction
asking state client reacted = record reacted {
  client = record reacted.client { asks = (client.asks + 1) % servers_of state };
  posts = post_in_turn client (body.Ask state.rev) ++ reacted.posts;
}

-- it asks what follows, and sends its request again
abbrev pub asks_and_sends : State → ℕ → Client → Asked → Reaction
asks_and_sends state me client asked = asking state client (goes_out state me client asked)

-- ### A call

-- only a settle has rounds
abbrev pub first_round : Request → ℕ
first_round request.Settle = 1
first_round _ = 0

-- the request is open under the client's next number, and goes out
abbrev pub called : State → ℕ → Client → ℕ → Request → Reaction
called state me client line asked =
    let seq = client.seq + 1 in
    let opened : Asked = record {
      line = line;
      seq = seq;
      request = asked;
      turn = 0;
      rev = state.rev;
      witnesses = 0;
      saw_missing = false;
      old_way = false;
      round = first_round asked;
      seen = [];
    } in
    goes_out state me (record client { seq = seq }) opened

-- ### A reply

-- a reply counts where its number is the open request's and its revision that of the latest send
abbrev pub counts : Asked → ℕ → ℕ → Bool
counts asked rev seq = (seq == asked.seq) && (rev == asked.rev)

-- of a kind that is handled at any revision, the number alone counts
abbrev pub counts_as : Asked → ℕ → (any_rev : Bool) → ℕ → Bool
counts_as asked rev true seq = seq == asked.seq
counts_as asked rev false seq = counts asked rev seq

abbrev pub replies : Asked → ℕ → About → Bool
replies asked rev what = option_map_or (counts_as asked rev what.any_rev) what.seq false

-- the open request is answered
abbrev pub answers : Client → Asked → Answer → Reaction
answers client asked given = record { client = record client { asked = None }; posts = []; answer = Some (asked.line, given) }

-- the new map has nothing: the old one is asked, at the same revision; after another one the request starts again
abbrev pub goes_the_old_way : State → ℕ → Client → Asked → Reaction
goes_the_old_way state me client asked = goes_out state me client (record asked { saw_missing = true; old_way = true })

-- Data and NotHere answer only a read, Written and Full only a write. What was refused for a while, or at another revision, is sent
-- again, and the client asks what follows. The others are no replies
abbrev pub hears : State → ℕ → Client → Asked → ℕ → Body → Reaction
hears state me client asked rev (body.Data seq bytes) =
    if replies asked rev (about (body.Data seq bytes)) && is_read asked.request then answers client asked (answer.Data bytes) else rests client
hears state me client asked rev (body.NotHere seq) =
    if replies asked rev (about (body.NotHere seq)) && is_read asked.request then goes_the_old_way state me client asked else rests client
hears state me client asked rev (body.BlockBusy seq) =
    if replies asked rev (about (body.BlockBusy seq)) then asks_and_sends state me client asked else rests client
hears state me client asked rev (body.Held seq) =
    if replies asked rev (about (body.Held seq)) then asks_and_sends state me client asked else rests client
hears state me client asked rev (body.WrongRev seq) =
    if replies asked rev (about (body.WrongRev seq)) then asks_and_sends state me client asked else rests client
hears state me client asked rev (body.Written seq) =
    if replies asked rev (about (body.Written seq)) && is_write asked.request then answers client asked answer.Ok else rests client
hears state me client asked rev (body.Full seq) =
    if replies asked rev (about (body.Full seq)) && is_write asked.request then answers client asked answer.NoSpace else rests client
hears state me client asked rev said = rests client

abbrev pub hears_of : State → ℕ → Client → Option Asked → Letter → Reaction
hears_of state me client None letter = rests client
hears_of state me client (Some asked) letter = hears state me client asked letter.rev letter.body

-- ### Glances

-- what a glance showed of a server, at which of the server's revisions, and for which line and round
pub record Sight : Type 0 where
  pub server : ℕ
  pub rev : ℕ
  pub line : ℕ
  pub round : ℕ
  pub running : Bool
  pub inc : ℕ
  pub full : Bool

-- the round so far, with this server
abbrev pub with_sight : Asked → Sight → Asked
with_sight asked sight = record asked { seen = put nat_cmp asked.seen sight.server (if sight.running then Some sight.inc else None) }

abbrev pub stays_open : Client → Asked → Reaction
stays_open client asked = rests (record client { asked = Some asked })

-- a round that has shown each server ends the settle where all is settled by the operator's state, or another round begins
abbrev pub rounds : State → Client → Asked → Reaction
rounds state client asked =
    if not (length asked.seen == servers_of state) then stays_open client asked
    else if is_settled state (map (λ row. row.1) asked.seen) then answers client asked answer.Ok
    else stays_open client (record asked { round = asked.round + 1; seen = [] })

-- a settle has no space where a server's last copy found no slot. A glance at a server that is ahead of the operator is not counted: the
-- operator's state doesn't tell yet of all that this server knows to be under way
abbrev pub settles : State → Client → Asked → Sight → Reaction
settles state client asked sight =
    if sight.full then answers client asked answer.NoSpace
    else if (sight.round == asked.round) && nat_le sight.rev state.rev then rounds state client (with_sight asked sight)
    else rests client

-- a stop is done, and a plan is armed; a start, or a blank, has failed where the server doesn't run
abbrev pub sees_for : State → Client → Asked → Sight → Request → Reaction
sees_for state client asked sight (request.Stop server) = answers client asked answer.Ok
sees_for state client asked sight (request.StopAt server at) = answers client asked answer.Ok
sees_for state client asked sight (request.Fault server which kind at) = answers client asked answer.Ok
sees_for state client asked sight (request.Start server) = answers client asked (if sight.running then answer.Ok else answer.Failed)
sees_for state client asked sight (request.Blank server) = answers client asked (if sight.running then answer.Ok else answer.Failed)
sees_for state client asked sight request.Settle = settles state client asked sight
sees_for state client asked sight _ = rests client

abbrev pub sees : State → Client → Option Asked → Sight → Reaction
sees state client None sight = rests client
sees state client (Some asked) sight = if sight.line == asked.line then sees_for state client asked sight asked.request else rests client

-- only servers show themselves
abbrev pub sees_from : State → Client → Actor → Sight → Reaction
sees_from state client (actor.Server n) sight = sees state client client.asked (record sight { server = n })
sees_from state client (actor.Client c) sight = rests client

-- ### News

-- a client on its way through the entries of a letter: the state that its entries make, itself, and the answer given so far
pub record Learning : Type 0 where
  pub state : State
  pub client : Client
  pub answer : Option (ℕ × Answer)

abbrev pub answered : Learning → Asked → Answer → Learning
answered now asked given = record now { client = record now.client { asked = None }; answer = Some (asked.line, given) }

-- what a verdict answers; one that waits answers nothing yet
abbrev pub verdict_answer : Verdict → Option Answer
verdict_answer verdict.Ok = Some answer.Ok
verdict_answer verdict.Waiting = None
verdict_answer verdict.Exists = Some answer.Exists
verdict_answer verdict.NoDisk = Some answer.NoDisk
verdict_answer verdict.Moving = Some answer.Moving

abbrev pub verdict_for : ℕ → Option Latest → Option Answer
verdict_for seq None = None
verdict_for seq (Some last) = if last.seq == seq then verdict_answer last.verdict else None

abbrev pub answered_where : Learning → Asked → Option Answer → Learning
answered_where now asked None = now
answered_where now asked (Some given) = answered now asked given

-- the state at the place of its own Witness answers the request, or it goes on
abbrev pub witnessed : Learning → Asked → Option Answer → Learning
witnessed now asked None = record now { client = record now.client { asked = Some (record asked { witnesses = asked.witnesses + 1 }) } }
witnessed now asked (Some given) = answered now asked given

abbrev pub is_witness : ℕ → ℕ → Command → Bool
is_witness me seq (Witness client number turn) = (client == me) && (number == seq)
is_witness me seq _ = false

-- a request with a command of its own waits for its verdict; another one for its own Witness
abbrev pub judged_by : ℕ → Command → Learning → Asked → Option Command → Learning
judged_by me entry now asked (Some command) = answered_where now asked (verdict_for asked.seq (latest now.state me))
judged_by me entry now asked None = if is_witness me asked.seq entry then witnessed now asked (refusal now.state asked.saw_missing asked.request) else now

abbrev pub judged : ℕ → Command → Learning → Option Asked → Learning
judged me entry now None = now
judged me entry now (Some asked) = judged_by me entry now asked (command_of me asked.seq asked.request)

-- one entry more is applied, and may answer the open request
abbrev pub takes_entry : ℕ → Learning → Command → Learning
takes_entry me now entry =
    judged me entry
    (record now { state = after now.state entry; client = record now.client { applied = now.client.applied ++ entry ∷ [] } })
    now.client.asked

-- the entries of a letter that come next, where it leaves no gap
abbrev pub next_entries : Client → ℕ → List Command → List Command
next_entries client from commands = if nat_le from (length client.applied) then drop (length client.applied - from) commands else []

abbrev pub takes_all : ℕ → Learning → List Command → Learning
takes_all me now entries = fold (takes_entry me) now entries

-- then the request, if it is still open, goes out at the new revision
abbrev pub then_goes_out : ℕ → Learning → Reaction
then_goes_out me now = record (goes_out_where now.state me now.client now.client.asked) { answer = now.answer }

abbrev pub takes_entries : State → ℕ → Client → List Command → Reaction
takes_entries state me client [] = rests client
takes_entries state me client (entry ∷ entries) =
    then_goes_out me (takes_all me (record { state = state; client = client; answer = None }) (entry ∷ entries))

-- ### A letter and a tick

abbrev pub hears_any : State → ℕ → Client → Letter → Body → Reaction
hears_any state me client letter (body.Seen line round running inc full) =
    sees_from state client letter.from
    (record { server = 0; rev = letter.rev; line = line; round = round; running = running; inc = inc; full = full })
hears_any state me client letter (body.News from commands) = takes_entries state me client (next_entries client from commands)
hears_any state me client letter _ = hears_of state me client client.asked letter

-- a letter comes
unfoldable pub heard : State → ℕ → Client → Letter → Reaction
heard state me client letter = hears_any state me client letter letter.body

-- what follows is asked, and the open request goes out again
unfoldable pub ticked : State → ℕ → Client → Reaction
ticked state me client = asking state client (goes_out_where state me client client.asked)

-- what a step of a client sends is of the revision that the step leaves
abbrev pub client_sender : ℕ → Client → Sender
client_sender me client = record { from = actor.Client me; inc = 0; rev = length client.applied }
