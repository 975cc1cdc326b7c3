-- Runs of three servers, of which one stops.
use Rattle.std.specs.Prelude.{ℕ, List, [], ◌∷◌, ◌++◌, ◌≡◌, true, false, if◌then◌else◌, ◌==◌}
use Rattle.busy_marks.specs.declared.marks.Mark.{Mark}
use Rattle.busy_marks.specs.declared.marks.MarkKind.TheVariants.{Busy}
use Rattle.petal_command.specs.declared.command.Command.{Command}
use Rattle.petal_command.specs.declared.command.Command.TheVariants.{Leave}
use Rattle.script_lines.specs.declared.request.Line.{Line}
use Rattle.script_lines.specs.declared.request.Request.TheVariants as request
use Rattle.spec_rules.specs.Clients.{first_client}
use Rattle.spec_rules.specs.Lists.{put_at}
use Rattle.petal_base.specs.Limits.{marks_limit}
use Rattle.spec_rules.specs.Server.{Server, PairState, first_server}
use Rattle.spec_rules.specs.Store.{is_marked, marked_by}
use Rattle.spec_rules.specs.World.{Setting, World, start}
use Rattle.spec_rules.specs.declared.step.CommitEnd.{CommitEnd}
use Rattle.spec_history.specs.Examples.{cell_at, client_ticks, crowd_disk, crowd_log, line_of, makes, passes, run_of, server_ticks, writes}
use Rattle.spec_history.specs.Play.{Move, Calls, Hands, Works}
use Rattle.test_history.specs.Acts.{Act, Moves, Stops, Shows, Fails, world_after}

-- the operator's line that stops a server
abbrev pub stops_line : (number server : ℕ) → Line
stops_line number server = line_of number 8 (request.Stop server)

-- a disk over three servers; client 0 writes block 0, which server 0 leads and to which server 1 is second; and the operator
-- stops server 1 twice
abbrev pub trio : Setting
trio = run_of 3 4 (makes 1 (0 ∷ 1 ∷ 2 ∷ []) ∷ writes 2 0 0 7 ∷ stops_line 3 1 ∷ stops_line 4 1 ∷ [])

-- a server that voted for the disk and applied it
abbrev pub ready_server : Server
ready_server =
    let first : Server = first_server true 4 in
    record first { log = crowd_log }

-- the world in which the disk was made, and all have heard of it: client 0 has had its answer
abbrev pub ready_for : Setting → World
ready_for setting = record (start setting) {
  servers = λ n. ready_server;
  clients = λ c. record first_client { applied = crowd_disk ∷ []; seq = if c == 0 then 1 else 0 };
}

abbrev pub ready : World
ready = ready_for trio

-- the world after these acts, from that one
abbrev pub trio_after : List Act → World
trio_after acts = world_after trio ready acts

abbrev pub leave_of_1 : Command
leave_of_1 = Leave 1 1

-- ### The secondary stops in the middle of a write

-- the write's lead hears that the second server has a slot for it
abbrev pub reserved_moves : List Move
reserved_moves = Calls 0 2 ∷ passes 0 0 ++ passes 1 1 ++ Hands 2 ∷ []

-- and marks its block
abbrev pub mark_moves : List Move
mark_moves = reserved_moves ++ Works 0 ∷ []

-- it has put, and the second server was not told yet
abbrev pub put_moves : List Move
put_moves = mark_moves ++ Works 0 ∷ []

-- the operator's line stops the second server
abbrev pub stop_acts : List Act
stop_acts = Moves put_moves ∷ Moves (Calls 8 3 ∷ []) ∷ Stops 1 ∷ Shows 1 3 ∷ Moves (Hands 5 ∷ []) ∷ []

-- server 2 hears of it and starts a ballot for the Leave, which servers 0 and 2 promise. Server 0 has sent its copy, which the
-- stopped server drops. Server 2 votes for the Leave
abbrev pub ballot_moves : List Move
ballot_moves =
    passes 3 2 ++ server_ticks 2 ∷ Works 2
    ∷ passes 7 2 ++ passes 9 0 ++ Hands 11 ∷ Works 0 ∷ passes 10 2 ++ passes 12 2 ++ passes 13 2

abbrev pub voting_acts : List Act
voting_acts = stop_acts ++ Moves ballot_moves ∷ []

-- server 0 votes for it, so that it is chosen
abbrev pub vote_moves : List Move
vote_moves = passes 15 0

abbrev pub chosen_acts : List Act
chosen_acts = voting_acts ++ Moves vote_moves ∷ []

-- server 0 hears that it is chosen, and applies it
abbrev pub apply_moves : List Move
apply_moves = passes 16 2 ++ passes 17 2 ++ passes 20 0 ++ Works 0 ∷ []

-- the client hears of it from server 0, which goes on alone
abbrev pub alone_moves : List Move
alone_moves = client_ticks 0 ∷ Hands 22 ∷ Works 0 ∷ Works 0 ∷ Hands 23 ∷ Works 0 ∷ Works 0 ∷ Hands 25 ∷ []

abbrev pub alone_acts : List Act
alone_acts = chosen_acts ++ Moves apply_moves ∷ Moves alone_moves ∷ []

-- ### The operator's lines

-- the operator has called its first line
abbrev pub asked_acts : List Act
asked_acts = Moves (Calls 8 3 ∷ []) ∷ []

-- server 1 has stopped
abbrev pub stopped_acts : List Act
stopped_acts = asked_acts ++ Stops 1 ∷ []

-- it was glanced at, and the operator has its answer
abbrev pub seen_acts : List Act
seen_acts = stopped_acts ++ Shows 1 3 ∷ Moves (Hands 2 ∷ []) ∷ []

-- the operator has called its second line
abbrev pub asked_again_acts : List Act
asked_again_acts = seen_acts ++ Moves (Calls 8 4 ∷ []) ∷ []

-- the stopped server was glanced at again, and the operator has its answer
abbrev pub seen_again_acts : List Act
seen_again_acts = asked_again_acts ++ Shows 1 4 ∷ Moves (Hands 3 ∷ []) ∷ []

-- ### Servers that stop by themselves

-- the write's lead has marked its block, and a device fails in its next job, which puts
abbrev pub failed_acts : CommitEnd → List Act
failed_acts end = Moves mark_moves ∷ Fails 0 end ∷ []

-- the write's lead is to mark its block, and has these marks
abbrev pub marked_world : List Mark → World
marked_world marks =
    let w = trio_after (Moves reserved_moves ∷ []) in
    let lead : Server = w.servers 0 in
    let own : PairState = lead.own in
    record w { servers = put_at w.servers 0 (record lead { own = record own { store = record own.store { marks = marks } } }) }

-- they are as many as there may be, and none of them is on the block
pub record AreAllMarks (marks : List Mark) : Type 0 where
  pub all : marked_by ((marked_world marks).servers 0).own.store ≡ marks_limit
  pub other : is_marked ((marked_world marks).servers 0).own.store Busy (cell_at 0) ≡ false

-- the lead does its next job, which marks the block
abbrev pub full_after : List Mark → World
full_after marks = world_after trio (marked_world marks) (Moves (Works 0 ∷ []) ∷ [])
