-- Examples of runs.
use Rattle.std.specs.Prelude.{ℕ, ◌+◌, List, [], ◌∷◌, ◌++◌, true, if◌then◌else◌, ◌==◌, Option, None}
use Rattle.busy_marks.specs.declared.marks.Mark.{Mark}
use Rattle.client_rows.specs.declared.row.Row.{Row}
use Rattle.petal_base.specs.declared.cell.Cell.{Cell}
use Rattle.petal_command.specs.declared.command.Command.{Command}
use Rattle.petal_command.specs.declared.command.Command.TheVariants.{MakeDisk}
use Rattle.petal_msg.specs.declared.letter.Actor.TheVariants as actor
use Rattle.spec_paxos.specs.declared.record.StateRecord.TheVariants.{Inc, Accepted, Chosen}
use Rattle.script_lines.specs.declared.request.Line.{Line}
use Rattle.script_lines.specs.declared.request.Pattern.TheVariants as pattern
use Rattle.script_lines.specs.declared.request.Request.{Request}
use Rattle.script_lines.specs.declared.request.Request.TheVariants as request
use Rattle.spec_rules.specs.Clients.{first_client}
use Rattle.spec_rules.specs.Jobs.{Acted, here_of, works}
use Rattle.spec_rules.specs.Log.{Log, first_log}
use Rattle.spec_rules.specs.Server.{Server, first_server}
use Rattle.spec_rules.specs.State.{State}
use Rattle.spec_rules.specs.Store.{Stored, chain_in}
use Rattle.spec_rules.specs.World.{Setting, World, start, setting_of}
use Rattle.spec_machine.specs.declared.event.Event.{Event}
use Rattle.spec_history.specs.Events.{events_from}
use Rattle.spec_history.specs.Play.{Move, Calls, Hands, Works, Ticks, plays, records_of}

-- the names vol and nope
abbrev pub vol : List ℕ
vol = 118 ∷ 111 ∷ 108 ∷ []

abbrev pub nope : List ℕ
nope = 110 ∷ 111 ∷ 112 ∷ 101 ∷ []

-- a line of phase 0
abbrev pub line_of : ℕ → ℕ → Request → Line
line_of number client asked = record { number = number; phase = 0; client = client; request = asked }

abbrev pub makes : ℕ → List ℕ → Line
makes number tuple = line_of number 0 (request.Disk vol tuple)

abbrev pub writes : (number client block x : ℕ) → Line
writes number client block x = line_of number client (request.Write vol block (pattern.Fill x))

abbrev pub reads : (number client block : ℕ) → Line
reads number client block = line_of number client (request.Read vol None block)

abbrev pub reads_nope : (number client : ℕ) → Line
reads_nope number client = line_of number client (request.Read nope None 0)

-- a run of these lines over these servers, each with these slots
abbrev pub run_of : (servers slots : ℕ) → List Line → Setting
run_of servers slots lines = setting_of (record { servers = servers; slots = slots; lose = None; twice = None; phases = 1; lines = lines })

-- what the machine is told of these moves
abbrev pub events_of_moves : Setting → List Move → Option (List Event)
events_of_moves setting moves = events_from setting (start setting) (records_of setting (start setting) moves)

-- the world after these moves
abbrev pub world_of : Setting → List Move → World
world_of setting moves = plays setting (start setting) moves

-- a cell of the first map
abbrev pub cell_at : ℕ → Cell
cell_at block = record { map = 0; block = block }

-- the marks that a server's device has
abbrev pub marks_at : World → (server : ℕ) → List Mark
marks_at w server = (w.servers server).own.store.marks

-- the rows that a server's device has
abbrev pub rows_at : World → (server : ℕ) → List Row
rows_at w server = (w.servers server).own.store.rows

-- the chain of a block of the first disk at a server
abbrev pub chain_at : World → (server block : ℕ) → List (ℕ × Stored)
chain_at w server block = chain_in (w.servers server).own.store.chains (cell_at block)

-- one entry, of epoch 0
abbrev pub one_entry : ℕ → List ℕ → List (ℕ × Stored)
one_entry version bytes = (0, record { version = version; bytes = bytes }) ∷ []

-- ### Moves

-- a letter is handed to a server, which does its next job
abbrev pub passes : (letter server : ℕ) → List Move
passes letter server = Hands letter ∷ Works server ∷ []

abbrev pub server_ticks : ℕ → Move
server_ticks n = Ticks (actor.Server n)

abbrev pub client_ticks : ℕ → Move
client_ticks c = Ticks (actor.Client c)

-- server 0 of two has been asked to propose. Its tick asks server 1 what follows, which is letter k, and it starts a ballot.
-- Both promise and accept, and both hear and apply what is chosen. Of the letters of one step
-- the last one is counted first
abbrev pub ballot_moves : ℕ → List Move
ballot_moves k =
    server_ticks 0 ∷ Works 0
    ∷ passes (k + 2) 0 ++ passes (k + 1) 1
    ++ passes (k + 3) 0 ++ passes (k + 4) 0
    ++ passes (k + 6) 0 ++ passes (k + 5) 1
    ++ passes (k + 7) 0 ++ passes (k + 8) 0
    ++ passes (k + 10) 0 ++ passes (k + 9) 1
    ++ Works 0 ∷ Works 1 ∷ []

-- ### A disk is made: one client, two servers

abbrev pub sevens : Setting
sevens = run_of 2 4 (makes 1 (0 ∷ 1 ∷ []) ∷ writes 2 0 5 7 ∷ reads 3 0 5 ∷ [])

-- the command of its first line
abbrev pub pair_disk : Command
pair_disk = MakeDisk 0 1 vol (0 ∷ 1 ∷ [])

-- the disk's command is proposed and chosen, and a tick of the client asks server 1, which tells it
abbrev pub make_moves : List Move
make_moves = Calls 0 1 ∷ passes 0 0 ++ ballot_moves 1 ++ client_ticks 0 ∷ passes 13 1 ++ Hands 14 ∷ []

-- ### A write and a read back

-- the write of this line, of which letter k is the first, goes by its lead, server 1, and its second server, 0, to its answer
abbrev pub moves_of_write : (line k : ℕ) → List Move
moves_of_write line k =
    Calls 0 line ∷ passes k 1 ++ passes (k + 1) 0 ++ passes (k + 2) 1 ++ Works 1 ∷ Works 1 ∷ passes (k + 3) 0 ++ passes (k + 4) 1 ++ Hands (k + 5) ∷ []

abbrev pub write_moves : List Move
write_moves = moves_of_write 2 15

-- at a tick the lead finds what is marked idle, and one job takes the marks away
abbrev pub tidy_moves : List Move
tidy_moves = server_ticks 1 ∷ Works 1 ∷ []

-- as above, but for a second block that is written in place of the read
abbrev pub two_blocks : Setting
two_blocks = run_of 2 4 (makes 1 (0 ∷ 1 ∷ []) ∷ writes 2 0 5 7 ∷ writes 3 0 7 7 ∷ [])

abbrev pub two_writes_moves : List Move
two_writes_moves = make_moves ++ write_moves ++ moves_of_write 3 21

-- the write up to where its lead has put, and its second server was not told yet
abbrev pub put_moves : List Move
put_moves = Calls 0 2 ∷ passes 15 1 ++ passes 16 0 ++ passes 17 1 ++ Works 1 ∷ []

-- server 0 answers the read
abbrev pub read_moves : List Move
read_moves = Calls 0 3 ∷ passes 21 0 ++ Hands 22 ∷ []

-- ### Letters again, the last one first

-- each letter of the write is handed over once more, in the reverse order, and the servers work
abbrev pub again_moves : List Move
again_moves = Hands 20 ∷ Hands 19 ∷ Hands 18 ∷ Hands 17 ∷ Hands 16 ∷ Hands 15 ∷ Works 1 ∷ Works 1 ∷ Works 1 ∷ Works 0 ∷ Works 0 ∷ []

-- ### A name that is taken, and one that is unknown

-- the disk of client 0 is made, as above; then client 1 asks for one of the same name
abbrev pub twins : Setting
twins = run_of 2 4 (makes 1 (0 ∷ 1 ∷ []) ∷ line_of 2 1 (request.Disk vol (1 ∷ 0 ∷ [])) ∷ [])

-- client 1 proposes to server 0; at its tick server 1 tells it both entries
abbrev pub twin_moves : List Move
twin_moves = Calls 1 2 ∷ passes 15 0 ++ ballot_moves 16 ++ client_ticks 1 ∷ passes 28 1 ++ Hands 29 ∷ []

-- a read of a name that no disk has
abbrev pub strays : Setting
strays = run_of 2 4 (reads_nope 1 0 ∷ [])

-- its Witness is chosen, as the disk above
abbrev pub stray_moves : List Move
stray_moves = make_moves

-- ### Two servers propose for one place

-- clients 0 and 1 each make a disk
abbrev pub rivals : Setting
rivals = run_of 2 4 (makes 1 (0 ∷ 1 ∷ []) ∷ line_of 2 1 (request.Disk nope (0 ∷ 1 ∷ [])) ∷ [])

abbrev pub rival_disk : Command
rival_disk = MakeDisk 1 1 nope (0 ∷ 1 ∷ [])

-- client 0 proposes to server 0, and client 1, at its tick, to server 1. Both start a ballot for place 1, and server 1,
-- which promised its own, refuses that of server 0
abbrev pub clash_moves : List Move
clash_moves =
    Calls 0 1 ∷ Calls 1 2 ∷ client_ticks 1 ∷ passes 0 0 ++ passes 2 1
    ++ server_ticks 0 ∷ Works 0 ∷ server_ticks 1 ∷ Works 1
    ∷ passes 6 0 ++ passes 5 1 ++ passes 10 0 ++ passes 11 0

-- server 1's command is chosen, and then, at place 2, that of server 0
abbrev pub after_clash_moves : List Move
after_clash_moves =
    passes 9 0 ++ passes 8 1 ++ passes 12 1 ++ passes 13 1 ++ passes 15 0 ++ passes 14 1 ++ passes 16 1 ++ passes 17 1
    ++ passes 19 0 ++ passes 18 1 ++ Works 0 ∷ Works 1 ∷ ballot_moves 20

-- ### A disk is made while another client reads it

abbrev pub early : Setting
early = run_of 2 4 (makes 1 (0 ∷ 1 ∷ []) ∷ reads 2 1 5 ∷ [])

-- client 1 knows of no disk and proposes a Witness. The disk is chosen before it, so that its Witness says nothing against
-- the read, which goes on
abbrev pub early_moves : List Move
early_moves =
    Calls 0 1 ∷ Calls 1 2 ∷ passes 0 0 ++ passes 1 0 ++ ballot_moves 2 ++ ballot_moves 13
    ++ client_ticks 1 ∷ passes 25 1 ++ Hands 26 ∷ passes 27 0 ++ Hands 28 ∷ []

-- ### No free slot at the second server: three servers with one slot each

abbrev pub crowded : Setting
crowded = run_of 3 1 (makes 1 (0 ∷ 1 ∷ 2 ∷ []) ∷ writes 2 0 0 1 ∷ writes 3 1 2 2 ∷ writes 4 2 5 3 ∷ [])

-- the command of its first line
abbrev pub crowd_disk : Command
crowd_disk = MakeDisk 0 1 vol (0 ∷ 1 ∷ 2 ∷ [])

-- what a server keeps that voted for it and applied it
abbrev pub crowd_log : Log
crowd_log = record first_log {
  records = Inc 1 ∷ Accepted 1 (record { round = 1; server = 0 }) crowd_disk ∷ Chosen 1 crowd_disk ∷ [];
  applied = crowd_disk ∷ [];
}

abbrev pub crowd_server : Server
crowd_server =
    let first : Server = first_server true 1 in
    record first { log = crowd_log }

-- the world in which the disk was made, and all have heard of it: client 0 has had its answer
abbrev pub crowd : World
crowd = record (start crowded) {
  servers = λ n. crowd_server;
  clients = λ c. record first_client { applied = crowd_disk ∷ []; seq = if c == 0 then 1 else 0 };
}

-- the world after these moves, from that one
abbrev pub crowd_after : List Move → World
crowd_after moves = plays crowded crowd moves

-- the first write fills the slots of servers 0 and 1
abbrev pub fill_moves : List Move
fill_moves =
    Calls 0 2 ∷ passes 0 0 ++ passes 1 1 ++ passes 2 0 ++ Works 0 ∷ Works 0 ∷ passes 3 1 ++ passes 4 0 ++ Hands 5 ∷ []

-- the second write is led by server 2, which sets its slot apart; server 0 has none
abbrev pub declined_moves : List Move
declined_moves = Calls 1 3 ∷ passes 6 2 ++ passes 7 0

-- server 2 hears of it, and its client too
abbrev pub refused_moves : List Move
refused_moves = passes 8 2 ++ Hands 9 ∷ []

-- ### No free slot at the lead, and the same letter again when there is one

-- the third write comes to server 2 while its slot is set apart for the second one, and is refused at once, as its client
-- hears; then the second one is refused, and the slot is free
abbrev pub freed_moves : List Move
freed_moves = Calls 2 4 ∷ passes 9 2 ++ Hands 10 ∷ passes 8 2

-- the third write's letter is handed over once more
abbrev pub late_moves : List Move
late_moves = Hands 9 ∷ []

-- the server that does its next job
abbrev pub mindful : State → ℕ → Server → Acted
mindful state me server = works (here_of state me server) server server.queue

-- the server that does its next job, had it forgotten what it has finished
abbrev pub forgetful : State → ℕ → Server → Acted
forgetful state me server =
    let forgets : Server = record server { own = record server.own { pairs = record server.own.pairs { finished = [] } } } in
    works (here_of state me forgets) forgets forgets.queue
