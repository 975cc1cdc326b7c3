-- Worlds of three servers in which one has returned, and what is asked of them.
use Rattle.std.specs.Prelude.{ℕ, ◌+◌, ◌==◌, Bool, List, [], ◌∷◌, map, take, true, false, if◌then◌else◌}
use Rattle.busy_marks.specs.declared.marks.Mark.{Mark}
use Rattle.busy_marks.specs.declared.marks.MarkKind.TheVariants.{Busy, Stale}
use Rattle.petal_base.specs.Block.{fill_block}
use Rattle.petal_base.specs.declared.cell.Cell.{Cell}
use Rattle.petal_command.specs.declared.command.Command.{Command}
use Rattle.petal_command.specs.declared.command.Command.TheVariants.{Join, Leave, Caught}
use Rattle.petal_msg.specs.declared.body.Body.{Body}
use Rattle.petal_msg.specs.declared.copying.Copying.{Copying}
use Rattle.petal_msg.specs.declared.copying.LinkId.{LinkId}
use Rattle.petal_msg.specs.declared.copying.Progress.{Progress}
use Rattle.spec_paxos.specs.declared.record.StateRecord.{StateRecord}
use Rattle.spec_paxos.specs.declared.record.StateRecord.TheVariants.{Inc, Accepted, Chosen}
use Rattle.script_lines.specs.declared.request.Request.TheVariants as request
use Rattle.spec_rules.specs.Clients.{first_client}
use Rattle.spec_rules.specs.Jobs.{here_of, wanted_by}
use Rattle.spec_rules.specs.Log.{first_log}
use Rattle.spec_rules.specs.Server.{PairState, Server, first_server}
use Rattle.spec_rules.specs.Store.{Store, empty_store}
use Rattle.spec_rules.specs.World.{Setting, World, start, server_state}
use Rattle.spec_history.specs.Examples.{cell_at, crowd_disk, line_of, makes, one_entry, run_of, writes}
use Rattle.test_history.specs.Boots.{join_of_1}
use Rattle.test_history.specs.Stops.{leave_of_1}

-- a disk over three servers of so many slots; client 0 writes block 0, which lies on link 0, from server 0 to server 1; and the
-- operator waits until all is settled
abbrev pub mending_with : (slots : ℕ) → Setting
mending_with slots = run_of 3 slots (makes 1 (0 ∷ 1 ∷ 2 ∷ []) ∷ writes 2 0 0 9 ∷ line_of 3 8 request.Settle ∷ [])

abbrev pub mending : Setting
mending = mending_with 4

-- the records of a state device that voted for these commands from this place on, and knows that they are chosen
abbrev pub voted_from : (place : ℕ) → List Command → List StateRecord
voted_from place [] = []
voted_from place (command ∷ commands) =
    Accepted place (record { round = 1; server = 0 }) command ∷ Chosen place command ∷ voted_from (place + 1) commands

-- a server that runs as this incarnation, has applied these commands, and has this store
abbrev pub server_with : List Command → (inc : ℕ) → Store → Server
server_with commands inc store =
    let first : Server = first_server true 0 in
    let own : PairState = record first.own { store = store } in
    record first {
      life = record { running = true; inc = inc };
      log = record first_log { records = Inc inc ∷ voted_from 1 commands; applied = commands };
      own = own;
    }

-- servers 0 and 1, and 2 for every other number
abbrev pub three : Server → Server → Server → ℕ → Server
three first second third n = if n == 0 then first else if n == 1 then second else third

-- a world of these servers, in which all have applied these commands
abbrev pub world_with : Setting → List Command → (ℕ → Server) → World
world_with setting commands servers = record (start setting) {
  servers = servers;
  clients = λ c. record first_client { applied = commands; seq = if c == 0 then 1 else 0 };
}

-- a store in which block 0 has one entry, and these marks
abbrev pub store_of : (version x : ℕ) → List Mark → Store
store_of version x marks = record (empty_store 4) { chains = (cell_at 0, one_entry version (fill_block x)) ∷ []; marks = marks }

abbrev pub stale_0 : Mark
stale_0 = record { kind = Stale; cell = cell_at 0 }

abbrev pub busy_0 : Mark
busy_0 = record { kind = Busy; cell = cell_at 0 }

-- ### The secondary has returned

-- server 1 has stopped and is In again
abbrev pub returned_log : List Command
returned_log = crowd_disk ∷ leave_of_1 ∷ join_of_1 ∷ []

-- server 0 wrote block 0 while it was alone
abbrev pub returned : World
returned = world_with mending returned_log
    (three (server_with returned_log 1 (store_of 2 8 (stale_0 ∷ []))) (server_with returned_log 2 (store_of 1 7 []))
    (server_with returned_log 1 (empty_store 4)))

-- ### The primary has returned

abbrev pub leave_of_0 : Command
leave_of_0 = Leave 0 1

abbrev pub join_of_0 : Command
join_of_0 = Join 0 2 false

-- server 0 has stopped and is In again
abbrev pub back_log : List Command
back_log = crowd_disk ∷ leave_of_0 ∷ join_of_0 ∷ []

-- it had put block 0, which is marked busy there, and had not sent its copy when it stopped
abbrev pub back : World
back = world_with mending back_log
    (three (server_with back_log 2 (store_of 1 7 (busy_0 ∷ []))) (server_with back_log 1 (empty_store 4)) (server_with back_log 1 (empty_store 4)))

-- the same, but that nobody has wanted its Leave yet: it runs again, as its next incarnation
abbrev pub early_log : List Command
early_log = crowd_disk ∷ []

abbrev pub early : World
early = world_with mending early_log
    (three (server_with early_log 2 (store_of 1 7 (busy_0 ∷ []))) (server_with early_log 1 (empty_store 4)) (server_with early_log 1 (empty_store 4)))

-- ### What is asked of a world

-- what a server wants chosen
abbrev pub wants_of : World → (server : ℕ) → List Command
wants_of w n = wanted_by (here_of (server_state mending w n) n (w.servers n)) (w.servers n)

-- how far a server is with the links that it holds alone
abbrev pub progress_at : World → (server : ℕ) → List (LinkId × Progress)
progress_at w n = (w.servers n).own.copies.progress

-- the first copy of block 0, so far
abbrev pub copying_0 : (number : ℕ) → (trimmed : Bool) → (index : ℕ) → List (Cell × Copying)
copying_0 number trimmed index = (cell_at 0, record { op = number; trimmed = trimmed; index = index }) ∷ []

-- link 0 of the first map
abbrev pub link_0 : LinkId
link_0 = record { map = 0; link = 0 }

-- what the last letter says that was sent
abbrev pub last_said : World → List Body
last_said w = map (λ letter. letter.body) (take 1 w.sent)

-- the Caught of link 0 by its holder
abbrev pub caught_by : (holder holder_inc other other_inc : ℕ) → Command
caught_by holder holder_inc other other_inc = Caught 0 0 holder holder_inc other other_inc
