-- Runs in which a snapshot is taken: a fence holds writes, each server reports, and the epoch rises.
use Rattle.std.specs.Prelude.{ℕ, List, [], ◌∷◌, ◌++◌, Option, map, option_map}
use Rattle.petal_base.specs.Block.{fill_block}
use Rattle.global_tables.specs.View.{head}
use Rattle.global_tables.specs.declared.disk.DiskRow.{DiskRow}
use Rattle.global_tables.specs.declared.disk.Snapshot.{Snapshot}
use Rattle.global_tables.specs.declared.fence.Fence.{Fence}
use Rattle.petal_command.specs.declared.command.Command.{Command}
use Rattle.petal_command.specs.declared.command.Command.TheVariants.{Drained, Leave, Snap}
use Rattle.petal_command.specs.declared.pax.Pax.TheVariants.{Accept}
use Rattle.spec_machine.specs.declared.event.Event.{Event}
use Rattle.petal_msg.specs.declared.body.Body.TheVariants as body
use Rattle.petal_msg.specs.declared.letter.Actor.TheVariants as actor
use Rattle.petal_msg.specs.declared.letter.Letter.{Letter}
use Rattle.spec_paxos.specs.declared.record.StateRecord.TheVariants.{Accepted}
use Rattle.spec_state.specs.Command.{state_after}
use Rattle.spec_rules.specs.Log.{Log}
use Rattle.spec_rules.specs.Server.{PairState, Server}
use Rattle.spec_rules.specs.Store.{Store, empty_store}
use Rattle.spec_rules.specs.World.{World}
use Rattle.spec_history.specs.Events.{events_from}
use Rattle.spec_history.specs.Examples.{cell_at, crowd_disk, passes, vol}
use Rattle.spec_history.specs.Play.{Move, Calls, plays, records_of}
use Rattle.test_history.specs.Returned.{early_log, mending, server_with, three, world_with}

-- the name mon
abbrev pub mon : List ℕ
mon = 109 ∷ 111 ∷ 110 ∷ []

-- client 1 asks for a snapshot of the disk
abbrev pub snap_mon : Command
snap_mon = Snap 1 1 vol mon

-- a server's report to the first fence
abbrev pub report_of : ℕ → Command
report_of server = Drained server 1 1

-- ### What entries make

abbrev pub fenced_log : List Command
fenced_log = crowd_disk ∷ snap_mon ∷ []

-- those that the active fence awaits, after these entries
abbrev pub awaited_by : List Command → Option (List ℕ)
awaited_by log = option_map (λ (fence : Fence). fence.waiting) (head (state_after 3 log).view.queue)

-- the snapshots and the epoch of each disk, after these entries
abbrev pub snaps_by : List Command → List (List Snapshot)
snaps_by log = map (λ (row : DiskRow). row.snaps) (state_after 3 log).disks.rows

abbrev pub epochs_by : List Command → List ℕ
epochs_by log = map (λ (row : DiskRow). row.epoch) (state_after 3 log).disks.rows

-- two of the three have reported
abbrev pub reported_log : List Command
reported_log = fenced_log ++ report_of 0 ∷ report_of 1 ∷ []

-- so has the third
abbrev pub frozen_log : List Command
frozen_log = reported_log ++ report_of 2 ∷ []

-- or it has left
abbrev pub left_log : List Command
left_log = reported_log ++ Leave 2 1 ∷ []

-- ### A fence holds writes

-- all servers have applied the fence
abbrev pub fenced : World
fenced = world_with mending fenced_log (λ n. server_with fenced_log 1 (empty_store 4))

-- client 0 writes block 0, whose lead is server 0
abbrev pub held_moves : List Move
held_moves = Calls 0 2 ∷ passes 0 0

abbrev pub fenced_after : List Move → World
fenced_after moves = plays mending fenced moves

-- all have applied the reports of servers 0 and 1, and the one of server 2 is awaited
abbrev pub reported : World
reported = world_with mending reported_log (λ n. server_with reported_log 1 (empty_store 4))

abbrev pub reported_after : List Move → World
reported_after moves = plays mending reported moves

-- all have applied the third report
abbrev pub passed : World
passed = world_with mending frozen_log (λ n. server_with frozen_log 1 (empty_store 4))

abbrev pub passed_after : List Move → World
passed_after moves = plays mending passed moves

-- the same write came to server 0 before the fence: it is under way there
abbrev pub unfenced : World
unfenced = world_with mending early_log (λ n. server_with early_log 1 (empty_store 4))

abbrev pub writing_own : PairState
writing_own = ((plays mending unfenced held_moves).servers 0).own

abbrev pub writing : World
writing =
    let server : Server = server_with fenced_log 1 (empty_store 4) in
    world_with mending fenced_log (three (record server { own = writing_own }) server server)

-- ### The snapshot is told to the machine

-- server 0 alone has voted for the last report, and asks server 1 to accept it
abbrev pub last_vote : Letter
last_vote = record {
  from = actor.Server 0;
  to = actor.Server 1;
  stamp = 1;
  nth = 0;
  inc = 1;
  rev = 4;
  body = body.Pax (Accept 5 (record { round = 1; server = 0 }) (report_of 2));
}

abbrev pub voting_server : Server
voting_server =
    let server : Server = server_with reported_log 1 (empty_store 4) in
    let log : Log = server.log in
    record server { log = record log { records = log.records ++ Accepted 5 (record { round = 1; server = 0 }) (report_of 2) ∷ [] } }

abbrev pub voting : World
voting =
    let server : Server = server_with reported_log 1 (empty_store 4) in
    record (world_with mending reported_log (three voting_server server server)) { sent = last_vote ∷ [] }

-- what the machine is told when server 1 accepts
abbrev pub told_of_vote : Option (List Event)
told_of_vote = events_from mending voting (records_of mending voting (passes 0 1))

-- ### What it holds

-- block 0 was written before the snapshot, and after it
abbrev pub twice_written : Store
twice_written = record (empty_store 4) {
  chains = (cell_at 0, (0, record { version = 1; bytes = fill_block 7 }) ∷ (1, record { version = 2; bytes = fill_block 8 }) ∷ []) ∷ [];
}

abbrev pub frozen : World
frozen = world_with mending frozen_log (λ n. server_with frozen_log 1 twice_written)
