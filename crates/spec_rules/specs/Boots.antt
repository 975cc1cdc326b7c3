-- A server that boots: what stands on its devices is there, what it had in memory is gone, and it is a new incarnation. Its data
-- device may have been made blank before.
use Rattle.std.specs.Prelude.{◌+◌, true, List, [], length, if◌then◌else◌}
use Rattle.petal_command.specs.declared.command.Command.{Command}
use Rattle.petal_msg.specs.declared.letter.Actor.TheVariants as actor
use Rattle.spec_paxos.specs.declared.record.StateRecord.TheVariants.{Inc}
use Rattle.spec_rules.specs.Entries.{known_run}
use Rattle.spec_rules.specs.Jobs.{Acted, down_posts, has_full_log}
use Rattle.spec_rules.specs.Log.{Log, first_log, commits, rev_of}
use Rattle.spec_rules.specs.Server.{Server, PairState, JobContext, no_copies, no_pairs, letters_of}
use Rattle.spec_rules.specs.State.{servers_of}
use Rattle.spec_rules.specs.Store.{blank_store}
use Rattle.spec_rules.specs.declared.step.CommitEnd.TheVariants.{Before, After}
use Rattle.spec_rules.specs.declared.step.WorkEnd.{WorkEnd}
use Rattle.spec_rules.specs.declared.step.WorkEnd.TheVariants.{Done, Fault}

-- the server's incarnation is raised by one, on its state device
abbrev pub raised : Server → Server
raised server =
    let inc = server.life.inc + 1 in
    record server { life = record server.life { inc = inc }; log = commits server.log (Inc inc) }

-- the entries that the device knows to be chosen, up to the first that it doesn't know
abbrev pub known_prefix : Log → List Command
known_prefix log = known_run log 1 (length log.records)

-- its state device as it is, with the entries applied that are known there
abbrev pub read_log : Log → Log
read_log log = record first_log { records = log.records; applied = known_prefix log }

-- it runs, with its devices as they are and nothing in memory
abbrev pub awake : Server → Server
awake server = record {
  life = record server.life { running = true };
  log = read_log server.log;
  own = record { pairs = no_pairs; copies = no_copies; filled = []; store = record server.own.store { tickets = 0 } };
  queue = [];
}

-- a server that runs as its next incarnation tells each other one that the incarnation before has stopped
abbrev pub wakes : JobContext → Server → Acted
wakes here server = record {
  server = server;
  letters = letters_of (record { from = actor.Server here.me; inc = server.life.inc; rev = rev_of server.log }) 0
      (down_posts here.me here.inc (servers_of here.state));
}

-- a stopped server's data device is a blank one
abbrev pub blanked : Server → Server
blanked server =
    let own : PairState = server.own in
    record server { own = record own { store = blank_store own.store.slots } }

-- the server stays as it is
abbrev pub stays : Server → Acted
stays server = record { server = server; letters = [] }

-- a boot raises the incarnation, where the state journal has room for it; a failed device leaves the server stopped, with the
-- incarnation raised or not
abbrev pub boots : JobContext → Server → WorkEnd → Acted
boots here server Done = if has_full_log (raised server) then stays server else wakes here (awake (raised server))
boots here server (Fault Before) = stays server
boots here server (Fault After) = stays (if has_full_log (raised server) then server else raised server)
