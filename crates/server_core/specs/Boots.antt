-- What a boot leaves of a server.
use Rattle.std.specs.Prelude.{◌≡◌, ◌≤◌, ◌+◌, ◌++◌, ◌∷◌, [], List, true, Result, Err, IfOk, OnOk, OnErr}
use Rattle.server_log.specs.Done as logs
use Rattle.server_log.specs.Part.{new_part}
use Rattle.pair_memory.specs.JobResult.{HasFault}
use Rattle.pair_memory.specs.PairMemory.{new_side}
use Rattle.pair_memory.specs.declared.error.WorkError.{WorkError}
use Rattle.pair_memory.specs.declared.error.WorkError.TheVariants.{Failed, NoRoom}
use Rattle.petal_command.specs.declared.command.Command.{Command}
use Rattle.petal_disk.specs.declared.disk.Disk.{Ghosts}
use Rattle.petal_disk.specs.Disk.{LeavesOnly}
use Rattle.petal_msg.specs.declared.letter.Letter.{Letter}
use Rattle.spec_paxos.specs.Kept.{inc_of}
use Rattle.spec_paxos.specs.declared.record.StateRecord.{StateRecord}
use Rattle.spec_paxos.specs.declared.record.StateRecord.TheVariants.{Inc}
use Rattle.spec_rules.specs.Boots.{boots, stays}
use Rattle.petal_base.specs.Limits.{journal_records}
use Rattle.spec_rules.specs.Log.{Voter}
use Rattle.spec_rules.specs.Store.{Store}
use Rattle.spec_rules.specs.declared.step.WorkEnd.TheVariants.{Done}
use Rattle.server_core.specs.ServerView.{ServerView, acted, here_in, server_of}
use Rattle.state_store.specs.Device.{Keeping, StandsForEither}

-- the same server as its next incarnation
abbrev pub next_voter : Voter → Voter
next_voter voter = record voter { inc = voter.inc + 1 }

-- a stopped server whose incarnation was raised
abbrev pub raised_core : ServerView → ServerView
raised_core core = record core { log = record core.log { voter = next_voter core.log.voter } }

-- a server that runs as the incarnation after this one, with these entries applied
abbrev pub booted : Voter → (applied : List Command) → ServerView
booted voter applied = record {
  running = true;
  log = record (new_part (next_voter voter)) { applied = applied };
  side = new_side;
  queue = [];
}

-- the records with the next incarnation
abbrev pub raised_records : List StateRecord → List StateRecord
raised_records records = records ++ Inc (inc_of records + 1) ∷ []

-- a store of which nothing is set apart
abbrev pub shut : Store → Store
shut store = record store { tickets = 0 }

module _ {D : Type 0} where
  -- the state device's journal has no room for the incarnation; nothing changed, and the rule lets the server be
  pub record IsFullBoot (device : Ghosts D) (old new : ServerView) (before after : Keeping D) : Type 0 where
    pub count : before.region.count ≡ journal_records
    pub same : (new ≡ old) × (after ≡ before)
    pub stays : device.observable → logs.HoldsAt device before → (store : Store)
        → boots (here_in old) (server_of old store before.records) Done ≡ stays (server_of old store before.records)

  -- the server boots as the rule says where the device tells its bytes and stands for the records, at each store. A
  -- crash at any moment leaves the records before, or those with the next incarnation
  pub record IsBoot (device : Ghosts D) (old new : ServerView) (before after : Keeping D) (result : Result (List Letter) WorkError) : Type 0 where
    pub step : IfOk result (λ letters. device.observable → logs.HoldsAt device before → (store : Store)
        → acted new (shut store) after.records letters ≡ boots (here_in old) (server_of old store before.records) Done)
    pub runs : OnOk result (new.running ≡ true)
    pub voter : OnOk result (new.log.voter ≡ next_voter old.log.voter)
    pub side : OnOk result (new.side ≡ new_side)
    pub raised : OnOk result (after.records ≡ raised_records before.records)
    pub holds : device.observable → logs.HoldsAt device before → OnOk result (logs.HoldsAt device after)
    pub moments : device.observable → logs.HoldsAt device before
        → LeavesOnly device.moment device.left_since before.disk after.disk (StandsForEither before.records (raised_records before.records))
    pub same : OnErr result (new ≡ old)
    pub kept : result ≡ Err Failed → after.records ≡ before.records
    pub full : result ≡ Err NoRoom → IsFullBoot device old new before after
    pub cause : HasFault (device.faults before.disk) (device.faults after.disk) result
    pub run : device.came_to before.disk after.disk
