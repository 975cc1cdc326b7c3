-- The rule of a job of the agreed log, and what the job leaves of the server's own part.
use Rattle.std.specs.Prelude.{◌≡◌, length, List}
use Rattle.server_log.specs.Part.{Part, log_of, state_of}
use Rattle.pair_memory.specs.PairMemory.{PairMemory}
use Rattle.petal_command.specs.declared.command.Command.{Command}
use Rattle.spec_paxos.specs.declared.record.StateRecord.{StateRecord}
use Rattle.spec_rules.specs.Ballots.{first_wanted, starts, wanted}
use Rattle.spec_rules.specs.Jobs.{log_does, own_wants}
use Rattle.spec_rules.specs.Log.{Voter}
use Rattle.spec_rules.specs.Log.{LogDone as Rule}
use Rattle.spec_rules.specs.Returns.{proposed}
use Rattle.spec_rules.specs.Server.{PairState}
use Rattle.spec_rules.specs.Store.{Store}
use Rattle.spec_rules.specs.declared.job.Job.{Job}
use Rattle.spec_rules.specs.declared.job.Job.TheVariants as job
use Rattle.server_jobs.specs.Wants.{here_by, own_in}

-- what a server wants chosen, as this voter
abbrev pub wanted_by : Part → PairMemory → Store → List StateRecord → Voter → List Command
wanted_by part side store records voter = wanted voter (log_of part records) (own_wants (here_by part) (own_in side store))

-- the rule of a job of the agreed log, at a server as this voter
abbrev pub log_rule : Part → PairMemory → Store → List StateRecord → Job → Voter → Rule
log_rule part side store records job.Start voter = starts voter (log_of part records) (wanted_by part side store records voter)
log_rule part side store records first voter = log_does voter (log_of part records) first

-- the own part that it leaves: where a ballot starts for a link's Caught, that is noted of the link
abbrev pub own_left : Part → PairMemory → Store → List StateRecord → Job → Voter → PairState
own_left part side store records job.Start voter =
    proposed (state_of part) (own_in side store) (first_wanted part.phase (length part.applied) (wanted_by part side store records voter))
own_left part side store records first voter = own_in side store

-- of the side such a job changes at most what is remembered of copies, as its rule says
abbrev pub IsLeft : Part → PairMemory → Store → List StateRecord → Job → PairMemory → Type 0
IsLeft part side store records first left =
    (own_in left store ≡ own_left part side store records first part.voter) × (left ≡ record side { copies = left.copies })
