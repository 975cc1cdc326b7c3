-- The run computes.
use Rattle.std.proofs.Common.{refl}
use Rattle.petal_command.specs.Ballot.{number}
use Rattle.spec_paxos.specs.Proposer.{nobody}
use Rattle.petal_table.specs.Table.{at, put, without}
use Rattle.spec_rules.specs.Lists.{put_at}
use Rattle.spec_rules.specs.Ballots.{on_pax}
use Rattle.spec_rules.specs.Jobs.{handles, hears_log, does, log_does}
use Rattle.spec_rules.specs.Clients.{refusal}
use Rattle.spec_rules.specs.World.{step}
use Rattle.test_history.proofs.snapshots.a_snapshot_keeps_its_block.Goals as goal

pub returns : goal.returns
unfolding number nobody at put without put_at on_pax handles hears_log does log_does refusal step
returns c = record {
  told = refl;
  before = refl;
  now = refl;
}
