-- The run computes.
use Rattle.std.proofs.Common.{refl}
use Rattle.petal_command.specs.Ballot.{number}
use Rattle.spec_paxos.specs.Proposer.{nobody}
use Rattle.petal_table.specs.Table.{at, put}
use Rattle.spec_rules.specs.Lists.{put_at}
use Rattle.spec_rules.specs.Ballots.{on_pax, starts}
use Rattle.spec_rules.specs.Entries.{learns, applies}
use Rattle.spec_rules.specs.Jobs.{handles, hears_log, does, log_does}
use Rattle.spec_rules.specs.Clients.{heard, refusal}
use Rattle.spec_rules.specs.World.{step}
use Rattle.test_history.proofs.boots.a_server_joins_again.Goals as goal

pub returns : goal.returns
unfolding number nobody at put put_at on_pax starts learns applies handles hears_log does log_does heard refusal step
returns c = record {
  leaves = refl;
  joins = refl;
  rests = refl;
  chosen = refl;
  out = refl;
  back = refl;
  applied = refl;
  first = refl;
  second = refl;
}
