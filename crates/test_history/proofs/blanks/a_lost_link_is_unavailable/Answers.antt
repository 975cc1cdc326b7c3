-- The run computes.
use Rattle.std.proofs.Common.{refl}
use Rattle.petal_command.specs.Ballot.{number}
use Rattle.spec_paxos.specs.Proposer.{nobody}
use Rattle.petal_table.specs.Table.{at, put, without}
use Rattle.spec_rules.specs.Lists.{put_at}
use Rattle.spec_rules.specs.Ballots.{on_propose, on_pax, starts}
use Rattle.spec_rules.specs.Entries.{learns, applies, on_ask}
use Rattle.spec_rules.specs.Writes.{goes_on, on_write}
use Rattle.spec_rules.specs.Jobs.{handles, hears_log, does, log_does}
use Rattle.spec_rules.specs.Clients.{heard, ticked, refusal}
use Rattle.spec_rules.specs.Sweeping.{next_retired}
use Rattle.spec_rules.specs.World.{step}
use Rattle.test_history.proofs.blanks.a_lost_link_is_unavailable.Goals as goal

pub returns : goal.returns
unfolding number nobody at put without put_at on_propose on_pax starts learns applies on_ask goes_on on_write handles hears_log does log_does
    heard ticked refusal next_retired step
returns c = record {
  lost = refl;
  refused = refl;
  other = refl;
  still = refl;
}
