-- The run computes.
use Rattle.std.proofs.Common.{refl}
use Rattle.petal_command.specs.Ballot.{number}
use Rattle.spec_paxos.specs.Proposer.{nobody}
use Rattle.petal_table.specs.Table.{at, put, without}
use Rattle.spec_rules.specs.Lists.{put_at}
use Rattle.spec_rules.specs.Ballots.{on_pax, starts}
use Rattle.spec_rules.specs.Entries.{learns, applies}
use Rattle.spec_rules.specs.Copies.{next_copy, copies_on, repairs, on_hello_ask, on_hello, on_trim, trims_on, on_trimmed, on_sync, on_synced, on_sync_full}
use Rattle.spec_rules.specs.Jobs.{handles, hears_log, does, log_does}
use Rattle.spec_rules.specs.Clients.{heard, refusal}
use Rattle.spec_rules.specs.Sweeping.{next_retired}
use Rattle.spec_rules.specs.World.{step}
use Rattle.test_history.proofs.returns.a_returning_primary_drops_its_put.Goals as goal

pub returns : goal.returns
unfolding number nobody at put without put_at on_pax starts learns applies next_copy copies_on repairs on_hello_ask on_hello on_trim trims_on on_trimmed
    on_sync on_synced on_sync_full handles hears_log does log_does heard refusal next_retired step
returns c = record {
  old = refl;
  marked = refl;
  page = refl;
  dropped = refl;
  unmarked = refl;
  wants = refl;
  both = refl;
  left = refl;
  tidied = refl;
  new = refl;
}
