-- The run computes.
use Rattle.std.proofs.Common.{refl}
use Rattle.petal_command.specs.Ballot.{number}
use Rattle.spec_paxos.specs.Proposer.{nobody}
use Rattle.petal_table.specs.Table.{at, put, without}
use Rattle.spec_rules.specs.Lists.{put_at}
use Rattle.spec_rules.specs.Ballots.{on_propose, on_pax, starts}
use Rattle.spec_rules.specs.Entries.{learns, on_news, applies, on_ask}
use Rattle.spec_rules.specs.Writes.{goes_on, on_write, on_reserve, on_reserved, on_pair_full, on_replicate, on_replicated}
use Rattle.spec_rules.specs.Reads.{on_read}
use Rattle.spec_rules.specs.Jobs.{handles, hears_log, does, log_does}
use Rattle.spec_rules.specs.Clients.{heard, ticked, refusal}
use Rattle.spec_rules.specs.Sweeping.{next_retired}
use Rattle.spec_rules.specs.World.{step}
use Rattle.spec_history.proofs.witness.a_write_leaves_its_number.Goals as goal

pub returns : goal.returns
unfolding number nobody at put without put_at on_propose on_pax starts learns on_news applies on_ask goes_on on_write on_reserve on_reserved on_pair_full
    on_replicate on_replicated on_read handles hears_log does log_does heard ticked refusal next_retired step
returns c = record { primary = refl; secondary = refl }
