-- The run computes.
use Rattle.std.proofs.Common.{refl}
use Rattle.petal_command.specs.Ballot.{number}
use Rattle.spec_paxos.specs.Proposer.{nobody}
use Rattle.petal_table.specs.Table.{at, put}
use Rattle.spec_rules.specs.Lists.{put_at}
use Rattle.spec_rules.specs.Ballots.{on_down, on_pax, starts}
use Rattle.spec_rules.specs.Writes.{goes_on, on_write, on_reserve, on_reserved}
use Rattle.spec_rules.specs.Jobs.{handles, hears_log, does, log_does}
use Rattle.spec_rules.specs.Clients.{heard, refusal}
use Rattle.spec_rules.specs.Sweeping.{next_retired}
use Rattle.spec_rules.specs.World.{step}
use Rattle.test_history.proofs.takeover.a_leave_is_chosen.Goals as goal

pub returns : goal.returns
unfolding number nobody
    at put put_at on_down on_pax starts goes_on on_write on_reserve on_reserved handles hears_log does log_does heard refusal next_retired step
returns c = record { before = refl; old = refl; chosen = refl; new = refl }
