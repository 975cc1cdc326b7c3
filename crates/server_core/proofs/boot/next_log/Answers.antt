-- The number, the incarnation and how many servers there are, as the part of the log has them.
use Rattle.std.proofs.Common.{refl, ap}
use Rattle.server_log.specs.Part.{Part}
use Rattle.spec_rules.specs.Log.{first_log}
use Rattle.server_core.proofs.boot.next_log.Goals as goal

pub returns-clause-voter : goal.returns-clause-voter
returns-clause-voter g c =
    ap (λ (part : Part). part.voter) (c.in_ok-log.ensures (record first_log { records = c.args.state.now.records }) refl)
