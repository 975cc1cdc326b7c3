use Rattle.std.proofs.Common.{◌∙◌}
use Rattle.kept_chains.proofs.Walks.{stored_is}
use Rattle.kept_chains.proofs.walk.next_stored.Goals as goal

pub returns : goal.returns
returns g c = c.next_block.ensures ∙ stored_is c.args.map c.args.after c.args.store.now.entries
