use Rattle.std.proofs.Common.{◌∙◌}
use Rattle.kept_chains.proofs.Walks.{marked_is}
use Rattle.kept_chains.proofs.walk.next_marked.Goals as goal

pub returns : goal.returns
returns g c = c.next_mark.ensures.least ∙ marked_is c.args.map c.args.after c.args.store.now.marks
