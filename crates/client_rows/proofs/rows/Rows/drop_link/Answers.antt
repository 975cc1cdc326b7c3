use Rattle.std.proofs.Common.{◌∙◌}
use Rattle.client_rows.proofs.Searches.{all_dropped}
use Rattle.client_rows.proofs.rows.Rows.drop_link.Goals as goal

pub returns-clause-rows : goal.returns-clause-rows
returns-clause-rows c =
    rw (← c.self.view_is) (c.drop_from.ensures.rows c.self.invariant.0 c.self.invariant.1 ∙ all_dropped c.args.map c.args.link c.self.inside.rows.items)

pub invariant_of-self : goal.invariant_of-self
invariant_of-self c = (c.drop_from.ensures.sorted c.self.invariant.0, c.drop_from.ensures.clients c.self.invariant.1)
