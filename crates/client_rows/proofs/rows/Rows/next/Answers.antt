use Rattle.std.proofs.Common.{◌∙◌, ap}
use Rattle.client_rows.specs.Rows.{place_in}
use Rattle.client_rows.proofs.Searches.{first_past}
use Rattle.client_rows.proofs.rows.Rows.next.Goals as goal

pub returns : goal.returns
returns c =
    rw (← c.self.view_is) (c.place_in.ensures ∙ ap place_in (rw c.behind.ensures at c.first_from.ensures.found
    ∙ first_past c.args.after c.self.inside.rows.items c.self.invariant.1))
