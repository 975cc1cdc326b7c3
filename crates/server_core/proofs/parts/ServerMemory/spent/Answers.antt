use Rattle.std.proofs.Common.{◌∙◌}
use Rattle.kept_chains.proofs.Kept.{top_of_is}
use Rattle.server_core.proofs.parts.ServerMemory.spent.Goals as goal

pub returns : goal.returns
returns g c =
    rw (← c.self.view_is) (rw (← c.self-inside.view_is)
    (rw (c.top.ensures ∙ top_of_is c.args.store.now.entries c.free.ensures.order) at c.either.ensures))
