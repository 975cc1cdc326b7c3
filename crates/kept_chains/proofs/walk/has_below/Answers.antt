use Rattle.std.proofs.Common.{◌∙◌}
use Rattle.kept_chains.proofs.Walks.{below_is}
use Rattle.kept_chains.proofs.walk.has_below.Goals as goal

pub returns : goal.returns
returns g c =
    c.is_some.ensures
    ∙ below_is c.args.store.now.entries (record { map = c.args.cell.map; block = c.args.cell.block; epoch = c.args.epoch }) c.lookup.result
    c.free.ensures.order c.lookup.ensures
