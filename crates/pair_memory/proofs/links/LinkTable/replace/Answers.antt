use Rattle.std.proofs.Common.{ap, ◌∙◌}
use Rattle.pair_memory.specs.Copies.{by_link}
use Rattle.pair_memory.proofs.ByLink.{put_link}
use Rattle.pair_memory.proofs.links.LinkTable.replace.Goals as goal

pub returns : goal.returns
returns g c =
    rw (← c.self.view_is) (ap by_link (rw c.key.ensures at c.replace.ensures) ∙ put_link c.self.inside.rows c.args.link c.args.value)
