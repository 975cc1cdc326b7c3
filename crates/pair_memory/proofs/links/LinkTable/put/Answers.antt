use Rattle.std.proofs.Common.{ap, ◌∙◌}
use Rattle.std.proofs.lemmas.Result.{on_ok_weaker}
use Rattle.pair_memory.specs.Copies.{by_link}
use Rattle.pair_memory.proofs.ByLink.{put_link}
use Rattle.pair_memory.proofs.links.LinkTable.put.Goals as goal

pub returns-clause-ok : goal.returns-clause-ok
returns-clause-ok g c =
    rw (← c.self.view_is)
    (on_ok_weaker c.put.result (λ is. ap by_link is ∙ put_link c.self.inside.rows c.args.link c.args.value) (rw c.key.ensures at c.put.ensures.ok))
