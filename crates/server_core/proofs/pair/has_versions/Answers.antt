use Rattle.std.proofs.Common.{sym, ◌∙◌}
use Rattle.spec_rules.specs.World.{greatest_u64}
use Rattle.physical_map.specs.Entries.{top_of}
use Rattle.server_store.specs.Holdings.{listed}
use Rattle.kept_chains.proofs.Kept.{top_of_is}
use Rattle.server_core.proofs.Steps.{below}
use Rattle.server_core.proofs.pair.has_versions.Goals as goal

pub returns : goal.returns
returns g c =
    below (top_of (listed c.args.store.now.entries)) c.top.result greatest_u64 c.top.ensures c.top.type_inv
    (λ e. c.requires (sym (top_of_is c.args.store.now.entries c.free.ensures.order) ∙ e))
