use Rattle.std.proofs.Common.{◌∙◌, is_some, ap}
use Rattle.kept_chains.proofs.Walks.{some_version}
use Rattle.kept_chains.proofs.walk.has_entry.Goals as goal

pub returns : goal.returns
returns g c = c.is_some.ensures ∙ ap is_some c.version_at.ensures ∙ some_version _
