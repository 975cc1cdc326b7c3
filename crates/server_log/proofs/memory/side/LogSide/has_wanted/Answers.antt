use Rattle.std.proofs.Common.{is_some, ap, ◌∙◌}
use Rattle.server_log.proofs.memory.side.LogSide.has_wanted.Goals as goal

pub returns : goal.returns
returns c = λ records. c.is_some.ensures ∙ ap is_some (c.in_ok-most_urgent.ensures records)
