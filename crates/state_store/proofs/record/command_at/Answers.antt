use Rattle.std.proofs.Common.{take, ap, ◌∙◌}
use Rattle.std.proofs.lemmas.List.{take_at}
use Rattle.petal_command.specs.Spelling.{spelling}
use Rattle.petal_command.proofs.Spelled.{length-spelling}
use Rattle.state_store.proofs.record.command_at.Goals as goal

pub returns : goal.returns
returns c command rest fits is = c.decode.ensures.only command fits (ap (take 64) is ∙ take_at (spelling command) rest 64 (length-spelling command fits))
