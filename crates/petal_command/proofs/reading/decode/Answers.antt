use Rattle.std.proofs.Common.{ap, length, ◌∙◌}
use Rattle.petal_command.proofs.Spelled.{length-spelling}
use Rattle.petal_command.proofs.reading.decode.Goals as goal

pub returns-then-bytes-ne-COMMAND_BYTES-clause-only : goal.returns-then-bytes-ne-COMMAND_BYTES-clause-only
returns-then-bytes-ne-COMMAND_BYTES-clause-only c command fits is = absurd (c.if-bytes-ne-COMMAND_BYTES.true (ap length is ∙ length-spelling command fits))
