use Rattle.std.proofs.Common.{ap, length, ◌∙◌}
use Rattle.data_device.proofs.Spelled.{length-spelling}
use Rattle.data_device.proofs.record.reading.decode.Goals as goal

pub returns-then-bytes-ne-RECORD_BYTES-clause-only : goal.returns-then-bytes-ne-RECORD_BYTES-clause-only
returns-then-bytes-ne-RECORD_BYTES-clause-only c entry fits is = absurd (c.if-bytes-ne-RECORD_BYTES.true (ap length is ∙ length-spelling entry))
