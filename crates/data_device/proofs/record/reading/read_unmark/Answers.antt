use Rattle.data_device.proofs.Spelled.{unmark_is}
use Rattle.data_device.proofs.record.reading.read_unmark.Goals as goal

pub returns : goal.returns
returns c kind cell fits is = unmark_is _ _ kind cell (c.kind_at.ensures.unmark kind cell is) (c.cell_at.ensures.unmark kind cell fits is)
