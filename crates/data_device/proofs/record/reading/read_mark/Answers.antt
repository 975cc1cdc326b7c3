use Rattle.data_device.proofs.Spelled.{mark_is}
use Rattle.data_device.proofs.record.reading.read_mark.Goals as goal

pub returns : goal.returns
returns c kind cell fits is = mark_is _ _ kind cell (c.kind_at.ensures.mark kind cell is) (c.cell_at.ensures.mark kind cell fits is)
