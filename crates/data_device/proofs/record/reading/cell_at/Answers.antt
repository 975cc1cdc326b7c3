use Rattle.std.proofs.Common.{ap, drop, List, ℕ}
use Rattle.data_device.proofs.Spelled.{cell_is}
use Rattle.data_device.proofs.record.reading.cell_at.Goals as goal

pub returns-clause-mark : goal.returns-clause-mark
returns-clause-mark c kind cell fits is = cell_is _ _ cell
    (c.word_at.ensures cell.map _ fits.0 (ap (λ (l : List ℕ). drop 1 l) is))
    (c.long_at.ensures cell.block _ fits.1 (ap (λ (l : List ℕ). drop 5 l) is))

pub returns-clause-unmark : goal.returns-clause-unmark
returns-clause-unmark c kind cell fits is = cell_is _ _ cell
    (c.word_at.ensures cell.map _ fits.0 (ap (λ (l : List ℕ). drop 1 l) is))
    (c.long_at.ensures cell.block _ fits.1 (ap (λ (l : List ℕ). drop 5 l) is))
