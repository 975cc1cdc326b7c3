use Rattle.std.proofs.Common.{ap, drop, List, ℕ}
use Rattle.data_device.proofs.Spelled.{put_is}
use Rattle.data_device.proofs.record.reading.read_put.Goals as goal

pub returns : goal.returns
returns c key version slot origin fits is =
    put_is _ _ _ _ key version slot origin (c.key_at.ensures.put key version slot origin fits is)
    (c.long_at.ensures version _ fits.3 (ap (λ (l : List ℕ). drop 17 l) is))
    (c.word_at.ensures slot _ fits.4 (ap (λ (l : List ℕ). drop 25 l) is)) (c.origin_at.ensures key version slot origin fits is)
