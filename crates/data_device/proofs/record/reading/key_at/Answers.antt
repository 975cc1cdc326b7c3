use Rattle.std.proofs.Common.{ap, drop, List, ℕ}
use Rattle.data_device.proofs.Spelled.{key_is}
use Rattle.data_device.proofs.record.reading.key_at.Goals as goal

pub returns-clause-put : goal.returns-clause-put
returns-clause-put c key version slot origin fits is = key_is _ _ _ key
    (c.word_at.ensures key.map _ fits.0 (ap (λ (l : List ℕ). drop 1 l) is))
    (c.long_at.ensures key.block _ fits.1 (ap (λ (l : List ℕ). drop 5 l) is))
    (c.word_at-2.ensures key.epoch _ fits.2 (ap (λ (l : List ℕ). drop 13 l) is))

pub returns-clause-drop : goal.returns-clause-drop
returns-clause-drop c key fits is = key_is _ _ _ key
    (c.word_at.ensures key.map _ fits.0 (ap (λ (l : List ℕ). drop 1 l) is))
    (c.long_at.ensures key.block _ fits.1 (ap (λ (l : List ℕ). drop 5 l) is))
    (c.word_at-2.ensures key.epoch _ fits.2 (ap (λ (l : List ℕ). drop 13 l) is))
