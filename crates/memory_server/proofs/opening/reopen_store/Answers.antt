-- A device that stands for a store is opened, whichever it keeps.
use Rattle.memory_server.proofs.opening.reopen_store.Goals as goal

pub returns-in-Ok-Same-clause-same : goal.returns-in-Ok-Same-clause-same
returns-in-Ok-Same-clause-same g c slots fresh recorded picture observed shows =
    (rw c.in-Ok-Same.field-0-is at c.in-Ok-Same.ensures.same slots fresh recorded picture) tt observed shows

pub returns-in-Ok-Changed-clause-same : goal.returns-in-Ok-Changed-clause-same
returns-in-Ok-Changed-clause-same g c slots fresh recorded picture observed shows =
    (rw c.in-Ok-Changed.field-0-is at c.in-Ok-Changed.ensures.same slots fresh recorded picture) tt observed shows
