use Rattle.data_device.proofs.opening.fitting.Goals as goal

pub returns-in_default-clause-none : goal.returns-in_default-clause-none
returns-in_default-clause-none c slots fresh few head =
    absurd (c.in_default.not-Some (record { slots = slots; fresh = fresh }) (c.read.ensures.only slots fresh few head))
