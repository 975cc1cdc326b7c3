-- The same, said of the whole server.
use Rattle.server_core.proofs.parts.ServerMemory.work_apply.Goals as goal

pub returns : goal.returns
returns g c = rw (← c.self.view_is) (c.apply_next.ensures c.self.inside.running)
