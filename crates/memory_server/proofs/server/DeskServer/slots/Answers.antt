use Rattle.std.proofs.Common.{sym, ◌∙◌}
use Rattle.memory_server.proofs.Keeping.{slots_at}
use Rattle.memory_server.proofs.server.DeskServer.slots.Goals as goal

pub returns : goal.returns
returns g c = rw (← c.self.view_is) (c.slots.ensures.value ∙ sym (slots_at c.self.inside.blank c.self.inside.store))
