-- The slots fit a blank device.
use Rattle.std.proofs.Common.{◌≤◌, sym, subst, ◌∙◌}
use Rattle.petal_disk.specs.Plans.{beneath}
use Rattle.server_store.specs.Slots.{slot_start}
use Rattle.memory_server.proofs.Keeping.{kept_blank, slots_at}
use Rattle.memory_server.proofs.Plans.{blank_left}
use Rattle.memory_server.proofs.server.DeskServer.take_blank.Goals as goal

pub invariant_of-self : goal.invariant_of-self
invariant_of-self g c =
    let it = c.self.inside in
    kept_blank c.self.invariant c.args.disk (sym c.is_running.ensures ∙ c.if-is_running.false)
    (subst (λ slots. slot_start slots ≤ g.E.Disk.size (beneath c.args.disk)) (slots_at it.blank it.store) (rw (← c.self.view_is) at c.requires.room))

pub returns-clause-plans : goal.returns-clause-plans
returns-clause-plans g c = blank_left c.args.self.now _ c.args.disk c.self.view_is c.requires.unplanned
