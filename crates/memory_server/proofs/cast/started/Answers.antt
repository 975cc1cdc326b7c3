use Rattle.std.proofs.Common.{◌≡◌, ℕ, []}
use Rattle.std.proofs.lemmas.List.Elements.{All-append, All-cons, All-nil}
use Rattle.petal_disk.specs.declared.memory_disk.MemDisk.{MemDisk}
use Rattle.petal_disk.specs.declared.planned.Planned.{Planned}
use Rattle.server_store.specs.Slots.{slot_start}
use Rattle.memory_server.specs.Armed.{armed_of}
use Rattle.memory_server.specs.Server.{Mounted, site_of}
use Rattle.spec_rules.specs.Plans.{unarmed}
use Rattle.memory_server.proofs.Casting.{cast_more}
use Rattle.memory_server.proofs.cast.started.Goals as goal

abbrev fits : ℕ → Mounted (Planned MemDisk) → Type 0
fits slots server = server.store.disk.disk.len ≡ slot_start slots

abbrev rests : Mounted (Planned MemDisk) → Type 0
rests server = armed_of server ≡ unarmed

pub loop-me-preserved : goal.loop-me-preserved
loop-me-preserved c =
    rw c.in_ok-push.ensures.ok (
      cast_more site_of c.args.servers c.args.slots c.loop-me.me c.loop-me.members c.in_ok-start.field-0 c.loop-me.invariant.0 c.in_ok-start.ensures.site,
      All-append (fits c.args.slots) c.loop-me.members _ c.loop-me.invariant.1
          (All-cons (fits c.args.slots) c.in_ok-start.field-0 [] c.in_ok-start.ensures.device (All-nil (fits c.args.slots))),
      All-append rests c.loop-me.members _ c.loop-me.invariant.2
          (All-cons rests c.in_ok-start.field-0 [] c.in_ok-start.ensures.plans (All-nil rests)),
    )
