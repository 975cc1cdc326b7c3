use Rattle.std.proofs.Common.{inl, inr, arith, rules}
use Rattle.block_journal.proofs.Lists.{no_head_no_list}
use Rattle.data_device.specs.Device.{journal_base}
use Rattle.server_store.proofs.Opening.{found_keeps, reopened}
use Rattle.server_store.proofs.store.Store.open.Goals as goal

pub returns-in-Ok-Some-clause-same : goal.returns-in-Ok-Some-clause-same
returns-in-Ok-Some-clause-same g c slots fresh recorded picture observed room shows =
    let read = c.read_device in
    reopened (g.D.Disk.seen c.args.disk) (g.D.Disk.seen read.new.disk)
    (g.D.Disk.may_leave read.new.disk) c.in-Ok-Some.found read.new.disk slots fresh recorded picture
    (rw c.in-Ok-Some.field-0-is at c.in-Ok-Some.ensures.found) read.ensures.device.same_seen
    ((rw c.in-Ok-Some.field-0-is at c.in-Ok-Some.ensures.durable) observed)
    ((rw c.in-Ok-Some.field-0-is at c.in-Ok-Some.ensures.same slots fresh recorded) observed shows.stands) shows

pub returns-in-Ok-None-clause-same : goal.returns-in-Ok-None-clause-same
returns-in-Ok-None-clause-same g c slots fresh recorded picture observed room shows =
    elim ((rw c.in-Ok-None.field-0-is at c.in-Ok-None.ensures.blank) observed) [
      | inl none ↦ let small = none slots fresh shows.stands.few shows.stands.headed in omega (arith, small, room)
      | inr none ↦ no_head_no_list journal_base _ _ none shows.stands.stands
    ]

pub invariant_of-result : goal.invariant_of-result
invariant_of-result g c =
    found_keeps c.in-Ok-Some.found _ _ (rw c.in-Ok-Some.field-0-is at c.in-Ok-Some.ensures.found) (rw c.in-Ok-Some.field-0-is at c.in-Ok-Some.ensures.room)
    (search rules)
