use Rattle.std.proofs.Common.{◌≡◌, List, ℕ, subst, ap}
use Rattle.physical_map.specs.declared.entry.Entry.{Entry}
use Rattle.server_store.specs.Shown.{Shows}
use Rattle.server_store.proofs.Changes.{listed_still, on_err}
use Rattle.server_store.proofs.Opening.{found_kept, found_keeps, reopened, told_same}
use Rattle.server_store.proofs.store.Store.reopen.Goals as goal

pub returns-in_err-found-clause-still : goal.returns-in_err-found-clause-still
returns-in_err-found-clause-still g c =
    let own = c.self.inside in
    on_err c.from_residual.result _ (rw (← c.self.view_is)
    (ap (λ (es : List Entry). record { entries = es; marks = own.marks.marks; rows = own.rows.rows; fresh = own.fresh })
    (listed_still (g.D.Disk.seen own.disk) (g.D.Disk.seen c.read_device.new.disk) own.ledger.entries)))

pub invariant_of-self-3 : goal.invariant_of-self-3
invariant_of-self-3 g c =
    found_keeps c.in-Some.found c.self.inside.buffer _ (rw c.in-Some.is at c.in_ok-found.ensures.found) (rw c.in-Some.is at c.in_ok-found.ensures.room)
    c.self.invariant.buffer_is

pub returns-clause-same : goal.returns-clause-same
returns-clause-same g c slots fresh recorded picture found_it observed shows =
    let read = c.read_device in
    let before = g.D.Disk.seen c.crash.new.self in
    let same_seen : g.D.Disk.seen read.new.disk ≡ before = read.ensures.device.same_seen in
    let shown = subst (λ (file : List ℕ). Shows file slots fresh recorded picture) same_seen shows in
    reopened before (g.D.Disk.seen read.new.disk) (g.D.Disk.may_leave read.new.disk) c.in-Some.found read.new.disk slots fresh recorded picture
    (rw c.in-Some.is at c.in_ok-found.ensures.found) same_seen ((rw c.in-Some.is at c.in_ok-found.ensures.durable) observed)
    ((rw c.in-Some.is at c.in_ok-found.ensures.same slots fresh recorded) observed shown.stands) shown

pub returns-clause-observed : goal.returns-clause-observed
returns-clause-observed g c _ =
    let own = c.self.inside in
    rw (← c.self.view_is) (told_same c.as_reread.result c.keeps-same.result _ _ _ _ c.as_reread.ensures c.keeps-same.ensures
    (ap (λ (es : List Entry). record { entries = es; marks = own.marks.marks; rows = own.rows.rows; fresh = own.fresh })
    (listed_still (g.D.Disk.seen own.disk) (g.D.Disk.seen c.read_device.new.disk) own.ledger.entries))
    (found_kept (g.D.Disk.seen c.read_device.new.disk) c.in-Some.found))
