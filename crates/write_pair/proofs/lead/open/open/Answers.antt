use Rattle.std.proofs.Common.{Err, nat_lt, sym, ap, ◌∙◌}
use Rattle.std.proofs.lemmas.Result.{err_from_is_err_and}
use Rattle.kept_chains.specs.Kept.{store_of}
use Rattle.pair_memory.proofs.Said.{all_same, full_done, said_done}
use Rattle.spec_rules.specs.Store.{free_of}
use Rattle.write_pair.proofs.Opens.{full_back, not_opened, opened_done, opened_tickets, slot_some, slot_out, side_back, store_back, unopened_done}
use Rattle.write_pair.proofs.lead.open.open.Goals as goal

pub go_on-requires-clause-ready : goal.go_on-requires-clause-ready
go_on-requires-clause-ready g c κs within =
    let opened = c.in_ok-begin.ensures.yes c.if-not-branch.false in
    record {
      tickets =
          opened_tickets c.args.op.now c.args.side.now c.args.store.now c.requires.ready.tickets c.requires.none c.begin.new.side c.begin.new.store
          opened c.requires.new;
      versions = rw opened.store (c.requires.ready.versions);
    }

pub take_back-requires-clause-some : goal.take_back-requires-clause-some
take_back-requires-clause-some g c κs within =
    slot_some c.args.op.now c.args.side.now c.args.store.now c.requires.ready.tickets c.requires.none c.begin.new.side c.begin.new.store
    (c.in_ok-begin.ensures.yes c.if-not-branch.false) c.go_on.new.side c.go_on.new.store
    (c.in-Err-NoMemory.ensures.job.same (ap Err c.in-Err-NoMemory.field-0-is)).0 (c.in-Err-NoMemory.ensures.same (ap Err c.in-Err-NoMemory.field-0-is))

pub take_back-requires-clause-out : goal.take_back-requires-clause-out
take_back-requires-clause-out g c κs within =
    slot_out c.args.op.now c.args.side.now c.args.store.now c.requires.ready.tickets c.requires.none c.begin.new.side c.begin.new.store
    (c.in_ok-begin.ensures.yes c.if-not-branch.false) c.go_on.new.side c.go_on.new.store (c.in-Err-NoMemory.ensures.job.same
    (ap Err c.in-Err-NoMemory.field-0-is)).0 (c.in-Err-NoMemory.ensures.same (ap Err c.in-Err-NoMemory.field-0-is)) c.requires.new

pub returns-in-Err-NoMemory-clause-job : goal.returns-in-Err-NoMemory-clause-job
returns-in-Err-NoMemory-clause-job g c =
    let law = g.met.D.Disk g.world.𝓛 g.world.𝓜 g.world.𝓡 ((λ s x. x), (λ x. x), (λ x. x), λ x. x) in
    let h = rw (← c.side.view_is) at c.requires.ready.tickets in
    let none = rw (← c.side.view_is) at c.requires.none in
    let begun = rw (← c.side.view_is) at (c.in_ok-begin.ensures.yes c.if-not-branch.false) in
    let side_is = (c.in-Err-NoMemory.ensures.job.same (ap Err c.in-Err-NoMemory.field-0-is)).0 in
    let store_is = c.in-Err-NoMemory.ensures.same (ap Err c.in-Err-NoMemory.field-0-is) in
    rw (← c.side.view_is)
    (said_done g.D.Disk law.stays law.only_now c.args.here.now _ _ _ _ _ _
    (all_same c.args.here.now _ c.take_back.new.side c.args.store.now c.take_back.new.store _
    (side_back c.args.op.now _ c.args.store.now h none c.begin.new.side c.begin.new.store begun c.go_on.new.side c.go_on.new.store
    side_is store_is c.take_back.new.side c.take_back.ensures.side)
    (store_back c.args.op.now _ c.args.store.now h none c.begin.new.side c.begin.new.store begun c.go_on.new.side c.go_on.new.store
    side_is store_is c.take_back.new.store c.take_back.ensures.store)))

pub returns-in-Err-NoMemory-clause-same : goal.returns-in-Err-NoMemory-clause-same
returns-in-Err-NoMemory-clause-same g c _ =
    store_back c.args.op.now c.args.side.now c.args.store.now c.requires.ready.tickets c.requires.none c.begin.new.side c.begin.new.store
    (c.in_ok-begin.ensures.yes c.if-not-branch.false) c.go_on.new.side c.go_on.new.store
    (c.in-Err-NoMemory.ensures.job.same (ap Err c.in-Err-NoMemory.field-0-is)).0
    (c.in-Err-NoMemory.ensures.same (ap Err c.in-Err-NoMemory.field-0-is)) c.take_back.new.store c.take_back.ensures.store

pub take_back-requires-in-Err-NoRoom-clause-some : goal.take_back-requires-in-Err-NoRoom-clause-some
take_back-requires-in-Err-NoRoom-clause-some g c κs within =
    let full = c.in-Err-NoRoom.ensures.job.full (ap Err c.in-Err-NoRoom.field-0-is) in
    slot_some c.args.op.now c.args.side.now c.args.store.now c.requires.ready.tickets c.requires.none c.begin.new.side c.begin.new.store
    (c.in_ok-begin.ensures.yes c.if-not-branch.false) c.go_on.new.side c.go_on.new.store full.same.0 full.same.1

pub take_back-requires-in-Err-NoRoom-clause-out : goal.take_back-requires-in-Err-NoRoom-clause-out
take_back-requires-in-Err-NoRoom-clause-out g c κs within =
    let full = c.in-Err-NoRoom.ensures.job.full (ap Err c.in-Err-NoRoom.field-0-is) in
    slot_out c.args.op.now c.args.side.now c.args.store.now c.requires.ready.tickets c.requires.none c.begin.new.side c.begin.new.store
    (c.in_ok-begin.ensures.yes c.if-not-branch.false) c.go_on.new.side c.go_on.new.store full.same.0 full.same.1 c.requires.new

pub returns-in-Err-NoRoom-clause-job : goal.returns-in-Err-NoRoom-clause-job
returns-in-Err-NoRoom-clause-job g c =
    let law = g.met.D.Disk g.world.𝓛 g.world.𝓜 g.world.𝓡 ((λ s x. x), (λ x. x), (λ x. x), λ x. x) in
    let h = rw (← c.side.view_is) at c.requires.ready.tickets in
    let none = rw (← c.side.view_is) at c.requires.none in
    let begun = rw (← c.side.view_is) at (c.in_ok-begin.ensures.yes c.if-not-branch.false) in
    let room = sym c.in_ok-begin.ensures.room ∙ c.if-not-branch.false in
    rw (← c.side.view_is)
    (full_done g.D.Disk law.stays law.only_now c.args.here.now _ _ _ _ _
    (full_back c.args.op.now _ c.args.store.now h none c.begin.new.side c.begin.new.store begun
    c.args.here.now c.go_on.new.side c.take_back-in-Err-NoRoom.new.side c.go_on.new.store c.take_back-in-Err-NoRoom.new.store
    (nat_lt 0 (free_of (store_of c.args.store.now))) room (c.in-Err-NoRoom.ensures.job.full (ap Err c.in-Err-NoRoom.field-0-is))
    c.take_back-in-Err-NoRoom.ensures.side c.take_back-in-Err-NoRoom.ensures.store))

pub returns-in-Ok-clause-job : goal.returns-in-Ok-clause-job
returns-in-Ok-clause-job g c =
    opened_done c.args.op.now c.args.side.now c.args.store.now c.requires.ready.tickets c.requires.none c.begin.new.side c.begin.new.store
    (c.in_ok-begin.ensures.yes c.if-not-branch.false) c.args.here.now g.D.Disk c.go_on.new.side c.go_on.new.store
    _ (nat_lt 0 (free_of (store_of c.args.store.now)))
    (sym c.in_ok-begin.ensures.room ∙ c.if-not-branch.false) (λ no. absurd (cc)) (λ no. absurd (cc)) (λ no. absurd (cc)) c.in-Ok.ensures.job

pub returns-in-Err-Failed-clause-job : goal.returns-in-Err-Failed-clause-job
returns-in-Err-Failed-clause-job g c =
    opened_done c.args.op.now c.args.side.now c.args.store.now c.requires.ready.tickets c.requires.none c.begin.new.side c.begin.new.store
    (c.in_ok-begin.ensures.yes c.if-not-branch.false) c.args.here.now g.D.Disk c.go_on.new.side c.go_on.new.store
    _ (nat_lt 0 (free_of (store_of c.args.store.now)))
    (sym c.in_ok-begin.ensures.room ∙ c.if-not-branch.false) (λ no. absurd (cc)) (λ no. absurd (cc)) (λ no. absurd (cc))
    (rw c.in-Err-Failed.field-0-is at c.in-Err-Failed.ensures.job)

pub returns-in-Err-Exhausted-clause-job : goal.returns-in-Err-Exhausted-clause-job
returns-in-Err-Exhausted-clause-job g c = absurd (c.in-Err-Exhausted.ensures.unspent (ap Err c.in-Err-Exhausted.field-0-is))

pub returns-in_err-begin-clause-job : goal.returns-in_err-begin-clause-job
returns-in_err-begin-clause-job g c =
    let law = g.met.D.Disk g.world.𝓛 g.world.𝓜 g.world.𝓡 ((λ s x. x), (λ x. x), (λ x. x), λ x. x) in
    let here = c.args.here.now in
    let op = c.args.op.now in
    let old = c.args.side.now in
    let store = c.args.store.now in
    let room = nat_lt 0 (free_of (store_of store)) in
    let error = err_from_is_err_and c.from_residual.result c.from_residual.ensures.1 in
    rw (error.1, error.2)
    (not_opened op old store c.requires.ready.tickets c.requires.none here g.D.Disk law.stays law.only_now c.begin.new.side c.begin.new.store
    room c.in_err-begin.field-0.0 c.in_err-begin.ensures.err.0 c.in_err-begin.ensures.err.1 c.in_err-begin.ensures.why)

pub returns-then-not-branch-clause-job : goal.returns-then-not-branch-clause-job
returns-then-not-branch-clause-job g c =
    let law = g.met.D.Disk g.world.𝓛 g.world.𝓜 g.world.𝓡 ((λ s x. x), (λ x. x), (λ x. x), λ x. x) in
    let same = c.in_ok-begin.ensures.no c.if-not-branch.true in
    unopened_done c.args.op.now c.args.side.now c.args.store.now c.requires.ready.tickets c.requires.none c.args.here.now g.D.Disk law.stays law.only_now
    c.begin.new.side c.end.new.side c.begin.new.store c.end.result _ (sym c.in_ok-begin.ensures.room ∙ c.if-not-branch.true) same.0 same.1 c.end.ensures
