use Rattle.std.proofs.Common.{◌≡◌, ◌∙◌, ◌<◌, ◌+◌, List, true, false, [], ◌∷◌, length, Ok, Err, inl, refl, sym, ap, subst, arith}
use Rattle.std.specs.List.Sorted.{IsStrictlySortedBy}
use Rattle.busy_marks.specs.declared.marks.Mark.{Mark}
use Rattle.busy_marks.specs.Marks.{has_mark, mark_cmp, with_mark}
use Rattle.petal_base.specs.Limits.{marks_limit}
use Rattle.data_device.specs.Kept.{Kept, kept_after}
use Rattle.data_device.specs.declared.error.StoreError.TheVariants.{MarksFull, NoMemory}
use Rattle.data_device.specs.declared.record.StoreRecord.TheVariants as records
use Rattle.data_device.proofs.MarkOrder.{set_already}
use Rattle.data_device.proofs.Ordered.{in_order}
use Rattle.server_store.specs.Holdings.{kept_in}
use Rattle.server_store.proofs.Changes.{listed_still}
use Rattle.server_store.proofs.Needed.{mark_fits, marks_change, room_left}
use Rattle.server_store.proofs.Steps.{done, full_fine, idle, kept_anew, kept_as, kept_still, ok_fine, refused, starved, view_of}
use Rattle.server_store.proofs.store.Store.mark.Goals as goal

pub returns-then-has-clause-ok : goal.returns-then-has-clause-ok
returns-then-has-clause-ok g c =
    let own = c.self.inside in
    let m : Mark = record { kind = c.args.kind; cell = c.args.cell } in
    let there : has_mark m own.marks.marks ≡ true = sym c.has.ensures ∙ c.if-has.true in
    let order : IsStrictlySortedBy mark_cmp own.marks.marks =
    subst (λ (k : Kept). IsStrictlySortedBy mark_cmp k.marks) c.self.invariant.kept (in_order own.log.fresh own.log.records).marks in
    rw (← c.self.view_is) (sym (set_already m own.marks.marks order there))

pub returns-then-has-clause-committed : goal.returns-then-has-clause-committed
returns-then-has-clause-committed g c =
    let laws = g.met.D.Disk g.world.𝓛 g.world.𝓜 g.world.𝓡 ((λ s x. x), (λ x. x), (λ x. x), λ x. x) in
    let own = c.self.inside in
    rw (← c.self.view_is)
    (idle g.D.Disk own.ledger own.marks.marks own.rows.rows own.fresh own.log own.disk c.self.invariant.kept (Ok tt) own.ledger.tickets _ []
    (laws.only_now own.disk) (laws.stays own.disk) (ok_fine tt))

pub returns-then-is_marks_full-clause-committed : goal.returns-then-is_marks_full-clause-committed
returns-then-is_marks_full-clause-committed g c =
    let laws = g.met.D.Disk g.world.𝓛 g.world.𝓜 g.world.𝓡 ((λ s x. x), (λ x. x), (λ x. x), λ x. x) in
    let own = c.self.inside in
    rw (← c.self.view_is)
    (idle g.D.Disk own.ledger own.marks.marks own.rows.rows own.fresh own.log own.disk c.self.invariant.kept (Err MarksFull) own.ledger.tickets _ []
    (laws.only_now own.disk) (laws.stays own.disk) full_fine)

pub returns-in_err-reserve-clause-committed : goal.returns-in_err-reserve-clause-committed
returns-in_err-reserve-clause-committed g c =
    let laws = g.met.D.Disk g.world.𝓛 g.world.𝓜 g.world.𝓡 ((λ s x. x), (λ x. x), (λ x. x), λ x. x) in
    let own = c.self.inside in
    rw (← c.self.view_is, c.reserve.ensures.marks) (starved g.D.Disk own.ledger own.marks.marks own.rows.rows own.fresh own.log own.disk c.self.invariant.kept
    c.from_residual.result _ [] c.from_residual.ensures (laws.only_now own.disk) (laws.stays own.disk))

pub to_list-list-requires-clause-kept : goal.to_list-list-requires-clause-kept
to_list-list-requires-clause-kept g c = rw c.reserve.ensures.marks c.self.invariant.kept

pub to_list-list-requires-clause-within : goal.to_list-list-requires-clause-within
to_list-list-requires-clause-within g c = rw c.reserve.ensures.marks c.self.invariant.within

pub commit-requires-clause-fits : goal.commit-requires-clause-fits
commit-requires-clause-fits g c _ _ slots =
    let own = c.self.inside in
    let m : Mark = record { kind = c.args.kind; cell = c.args.cell } in
    let room : length own.marks.marks + length own.rows.rows < marks_limit =
    room_left (length own.marks.marks + length own.rows.rows) c.self.invariant.within
    (rw (← c.self.view_is) at (sym c.is_marks_full.ensures.full ∙ c.if-is_marks_full.false)) in
    rw c.self.invariant.kept (mark_fits slots (kept_as own.ledger own.marks.marks own.rows.rows own.fresh) m room)

pub returns-in_err-commit-clause-listed : goal.returns-in_err-commit-clause-listed
returns-in_err-commit-clause-listed g c = rw (← c.self.view_is) (listed_still _ _ c.self.inside.ledger.entries)

pub returns-clause-listed : goal.returns-clause-listed
returns-clause-listed g c = rw (← c.self.view_is) (listed_still _ _ c.self.inside.ledger.entries)

pub returns-in_err-commit-clause-committed : goal.returns-in_err-commit-clause-committed
returns-in_err-commit-clause-committed g c =
    let own = c.self.inside in
    let m : Mark = record { kind = c.args.kind; cell = c.args.cell } in
    let none : has_mark m own.marks.marks ≡ false = sym c.has.ensures ∙ c.if-has.false in
    rw (← c.self.view_is, none, c.reserve.ensures.marks)
    (refused g.D.Disk own.ledger own.marks.marks own.rows.rows own.fresh own.log own.disk c.self.invariant.kept
    (records.Mark c.args.kind c.args.cell ∷ []) [] c.commit.new.log c.commit.new.disk
    (marks_change (kept_in (view_of g.D.Disk own.ledger own.marks.marks own.rows.rows own.fresh own.log own.disk)) m none) c.commit.ensures.fresh
    (λ observed h. c.commit.ensures.either observed own.ledger.slots _ h) (λ observed h. c.commit.ensures.any_moment observed own.ledger.slots _ h)
    c.commit.ensures.run
    c.in_err-commit.field-0.0 c.from_residual-in_err-commit.result c.from_residual-in_err-commit.ensures c.in_err-commit.ensures.cause)

pub returns-clause-committed : goal.returns-clause-committed
returns-clause-committed g c =
    let own = c.self.inside in
    let m : Mark = record { kind = c.args.kind; cell = c.args.cell } in
    let none : has_mark m own.marks.marks ≡ false = sym c.has.ensures ∙ c.if-has.false in
    rw (← c.self.view_is, none, c.set_reserved.ensures, c.reserve.ensures.marks)
    (done g.D.Disk own.ledger own.marks.marks own.rows.rows own.fresh own.log own.disk c.self.invariant.kept
    (records.Mark c.args.kind c.args.cell ∷ []) [] c.commit.new.log c.commit.new.disk
    (marks_change (kept_in (view_of g.D.Disk own.ledger own.marks.marks own.rows.rows own.fresh own.log own.disk)) m none) c.commit.ensures.fresh
    (λ observed h. c.commit.ensures.either observed own.ledger.slots _ h) (λ observed h. c.commit.ensures.any_moment observed own.ledger.slots _ h)
    c.commit.ensures.run
    tt own.ledger (with_mark own.marks.marks m) own.rows.rows own.fresh c.in_ok-commit.ensures.cause refl
    (λ observed. rw (c.commit.ensures.contents observed own.ledger.entries) refl)
    (λ observed h. c.in_ok-commit.ensures.keeps observed own.ledger.slots _ h))

pub invariant_of-self-in_err-commit : goal.invariant_of-self-in_err-commit
invariant_of-self-in_err-commit g c =
    let own = c.self.inside in
    kept_anew own.ledger own.ledger own.marks c.reserve.new.self own.rows own.rows own.fresh own.fresh own.log c.commit.new.log own.buffer _ _ _
    c.self.invariant refl (c.in_err-commit.ensures.err ∙ rw c.reserve.ensures.marks c.self.invariant.kept)
    (rw c.reserve.ensures.marks c.self.invariant.within) c.self.invariant.room c.commit.ensures.size refl

pub invariant_of-self-2 : goal.invariant_of-self-2
invariant_of-self-2 g c =
    let own = c.self.inside in
    let m : Mark = record { kind = c.args.kind; cell = c.args.cell } in
    let room : length own.marks.marks + length own.rows.rows < marks_limit =
    room_left (length own.marks.marks + length own.rows.rows) c.self.invariant.within
    (rw (← c.self.view_is) at (sym c.is_marks_full.ensures.full ∙ c.if-is_marks_full.false)) in
    kept_anew own.ledger own.ledger own.marks c.set_reserved.new.self own.rows own.rows own.fresh own.fresh own.log c.commit.new.log own.buffer _ _ _
    c.self.invariant refl (c.in_ok-commit.ensures.ok ∙ ap (λ (k : Kept). kept_after k (records.Mark c.args.kind c.args.cell)) c.self.invariant.kept
    ∙ ap (λ (ms : List Mark). record { entries = own.ledger.entries; marks = ms; rows = own.rows.rows; fresh = own.fresh })
    (sym (c.set_reserved.ensures ∙ ap (λ (ms : List Mark). with_mark ms m) c.reserve.ensures.marks)))
    (rw (c.set_reserved.ensures, c.reserve.ensures.marks) (mark_fits 0 (kept_as own.ledger own.marks.marks own.rows.rows own.fresh) m room).0.1)
    c.self.invariant.room c.commit.ensures.size refl
