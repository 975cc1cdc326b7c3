use Rattle.std.proofs.Common.{◌≡◌, ◌∙◌, ◌<◌, ℕ, List, [], fold, length, map, take, Ok, refl, sym, ap, arith}
use Rattle.busy_marks.specs.declared.marks.Mark.{Mark}
use Rattle.data_device.specs.Kept.{Kept, kept_after}
use Rattle.data_device.specs.declared.record.StoreRecord.{StoreRecord}
use Rattle.server_store.specs.Committing.{unmarked, unmarks_of}
use Rattle.server_store.specs.Holdings.{Held, held_in, kept_in}
use Rattle.server_store.proofs.Changes.{listed_still}
use Rattle.server_store.proofs.Needed.{unmarked_fewer, unmarks_all, unmarks_change, unmarks_fit, unmarks_none, unmarks_put_nothing, unmarks_shown}
use Rattle.server_store.proofs.Steps.{done, idle, kept_anew, kept_as, kept_still, ok_fine, refused, view_of}
use Rattle.server_store.proofs.store.Store.unmark_all.Goals as goal

pub returns-then-count-eq0-clause-ok : goal.returns-then-count-eq0-clause-ok
returns-then-count-eq0-clause-ok g c =
    let own = c.self.inside in
    let none : unmarks_of c.args.kind c.args.cells.now own.marks.marks ≡ [] =
    sym c.spell_unmarks-count.ensures.spelled ∙ ap (λ (n : ℕ). take n c.spell_unmarks-count.new.into) c.if-count-eq0.true in
    rw (← c.self.view_is) (sym (unmarks_none c.args.kind own.marks.marks c.args.cells.now none))

pub returns-then-count-eq0-clause-committed : goal.returns-then-count-eq0-clause-committed
returns-then-count-eq0-clause-committed g c =
    let laws = g.met.D.Disk g.world.𝓛 g.world.𝓜 g.world.𝓡 ((λ s x. x), (λ x. x), (λ x. x), λ x. x) in
    let own = c.self.inside in
    rw (← c.self.view_is)
    (idle g.D.Disk own.ledger own.marks.marks own.rows.rows own.fresh own.log own.disk c.self.invariant.kept (Ok tt) own.ledger.tickets _ []
    (laws.only_now own.disk) (laws.stays own.disk) (ok_fine tt))

pub commit-requires-clause-some : goal.commit-requires-clause-some
commit-requires-clause-some g c _ _ =
    let own = c.self.inside in
    let cells = c.args.cells.now in
    let is = c.spell_unmarks-count.ensures.spelled in
    let some : 0 < length (unmarks_of c.args.kind cells own.marks.marks) = omega (arith, c.spell_unmarks-count.ensures.counted, c.if-count-eq0.false) in
    rw is some

pub commit-requires-clause-few : goal.commit-requires-clause-few
commit-requires-clause-few g c _ _ =
    rw c.spell_unmarks-count.ensures.spelled
    (omega (arith, c.spell_unmarks-count.ensures.counted, c.spell_unmarks-count.ensures.few, c.requires))

pub commit-requires-clause-short : goal.commit-requires-clause-short
commit-requires-clause-short g c _ _ =
    rw c.spell_unmarks-count.ensures.spelled
    (omega (arith, c.to_list-list.ensures.short, c.spell_unmarks-count.ensures.counted, c.spell_unmarks-count.ensures.few, c.requires))

pub commit-requires-clause-changes : goal.commit-requires-clause-changes
commit-requires-clause-changes g c _ _ =
    let own = c.self.inside in
    rw c.spell_unmarks-count.ensures.spelled (unmarks_put_nothing c.args.kind own.marks.marks c.args.cells.now)

pub commit-requires-clause-fits : goal.commit-requires-clause-fits
commit-requires-clause-fits g c _ _ slots =
    let own = c.self.inside in
    rw (c.spell_unmarks-count.ensures.spelled, c.self.invariant.kept)
    (unmarks_fit c.args.kind own.marks.marks slots (kept_as own.ledger own.marks.marks own.rows.rows own.fresh) c.args.cells.now c.self.invariant.within)

pub returns-in_err-commit-clause-listed : goal.returns-in_err-commit-clause-listed
returns-in_err-commit-clause-listed g c = rw (← c.self.view_is) (listed_still _ _ c.self.inside.ledger.entries)

pub returns-clause-listed : goal.returns-clause-listed
returns-clause-listed g c = rw (← c.self.view_is) (listed_still _ _ c.self.inside.ledger.entries)

pub returns-in_err-commit-clause-idle : goal.returns-in_err-commit-clause-idle
returns-in_err-commit-clause-idle g c none =
    let own = c.self.inside in
    let cells = c.args.cells.now in
    let is = c.spell_unmarks-count.ensures.spelled in
    let some : 0 < length (unmarks_of c.args.kind cells own.marks.marks) = omega (arith, c.spell_unmarks-count.ensures.counted, c.if-count-eq0.false) in
    let here : unmarks_of c.args.kind cells own.marks.marks ≡ [] = rw (← c.self.view_is) at none in
    absurd (omega (arith, some, ap (λ (rs : List StoreRecord). length rs) here))

pub returns-clause-idle : goal.returns-clause-idle
returns-clause-idle g c none =
    let own = c.self.inside in
    let cells = c.args.cells.now in
    let is = c.spell_unmarks-count.ensures.spelled in
    let some : 0 < length (unmarks_of c.args.kind cells own.marks.marks) = omega (arith, c.spell_unmarks-count.ensures.counted, c.if-count-eq0.false) in
    let here : unmarks_of c.args.kind cells own.marks.marks ≡ [] = rw (← c.self.view_is) at none in
    absurd (omega (arith, some, ap (λ (rs : List StoreRecord). length rs) here))

pub returns-in_err-commit-clause-committed : goal.returns-in_err-commit-clause-committed
returns-in_err-commit-clause-committed g c =
    let own = c.self.inside in
    let cells = c.args.cells.now in
    let is = c.spell_unmarks-count.ensures.spelled in
    let some : 0 < length (unmarks_of c.args.kind cells own.marks.marks) = omega (arith, c.spell_unmarks-count.ensures.counted, c.if-count-eq0.false) in
    rw (← c.self.view_is) (refused g.D.Disk own.ledger own.marks.marks own.rows.rows own.fresh own.log own.disk c.self.invariant.kept
    (unmarks_of c.args.kind cells own.marks.marks) [] c.commit.new.log c.commit.new.disk
    (unmarks_change c.args.kind (kept_in (view_of g.D.Disk own.ledger own.marks.marks own.rows.rows own.fresh own.log own.disk)) cells some)
    c.commit.ensures.fresh (λ observed h. (rw is at c.commit.ensures.either) observed own.ledger.slots _ h)
    (λ observed h. (rw is at c.commit.ensures.any_moment) observed own.ledger.slots _ h) c.commit.ensures.run
    c.in_err-commit.field-0.0 c.from_residual.result c.from_residual.ensures c.in_err-commit.ensures.cause)

pub returns-clause-committed : goal.returns-clause-committed
returns-clause-committed g c =
    let own = c.self.inside in
    let cells = c.args.cells.now in
    let is = c.spell_unmarks-count.ensures.spelled in
    let some : 0 < length (unmarks_of c.args.kind cells own.marks.marks) = omega (arith, c.spell_unmarks-count.ensures.counted, c.if-count-eq0.false) in
    rw (← c.self.view_is) (done g.D.Disk own.ledger own.marks.marks own.rows.rows own.fresh own.log own.disk c.self.invariant.kept
    (unmarks_of c.args.kind cells own.marks.marks) [] c.commit.new.log c.commit.new.disk
    (unmarks_change c.args.kind (kept_in (view_of g.D.Disk own.ledger own.marks.marks own.rows.rows own.fresh own.log own.disk)) cells some)
    c.commit.ensures.fresh (λ observed h. (rw is at c.commit.ensures.either) observed own.ledger.slots _ h)
    (λ observed h. (rw is at c.commit.ensures.any_moment) observed own.ledger.slots _ h) c.commit.ensures.run
    tt own.ledger c.clear_all.new.marks.marks own.rows.rows own.fresh c.in_ok-commit.ensures.cause refl
    (λ observed. rw (c.clear_all.ensures, c.commit.ensures.contents observed own.ledger.entries)
    (unmarks_shown c.args.kind own.marks.marks (map (held_in (g.D.Disk.seen own.disk)) own.ledger.entries) own.marks.marks own.rows.rows own.fresh cells
    (λ m there. there)))
    (λ observed h. (rw is at c.in_ok-commit.ensures.keeps) observed own.ledger.slots _ h))

pub invariant_of-self-2 : goal.invariant_of-self-2
invariant_of-self-2 g c =
    let own = c.self.inside in
    let cells = c.args.cells.now in
    kept_anew own.ledger own.ledger own.marks c.clear_all.new.marks own.rows own.rows own.fresh own.fresh own.log c.commit.new.log own.buffer _ _ _
    c.self.invariant refl ((rw c.spell_unmarks-count.ensures.spelled at c.in_ok-commit.ensures.ok)
    ∙ ap (λ (k : Kept). fold kept_after k (unmarks_of c.args.kind cells own.marks.marks)) c.self.invariant.kept
    ∙ unmarks_all c.args.kind own.marks.marks (kept_as own.ledger own.marks.marks own.rows.rows own.fresh) cells (λ m there. there)
    ∙ ap (λ (ms : List Mark). record { entries = own.ledger.entries; marks = ms; rows = own.rows.rows; fresh = own.fresh }) (sym c.clear_all.ensures))
    (rw c.clear_all.ensures (let fewer = unmarked_fewer c.args.kind own.marks.marks cells in omega (arith, fewer, c.self.invariant.within)))
    c.self.invariant.room c.commit.ensures.size refl
