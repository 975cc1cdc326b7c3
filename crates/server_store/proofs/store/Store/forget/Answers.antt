use Rattle.std.proofs.Common.{◌≡◌, ◌∙◌, true, false, [], ◌∷◌, Ok, refl, sym, List, ap, arith}
use Rattle.client_rows.specs.Rows.{has_rows, is_on}
use Rattle.data_device.specs.declared.record.StoreRecord.TheVariants as records
use Rattle.server_store.specs.Holdings.{kept_in}
use Rattle.server_store.proofs.Changes.{listed_still}
use Rattle.server_store.proofs.Steps.{done, idle, kept_anew, kept_as, kept_still, ok_fine, refused, view_of}
use Rattle.server_store.proofs.Needed.{forget_changes, forget_fits, none_goes}
use Rattle.data_device.specs.Kept.{Kept, kept_after}
use Rattle.client_rows.specs.declared.row.Row.{Row}
use Rattle.server_store.proofs.store.Store.forget.Goals as goal

pub returns-then-not-has-clause-ok : goal.returns-then-not-has-clause-ok
returns-then-not-has-clause-ok g c =
    let rows = c.self.inside.rows.rows in
    let none : has_rows c.args.map c.args.link rows ≡ false = sym c.has.ensures ∙ c.if-not-has.true in
    rw (← c.self.view_is) (sym (none_goes (is_on c.args.map c.args.link) rows none))

pub returns-then-not-has-clause-committed : goal.returns-then-not-has-clause-committed
returns-then-not-has-clause-committed g c =
    let laws = g.met.D.Disk g.world.𝓛 g.world.𝓜 g.world.𝓡 ((λ s x. x), (λ x. x), (λ x. x), λ x. x) in
    let own = c.self.inside in
    rw (← c.self.view_is)
    (idle g.D.Disk own.ledger own.marks.marks own.rows.rows own.fresh own.log own.disk c.self.invariant.kept (Ok tt) own.ledger.tickets _ []
    (laws.only_now own.disk) (laws.stays own.disk) (ok_fine tt))

pub commit-requires-clause-fits : goal.commit-requires-clause-fits
commit-requires-clause-fits g c _ _ slots =
    let own = c.self.inside in
    rw c.self.invariant.kept (forget_fits slots (kept_as own.ledger own.marks.marks own.rows.rows own.fresh) c.args.map c.args.link c.self.invariant.within)

pub returns-in_err-commit-clause-listed : goal.returns-in_err-commit-clause-listed
returns-in_err-commit-clause-listed g c = rw (← c.self.view_is) (listed_still _ _ c.self.inside.ledger.entries)

pub returns-clause-listed : goal.returns-clause-listed
returns-clause-listed g c = rw (← c.self.view_is) (listed_still _ _ c.self.inside.ledger.entries)

pub returns-in_err-commit-clause-committed : goal.returns-in_err-commit-clause-committed
returns-in_err-commit-clause-committed g c =
    let own = c.self.inside in
    let there : has_rows c.args.map c.args.link own.rows.rows ≡ true = sym c.has.ensures ∙ c.if-not-has.false in
    rw (← c.self.view_is, there) (refused g.D.Disk own.ledger own.marks.marks own.rows.rows own.fresh own.log own.disk c.self.invariant.kept
    (records.Forget c.args.map c.args.link ∷ []) [] c.commit.new.log c.commit.new.disk (forget_changes
    (kept_in (view_of g.D.Disk own.ledger own.marks.marks own.rows.rows own.fresh own.log own.disk)) c.args.map c.args.link there) c.commit.ensures.fresh
    (λ observed h. c.commit.ensures.either observed own.ledger.slots _ h) (λ observed h. c.commit.ensures.any_moment observed own.ledger.slots _ h)
    c.commit.ensures.run
    c.in_err-commit.field-0.0 c.from_residual.result c.from_residual.ensures c.in_err-commit.ensures.cause)

pub returns-clause-committed : goal.returns-clause-committed
returns-clause-committed g c =
    let own = c.self.inside in
    let there : has_rows c.args.map c.args.link own.rows.rows ≡ true = sym c.has.ensures ∙ c.if-not-has.false in
    rw (← c.self.view_is, there) (done g.D.Disk own.ledger own.marks.marks own.rows.rows own.fresh own.log own.disk c.self.invariant.kept
    (records.Forget c.args.map c.args.link ∷ []) [] c.commit.new.log c.commit.new.disk (forget_changes
    (kept_in (view_of g.D.Disk own.ledger own.marks.marks own.rows.rows own.fresh own.log own.disk)) c.args.map c.args.link there) c.commit.ensures.fresh
    (λ observed h. c.commit.ensures.either observed own.ledger.slots _ h) (λ observed h. c.commit.ensures.any_moment observed own.ledger.slots _ h)
    c.commit.ensures.run
    tt own.ledger own.marks.marks c.drop_link.new.self.rows own.fresh c.in_ok-commit.ensures.cause refl
    (λ observed. rw (c.drop_link.ensures.rows, c.commit.ensures.contents observed own.ledger.entries) refl)
    (λ observed h. c.in_ok-commit.ensures.keeps observed own.ledger.slots _ h))

pub invariant_of-self : goal.invariant_of-self
invariant_of-self g c =
    let own = c.self.inside in
    kept_still own.ledger own.marks own.rows own.fresh own.log c.commit.new.log own.buffer _ _ _ c.self.invariant c.in_err-commit.ensures.err
    c.commit.ensures.size refl

pub invariant_of-self-2 : goal.invariant_of-self-2
invariant_of-self-2 g c =
    let own = c.self.inside in
    kept_anew own.ledger own.ledger own.marks own.marks own.rows c.drop_link.new.self own.fresh own.fresh own.log c.commit.new.log own.buffer _ _ _
    c.self.invariant refl (c.in_ok-commit.ensures.ok ∙ ap (λ (k : Kept). kept_after k (records.Forget c.args.map c.args.link)) c.self.invariant.kept
    ∙ ap (λ (rs : List Row). record { entries = own.ledger.entries; marks = own.marks.marks; rows = rs; fresh = own.fresh }) (sym c.drop_link.ensures.rows))
    (rw c.drop_link.ensures.rows (forget_fits 0 (kept_as own.ledger own.marks.marks own.rows.rows own.fresh) c.args.map c.args.link
    c.self.invariant.within).0.1) (omega (arith, c.self.invariant.room, c.drop_link.ensures.spare)) c.commit.ensures.size refl
