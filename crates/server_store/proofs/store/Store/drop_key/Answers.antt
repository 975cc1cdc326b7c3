use Rattle.std.proofs.Common.{◌≡◌, ◌∙◌, ℕ, List, true, [], ◌∷◌, Ok, is_some, map, refl, sym, ap}
use Rattle.physical_map.specs.declared.entry.Entry.{Entry}
use Rattle.physical_map.specs.Entries.{slot_of, without_key}
use Rattle.data_device.specs.declared.record.StoreRecord.TheVariants as records
use Rattle.server_store.specs.Holdings.{Held, held_in, kept_in, listed}
use Rattle.server_store.proofs.Changes.{listed_still, none_is, not_held, not_there, on_err}
use Rattle.server_store.proofs.Steps.{done, idle, kept_anew, kept_as, kept_still, ok_fine, refused, view_of}
use Rattle.server_store.specs.Shown.{Picture}
use Rattle.server_store.proofs.Contents.{is_listed, listed-held, map-without}
use Rattle.server_store.proofs.Needed.{drop_changes, drop_fits}
use Rattle.data_device.specs.Kept.{Kept, kept_after}
use Rattle.server_store.proofs.store.Store.drop_key.Goals as goal

pub returns-then-not-has_key-clause-ok : goal.returns-then-not-has_key-clause-ok
returns-then-not-has_key-clause-ok g c = sym (not_there (listed c.args.self.now.entries) c.args.key (none_is _ (sym c.has_key.ensures ∙ c.if-not-has_key.true)))

pub returns-then-not-has_key-clause-content : goal.returns-then-not-has_key-clause-content
returns-then-not-has_key-clause-content g c observed =
    sym (not_held c.args.self.now.entries c.args.key (none_is _ (sym c.has_key.ensures ∙ c.if-not-has_key.true)))

pub returns-then-not-has_key-clause-committed : goal.returns-then-not-has_key-clause-committed
returns-then-not-has_key-clause-committed g c =
    let laws = g.met.D.Disk g.world.𝓛 g.world.𝓜 g.world.𝓡 ((λ s x. x), (λ x. x), (λ x. x), λ x. x) in
    let own = c.self.inside in
    rw (← c.self.view_is)
    (idle g.D.Disk own.ledger own.marks.marks own.rows.rows own.fresh own.log own.disk c.self.invariant.kept (Ok tt) own.ledger.tickets _ []
    (laws.only_now own.disk) (laws.stays own.disk) (ok_fine tt))

pub commit-requires-clause-fits : goal.commit-requires-clause-fits
commit-requires-clause-fits g c _ _ slots =
    let own = c.self.inside in
    rw c.self.invariant.kept (drop_fits slots (kept_as own.ledger own.marks.marks own.rows.rows own.fresh) c.args.key c.self.invariant.within)

pub returns-in_err-commit-clause-listed : goal.returns-in_err-commit-clause-listed
returns-in_err-commit-clause-listed g c = on_err c.from_residual.result
    _ (rw (← c.self.view_is) (listed_still (g.D.Disk.seen c.self.inside.disk) (g.D.Disk.seen c.commit.new.disk) c.self.inside.ledger.entries))

pub returns-clause-ok : goal.returns-clause-ok
returns-clause-ok g c =
    let x = g.D.Disk.seen c.self.inside.disk in
    let y = g.D.Disk.seen c.commit.new.disk in
    let es = c.self.inside.ledger.entries in
    rw (c.drop_key.ensures, ← c.self.view_is) (listed-held y (without_key es c.args.key) ∙ ap (λ (l : List Entry). without_key l c.args.key) (is_listed x es))

pub returns-clause-content : goal.returns-clause-content
returns-clause-content g c observed =
    let x = g.D.Disk.seen c.self.inside.disk in
    let es = c.self.inside.ledger.entries in
    rw (c.drop_key.ensures, c.commit.ensures.contents observed (without_key es c.args.key), ← c.self.view_is) (map-without x es c.args.key)

pub returns-in_err-commit-clause-committed : goal.returns-in_err-commit-clause-committed
returns-in_err-commit-clause-committed g c =
    let own = c.self.inside in
    let there : is_some (slot_of (listed (map (held_in (g.D.Disk.seen own.disk)) own.ledger.entries)) c.args.key) ≡ true =
    rw (← c.self.view_is) at (sym c.has_key.ensures ∙ c.if-not-has_key.false) in
    rw (← c.self.view_is, there) (refused g.D.Disk own.ledger own.marks.marks own.rows.rows own.fresh own.log own.disk c.self.invariant.kept
    (records.Drop c.args.key ∷ []) [] c.commit.new.log c.commit.new.disk
    (drop_changes (kept_in (view_of g.D.Disk own.ledger own.marks.marks own.rows.rows own.fresh own.log own.disk)) c.args.key there) c.commit.ensures.fresh
    (λ observed h. c.commit.ensures.either observed own.ledger.slots _ h) (λ observed h. c.commit.ensures.any_moment observed own.ledger.slots _ h)
    c.commit.ensures.run
    c.in_err-commit.field-0.0 c.from_residual.result c.from_residual.ensures c.in_err-commit.ensures.cause)

pub returns-clause-committed : goal.returns-clause-committed
returns-clause-committed g c =
    let own = c.self.inside in
    let there : is_some (slot_of (listed (map (held_in (g.D.Disk.seen own.disk)) own.ledger.entries)) c.args.key) ≡ true =
    rw (← c.self.view_is) at (sym c.has_key.ensures ∙ c.if-not-has_key.false) in
    rw (← c.self.view_is, there, c.drop_key.ensures) (done g.D.Disk own.ledger own.marks.marks own.rows.rows own.fresh own.log own.disk c.self.invariant.kept
    (records.Drop c.args.key ∷ []) [] c.commit.new.log c.commit.new.disk
    (drop_changes (kept_in (view_of g.D.Disk own.ledger own.marks.marks own.rows.rows own.fresh own.log own.disk)) c.args.key there) c.commit.ensures.fresh
    (λ observed h. c.commit.ensures.either observed own.ledger.slots _ h) (λ observed h. c.commit.ensures.any_moment observed own.ledger.slots _ h)
    c.commit.ensures.run
    tt (record own.ledger { entries = without_key own.ledger.entries c.args.key }) own.marks.marks own.rows.rows own.fresh c.in_ok-commit.ensures.cause refl
    (λ observed. let es = own.ledger.entries in
    ap (λ (hs : List Held). record { entries = hs; marks = own.marks.marks; rows = own.rows.rows; fresh = own.fresh })
    (sym (c.commit.ensures.contents observed (without_key es c.args.key) ∙ map-without (g.D.Disk.seen own.disk) es c.args.key)))
    (λ observed h. c.in_ok-commit.ensures.keeps observed own.ledger.slots _ h))

pub invariant_of-self : goal.invariant_of-self
invariant_of-self g c =
    let own = c.self.inside in
    kept_still own.ledger own.marks own.rows own.fresh own.log c.commit.new.log own.buffer _ _ _ c.self.invariant c.in_err-commit.ensures.err
    c.commit.ensures.size refl

pub invariant_of-self-2 : goal.invariant_of-self-2
invariant_of-self-2 g c =
    let own = c.self.inside in
    rw c.drop_key.ensures (kept_anew own.ledger (record own.ledger { entries = without_key own.ledger.entries c.args.key }) own.marks own.marks own.rows
    own.rows own.fresh own.fresh own.log c.commit.new.log own.buffer _ _ _
    c.self.invariant refl (c.in_ok-commit.ensures.ok ∙ ap (λ (k : Kept). kept_after k (records.Drop c.args.key)) c.self.invariant.kept)
    (c.self.invariant.within) c.self.invariant.room c.commit.ensures.size refl)
