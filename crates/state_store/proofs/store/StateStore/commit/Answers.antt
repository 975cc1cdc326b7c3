use Rattle.std.proofs.Common.{◌≡◌, ◌++◌, ◌∷◌, [], List, inl, inr, ap, refl, subst, ◌∙◌}
use Rattle.petal_disk.specs.Disk.{LeavesOnly}
use Rattle.spec_paxos.proofs.Committed.{commits_is}
use Rattle.spec_paxos.specs.declared.record.StateRecord.{StateRecord}
use Rattle.state_store.specs.Device.{Keeping, StandsForEither}
use Rattle.spec_paxos.specs.Kept.{row_of}
use Rattle.state_store.specs.Rows.{row_at}
use Rattle.state_store.proofs.Adds.{still_nothing, adds_something, on_ok, one_more}
use Rattle.state_store.proofs.store.StateStore.commit.Goals as goal

pub returns-then-keeps-clause-ok : goal.returns-then-keeps-clause-ok
returns-then-keeps-clause-ok g c =
    let is : row_at c.self.inside.places c.args.place ≡ row_of c.args.self.now.records c.args.place = c.self.invariant.0 c.args.place
    ∙ ap (λ (s : Keeping g.row.D.Denot). row_of s.records c.args.place) c.self.view_is in
    inl (still_nothing c.args.self.now.records c.args.entry.now c.args.place c.requires.here c.requires.inc _ is (c.keeps.ensures.same c.if-keeps.true), refl)

pub returns-then-keeps-clause-full_comes : goal.returns-then-keeps-clause-full_comes
returns-then-keeps-clause-full_comes g c all needed =
    let is : row_at c.self.inside.places c.args.place ≡ row_of c.args.self.now.records c.args.place = c.self.invariant.0 c.args.place
    ∙ ap (λ (s : Keeping g.row.D.Denot). row_of s.records c.args.place) c.self.view_is in
    absurd (needed
    (still_nothing c.args.self.now.records c.args.entry.now c.args.place c.requires.here c.requires.inc _ is (c.keeps.ensures.same c.if-keeps.true)))

pub returns-clause-ok : goal.returns-clause-ok
returns-clause-ok g c =
    let is : row_at c.self.inside.places c.args.place ≡ row_of c.args.self.now.records c.args.place = c.self.invariant.0 c.args.place
    ∙ ap (λ (s : Keeping g.row.D.Denot). row_of s.records c.args.place) c.self.view_is in
    on_ok c.add.result _ _ (λ more.
    inr (adds_something c.args.self.now.records c.args.entry.now c.args.place _ is (c.keeps.ensures.apart c.if-keeps.false), more)) c.add.ensures.ok

pub returns-clause-full : goal.returns-clause-full
returns-clause-full g c is_full =
    let is : row_at c.self.inside.places c.args.place ≡ row_of c.args.self.now.records c.args.place = c.self.invariant.0 c.args.place
    ∙ ap (λ (s : Keeping g.row.D.Denot). row_of s.records c.args.place) c.self.view_is in
    let full = c.add.ensures.full is_full in
    (full.0, adds_something c.args.self.now.records c.args.entry.now c.args.place _ is (c.keeps.ensures.apart c.if-keeps.false), full.1)

pub returns-clause-any_moment : goal.returns-clause-any_moment
returns-clause-any_moment g c observed holds =
    let is : row_at c.self.inside.places c.args.place ≡ row_of c.args.self.now.records c.args.place = c.self.invariant.0 c.args.place
    ∙ ap (λ (s : Keeping g.row.D.Denot). row_of s.records c.args.place) c.self.view_is in
    let changes = adds_something c.args.self.now.records c.args.entry.now c.args.place _ is (c.keeps.ensures.apart c.if-keeps.false) in
    subst (λ (after : List StateRecord). LeavesOnly g.D.Disk.moment g.D.Disk.left_since c.args.self.now.disk c.add.new.self.disk
    (StandsForEither c.args.self.now.records after))
    (commits_is c.args.self.now.records (c.args.self.now.records ++ c.args.entry.now ∷ []) c.args.entry.now (inr (changes, refl)))
    (one_more g.D.Disk c.args.self.now.disk c.add.new.self.disk c.args.self.now.records c.args.entry.now (c.add.ensures.any_moment observed holds))
