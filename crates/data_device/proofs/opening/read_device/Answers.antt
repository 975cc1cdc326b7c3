use Rattle.std.proofs.Common.{◌≡◌, ◌≤◌, ◌∙◌, Bool, List, ℕ, Option, None, Some, Result, Ok, Err, inl, inr, refl, sym, subst, take, arith}
use Rattle.std.specs.Option.{IfNone}
use Rattle.std.specs.Result.{IfErr, IsErr, IsErrAnd}
use Rattle.block_journal.specs.Heads.{NoHeadCounts}
use Rattle.block_journal.proofs.Lists.{no_head_no_list}
use Rattle.petal_base.specs.Limits.{max_slots}
use Rattle.data_device.specs.Device.{Logs, StandsFor, header, header_bytes, journal_base}
use Rattle.data_device.specs.Found.{IsGoodError}
use Rattle.data_device.specs.Reading.{IsBadOn, IsBlank}
use Rattle.data_device.specs.declared.error.StoreError.TheVariants as error
use Rattle.data_device.proofs.Devices.{stands_here}
use Rattle.data_device.proofs.opening.read_device.Goals as goal

none_holds : {X : Type 0} (o : Option X) {P : Type 0} → ((x : X) → o ≡ Some x → ⊥) → IfNone o P → P
none_holds None none holds = holds
none_holds (Some x) none holds = absurd (none x refl)

-- what holds of an error holds of the result that has it
of_error : {T E : Type 0} (P : E → Type 0) (e : E) (result : Result T E) → IsErr result × IsErrAnd result (λ it. it ≡ e) → P e → IfErr result P
of_error P e (Ok value) is holds = tt
of_error P e (Err it) is holds = subst P (sym is.1) holds

pub returns-in_default-clause-blank : goal.returns-in_default-clause-blank
returns-in_default-clause-blank g c observed = inl (none_holds c.in_ok-said.field-0 c.in_default.not-Some c.in_ok-said.ensures.blank observed)

pub returns-in_err-found-clause-bad : goal.returns-in_err-found-clause-bad
returns-in_err-found-clause-bad g c index slots fresh =
    let d = g.D.Disk in
    of_error (λ e. e ≡ error.BadRecord index → d.observable → slots ≤ max_slots → take header_bytes (d.seen c.args.disk.now) ≡ header slots fresh
    → IsBadOn (d.seen c.args.disk.now) slots fresh index) c.in_err-found.field-0.0 c.from_residual-in_err-found.result c.from_residual-in_err-found.ensures
    (λ is observed few head.
    let same = (rw c.in-Some.is at c.in_ok-said.ensures.only slots fresh) observed few head in
    let bad = c.in_err-found.ensures.bad index is observed in
    subst (λ (f : List ℕ). IsBadOn f slots fresh index) c.read_header.ensures.device.same_seen
    (subst (λ (b : Bool). IsBadOn (d.seen c.read_header.new.disk) slots b index) same.1
    (subst (λ (n : ℕ). IsBadOn (d.seen c.read_header.new.disk) n c.in-Some.said.fresh index) same.0 bad)))

pub returns-in_err-found-clause-bad_headed : goal.returns-in_err-found-clause-bad_headed
returns-in_err-found-clause-bad_headed g c index =
    let d = g.D.Disk in
    let said = c.in-Some.said in
    of_error (λ e. e ≡ error.BadRecord index → d.observable → ¬ IsBlank (d.seen c.args.disk.now) (d.size c.args.disk.now))
    c.in_err-found.field-0.0 c.from_residual-in_err-found.result c.from_residual-in_err-found.ensures (λ is observed blank.
    elim blank [
      | inl none ↦
          let head = (rw c.in-Some.is at c.in_ok-said.ensures.found) observed in
          let room = rw c.in-Some.is at c.in_ok-said.ensures.room in
          let few = rw c.in-Some.is at c.in_ok-said.ensures.few in
          let small = none said.slots said.fresh few head in
          omega (arith, small, room)
      | inr none ↦
          let bad = c.in_err-found.ensures.bad index is observed in
          no_head_no_list journal_base _ bad.bodies
          (subst (λ (f : List ℕ). NoHeadCounts journal_base f) (sym c.read_header.ensures.device.same_seen) none) bad.list
    ])

pub returns-in_err-found-clause-good : goal.returns-in_err-found-clause-good
returns-in_err-found-clause-good g c slots fresh records =
    let d = g.D.Disk in
    of_error (λ e. d.observable → StandsFor (d.seen c.args.disk.now) slots fresh records → IsGoodError e) c.in_err-found.field-0.0
    c.from_residual-in_err-found.result c.from_residual-in_err-found.ensures (λ observed stands.
    let same = (rw c.in-Some.is at c.in_ok-said.ensures.only slots fresh) observed stands.few stands.headed in
    c.in_err-found.ensures.good records observed (stands_here _ _ _ _ _ _ records c.read_header.ensures.device.same_seen same.0 same.1 stands))

pub returns-clause-same : goal.returns-clause-same
returns-clause-same g c slots fresh records observed stands =
    let d = g.D.Disk in
    let same = (rw c.in-Some.is at c.in_ok-said.ensures.only slots fresh) observed stands.few stands.headed in
    let here = stands_here _ _ _ _ _ _ records c.read_header.ensures.device.same_seen same.0 same.1 stands in
    let found = rw c.in-Some-2.is at c.in_ok-found.ensures.found in (
      found.slots_are ∙ same.0,
      found.fresh_is ∙ same.1,
      (rw c.in-Some-2.is at c.in_ok-found.ensures.same records stands.spelled) observed here.stands,
      subst (λ (n : ℕ). Logs n c.in-Some-2.found.log (d.seen c.read_journal.new.disk) (d.may_leave c.read_journal.new.disk)) same.0
          ((rw c.in-Some-2.is at c.in_ok-found.ensures.logs records) observed here),
    )
