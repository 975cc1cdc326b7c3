use Rattle.std.proofs.Common.{◌∙◌, List, ℕ, sym, ap, subst}
use Rattle.block_journal.specs.Halves.{Stored}
use Rattle.block_journal.specs.Records.{contents}
use Rattle.data_device.specs.Device.{IsJournalOf, Log, bodies_of}
use Rattle.data_device.specs.Found.{IsGoodError}
use Rattle.data_device.specs.Reading.{IsBad}
use Rattle.data_device.proofs.Devices.{list_of_stored, opened_device}
use Rattle.data_device.proofs.opening.read_journal.Goals as goal

pub returns-in-Ok-clause-same : goal.returns-in-Ok-clause-same
returns-in-Ok-clause-same g c records spelled observed list =
    let only = (rw c.in-Some.is at c.in_ok-halves.ensures.only) observed (bodies_of records) list in
    ap (λ (l : Log). l.records) c.put_together.ensures.log ∙ c.in-Ok.ensures.same records spelled (ap contents c.deref.ensures.value ∙ only)

pub returns-in-Ok-clause-logs : goal.returns-in-Ok-clause-logs
returns-in-Ok-clause-logs g c records observed stands =
    let only = (rw c.in-Some.is at c.in_ok-halves.ensures.only) observed (bodies_of records) stands.stands in
    let stored = (rw c.in-Some.is at c.in_ok-halves.ensures.stored) observed in
    let same = c.in-Ok.ensures.same records stands.spelled (ap contents c.deref.ensures.value ∙ only) in
    let log = c.put_together.ensures.log in
    let place = rw c.in-Some.is at c.in_ok-halves.ensures.place in
    opened_device c.args.said.slots c.args.said.fresh records c.put_together.result.log _ _ _ _ (ap (λ (l : Log). l.halves.base) log ∙ place.0)
    (ap (λ (l : Log). l.fresh) log)
    (ap (λ (l : Log). l.records) log ∙ same) only c.open.ensures.seen (c.in_ok-halves.ensures.durable observed)
    (subst (λ (l : Log). Stored l.halves (g.D.Disk.seen c.open.new.disk) (g.D.Disk.may_leave c.open.new.disk) (contents c.in-Some.bodies.items))
    (sym log) stored)
    stands

pub returns-clause-bad : goal.returns-clause-bad
returns-clause-bad g c index is observed =
    let place = rw c.in-Some.is at c.in_ok-halves.ensures.place in
    let stored = (rw c.in-Some.is at c.in_ok-halves.ensures.stored) observed in
    record {
      bodies = contents c.in-Some.bodies.items;
      list = subst (λ (f : List ℕ). IsJournalOf f (contents c.in-Some.bodies.items)) c.open.ensures.seen (list_of_stored _ _ _ _ place.0 stored);
      bad = subst (λ (bs : List (List ℕ)). IsBad c.args.said.slots c.args.said.fresh bs index) (ap contents c.deref.ensures.value)
          (c.in-Err.ensures.bad index is);
    }

pub returns-clause-good : goal.returns-clause-good
returns-clause-good g c records observed stands =
    let only = (rw c.in-Some.is at c.in_ok-halves.ensures.only) observed (bodies_of records) stands.stands in
    subst IsGoodError (sym (c.in-Err.ensures.good records stands.spelled stands.fit (ap contents c.deref.ensures.value ∙ only))) tt
