use Rattle.std.proofs.Common.{◌∙◌, ◌*◌, inr, List, ℕ, [], ◌∷◌, arith, ap, subst}
use Rattle.block_journal.proofs.Gates.{shut_still}
use Rattle.state_store.proofs.Devices.{IsPlaced, placed, first_record}
use Rattle.state_store.proofs.device.write_first.Goals as goal
use Rattle.state_store.specs.Device.{JournalStands}

pub returns-in_err-append-clause-any_moment : goal.returns-in_err-append-clause-any_moment
returns-in_err-append-clause-any_moment g c observed =
    let j = c.in_ok-journal.journal in
    let at : IsPlaced j = record { base = ap (λ r. r.base) c.in_ok-journal.ensures.region; limit = ap (λ r. r.limit) c.in_ok-journal.ensures.region } in
    let base = at.base in
    first_record g.D.Disk.moment g.D.Disk.left_since c.args.disk.now c.format_after_gate.new.disk c.append.new.disk _ _ _ c.body_of.result j
    at (c.in_ok-journal.ensures.durable observed) (c.in_ok-journal.ensures.shut observed)
    (c.format_after_gate.ensures.any_moment observed) (c.append.ensures.any_moment observed [] (c.in_ok-journal.ensures.stored observed))

pub returns-in_err-append-clause-either : goal.returns-in_err-append-clause-either
returns-in_err-append-clause-either g c observed =
    let j = c.in_ok-journal.journal in
    let at : IsPlaced j = record { base = ap (λ r. r.base) c.in_ok-journal.ensures.region; limit = ap (λ r. r.limit) c.in_ok-journal.ensures.region } in
    let base = at.base in
    inr (shut_still j.base (128 * j.limit) _ _ (omega arith) (c.append.ensures.outside observed) (c.in_ok-journal.ensures.shut observed))

pub returns-clause-any_moment : goal.returns-clause-any_moment
returns-clause-any_moment g c observed =
    let j = c.in_ok-journal.journal in
    let at : IsPlaced j = record { base = ap (λ r. r.base) c.in_ok-journal.ensures.region; limit = ap (λ r. r.limit) c.in_ok-journal.ensures.region } in
    let base = at.base in
    first_record g.D.Disk.moment g.D.Disk.left_since c.args.disk.now c.format_after_gate.new.disk c.append.new.disk _ _ _ c.body_of.result j
    at (c.in_ok-journal.ensures.durable observed) (c.in_ok-journal.ensures.shut observed)
    (c.format_after_gate.ensures.any_moment observed) (c.append.ensures.any_moment observed [] (c.in_ok-journal.ensures.stored observed))

pub returns-clause-either : goal.returns-clause-either
returns-clause-either g c observed =
    let j = c.in_ok-journal.journal in
    let at : IsPlaced j = record { base = ap (λ r. r.base) c.in_ok-journal.ensures.region; limit = ap (λ r. r.limit) c.in_ok-journal.ensures.region } in
    let base = at.base in
    inr (shut_still j.base (128 * j.limit) _ _ (omega arith) (c.append.ensures.outside observed) (c.in_ok-journal.ensures.shut observed))

pub returns-clause-shut : goal.returns-clause-shut
returns-clause-shut g c observed =
    let j = c.in_ok-journal.journal in
    let at : IsPlaced j = record { base = ap (λ r. r.base) c.in_ok-journal.ensures.region; limit = ap (λ r. r.limit) c.in_ok-journal.ensures.region } in
    let base = at.base in
    shut_still j.base (128 * j.limit) _ _ (omega arith) (c.append.ensures.outside observed) (c.in_ok-journal.ensures.shut observed)

pub returns-clause-stands : goal.returns-clause-stands
returns-clause-stands g c observed =
    let place = c.append.ensures.place in
    let region = c.in_ok-journal.ensures.region in
    let at : IsPlaced c.append.new.self = record { base = place.0 ∙ ap (λ r. r.base) region; limit = place.1 ∙ ap (λ r. r.limit) region } in
    let now = (c.in_ok-append.ensures.appended observed [] (c.in_ok-journal.ensures.stored observed)).now in
    subst (λ (body : List ℕ). JournalStands (g.D.Disk.seen c.append.new.disk) (body ∷ [])) c.body_of.ensures.spelled
    (placed c.append.new.self _ _ at now)
