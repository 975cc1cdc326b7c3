-- The client's write under way is the one that stands at its place.
use Rattle.std.proofs.Common.{sym, ap, ◌∙◌, Some}
use Rattle.spec_machine.specs.declared.state.Open.{Open}
use Rattle.spec_machine.specs.Machine.{is_of}
use Rattle.spec_machine.proofs.Places.{found, not_found, same_some}
use Rattle.spec_machine.proofs.machine.held.Goals as goal

pub returns-in_default-clause-none : goal.returns-in_default-clause-none
returns-in_default-clause-none c h = let e = not_found (is_of c.args.write.now.client) c.args.opened.now (sym c.in_default.is ∙ c.open_place.ensures) in
    let f = h.is in cc

pub returns-then-is_same-clause-some : goal.returns-then-is_same-clause-some
returns-then-is_same-clause-some c =
    found (is_of c.args.write.now.client) c.args.opened.now c.in-Some.place c.index-opened-place.result (sym c.in-Some.is ∙ c.open_place.ensures)
    ∙ ap Some (sym c.index-opened-place.is) ∙ λ i. Some (record { write = c.if-is_same.ensures i; held = c.index-opened-place.result.held })

pub returns-else-is_same-clause-none : goal.returns-else-is_same-clause-none
returns-else-is_same-clause-none c h =
    let at = found (is_of c.args.write.now.client) c.args.opened.now c.in-Some.place c.index-opened-place.result (sym c.in-Some.is ∙ c.open_place.ensures) in
    c.if-is_same.ensures (ap (λ (o : Open). o.write) (c.index-opened-place.is ∙ same_some (sym at ∙ h.is)))
