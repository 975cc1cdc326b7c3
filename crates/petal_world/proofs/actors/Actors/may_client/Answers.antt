-- A client may take a step where nothing hinders it.
use Rattle.std.proofs.Common.{◌<◌, sym, ap, ◌∙◌, subst}
use Rattle.std.specs.Prelude.{slice_get}
use Rattle.spec_rules.specs.World.{greatest_u64}
use Rattle.petal_world.specs.Actors.{Actors}
use Rattle.petal_world.proofs.Allowed.{hindered, client_exact, client_spent, client_late, seat_is}
use Rattle.petal_world.proofs.actors.Actors.may_client.Goals as goal

pub returns-then-seat-ge-LAST : goal.returns-then-seat-ge-LAST
returns-then-seat-ge-LAST g c = λ setting w ordered h.
    let at = ap (λ (k : Actors). slice_get k.seats c.args.client) (sym c.self.view_is) ∙ sym c.in-Some.ensures in
    hindered (client_late setting w c.args.self.now c.args.client c.args.step.now c.in-Some.seat.now h at c.if-seat-ge-LAST.true)

pub returns-then-spent : goal.returns-then-spent
returns-then-spent g c = λ setting w ordered h.
    let at = ap (λ (k : Actors). slice_get k.seats c.args.client) (sym c.self.view_is) ∙ sym c.in-Some.ensures in
    hindered (client_spent setting w c.args.self.now c.args.client c.args.step.now c.in-Some.seat.now h at (sym c.spent.ensures ∙ c.if-spent.true))

pub returns : goal.returns
returns g c = λ setting w ordered h.
    let at = ap (λ (k : Actors). slice_get k.seats c.args.client) (sym c.self.view_is) ∙ sym c.in-Some.ensures in
    let is = seat_is setting w c.args.self.now c.args.client c.args.step.now c.in-Some.seat.now h at in
    let receives = subst (λ s. s < greatest_u64) c.received.ensures c.if-received-ge-LAST.false in
    client_exact setting w c.args.self.now c.args.client c.args.step.now c.in-Some.seat.now h
    at c.may_react.result c.if-seat-ge-LAST.false receives (sym c.spent.ensures ∙ c.if-spent.false) (c.may_react.ensures setting w ordered h is)
