-- The seat's next line is the client's.
use Rattle.std.proofs.Common.{sym, ap, ◌∙◌, Option}
use Rattle.std.specs.Prelude.{slice_get}
use Rattle.script_lines.specs.declared.request.Line.{Line}
use Rattle.spec_rules.specs.declared.step.Step.TheVariants.{Tick}
use Rattle.petal_world.specs.declared.seat.Seat.{Seat}
use Rattle.petal_world.specs.Steps.{phase_of}
use Rattle.petal_world.specs.Actors.{Actors}
use Rattle.petal_world.proofs.Allowed.{seat_is}
use Rattle.petal_world.proofs.actors.Actors.line_phase.Goals as goal

pub returns-in-None : goal.returns-in-None
returns-in-None g c = λ setting w h within.
    let at = ap (λ (k : Actors). slice_get k.seats c.args.client) (sym c.self.view_is) ∙ sym c.in-Some.ensures in
    let is = seat_is setting w c.args.self.now c.args.client Tick c.in-Some.seat.now h at in
    let none = ap (λ (s : Seat). slice_get s.lines s.core.client.seq) (sym is) ∙ sym c.in-None.ensures in
    ap (λ (o : Option Line). phase_of o c.args.phase) (sym none)

pub returns-in-Some-next_line : goal.returns-in-Some-next_line
returns-in-Some-next_line g c = λ setting w h within.
    let at = ap (λ (k : Actors). slice_get k.seats c.args.client) (sym c.self.view_is) ∙ sym c.in-Some.ensures in
    let is = seat_is setting w c.args.self.now c.args.client Tick c.in-Some.seat.now h at in
    let some = ap (λ (s : Seat). slice_get s.lines s.core.client.seq) (sym is) ∙ sym c.in-Some-next_line.ensures in
    ap (λ (o : Option Line). phase_of o c.args.phase) (sym some)
