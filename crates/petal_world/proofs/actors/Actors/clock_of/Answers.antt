-- The clock is that of the world, where the actor may take a step.
use Rattle.std.proofs.Common.{sym, ap, ◌∙◌}
use Rattle.std.specs.Prelude.{slice_get}
use Rattle.server_host.specs.Desks.{Equipped}
use Rattle.petal_world.specs.Actors.{Actors}
use Rattle.petal_world.proofs.Acting.{server_clock_missing, server_clock_is, client_clock_is}
use Rattle.petal_world.proofs.actors.Actors.clock_of.Goals as goal

pub returns-in-None : goal.returns-in-None
returns-in-None g c = λ setting w what h may.
    server_clock_missing setting w c.args.self.now c.args.actor what h may c.in-Server.server c.in-Server.is
    (ap (λ (k : Actors). slice_get k.desks c.in-Server.server) (sym c.self.view_is) ∙ sym c.in-None.ensures)

pub returns-in-Some : goal.returns-in-Some
returns-in-Some g c = λ setting w what h may.
    ap (λ (d : Equipped). d.desk.clock) c.desk.view_is
    ∙ server_clock_is setting w c.args.self.now c.args.actor what h may c.in-Server.server c.in-Some.desk.now c.in-Server.is
    (ap (λ (k : Actors). slice_get k.desks c.in-Server.server) (sym c.self.view_is) ∙ sym c.in-Some.ensures)

pub returns-in-Some-get : goal.returns-in-Some-get
returns-in-Some-get g c = λ setting w what h may.
    client_clock_is setting w c.args.self.now c.args.actor what h may c.in-Client.client c.in-Some-get.seat.now c.in-Client.is
    (ap (λ (k : Actors). slice_get k.seats c.in-Client.client) (sym c.self.view_is) ∙ sym c.in-Some-get.ensures)
