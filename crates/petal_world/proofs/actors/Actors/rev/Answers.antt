-- The revision is that of the world.
use Rattle.std.proofs.Common.{Some, None, sym, ap, ◌∙◌}
use Rattle.std.specs.Prelude.{slice_get, if◌then◌else◌}
use Rattle.spec_rules.specs.Log.{rev_of}
use Rattle.server_host.specs.Desks.{Equipped}
use Rattle.petal_world.specs.Actors.{Actors}
use Rattle.petal_world.proofs.Revs.{server_rev, server_no_rev, client_rev}
use Rattle.petal_world.proofs.actors.Actors.rev.Goals as goal

pub returns-in-None : goal.returns-in-None
returns-in-None g c = λ setting w h.
    server_no_rev setting w c.args.self.now c.args.actor h c.in-Server.server c.in-Server.is
    (ap (λ (k : Actors). slice_get k.desks c.in-Server.server) (sym c.self.view_is) ∙ sym c.in-None.ensures)

pub returns-in-Some : goal.returns-in-Some
returns-in-Some g c = λ setting w h.
    c.rev_if.ensures ∙ (λ i. if c.is_running.ensures i then Some (c.rev.ensures i) else None)
    ∙ ap (λ (d : Equipped). if d.desk.site.server.life.running then Some (rev_of d.desk.site.server.log) else None) c.desk.view_is
    ∙ server_rev setting w c.args.self.now c.args.actor h c.in-Server.server c.in-Some.desk.now c.in-Server.is
    (ap (λ (k : Actors). slice_get k.desks c.in-Server.server) (sym c.self.view_is) ∙ sym c.in-Some.ensures)

pub returns-in-Some-get : goal.returns-in-Some-get
returns-in-Some-get g c = λ setting w h.
    ap (λ r. Some r) c.rev-in-Some-get.ensures
    ∙ client_rev setting w c.args.self.now c.args.actor h c.in-Client.client c.in-Some-get.seat.now c.in-Client.is
    (ap (λ (k : Actors). slice_get k.seats c.in-Client.client) (sym c.self.view_is) ∙ sym c.in-Some-get.ensures)
