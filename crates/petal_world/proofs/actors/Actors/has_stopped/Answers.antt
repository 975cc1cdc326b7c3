-- The open line stops the server, which does not run.
use Rattle.std.proofs.Common.{ap, ◌∙◌}
use Rattle.server_host.specs.Desks.{Equipped}
use Rattle.petal_world.proofs.Lines.{runs_as}
use Rattle.petal_world.proofs.actors.Actors.has_stopped.Goals as goal

pub returns : goal.returns
returns g c = λ setting w h is.
    let rests = runs_as setting w c.args.server c.args.desk.now.desk c.is_running.result is
    (c.is_running.ensures ∙ ap (λ (d : Equipped). d.desk.site.server.life.running) c.desk.view_is) ∙ c.if-is_running.false in
    let stops = c.is_given_by.ensures setting w h in
    ((λ t. record { by = stops.0 t; rests = rests }), (λ done. stops.1 done.by))
