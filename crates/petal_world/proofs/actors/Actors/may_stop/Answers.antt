-- The open line stops the server, as its first step.
use Rattle.std.proofs.Common.{◌≡◌, None, sym, ap, ◌∙◌}
use Rattle.spec_rules.specs.World.{Control}
use Rattle.server_host.specs.Desks.{Equipped}
use Rattle.petal_world.specs.Actors.{Actors}
use Rattle.petal_world.proofs.Lines.{may_stop_by, runs_as, stopped_by}
use Rattle.petal_world.proofs.actors.Actors.may_stop.Goals as goal

pub returns : goal.returns
returns g c = λ setting w h is.
    let runs = runs_as setting w c.args.server c.args.desk.now.desk c.is_running.result is
    (c.is_running.ensures ∙ ap (λ (d : Equipped). d.desk.site.server.life.running) c.desk.view_is) ∙ c.if-not-is_running.false in
    let empty : w.control.hand ≡ None =
    sym (ap (λ (k : Actors). k.control.hand) c.self.view_is ∙ ap (λ (k : Control). k.hand) h.control) ∙ c.is_empty.ensures.0 c.if-not-is_empty.false in (
      (λ t. may_stop_by w c.args.server runs empty ((c.is_to_stop.ensures setting w h).0 t)),
      (λ may. (c.is_to_stop.ensures setting w h).1 (stopped_by w c.args.server may)),
    )
