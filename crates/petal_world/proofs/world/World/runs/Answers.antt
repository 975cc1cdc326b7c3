-- A revision is that of a server that runs.
use Rattle.std.proofs.Common.{◌≡◌, false, subst}
use Rattle.petal_msg.specs.declared.letter.Actor.{Actor}
use Rattle.spec_rules.specs.World.{MayActor, MayStep, setting_of}
use Rattle.spec_rules.specs.declared.step.Step.{Step}
use Rattle.petal_world.specs.Errands.{Runs}
use Rattle.petal_world.specs.Play.{Play, world_of}
use Rattle.petal_world.proofs.Errands.{runs_by}
use Rattle.petal_world.proofs.world.World.runs.Goals as goal

pub returns : goal.returns
returns g c =
    let i = c.self.inside in
    let play : Play = record { script = i.script; records = i.records; phase = i.phase; floor = i.floor; over = i.over; free = i.free } in
    subst (λ (p : Play). p.over ≡ false → (what : Step) → MayStep (setting_of p.script) (world_of p) c.args.actor what
    → Runs (world_of p) c.args.actor c.is_some.result) c.self.view_is
    (λ on what may. runs_by (setting_of play.script) (world_of play) c.args.actor c.rev.result c.is_some.result
    (c.rev.ensures (setting_of play.script) (world_of play) (c.self.invariant.shows on))
    (λ n is. (subst (λ (a : Actor). MayActor a what (setting_of play.script) (world_of play)) is may.may).0) c.is_some.ensures)
