-- What is kept does not speak of the phase and of stamps to come.
use Rattle.petal_world.specs.Play.{Play}
use Rattle.petal_world.proofs.Playing.{kept_entered}
use Rattle.petal_world.proofs.world.World.enter.Goals as goal

pub invariant_of-self : goal.invariant_of-self
invariant_of-self g c =
    let i = c.self.inside in
    let play : Play = record { script = i.script; records = i.records; phase = i.phase; floor = i.floor; over = i.over; free = i.free } in
    kept_entered play i.actors i.errand c.args.phase c.above_all-floor.result c.self.invariant
