-- A step that the rules allow is taken, and may be free.
use Rattle.std.proofs.Common.{subst}
use Rattle.spec_rules.specs.World.{MayStep, setting_of}
use Rattle.petal_world.specs.Play.{Play, world_of}
use Rattle.petal_world.proofs.Playing.{kept_free}
use Rattle.petal_world.proofs.world.World.step_freely.Goals as goal

pub invariant_of-self : goal.invariant_of-self
invariant_of-self g c =
    let i = c.self.inside in
    let play : Play = record { script = i.script; records = i.records; phase = i.phase; floor = i.floor; over = i.over; free = i.free } in
    kept_free play i.actors i.errand c.self.invariant

pub take_allowed-requires-clause-may : goal.take_allowed-requires-clause-may
take_allowed-requires-clause-may g c =
    let i = c.self.inside in
    let play : Play = record { script = i.script; records = i.records; phase = i.phase; floor = i.floor; over = i.over; free = i.free } in
    let may = (c.may.ensures (setting_of play.script) (world_of play) c.self.invariant.ordered (c.self.invariant.shows c.if-self.false)).0
    c.if-not-may.false in
    may

pub returns-in-Ok-clause-allowed : goal.returns-in-Ok-clause-allowed
returns-in-Ok-clause-allowed g c =
    let i = c.self.inside in
    let play : Play = record { script = i.script; records = i.records; phase = i.phase; floor = i.floor; over = i.over; free = i.free } in
    let may = (c.may.ensures (setting_of play.script) (world_of play) c.self.invariant.ordered (c.self.invariant.shows c.if-self.false)).0
    c.if-not-may.false in
    subst (λ (p : Play). MayStep (setting_of p.script) (world_of p) c.args.actor c.args.step.now) c.self.view_is may
