-- A server that was stopped runs, or the state device refused its incarnation.
use Rattle.std.proofs.Common.{◌<◌, ◌∙◌, arith}
use Rattle.spec_paxos.specs.Kept.{inc_of}
use Rattle.spec_rules.specs.World.{greatest_u32}
use Rattle.server_core.proofs.Boots.{booted_done, raised_as}
use Rattle.server_core.proofs.server.ServerCore.boot.Goals as goal

pub returns-in_ok-wake-in-Ok : goal.returns-in_ok-wake-in-Ok
returns-in_ok-wake-in-Ok g c =
    let old = c.args.self.now in
    let before = c.args.state.now in
    let known = c.requires.known in
    let raises = c.requires.raises in
    let less : inc_of before.records < greatest_u32 = omega (arith, known, raises) in
    let raised = c.in-Ok.ensures in
    let woken = c.in_ok-wake-in-Ok.ensures in
    booted_done g.E.Disk old before known c.wake.new.self c.raise_inc.new.self c.in_ok-wake-in-Ok.field-0
    (raised.ok ∙ raised_as before.records less) woken.core woken.letters raised.holds raised.any_moment raised.later raised.run
