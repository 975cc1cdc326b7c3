-- The line is the next one, nothing is open, and no line of an earlier phase waits.
use Rattle.std.proofs.Common.{sym, subst, IsTrue}
use Rattle.std.specs.Prelude.{◌↔◌}
use Rattle.petal_world.specs.Actors.{Actors}
use Rattle.server_host.specs.Waiting.{AreAfter, AreRising}
use Rattle.petal_world.proofs.Allowed.{call_exact}
use Rattle.petal_world.proofs.actors.Actors.may_call.Goals as goal

pub returns : goal.returns
returns g c = λ setting w own ordered h is.
    let following = subst (λ (k : Actors). AreRising k.waiting → IsTrue c.is_after.result ↔ AreAfter k.waiting c.in-Some.next.now.phase)
    c.self.view_is c.is_after.ensures in
    call_exact setting w c.args.self.now own c.args.line c.args.seat.now c.in-Some.next.now c.is_after.result ordered h is (sym c.in-Some.ensures)
    (c.is_free.ensures.0 c.if-not-is_free.false) c.if-next-line.false following
