-- The operator's open line gives it.
use Rattle.std.proofs.Common.{refl}
use Rattle.history_merge.proofs.front.Front.may_stop.Goals as goal

pub returns-in-Some : goal.returns-in-Some
returns-in-Some c = λ so.
    let own = c.in-Some.ensures c.in-Some.line.now refl in
    record { line = c.in-Some.line.now; is = own.0; first = own.1; so = c.stops.ensures so }
