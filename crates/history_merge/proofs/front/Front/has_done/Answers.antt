-- The operator's open line has done it.
use Rattle.std.proofs.Common.{refl}
use Rattle.history_merge.proofs.front.Front.has_done.Goals as goal

pub returns-then-line-number : goal.returns-then-line-number
returns-then-line-number c = λ so.
    let own = c.in-Some.ensures c.in-Some.line.now refl in
    record { line = c.in-Some.line.now; is = own.0; first = own.1; so = (c.if-line-number.true, c.is_done.ensures so) }
