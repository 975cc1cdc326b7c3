use Rattle.std.proofs.Common.{◌≡◌, ◌<◌, ◌-◌, [], refl, length, take, drop, ◌∙◌, sym, ap, arith, length-take, length-drop, rules}
use Rattle.byte_streams.proofs.Fronts.{more_taken}
use Rattle.byte_streams.proofs.stream.read_full.Goals as goal

pub loop-done-preserved : goal.loop-done-preserved
loop-done-preserved g c =
    let inv = c.loop-done.invariant in
    record {
      within = search rules;
      same_length = search rules;
      so_far = λ observable. more_taken _ _ _ _ _ _ _ _ _ inv.within refl (inv.so_far observable) (c.in_ok-count.ensures.takes observable);
      later = omega (arith, inv.later, c.read.ensures.cause.later);
    }

pub returns-then-count-eq0-clause-count : goal.returns-then-count-eq0-clause-count
returns-then-count-eq0-clause-count g c observable =
    let inv = c.loop-done.invariant in
    let so_far = inv.so_far observable in
    let n = length c.loop-done.into - c.loop-done.done in
    let wide : 0 < length (take n (drop c.loop-done.done c.loop-done.into)) =
    omega (arith, length-take n (drop c.loop-done.done c.loop-done.into), length-drop c.loop-done.done c.loop-done.into, c.loop-done-test.true) in
    let over : drop c.loop-done.done (g.S.Source.left c.args.source.now) ≡ [] = sym so_far.rest_is
    ∙ (c.in_ok-count.ensures.takes observable).ends c.if-count-eq0.true wide in
    omega (arith, ap length over, length-drop c.loop-done.done (g.S.Source.left c.args.source.now), so_far.enough, inv.same_length, inv.within)
