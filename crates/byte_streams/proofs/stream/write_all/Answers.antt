use Rattle.std.proofs.Common.{arith, refl, rules}
use Rattle.byte_streams.proofs.Fronts.{more_written}
use Rattle.byte_streams.proofs.stream.write_all.Goals as goal

pub loop-done-preserved : goal.loop-done-preserved
loop-done-preserved g c =
    let inv = c.loop-done.invariant in
    record {
      within = search rules;
      so_far = λ observable. more_written _ _ _ _ _ _ _ refl (inv.so_far observable) (c.in_ok-done.ensures.takes observable);
      later = omega (arith, inv.later, c.write.ensures.cause.later);
    }
