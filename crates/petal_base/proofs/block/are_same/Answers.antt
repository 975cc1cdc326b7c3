use Rattle.std.proofs.Common.{◌≡◌, take, drop, arith, rules}
use Rattle.petal_base.proofs.Bytes.{same_further}
use Rattle.petal_base.proofs.block.are_same.Goals as goal

pub loop-at-preserved : goal.loop-at-preserved
loop-at-preserved c =
    let at = c.loop-at.at in
    let next : take 64 (drop at c.args.one.now) ≡ take 64 (drop at c.args.other.now) = search rules in
    record { within = omega arith; steps = omega arith; same = same_further at 64 c.args.one.now c.args.other.now c.loop-at.invariant.same next }
