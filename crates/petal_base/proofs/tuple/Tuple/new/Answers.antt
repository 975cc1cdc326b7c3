use Rattle.std.proofs.Common.{◌≡◌, true, rules}
use Rattle.std.proofs.Math.Seq.{take-append_seam}
use Rattle.petal_base.specs.Tuple.{is_tuple}
use Rattle.petal_base.proofs.Tuples.{is_tuple-most, is_tuple-eight}
use Rattle.petal_base.proofs.tuple.Tuple.new.Goals as goal

pub invariant_of-result : goal.invariant_of-result
invariant_of-result c =
    let is : is_tuple c.args.servers c.args.ids.now ≡ true = search rules in
    (is_tuple-most c.args.servers c.args.ids.now is, rw (c.copy_from_slice.ensures.after, take-append_seam) (is_tuple-eight c.args.servers c.args.ids.now is))
