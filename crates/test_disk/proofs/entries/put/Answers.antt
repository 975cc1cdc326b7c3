use Rattle.std.proofs.Common.{inl, arith}
use Rattle.test_disk.proofs.entries.put.Goals as goal

pub put-requires : goal.put-requires
put-requires c = inl (omega (arith, c.in_ok-reserve.ensures.room))
