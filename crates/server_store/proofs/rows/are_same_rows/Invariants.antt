use Rattle.std.proofs.Common.{◌≡◌, take}
use Rattle.server_store.proofs.rows.are_same_rows.Given as goal

abbrev pub invariant-loop-i : goal.invariant-loop-i
invariant-loop-i l = take l.i l.these ≡ take l.i l.others
