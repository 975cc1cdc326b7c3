use Rattle.block_journal.specs.Groups.{Filled}
use Rattle.block_journal.proofs.group.lay_out.Given as goal

abbrev pub invariant-loop-i : goal.invariant-loop-i
invariant-loop-i l = Filled l.bodies 0 l.i l.piece
