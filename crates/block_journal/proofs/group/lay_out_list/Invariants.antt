use Rattle.std.proofs.Common.{◌∷◌}
use Rattle.block_journal.specs.Groups.{Filled}
use Rattle.block_journal.proofs.group.lay_out_list.Given as goal

abbrev pub invariant-loop-i : goal.invariant-loop-i
invariant-loop-i g l = Filled (l.head ∷ g.B.Bodies.bodies l.bodies) l.first l.i l.piece
