use Rattle.std.proofs.Common.{true}
use Rattle.block_journal.specs.Records.{contents}
use Rattle.block_journal.specs.Pieces.{Took}
use Rattle.block_journal.proofs.reading.take_bodies.Given as goal

abbrev pub invariant-loop-i : goal.invariant-loop-i
invariant-loop-i l = Took l.r l.i l.piece (contents l.fn.all.items) (contents l.all.items) true
