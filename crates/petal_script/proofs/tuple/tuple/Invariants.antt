use Rattle.std.proofs.Common.{length}
use Rattle.petal_script.proofs.Tuples.{SoFar}
use Rattle.petal_script.proofs.tuple.tuple.Given as goal

abbrev pub invariant-loop-word : goal.invariant-loop-word
invariant-loop-word l = SoFar l.servers l.fn.words l.words l.ids l.fits

abbrev pub decreases-loop-word : goal.decreases-loop-word
decreases-loop-word l = length l.words
