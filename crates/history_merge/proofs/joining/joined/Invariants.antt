-- So far the records before this one are joined.
use Rattle.history_merge.specs.Fronts.{IsSoFar}
use Rattle.history_merge.proofs.joining.joined.Given as goal

abbrev pub invariant-loop-place : goal.invariant-loop-place
invariant-loop-place l = IsSoFar l.script l.records l.place l.front
