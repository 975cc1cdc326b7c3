use Rattle.std.proofs.Common.{◌≡◌, ◌≤◌, ◌++◌, length}
use Rattle.script_lines.specs.Contents.{runs}
use Rattle.petal_script.proofs.contents.few_runs.Given as goal

abbrev pub invariant-loop-rest : goal.invariant-loop-rest
invariant-loop-rest l = (runs l.bytes ≡ l.few.items ++ runs l.rest) × (length l.few.items ≤ 8)

abbrev pub decreases-loop-rest : goal.decreases-loop-rest
decreases-loop-rest l = length l.rest
