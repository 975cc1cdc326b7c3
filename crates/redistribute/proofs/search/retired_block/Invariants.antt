-- What is found above the block so far is what is found on the whole map.
use Rattle.std.proofs.Common.{◌≡◌, None}
use Rattle.busy_marks.specs.Marks.{next_marked}
use Rattle.redistribute.specs.Swept.{retired_marks}
use Rattle.redistribute.proofs.RetiredMarks.{block_of}
use Rattle.redistribute.proofs.Marked.{left}
use Rattle.redistribute.proofs.search.retired_block.Given as goal

abbrev pub invariant-loop-block : goal.invariant-loop-block
invariant-loop-block g l = next_marked l.map l.after (retired_marks l.state l.store.marks) ≡ next_marked l.map None (retired_marks l.state l.store.marks)

abbrev pub decreases-loop-block : goal.decreases-loop-block
decreases-loop-block g l = left block_of l.after l.store.marks
