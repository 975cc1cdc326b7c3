-- The map that is found above the map so far is the one that is found.
use Rattle.std.proofs.Common.{◌≡◌, None}
use Rattle.busy_marks.specs.Marks.{next_marked_map}
use Rattle.redistribute.specs.Swept.{retired_marks}
use Rattle.redistribute.proofs.RetiredMarks.{map_of}
use Rattle.redistribute.proofs.Marked.{left}
use Rattle.redistribute.proofs.search.retired_cell.Given as goal

abbrev pub invariant-loop-map : goal.invariant-loop-map
invariant-loop-map g l = next_marked_map l.after (retired_marks l.state l.store.marks) ≡ next_marked_map None (retired_marks l.state l.store.marks)

abbrev pub decreases-loop-map : goal.decreases-loop-map
decreases-loop-map g l = left map_of l.after l.store.marks
