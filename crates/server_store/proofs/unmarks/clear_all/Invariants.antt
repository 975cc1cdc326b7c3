use Rattle.std.proofs.Common.{◌≡◌, take}
use Rattle.server_store.specs.Committing.{unmarked}
use Rattle.server_store.proofs.unmarks.clear_all.Given as goal

abbrev pub invariant-loop-cell : goal.invariant-loop-cell
invariant-loop-cell l = l.marks.marks ≡ unmarked l.kind (take l.cell-index l.cells) l.fn.marks.marks
