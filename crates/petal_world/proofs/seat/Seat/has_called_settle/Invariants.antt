-- None of the lines from this one on is such a settle.
use Rattle.std.proofs.Common.{◌≡◌, false, ℕ, ◌+◌, ◌<◌, ◌≤◌, Some, length}
use Rattle.std.specs.Prelude.{slice_get, min}
use Rattle.script_lines.specs.declared.request.Line.{Line}
use Rattle.petal_world.specs.Seats.{settles_as}
use Rattle.petal_world.proofs.seat.Seat.has_called_settle.Given as goal

abbrev pub invariant-loop-back : goal.invariant-loop-back
invariant-loop-back l = record {
  same : l.lines ≡ l.self.lines;
  called : l.called ≡ min l.self.core.client.seq (length l.self.lines);
  none : (k : ℕ) (line : Line) → l.called ≤ k + l.back → k < l.called → slice_get l.self.lines k ≡ Some line → settles_as l.number line ≡ false;
}
