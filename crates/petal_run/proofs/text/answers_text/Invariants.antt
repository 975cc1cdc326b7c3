use Rattle.std.proofs.Common.{◌≡◌, ◌++◌, length}
use Rattle.std.specs.List.{flat_map}
use Rattle.script_lines.specs.Printed.{answer_line}
use Rattle.petal_run.proofs.text.answers_text.Given as goal

-- the text so far, with that of the answers that are left, is that of all answers
abbrev pub invariant-loop-line : goal.invariant-loop-line
invariant-loop-line l =
    l.out.items ++ flat_map (λ row. answer_line row.0 row.1) l.answers ≡ flat_map (λ row. answer_line row.0 row.1) l.fn.answers

abbrev pub decreases-loop-line : goal.decreases-loop-line
decreases-loop-line l = length l.answers
