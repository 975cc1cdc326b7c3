use Rattle.std.proofs.Common.{◌≡◌, ◌≤◌, ◌+◌, drop}
use Rattle.std.specs.List.{fold}
use Rattle.std.specs.Ordering.{nat_cmp}
use Rattle.petal_table.specs.Table.{at}
use Rattle.petal_drill.specs.Summary.{counted_if, counts_of}
use Rattle.petal_run.proofs.drill.count_answers.Given as goal

-- the counts so far, with the answers to the lines that are left, are those of all lines; and no more is counted than lines
abbrev pub invariant-loop-line : goal.invariant-loop-line
invariant-loop-line l =
    (fold (λ c line. counted_if c line.request (at nat_cmp l.answers line.number)) l.counts (drop l.line-index l.lines) ≡ counts_of l.lines l.answers)
    × (l.counts.writes + l.counts.reads ≤ l.line-index)
