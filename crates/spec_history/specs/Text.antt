-- The text that a run prints.
use Rattle.std.specs.Prelude.{ℕ, List, [], Option, Some, None}
use Rattle.std.specs.List.{flat_map, fold}
use Rattle.std.specs.Ordering.{nat_cmp}
use Rattle.petal_table.specs.Table.{Table, put}
use Rattle.script_lines.specs.Printed.{answer_line}
use Rattle.script_lines.specs.declared.answer.Answer.{Answer}
use Rattle.spec_history.specs.declared.record.Record.{Record}

abbrev pub with_given : Table ℕ Answer → Option (ℕ × Answer) → Table ℕ Answer
with_given table None = table
with_given table (Some given) = put nat_cmp table given.0 given.1

-- the answers of a history, by line number
abbrev pub answers_of : List Record → Table ℕ Answer
answers_of records = fold (λ table own. with_given table own.answer) [] records

-- the text of a history: one line for each request, by rising line number
abbrev pub text_of : List Record → List ℕ
text_of records = flat_map (λ row. answer_line row.0 row.1) (answers_of records)
