-- What is written of a script that is played.
use Rattle.std.specs.Prelude.{◌≡◌, ℕ, List, ◌++◌}
use Rattle.std.specs.List.{flat_map}
use Rattle.petal_table.specs.Table.{Table}
use Rattle.script_lines.specs.Printed.{answer_line}
use Rattle.script_lines.specs.declared.answer.Answer.{Answer}
use Rattle.spec_history.specs.Text.{text_of}
use Rattle.spec_history.specs.declared.record.Record.{Record}

-- one line for each answer
abbrev pub text_of_answers : Table ℕ Answer → List ℕ
text_of_answers answers = flat_map (λ row. answer_line row.0 row.1) answers

-- after these bytes stands the text of these records
abbrev pub Wrote : List ℕ → List Record → List ℕ → Type 0
Wrote base records taken = taken ≡ base ++ text_of records
