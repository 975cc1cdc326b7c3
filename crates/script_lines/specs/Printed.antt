-- The text of an answer and of a refusal.
use Rattle.std.specs.Prelude.{ℕ, List, ◌++◌, codes, decimal}
use Rattle.script_lines.specs.Contents.{contents_text}
use Rattle.script_lines.specs.declared.answer.Answer.{Answer}
use Rattle.script_lines.specs.declared.answer.Answer.TheVariants as answers

-- what a request is answered
abbrev pub answer_text : Answer → List ℕ
answer_text answers.Ok = codes "ok"
answer_text (answers.Data bytes) = codes "data" ++ contents_text bytes
answer_text answers.NoSpace = codes "nospace"
answer_text answers.Unavailable = codes "unavailable"
answer_text answers.NoDisk = codes "nodisk"
answer_text answers.NoSnap = codes "nosnap"
answer_text answers.Exists = codes "exists"
answer_text answers.Moving = codes "moving"
answer_text answers.Failed = codes "failed"

-- the line of an answer, by the number of the request's line
unfoldable pub answer_line : ℕ → Answer → List ℕ
answer_line number answer = decimal number ++ (codes ": " ++ (answer_text answer ++ codes "\n"))

-- the line that tells the refused line and what is wrong with it
unfoldable pub refusal_line : ℕ → List ℕ → List ℕ
refusal_line number cause = codes "refused line " ++ (decimal number ++ (codes ": " ++ (cause ++ codes "\n")))
