-- What a drill came to, on one line.
use Rattle.std.specs.Prelude.{ℕ, ◌+◌, List, ◌++◌, slice_index, codes, decimal, Option, Some, None}
use Rattle.std.specs.List.{fold, count_by}
use Rattle.std.specs.Ordering.{nat_cmp}
use Rattle.petal_table.specs.Table.{Table, at}
use Rattle.script_lines.specs.Requests.{is_stop}
use Rattle.script_lines.specs.declared.answer.Answer.{Answer}
use Rattle.script_lines.specs.declared.answer.Answer.TheVariants as answers
use Rattle.script_lines.specs.declared.request.Request.{Request}
use Rattle.script_lines.specs.declared.request.Request.TheVariants as requests
use Rattle.script_lines.specs.declared.request.Line.{Line}

-- the writes that were done, the reads that found something, and the sum of the first bytes that they found
pub record Counts : Type 0 where
  pub writes : ℕ
  pub reads : ℕ
  pub sum : ℕ

abbrev pub no_counts : Counts
no_counts = record { writes = 0; reads = 0; sum = 0 }

-- the counts with one answer more
abbrev pub counted : Counts → Request → Answer → Counts
counted c (requests.Write name block pattern) answers.Ok = record c { writes = c.writes + 1 }
counted c (requests.Read name snap block) (answers.Data bytes) = record c { reads = c.reads + 1; sum = c.sum + slice_index bytes 0 }
counted c _ _ = c

abbrev pub counted_if : Counts → Request → Option Answer → Counts
counted_if c request None = c
counted_if c request (Some answer) = counted c request answer

-- what the answers to these lines come to
abbrev pub counts_of : List Line → Table ℕ Answer → Counts
counts_of lines given = fold (λ c line. counted_if c line.request (at nat_cmp given line.number)) no_counts lines

-- how many lines stop a server
abbrev pub stops_of : List Line → ℕ
stops_of lines = count_by (λ line. is_stop line.request) lines

abbrev pub drill_name : (seed count : ℕ) → List ℕ
drill_name seed count = codes "drill " ++ (decimal seed ++ (codes " " ++ decimal count))

abbrev pub counts_text : (stops : ℕ) → Counts → List ℕ
counts_text stops c =
    codes "writes " ++ (decimal c.writes ++ (codes " reads " ++ (decimal c.reads ++ (codes " stops " ++ (decimal stops ++ (codes " sum " ++ decimal c.sum))))))

unfoldable pub counts_line : (seed count stops : ℕ) → Counts → List ℕ
counts_line seed count stops c = drill_name seed count ++ (codes ": " ++ (counts_text stops c ++ codes "\n"))

-- the line that tells what the answers to a drill's lines came to
abbrev pub summary : (seed count : ℕ) → List Line → Table ℕ Answer → List ℕ
summary seed count lines given = counts_line seed count (stops_of lines) (counts_of lines given)
