-- What the words and the text of a script ask the program to do.
use Rattle.std.specs.Prelude.{ℕ, ◌+◌, List, codes, take, Option, Some, None, Result, Ok, Err}
use Rattle.call_words.specs.Form.{form_of}
use Rattle.call_words.specs.declared.form.Form.{Form}
use Rattle.call_words.specs.declared.form.Form.TheVariants as forms
use Rattle.petal_drill.specs.Drill.{drill_text}
use Rattle.petal_script.specs.Script.{Refusal, script_of, longest_script}
use Rattle.script_lines.specs.Printed.{refusal_line}
use Rattle.petal_script.specs.Cause.{cause_text}
use Rattle.script_lines.specs.declared.script.Script.{Script}
use Rattle.petal_run.specs.Statuses.{status_no_form, status_refused}

-- what is read of a source: one byte more than the longest script has shows that the text is none
abbrev pub text_read : List ℕ → List ℕ
text_read left = take (longest_script + 1) left

-- to refuse, with a status and a line of text; to play a script; or to play what the text of a drill spells, and to write what its
-- answers came to
pub data Asked : Type 0 where
  Refuse : (status : ℕ) (bytes : List ℕ) → Asked
  Play : Script → Asked
  Drill : (seed count : ℕ) → Result Script Refusal → Asked

-- a script is played, and a text that is none is refused at its first refused line
abbrev pub by_text : Result Script Refusal → Asked
by_text (Err refusal) = Refuse status_refused (refusal_line refusal.line (cause_text refusal.cause))
by_text (Ok script) = Play script

abbrev pub drilled : (seed count : ℕ) → Asked
drilled seed count = Drill seed count (script_of (drill_text seed count))

-- words that are no form get a line that says how the program is used
abbrev pub by_form : Option Form → List ℕ → Asked
by_form None text = Refuse status_no_form (codes "usage: petal run [FOLDER] | petal drill SEED COUNT\n")
by_form (Some forms.Run) text = by_text (script_of text)
by_form (Some (forms.Drill seed count)) text = drilled seed count

abbrev pub asked : List (List ℕ) → List ℕ → Asked
asked words text = by_form (form_of words) text
