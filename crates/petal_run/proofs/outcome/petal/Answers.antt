use Rattle.std.proofs.Common.{◌≡◌, ◌+◌, ◌<◌, None, Some, map, take, length, sym, ap, ◌∙◌, arith, []}
use Rattle.std.specs.String.{string_bytes}
use Rattle.call_words.specs.Form.{form_of}
use Rattle.call_words.specs.declared.form.Form.TheVariants as forms
use Rattle.petal_script.specs.Script.{script_of, longest_script}
use Rattle.petal_run.specs.Asked.{by_text, text_read}
use Rattle.petal_run.proofs.Ends.{read-whole}
use Rattle.petal_run.proofs.Prefixes.{short-drop}
use Rattle.petal_run.proofs.outcome.petal.Goals as goal

pub returns-in-None-clause-in_part : goal.returns-in-None-clause-in_part
returns-in-None-clause-in_part g c = λ reads writes failed.
    let other : form_of (map string_bytes c.args.words.now) ≡ None = sym c.read_words.ensures.value ∙ c.in-None.is in
    rw other (c.say.ensures.history, rw c.as_bytes.ensures.value at (c.say.ensures.prefix writes))

pub returns-in-None-clause-last_phase : goal.returns-in-None-clause-last_phase
returns-in-None-clause-last_phase g c = λ reads writes failed.
    let other : form_of (map string_bytes c.args.words.now) ≡ None = sym c.read_words.ensures.value ∙ c.in-None.is in
    rw other (rw c.as_bytes.ensures.value at (c.say.ensures.prefix writes))

pub returns-clause-done : goal.returns-clause-done
returns-clause-done g c = λ reads writes ended.
    let known : form_of (map string_bytes c.args.words.now) ≡ Some forms.Run =
    sym c.read_words.ensures.value ∙ c.in-Some-Run.is ∙ ap Some c.in-Some-Run.field-0-is in
    let text_is : c.deref.result.now ≡ take (longest_script + 1) (g.R.Source.left c.args.source.now) = c.deref.ensures.value ∙ c.in-Ok.ensures.bytes reads in
    let whole : c.run_text.result.status ≡ 0 → g.R.Source.left c.read_text.new.source ≡ [] = λ played.
    let short : length (take (longest_script + 1) (g.R.Source.left c.args.source.now)) < longest_script + 1 =
    rw (← text_is) (omega (arith, c.run_text.ensures.short played)) in
    c.in-Ok.ensures.rest reads ∙ short-drop (longest_script + 1) (g.R.Source.left c.args.source.now) short in
    rw (known, ← text_is)
    (read-whole (by_text (script_of c.deref.result.now)) c.run_text.result.status c.run_text.result.history.records
    (g.R.Source.left c.read_text.new.source) (g.W.Sink.taken c.args.sink.now) (g.W.Sink.taken c.run_text.new.sink)
    whole (c.run_text.ensures.done writes ended))

pub returns-in-Err-NoMemory-clause-in_part : goal.returns-in-Err-NoMemory-clause-in_part
returns-in-Err-NoMemory-clause-in_part g c = λ reads writes three.
    rw c.given_up.ensures.history (c.nothing_is_a_part.ensures.part (form_of (map string_bytes c.args.words.now))
    (text_read (g.R.Source.left c.args.source.now)) (g.W.Sink.taken c.args.sink.now))

pub returns-in-Err-NoMemory-clause-by_phases : goal.returns-in-Err-NoMemory-clause-by_phases
returns-in-Err-NoMemory-clause-by_phases g c = λ reads writes three.
    rw c.given_up.ensures.history (c.nothing_is_a_part.ensures.by_phases (form_of (map string_bytes c.args.words.now))
    (text_read (g.R.Source.left c.args.source.now)) (g.W.Sink.taken c.args.sink.now))
