use Rattle.std.proofs.Common.{Some}
use Rattle.call_words.specs.declared.form.Form.TheVariants as forms
use Rattle.petal_run.proofs.Short.{script-short}
use Rattle.petal_run.proofs.script.run_text.Goals as goal

pub play-requires-clause-sound : goal.play-requires-clause-sound
play-requires-clause-sound g c = c.read_scripts_are_sound.ensures.sound c.args.text.now c.in-Ok.script c.in-Ok.ensures

pub returns-in-Ok-clause-short : goal.returns-in-Ok-clause-short
returns-in-Ok-clause-short g c = λ ended. script-short c.args.text.now c.in-Ok.script (c.lines_are_the_text.ensures.whole c.args.text.now) c.in-Ok.ensures

pub returns-in-Err-NoMemory-clause-in_part : goal.returns-in-Err-NoMemory-clause-in_part
returns-in-Err-NoMemory-clause-in_part g c = λ told which.
    rw c.given_up.ensures.history (c.nothing_is_a_part.ensures.part (Some forms.Run) c.args.text.now (g.W.Sink.taken c.args.sink.now))

pub returns-in-Err-NoMemory-clause-by_phases : goal.returns-in-Err-NoMemory-clause-by_phases
returns-in-Err-NoMemory-clause-by_phases g c = λ told three.
    rw c.given_up.ensures.history (c.nothing_is_a_part.ensures.by_phases (Some forms.Run) c.args.text.now (g.W.Sink.taken c.args.sink.now))
