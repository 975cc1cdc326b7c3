use Rattle.std.proofs.Common.{◌≡◌, [], Some, rules}
use Rattle.call_words.specs.declared.form.Form.TheVariants as forms
use Rattle.petal_drill.specs.Drill.{drill_text}
use Rattle.petal_run.proofs.drill.run_drill.Goals as goal

pub play_drill-requires-clause-sound : goal.play_drill-requires-clause-sound
play_drill-requires-clause-sound g c = c.read_scripts_are_sound.ensures.sound (drill_text c.args.seed c.args.count) c.in-Ok.script c.in-Ok.ensures

pub returns-in-Err-NoMemory-clause-in_part : goal.returns-in-Err-NoMemory-clause-in_part
returns-in-Err-NoMemory-clause-in_part g c = λ told which.
    rw c.given_up.ensures.history
    (c.nothing_is_a_part.ensures.part (Some (forms.Drill c.args.seed c.args.count)) [] (g.W.Sink.taken c.args.sink.now))

pub returns-in-Err-Refused-clause-in_part : goal.returns-in-Err-Refused-clause-in_part
returns-in-Err-Refused-clause-in_part g c = λ told which.
    rw c.given_up-in-Err-Refused.ensures.history
    (c.nothing_is_a_part.ensures.part (Some (forms.Drill c.args.seed c.args.count)) [] (g.W.Sink.taken c.args.sink.now))
