use Rattle.std.proofs.Common.{Err, List, ap, sym, subst}
use Rattle.spec_history.specs.declared.record.Record.{Record}
use Rattle.plain_schedule.specs.Phases.{Ends, records_of}
use Rattle.petal_run.specs.Said.{WrotePhases}
use Rattle.petal_run.specs.Written.{Wrote}
use Rattle.petal_run.proofs.Telling.{wrote_before, wrote_so_far, wrote_last}
use Rattle.petal_run.proofs.script.play_and_tell.Goals as goal

pub returns-in-Err-Failed-clause-last : goal.returns-in-Err-Failed-clause-last
returns-in-Err-Failed-clause-last g c = λ told base five wrote.
    let old = c.args.playing.now in
    let new = c.play_phase.new.self in
    let ends : Ends old new c.in-Ok-Some.answers = rw c.in-Ok-Some.field-0-is at c.in-Ok-Some.ensures.ends in
    wrote_last old new c.in-Ok-Some.answers c.play_phase.ensures.script c.requires.by_phases c.play_phase.ensures.by_phases ends
    base (g.W.Sink.taken c.args.sink.now) (g.W.Sink.taken c.tell.new.sink) wrote (c.in-Err-Failed.ensures.prefix (ap Err c.in-Err-Failed.field-0-is) told)

pub returns-in-Err-NoMemory-clause-phases : goal.returns-in-Err-NoMemory-clause-phases
returns-in-Err-NoMemory-clause-phases g c = λ told base three wrote.
    let old = c.args.playing.now in
    let new = c.play_phase.new.self in
    let ends : Ends old new c.in-Ok-Some.answers = rw c.in-Ok-Some.field-0-is at c.in-Ok-Some.ensures.ends in
    subst (λ sink. WrotePhases new.script (records_of new) base (g.W.Sink.taken sink))
    (sym (c.in-Err-NoMemory.ensures.nothing (ap Err c.in-Err-NoMemory.field-0-is)))
    (wrote_before old new c.in-Ok-Some.answers c.play_phase.ensures.script c.requires.by_phases ends base (g.W.Sink.taken c.args.sink.now) wrote)

pub returns-in-Err-clause-phases : goal.returns-in-Err-clause-phases
returns-in-Err-clause-phases g c = λ told base three wrote.
    let new = c.play_phase.new.self in
    wrote_so_far new c.play_phase.ensures.by_phases base (g.W.Sink.taken c.args.sink.now)
    (subst (λ (r : List Record). Wrote base r (g.W.Sink.taken c.args.sink.now)) (sym c.in-Err.ensures.gave_up) wrote)
