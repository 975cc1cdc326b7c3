use Rattle.std.proofs.Common.{◌≡◌, List, [], sym, ap, ◌∙◌, subst, inl, inr, arith}
use Rattle.byte_streams.specs.Streams.{Adds}
use Rattle.petal_drill.specs.Summary.{summary}
use Rattle.spec_history.specs.Claims.{Keeps}
use Rattle.spec_history.specs.Legal.{IsLegal}
use Rattle.spec_history.specs.Text.{answers_of}
use Rattle.spec_history.specs.declared.record.Record.{Record}
use Rattle.plain_schedule.specs.Phases.{Progress, records_of}
use Rattle.petal_run.proofs.Telling.{done_drill, drill_adds, drill_ends, none_added, nothing_legal, play_legal}
use Rattle.petal_run.proofs.drill.play_drill.Goals as goal

pub returns-in-Ok-clause-done : goal.returns-in-Ok-clause-done
returns-in-Ok-clause-done g c = λ told ended.
    let p = c.play_and_sum_up-status.new.playing in
    let history = c.into_history.result.records in
    let same : p.script ≡ c.args.script = c.play_and_sum_up-status.ensures.script ∙ ap (λ (q : Progress). q.script) c.in-Ok.ensures.start in
    let is : history ≡ records_of p = ap (λ h. h.records) c.into_history.ensures.value in
    let legal : IsLegal c.args.script history = play_legal c.args.script p history same is c.into_history.ensures.legal in
    done_drill c.args.seed c.args.count c.args.script p history c.play_and_sum_up-status.result (g.W.Sink.taken c.args.sink.now)
    (g.W.Sink.taken c.play_and_sum_up-status.new.sink) ended same is (c.play_and_sum_up-status.ensures.whole (λ three. absurd (omega arith))) legal
    (c.every_history_keeps_the_law.ensures c.args.script history c.requires.sound legal.steps) (c.play_and_sum_up-status.ensures.all told ended)

pub returns-in-Ok-clause-in_part : goal.returns-in-Ok-clause-in_part
returns-in-Ok-clause-in_part g c = λ told which.
    let p = c.play_and_sum_up-status.new.playing in
    let history = c.into_history.result.records in
    let old = g.W.Sink.taken c.args.sink.now in
    let new = g.W.Sink.taken c.play_and_sum_up-status.new.sink in
    let same : p.script ≡ c.args.script = c.play_and_sum_up-status.ensures.script ∙ ap (λ (q : Progress). q.script) c.in-Ok.ensures.start in
    let is : history ≡ records_of p = ap (λ h. h.records) c.into_history.ensures.value in
    let legal : IsLegal c.args.script history = play_legal c.args.script p history same is c.into_history.ensures.legal in
    let part : Adds old (summary c.args.seed c.args.count c.args.script.lines (answers_of history)) new = elim which [
      | inl three ↦ subst (λ sink. Adds old (summary c.args.seed c.args.count c.args.script.lines (answers_of history)) (g.W.Sink.taken sink))
          (sym (c.play_and_sum_up-status.ensures.nothing three)) (none_added old _)
      | inr five ↦ drill_adds c.args.seed c.args.count c.args.script p history old new same is (c.play_and_sum_up-status.ensures.prefix told five)
    ] in
    (legal, c.every_history_keeps_the_law.ensures c.args.script history c.requires.sound legal.steps, part)

pub returns-in-Ok-clause-last_phase : goal.returns-in-Ok-clause-last_phase
returns-in-Ok-clause-last_phase g c = λ told five.
    let p = c.play_and_sum_up-status.new.playing in
    let same : p.script ≡ c.args.script = c.play_and_sum_up-status.ensures.script ∙ ap (λ (q : Progress). q.script) c.in-Ok.ensures.start in
    drill_adds c.args.seed c.args.count c.args.script p c.into_history.result.records (g.W.Sink.taken c.args.sink.now)
    (g.W.Sink.taken c.play_and_sum_up-status.new.sink) same (ap (λ h. h.records) c.into_history.ensures.value)
    (c.play_and_sum_up-status.ensures.prefix told five)

pub returns-in-Ok-clause-whole_phase : goal.returns-in-Ok-clause-whole_phase
returns-in-Ok-clause-whole_phase g c = λ five.
    let p = c.play_and_sum_up-status.new.playing in
    let same : p.script ≡ c.args.script = c.play_and_sum_up-status.ensures.script ∙ ap (λ (q : Progress). q.script) c.in-Ok.ensures.start in
    drill_ends c.args.script p c.into_history.result.records same (ap (λ h. h.records) c.into_history.ensures.value)
    (c.play_and_sum_up-status.ensures.whole (λ three. absurd (omega arith)))

pub returns-in-Err-clause-in_part : goal.returns-in-Err-clause-in_part
returns-in-Err-clause-in_part g c = λ told which.
    let old = g.W.Sink.taken c.args.sink.now in
    subst (λ (r : List Record). IsLegal c.args.script r × Keeps c.args.script r
    × Adds old (summary c.args.seed c.args.count c.args.script.lines (answers_of r)) old) (sym c.given_up.ensures.history)
    (nothing_legal c.args.script, c.every_history_keeps_the_law.ensures c.args.script [] c.requires.sound tt, none_added old _)
