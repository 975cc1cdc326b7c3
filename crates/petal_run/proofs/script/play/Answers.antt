use Rattle.std.proofs.Common.{◌≡◌, List, [], sym, ap, ◌∙◌, subst, inl, inr, arith}
use Rattle.byte_streams.specs.Streams.{Adds}
use Rattle.spec_history.specs.Claims.{Keeps}
use Rattle.spec_history.specs.Legal.{IsLegal}
use Rattle.spec_history.specs.Text.{text_of}
use Rattle.spec_history.specs.declared.record.Record.{Record}
use Rattle.plain_schedule.specs.Phases.{Progress, records_of}
use Rattle.petal_run.specs.Said.{WrotePhases}
use Rattle.petal_run.proofs.Telling.{ended_all, done_play, play_legal, play_wrote, play_last, play_ends, adds_phases}
use Rattle.petal_run.proofs.Telling.{adds_last, none_added, none_wrote, nothing_legal}
use Rattle.petal_run.proofs.script.play.Goals as goal

pub returns-in-Ok-clause-done : goal.returns-in-Ok-clause-done
returns-in-Ok-clause-done g c = λ told ended.
    let p = c.play_phases-status.new.playing in
    let history = c.into_history.result.records in
    let same : p.script ≡ c.args.script = c.play_phases-status.ensures.script ∙ ap (λ (q : Progress). q.script) c.in-Ok.ensures.start in
    let is : history ≡ records_of p = ap (λ h. h.records) c.into_history.ensures.value in
    let legal : IsLegal c.args.script history = play_legal c.args.script p history same is c.into_history.ensures.legal in
    done_play c.args.script p history c.play_phases-status.result (g.W.Sink.taken c.args.sink.now) (g.W.Sink.taken c.play_phases-status.new.sink)
    ended same (ended_all p history is (c.play_phases-status.ensures.since (λ three. absurd (omega arith)))) (c.play_phases-status.ensures.whole ended)
    legal (c.every_history_keeps_the_law.ensures c.args.script history c.requires.sound legal.steps) (c.play_phases-status.ensures.all told ended)

pub returns-in-Ok-clause-in_part : goal.returns-in-Ok-clause-in_part
returns-in-Ok-clause-in_part g c = λ told which.
    let p = c.play_phases-status.new.playing in
    let history = c.into_history.result.records in
    let old = g.W.Sink.taken c.args.sink.now in
    let new = g.W.Sink.taken c.play_phases-status.new.sink in
    let same : p.script ≡ c.args.script = c.play_phases-status.ensures.script ∙ ap (λ (q : Progress). q.script) c.in-Ok.ensures.start in
    let is : history ≡ records_of p = ap (λ h. h.records) c.into_history.ensures.value in
    let legal : IsLegal c.args.script history = play_legal c.args.script p history same is c.into_history.ensures.legal in
    let part : Adds old (text_of history) new = elim which [
      | inl three ↦ adds_phases c.args.script history old new
          (c.phases_come_one_after_the_other.ensures.text c.args.script) c.requires.rising c.requires.ordered legal
          (play_wrote c.args.script p history old new same is (c.play_phases-status.ensures.phases told three))
      | inr five ↦ adds_last c.args.script history old new
          (c.phases_come_one_after_the_other.ensures.text c.args.script) c.requires.rising c.requires.ordered legal
          (play_last c.args.script p history old new same is (c.play_phases-status.ensures.last told five))
    ] in
    (legal, c.every_history_keeps_the_law.ensures c.args.script history c.requires.sound legal.steps, part)

pub returns-in-Ok-clause-last_phase : goal.returns-in-Ok-clause-last_phase
returns-in-Ok-clause-last_phase g c = λ told five.
    let p = c.play_phases-status.new.playing in
    let same : p.script ≡ c.args.script = c.play_phases-status.ensures.script ∙ ap (λ (q : Progress). q.script) c.in-Ok.ensures.start in
    play_last c.args.script p c.into_history.result.records (g.W.Sink.taken c.args.sink.now) (g.W.Sink.taken c.play_phases-status.new.sink)
    same (ap (λ h. h.records) c.into_history.ensures.value) (c.play_phases-status.ensures.last told five)

pub returns-in-Ok-clause-whole_phase : goal.returns-in-Ok-clause-whole_phase
returns-in-Ok-clause-whole_phase g c = λ five.
    let p = c.play_phases-status.new.playing in
    let history = c.into_history.result.records in
    let same : p.script ≡ c.args.script = c.play_phases-status.ensures.script ∙ ap (λ (q : Progress). q.script) c.in-Ok.ensures.start in
    let is : history ≡ records_of p = ap (λ h. h.records) c.into_history.ensures.value in
    play_ends c.args.script p history same (ended_all p history is (c.play_phases-status.ensures.since (λ three. absurd (omega arith))))
    c.play_phases-status.ensures.by_phases

pub returns-in-Err-clause-by_phases : goal.returns-in-Err-clause-by_phases
returns-in-Err-clause-by_phases g c = λ told three.
    let old = g.W.Sink.taken c.args.sink.now in
    subst (λ (r : List Record). WrotePhases c.args.script r old old) (sym c.given_up.ensures.history) (none_wrote c.args.script old)

pub returns-in-Err-clause-in_part : goal.returns-in-Err-clause-in_part
returns-in-Err-clause-in_part g c = λ told which.
    let old = g.W.Sink.taken c.args.sink.now in
    subst (λ (r : List Record). IsLegal c.args.script r × Keeps c.args.script r × Adds old (text_of r) old) (sym c.given_up.ensures.history)
    (nothing_legal c.args.script, c.every_history_keeps_the_law.ensures c.args.script [] c.requires.sound tt, none_added old _)
