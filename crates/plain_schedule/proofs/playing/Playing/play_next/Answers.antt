-- The next phase ends, or the run is given up in it.
use Rattle.std.proofs.Common.{◌<◌, ◌+◌, length, sym, ap, ◌∙◌, subst}
use Rattle.script_lines.specs.declared.script.Script.{Script}
use Rattle.plain_schedule.specs.Phases.{Progress}
use Rattle.plain_schedule.proofs.Ended.{kept, kept_next, plays_on, told_stays, ends_next}
use Rattle.plain_schedule.proofs.playing.Playing.play_next.Goals as goal

pub invariant_of-self : goal.invariant_of-self
invariant_of-self g c =
    let i = c.self.inside in
    let strict = c.play_phase_lines-played.ensures.went_on.2 ∙ c.self.invariant.1 in
    let legal = c.records-told.ensures.legal strict in (
      kept_next i.rounds.world c.play_phase_lines-played.new.rounds.world i.told i.place i.phase c.self.invariant.0 c.play_phase_lines-played.ensures.went_on
          legal (length c.records-told.result.now) c.lines_of_phase-count.result c.as_slice-lines.result.now c.in-Ok.answers
          (ap length c.records-told.ensures.value) (subst (λ (p : Progress). p.phases < 4294967296) (sym c.self.view_is) c.requires.next)
          (c.as_slice-lines.ensures ∙ ap (λ (s : Script). s.lines) c.script.ensures) c.lines_of_phase-count.ensures.run c.in-Ok.ensures.answers
          c.in-Ok.ensures.exactly,
      strict,
    )

pub invariant_of-self-in-Err : goal.invariant_of-self-in-Err
invariant_of-self-in-Err g c =
    let i = c.self.inside in
    let strict = c.play_phase_lines-played.ensures.went_on.2 ∙ c.self.invariant.1 in
    let legal = c.records-told.ensures.legal strict in (
      kept i.rounds.world c.play_phase_lines-played.new.rounds.world i.told i.place i.phase c.self.invariant.0 c.play_phase_lines-played.ensures.went_on
          legal,
      strict,
    )

pub returns-in-Ok-clause-plays_on : goal.returns-in-Ok-clause-plays_on
returns-in-Ok-clause-plays_on g c =
    let i = c.self.inside in
    let strict = c.play_phase_lines-played.ensures.went_on.2 ∙ c.self.invariant.1 in
    let legal = c.records-told.ensures.legal strict in
    plays_on i.rounds.world c.play_phase_lines-played.new.rounds.world i.told i.place i.phase c.self.invariant.0 c.play_phase_lines-played.ensures.went_on
    legal c.args.self.now c.self.view_is (length c.records-told.result.now) (i.place + c.lines_of_phase-count.result) (i.phase + 1)
    (kept_next i.rounds.world c.play_phase_lines-played.new.rounds.world i.told i.place i.phase c.self.invariant.0 c.play_phase_lines-played.ensures.went_on
    legal (length c.records-told.result.now) c.lines_of_phase-count.result c.as_slice-lines.result.now c.in-Ok.answers
    (ap length c.records-told.ensures.value) (subst (λ (p : Progress). p.phases < 4294967296) (sym c.self.view_is) c.requires.next)
    (c.as_slice-lines.ensures ∙ ap (λ (s : Script). s.lines) c.script.ensures) c.lines_of_phase-count.ensures.run c.in-Ok.ensures.answers
    c.in-Ok.ensures.exactly)

pub returns-in-Ok-clause-ends : goal.returns-in-Ok-clause-ends
returns-in-Ok-clause-ends g c =
    let i = c.self.inside in
    let strict = c.play_phase_lines-played.ensures.went_on.2 ∙ c.self.invariant.1 in
    let legal = c.records-told.ensures.legal strict in
    ends_next i.rounds.world c.play_phase_lines-played.new.rounds.world i.told i.place i.phase c.self.invariant.0 c.play_phase_lines-played.ensures.went_on
    legal c.args.self.now c.self.view_is (length c.records-told.result.now) c.in-Ok.answers (ap length c.records-told.ensures.value)
    c.in-Ok.ensures.answers

pub returns-in-Err-clause-plays_on : goal.returns-in-Err-clause-plays_on
returns-in-Err-clause-plays_on g c =
    let i = c.self.inside in
    let strict = c.play_phase_lines-played.ensures.went_on.2 ∙ c.self.invariant.1 in
    let legal = c.records-told.ensures.legal strict in
    plays_on i.rounds.world c.play_phase_lines-played.new.rounds.world i.told i.place i.phase c.self.invariant.0 c.play_phase_lines-played.ensures.went_on
    legal c.args.self.now c.self.view_is i.told i.place i.phase
    (kept i.rounds.world c.play_phase_lines-played.new.rounds.world i.told i.place i.phase c.self.invariant.0 c.play_phase_lines-played.ensures.went_on
    legal)

pub returns-in-Err-clause-gave_up : goal.returns-in-Err-clause-gave_up
returns-in-Err-clause-gave_up g c =
    let i = c.self.inside in
    let strict = c.play_phase_lines-played.ensures.went_on.2 ∙ c.self.invariant.1 in
    let legal = c.records-told.ensures.legal strict in
    told_stays i.rounds.world c.play_phase_lines-played.new.rounds.world i.told i.place i.phase c.self.invariant.0 c.play_phase_lines-played.ensures.went_on
    legal c.args.self.now c.self.view_is
