-- The line that stands next is of no earlier phase than the next one; where none does, each is answered.
use Rattle.std.proofs.Common.{◌≡◌, ◌≤◌, ◌<◌, true, List, Some, length, refl, ap, ◌∙◌, subst, arith, rules}
use Rattle.std.proofs.lemmas.Option.{slice_get_read}
use Rattle.std.specs.Prelude.{slice_get}
use Rattle.script_lines.specs.declared.request.Line.{Line}
use Rattle.script_lines.specs.declared.script.Script.{Script}
use Rattle.spec_history.specs.Text.{answers_of}
use Rattle.plain_schedule.specs.Phases.{Progress}
use Rattle.spec_history.specs.Order.{all_answered}
use Rattle.plain_schedule.proofs.Ended.{all_lines, line_to_play}
use Rattle.plain_schedule.proofs.playing.Playing.next_phase.Goals as goal

pub returns-in-Some-clause-some : goal.returns-in-Some-clause-some
returns-in-Some-clause-some c =
    let i = c.self.inside in
    let lines : c.as_slice.result.now ≡ i.rounds.world.script.lines = c.as_slice.ensures ∙ ap (λ (s : Script). s.lines) c.script.ensures in
    let is : slice_get i.rounds.world.script.lines i.place ≡ Some c.in-Some.line.now =
    subst (λ (ls : List Line). slice_get ls i.place ≡ Some c.in-Some.line.now) lines
    (slice_get_read c.as_slice.result.now (length c.as_slice.result.now) i.place c.in-Some.line.now refl c.in-Some.ensures.lookup.3.0
    c.in-Some.ensures.lookup.1) in
    let le = line_to_play i.rounds.world.script i.rounds.world.records i.told i.place i.phase c.self.invariant.0 c.in-Some.line.now is in
    subst (λ (p : Progress). (p.phases ≤ c.number_of.result) × (c.number_of.result < 4294967296)) c.self.view_is
    (omega (arith, le, c.number_of.ensures.value), c.number_of.ensures.small)

pub returns-in-None-clause-none : goal.returns-in-None-clause-none
returns-in-None-clause-none c =
    let i = c.self.inside in
    let lines : c.as_slice.result.now ≡ i.rounds.world.script.lines = c.as_slice.ensures ∙ ap (λ (s : Script). s.lines) c.script.ensures in
    let through : length c.as_slice.result.now ≤ i.place = search rules in
    subst (λ (p : Progress). all_answered (answers_of p.ended) p.script.lines ≡ true) c.self.view_is
    (all_lines i.rounds.world.script i.rounds.world.records i.told i.place i.phase c.self.invariant.0 (omega (arith, through, ap length lines)))
