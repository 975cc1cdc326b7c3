-- The line is a settle that was called, or it has stopped the server, blanked it, armed one of its devices, or started it.
use Rattle.std.proofs.Common.{◌<◌, inl, inr, refl, arith}
use Rattle.spec_rules.proofs.Tests.{true_false}
use Rattle.petal_world.proofs.Lines.{due_of, glance_settle, is_due, settle_glance}
use Rattle.petal_world.proofs.actors.Actors.may_glance.Goals as goal

pub returns-then-round-ne0 : goal.returns-then-round-ne0
returns-then-round-ne0 g c = λ setting w h is.
    let settle = c.has_called_settle.ensures setting w h in
    let counts : 0 < c.args.round = omega arith in (
      (λ t. inr (settle_glance setting w c.args.line c.args.round (settle.0 t) counts)),
      (λ may. elim may [
        | inl due ↦ absurd (c.if-round-ne0.true due.once)
        | inr glance ↦ settle.1 (glance_settle setting w c.args.line c.args.round glance)
      ]),
    )

pub returns-then-has_stopped : goal.returns-then-has_stopped
returns-then-has_stopped g c = λ setting w h is. (
  (λ t. inl (is_due w c.args.server c.args.line c.args.round c.if-round-ne0.false
      (inl ((c.has_stopped.ensures setting w h is).0 c.if-has_stopped.true)))),
  (λ may. refl),
)

pub returns-then-has_blanked : goal.returns-then-has_blanked
returns-then-has_blanked g c = λ setting w h is. (
  (λ t. inl (is_due w c.args.server c.args.line c.args.round c.if-round-ne0.false
      (inr (inl ((c.has_blanked.ensures setting w h).0 c.if-has_blanked.true))))),
  (λ may. refl),
)

pub returns-then-has_armed : goal.returns-then-has_armed
returns-then-has_armed g c = λ setting w h is. (
  (λ t. inl (is_due w c.args.server c.args.line c.args.round c.if-round-ne0.false
      (inr (inr (inl ((c.has_armed.ensures setting w h).0 c.if-has_armed.true)))))),
  (λ may. refl),
)

pub returns : goal.returns
returns g c = λ setting w h is. (
  (λ t. inl (is_due w c.args.server c.args.line c.args.round c.if-round-ne0.false
      (inr (inr (inr ((c.has_started.ensures setting w h is).0 t)))))),
  (λ may. elim may [
    | inr glance ↦ let counts = glance.counts in let zero = c.if-round-ne0.false in absurd (omega arith)
    | inl due ↦ elim (due_of w c.args.server c.args.line c.args.round due) [
      | inl done ↦ true_false ((c.has_stopped.ensures setting w h is).1 done) c.if-has_stopped.false
      | inr (inl done) ↦ true_false ((c.has_blanked.ensures setting w h).1 done) c.if-has_blanked.false
      | inr (inr (inl done)) ↦ true_false ((c.has_armed.ensures setting w h).1 done) c.if-has_armed.false
      | inr (inr (inr done)) ↦ (c.has_started.ensures setting w h is).1 done
    ]
  ]),
)
