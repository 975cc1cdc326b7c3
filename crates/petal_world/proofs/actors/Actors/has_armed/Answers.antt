-- The open line arms one of the server's devices, or another's, or none.
use Rattle.std.proofs.Common.{ℕ, refl, ap, sym, ◌∙◌, subst}
use Rattle.std.specs.Prelude.{◌==◌}
use Rattle.client_core.specs.declared.order.Order.{Order}
use Rattle.spec_rules.proofs.Tests.{none_some, number_itself, same_numbers, same_some, true_false}
use Rattle.petal_world.specs.Lines.{HasArmed, arms_of}
use Rattle.petal_world.proofs.Allowed.{hindered}
use Rattle.petal_world.proofs.Lines.{armed_by, by_armed}
use Rattle.petal_world.proofs.actors.Actors.has_armed.Goals as goal

pub returns-in_default : goal.returns-in_default
returns-in_default g c = λ setting w h. hindered (λ armed.
    let by = by_armed w c.args.server c.args.line armed in
    none_some refl ((c.in_default.ensures setting w c.args.line by.0 c.args.server h).1 by.1))

pub returns-then-not-arms : goal.returns-then-not-arms
returns-then-not-arms g c = λ setting w h. hindered (λ armed.
    let by = by_armed w c.args.server c.args.line armed in
    let given = same_some ((c.in-Some.ensures setting w c.args.line by.0 c.args.server h).1 by.1) in
    true_false (c.arms.ensures ∙ ap (λ (t : ℕ × Order × ℕ). arms_of t.1) given ∙ by.2) c.if-not-arms.true)

pub returns-then-own-line : goal.returns-then-own-line
returns-then-own-line g c = λ setting w h. hindered (λ armed.
    let by = by_armed w c.args.server c.args.line armed in
    let given = same_some ((c.in-Some.ensures setting w c.args.line by.0 c.args.server h).1 by.1) in
    absurd (c.if-own-line.true (ap (λ (t : ℕ × Order × ℕ). t.0) given)))

pub returns : goal.returns
returns g c = λ setting w h. (
  (λ same.
      let by = (c.in-Some.ensures setting w c.in-Some.own c.in-Some.order c.in-Some.other h).0 refl in
      let armed = armed_by w c.in-Some.other c.in-Some.own c.in-Some.order by (sym c.arms.ensures ∙ c.if-not-arms.false) in
      subst (λ (n : ℕ). HasArmed w n c.args.line) (same_numbers c.in-Some.other c.args.server same)
      (subst (λ (line : ℕ). HasArmed w c.in-Some.other line) c.if-own-line.false armed)),
  (λ armed.
      let by = by_armed w c.args.server c.args.line armed in
      let given = same_some ((c.in-Some.ensures setting w c.args.line by.0 c.args.server h).1 by.1) in
      ap (λ (t : ℕ × Order × ℕ). t.2 == c.args.server) given ∙ number_itself c.args.server),
)
