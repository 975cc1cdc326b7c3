-- The open line gives the server this order, or another one, or none does.
use Rattle.std.proofs.Common.{ℕ, Some, refl, ap}
use Rattle.client_core.specs.declared.order.Order.{Order}
use Rattle.spec_rules.proofs.Tests.{none_some, same_some, true_false}
use Rattle.petal_world.proofs.actors.Actors.open_line.Goals as goal

pub returns-in_default : goal.returns-in_default
returns-in_default g c = λ setting w line h. (
  (λ so. none_some refl so),
  (λ by. none_some refl ((c.in_default.ensures setting w line c.args.order c.args.server h).1 by)),
)

pub returns-then-not-is_same_order : goal.returns-then-not-is_same_order
returns-then-not-is_same_order g c = λ setting w line h. (
  (λ so. none_some refl so),
  (λ by.
      let given = same_some ((c.in-Some.ensures setting w line c.args.order c.args.server h).1 by) in
      true_false ((c.is_same_order.ensures c.requires).1 (ap (λ (t : ℕ × Order × ℕ). t.1) given)) c.if-not-is_same_order.true),
)

pub returns-then-other-server : goal.returns-then-other-server
returns-then-other-server g c = λ setting w line h. (
  (λ so. none_some refl so),
  (λ by.
      let given = same_some ((c.in-Some.ensures setting w line c.args.order c.args.server h).1 by) in
      absurd (c.if-other-server.true (ap (λ (t : ℕ × Order × ℕ). t.2) given))),
)

pub returns : goal.returns
returns g c = λ setting w line h.
    let gives = c.in-Some.ensures setting w line c.args.order c.args.server h in
    let same = (c.is_same_order.ensures c.requires).0 c.if-not-is_same_order.false in (
      (λ so. gives.0 (λ i. Some (same_some so i, same i, c.if-other-server.false i))),
      (λ by. ap (λ (t : ℕ × Order × ℕ). Some t.0) (same_some (gives.1 by))),
    )
