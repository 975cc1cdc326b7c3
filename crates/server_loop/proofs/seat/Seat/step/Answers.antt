-- The seat has one record more.
use Rattle.std.proofs.Common.{◌++◌, ◌∷◌, [], ap, ◌∙◌}
use Rattle.spec_history.specs.declared.record.Record.{Record}
use Rattle.server_loop.proofs.Growing.{grown_seat}
use Rattle.server_loop.specs.Seat.{own_record}
use Rattle.server_loop.proofs.seat.Seat.step.Goals as goal

pub invariant_of-self-2 : goal.invariant_of-self-2
invariant_of-self-2 g c =
    let own = c.in_ok-own.ensures
    ∙ (λ i. own_record c.self.inside.me c.args.stamp c.self.inside.phase (c.in_ok-named.ensures i) (c.as_slice.ensures i)) in
    grown_seat _ _ _ _ _ c.self.invariant _ c.self.view_is c.requires.ready c.args.step.now c.in_ok-taken.taken.end c.args.stamp c.self.inside.phase
    c.requires.own c.requires.may
    _ _ _ c.in_ok-taken.ensures.site c.in_ok-taken.ensures.plans (c.in_ok-shared.ensures ∙ c.in_ok-taken.ensures.letters)
    _ c.in_ok-letters.ensures
    _ (c.in_ok-push.ensures.ok ∙ ap (λ (o : Record). c.self.inside.records ++ o ∷ []) own)
