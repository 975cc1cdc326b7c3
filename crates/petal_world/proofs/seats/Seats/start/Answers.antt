-- One client more.
use Rattle.std.proofs.Common.{◌++◌, ◌∷◌, [], sym, ◌∙◌, arith}
use Rattle.std.proofs.lemmas.List.FromFn.{map-range_with_len_more}
use Rattle.spec_rules.specs.World.{setting_of, start}
use Rattle.petal_world.specs.Seats.{seat_of}
use Rattle.petal_world.proofs.seats.Seats.start.Goals as goal

pub loop-client-preserved : goal.loop-client-preserved
loop-client-preserved c =
    c.in_ok-push.ensures.items ∙ (λ i. c.loop-client.invariant i ++ c.in_ok-first_seat.ensures i ∷ [])
    ∙ sym (map-range_with_len_more (seat_of (setting_of c.args.script.now) (start (setting_of c.args.script.now))) 0 c.loop-client.client
    c.loop-client.client (omega arith))
