-- So far the greatest of the clocks before this one.
use Rattle.std.proofs.Common.{◌≡◌, map, max, take}
use Rattle.std.specs.List.{fold}
use Rattle.petal_world.specs.declared.seat.Seat.{Seat}
use Rattle.petal_world.proofs.seats.Seats.greatest_clock.Given as goal

abbrev pub invariant-loop-seat : goal.invariant-loop-seat
invariant-loop-seat l = l.greatest ≡ fold max 0 (map (λ (seat : Seat). seat.clock) (take l.seat-index l.self))
