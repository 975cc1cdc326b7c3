-- So far the clients before this one.
use Rattle.std.proofs.Common.{◌≡◌, map}
use Rattle.std.specs.List.{range_with_len}
use Rattle.spec_rules.specs.World.{setting_of, start}
use Rattle.petal_world.specs.Seats.{seat_of}
use Rattle.petal_world.proofs.seats.Seats.start.Given as goal

abbrev pub invariant-loop-client : goal.invariant-loop-client
invariant-loop-client l = l.seats.items ≡ map (seat_of (setting_of l.script) (start (setting_of l.script))) (range_with_len 0 l.client)
