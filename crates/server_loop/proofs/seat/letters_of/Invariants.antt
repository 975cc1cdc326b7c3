-- The letters so far and those of the records left are all that are wanted.
use Rattle.std.proofs.Common.{◌≡◌, ◌++◌, drop}
use Rattle.server_loop.specs.Obeying.{sent_in}
use Rattle.server_loop.proofs.seat.letters_of.Given as goal

abbrev pub invariant-loop-at : goal.invariant-loop-at
invariant-loop-at l = l.letters ++ sent_in (drop l.at l.records) ≡ sent_in (drop l.from l.records)
