-- So far the letters before this one came behind the others.
use Rattle.std.proofs.Common.{◌≡◌, ◌++◌, take}
use Rattle.server_loop.proofs.seat.append.Given as goal

abbrev pub invariant-loop-letter : goal.invariant-loop-letter
invariant-loop-letter l = l.letters ≡ l.initial.letters ++ take l.letter-index l.more
