-- So far the letters before this one were added.
use Rattle.std.proofs.Common.{◌≡◌, take}
use Rattle.server_host.specs.Sent.{with_letters}
use Rattle.server_host.proofs.sent.Sent.add_all.Given as goal

abbrev pub invariant-loop-letter : goal.invariant-loop-letter
invariant-loop-letter l = l.self ≡ with_letters l.fn.self (take l.letter-index l.letters)
