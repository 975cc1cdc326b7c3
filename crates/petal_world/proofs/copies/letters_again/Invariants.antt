-- So far the letters before this one were shared.
use Rattle.std.proofs.Common.{◌≡◌, take}
use Rattle.petal_world.proofs.copies.letters_again.Given as goal

abbrev pub invariant-loop-letter : goal.invariant-loop-letter
invariant-loop-letter l = l.again ≡ take l.letter-index l.letters
