use Rattle.redistribute.proofs.letters.fill_letter.Goals as goal

pub returns-in-Some-clause-letter : goal.returns-in-Some-clause-letter
returns-in-Some-clause-letter g c = rw c.in-Some.is c.letter_of.ensures.letter
