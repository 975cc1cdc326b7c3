use Rattle.law_standing.proofs.Imports.{In, nobody, number, put, refl}
use Rattle.law_standing.proofs.schedules.a_later_ballot_takes_over.Goals as goal

pub returns-clause-stands : goal.returns-clause-stands
unfolding number In put nobody
returns-clause-stands c x y = refl

pub returns-clause-letters : goal.returns-clause-letters
unfolding number In put nobody
returns-clause-letters c x y = refl
