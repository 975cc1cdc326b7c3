use Rattle.law_standing.proofs.Imports.{In, nobody, number, put, refl}
use Rattle.law_standing.proofs.some_value.Goals as goal

pub returns : goal.returns
unfolding number In put nobody
returns c v = refl
