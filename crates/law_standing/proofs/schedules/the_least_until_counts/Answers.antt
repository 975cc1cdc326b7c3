use Rattle.law_standing.proofs.Imports.{In, nobody, number, put, refl}
use Rattle.law_standing.proofs.schedules.the_least_until_counts.Goals as goal

pub returns : goal.returns
unfolding number In put nobody
returns c x y z u v = refl
