use Rattle.law_agreement.proofs.Imports.{In, nobody, number, put, put_at, refl}
use Rattle.law_agreement.proofs.some_value.Goals as goal

pub returns : goal.returns
unfolding number In put put_at nobody
returns c v = refl
