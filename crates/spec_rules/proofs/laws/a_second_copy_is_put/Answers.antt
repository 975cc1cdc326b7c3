-- It was put there.
use Rattle.std.proofs.Common.{[], ap, refl}
use Rattle.std.specs.Prelude.{unwrap_or}
use Rattle.petal_base.specs.Cells.{cell_of}
use Rattle.spec_rules.specs.Store.{Chain}
use Rattle.spec_rules.proofs.CellTables.{cell_same}
use Rattle.spec_rules.proofs.laws.a_second_copy_is_put.Goals as goal

pub returns : goal.returns
returns c = record {
  chain = λ here own number key origin bytes. ap (λ o. unwrap_or {T = Chain} o []) (cell_same own.store.chains (cell_of key) _);
  row = λ here own number key origin bytes. refl;
  last = λ here own number key origin bytes. cell_same own.pairs.last (cell_of key) _;
}
