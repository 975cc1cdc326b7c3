-- An operation as a letter has moved it on.
use Rattle.std.specs.Prelude.{◌≡◌, Some}
use Rattle.petal_base.specs.declared.cell.Cell.{Cell}
use Rattle.petal_table.specs.Table.{Table, at}
use Rattle.petal_msg.specs.declared.operation.Pending.{Pending}
use Rattle.spec_rules.specs.Store.{cell_cmp}
use Rattle.pair_lock.specs.Pairs.{at_stage}

-- what is pending on its cell is the same but for its stage, and its copy is put or not as before
pub record IsMoved (pending : Table Cell Pending) (op : Pending) : Type 0 where
  pub was : Pending
  pub there : at cell_cmp pending op.cell ≡ Some was
  pub moved : at_stage was op.stage ≡ op
  pub put : was.stage.put ≡ op.stage.put
