-- How an operation ends, and what else the server has.
use Rattle.std.proofs.Common.{◌≡◌, refl}
use Rattle.petal_table.specs.Table.{Table}
use Rattle.petal_base.specs.declared.cell.Cell.{Cell}
use Rattle.petal_msg.specs.declared.operation.Ending.{Ending}
use Rattle.petal_msg.specs.declared.operation.OpKind.{OpKind}
use Rattle.petal_msg.specs.declared.operation.OpKind.TheVariants as kind
use Rattle.petal_msg.specs.declared.operation.Pending.{Pending}
use Rattle.spec_rules.specs.Server.{JobContext, PairState}
use Rattle.spec_rules.specs.Store.{Store}
use Rattle.spec_rules.specs.Writes.{ends}

-- the own part with these operations pending, and this store
abbrev pub own_with : Table Cell Pending → Store → PairState → PairState
own_with t s own = record own { pairs = record own.pairs { pending = t }; store = s }

-- what is pending and what the store has stays
pub ends_pending : (here : JobContext) (own : PairState) (op : Pending) (why : OpKind) (ending : Ending)
    → (ends here own op why ending).own.pairs.pending ≡ own.pairs.pending
ends_pending here own op kind.Write ending = refl
ends_pending here own op kind.Fill ending = refl
ends_pending here own op kind.Copy ending = refl

-- and nothing of it matters
pub ends_with : (here : JobContext) (own : PairState) (op : Pending) (why : OpKind) (ending : Ending) (t : Table Cell Pending) (s : Store)
    → ends here (own_with t s own) op why ending ≡ record (ends here own op why ending) { own = own_with t s (ends here own op why ending).own }
ends_with here own op kind.Write ending t s = refl
ends_with here own op kind.Fill ending t s = refl
ends_with here own op kind.Copy ending t s = refl
