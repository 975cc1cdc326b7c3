-- What is left of a link after the last key that is remembered.
use Rattle.std.proofs.Common.{◌≡◌, ℕ, Option, Some, None, refl}
use Rattle.global_tables.specs.declared.link.LinkRow.{LinkRow}
use Rattle.petal_table.specs.Table.{at}
use Rattle.spec_rules.specs.Fills.{fill_left, fill_of, next_fill, region_to_move}
use Rattle.spec_rules.specs.Server.{PairState}
use Rattle.spec_rules.specs.State.{State, id_of, link_cmp}
use Rattle.redistribute.specs.Next.{left_after}

left_is : (state : State) (row : LinkRow) (region : Option ℕ) (me : ℕ) (own : PairState)
    → left_after state row region (at link_cmp own.filled (id_of row)) own.store.chains ≡ fill_left state me row own region
unfolding next_fill
left_is state row None me own = refl
left_is state row (Some region) me own = refl

-- what is left after the last key that is remembered
pub fill_is : (state : State) (me : ℕ) (row : LinkRow) (own : PairState)
    → left_after state row (region_to_move state me row) (at link_cmp own.filled (id_of row)) own.store.chains ≡ fill_of state me row own
fill_is state me row own = left_is state row (region_to_move state me row) me own
