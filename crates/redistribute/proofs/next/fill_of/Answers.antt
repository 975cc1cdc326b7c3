use Rattle.std.proofs.Common.{ap, ◌∙◌, Option}
use Rattle.petal_base.specs.declared.cell.Key.{Key}
use Rattle.kept_chains.specs.Kept.{store_of}
use Rattle.pair_memory.specs.PairMemory.{own_of}
use Rattle.spec_rules.specs.Fills.{region_to_move}
use Rattle.redistribute.specs.Next.{left_after}
use Rattle.redistribute.proofs.FillOf.{fill_is}
use Rattle.redistribute.proofs.next.fill_of.Goals as goal

pub returns : goal.returns
returns g c =
    let here = c.args.here.now in
    let row = c.args.row.now in
    c.left_after.ensures
    ∙ ap (λ (o : Option Key). left_after here.state row (region_to_move here.state here.me row) o (store_of c.args.store.now).chains) c.last_filled.ensures
    ∙ fill_is here.state here.me row (own_of c.args.side.now c.args.store.now)
