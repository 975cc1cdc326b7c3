use Rattle.std.proofs.Common.{◌∙◌, ap, arith, Some}
use Rattle.std.specs.BTreeMap.Range.{is_from_start}
use Rattle.sorted_list.proofs.Orders.{first_at, none_at}
use Rattle.sorted_list.proofs.list.first_from.Goals as goal

pub returns-then-at-items : goal.returns-then-at-items
returns-then-at-items g c =
    ap Some c.index-items-at.is
    ∙ first_at (is_from_start g.T.Ord.cmp c.args.start.now) c.args.items.now c.rank_of-at.result c.index-items-at.result c.rank_of-at.ensures
    (omega (arith, c.if-at-items.true))

pub returns-else-at-items : goal.returns-else-at-items
returns-else-at-items g c =
    none_at (is_from_start g.T.Ord.cmp c.args.start.now) c.args.items.now c.rank_of-at.result c.rank_of-at.ensures (omega (arith, c.if-at-items.false))
