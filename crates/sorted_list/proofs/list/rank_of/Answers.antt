use Rattle.std.proofs.Common.{rules, of_calls}
use Rattle.std.proofs.lemmas.Fn.{always_returns_same}
use Rattle.std.specs.BTreeMap.Range.{is_from_start}
use Rattle.std.specs.Prelude.{not}
use Rattle.sorted_list.proofs.Orders.{parted, rank_is}
use Rattle.sorted_list.proofs.list.rank_of.Goals as goal

pub returns : goal.returns
returns g c =
    rank_is (λ y. not (is_from_start g.T.Ord.cmp c.args.start.now y)) c.args.items.now c.partition_point.result c.partition_point.ensures.bound
    (c.partition_point.ensures.partitioned (λ y. not (is_from_start g.T.Ord.cmp c.args.start.now y))
    (always_returns_same _ _ _ (λ a r f k. search (rules, of_calls)))
    (parted g.T.Ord.cmp g.met.T.Ord.total c.args.start.now c.args.items.now c.requires))
