use Rattle.sorted_list.proofs.Orders.{gap_found, hit_found}
use Rattle.sorted_list.proofs.list.position.Goals as goal

pub returns-clause-hit : goal.returns-clause-hit
returns-clause-hit g c =
    hit_found g.T.Ord.cmp c.args.item.now g.met.T.Ord.total c.args.items.now c.binary_search.result c.requires c.binary_search.ensures.bound
    c.binary_search.ensures.position

pub returns-clause-gap : goal.returns-clause-gap
returns-clause-gap g c =
    gap_found g.T.Ord.cmp c.args.item.now g.met.T.Ord.total c.args.items.now c.binary_search.result c.requires c.binary_search.ensures.bound
    c.binary_search.ensures.position
