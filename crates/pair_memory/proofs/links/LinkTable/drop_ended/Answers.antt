use Rattle.std.proofs.Common.{not, rules, ap, ◌∙◌}
use Rattle.std.proofs.lemmas.Map.Made.{filter_same_pairs}
use Rattle.pair_memory.specs.Copies.{by_link, id_of_key}
use Rattle.pair_memory.specs.Ended.{link_ends}
use Rattle.pair_memory.proofs.ByLink.{left_links}
use Rattle.pair_memory.proofs.links.LinkTable.drop_ended.Goals as goal

pub returns : goal.returns
returns g c =
    let left = filter_same_pairs _ (λ row. not (link_ends c.args.here.now.state c.args.next.now c.args.entry.now (id_of_key row.0)))
    _ (λ k v b w f' t. search rules) _ _ c.retain.ensures.filtered in
    rw (← c.self.view_is) (ap by_link left ∙ left_links (λ id. not (link_ends c.args.here.now.state c.args.next.now c.args.entry.now id)) c.self.inside.rows)
