use Rattle.std.proofs.Common.{is_some, rules, ap, ◌∙◌}
use Rattle.std.proofs.lemmas.Map.Made.{filter_same_pairs}
use Rattle.spec_rules.specs.State.{link_named}
use Rattle.pair_memory.specs.Copies.{by_link, id_of_key}
use Rattle.pair_memory.proofs.ByLink.{left_links}
use Rattle.pair_memory.proofs.links.LinkTable.keep_live.Goals as goal

pub returns : goal.returns
returns g c =
    let left = filter_same_pairs _ (λ row. is_some (link_named c.args.state.now (id_of_key row.0))) _ (λ k v b w f' t. search rules)
    _ _ c.retain.ensures.filtered in
    rw (← c.self.view_is) (ap by_link left ∙ left_links (λ id. is_some (link_named c.args.state.now id)) c.self.inside.rows)
