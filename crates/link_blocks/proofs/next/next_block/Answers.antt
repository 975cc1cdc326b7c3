use Rattle.std.proofs.Common.{Bool, sym, ap, ◌∙◌}
use Rattle.std.specs.Prelude.{if◌then◌else◌}
use Rattle.petal_msg.specs.declared.copying.NextCopy.TheVariants.{Wait, Nothing}
use Rattle.spec_rules.specs.Copies.{next_block}
use Rattle.pair_memory.specs.Kept.{store_of}
use Rattle.pair_memory.specs.PairMemory.{own_of}
use Rattle.link_blocks.proofs.next.next_block.Goals as goal

pub returns-then-is_link_under_way : goal.returns-then-is_link_under_way
returns-then-is_link_under_way g c =
    let is = sym (c.is_link_under_way.ensures (store_of c.args.store.now)) ∙ c.if-is_link_under_way.true in
    sym (ap (next_block c.args.here.now.state c.args.row.now (own_of c.args.side.now c.args.store.now)) c.in-None.is
    ∙ ap (λ (b : Bool). if b then Wait else Nothing) is)

pub returns-else-is_link_under_way : goal.returns-else-is_link_under_way
returns-else-is_link_under_way g c =
    let is = sym (c.is_link_under_way.ensures (store_of c.args.store.now)) ∙ c.if-is_link_under_way.false in
    sym (ap (next_block c.args.here.now.state c.args.row.now (own_of c.args.side.now c.args.store.now)) c.in-None.is
    ∙ ap (λ (b : Bool). if b then Wait else Nothing) is)
