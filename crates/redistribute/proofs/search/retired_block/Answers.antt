use Rattle.std.proofs.Common.{None, sym, ◌∙◌}
use Rattle.spec_rules.specs.State.{live}
use Rattle.redistribute.proofs.RetiredMarks.{block_hit, block_none, block_on, fewer_blocks, none_retired}
use Rattle.redistribute.proofs.search.retired_block.Goals as goal

pub returns-then-is_live_map : goal.returns-then-is_live_map
returns-then-is_live_map g c =
    sym (none_retired (live c.args.state.now) c.args.map None c.args.store.now.marks
    (c.is_live_map.ensures.live (sym c.is_live_map.ensures.value ∙ c.if-is_live_map.true)))

pub returns-then-not-live : goal.returns-then-not-live
returns-then-not-live g c =
    let next = sym c.next_mark.ensures.least ∙ c.in-Some.is in
    let hit = block_hit (live c.args.state.now) c.args.map c.loop-block.after c.args.store.now.marks c.in-Some.block next
    (sym c.live.ensures ∙ c.if-not-live.true) in
    sym (sym c.loop-block.invariant ∙ hit)

pub loop-block-smaller : goal.loop-block-smaller
loop-block-smaller g c =
    fewer_blocks c.args.map c.loop-block.after c.args.store.now.marks c.in-Some.block (sym c.next_mark.ensures.least ∙ c.in-Some.is)

pub loop-block-preserved : goal.loop-block-preserved
loop-block-preserved g c =
    block_on (live c.args.state.now) c.args.map c.loop-block.after c.args.store.now.marks c.in-Some.block
    (sym c.next_mark.ensures.least ∙ c.in-Some.is) (sym c.live.ensures ∙ c.if-not-live.false)
    ∙ c.loop-block.invariant

pub returns : goal.returns
returns g c =
    sym (sym c.loop-block.invariant
    ∙ block_none (live c.args.state.now) c.args.map c.loop-block.after c.args.store.now.marks (sym c.next_mark.ensures.least ∙ c.in_default.is))
