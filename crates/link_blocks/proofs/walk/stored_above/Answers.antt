use Rattle.std.proofs.Common.{sym, ◌∙◌}
use Rattle.pair_memory.specs.Kept.{chains_of}
use Rattle.pair_memory.specs.Walking.{stored_in}
use Rattle.link_blocks.specs.Walks.{on_link}
use Rattle.link_blocks.proofs.Least.{walk_hit, walk_less, walk_none, walk_on}
use Rattle.link_blocks.proofs.Links.{stored_is}
use Rattle.link_blocks.proofs.walk.stored_above.Goals as goal

pub returns-then-is_kept : goal.returns-then-is_kept
returns-then-is_kept g c =
    walk_hit (on_link c.args.here.now.state c.args.row.now) c.loop-block.after (stored_in c.args.row.now.map (chains_of c.args.store.now.entries))
    (stored_is c.args.here.now.state c.args.row.now (chains_of c.args.store.now.entries)) c.next_stored.ensures c.loop-block.invariant
    c.in-Some.block c.in-Some.is
    (sym c.is_kept.ensures.value ∙ c.if-is_kept.true)

pub loop-block-smaller : goal.loop-block-smaller
loop-block-smaller g c =
    walk_less c.loop-block.after _ (stored_in c.args.row.now.map (chains_of c.args.store.now.entries)) c.next_stored.ensures c.in-Some.block
    c.in-Some.is c.is_kept.ensures.fits

pub loop-block-preserved : goal.loop-block-preserved
loop-block-preserved g c =
    walk_on (on_link c.args.here.now.state c.args.row.now) c.loop-block.after (stored_in c.args.row.now.map (chains_of c.args.store.now.entries))
    (stored_is c.args.here.now.state c.args.row.now (chains_of c.args.store.now.entries)) c.next_stored.ensures c.loop-block.invariant
    c.in-Some.block c.in-Some.is
    (sym c.is_kept.ensures.value ∙ c.if-is_kept.false)

pub returns : goal.returns
returns g c =
    walk_none (on_link c.args.here.now.state c.args.row.now) c.loop-block.after (stored_in c.args.row.now.map (chains_of c.args.store.now.entries))
    (stored_is c.args.here.now.state c.args.row.now (chains_of c.args.store.now.entries)) c.next_stored.ensures c.loop-block.invariant c.in_default.is
