use Rattle.std.proofs.Common.{refl, sym, ◌∙◌}
use Rattle.pair_memory.specs.Walking.{marked_in}
use Rattle.pair_memory.specs.PairMemory.{own_of}
use Rattle.link_blocks.specs.Walks.{idle_on}
use Rattle.link_blocks.proofs.Least.{walk_hit, walk_less, walk_none, walk_on}
use Rattle.link_blocks.proofs.Links.{idle_is}
use Rattle.link_blocks.proofs.walk.next_idle.Goals as goal

pub returns-then-is_idle : goal.returns-then-is_idle
returns-then-is_idle g c =
    let own = own_of c.args.side.now c.args.store.now in
    walk_hit (idle_on c.args.here.now.state c.args.row.now own c.args.kind) c.loop-block.after (marked_in c.args.row.now.map c.args.store.now.marks)
    refl c.next_marked.ensures c.loop-block.invariant c.in-Some.block c.in-Some.is (sym c.is_idle.ensures.value ∙ c.if-is_idle.true)
    ∙ idle_is c.args.here.now.state c.args.row.now own c.args.kind c.args.after

pub loop-block-smaller : goal.loop-block-smaller
loop-block-smaller g c =
    walk_less c.loop-block.after _ (marked_in c.args.row.now.map c.args.store.now.marks) c.next_marked.ensures c.in-Some.block c.in-Some.is
    c.is_idle.ensures.fits

pub loop-block-preserved : goal.loop-block-preserved
loop-block-preserved g c =
    let own = own_of c.args.side.now c.args.store.now in
    walk_on (idle_on c.args.here.now.state c.args.row.now own c.args.kind) c.loop-block.after (marked_in c.args.row.now.map c.args.store.now.marks)
    refl c.next_marked.ensures c.loop-block.invariant c.in-Some.block c.in-Some.is (sym c.is_idle.ensures.value ∙ c.if-is_idle.false)

pub returns : goal.returns
returns g c =
    let own = own_of c.args.side.now c.args.store.now in
    walk_none (idle_on c.args.here.now.state c.args.row.now own c.args.kind) c.loop-block.after (marked_in c.args.row.now.map c.args.store.now.marks)
    refl c.next_marked.ensures c.loop-block.invariant c.in_default.is
    ∙ idle_is c.args.here.now.state c.args.row.now own c.args.kind c.args.after
