use Rattle.petal_base.specs.Block.{halves_block}
use Rattle.petal_base.proofs.Blocks.{halves_block-whole}
use Rattle.petal_base.proofs.block.Block.halves.Goals as goal

pub returns : goal.returns
unfolding halves_block
returns c = rw (c.in_ok-extend_from_slice.ensures.items, c.deref.ensures.value, c.in_ok-second.ensures, c.in_ok-bytes.ensures)

pub invariant_of-result : goal.invariant_of-result
unfolding halves_block
invariant_of-result c = rw (c.in_ok-extend_from_slice.ensures.items, c.deref.ensures.value, c.in_ok-second.ensures, c.in_ok-bytes.ensures)
    (halves_block-whole c.args.x c.args.y)
