use Rattle.petal_base.specs.Block.{fill_block}
use Rattle.petal_base.proofs.Blocks.{fill_block-whole}
use Rattle.petal_base.proofs.block.Block.fill.Goals as goal

pub returns : goal.returns
unfolding fill_block
returns c = c.in_ok-bytes.ensures

pub invariant_of-result : goal.invariant_of-result
unfolding fill_block
invariant_of-result c = rw c.in_ok-bytes.ensures (fill_block-whole c.args.x)
