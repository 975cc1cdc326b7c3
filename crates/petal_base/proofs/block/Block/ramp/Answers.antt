use Rattle.petal_base.specs.Block.{ramp_block}
use Rattle.petal_base.proofs.Blocks.{ramp_block-whole}
use Rattle.petal_base.proofs.block.Block.ramp.Goals as goal

pub returns : goal.returns
unfolding ramp_block
returns c = c.in_ok-bytes.ensures

pub invariant_of-result : goal.invariant_of-result
unfolding ramp_block
invariant_of-result c = rw c.in_ok-bytes.ensures (ramp_block-whole c.args.x)
