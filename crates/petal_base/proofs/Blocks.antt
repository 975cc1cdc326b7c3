-- The blocks that scripts spell are blocks.
use Rattle.std.proofs.Common.{ℕ, ◌≡◌, ◌+◌, ◌%◌, ◌++◌, length, length-append, replicate}
use Rattle.std.proofs.lemmas.List.{length-replicate}
use Rattle.std.proofs.lemmas.List.FromFn.{length-map-range_with_len}
use Rattle.petal_base.specs.Block.{IsBlock, fill_block, halves_block, ramp_block, block_bytes}

pub fill_block-whole : (x : ℕ) → IsBlock (fill_block x)
unfolding fill_block
fill_block-whole x = length-replicate block_bytes x

-- two runs of the same length
length-two_runs : (n x y : ℕ) → length (replicate n x ++ replicate n y) ≡ n + n
length-two_runs n x y = simp (length-append, length-replicate)

pub halves_block-whole : (x y : ℕ) → IsBlock (halves_block x y)
unfolding halves_block
halves_block-whole x y = length-two_runs 32768 x y

pub ramp_block-whole : (x : ℕ) → IsBlock (ramp_block x)
unfolding ramp_block
ramp_block-whole x = length-map-range_with_len (λ i. (x + i) % 256) 0 block_bytes
