-- Blocks: lists of 65,536 bytes, and the contents that scripts spell.
use Rattle.std.specs.Prelude.{ℕ, ◌+◌, ◌%◌, ◌≡◌, List, ◌++◌, length, map, replicate}
use Rattle.std.specs.List.{range_with_len}

-- how many bytes a block has
abbrev pub block_bytes : ℕ
block_bytes = 65536

-- a list of so many bytes
abbrev pub IsBlock : List ℕ → Type 0
IsBlock bytes = length bytes ≡ block_bytes

-- one byte throughout
unfoldable pub fill_block : ℕ → List ℕ
fill_block x = replicate block_bytes x

-- what a read gives where nothing was written
abbrev pub zero_block : List ℕ
zero_block = fill_block 0

-- one byte in the first half and another in the second
unfoldable pub halves_block : ℕ → ℕ → List ℕ
halves_block x y = replicate 32768 x ++ replicate 32768 y

-- byte i is (x + i) mod 256
unfoldable pub ramp_block : ℕ → List ℕ
ramp_block x = map (λ i. (x + i) % 256) (range_with_len 0 block_bytes)
