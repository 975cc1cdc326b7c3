-- The contents that a line spells for a block.
use Rattle.std.specs.Prelude.{ℕ, List}
use Rattle.petal_base.specs.Block.{fill_block, halves_block, ramp_block}
use Rattle.script_lines.specs.declared.request.Pattern.{Pattern}
use Rattle.script_lines.specs.declared.request.Pattern.TheVariants.{Fill, Halves, Ramp}

-- the bytes of the block
abbrev pub pattern_block : Pattern → List ℕ
pattern_block (Fill x) = fill_block x
pattern_block (Halves x y) = halves_block x y
pattern_block (Ramp x) = ramp_block x
