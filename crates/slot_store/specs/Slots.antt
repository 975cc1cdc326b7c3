-- Slots after a base, and how many are free.
use Rattle.std.specs.Prelude.{ℕ, ◌+◌, ◌*◌, Bool, true, false, List, [], ◌∷◌}
use Rattle.petal_base.specs.Block.{block_bytes}

-- where the slots begin, and which are in use
pub record Slots : Type 0 where
  pub base : ℕ
  pub used : List Bool

-- the first byte of a slot
abbrev pub slot_start : ℕ → ℕ → ℕ
slot_start base slot = base + block_bytes * slot

-- how many are not in use
abbrev pub free_in : List Bool → ℕ
free_in [] = 0
free_in (true ∷ us) = free_in us
free_in (false ∷ us) = 1 + free_in us
