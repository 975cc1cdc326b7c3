-- How a region comes to its new map: each link of the old one is noted after its own Moved.
use Rattle.law_state.specs.Imports.{Cell, Command, IsPrefix, Moved, region_of, state_after}
use Rattle.std.specs.Prelude.{[], ◌++◌, ◌∷◌, ◌≡◌, List, ℕ}
use Rattle.law_state.specs.Homes.{stage_at}

-- a Moved of the link for the region of this cell of the old map, while the region was on its way
pub record HasMovedIn (servers : ℕ) (whole : List Command) (cell : Cell) (link : ℕ) : Type 0 where
  pub until : List Command
  pub stands : IsPrefix (until ++ Moved cell.map (region_of cell.block) link ∷ []) whole
  pub leaves : stage_at (state_after servers until) cell ≡ 3
