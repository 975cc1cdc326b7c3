-- What the laws need to know of a state that plain entries made.
use Rattle.law_state.specs.Imports.{Cell, DiskView, LinkRow, State, cell_asked, cell_link, find, servers_of}
use Rattle.std.specs.Prelude.{◌<◌, ◌≡◌, ◌≢◌, Bool, List, None, Some, false, true, ℕ}
use Rattle.spec_rules.specs.State.{live}
use Rattle.law_state.specs.LinkRows.{IsServed}

-- the link of a cell is between two servers, and served
pub record IsLinked (state : State) (cell : Cell) (row : LinkRow) : Type 0 where
  pub apart : row.primary ≢ row.secondary
  pub primary : row.primary < servers_of state
  pub secondary : row.secondary < servers_of state
  pub served : IsServed state row

-- the cell's link
pub record HasLink (state : State) (cell : Cell) : Type 0 where
  pub row : LinkRow
  pub is : cell_link state cell ≡ Some row

-- a cell without a link is not live, and one that is live has a link; and each block of a disk has a live cell, under the map by which the disk's
-- users name it, also for a read that was told that the new map has nothing
pub record IsSteady (state : State) : Type 0 where
  pub linked : (cell : Cell) (row : LinkRow) → cell_link state cell ≡ Some row → IsLinked state cell row
  pub retired : (cell : Cell) → cell_link state cell ≡ None → live state cell ≡ false
  pub lives : (cell : Cell) → live state cell ≡ true → HasLink state cell
  pub served : (name : List ℕ) (disk : DiskView) (block : ℕ) (told : Bool) → find state name ≡ Some disk
      → HasLink state (cell_asked state disk block told) × (live state (cell_asked state disk block told) ≡ true)
