-- What a server remembers of copies, by the links as they are in its own state.
use Rattle.law_steps.specs.Imports.{Cell, Copying, LastCopy, LinkRow, PairState, State, cell_link, copying_on, holder_of, last_copy, live, other_in}
use Rattle.law_steps.specs.Imports.{progress_on, stage_at}
use Rattle.std.specs.Prelude.{◌≡◌, ◌⊎◌, Some, false, true, ℕ}

-- the cell is live, and of a link that the server holds alone, whose other server is In
pub record MayCopy (state : State) (me : ℕ) (cell : Cell) : Type 0 where
  pub row : LinkRow
  pub is : cell_link state cell ≡ Some row
  pub live : live state cell ≡ true
  pub other : ℕ
  pub other_is : other_in state me row ≡ Some other

-- a copy that is under way is of such a cell, and the pages of its link are done; and before the other server has
-- trimmed the cell no entry of it was sent
pub record CopyRests (state : State) (me : ℕ) (own : PairState) (cell : Cell) (copy : Copying) : Type 0 where
  pub may : MayCopy state me cell
  pub open may use *
  pub paged : (progress_on own row).paged ≡ true
  pub begun : copy.trimmed ≡ false → copy.index ≡ 0

-- a copy to this server is of a link that the other one holds alone, unless the cell is retired
pub record LastRests (state : State) (me : ℕ) (cell : Cell) : Type 0 where
  pub row : LinkRow
  pub is : cell_link state cell ≡ Some row
  pub holder : ℕ
  pub held : holder_of me row ≡ Some holder

pub record AreResting (state : State) (me : ℕ) (own : PairState) : Type 0 where
  pub copying : (cell : Cell) (copy : Copying) → copying_on own cell ≡ Some copy → CopyRests state me own cell copy
  pub lasts : (cell : Cell) (last : LastCopy) → last_copy own cell ≡ Some last → LastRests state me cell ⊎ (stage_at state cell ≡ 4)
