-- What of a link that moves is known to be at the new map, by what the old lead remembers.
use Rattle.law_moves.specs.Imports.{Cell, In, Key, LinkRow, PairState, State, at, chain_in, comes_before, comes_next, id_of, is_on, key_at, keys_in, link_cmp}
use Rattle.law_moves.specs.Imports.{region_of}
use Rattle.std.specs.Prelude.{◌≡◌, Option, Some, false, is_some, true, ℕ}
use Rattle.std.specs.Ordering.{nat_cmp}

-- the store has an entry of this epoch
abbrev pub IsKept : PairState → Cell → ℕ → Type 0
IsKept own cell epoch = is_some (at nat_cmp (chain_in own.store.chains cell) epoch) ≡ true

-- the cell is of the link and the region
pub record IsOurs (state : State) (row : LinkRow) (region : ℕ) (cell : Cell) : Type 0 where
  pub on : is_on state row cell ≡ true
  pub of : region_of cell.block ≡ region

-- the last key of this link of which the server was told
abbrev pub last_told : LinkRow → PairState → Option Key
last_told row own = at link_cmp own.filled (id_of row)

-- the new map is known to have the key: it is the last one of which the server was told, in this region, or comes before that
pub record IsKnown (row : LinkRow) (region : ℕ) (own : PairState) (key : Key) : Type 0 where
  pub until : Key
  pub is : last_told row own ≡ Some until
  pub of : region_of until.block ≡ region
  pub so : comes_before until key ≡ false

-- the next key is one that the server has of the link and the region, and is not known to be there; of what comes before it, all is
pub record IsNext (state : State) (row : LinkRow) (region : ℕ) (own : PairState) (next : Key) : Type 0 where
  pub among : In next (keys_in state row region own)
  pub new : comes_next region (last_told row own) next ≡ true
  pub before : (cell : Cell) (epoch : ℕ) → IsOurs state row region cell → IsKept own cell epoch → comes_before (key_at cell epoch) next ≡ true
      → IsKnown row region own (key_at cell epoch)
