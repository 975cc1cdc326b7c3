-- One cell of a link that one server holds alone, as the holder and the other server had it at one place of the link: how far a copy of
-- it is, at both, and what the letters between them tell.
use Rattle.law_copies.specs.Imports.{Body, Cell, Copying, IsMarked, IsRising, IsToBeCopied, LastCopy, LinkRow, PairState, State, Store, Stored, above, at}
use Rattle.law_copies.specs.Imports.{cell_at, cell_link, cell_of, chain_in, copying_on, epochs_beyond, epochs_of, id_of, is_flagged, last_copy, link_of, live}
use Rattle.law_copies.specs.Imports.{pending_on, progress_on, tuple_of}
use Rattle.std.specs.Prelude.{[], ◌+◌, ◌<◌, ◌≡◌, ◌≤◌, ◌⊎◌, List, None, Option, Some, false, is_some, length, slice_get, true, ℕ}
use Rattle.std.specs.Ordering.{nat_cmp}
use Rattle.std.specs.Option.{option_map_or}
use Rattle.petal_msg.specs.declared.body.Body.TheVariants as body

-- ### What is left to copy

-- how many links the map has
abbrev pub links_of : State → (map : ℕ) → ℕ
links_of state map = option_map_or length (tuple_of state.maps map) 0

-- the holder has not been at the place, or has copied no block so far that is not below this one
abbrev pub NotCopied : Option PairState → LinkRow → (block : ℕ) → Type 0
NotCopied None row block = Unit {0}
NotCopied (Some own) row block = above (progress_on own row).copied block ≡ true

-- the holder is to copy the block: it is marked, or one of all that it has, where the other server came back with nothing
abbrev pub IsLeft : PairState → LinkRow → Cell → Type 0
IsLeft own row cell = IsMarked own.store cell ⊎ (IsToBeCopied row own.store cell × NotCopied (Some own) row cell.block)

-- a copy is under way on the cell, and the other server has put all entries of it
pub record IsCopied (own : PairState) (cell : Cell) : Type 0 where
  pub copy : Copying
  pub is : copying_on own cell ≡ Some copy
  pub trimmed : copy.trimmed ≡ true
  pub past : length (chain_in own.store.chains cell) ≤ copy.index

-- ### Copies

-- above each number that copies of the cell have had
abbrev pub number_above : Option Copying → ℕ → ℕ
number_above None next = next
number_above (Some copy) next = copy.op + 1

-- the other server follows this copy: it has nothing of the block but what the holder has, and has put each entry so far
pub record IsFollowed (holder other : PairState) (cell : Cell) (copy : Copying) : Type 0 where
  pub last : LastCopy
  pub is : last_copy other cell ≡ Some last
  pub op_is : last.op ≡ copy.op
  pub epochs_are : last.epochs ≡ epochs_of (chain_in holder.store.chains cell)
  pub past : copy.index ≤ last.index
  pub trimmed : epochs_beyond other cell last.epochs ≡ []
  pub put : (i : ℕ) (row : ℕ × Stored) → i < last.index → slice_get (chain_in holder.store.chains cell) i ≡ Some row
      → at nat_cmp (chain_in other.store.chains cell) row.0 ≡ Some row.1

-- a copy that is under way at the holder: nothing else is, the other server was there, and the block is left to copy until all is put
pub record IsCopying (row : LinkRow) (holder : PairState) (other : Option PairState) (cell : Cell) (copy : Copying) : Type 0 where
  pub below : copy.op < holder.pairs.next
  pub free : pending_on holder cell ≡ None
  pub begun : copy.trimmed ≡ false → copy.index ≡ 0
  pub left : (copy.trimmed ≡ false) ⊎ (copy.index < length (chain_in holder.store.chains cell)) → IsLeft holder row cell
  pub beside : PairState
  pub met : other ≡ Some beside
  pub followed : copy.trimmed ≡ true → IsFollowed holder beside cell copy
  pub heard : (last : LastCopy) → copy.trimmed ≡ false → last_copy beside cell ≡ Some last → last.op ≡ copy.op
      → (last.epochs ≡ epochs_of (chain_in holder.store.chains cell)) × (last.index ≡ 0)

-- the holder waits for the other server to trim, in the copy of this number
pub record IsTrimming (holder : PairState) (cell : Cell) (number : ℕ) : Type 0 where
  pub copy : Copying
  pub is : copying_on holder cell ≡ Some copy
  pub op_is : copy.op ≡ number
  pub waits : copy.trimmed ≡ false

-- the last copy at the other server is one of the holder's: what is not of it is gone, or the holder waits for that
pub record IsLastCopy (holder : Option PairState) (other : PairState) (cell : Cell) (last : LastCopy) : Type 0 where
  pub by : PairState
  pub met : holder ≡ Some by
  pub below : last.op < number_above (copying_on by cell) by.pairs.next
  pub trimmed : (epochs_beyond other cell last.epochs ≡ []) ⊎ IsTrimming by cell last.op

-- nothing is left to copy of the cell, and nothing under way, once a ballot was started for the link's Caught
pub record IsCaught (holder : PairState) (row : LinkRow) (cell : Cell) : Type 0 where
  pub paged : (progress_on holder row).paged ≡ true
  pub free : pending_on holder cell ≡ None
  pub idle : copying_on holder cell ≡ None
  pub unmarked : IsMarked holder.store cell → ⊥
  pub copied : IsToBeCopied row holder.store cell → NotCopied (Some holder) row cell.block → ⊥

-- the holder has heard a page, or has copied a block
abbrev pub HasPage : PairState → LinkRow → Type 0
HasPage holder row = ((progress_on holder row).paged ≡ true) ⊎ (is_some (progress_on holder row).after ≡ true)
    ⊎ (is_some (progress_on holder row).copied ≡ true)

-- while a later block of the link is copied, one that is still to be copied is marked, or the other server has it all
abbrev pub AreInOrder : (links : ℕ) → LinkRow → Cell → PairState → Type 0
AreInOrder links row cell own = (progress_on own row).paged ≡ true → (later : ℕ) (copy : Copying) → cell.block < later
    → link_of links later ≡ row.link → copying_on own (cell_at row later) ≡ Some copy → IsToBeCopied row own.store cell
    → NotCopied (Some own) row cell.block → IsMarked own.store cell ⊎ IsCopied own cell

-- what is so of a cell, by the holder and the other server as they last were at the place, where they have been there; its map has so
-- many links
pub record AreCopying (links : ℕ) (row : LinkRow) (cell : Cell) (holder other : Option PairState) : Type 0 where
  pub risen : (own : PairState) → holder ≡ Some own → IsRising nat_cmp (chain_in own.store.chains cell)
  pub copying : (own : PairState) (copy : Copying) → holder ≡ Some own → copying_on own cell ≡ Some copy → IsCopying row own other cell copy
  pub lasts : (own : PairState) (last : LastCopy) → other ≡ Some own → last_copy own cell ≡ Some last → IsLastCopy holder own cell last
  pub caught : (own : PairState) → holder ≡ Some own → is_flagged own (id_of row) ≡ true → IsCaught own row cell
  pub met : (own : PairState) → holder ≡ Some own → HasPage own row → is_some other ≡ true
  pub ordered : (own : PairState) → holder ≡ Some own → AreInOrder links row cell own

-- ### Letters

-- the last copy at the other server, which has a number not below this one
pub record IsPast (other : Option PairState) (cell : Cell) (number : ℕ) : Type 0 where
  pub own : PairState
  pub met : other ≡ Some own
  pub last : LastCopy
  pub is : last_copy own cell ≡ Some last
  pub past : number ≤ last.op

-- the holder waits with this copy for the other server to trim to the epochs that it has itself
pub record IsAskedToTrim (holder : Option PairState) (cell : Cell) (number : ℕ) (epochs : List ℕ) : Type 0 where
  pub own : PairState
  pub met : holder ≡ Some own
  pub trimming : IsTrimming own cell number
  pub epochs_are : epochs ≡ epochs_of (chain_in own.store.chains cell)

-- the other server has trimmed to this copy, or to a later one
pub record HasTrimmed (other : Option PairState) (cell : Cell) (number : ℕ) : Type 0 where
  pub past : IsPast other cell number
  pub trimmed : number ≡ past.last.op → epochs_beyond past.own cell past.last.epochs ≡ []

-- while this copy goes on, the holder has the entry still, and has sent no later one
abbrev pub IsSent : PairState → Cell → Copying → (index : ℕ) → ℕ × Stored → Type 0
IsSent holder cell copy index row =
    (copy.trimmed ≡ true) × (index ≤ copy.index) × (slice_get (chain_in holder.store.chains cell) index ≡ Some row)

-- an entry of a copy that the other server has trimmed to: one of its epochs; put already, or the holder has the block left to copy
pub record IsOfLast (row : LinkRow) (holder : Option PairState) (cell : Cell) (last : LastCopy) (epoch index : ℕ) : Type 0 where
  pub epoch_is : slice_get last.epochs index ≡ Some epoch
  pub near : index ≤ last.index
  pub own : PairState
  pub met : holder ≡ Some own
  pub left : index ≡ last.index → IsLeft own row cell

pub record HasSent (row : LinkRow) (holder other : Option PairState) (cell : Cell) (number index : ℕ) (entry : ℕ × Stored) : Type 0 where
  pub trimmed : HasTrimmed other cell number
  pub of_last : number ≡ trimmed.past.last.op → IsOfLast row holder cell trimmed.past.last entry.0 index
  pub sent : (own : PairState) (copy : Copying) → holder ≡ Some own → copying_on own cell ≡ Some copy → copy.op ≡ number → IsSent own cell copy index entry

-- the other server has put the entry, or is with a later copy
pub record HasPut (other : Option PairState) (cell : Cell) (number index : ℕ) : Type 0 where
  pub past : IsPast other cell number
  pub put : number ≡ past.last.op → index < past.last.index

-- what is known of a letter of the cell that was ever sent at the place
abbrev pub IsTold : LinkRow → Option PairState → Option PairState → Body → Type 0
IsTold row holder other (body.Trim number cell epochs) = IsPast other cell number ⊎ IsAskedToTrim holder cell number epochs
IsTold row holder other (body.Trimmed number cell) = HasTrimmed other cell number
IsTold row holder other (body.Sync number key version index bytes) =
    HasSent row holder other (cell_of key) number index (key.epoch, record { version = version; bytes = bytes })
IsTold row holder other (body.Synced number cell index) = HasPut other cell number index
IsTold row holder other _ = Unit {0}

-- ### The two copies

-- the pages have not passed the block: the holder has not been at the place, or heard of no block so far
abbrev pub NotPassed : Option PairState → LinkRow → (block : ℕ) → Type 0
NotPassed None row block = Unit {0}
NotPassed (Some own) row block = ((progress_on own row).paged ≡ false) × (above (progress_on own row).after block ≡ true)

-- by the stores as they are now: the copies are equal, or the block is marked at the holder, or it is marked at the other server, and
-- the holder's pages have not passed it, or it is one of all that are to be copied, and the holder has not copied it
pub data IsCovered (row : LinkRow) (cell : Cell) (holder other : Store) (visit : Option PairState) : Type 0 where
  Is_equal : chain_in holder.chains cell ≡ chain_in other.chains cell → IsCovered row cell holder other visit
  Is_marked_here : IsMarked holder cell → IsCovered row cell holder other visit
  Is_marked_there : IsMarked other cell → NotPassed visit row cell.block → IsCovered row cell holder other visit
  Is_to_be_copied : IsToBeCopied row holder cell → NotCopied visit row cell.block → IsCovered row cell holder other visit

-- so it is; and equal, once a ballot was started for the link's Caught
pub record AreAlike (row : LinkRow) (cell : Cell) (holder other : Store) (visit : Option PairState) : Type 0 where
  pub covered : IsCovered row cell holder other visit
  pub caught : (own : PairState) → visit ≡ Some own → is_flagged own (id_of row) ≡ true → chain_in holder.chains cell ≡ chain_in other.chains cell

-- a page tells of a live block of its link: the cell is of the link of this number
pub record IsOfLink (state : State) (cell : Cell) (link : ℕ) : Type 0 where
  pub lives : live state cell ≡ true
  pub row : LinkRow
  pub is : cell_link state cell ≡ Some row
  pub link_is : row.link ≡ link

-- a page tells of the marks at the other server as they are: none from after `after` up to the block, and none at all where
-- it tells of none
abbrev pub IsUpTo : ℕ → Option ℕ → Type 0
IsUpTo block None = Unit {0}
IsUpTo block (Some upto) = block < upto

pub record IsPage (cell : Cell) (other : Store) (visit : Option PairState) (after block : Option ℕ) : Type 0 where
  pub met : is_some visit ≡ true
  pub least : above after cell.block ≡ true → IsUpTo cell.block block → IsMarked other cell → ⊥
