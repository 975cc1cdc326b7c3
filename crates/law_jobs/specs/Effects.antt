-- Of what a job is made: effects, each on one place of a server's own part, with what was so when it was had.
use Rattle.law_jobs.specs.Imports.{Block, Body, Both, Busy, Cell, Chain, Copying, Ending, Entry, Finished, Full, IsHeldWith, IsNew, IsNewFill, IsNextKey}
use Rattle.law_jobs.specs.Imports.{IsOfCopy, IsSynced, JobContext, Key, LastCopy, LastOp, LinkId, LinkRow, MarkKind, Moving, Named, PairState, Pending, Stage}
use Rattle.law_jobs.specs.Imports.{Stale, Stored, Table, Taken, Wanted, Write, Written, at, begins_copy, cell_at, cell_cmp, cell_holder, cell_link, cell_of}
use Rattle.law_jobs.specs.Imports.{chain_in, chains_with, copying, copying_on, epochs_beyond, fill_operation, first_last, free_of, idle_blocks, in_both}
use Rattle.law_jobs.specs.Imports.{is_alone_on, is_marked, is_second, key_at, last_copy, last_on, link_named, live, next_copy, operation, pending_on, progress}
use Rattle.law_jobs.specs.Imports.{progress_on, put, putting, same_block, version_of, with_copied, with_copying, with_entry, with_filled, with_full, with_last}
use Rattle.law_jobs.specs.Imports.{with_last_copy, with_mark_on, with_page, with_pending, with_row_of, without_copying, without_entry, without_mark_on}
use Rattle.law_jobs.specs.Imports.{without_pending, In}
use Rattle.std.specs.Prelude.{◌+◌, ◌<◌, ◌∷◌, ◌≡◌, ◌≤◌, ◌⊎◌, Bool, List, None, Option, Some, false, length, true, ℕ}
use Rattle.std.specs.Ordering.{nat_cmp}
use Rattle.petal_msg.specs.declared.body.Body.TheVariants as body
use Rattle.petal_msg.specs.declared.operation.FollowProgress.TheVariants as follow_progress

-- what is noted with an entry as it is put: its operation, how far the second server is, or how far the copy is
pub data Noted : Type 0 where
  As_operation : Pending → Noted
  As_second : LastOp → Noted
  As_copy : LastCopy → Noted

pub data Effect : Type 0 where
  -- an operation is opened on its cell, under the next number
  Opens : Pending → Effect
  -- it is at another stage
  Sets : Pending → Effect
  Closes : Cell → Effect
  Finishes : ℕ → Finished → Effect
  -- the second server sets a slot apart for the operation of this number
  Reserves : Cell → ℕ → Effect
  -- in a slot that was set apart
  Puts : Key → Stored → Noted → Effect
  -- the row of a client's write has its number, where a put was for one
  Numbers : (map : ℕ) → Option Named → Effect
  Drops : Key → Effect
  -- for the operation on the cell
  Marks : MarkKind → Cell → Effect
  Unmarks : MarkKind → Cell → Effect
  -- so many slots are set apart
  Holds_slots : ℕ → Effect
  -- a copy from this server begins, under the next number, and goes on
  Begins_copy : Cell → Effect
  Copies : Cell → Copying → Effect
  -- it ends, and its block is the greatest copied one of the link, if one is named
  Ends_copy : Cell → Option LinkRow → Effect
  -- a copy to this server begins, under this number and with these epochs
  Is_copied : Cell → ℕ → List ℕ → Effect
  -- the other server's next marked block is marked here, or it has no more
  Turns_page : LinkRow → Option ℕ → Effect
  Is_full : Bool → Effect
  Fills : LinkRow → Key → Effect

abbrev pub pending_noted : Table Cell Pending → Noted → Table Cell Pending
pending_noted pending (As_operation op) = put cell_cmp pending op.cell op
pending_noted pending _ = pending

abbrev pub last_noted : Table Cell LastOp → Cell → Noted → Table Cell LastOp
last_noted last cell (As_second now) = put cell_cmp last cell now
last_noted last cell _ = last

abbrev pub copy_noted : Table Cell LastCopy → Cell → Noted → Table Cell LastCopy
copy_noted last cell (As_copy now) = put cell_cmp last cell now
copy_noted last cell _ = last

abbrev pub ended_copy : Option LinkRow → PairState → Cell → PairState
ended_copy row own cell =
    let gone = without_copying own cell in
    record gone { copies = record gone.copies { progress = (with_copied row gone cell.block).copies.progress } }

abbrev pub turned_page : LinkRow → PairState → Option ℕ → PairState
turned_page row own block =
    let to = with_page own row (progress_on own row) block in
    record own {
      store = record own.store { marks = to.store.marks };
      copies = record own.copies { progress = to.copies.progress };
    }

abbrev pub applied : PairState → Effect → PairState
applied own (Opens op) =
    record own { pairs = record own.pairs { next = own.pairs.next + 1; pending = put cell_cmp own.pairs.pending op.cell op } }
applied own (Sets op) = with_pending own op
applied own (Closes cell) = without_pending own cell
applied own (Finishes client last) = record own { pairs = record own.pairs { finished = put nat_cmp own.pairs.finished client last } }
applied own (Reserves cell number) = with_last own cell number follow_progress.Reserved
applied own (Puts key stored noted) = record own {
  store = with_entry own.store key stored;
  pairs = record own.pairs { pending = pending_noted own.pairs.pending noted; last = last_noted own.pairs.last (cell_of key) noted };
  copies = record own.copies { last = copy_noted own.copies.last (cell_of key) noted };
}
applied own (Numbers map origin) = record own { store = with_row_of own.store map origin }
applied own (Drops key) = record own { store = without_entry own.store key }
applied own (Marks kind cell) = record own { store = with_mark_on own.store kind cell }
applied own (Unmarks kind cell) = record own { store = without_mark_on own.store kind cell }
applied own (Holds_slots tickets) = record own { store = record own.store { tickets = tickets } }
applied own (Begins_copy cell) = begins_copy own cell
applied own (Copies cell copy) = with_copying own cell copy
applied own (Ends_copy cell row) = ended_copy row own cell
applied own (Is_copied cell number epochs) = with_last_copy own cell (first_last number epochs)
applied own (Turns_page row block) = turned_page row own block
applied own (Is_full full) = with_full own full
applied own (Fills row key) = with_filled own row key

-- the server holds the cell's link alone, or the cell is no longer live: a late letter may have told of its operation
abbrev pub IsApart : JobContext → Cell → Type 0
IsApart here cell = (is_alone_on here.state here.me cell ≡ true) ⊎ (live here.state cell ≡ false)

-- why an operation's stage says that its second server has a slot for it: it said so already, or that server told so
abbrev pub IsReserved : (heard : Body → Type 0) → JobContext → PairState → Pending → Type 0
IsReserved heard here own op =
    (op.stage.reserved ≡ true) ⊎ heard (body.Reserved op.op op.cell) ⊎ ((pending_on own op.cell ≡ Some op) × IsApart here op.cell)

-- the entry of an operation, of the version after that of its cell's chain
abbrev pub entry_ahead : PairState → Cell → Pending → Stored
entry_ahead own cell op = record { version = version_of (chain_in own.store.chains cell) + 1; bytes = op.bytes }

abbrev pub chains_ahead : PairState → Cell → Pending → Table Cell Chain
chains_ahead own cell op = chains_with own.store.chains op.key (entry_ahead own cell op)

-- a live block's operation has not put yet, and its block is marked
abbrev pub IsToPut : JobContext → Pending → Type 0
IsToPut here op = live here.state op.cell ≡ true → (op.stage.put ≡ false) × ((op.stage.busy ≡ true) ⊎ (op.stage.stale ≡ true))

-- of what comes an entry that is put, and what is noted with it: of an operation; of a lead, for which its second server has set a slot apart; or
-- of a holder, as the next one of its copy
pub data IsPutFor (heard : Body → Type 0) (here : JobContext) (own : PairState) : Key → Stored → Noted → Type 0 where
  An_operation : (op : Pending) (reserved paired : Bool) → pending_on own op.cell ≡ Some op → IsToPut here op
      → (op.stage ≡ putting) ⊎ IsApart here op.cell
      → IsPutFor heard here own op.key (entry_ahead own op.cell op) (As_operation (record op {
        version = version_of (chain_in own.store.chains op.cell) + 1;
        stage = record op.stage { reserved = reserved; paired = paired; put = true };
      }))
  A_lead : (number : ℕ) (key : Key) (told version : ℕ) (origin : Option Named) (bytes : List ℕ) → heard (body.Replicate number key told origin bytes)
      → is_second here.state here.me (cell_of key) ≡ true → last_on own (cell_of key) ≡ Some (record { op = number; progress = follow_progress.Reserved })
      → version ≡ version_of (chain_in own.store.chains (cell_of key)) + 1
      → IsPutFor heard here own key (record { version = version; bytes = bytes }) (As_second (record { op = number; progress = follow_progress.Replicated }))
  A_copy : (entry : Entry) (holder : ℕ) (last : LastCopy) → IsOfCopy heard here own entry holder last → entry.index ≡ last.index
      → IsPutFor heard here own entry.key entry.stored (As_copy (record last { index = last.index + 1 }))

-- all is then as the job began, but for what a late letter told of the operation, or the slot that is set apart for an entry of a copy
abbrev pub IsFirstNoted : JobContext → (own now : PairState) → Noted → Type 0
IsFirstNoted here own now (As_operation op) =
    (now ≡ record own { pairs = record own.pairs { pending = now.pairs.pending } }) × ((now.pairs ≡ own.pairs) ⊎ IsApart here op.cell)
IsFirstNoted here own now (As_second last) = now ≡ own
IsFirstNoted here own now (As_copy last) = now ≡ applied own (Holds_slots (own.store.tickets + 1))

-- a copy to this server is new here
pub record IsNewCopy (heard : Body → Type 0) (here : JobContext) (own : PairState) (cell : Cell) (number : ℕ) (epochs : List ℕ) : Type 0 where
  pub said : heard (body.Trim number cell epochs)
  pub holder : ℕ
  pub held : cell_holder here cell ≡ Some holder
  pub newer : (last : LastCopy) → last_copy own cell ≡ Some last → last.op < number

-- the first entry that the holder has not, by the last copy as it is now
pub record IsNotHeld (now : PairState) (cell : Cell) (last : LastCopy) (epoch : ℕ) : Type 0 where
  pub is : last_copy now cell ≡ Some last
  pub later : List ℕ
  pub beyond : epochs_beyond now cell last.epochs ≡ epoch ∷ later

-- why an entry is dropped: its holder has it not, by a copy that is new here or by the last one; or its cell is no longer live
pub data IsDroppedFor (heard : Body → Type 0) (here : JobContext) (own now : PairState) : Key → Type 0 where
  A_new_copy : (number : ℕ) (cell : Cell) (epochs : List ℕ) (epoch : ℕ) → IsNewCopy heard here own cell number epochs
      → IsNotHeld now cell (first_last number epochs) epoch → IsDroppedFor heard here own now (key_at cell epoch)
  The_last_copy : (cell : Cell) (holder : ℕ) (last : LastCopy) (epoch : ℕ) → cell_holder here cell ≡ Some holder → last_copy own cell ≡ Some last
      → now ≡ own → IsNotHeld now cell last epoch → IsDroppedFor heard here own now (key_at cell epoch)
  A_sweep : (key : Key) → live here.state (cell_of key) ≡ false → IsDroppedFor heard here own now key

-- for what an operation is opened under the next number
pub data IsOpening (heard : Body → Type 0) (here : JobContext) (own : PairState) : Pending → Type 0 where
  For_a_write : (want : Wanted) → IsNew heard here own want → IsOpening heard here own (operation here own.pairs.next want)
  For_a_fill : (moving : Moving) → IsNewFill heard here own moving → IsOpening heard here own (fill_operation here own.pairs.next moving)

-- why a stage says that the block is marked: it said so already, or the block is
abbrev pub IsFlagged : PairState → MarkKind → Cell → (was is : Bool) → Type 0
IsFlagged now kind cell was is = is ≡ true → (was ≡ true) ⊎ (is_marked now.store kind cell ≡ true)

-- an operation goes on at another stage, put or not as it was
pub data IsSetFor (heard : Body → Type 0) (here : JobContext) (own now : PairState) : Pending → Type 0 where
  Goes_on : (op : Pending) (stage : Stage) → pending_on now op.cell ≡ Some op → stage.put ≡ op.stage.put
      → (stage.reserved ≡ true → IsReserved heard here own op) → IsFlagged now Busy op.cell op.stage.busy stage.busy
      → IsFlagged now Stale op.cell op.stage.stale stage.stale → IsSetFor heard here own now (record op { stage = stage })

-- how an operation that was pending at its lead has ended: its second server has no slot for it, or told that it has put, too, or it has been put
-- where the lead is alone, or it is of a cell that is no longer live
pub data HasEnded (heard : Body → Type 0) (here : JobContext) (own : PairState) : Pending → Ending → Type 0 where
  Is_declined : (op : Pending) → heard (body.PairFull op.op op.cell) → pending_on own op.cell ≡ Some op → op.stage.reserved ≡ false
      → op.stage.put ≡ false → HasEnded heard here own op Full
  Both_have : (op : Pending) → heard (body.Replicated op.op op.cell) → pending_on own op.cell ≡ Some op → in_both here.state op.cell ≡ true
      → op.stage ≡ copying → HasEnded heard here own op Written
  Alone_has : (now : PairState) (op : Pending) → Taken own now op → is_alone_on here.state here.me op.cell ≡ true → op.stage.stale ≡ true
      → op.stage.put ≡ true → op.stage.busy ≡ false → HasEnded heard here own op Written
  Is_retired : (now : PairState) (op : Pending) → Taken own now op → live here.state op.cell ≡ false → HasEnded heard here own op Written

-- what is pending on a cell is closed once it has ended
pub data IsClosedFor (heard : Body → Type 0) (here : JobContext) (own now : PairState) : Cell → Type 0 where
  Is_over : (op : Pending) (how : Ending) → HasEnded heard here own op how → pending_on now op.cell ≡ Some op → IsClosedFor heard here own now op.cell

-- with which request of a client a lead is done: a new one for which it has no slot, or that of an operation that has ended. Nothing is pending
-- then on its cell
pub data IsFinishedFor (heard : Body → Type 0) (here : JobContext) (own : PairState) (pending : Table Cell Pending) : ℕ → Finished → Type 0 where
  Had_no_slot : (want : Wanted) → IsNew heard here own want → free_of own.store ≡ 0 → at cell_cmp pending want.cell ≡ None
      → IsFinishedFor heard here own pending want.client (record { seq = want.seq; ending = Full })
  By_operation : (op : Pending) (how : Ending) → HasEnded heard here own op how → op.kind ≡ Write → at cell_cmp pending op.cell ≡ None
      → IsFinishedFor heard here own pending op.client (record { seq = op.seq; ending = how })

-- the copy that is under way on a cell is told to have found no slot for its next entry
pub record HearsFull (heard : Body → Type 0) (own : PairState) : Type 0 where
  pub cell : Cell
  pub copy : Copying
  pub said : heard (body.SyncFull copy.op cell)
  pub copying : copying_on own cell ≡ Some copy
  pub trimmed : copy.trimmed ≡ true
  pub left : copy.index < length (chain_in own.store.chains cell)

-- or the next entry of a link that the server is to move
pub record HearsFillFull (heard : Body → Type 0) (here : JobContext) (own : PairState) : Type 0 where
  pub key : Key
  pub row : LinkRow
  pub said : heard (body.FillFull key)
  pub next : IsNextKey here own key row

abbrev pub HearsNone : (heard : Body → Type 0) → JobContext → PairState → Type 0
HearsNone heard here own = HearsFull heard own ⊎ HearsFillFull heard here own

-- a letter told that the next entry of a link has moved, and where it is at the old map
pub record IsFilledAs (heard : Body → Type 0) (here : JobContext) (own : PairState) (row : LinkRow) (old : Key) : Type 0 where
  pub key : Key
  pub told : heard (body.Filled key)
  pub next : IsNextKey here own key row
  pub is : old ≡ record { map = row.map; block = key.block; epoch = key.epoch }

-- a copy from this server is under way, was so as the job began, and links are as far
pub record IsUnderWay (own now : PairState) (cell : Cell) (copy : Copying) : Type 0 where
  pub is : copying_on now cell ≡ Some copy
  pub was : Copying
  pub was_is : copying_on own cell ≡ Some was
  pub pairs : now.pairs ≡ own.pairs
  pub progress : now.copies.progress ≡ own.copies.progress

-- it begins on the next block of the link; it goes on as the other server told; it ends as that has no slot, or has put all
pub record IsToBegin (here : JobContext) (own : PairState) (cell : Cell) : Type 0 where
  pub id : LinkId
  pub row : LinkRow
  pub other : ℕ
  pub held : IsHeldWith here id row other
  pub next : next_copy here.state row own ≡ Block cell

pub data CopyGoes (heard : Body → Type 0) (own : PairState) (cell : Cell) : Copying → Type 0 where
  Has_trimmed : (copy : Copying) → heard (body.Trimmed copy.op cell) → copying_on own cell ≡ Some copy → copy.trimmed ≡ false
      → CopyGoes heard own cell (record copy { trimmed = true })
  Has_put : (copy : Copying) → heard (body.Synced copy.op cell copy.index) → copying_on own cell ≡ Some copy → copy.trimmed ≡ true
      → copy.index < length (chain_in own.store.chains cell) → CopyGoes heard own cell (record copy { index = copy.index + 1 })

pub data IsToEnd (here : JobContext) (own now : PairState) (cell : Cell) : Option LinkRow → Type 0 where
  Found_no_slot : (copy : Copying) → IsUnderWay own now cell copy → copy.trimmed ≡ true → copy.index < length (chain_in now.store.chains cell)
      → IsToEnd here own now cell None
  Is_whole : (copy : Copying) → IsUnderWay own now cell copy → IsSynced now cell copy → IsToEnd here own now cell (cell_link here.state cell)

-- the page that is waited for of a link
pub record IsNextPage (heard : Body → Type 0) (here : JobContext) (own : PairState) (row : LinkRow) (block : Option ℕ) : Type 0 where
  pub id : LinkId
  pub other : ℕ
  pub after : Option ℕ
  pub said : heard (body.Hello id.map id.link after block)
  pub held : IsHeldWith here id row other
  pub fresh : (progress_on own row).paged ≡ false
  pub waited : same_block after (progress_on own row).after ≡ true

-- an old mark of the cell, on a link in Both, which nothing that is under way needs
pub data IsIdle (here : JobContext) (own : PairState) : Cell → Type 0 where
  Idle : (id : LinkId) (row : LinkRow) (kind : MarkKind) (block : ℕ) → link_named here.state id ≡ Some row → row.state ≡ Both
      → In block (idle_blocks here.state row own kind) → IsIdle here own (cell_at row block)

-- all is as the job began but for marks
abbrev pub IsButForMarks : (own now : PairState) → Type 0
IsButForMarks own now = now ≡ record own { store = record own.store { marks = now.store.marks } }

-- why a mark goes: the operation on the cell has the stale one, nor the copy, of which all is put; it is an old one; or the cell is not live
pub data IsUnmarkedFor (here : JobContext) (own now : PairState) : MarkKind → Cell → Type 0 where
  By_its_operation : (op : Pending) → pending_on now op.cell ≡ Some op → op.stage.busy ≡ false → op.stage.stale ≡ true → IsUnmarkedFor here own now Busy op.cell
  By_a_copy : (kind : MarkKind) (cell : Cell) (copy : Copying) → IsUnderWay own now cell copy → IsSynced now cell copy
      → IsUnmarkedFor here own now kind cell
  Is_old : (kind : MarkKind) (cell : Cell) → IsIdle here own cell → IsButForMarks own now → IsUnmarkedFor here own now kind cell
  Is_off : (kind : MarkKind) (cell : Cell) → live here.state cell ≡ false → IsUnmarkedFor here own now kind cell

-- what was so when a server did it that handled only such letters as `heard` knows: by its own part as the job began, `own`, and as it is
-- by now. A job puts one entry at most, and is done with one request
abbrev pub May : (heard : Body → Type 0) (here : JobContext) (own now : PairState) → Effect → Type 0
May heard here own now (Opens op) = IsOpening heard here own op × (now ≡ own)
May heard here own now (Sets op) = IsSetFor heard here own now op × (now.pairs.finished ≡ own.pairs.finished)
May heard here own now (Finishes client last) = IsFinishedFor heard here own now.pairs.pending client last × (now.pairs.finished ≡ own.pairs.finished)
May heard here own now (Closes cell) = IsClosedFor heard here own now cell
May heard here own now (Puts key stored noted) =
    IsPutFor heard here own key stored noted × (now.store.chains ≡ own.store.chains) × IsFirstNoted here own now noted
May heard here own now (Drops key) =
    (now.store.chains ≡ own.store.chains) × (now.pairs.pending ≡ own.pairs.pending) × IsDroppedFor heard here own now key
May heard here own now (Marks kind cell) = (op : Pending) × (pending_on now cell ≡ Some op)
May heard here own now (Unmarks kind cell) = IsUnmarkedFor here own now kind cell
May heard here own now (Begins_copy cell) = IsToBegin here own cell × (now ≡ own)
May heard here own now (Copies cell copy) = CopyGoes heard own cell copy × (now ≡ own)
May heard here own now (Ends_copy cell row) = IsToEnd here own now cell row
May heard here own now (Turns_page row block) = IsNextPage heard here own row block × (now ≡ own)
May heard here own now (Reserves cell number) =
    heard (body.Reserve number cell) × (is_second here.state here.me cell ≡ true) × (progress (last_on now cell) ≤ number + number)
May heard here own now (Is_copied cell number epochs) = IsNewCopy heard here own cell number epochs × (now ≡ own)
May heard here own now (Is_full full) = full ≡ true → HearsNone heard here own
May heard here own now (Fills row key) = IsFilledAs heard here own row key × (now.filled ≡ own.filled)
May heard here own now _ = Unit {0}

-- the cell that an effect is on, if it is on one
abbrev pub cell_on : Effect → Option Cell
cell_on (Opens op) = Some op.cell
cell_on (Sets op) = Some op.cell
cell_on (Closes cell) = Some cell
cell_on (Reserves cell number) = Some cell
cell_on (Puts key stored (As_operation op)) = Some op.cell
cell_on (Puts key stored _) = Some (cell_of key)
cell_on (Drops key) = Some (cell_of key)
cell_on (Marks kind cell) = Some cell
cell_on (Unmarks kind cell) = Some cell
cell_on (Begins_copy cell) = Some cell
cell_on (Copies cell copy) = Some cell
cell_on (Ends_copy cell row) = Some cell
cell_on (Is_copied cell number epochs) = Some cell
cell_on (Turns_page row (Some block)) = Some (cell_at row block)
cell_on _ = None

abbrev pub IsOnCell : (at on : Option Cell) → Type 0
IsOnCell at None = Unit {0}
IsOnCell at (Some cell) = at ≡ Some cell

-- a job that works on this cell or none may have an effect that is on that cell or none; but old marks it takes away of many cells
abbrev pub IsOn : (here : JobContext) (own : PairState) (at : Option Cell) → Effect → Type 0
IsOn here own at (Unmarks kind cell) = (at ≡ Some cell) ⊎ IsIdle here own cell
IsOn here own at effect = IsOnCell at (cell_on effect)

-- what a server's own part may become by effects, one after the other, in a job that works on this cell or none, old marks aside
pub data BecomesAt (heard : Body → Type 0) (here : JobContext) (own : PairState) (cell : Option Cell) : PairState → Type 0 where
  As_it_was : BecomesAt heard here own cell own
  Then : (now : PairState) (effect : Effect) → BecomesAt heard here own cell now → May heard here own now effect → IsOn here own cell effect
      → BecomesAt heard here own cell (applied now effect)

abbrev pub Becomes : (heard : Body → Type 0) → JobContext → (own now : PairState) → Type 0
Becomes heard here own now = (cell : Option Cell) × BecomesAt heard here own cell now
