-- What the holder of a link, whose other server is In again, may have done so that the link is brought up to date; and what either
-- server of a link in Both may have done with old marks. With what was so when it was done, by its own state.
use Rattle.law_steps.specs.Imports.{Block, Body, Both, Cell, Copying, JobContext, JobResult, LinkId, LinkRow, MarkKind, PairState, Stored, begins_copy}
use Rattle.law_steps.specs.Imports.{chain_in, closes, copying_on, epochs_of, id_of, idle_cells, key_at, link_named, mark_left, next_copy, other_in}
use Rattle.law_steps.specs.Imports.{page_wanted, progress_on, same_block, says_to, silent, tells_other, turns_page, with_copying, with_full, without_copying}
use Rattle.law_steps.specs.Imports.{unmark_all_on, without_mark_on}
use Rattle.std.specs.Prelude.{[], ◌+◌, ◌<◌, ◌∷◌, ◌≡◌, ◌≤◌, List, None, Option, Some, false, length, slice_get, true, ℕ}
use Rattle.petal_msg.specs.declared.body.Body.TheVariants as body
use Rattle.spec_rules.specs.declared.job.Job.TheVariants as job

-- the link of this name, which the server holds alone, and whose other server, this one, is In
pub record IsHeldWith (here : JobContext) (id : LinkId) (row : LinkRow) (other : ℕ) : Type 0 where
  pub is : link_named here.state id ≡ Some row
  pub other_is : other_in here.state here.me row ≡ Some other

-- a copy as it begins
abbrev pub first_copy : ℕ → Copying
first_copy number = record { op = number; trimmed = false; index = 0 }

-- all entries of the cell have been put at the other server
pub record IsSynced (own : PairState) (cell : Cell) (copy : Copying) : Type 0 where
  pub trimmed : copy.trimmed ≡ true
  pub past : length (chain_in own.store.chains cell) ≤ copy.index

-- what a copy that is under way does next: the other server is asked to drop what is not the holder's, or is sent the next entry; then
-- the block's marks are taken away here, and the copy is done
pub data CopyStep (here : JobContext) (own : PairState) (cell : Cell) (copy : Copying) : JobResult → Type 0 where
  Asks_to_trim : copy.trimmed ≡ false
      → CopyStep here own cell copy (tells_other here own cell (body.Trim copy.op cell (epochs_of (chain_in own.store.chains cell))))
  Sends : (row : ℕ × Stored) → copy.trimmed ≡ true → slice_get (chain_in own.store.chains cell) copy.index ≡ Some row
      → CopyStep here own cell copy (tells_other here own cell (body.Sync copy.op (key_at cell row.0) row.1.version copy.index row.1.bytes))
  Unmarks_copied : (kind : MarkKind) → IsSynced own cell copy → mark_left own.store cell ≡ Some kind
      → CopyStep here own cell copy (record { own = record own { store = without_mark_on own.store kind cell }; posts = []; jobs = job.Stage cell ∷ [] })
  Closes_copy : IsSynced own cell copy → mark_left own.store cell ≡ None → CopyStep here own cell copy (closes here own cell)

-- a copy is taken up as it is, or with what a letter of the other server told of it
pub data TakenCopy (heard : Body → Type 0) (own : PairState) (cell : Cell) : PairState → Copying → Type 0 where
  Copy_as_is : (copy : Copying) → copying_on own cell ≡ Some copy → TakenCopy heard own cell own copy
  Copy_trimmed : (copy : Copying) → heard (body.Trimmed copy.op cell) → copying_on own cell ≡ Some copy → copy.trimmed ≡ false
      → TakenCopy heard own cell (with_copying own cell (record copy { trimmed = true })) (record copy { trimmed = true })
  Copy_synced : (copy : Copying) → heard (body.Synced copy.op cell copy.index) → copying_on own cell ≡ Some copy → copy.trimmed ≡ true
      → copy.index < length (chain_in own.store.chains cell)
      → TakenCopy heard own cell (with_copying own cell (record copy { index = copy.index + 1 })) (record copy { index = copy.index + 1 })

-- what the holder may have done that handled only such letters as `heard` knows
pub data DidHolder (heard : Body → Type 0) (here : JobContext) (own : PairState) : JobResult → Type 0 where
  Asks_page : (id : LinkId) (row : LinkRow) (other : ℕ) → IsHeldWith here id row other → (progress_on own row).paged ≡ false
      → DidHolder heard here own (says_to own (Some other) (page_wanted own row))
  Turns_page : (id : LinkId) (row : LinkRow) (other : ℕ) (after block : Option ℕ) → heard (body.Hello id.map id.link after block) → IsHeldWith here id row other
      → (progress_on own row).paged ≡ false → same_block after (progress_on own row).after ≡ true
      → DidHolder heard here own (turns_page own row (progress_on own row) block)
  Begins_copy : (id : LinkId) (row : LinkRow) (other : ℕ) (cell : Cell) (done : JobResult) → IsHeldWith here id row other
      → next_copy here.state row own ≡ Block cell
      → CopyStep here (begins_copy own cell) cell (first_copy own.pairs.next) done → DidHolder heard here own done
  Goes_on_copying : (cell : Cell) (now : PairState) (copy : Copying) (done : JobResult) → TakenCopy heard own cell now copy → CopyStep here now cell copy done
      → DidHolder heard here own done
  Finds_it_full : (cell : Cell) (copy : Copying) → heard (body.SyncFull copy.op cell) → copying_on own cell ≡ Some copy → copy.trimmed ≡ true
      → copy.index < length (chain_in own.store.chains cell)
      → DidHolder heard here own (silent (with_full (without_copying own cell) true))
  Tidies : (id : LinkId) (row : LinkRow) (kind : MarkKind) (cells : List Cell) → link_named here.state id ≡ Some row → row.state ≡ Both
      → idle_cells here.state row own kind ≡ cells
      → DidHolder heard here own (record {
        own = record own { store = unmark_all_on own.store kind cells };
        posts = [];
        jobs = job.Repair (id_of row) ∷ [];
      })
