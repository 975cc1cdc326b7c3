-- Copies: how the server that holds a link alone brings the other one up to date, which is In again. It asks for the pages of the
-- other's marks and makes them its own; it copies each block that is marked, and all blocks where the other came back with
-- nothing; and when nothing is left it wants the link's Caught ("Petal: Distributed Virtual Disks", 1996, 3.2).
use Rattle.std.specs.Prelude.{ℕ, ◌+◌, ◌==◌, ◌&&◌, ◌||◌, not, zero, suc, Bool, true, false, nat_eq, nat_lt, List, [], ◌∷◌, ◌++◌, length, map, filter}
use Rattle.std.specs.Prelude.{slice_get, if◌then◌else◌, Option, Some, None, is_some, option_and_then}
use Rattle.std.specs.List.{flat_map, list_any}
use Rattle.std.specs.Option.{option_map_or}
use Rattle.busy_marks.specs.Marks.{above, lesser}
use Rattle.busy_marks.specs.declared.marks.MarkKind.{MarkKind}
use Rattle.busy_marks.specs.declared.marks.MarkKind.TheVariants as mark
use Rattle.global_tables.specs.declared.link.LinkRow.{LinkRow}
use Rattle.global_tables.specs.declared.link.LinkState.{LinkState}
use Rattle.global_tables.specs.declared.link.LinkState.TheVariants.{Both, Only, Lost}
use Rattle.petal_base.specs.declared.cell.Cell.{Cell}
use Rattle.petal_base.specs.declared.cell.Key.{Key}
use Rattle.petal_base.specs.Cells.{cell_of, key_at}
use Rattle.petal_msg.specs.declared.body.Body.{Body}
use Rattle.petal_msg.specs.declared.body.Body.TheVariants as body
use Rattle.petal_msg.specs.declared.copying.CopyAction.{CopyAction}
use Rattle.petal_msg.specs.declared.copying.CopyAction.TheVariants as copy_action
use Rattle.petal_msg.specs.declared.copying.Copying.{Copying}
use Rattle.petal_msg.specs.declared.copying.LastCopy.{LastCopy}
use Rattle.petal_msg.specs.declared.copying.LinkId.{LinkId}
use Rattle.petal_msg.specs.declared.copying.NextCopy.{NextCopy}
use Rattle.petal_msg.specs.declared.copying.NextCopy.TheVariants.{Ask, Block, Wait, Nothing}
use Rattle.petal_msg.specs.declared.copying.Progress.{Progress}
use Rattle.spec_state.specs.CellState.{cell_link}
use Rattle.spec_rules.specs.Progress.{progress_on, with_progress, copying_on, with_copying, without_copying, last_copy, with_last_copy, with_full}
use Rattle.spec_rules.specs.Server.{PairState, JobContext, JobResult, Post, post_to, silent, says_to}
use Rattle.spec_rules.specs.State.{State, id_of, link_named, is_on, live, other_in, holder_of, needs_full_copy}
use Rattle.spec_rules.specs.Store.{Store, Stored, chain_in, epochs_of, free_of, has_stored, is_marked, mark_left, unmark_all_on, with_entry}
use Rattle.spec_rules.specs.Store.{with_mark_on, with_ticket, without_entry, without_mark_on}
use Rattle.spec_rules.specs.Writes.{is_under_way}
use Rattle.spec_rules.specs.declared.job.Job.{Job}
use Rattle.spec_rules.specs.declared.job.Job.TheVariants as job

-- ### The blocks of a link

-- a cell of the link
abbrev pub cell_at : LinkRow → ℕ → Cell
cell_at row block = record { map = row.map; block = block }

-- the cell lies on the link and is live: what is left of others is swept and not copied
abbrev pub is_kept_on : State → LinkRow → Cell → Bool
is_kept_on state row cell = is_on state row cell && live state cell

-- the blocks that are marked here, of either kind
abbrev pub marked_blocks : State → LinkRow → PairState → List ℕ
marked_blocks state row own = map (λ m. m.cell.block) (filter (λ m. is_kept_on state row m.cell) own.store.marks)

-- the blocks that have an entry here
abbrev pub stored_blocks : State → LinkRow → PairState → List ℕ
stored_blocks state row own = map (λ chain. chain.0.block) (filter (λ chain. is_kept_on state row chain.0) own.store.chains)

-- the least of these numbers
abbrev pub least : List ℕ → Option ℕ
least [] = None
least (n ∷ ns) = lesser (Some n) (least ns)

-- what the holder is to copy: each marked block and, where the other came back with nothing, each block that it has above
-- those that it copied
abbrev pub blocks_left : State → LinkRow → PairState → List ℕ
blocks_left state row own =
    marked_blocks state row own ++ (if needs_full_copy row.state then filter (above (progress_on own row).copied) (stored_blocks state row own) else [])

-- an operation or a copy is under way on the link
abbrev pub is_link_under_way : State → LinkRow → PairState → Bool
is_link_under_way state row own =
    list_any (λ op. is_on state row op.0) own.pairs.pending || list_any (λ copy. is_on state row copy.0) own.copies.pending

-- the least block that is left, or what is waited for
abbrev pub next_block : State → LinkRow → PairState → Option ℕ → NextCopy
next_block state row own None = if is_link_under_way state row own then Wait else Nothing
next_block state row own (Some block) = if is_under_way own (cell_at row block) then Wait else Block (cell_at row block)

-- what is next of a link that this server holds alone, and whose other server is In
unfoldable pub next_copy : State → LinkRow → PairState → NextCopy
next_copy state row own = if (progress_on own row).paged then next_block state row own (least (blocks_left state row own)) else Ask

-- ### A copy, stage by stage

-- to the other server of a cell's link, which this one holds alone
abbrev pub tells_other : JobContext → PairState → Cell → Body → JobResult
tells_other here own cell said = says_to own (option_and_then (other_in here.state here.me) (cell_link here.state cell)) said

-- what a copy does next: the other server drops its other entries, and puts each of the holder's; then the block's marks are
-- taken away here
abbrev pub copy_stage : Store → Cell → Copying → CopyAction
copy_stage store cell copy =
    if not copy.trimmed then copy_action.Trim
    else if nat_lt copy.index (length (chain_in store.chains cell)) then copy_action.Sync
    else option_map_or copy_action.Unmark (mark_left store cell) copy_action.Close

-- the other server is sent an entry, with its version
abbrev pub sends_entry : JobContext → PairState → Cell → Copying → Option (ℕ × Stored) → JobResult
sends_entry here own cell copy None = silent own
sends_entry here own cell copy (Some row) =
    tells_other here own cell (body.Sync copy.op (key_at cell row.0) row.1.version copy.index row.1.bytes)

-- the greatest block that was copied, with this one
abbrev pub with_copied : Option LinkRow → PairState → ℕ → PairState
with_copied None own block = own
with_copied (Some row) own block =
    let before = progress_on own row in
    if above before.copied block then with_progress own row (record before { copied = Some block }) else own

abbrev pub repair_after : Option LinkRow → List Job
repair_after None = []
repair_after (Some row) = job.Repair (id_of row) ∷ []

-- the block is copied, and the link goes on
abbrev pub closes : JobContext → PairState → Cell → JobResult
closes here own cell = record {
  own = with_full (with_copied (cell_link here.state cell) (without_copying own cell) cell.block) false;
  posts = [];
  jobs = repair_after (cell_link here.state cell);
}

abbrev pub copy_acts : JobContext → PairState → Cell → Copying → CopyAction → JobResult
copy_acts here own cell copy copy_action.Trim = tells_other here own cell (body.Trim copy.op cell (epochs_of (chain_in own.store.chains cell)))
copy_acts here own cell copy copy_action.Sync = sends_entry here own cell copy (slice_get (chain_in own.store.chains cell) copy.index)
copy_acts here own cell copy (copy_action.Unmark kind) = record {
  own = record own { store = without_mark_on own.store kind cell };
  posts = [];
  jobs = job.Stage cell ∷ [];
}
copy_acts here own cell copy copy_action.Close = closes here own cell

abbrev pub copies_with : JobContext → PairState → Cell → Option Copying → JobResult
copies_with here own cell None = silent own
copies_with here own cell (Some copy) = copy_acts here own cell copy (copy_stage own.store cell copy)

-- the copy that is under way on the cell does its next stage
unfoldable pub copies_on : JobContext → PairState → Cell → JobResult
copies_on here own cell = copies_with here own cell (copying_on own cell)

-- a copy begins under the next number of this life
abbrev pub begins_copy : PairState → Cell → PairState
begins_copy own cell =
    let numbered : PairState = record own { pairs = record own.pairs { next = own.pairs.next + 1 } } in
    with_copying numbered cell (record { op = own.pairs.next; trimmed = false; index = 0 })

-- ### What a link's job does

-- the page above the last block that was answered
abbrev pub page_wanted : PairState → LinkRow → Body
page_wanted own row = body.HelloAsk row.map row.link (progress_on own row).after

abbrev pub goes_for : JobContext → PairState → LinkRow → ℕ → NextCopy → JobResult
goes_for here own row other Ask = says_to own (Some other) (page_wanted own row)
goes_for here own row other (Block cell) = copies_on here (begins_copy own cell) cell
goes_for here own row other Wait = silent own
goes_for here own row other Nothing = silent own

-- of a link that it holds alone it asks for the next page, or begins the next copy
abbrev pub catches_up : JobContext → PairState → LinkRow → Option ℕ → JobResult
catches_up here own row None = silent own
catches_up here own row (Some other) = goes_for here own row other (next_copy here.state row own)

-- how many marks a job takes away together: as many as a commit has records at most
abbrev pub unmarks_limit : ℕ
unmarks_limit = 64

-- in Both, the blocks that have a mark of this kind here without anything under way: marks that writes or an earlier life left
abbrev pub idle_blocks : State → LinkRow → PairState → MarkKind → List ℕ
idle_blocks state row own kind =
    filter (λ block. is_marked own.store kind (cell_at row block) && not (is_under_way own (cell_at row block))) (marked_blocks state row own)

-- the least of them above this one
abbrev pub next_idle : State → LinkRow → PairState → MarkKind → (after : Option ℕ) → Option ℕ
next_idle state row own kind after = least (filter (above after) (idle_blocks state row own kind))

-- the cells of the blocks from the next one on, rising, but no more than there is room for
abbrev pub idle_from : State → LinkRow → PairState → MarkKind → (room : ℕ) → (next : Option ℕ) → List Cell
idle_from state row own kind zero next = []
idle_from state row own kind (suc room) None = []
idle_from state row own kind (suc room) (Some block) = cell_at row block ∷ idle_from state row own kind room (next_idle state row own kind (Some block))

-- the cells that have an old mark of this kind, as many as a job takes
abbrev pub idle_cells : State → LinkRow → PairState → MarkKind → List Cell
idle_cells state row own kind = idle_from state row own kind unmarks_limit (next_idle state row own kind None)

abbrev pub takes_marks : PairState → LinkRow → MarkKind → List Cell → JobResult
takes_marks own row kind [] = silent own
takes_marks own row kind (cell ∷ cells) = record {
  own = record own { store = unmark_all_on own.store kind (cell ∷ cells) };
  posts = [];
  jobs = job.Repair (id_of row) ∷ [];
}

-- the old busy marks, and where there is none the old stale ones
abbrev pub clears_old_marks : State → PairState → LinkRow → (busy : List Cell) → JobResult
clears_old_marks state own row [] = takes_marks own row mark.Stale (idle_cells state row own mark.Stale)
clears_old_marks state own row (cell ∷ cells) = takes_marks own row mark.Busy (cell ∷ cells)

abbrev pub repairs_row : JobContext → PairState → LinkRow → LinkState → JobResult
repairs_row here own row Both = clears_old_marks here.state own row (idle_cells here.state row own mark.Busy)
repairs_row here own row (Only holder whole) = catches_up here own row (other_in here.state here.me row)
repairs_row here own row Lost = silent own

abbrev pub mends_found : JobContext → PairState → Option LinkRow → JobResult
mends_found here own None = silent own
mends_found here own (Some row) = repairs_row here own row row.state

-- one job for a link
unfoldable pub repairs : JobContext → PairState → LinkId → JobResult
repairs here own id = mends_found here own (link_named here.state id)

-- ### Pages

-- the other server answers its least marked block above this one, or that there is none
abbrev pub answers_page : JobContext → PairState → Option ℕ → Option LinkRow → JobResult
answers_page here own after None = silent own
answers_page here own after (Some row) =
    says_to own (holder_of here.me row) (body.Hello row.map row.link after (least (filter (above after) (marked_blocks here.state row own))))

unfoldable pub on_hello_ask : JobContext → PairState → LinkId → Option ℕ → JobResult
on_hello_ask here own id after = answers_page here own after (link_named here.state id)

abbrev pub same_block : Option ℕ → Option ℕ → Bool
same_block None None = true
same_block (Some a) (Some b) = a == b
same_block _ _ = false

-- the block is marked stale here; with the page that has none the pages are done
abbrev pub with_page : PairState → LinkRow → Progress → Option ℕ → PairState
with_page own row before None = with_progress own row (record before { paged = true })
with_page own row before (Some block) =
    with_progress (record own { store = with_mark_on own.store mark.Stale (cell_at row block) }) row (record before { after = Some block })

abbrev pub turns_page : PairState → LinkRow → Progress → Option ℕ → JobResult
turns_page own row before block = record { own = with_page own row before block; posts = []; jobs = job.Repair (id_of row) ∷ [] }

-- an answer counts where it is the one that is waited for
abbrev pub hears_page : PairState → (after block : Option ℕ) → LinkRow → Option ℕ → JobResult
hears_page own after block row None = silent own
hears_page own after block row (Some other) =
    let before = progress_on own row in
    if not before.paged && same_block after before.after then turns_page own row before block else silent own

abbrev pub hears_hello : JobContext → PairState → (after block : Option ℕ) → Option LinkRow → JobResult
hears_hello here own after block None = silent own
hears_hello here own after block (Some row) = hears_page own after block row (other_in here.state here.me row)

unfoldable pub on_hello : JobContext → PairState → LinkId → (after block : Option ℕ) → JobResult
on_hello here own id after block = hears_hello here own after block (link_named here.state id)

-- ### The other server: Trim and Sync

-- the holder of the cell's link, where this is its other server
abbrev pub cell_holder : JobContext → Cell → Option ℕ
cell_holder here cell = option_and_then (holder_of here.me) (cell_link here.state cell)

-- the epochs of the cell's entries that the holder has not
abbrev pub epochs_beyond : PairState → Cell → List ℕ → List ℕ
epochs_beyond own cell kept = filter (λ epoch. not (list_any (nat_eq epoch) kept)) (epochs_of (chain_in own.store.chains cell))

-- one of these entries is dropped, or the holder is told that none is left
abbrev pub trims_first : PairState → Cell → ℕ → (holder : ℕ) → List ℕ → JobResult
trims_first own cell number holder [] = says_to own (Some holder) (body.Trimmed number cell)
trims_first own cell number holder (epoch ∷ epochs) = record {
  own = record own { store = without_entry own.store (key_at cell epoch) };
  posts = [];
  jobs = job.Stage cell ∷ [];
}

abbrev pub trims_for : PairState → Cell → Option ℕ → Option LastCopy → JobResult
trims_for own cell None last = silent own
trims_for own cell (Some holder) None = silent own
trims_for own cell (Some holder) (Some last) = trims_first own cell last.op holder (epochs_beyond own cell last.epochs)

-- the last copy of the cell to this server does what is next here
unfoldable pub trims_on : JobContext → PairState → Cell → JobResult
trims_on here own cell = trims_for own cell (cell_holder here cell) (last_copy own cell)

-- a copy that is new here is remembered, and trims
abbrev pub trims_newly : JobContext → PairState → ℕ → Cell → List ℕ → JobResult
trims_newly here own number cell epochs = trims_on here (with_last_copy own cell (record { op = number; epochs = epochs; index = 0 })) cell

-- an equal number is answered again, once nothing is left to drop
abbrev pub trims_again : PairState → Cell → ℕ → (holder : ℕ) → List ℕ → JobResult
trims_again own cell number holder [] = says_to own (Some holder) (body.Trimmed number cell)
trims_again own cell number holder (epoch ∷ epochs) = silent own

-- an older number is dropped
abbrev pub hears_trim : JobContext → PairState → ℕ → Cell → List ℕ → (holder : ℕ) → Option LastCopy → JobResult
hears_trim here own number cell epochs holder None = trims_newly here own number cell epochs
hears_trim here own number cell epochs holder (Some last) =
    if nat_lt number last.op then silent own
    else if number == last.op then trims_again own cell number holder (epochs_beyond own cell last.epochs)
    else trims_newly here own number cell epochs

abbrev pub hears_trim_of : JobContext → PairState → ℕ → Cell → List ℕ → Option ℕ → JobResult
hears_trim_of here own number cell epochs None = silent own
hears_trim_of here own number cell epochs (Some holder) = hears_trim here own number cell epochs holder (last_copy own cell)

unfoldable pub on_trim : JobContext → PairState → ℕ → Cell → List ℕ → JobResult
on_trim here own number cell epochs = hears_trim_of here own number cell epochs (cell_holder here cell)

-- an entry of the holder's, as its letter has it
pub record Entry : Type 0 where
  pub op : ℕ
  pub key : Key
  pub index : ℕ
  pub stored : Stored

-- there is a free slot for it, or it needs none, since it is there already
abbrev pub has_room : Store → Entry → Bool
has_room store entry = nat_lt 0 (free_of store) || has_stored store entry.key entry.stored

-- it is put as the holder has it; where it is there already that changes no entry
abbrev pub puts_entry : PairState → Entry → LastCopy → (holder : ℕ) → (room : Bool) → JobResult
puts_entry own entry last holder true =
    let with_put : PairState = record own { store = with_entry (with_ticket own.store) entry.key entry.stored } in
    says_to (with_last_copy with_put (cell_of entry.key) (record last { index = last.index + 1 })) (Some holder)
    (body.Synced entry.op (cell_of entry.key) entry.index)
puts_entry own entry last holder false = says_to own (Some holder) (body.SyncFull entry.op (cell_of entry.key))

-- the next one is put, and one that is put already is answered again
abbrev pub hears_entry : PairState → Entry → (holder : ℕ) → LastCopy → JobResult
hears_entry own entry holder last =
    if nat_lt entry.index last.index then says_to own (Some holder) (body.Synced entry.op (cell_of entry.key) entry.index)
    else if entry.index == last.index then puts_entry own entry last holder (has_room own.store entry)
    else silent own

-- only of the copy that trimmed the cell last
abbrev pub hears_sync : PairState → Entry → Option ℕ → Option LastCopy → JobResult
hears_sync own entry None last = silent own
hears_sync own entry (Some holder) None = silent own
hears_sync own entry (Some holder) (Some last) = if entry.op == last.op then hears_entry own entry holder last else silent own

unfoldable pub on_sync : JobContext → PairState → Entry → JobResult
on_sync here own entry = hears_sync own entry (cell_holder here (cell_of entry.key)) (last_copy own (cell_of entry.key))

-- ### The holder: Trimmed, Synced and SyncFull

abbrev pub hears_trimmed : JobContext → PairState → ℕ → Cell → Option Copying → JobResult
hears_trimmed here own number cell None = silent own
hears_trimmed here own number cell (Some copy) =
    if (copy.op == number) && not copy.trimmed then copies_on here (with_copying own cell (record copy { trimmed = true })) cell else silent own

unfoldable pub on_trimmed : JobContext → PairState → ℕ → Cell → JobResult
on_trimmed here own number cell = hears_trimmed here own number cell (copying_on own cell)

-- the copy waits for its next entry
abbrev pub is_syncing : PairState → Cell → Copying → ℕ → Bool
is_syncing own cell copy number = (copy.op == number) && copy.trimmed && nat_lt copy.index (length (chain_in own.store.chains cell))

abbrev pub hears_synced : JobContext → PairState → ℕ → Cell → ℕ → Option Copying → JobResult
hears_synced here own number cell index None = silent own
hears_synced here own number cell index (Some copy) =
    if is_syncing own cell copy number && (copy.index == index)
    then copies_on here (with_copying own cell (record copy { index = copy.index + 1 })) cell
    else silent own

unfoldable pub on_synced : JobContext → PairState → ℕ → Cell → ℕ → JobResult
on_synced here own number cell index = hears_synced here own number cell index (copying_on own cell)

-- the other server has no free slot: the copy ends, and begins again at a tick
abbrev pub hears_sync_full : PairState → ℕ → Cell → Option Copying → JobResult
hears_sync_full own number cell None = silent own
hears_sync_full own number cell (Some copy) =
    if is_syncing own cell copy number then silent (with_full (without_copying own cell) true) else silent own

unfoldable pub on_sync_full : PairState → ℕ → Cell → JobResult
on_sync_full own number cell = hears_sync_full own number cell (copying_on own cell)

-- ### A tick

abbrev pub page_asked : PairState → LinkRow → ℕ → NextCopy → List Post
page_asked own row other Ask = post_to (Some other) (page_wanted own row)
page_asked own row other _ = []

abbrev pub page_for : State → PairState → LinkRow → Option ℕ → List Post
page_for state own row None = []
page_for state own row (Some other) = page_asked own row other (next_copy state row own)

-- the page that was not answered is asked for again
abbrev pub page_posts : JobContext → PairState → List Post
page_posts here own = flat_map (λ row. page_for here.state own row (other_in here.state here.me row)) here.state.links

-- the letter of which a copy waits for the answer
abbrev pub copy_awaited : JobContext → PairState → Cell → Copying → CopyAction → List Post
copy_awaited here own cell copy copy_action.Trim = (copy_acts here own cell copy copy_action.Trim).posts
copy_awaited here own cell copy copy_action.Sync = (copy_acts here own cell copy copy_action.Sync).posts
copy_awaited here own cell copy (copy_action.Unmark kind) = []
copy_awaited here own cell copy copy_action.Close = []

abbrev pub copy_posts : JobContext → PairState → List Post
copy_posts here own = flat_map (λ row. copy_awaited here own row.0 row.1 (copy_stage own.store row.0 row.1)) own.copies.pending

abbrev pub is_block : NextCopy → Bool
is_block (Block cell) = true
is_block _ = false

-- a copy waits to be begun, or a mark to be taken away
abbrev pub waits_for_job : JobContext → PairState → LinkRow → LinkState → Bool
waits_for_job here own row Both =
    is_some (next_idle here.state row own mark.Busy None) || is_some (next_idle here.state row own mark.Stale None)
waits_for_job here own row (Only holder whole) = is_some (other_in here.state here.me row) && is_block (next_copy here.state row own)
waits_for_job here own row Lost = false

abbrev pub repair_jobs : JobContext → PairState → List Job
repair_jobs here own = map (λ row. job.Repair (id_of row)) (filter (λ row. waits_for_job here own row row.state) here.state.links)
