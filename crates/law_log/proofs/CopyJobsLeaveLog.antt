-- Jobs of copies: they say nothing of the log, put no letter into the queue, and forget no Caught for which a ballot was started.
use Rattle.law_log.proofs.Imports.{[], ◌&&◌, ◌==◌, ◌∷◌, ◌≡◌, Among, Ask, Block, Bool, Both, Cell, CopyAction, Copying, Entry, JobContext, LastCopy, Letter}
use Rattle.law_log.proofs.Imports.{LinkId, LinkRow, LinkState, List, Lost, NextCopy, None, Only, Option, PairState, Post, Some, State, Wait, above}
use Rattle.law_log.proofs.Imports.{answers_page, begins_copy, by_test, catches_up, cell_holder, cell_link, cell_of, clears_old_marks, closes, copies_on}
use Rattle.law_log.proofs.Imports.{copies_with, copy_acts, copy_awaited, copy_posts, copy_stage, copying_on, false, flat_map, goes_for, hears_entry}
use Rattle.law_log.proofs.Imports.{hears_hello, hears_page, hears_sync, hears_sync_full, hears_synced, hears_trim, hears_trim_of, hears_trimmed, idle_cells}
use Rattle.law_log.proofs.Imports.{in-append, inl, inr, is_syncing, last_copy, link_named, mends_found, nat_lt, next_copy, not, on_hello, on_hello_ask}
use Rattle.law_log.proofs.Imports.{on_sync, on_sync_full, on_synced, on_trim, on_trimmed, other_in, page_asked, page_for, page_posts, page_wanted, progress_on}
use Rattle.law_log.proofs.Imports.{puts_entry, refl, repair_after, repairs, repairs_row, same_block, sends_entry, takes_marks, trims_again, trims_first}
use Rattle.law_log.proofs.Imports.{trims_for, trims_newly, trims_on, true, with_copied, with_last_copy, with_page, with_progress, without_copying, ℕ}
use Rattle.busy_marks.specs.declared.marks.MarkKind.TheVariants.{Busy, Stale}
use Rattle.petal_msg.specs.declared.copying.NextCopy.TheVariants.{Nothing}
use Rattle.law_log.proofs.BallotFlags.{flags_put}
use Rattle.law_log.proofs.PairJobsLeaveLog.{IsDated, posted_dated, IsCalm, IsKept, calm_says, calm_silent, calm_stage, kept_itself}
use Rattle.law_log.proofs.ScheduleTurns.{no_posts, no_letter}
use Rattle.petal_msg.specs.declared.body.Body.TheVariants as body
use Rattle.petal_msg.specs.declared.copying.CopyAction.TheVariants as copy_action
use Rattle.spec_rules.specs.declared.job.Job.TheVariants as job

pub only_mend : (letter : Letter) (id : LinkId) → Among (job.Letter letter) (job.Repair id ∷ []) → ⊥
unfolding Among
only_mend letter id (inl e) = let f : job.Letter letter ≡ job.Repair id = e in absurd cc
only_mend letter id (inr h) = h

-- the link goes on
calm_mend : (own to : PairState) (id : LinkId) → IsKept own to → IsCalm own (record { own = to; posts = []; jobs = job.Repair id ∷ [] })
calm_mend own to id kept = record { quiet = record { posts = λ post i. no_posts post i; jobs = λ letter i. only_mend letter id i }; kept = kept }

-- ### The holder

kept_copied : (row : Option LinkRow) (own : PairState) (block : ℕ) → IsKept own (with_copied row own block)
kept_copied None own block = kept_itself own
kept_copied (Some row) own block =
    by_test (IsKept own) (above (progress_on own row).copied block) (with_progress own row (record (progress_on own row) { copied = Some block })) own
    (λ e. record { flags = flags_put own row (record (progress_on own row) { copied = Some block }) (λ h. h) }) (λ e. kept_itself own)

pub mends_only : (row : Option LinkRow) (letter : Letter) → Among (job.Letter letter) (repair_after row) → ⊥
mends_only None letter i = no_letter letter i
mends_only (Some row) letter i = only_mend letter _ i

calm_closes : (here : JobContext) (own : PairState) (cell : Cell) → IsCalm own (closes here own cell)
calm_closes here own cell =
    let k = kept_copied (cell_link here.state cell) (without_copying own cell) cell.block in record {
      quiet = record { posts = λ post i. no_posts post i; jobs = mends_only (cell_link here.state cell) };
      kept = k;
    }

calm_entry : (here : JobContext) (own : PairState) (cell : Cell) (copy : Copying) (row : _) → IsCalm own (sends_entry here own cell copy row)
calm_entry here own cell copy None = calm_silent own
calm_entry here own cell copy (Some row) = calm_says own _ _ refl

calm_act : (here : JobContext) (own : PairState) (cell : Cell) (copy : Copying) (what : CopyAction) → IsCalm own (copy_acts here own cell copy what)
calm_act here own cell copy copy_action.Trim = calm_says own _ _ refl
calm_act here own cell copy copy_action.Sync = calm_entry here own cell copy _
calm_act here own cell copy (copy_action.Unmark kind) = calm_stage _ cell
calm_act here own cell copy copy_action.Close = calm_closes here own cell

calm_with : (here : JobContext) (own : PairState) (cell : Cell) (copy : Option Copying) → IsCalm own (copies_with here own cell copy)
calm_with here own cell None = calm_silent own
calm_with here own cell (Some copy) = calm_act here own cell copy _

pub calm_copies : (here : JobContext) (own : PairState) (cell : Cell) → IsCalm own (copies_on here own cell)
unfolding copies_on
calm_copies here own cell = calm_with here own cell (copying_on own cell)

calm_goes : (here : JobContext) (own : PairState) (row : LinkRow) (other : ℕ) (next : NextCopy) → IsCalm own (goes_for here own row other next)
calm_goes here own row other Ask = calm_says own (Some other) (page_wanted own row) refl
calm_goes here own row other (Block cell) = calm_copies here (begins_copy own cell) cell
calm_goes here own row other Wait = calm_silent own
calm_goes here own row other Nothing = calm_silent own

calm_catches : (here : JobContext) (own : PairState) (row : LinkRow) (other : Option ℕ) → IsCalm own (catches_up here own row other)
calm_catches here own row None = calm_silent own
calm_catches here own row (Some other) = calm_goes here own row other (next_copy here.state row own)

calm_takes : (own : PairState) (row : LinkRow) (kind : _) (cells : List Cell) → IsCalm own (takes_marks own row kind cells)
calm_takes own row kind [] = calm_silent own
calm_takes own row kind (cell ∷ cells) = calm_mend own _ _ (record { flags = λ id h. h })

calm_tidies : (state : State) (own : PairState) (row : LinkRow) (busy : List Cell) → IsCalm own (clears_old_marks state own row busy)
calm_tidies state own row [] = calm_takes own row Stale (idle_cells state row own Stale)
calm_tidies state own row (cell ∷ cells) = calm_takes own row Busy (cell ∷ cells)

calm_row : (here : JobContext) (own : PairState) (row : LinkRow) (state : LinkState) → IsCalm own (repairs_row here own row state)
calm_row here own row Both = calm_tidies here.state own row (idle_cells here.state row own Busy)
calm_row here own row (Only holder whole) = calm_catches here own row (other_in here.state here.me row)
calm_row here own row Lost = calm_silent own

calm_found : (here : JobContext) (own : PairState) (row : Option LinkRow) → IsCalm own (mends_found here own row)
calm_found here own None = calm_silent own
calm_found here own (Some row) = calm_row here own row row.state

pub calm_mends : (here : JobContext) (own : PairState) (id : LinkId) → IsCalm own (repairs here own id)
unfolding repairs
calm_mends here own id = calm_found here own (link_named here.state id)

-- ### Pages

calm_answers : (here : JobContext) (own : PairState) (after : Option ℕ) (row : Option LinkRow) → IsCalm own (answers_page here own after row)
calm_answers here own after None = calm_silent own
calm_answers here own after (Some row) = calm_says own _ _ refl

pub calm_hello_ask : (here : JobContext) (own : PairState) (id : LinkId) (after : Option ℕ) → IsCalm own (on_hello_ask here own id after)
unfolding on_hello_ask
calm_hello_ask here own id after = calm_answers here own after (link_named here.state id)

kept_page : (own : PairState) (row : LinkRow) (block : Option ℕ) → IsKept own (with_page own row (progress_on own row) block)
kept_page own row None = record { flags = flags_put own row (record (progress_on own row) { paged = true }) (λ h. h) }
kept_page own row (Some block) = record { flags = flags_put own row (record (progress_on own row) { after = Some block }) (λ h. h) }

calm_page : (own : PairState) (after block : Option ℕ) (row : LinkRow) (other : Option ℕ) → IsCalm own (hears_page own after block row other)
calm_page own after block row None = calm_silent own
calm_page own after block row (Some other) =
    by_test (IsCalm own) (not (progress_on own row).paged && same_block after (progress_on own row).after) _ _
    (λ e. calm_mend own _ _ (kept_page own row block)) (λ e. calm_silent own)

calm_hears_hello : (here : JobContext) (own : PairState) (after block : Option ℕ) (row : Option LinkRow) → IsCalm own (hears_hello here own after block row)
calm_hears_hello here own after block None = calm_silent own
calm_hears_hello here own after block (Some row) = calm_page own after block row (other_in here.state here.me row)

pub calm_hello : (here : JobContext) (own : PairState) (id : LinkId) (after block : Option ℕ) → IsCalm own (on_hello here own id after block)
unfolding on_hello
calm_hello here own id after block = calm_hears_hello here own after block (link_named here.state id)

-- ### The other server

calm_first : (own : PairState) (cell : Cell) (number holder : ℕ) (epochs : List ℕ) → IsCalm own (trims_first own cell number holder epochs)
calm_first own cell number holder [] = calm_says own (Some holder) (body.Trimmed number cell) refl
calm_first own cell number holder (epoch ∷ epochs) = calm_stage _ cell

calm_trims_for : (own : PairState) (cell : Cell) (holder : Option ℕ) (last : Option LastCopy) → IsCalm own (trims_for own cell holder last)
calm_trims_for own cell None last = calm_silent own
calm_trims_for own cell (Some holder) None = calm_silent own
calm_trims_for own cell (Some holder) (Some last) = calm_first own cell last.op holder _

pub calm_trims : (here : JobContext) (own : PairState) (cell : Cell) → IsCalm own (trims_on here own cell)
unfolding trims_on
calm_trims here own cell = calm_trims_for own cell (cell_holder here cell) (last_copy own cell)

calm_newly : (here : JobContext) (own : PairState) (number : ℕ) (cell : Cell) (epochs : List ℕ) → IsCalm own (trims_newly here own number cell epochs)
calm_newly here own number cell epochs = calm_trims here (with_last_copy own cell (record { op = number; epochs = epochs; index = 0 })) cell

calm_again : (own : PairState) (cell : Cell) (number holder : ℕ) (epochs : List ℕ) → IsCalm own (trims_again own cell number holder epochs)
calm_again own cell number holder [] = calm_says own (Some holder) (body.Trimmed number cell) refl
calm_again own cell number holder (epoch ∷ epochs) = calm_silent own

calm_hears_trim : (here : JobContext) (own : PairState) (number : ℕ) (cell : Cell) (epochs : List ℕ) (holder : ℕ) (last : Option LastCopy)
    → IsCalm own (hears_trim here own number cell epochs holder last)
calm_hears_trim here own number cell epochs holder None = calm_newly here own number cell epochs
calm_hears_trim here own number cell epochs holder (Some last) =
    by_test (IsCalm own) (nat_lt number last.op) _ _ (λ e. calm_silent own)
    (λ e. by_test (IsCalm own) (number == last.op) _ _ (λ f. calm_again own cell number holder _) (λ f. calm_newly here own number cell epochs))

calm_trim_of : (here : JobContext) (own : PairState) (number : ℕ) (cell : Cell) (epochs : List ℕ) (holder : Option ℕ)
    → IsCalm own (hears_trim_of here own number cell epochs holder)
calm_trim_of here own number cell epochs None = calm_silent own
calm_trim_of here own number cell epochs (Some holder) = calm_hears_trim here own number cell epochs holder (last_copy own cell)

pub calm_trim : (here : JobContext) (own : PairState) (number : ℕ) (cell : Cell) (epochs : List ℕ) → IsCalm own (on_trim here own number cell epochs)
unfolding on_trim
calm_trim here own number cell epochs = calm_trim_of here own number cell epochs (cell_holder here cell)

calm_puts : (own : PairState) (entry : Entry) (last : LastCopy) (holder : ℕ) (room : Bool) → IsCalm own (puts_entry own entry last holder room)
calm_puts own entry last holder true = calm_says _ (Some holder) (body.Synced entry.op (cell_of entry.key) entry.index) refl
calm_puts own entry last holder false = calm_says own (Some holder) (body.SyncFull entry.op (cell_of entry.key)) refl

calm_hears_entry : (own : PairState) (entry : Entry) (holder : ℕ) (last : LastCopy) → IsCalm own (hears_entry own entry holder last)
calm_hears_entry own entry holder last =
    by_test (IsCalm own) (nat_lt entry.index last.index) _ _ (λ e. calm_says own (Some holder) (body.Synced entry.op (cell_of entry.key) entry.index) refl)
    (λ e. by_test (IsCalm own) (entry.index == last.index) _ _ (λ f. calm_puts own entry last holder _) (λ f. calm_silent own))

calm_hears_sync : (own : PairState) (entry : Entry) (holder : Option ℕ) (last : Option LastCopy) → IsCalm own (hears_sync own entry holder last)
calm_hears_sync own entry None last = calm_silent own
calm_hears_sync own entry (Some holder) None = calm_silent own
calm_hears_sync own entry (Some holder) (Some last) =
    by_test (IsCalm own) (entry.op == last.op) _ _ (λ e. calm_hears_entry own entry holder last) (λ e. calm_silent own)

pub calm_sync : (here : JobContext) (own : PairState) (entry : Entry) → IsCalm own (on_sync here own entry)
unfolding on_sync
calm_sync here own entry = calm_hears_sync own entry (cell_holder here (cell_of entry.key)) (last_copy own (cell_of entry.key))

-- ### The holder hears

calm_hears_trimmed : (here : JobContext) (own : PairState) (number : ℕ) (cell : Cell) (copy : Option Copying)
    → IsCalm own (hears_trimmed here own number cell copy)
calm_hears_trimmed here own number cell None = calm_silent own
calm_hears_trimmed here own number cell (Some copy) =
    by_test (IsCalm own) ((copy.op == number) && not copy.trimmed) _ _ (λ e. calm_copies here _ cell) (λ e. calm_silent own)

pub calm_trimmed : (here : JobContext) (own : PairState) (number : ℕ) (cell : Cell) → IsCalm own (on_trimmed here own number cell)
unfolding on_trimmed
calm_trimmed here own number cell = calm_hears_trimmed here own number cell (copying_on own cell)

calm_hears_synced : (here : JobContext) (own : PairState) (number : ℕ) (cell : Cell) (index : ℕ) (copy : Option Copying)
    → IsCalm own (hears_synced here own number cell index copy)
calm_hears_synced here own number cell index None = calm_silent own
calm_hears_synced here own number cell index (Some copy) =
    by_test (IsCalm own) (is_syncing own cell copy number && (copy.index == index)) _ _ (λ e. calm_copies here _ cell) (λ e. calm_silent own)

pub calm_synced : (here : JobContext) (own : PairState) (number : ℕ) (cell : Cell) (index : ℕ) → IsCalm own (on_synced here own number cell index)
unfolding on_synced
calm_synced here own number cell index = calm_hears_synced here own number cell index (copying_on own cell)

calm_hears_full : (own : PairState) (number : ℕ) (cell : Cell) (copy : Option Copying) → IsCalm own (hears_sync_full own number cell copy)
calm_hears_full own number cell None = calm_silent own
calm_hears_full own number cell (Some copy) =
    by_test (IsCalm own) (is_syncing own cell copy number) _ _
    (λ e. calm_silent _) (λ e. calm_silent own)

pub calm_sync_full : (own : PairState) (number : ℕ) (cell : Cell) → IsCalm own (on_sync_full own number cell)
unfolding on_sync_full
calm_sync_full own number cell = calm_hears_full own number cell (copying_on own cell)

-- ### A tick

dated_copy : (here : JobContext) (own : PairState) (cell : Cell) (copy : Copying) (what : CopyAction) (post : Post)
    → Among post (copy_awaited here own cell copy what)
    → IsDated post.body
dated_copy here own cell copy copy_action.Trim post i = (calm_act here own cell copy copy_action.Trim).quiet.posts post i
dated_copy here own cell copy copy_action.Sync post i = (calm_act here own cell copy copy_action.Sync).quiet.posts post i
dated_copy here own cell copy (copy_action.Unmark kind) post i = no_posts post i
dated_copy here own cell copy copy_action.Close post i = no_posts post i

dated_copies : (here : JobContext) (own : PairState) (rows : List (Cell × Copying)) (post : Post)
    → Among post (flat_map (λ (row : Cell × Copying). copy_awaited here own row.0 row.1 (copy_stage own.store row.0 row.1)) rows) → IsDated post.body
dated_copies here own [] post i = no_posts post i
dated_copies here own (row ∷ rows) post i = elim (in-append post (copy_awaited here own row.0 row.1 (copy_stage own.store row.0 row.1))
    (flat_map (λ (row : Cell × Copying). copy_awaited here own row.0 row.1 (copy_stage own.store row.0 row.1)) rows) i) [
      | inl now ↦ dated_copy here own row.0 row.1 (copy_stage own.store row.0 row.1) post now
      | inr later ↦ dated_copies here own rows post later
    ]

pub dated_copy_posts : (here : JobContext) (own : PairState) (post : Post) → Among post (copy_posts here own) → IsDated post.body
dated_copy_posts here own post i = dated_copies here own own.copies.pending post i

dated_page : (own : PairState) (row : LinkRow) (other : ℕ) (next : NextCopy) (post : Post) → Among post (page_asked own row other next) → IsDated post.body
dated_page own row other Ask post i = posted_dated (Some other) (page_wanted own row) refl post i
dated_page own row other _ post i = no_posts post i

dated_page_for : (state : State) (own : PairState) (row : LinkRow) (other : Option ℕ) (post : Post)
    → Among post (page_for state own row other) → IsDated post.body
dated_page_for state own row None post i = no_posts post i
dated_page_for state own row (Some other) post i = dated_page own row other (next_copy state row own) post i

dated_pages : (here : JobContext) (own : PairState) (rows : List LinkRow) (post : Post)
    → Among post (flat_map (λ row. page_for here.state own row (other_in here.state here.me row)) rows) → IsDated post.body
dated_pages here own [] post i = no_posts post i
dated_pages here own (row ∷ rows) post i = elim (in-append post (page_for here.state own row (other_in here.state here.me row))
    (flat_map (λ row. page_for here.state own row (other_in here.state here.me row)) rows) i) [
      | inl now ↦ dated_page_for here.state own row (other_in here.state here.me row) post now
      | inr later ↦ dated_pages here own rows post later
    ]

pub dated_page_posts : (here : JobContext) (own : PairState) (post : Post) → Among post (page_posts here own) → IsDated post.body
dated_page_posts here own post i = dated_pages here own here.state.links post i
