-- What a server does so that a link is brought up to date is one of the kinds that the relation names: the holder's part.
use Rattle.law_steps.proofs.Imports.{◌&&◌, ◌+◌, ◌<◌, ◌==◌, ◌≡◌, ◌≤◌, ◌∷◌, [], Ask, Block, Body, Both, Busy, Cell, CopyAction, Copying, JobContext}
use Rattle.law_steps.proofs.Imports.{JobResult, LinkId, LinkRow, LinkState, List, Lost, MarkKind, NextCopy, None, Nothing, Only, Option, PairState, Some}
use Rattle.law_steps.proofs.Imports.{Stale, State, Wait, arith, begins_copy, blocks_left, both_true, by_test, catches_up, cell_at, cell_same, chain_in}
use Rattle.law_steps.proofs.Imports.{clears_old_marks, copies_on, copies_with, copy_acts, copy_stage, copying_on, false, get_within, goes_for, hears_hello}
use Rattle.law_steps.proofs.Imports.{hears_page, hears_sync_full, hears_synced, hears_trimmed, idle_cells, is_link_under_way, is_syncing, is_under_way}
use Rattle.law_steps.proofs.Imports.{least, length, less_by, link_named, mark_left, mends_found, nat_lt, nat_tests, next_block, next_copy, not, not_true}
use Rattle.law_steps.proofs.Imports.{on_hello, on_sync_full, on_synced, on_trimmed, option_map_or, other_in, progress_on, refl, repairs, repairs_row}
use Rattle.law_steps.proofs.Imports.{same_block, same_numbers, sends_entry, subst, sym, takes_marks, true, was_true, with_copying, ℕ}
use Rattle.law_steps.specs.Did.{Did, Ignores, By_holder}
use Rattle.law_steps.specs.DidHolder.{CopyStep, Asks_to_trim, Sends, Unmarks_copied, Closes_copy, IsHeldWith, IsSynced, first_copy, Copy_as_is, Copy_trimmed}
use Rattle.law_steps.specs.DidHolder.{Copy_synced, Asks_page, Turns_page, Begins_copy, Goes_on_copying, Finds_it_full, Tidies}
use Rattle.petal_msg.specs.declared.body.Body.TheVariants as body
use Rattle.petal_msg.specs.declared.copying.CopyAction.TheVariants as copy_action

no_less : (a b : ℕ) → nat_lt a b ≡ false → b ≤ a
no_less a b e = grind (arith, nat_tests)

-- ### A copy's next stage

module _ (here : JobContext) (own : PairState) (cell : Cell) (copy : Copying) where
  abbrev Step : CopyAction → Type 0
  Step what = CopyStep here own cell copy (copy_acts here own cell copy what)

  unmarks_or_closes : (o : Option MarkKind) → mark_left own.store cell ≡ o → IsSynced own cell copy
      → Step (option_map_or copy_action.Unmark o copy_action.Close)
  unmarks_or_closes None e synced = Closes_copy synced e
  unmarks_or_closes (Some kind) e synced = Unmarks_copied kind synced e

  sends_next : copy.trimmed ≡ true → copy.index < length (chain_in own.store.chains cell) → Step copy_action.Sync
  sends_next trimmed lt =
      let row = get_within (chain_in own.store.chains cell) copy.index lt in
      subst (λ o. CopyStep here own cell copy (sends_entry here own cell copy o)) (sym row.1) (Sends row.0 trimmed row.1)

  pub copy_step : Step (copy_stage own.store cell copy)
  copy_step = by_test Step (not copy.trimmed) copy_action.Trim _ (λ t. Asks_to_trim (not_true copy.trimmed t))
      (λ f. let trimmed = was_true copy.trimmed f in
      by_test Step (nat_lt copy.index (length (chain_in own.store.chains cell))) copy_action.Sync _
      (λ lt. sends_next trimmed (less_by copy.index (length (chain_in own.store.chains cell)) lt))
      (λ past. unmarks_or_closes (mark_left own.store cell) refl
      (record { trimmed = trimmed; past = no_less copy.index (length (chain_in own.store.chains cell)) past })))

pub copy_goes : (here : JobContext) (now : PairState) (cell : Cell) (copy : Copying) → copying_on now cell ≡ Some copy
    → CopyStep here now cell copy (copies_on here now cell)
unfolding copies_on
copy_goes here now cell copy is = subst (λ o. CopyStep here now cell copy (copies_with here now cell o)) (sym is) (copy_step here now cell copy)

-- the copy that was put last is there
now_copying : (own : PairState) (cell : Cell) (copy : Copying) → copying_on (with_copying own cell copy) cell ≡ Some copy
now_copying own cell copy = cell_same own.copies.pending cell copy

-- ### What is next of a link

next_asks_not : {A : Type 0} (state : State) (row : LinkRow) (own : PairState) (o : Option ℕ) → next_block state row own o ≡ Ask → A
next_asks_not {A} state row own None e =
    by_test (λ (n : NextCopy). n ≡ Ask → A) (is_link_under_way state row own) Wait Nothing
    (λ t f. let g : Wait ≡ Ask = f in absurd cc) (λ t f. let g : Nothing ≡ Ask = f in absurd cc) e
next_asks_not {A} state row own (Some block) e =
    by_test (λ (n : NextCopy). n ≡ Ask → A) (is_under_way own (cell_at row block)) Wait (Block (cell_at row block))
    (λ t f. let g : Wait ≡ Ask = f in absurd cc) (λ t f. let g : Block (cell_at row block) ≡ Ask = f in absurd cc) e

pub unpaged : (state : State) (row : LinkRow) (own : PairState) → next_copy state row own ≡ Ask → (progress_on own row).paged ≡ false
unfolding next_copy
unpaged state row own =
    by_test (λ (n : NextCopy). n ≡ Ask → (progress_on own row).paged ≡ false) (progress_on own row).paged
    (next_block state row own (least (blocks_left state row own))) Ask
    (λ t e. next_asks_not state row own (least (blocks_left state row own)) e) (λ f e. f)

module _ (heard : Body → Type 0) (here : JobContext) (own : PairState) where
  abbrev D : JobResult → Type 0
  D done = Did heard here own done

  pub did_copies : (cell : Cell) (o : Option Copying) → copying_on own cell ≡ o → D (copies_with here own cell o)
  did_copies cell None e = Ignores
  did_copies cell (Some copy) e = By_holder _ (Goes_on_copying cell own copy _ (Copy_as_is copy e) (copy_step here own cell copy))

  -- ### The job of a link

  did_goes_for : (id : LinkId) (row : LinkRow) (other : ℕ) → IsHeldWith here id row other → (next : NextCopy) → next_copy here.state row own ≡ next
      → D (goes_for here own row other next)
  did_goes_for id row other held Ask e = By_holder _ (Asks_page id row other held (unpaged here.state row own e))
  did_goes_for id row other held (Block cell) e =
      By_holder _ (Begins_copy id row other cell _ held e
      (copy_goes here (begins_copy own cell) cell (first_copy own.pairs.next) (cell_same own.copies.pending cell (first_copy own.pairs.next))))
  did_goes_for id row other held Wait e = Ignores
  did_goes_for id row other held Nothing e = Ignores

  did_catches : (id : LinkId) (row : LinkRow) → link_named here.state id ≡ Some row → (o : Option ℕ) → other_in here.state here.me row ≡ o
      → D (catches_up here own row o)
  did_catches id row is None e = Ignores
  did_catches id row is (Some other) e = did_goes_for id row other (record { is = is; other_is = e }) (next_copy here.state row own) refl

  did_takes : (id : LinkId) (row : LinkRow) (kind : MarkKind) → link_named here.state id ≡ Some row → row.state ≡ Both
      → (cells : List Cell) → idle_cells here.state row own kind ≡ cells → D (takes_marks own row kind cells)
  did_takes id row kind is both [] e = Ignores
  did_takes id row kind is both (cell ∷ cells) e = By_holder _ (Tidies id row kind (cell ∷ cells) is both e)

  did_tidies : (id : LinkId) (row : LinkRow) → link_named here.state id ≡ Some row → row.state ≡ Both
      → (busy : List Cell) → idle_cells here.state row own Busy ≡ busy → D (clears_old_marks here.state own row busy)
  did_tidies id row is both [] e = did_takes id row Stale is both (idle_cells here.state row own Stale) refl
  did_tidies id row is both (cell ∷ cells) e = did_takes id row Busy is both (cell ∷ cells) e

  did_row : (id : LinkId) (row : LinkRow) → link_named here.state id ≡ Some row → (state : LinkState) → row.state ≡ state → D (repairs_row here own row state)
  did_row id row is Both e = did_tidies id row is e (idle_cells here.state row own Busy) refl
  did_row id row is (Only holder whole) e = did_catches id row is (other_in here.state here.me row) refl
  did_row id row is Lost e = Ignores

  did_found : (id : LinkId) (o : Option LinkRow) → link_named here.state id ≡ o → D (mends_found here own o)
  did_found id None e = Ignores
  did_found id (Some row) e = did_row id row e row.state refl

  pub did_mends : (id : LinkId) → D (repairs here own id)
  unfolding repairs
  did_mends id = did_found id (link_named here.state id) refl

  -- ### Letters

  did_page : (id : LinkId) (after block : Option ℕ) (row : LinkRow) → heard (body.Hello id.map id.link after block) → link_named here.state id ≡ Some row
      → (o : Option ℕ) → other_in here.state here.me row ≡ o → D (hears_page own after block row o)
  did_page id after block row h is None e = Ignores
  did_page id after block row h is (Some other) e =
      by_test D (not (progress_on own row).paged && same_block after (progress_on own row).after) _ _
      (λ t. let b = both_true (not (progress_on own row).paged) (same_block after (progress_on own row).after) t in
      By_holder _ (Turns_page id row other after block h (record { is = is; other_is = e }) (not_true (progress_on own row).paged b.0) b.1))
      (λ t. Ignores)

  did_hears_hello : (id : LinkId) (after block : Option ℕ) → heard (body.Hello id.map id.link after block) → (o : Option LinkRow) → link_named here.state id ≡ o
      → D (hears_hello here own after block o)
  did_hears_hello id after block h None e = Ignores
  did_hears_hello id after block h (Some row) e = did_page id after block row h e (other_in here.state here.me row) refl

  pub did_hello : (id : LinkId) (after block : Option ℕ) → heard (body.Hello id.map id.link after block) → D (on_hello here own id after block)
  unfolding on_hello
  did_hello id after block h = did_hears_hello id after block h (link_named here.state id) refl

  did_hears_trimmed : (number : ℕ) (cell : Cell) → heard (body.Trimmed number cell) → (o : Option Copying) → copying_on own cell ≡ o
      → D (hears_trimmed here own number cell o)
  did_hears_trimmed number cell h None e = Ignores
  did_hears_trimmed number cell h (Some copy) e =
      by_test D ((copy.op == number) && not copy.trimmed) _ _
      (λ t.
      let b = both_true (copy.op == number) (not copy.trimmed) t in
      let said = subst (λ k. heard (body.Trimmed k cell)) (sym (same_numbers copy.op number b.0)) h in
      let next = record copy { trimmed = true } in
      By_holder _ (Goes_on_copying cell (with_copying own cell next) next _ (Copy_trimmed copy said e (not_true copy.trimmed b.1))
      (copy_goes here (with_copying own cell next) cell next (now_copying own cell next))))
      (λ t. Ignores)

  pub did_trimmed : (number : ℕ) (cell : Cell) → heard (body.Trimmed number cell) → D (on_trimmed here own number cell)
  unfolding on_trimmed
  did_trimmed number cell h = did_hears_trimmed number cell h (copying_on own cell) refl

  -- a copy that waits for its next entry's answer
  syncing : (cell : Cell) (copy : Copying) (number : ℕ) → is_syncing own cell copy number ≡ true
      → (copy.op ≡ number) × (copy.trimmed ≡ true) × (copy.index < length (chain_in own.store.chains cell))
  syncing cell copy number t =
      let b = both_true ((copy.op == number) && copy.trimmed) (nat_lt copy.index (length (chain_in own.store.chains cell))) t in
      let c = both_true (copy.op == number) copy.trimmed b.0 in
      (same_numbers copy.op number c.0, c.1, less_by copy.index (length (chain_in own.store.chains cell)) b.1)

  did_hears_synced : (number : ℕ) (cell : Cell) (index : ℕ) → heard (body.Synced number cell index) → (o : Option Copying) → copying_on own cell ≡ o
      → D (hears_synced here own number cell index o)
  did_hears_synced number cell index h None e = Ignores
  did_hears_synced number cell index h (Some copy) e =
      by_test D (is_syncing own cell copy number && (copy.index == index)) _ _
      (λ t.
      let b = both_true (is_syncing own cell copy number) (copy.index == index) t in
      let s = syncing cell copy number b.0 in
      let said = subst (λ (x : ℕ × ℕ). heard (body.Synced x.0 cell x.1)) (λ i. (sym s.0 i, sym (same_numbers copy.index index b.1) i)) h in
      let next = record copy { index = copy.index + 1 } in
      By_holder _ (Goes_on_copying cell (with_copying own cell next) next _ (Copy_synced copy said e s.1 s.2)
      (copy_goes here (with_copying own cell next) cell next (now_copying own cell next))))
      (λ t. Ignores)

  pub did_synced : (number : ℕ) (cell : Cell) (index : ℕ) → heard (body.Synced number cell index) → D (on_synced here own number cell index)
  unfolding on_synced
  did_synced number cell index h = did_hears_synced number cell index h (copying_on own cell) refl

  did_hears_full : (number : ℕ) (cell : Cell) → heard (body.SyncFull number cell) → (o : Option Copying) → copying_on own cell ≡ o
      → D (hears_sync_full own number cell o)
  did_hears_full number cell h None e = Ignores
  did_hears_full number cell h (Some copy) e =
      by_test D (is_syncing own cell copy number) _ _
      (λ t. let s = syncing cell copy number t in
      By_holder _ (Finds_it_full cell copy (subst (λ k. heard (body.SyncFull k cell)) (sym s.0) h) e s.1 s.2))
      (λ t. Ignores)

  pub did_sync_full : (number : ℕ) (cell : Cell) → heard (body.SyncFull number cell) → D (on_sync_full own number cell)
  unfolding on_sync_full
  did_sync_full number cell h = did_hears_full number cell h (copying_on own cell) refl
