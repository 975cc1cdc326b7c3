-- Where nothing is chosen: a put of the copy that counts gives a block the bytes of its write, a fill changes no content, and neither does what
-- leaves the chains that count.
use Rattle.law_run.proofs.Imports.{◌&&◌, ◌<◌, ◌∙◌, ◌≡◌, ◌≢◌, AliveIn, AreDisks, Bool, Cell, Chain, DiskRow, In, IsFrozen, IsOwn, IsRising, Key, List, None}
use Rattle.law_run.proofs.Imports.{Option, Pending, Plain, Some, State, Store, Stored, ap, arith, at, authority, blank_joins_in, bytes_of, cell_cmp, cell_of}
use Rattle.law_run.proofs.Imports.{cell_same, chain_apart, chain_in, chain_put, chains_with, change_by, chosen_log, chosen_state, counted, entry_at}
use Rattle.law_run.proofs.Imports.{entry_before, entry_by, entry_of, epoch_at, false, first_entry, inl, inr, is_some, kept, named_cell, nat_cmp, old_cell}
use Rattle.law_run.proofs.Imports.{option_and_then, or_true, put, refl, replay, same_cell_or_apart, stage_at, state_after, subst, sym, true, ℕ}
use Rattle.law_run.proofs.FillsComeInTurn.{fill_there}
use Rattle.law_run.proofs.SourceCells.{source_stays}
use Rattle.law_run.proofs.Overlay.{IsFill, fill_same}
use Rattle.law_run.proofs.ContentsByCells.{entry_over, has_over, is_between}
use Rattle.law_run.specs.WritesGoOn.{is_held, Onward}
use Rattle.law_run.proofs.ChosenDisks.{HasDisk, cell_comes, cell_named, content_is, disk_here, disks_now, has_content_is, named_epoch, named_high}
use Rattle.law_run.proofs.ChosenDisks.{named_map_is, one_row_of, rows_in}
use Rattle.law_run.proofs.MachineTakesWrites.{IsGiven, AreGiven, Taken, all_given, given_held, takes_of, was_kept, now_has, now_kept, StaysAt, was_has}
use Rattle.law_run.proofs.EntryAtEpoch.{entry_below, entry_put}
use Rattle.law_run.proofs.ServerFrames.{OwnFollow, SaysOk, CountsOk}
use Rattle.law_run.proofs.OpenWritesAreOnDisks.{Placed, placed_given}
use Rattle.law_run.proofs.EventsOfServerSteps.{ServerStep, TakesTold, ends_of, frozen_same, grounded, joined_now, joined_then, kept_here, later_world, new}
use Rattle.law_run.proofs.EventsOfServerSteps.{own_after, same_entry, plain_chosen}
use Rattle.law_run.proofs.ContentChanges.{block_there}

module _ (this : ServerStep) (same : chosen_log this.setting (later_world this) ≡ chosen_log this.setting this.w) where
  open ends_of this use {v, chosen, own, here}

  chosen_is : chosen_state this.setting v ≡ chosen
  chosen_is = ap (state_after this.setting.servers) same

  -- as many Joins with an empty store count as before
  pub joined_same : (i : ℕ) → joined_now this i ≡ joined_then this i
  joined_same i = ap (λ log. blank_joins_in this.setting log i) same

  rows_same : (row : DiskRow) → In row (rows_in this.setting this.w) → In row (rows_in this.setting v)
  rows_same row h = subst (λ (s : State). In row s.disks.rows) (sym chosen_is) h

  -- the entry of a cell by the copy that counts, before the step and after it
  abbrev was_of : Cell → ℕ → Option Stored
  was_of = entry_of chosen (counted this.setting this.w)

  abbrev now_of : Cell → ℕ → Option Stored
  now_of = entry_of (chosen_state this.setting v) (counted this.setting v)

  disks : AreDisks chosen
  disks = disks_now this.setting this.w this.along.firm

  -- the block's contents after the step, by what was frozen before it
  now_is : (row : DiskRow) → In row (rows_in this.setting this.w) → (epoch b : ℕ)
      → now_kept this row epoch b
      ≡ bytes_of (entry_over (is_between row b) (now_of (named_cell row b) epoch) (entry_before this.w (old_cell row b) epoch))
  now_is row h epoch b =
      content_is this.setting v this.next.firm row (rows_same row h) epoch b
      ∙ ap (λ o. bytes_of (entry_over (is_between row b) (now_of (named_cell row b) epoch)
      (option_and_then (λ chain. entry_at chain epoch) o))) (frozen_same this same (old_cell row b))

  now_has_is : (row : DiskRow) → In row (rows_in this.setting this.w) → (epoch b : ℕ)
      → now_has this row epoch b
      ≡ has_over (is_between row b) (is_some (authority (chosen_state this.setting v) (named_cell row b))) (now_of (named_cell row b) epoch)
      (is_some (this.w.frozen (old_cell row b)))
  now_has_is row h epoch b =
      has_content_is this.setting v this.next.firm row (rows_same row h) epoch b
      ∙ ap (λ o. has_over (is_between row b) (is_some (authority (chosen_state this.setting v) (named_cell row b)))
      (now_of (named_cell row b) epoch) (is_some o)) (frozen_same this same (old_cell row b))

  counts_same : (cell : Cell) → is_some (authority chosen cell) ≡ is_some (authority (chosen_state this.setting v) cell)
  counts_same cell = ap (λ s. is_some (authority s cell)) (sym chosen_is)

  -- the block's content at an epoch, and whether it has one, are as before
  pub record IsSame (row : DiskRow) (epoch b : ℕ) : Type 0 where
    pub has : was_has this row epoch b ≡ now_has this row epoch b
    pub bytes : was_kept this row epoch b ≡ now_kept this row epoch b

  stays_by : (row : DiskRow) (epoch b : ℕ) → IsSame row epoch b → StaysAt this row epoch b
  stays_by row epoch b k there = (k.has ∙ there, k.bytes)

  -- where the entry of the cell that requests name is as before, all of it is
  same_by : (row : DiskRow) → In row (rows_in this.setting this.w) → (epoch b : ℕ)
      → was_of (named_cell row b) epoch ≡ now_of (named_cell row b) epoch → IsSame row epoch b
  same_by row h epoch b e = record {
    has = has_content_is this.setting this.w this.along.firm row h epoch b
        ∙ (λ i. has_over (is_between row b) (counts_same (named_cell row b) i) (e i) (is_some (this.w.frozen (old_cell row b))))
        ∙ sym (now_has_is row h epoch b);
    bytes = content_is this.setting this.w this.along.firm row h epoch b
        ∙ ap (λ o. bytes_of (entry_over (is_between row b) o (entry_before this.w (old_cell row b) epoch))) e
        ∙ sym (now_is row h epoch b);
  }

  -- what counts is another's copy, or this server's, which has the same chain
  pub unchanged : (row : DiskRow) → In row (rows_in this.setting this.w) → (b : ℕ)
      → (authority chosen (named_cell row b) ≡ Some this.n
      → chain_in (kept this.setting v this.n).chains (named_cell row b) ≡ chain_in (kept this.setting this.w this.n).chains (named_cell row b))
      → (epoch : ℕ) → IsSame row epoch b
  unchanged row there b h epoch = same_by row there epoch b
      (same_entry this same (named_cell row b) epoch (authority chosen (named_cell row b)) h
      ∙ ap (λ s. entry_of s (counted this.setting v) (named_cell row b) epoch) (sym chosen_is))

  -- by the server's own store, where that counts
  pub own_unchanged : IsOwn this.setting this.w this.n → (row : DiskRow) → In row (rows_in this.setting this.w) → (b : ℕ)
      → (authority chosen (named_cell row b) ≡ Some this.n
      → chain_in (new this).store.chains (named_cell row b) ≡ chain_in own.store.chains (named_cell row b))
      → (epoch : ℕ) → IsSame row epoch b
  own_unchanged counts row there b h = unchanged row there b (λ mine.
      ap (λ (s : Store). chain_in s.chains (named_cell row b)) (own_after this counts (joined_same this.n))
      ∙ h mine ∙ ap (λ (s : Store). chain_in s.chains (named_cell row b)) (sym (counts own.store)))

  -- nothing counts elsewhere than before
  pub counts : (k : Plain) → CountsOk this k
  counts k i cell op on is clients put now still = inl (ap (λ s. authority s cell) (sym chosen_is) ∙ now)

  -- no content changes
  pub calm_given : ((row : DiskRow) → In row (rows_in this.setting this.w) → (b epoch : ℕ) → IsSame row epoch b) → AreGiven this
  calm_given h row there b = inl (λ epoch. stays_by row epoch b (h row there b epoch))

  -- a step that changes no chain
  pub calm_told : (new this).store.chains ≡ own.store.chains → ((k : Plain) → Onward this.m k → OwnFollow this k (new this))
      → ((k : Plain) → Onward this.m k → SaysOk this k) → TakesTold this
  calm_told chains job says =
      let taken = all_given this (calm_given (λ row there b. unchanged row there b (λ mine.
      ap (λ c. chain_in c (named_cell row b)) (kept_here this chains (joined_same this.n))))) in
      let k = replay this.m taken.es in
      takes_of this taken (job k taken.onward) (counts k) (says k taken.onward)

  -- ### A put of the copy that counts

  -- an entry that the step puts into the copy that counts
  pub record PutsHere : Type 0 where
    pub key : Key
    pub entry : Stored
    pub chains : (new this).store.chains ≡ chains_with own.store.chains key entry
    pub own_counts : IsOwn this.setting this.w this.n
    pub mine : authority chosen (cell_of key) ≡ Some this.n

  -- the block of a cell that requests name is one
  same_block : (row other : DiskRow) → In row (rows_in this.setting this.w) → In other (rows_in this.setting this.w) → (b a : ℕ)
      → named_cell row b ≡ named_cell other a → (row ≡ other) × (b ≡ a)
  same_block row other h there b a is = (
    one_row_of chosen disks row other h there (named_map_is this.setting.servers chosen (plain_chosen this) disks row h b)
        (named_map_is this.setting.servers chosen (plain_chosen this) disks other there a) (ap (λ (c : Cell). c.map) is),
    ap (λ (c : Cell). c.block) is,
  )

  module _ (p : PutsHere) where
    open p use {key, entry, chains, own_counts, mine}

    abbrev was_chain : Chain
    was_chain = chain_in own.store.chains (cell_of key)

    abbrev chain : Chain
    chain = put nat_cmp was_chain key.epoch entry

    -- the entry of the cell, by the server's own chain
    now_put : (e : ℕ) → now_of (cell_of key) e ≡ entry_at chain e
    now_put e =
        ap (entry_by (counted this.setting v) (cell_of key) e) (ap (λ s. authority s (cell_of key)) chosen_is ∙ mine)
        ∙ ap (λ (s : Store). entry_at (chain_in s.chains (cell_of key)) e) (own_after this own_counts (joined_same this.n))
        ∙ ap (λ c. entry_at (chain_in c (cell_of key)) e) chains
        ∙ ap (λ c. entry_at c e) (chain_put own.store.chains (cell_of key) chain)

    was_put : (e : ℕ) → was_of (cell_of key) e ≡ entry_at was_chain e
    was_put e =
        ap (entry_by (counted this.setting this.w) (cell_of key) e) mine
        ∙ ap (λ (s : Store). entry_at (chain_in s.chains (cell_of key)) e) (own_counts own.store)

    beside : (row : DiskRow) → In row (rows_in this.setting this.w) → (b : ℕ) → named_cell row b ≢ cell_of key → (e : ℕ) → IsSame row e b
    beside row there b ne = own_unchanged own_counts row there b (λ mine. ap (λ c. chain_in c (named_cell row b)) chains
        ∙ chain_apart own.store.chains (cell_of key) chain (named_cell row b) ne)

  module _ (p : PutsHere) (epoch : epoch_at chosen (cell_of p.key) ≡ p.key.epoch) (op : Pending) (bytes : p.entry.bytes ≡ op.bytes)
      (place : Placed this op (cell_of p.key)) where
    open p use {key, entry, chains, own_counts, mine}

    -- the key's epoch is the disk's
    at_epoch : place.row.epoch ≡ key.epoch
    at_epoch =
        sym (named_epoch this.setting.servers chosen (plain_chosen this) disks place.row place.there place.block)
        ∙ ap (epoch_at chosen) (sym place.at_block) ∙ epoch

    now_here : (e : ℕ) → now_of (named_cell place.row place.block) e ≡ entry_at (chain p) e
    now_here e = ap (λ (c : Cell). now_of c e) (sym place.at_block) ∙ now_put p e

    rising : IsRising nat_cmp (was_chain p)
    rising = subst (λ (s : Store). IsRising nat_cmp (chain_in s.chains (cell_of key))) (own_counts own.store)
        (this.ground.good.rising this.n (cell_of key))

    entry_here : now_of (named_cell place.row place.block) place.row.epoch ≡ Some entry
    entry_here = ap (now_of (named_cell place.row place.block)) at_epoch ∙ now_here key.epoch ∙ entry_put (was_chain p) key.epoch entry rising

    put_here : now_kept this place.row place.row.epoch place.block ≡ op.bytes
    put_here =
        now_is place.row place.there place.row.epoch place.block
        ∙ ap (λ o. bytes_of (entry_over (is_between place.row place.block) o (entry_before this.w (old_cell place.row place.block) place.row.epoch))) entry_here
        ∙ over_first (is_between place.row place.block)
        ∙ bytes
      where
        over_first : (between : Bool)
            → bytes_of (entry_over between (Some entry) (entry_before this.w (old_cell place.row place.block) place.row.epoch)) ≡ entry.bytes
        over_first true = refl
        over_first false = refl

    put_below : (e : ℕ) → e < place.row.epoch → StaysAt this place.row e place.block
    put_below e lt = stays_by place.row e place.block (same_by place.row place.there e place.block
        (ap (λ (c : Cell). was_of c e) (sym place.at_block) ∙ was_put p e
        ∙ sym (entry_below (was_chain p) key.epoch entry e (subst (λ k. e < k) at_epoch lt)) ∙ sym (now_here e)))

    given_here : IsGiven this place.row place.block
    given_here =
        let stored : at cell_cmp (kept this.setting v this.n).chains (named_cell place.row place.block) ≡ Some (chain p) =
        ap (λ (s : Store). at cell_cmp s.chains (named_cell place.row place.block)) (own_after this own_counts (joined_same this.n))
        ∙ ap (λ c. at cell_cmp c (named_cell place.row place.block)) chains
        ∙ ap (at cell_cmp (chains_with own.store.chains key entry)) (sym place.at_block) ∙ cell_same own.store.chains (cell_of key) (chain p) in
        placed_given this op (cell_of key) place put_here put_below
        (block_there (change_by this.setting this.w v) this.n (named_cell place.row place.block).map place.block (chain p) this.within stored)

    pub given_put : AreGiven this
    given_put row h b = elim (same_cell_or_apart (named_cell row b) (cell_of key)) [
      | inr ne ↦ inl (λ e. stays_by row e b (beside p row h b ne e))
      | inl is ↦
          let same = same_block row place.row h place.there b place.block (is ∙ place.at_block) in
          inr (subst (λ (r : DiskRow). IsGiven this r b) (sym same.0) (subst (IsGiven this place.row) (sym same.1) given_here))
    ]

    -- the block has a content, since the server's copy counts
    has_put : now_has this place.row place.row.epoch place.block ≡ true
    has_put =
        now_has_is place.row place.there place.row.epoch place.block
        ∙ (λ i. has_over (is_between place.row place.block) (here i) (entry_here i) (is_some (this.w.frozen (old_cell place.row place.block))))
        ∙ over_has (is_between place.row place.block)
      where
        here : is_some (authority (chosen_state this.setting v) (named_cell place.row place.block)) ≡ true
        here = ap (λ (c : Cell). is_some (authority (chosen_state this.setting v) c)) (sym place.at_block)
            ∙ ap is_some (ap (λ s. authority s (cell_of key)) chosen_is ∙ mine)

        over_has : (between : Bool) → has_over between true (Some entry) (is_some (this.w.frozen (old_cell place.row place.block))) ≡ true
        over_has true = refl
        over_has false = refl

    pub put_held : (taken : Taken this) → is_held (replay this.m taken.es) op.client ≡ true
    put_held taken =
        given_held this (replay this.m taken.es) taken.onward taken.stores place.row place.there place.block op.client place.write has_put
        place.under_way place.disk_is place.block_is (place.bytes_is ∙ sym put_here)

  -- ### A fill

  -- the cell that requests name of a disk's block is not retired
  pub named_alive : (row : DiskRow) → In row (rows_in this.setting this.w) → (b : ℕ) → AliveIn chosen (named_cell row b)
  named_alive row there b =
      let high = named_high this.setting.servers chosen (plain_chosen this) disks row there b in
      omega (arith, high)

  pub retired_apart : {B : Type 0} (row : DiskRow) → In row (rows_in this.setting this.w) → (b : ℕ) → stage_at chosen (named_cell row b) ≡ 4 → B
  retired_apart row there b retired = let alive = named_alive row there b in absurd (omega arith)

  -- a fill of the copy that counts changes no content
  module _ (p : PutsHere) (filled : List ℕ) (bytes : p.entry.bytes ≡ filled) (one : stage_at chosen (cell_of p.key) ≡ 1) (rev : ℕ)
      (frozen : IsFrozen this.setting this.w rev p.key filled)
      (lacks : at nat_cmp (chain_in own.store.chains (cell_of p.key)) p.key.epoch ≡ None) where
    open p use {key, entry, chains, own_counts, mine}

    abbrev cell : Cell
    cell = cell_of key

    disk : HasDisk this.setting.servers chosen (plain_chosen this) disks cell
    disk = disk_here this.setting.servers chosen (plain_chosen this) disks cell (omega (arith, one)) (omega (arith, one))

    between : is_between disk.row cell.block ≡ true
    between = cell_comes this.setting.servers chosen (plain_chosen this) disks disk.row disk.there cell disk.has one

    named : cell ≡ named_cell disk.row cell.block
    named = cell_named this.setting.servers chosen (plain_chosen this) disks disk.row disk.there cell disk.has (omega (arith, one)) (omega (arith, one))

    -- what was frozen is of the cell of the old map
    old_is : frozen.old ≡ old_cell disk.row cell.block
    old_is = source_stays this.setting.servers frozen.prefix (chosen_log this.setting this.w) this.along.firm.plain frozen.lies cell frozen.old
        frozen.from disk.row disk.there disk.has one

    frozen_here : this.w.frozen (old_cell disk.row cell.block) ≡ Some frozen.before
    frozen_here = ap this.w.frozen (sym old_is) ∙ frozen.frozen

    is_fill : IsFill (was_chain p) frozen.before key.epoch filled
    is_fill = fill_there (grounded this) (record {
      key = key;
      bytes = filled;
      one = one;
      rev = rev;
      frozen = frozen;
      row = disk.row;
      there = disk.there;
      has = disk.has;
      n = this.n;
      counts = mine;
    })
        (was_chain p) (ap (λ (s : Store). chain_in s.chains cell) (own_counts own.store)) lacks

    before_fill : (e : ℕ) → entry_before this.w (old_cell disk.row cell.block) e ≡ entry_at frozen.before e
    before_fill e = ap (option_and_then (λ chain. entry_at chain e)) frozen_here

    fill_here : (e : ℕ) → IsSame disk.row e cell.block
    fill_here e = record {
      has = has_content_is this.setting this.w this.along.firm disk.row disk.there e cell.block
          ∙ (λ i. has_over (between i) (counts_same (named_cell disk.row cell.block) i) (was_of (named_cell disk.row cell.block) e) (is_some (frozen_here i)))
          ∙ ap (λ b. is_some (authority (chosen_state this.setting v) (named_cell disk.row cell.block)) && b)
          (or_true (is_some (was_of (named_cell disk.row cell.block) e)) true refl
          ∙ sym (or_true (is_some (now_of (named_cell disk.row cell.block) e)) true refl))
          ∙ sym (λ i. has_over (between i) (is_some (authority (chosen_state this.setting v) (named_cell disk.row cell.block)))
          (now_of (named_cell disk.row cell.block) e) (is_some (frozen_here i)))
          ∙ sym (now_has_is disk.row disk.there e cell.block);
      bytes = content_is this.setting this.w this.along.firm disk.row disk.there e cell.block
          ∙ (λ i. bytes_of (entry_over (between i) (was_of (sym named i) e) (before_fill e i)))
          ∙ ap (λ o. bytes_of (first_entry o (entry_at frozen.before e))) (was_put p e)
          ∙ fill_same (was_chain p) frozen.before key.epoch entry filled bytes is_fill e
          ∙ ap (λ o. bytes_of (first_entry o (entry_at frozen.before e))) (sym (now_put p e))
          ∙ sym (λ i. bytes_of (entry_over (between i) (now_of (sym named i) e) (before_fill e i)))
          ∙ sym (now_is disk.row disk.there e cell.block);
    }

    pub fill_given : AreGiven this
    fill_given row h b = inl (λ e. stays_by row e b (elim (same_cell_or_apart (named_cell row b) cell) [
      | inr ne ↦ beside p row h b ne e
      | inl is ↦
          let same = same_block row disk.row h disk.there b cell.block (is ∙ named) in
          subst (λ (r : DiskRow). IsSame r e b) (sym same.0) (subst (IsSame disk.row e) (sym same.1) (fill_here e))
    ]))
