-- What the stages of a copy leave is what the rules say.
use Rattle.std.proofs.Common.{◌≡◌, inl, inr, ℕ, ◌+◌, ◌==◌, ◌&&◌, not, Bool, true, false, List, [], Option, Some, None, Ok, refl, sym, subst, ap, ◌∙◌}
use Rattle.std.proofs.lemmas.Bool.{cases_Bool}
use Rattle.std.specs.Prelude.{if◌then◌else◌, option_map, option_and_then}
use Rattle.std.specs.List.Sorted.{IsStrictlySortedBy}
use Rattle.std.specs.Map.{keys_of}
use Rattle.busy_marks.specs.Marks.{above}
use Rattle.global_tables.specs.declared.link.LinkRow.{LinkRow}
use Rattle.petal_base.specs.declared.cell.Cell.{Cell}
use Rattle.petal_table.specs.Table.{Table, at}
use Rattle.petal_msg.specs.declared.body.Body.TheVariants as body
use Rattle.petal_msg.specs.declared.copying.CopyAction.TheVariants as copy_action
use Rattle.petal_msg.specs.declared.copying.Copying.{Copying}
use Rattle.petal_msg.specs.declared.letter.Letter.{Letter}
use Rattle.spec_state.specs.CellState.{cell_link}
use Rattle.spec_rules.specs.Copies.{begins_copy, copies_on, copies_with, copy_acts, copy_stage, hears_synced, hears_trimmed}
use Rattle.spec_rules.specs.Copies.{is_syncing, repair_after, on_synced, on_trimmed, with_copied}
use Rattle.spec_rules.specs.Progress.{progress_on, with_copying, with_full, without_copying}
use Rattle.spec_rules.specs.Server.{Copies, PairState, JobContext, silent, sender, letters_of, post_to}
use Rattle.spec_rules.specs.Server.{JobResult as Rule}
use Rattle.spec_rules.specs.State.{id_of, other_in}
use Rattle.spec_rules.specs.Store.{cell_cmp, chain_in, epochs_of}
use Rattle.spec_rules.proofs.CellTables.{cell_cmp_total, cell_same}
use Rattle.server_store.specs.Holdings.{Holdings}
use Rattle.kept_chains.specs.Kept.{store_of}
use Rattle.kept_chains.proofs.Puts.{put_same, without_put}
use Rattle.pair_memory.specs.declared.job_result.JobResult.{JobResult}
use Rattle.pair_memory.specs.declared.job_result.FollowUp.TheVariants as follow
use Rattle.pair_memory.specs.Copies as side
use Rattle.pair_memory.specs.JobResult.{IsSaid, follow_up, only}
use Rattle.pair_memory.specs.PairMemory.{PairMemory, HasTicketsAt, own_of}
use Rattle.copy_transfer.specs.Stages.{copied_in}

-- ### The next stage

-- a copy that was moved on does its next stage
pub acts_there : (here : JobContext) (own : PairState) (cell : Cell) (copy : Copying)
    → copies_on here (with_copying own cell copy) cell ≡ copy_acts here (with_copying own cell copy) cell copy (copy_stage own.store cell copy)
unfolding copies_on
acts_there here own cell copy = ap (copies_with here (with_copying own cell copy) cell) (cell_same own.copies.pending cell copy)

-- so does one that was not moved on
pub acts_still : (here : JobContext) (own : PairState) (cell : Cell) (copy : Copying) → IsStrictlySortedBy cell_cmp (keys_of own.copies.pending)
    → at cell_cmp own.copies.pending cell ≡ Some copy
    → copies_on here own cell ≡ copy_acts here (with_copying own cell copy) cell copy (copy_stage own.store cell copy)
acts_still here own cell copy sorted is =
    ap (λ (t : Table Cell Copying). copies_on here (record own { copies = record own.copies { pending = t } }) cell)
    (sym (put_same cell_cmp cell_cmp_total own.copies.pending cell copy sorted is))
    ∙ acts_there here own cell copy

-- ### A copy that ends

pub closed_own : (own : PairState) (link : Option LinkRow) (cell : Cell) (copy : Copying)
    → record own { copies = side.with_full (side.without_copying (copied_in link own.copies cell.block) cell) false }
    ≡ with_full (with_copied link (without_copying (with_copying own cell copy) cell) cell.block) false
closed_own own None cell copy =
    ap (λ (t : Table Cell Copying). record own { copies = record own.copies { pending = t; full = false } })
    (sym (without_put cell_cmp cell_cmp_total own.copies.pending cell copy))
closed_own own (Some row) cell copy =
    let gone = sym (without_put cell_cmp cell_cmp_total own.copies.pending cell copy) in
    elim (cases_Bool (above (progress_on own row).copied cell.block)) [
      | inl is ↦ rw is
          (ap (λ (t : Table Cell Copying). record own {
            copies =
                record (side.with_progress own.copies (id_of row) (record (progress_on own row) { copied = Some cell.block })) { pending = t; full = false };
          }) gone)
      | inr is ↦ rw is (ap (λ (t : Table Cell Copying). record own { copies = record own.copies { pending = t; full = false } }) gone)
    ]

closed_jobs : (link : Option LinkRow) → follow_up (option_map (λ row. follow.Repair (id_of row)) link) ≡ repair_after link
closed_jobs None = refl
closed_jobs (Some row) = refl

module _ {D : Type 0} (here : JobContext) (was : PairMemory) (store : Holdings D) (h : HasTicketsAt was store) where
  pub closed_is : (cell : Cell) (copy : Copying) (left mid new : Copies) (done : JobResult) → left ≡ copied_in (cell_link here.state cell) was.copies cell.block
      → mid ≡ side.without_copying left cell → new ≡ side.with_full mid false
      → done ≡ record { letters = []; follow = option_map (λ row. follow.Repair (id_of row)) (cell_link here.state cell) }
      → IsSaid here was (record was { copies = new }) store store (Ok done)
      (copy_acts here (with_copying (own_of was store) cell copy) cell copy copy_action.Close)
  closed_is cell copy left mid new done noted gone full said =
      rw (said, full, gone, noted) (record {
        done = record {
          own = closed_own (own_of was store) (cell_link here.state cell) cell copy;
          letters = refl;
          jobs = closed_jobs (cell_link here.state cell);
        };
        keeps = h;
        err = tt;
        store = refl;
      })

  -- a copy that begins
  pub begun_is : (cell : Cell) (letters : List Letter) (new : Copies) (later : ℕ) (done : JobResult) → later ≡ was.next + 1
      → new ≡ side.with_copying was.copies cell (record { op = was.next; trimmed = false; index = 0 })
      → letters ≡ letters_of (sender here) 0 (post_to (option_and_then (other_in here.state here.me) (cell_link here.state cell))
      (body.Trim was.next cell (epochs_of (chain_in (store_of store).chains cell))))
      → done ≡ only letters
      → IsSaid here was (record was { next = later; copies = new }) store store (Ok done) (copies_on here (begins_copy (own_of was store) cell) cell)
  begun_is cell letters new later done next noted said is =
      let begun : Copying = record { op = was.next; trimmed = false; index = 0 } in
      let numbered : PairState = record (own_of was store) { pairs = record (own_of was store).pairs { next = was.next + 1 } } in
      subst (λ (rule : Rule). IsSaid here was (record was { next = later; copies = new }) store store (Ok done) rule)
      (sym (acts_there here numbered cell begun))
      (rw (is, said, noted, next) (record {
        done = record { own = refl; letters = refl; jobs = refl };
        keeps = h;
        err = tt;
        store = refl;
      }))

-- a copy that begins takes a number
pub begun_next : (here : JobContext) (own : PairState) (cell : Cell) → (copies_on here (begins_copy own cell) cell).own.pairs.next ≡ own.pairs.next + 1
begun_next here own cell =
    let begun : Copying = record { op = own.pairs.next; trimmed = false; index = 0 } in
    let numbered : PairState = record own { pairs = record own.pairs { next = own.pairs.next + 1 } } in
    ap (λ (rule : Rule). rule.own.pairs.next) (acts_there here numbered cell begun)

-- ### Letters that move a copy on

pub trimmed_is : (here : JobContext) (own : PairState) (number : ℕ) (cell : Cell) (copy : Copying) → at cell_cmp own.copies.pending cell ≡ Some copy
    → ((copy.op == number) && not copy.trimmed) ≡ true
    → copy_acts here (with_copying own cell (record copy { trimmed = true })) cell (record copy { trimmed = true })
    (copy_stage own.store cell (record copy { trimmed = true }))
    ≡ on_trimmed here own number cell
unfolding on_trimmed
trimmed_is here own number cell copy is counts =
    let moved : Copying = record copy { trimmed = true } in
    sym (ap (hears_trimmed here own number cell) is
    ∙ ap (λ (b : Bool). if b then copies_on here (with_copying own cell moved) cell else silent own) counts
    ∙ acts_there here own cell moved)

pub synced_is : (here : JobContext) (own : PairState) (number : ℕ) (cell : Cell) (index : ℕ) (copy next : Copying)
    → at cell_cmp own.copies.pending cell ≡ Some copy
    → is_syncing own cell copy number ≡ true → (copy.index == index) ≡ true → next ≡ record copy { index = copy.index + 1 }
    → copy_acts here (with_copying own cell next) cell next (copy_stage own.store cell next) ≡ on_synced here own number cell index
unfolding on_synced
synced_is here own number cell index copy next is waits same moved =
    sym (ap (hears_synced here own number cell index) is
    ∙ ap (λ (b : Bool). if b && (copy.index == index) then copies_on here (with_copying own cell (record copy { index = copy.index + 1 })) cell
    else silent own) waits
    ∙ ap (λ (b : Bool). if b then copies_on here (with_copying own cell (record copy { index = copy.index + 1 })) cell else silent own) same
    ∙ ap (λ (k : Copying). copies_on here (with_copying own cell k) cell) (sym moved)
    ∙ acts_there here own cell next)
