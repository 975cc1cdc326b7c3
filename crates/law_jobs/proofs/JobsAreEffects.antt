-- Each job of a server is a list of effects.
use Rattle.law_jobs.proofs.Imports.{◌+◌, ◌-◌, ◌≡◌, ◌⊎◌, Action, As_it_is, As_told, Asks_to_trim, Begins_copy, Body, Bool, By_filler, By_holder, By_lead}
use Rattle.law_jobs.proofs.Imports.{By_other, By_read, By_second, By_sweep, Cell, Closes, Closes_alone, Closes_copy, CopyStep, Copy_as_is, Copy_synced}
use Rattle.law_jobs.proofs.Imports.{Copy_trimmed, Copying, Did, DidFiller, DidHolder, DidLead, DidOther, DidSecond, DidSweep, Drops_entry, Ending}
use Rattle.law_jobs.proofs.Imports.{Finds_it_full, FollowProgress, Follows, Gives_up, Goes_on_copying, Goes_on_retired, Goes_on_trimming, Ignores}
use Rattle.law_jobs.proofs.Imports.{Is_copied_to, Is_filled, Is_full, Is_out_of_slots, Is_trimmed, JobContext, JobResult, Key, LastCopy, LinkRow, MarkKind}
use Rattle.law_jobs.proofs.Imports.{Marks, Marks_alone, None, OpKind, Opens, Opens_alone, Opens_fill, Opens_fill_alone, Option, PairState, Pending, Promises}
use Rattle.law_jobs.proofs.Imports.{Puts, Puts_alone, Puts_entry, Refuses, Sends, Sets_apart, Some, Stage, Sweeps, Taken, TakenCopy, Tidies, TrimStep}
use Rattle.law_jobs.proofs.Imports.{Turns_page, Unmarks_alone, Unmarks_copied, above, acts, ap, begins_copy, by_test, cell_at, cell_gone, cell_link, cell_of}
use Rattle.law_jobs.proofs.Imports.{cell_same, chain_in, ends, false, fill_operation, first_copy, first_last, gives_back, gives_up, inl, inr, is_marked, In}
use Rattle.law_jobs.proofs.Imports.{List, Mark, among_least, idle_blocks, idle_from, in_filter, key_at, last_copy, live, mark_on, marks, next_idle, next_stage}
use Rattle.law_jobs.proofs.Imports.{of_read, operation, origin_by, pending_on, progress_on, puts, putting, refl, subst, suc, sym, taking, tells, told, true}
use Rattle.law_jobs.proofs.Imports.{true_false, unmark_all_on, unmarks_limit, version_of, with_copied, with_mark_at, with_opened, with_page, with_pending}
use Rattle.law_jobs.proofs.Imports.{with_progress, with_reserved, without_copying, without_mark, without_pending, zero, ℕ}
use Rattle.law_jobs.specs.Effects.{A_copy, A_lead, A_new_copy, A_sweep, Alone_has, An_operation, As_copy, As_it_was, As_operation, As_second, Becomes}
use Rattle.law_jobs.specs.Effects.{BecomesAt, Both_have, By_a_copy, By_its_operation, By_operation, Effect, For_a_fill, For_a_write, Found_no_slot, Goes_on}
use Rattle.law_jobs.specs.Effects.{Had_no_slot, HasEnded, Has_put, Has_trimmed, Idle, IsApart, IsDroppedFor, IsFilledAs, IsIdle, IsNewCopy, IsNextPage}
use Rattle.law_jobs.specs.Effects.{IsNotHeld, IsOpening, IsSetFor, IsToBegin, IsToPut, IsUnderWay, IsUnmarkedFor, Is_declined, Is_off, Is_old, Is_over}
use Rattle.law_jobs.specs.Effects.{Is_retired, Is_whole, May, The_last_copy, Then, applied, ended_copy, entry_ahead}
use Rattle.law_jobs.proofs.MarksApart.{mark_there}
use Rattle.busy_marks.specs.declared.marks.MarkKind.TheVariants as mark
use Rattle.petal_msg.specs.declared.retired.Retired.TheVariants as retired
use Rattle.petal_msg.specs.declared.operation.Action.TheVariants as action
use Rattle.petal_msg.specs.declared.operation.Ending.TheVariants as ending
use Rattle.petal_msg.specs.declared.operation.FollowProgress.TheVariants as follow_progress
use Rattle.petal_msg.specs.declared.operation.OpKind.TheVariants as kind
use Rattle.law_jobs.specs.Effects as effect

module _ (heard : Body → Type 0) (here : JobContext) (own : PairState) where
  abbrev To : Option Cell → PairState → Type 0
  To cell now = BecomesAt heard here own cell now

  abbrev At : Pending → PairState → Type 0
  At op now = To (Some op.cell) now

  abbrev Job : JobResult → Type 0
  Job done = Becomes heard here own done.own

  job_at : {cell : Option Cell} {now : PairState} → To cell now → Becomes heard here own now
  job_at so = (_, so)

  -- ### The lead

  taken_to : (now : PairState) (op : Pending) → Taken own now op → IsApart here op.cell → At op now
  taken_to _ _ (As_it_is op is) apart = As_it_was
  taken_to _ _ (As_told op reserved paired is) apart = Then own (effect.Sets (told op reserved paired)) As_it_was (
    Goes_on op (record op.stage { reserved = reserved; paired = paired }) is refl (λ e. inr (inr (is, apart))) (λ e. inl e) (λ e. inl e),
    refl,
  ) refl

  ends_to : (now : PairState) (op : Pending) (how : Ending) → HasEnded heard here own op how → pending_on now op.cell ≡ None
      → now.pairs.finished ≡ own.pairs.finished → At op now → At op (ends here now op op.kind how).own
  ends_to now op how ended none same so = by op.kind refl
    where
      by : (of : OpKind) → op.kind ≡ of → At op (ends here now op of how).own
      by kind.Write e = Then now (effect.Finishes op.client (record { seq = op.seq; ending = how })) so (By_operation op how ended e none, same) tt
      by kind.Fill e = so
      by kind.Copy e = so

  closes_to : (now : PairState) (op : Pending) → HasEnded heard here own op ending.Written → pending_on now op.cell ≡ Some op
      → now.pairs.finished ≡ own.pairs.finished → At op now → At op (ends here (without_pending now op.cell) op op.kind ending.Written).own
  closes_to now op ended there same so =
      ends_to (without_pending now op.cell) op ending.Written ended (cell_gone now.pairs.pending op.cell) same
      (Then now (effect.Closes op.cell) so (Is_over op ending.Written ended there) refl)

  flags : (now : PairState) (op : Pending) (which : MarkKind) (is : Bool) → pending_on now op.cell ≡ Some op
      → (is ≡ true → is_marked now.store which op.cell ≡ true) → IsSetFor heard here own now (with_mark_at op which is)
  flags now op mark.Busy is there marked =
      Goes_on op (record op.stage { busy = is }) there refl (λ e. inl e) (λ e. inr (marked e)) (λ e. inl e)
  flags now op mark.Stale is there marked =
      Goes_on op (record op.stage { stale = is }) there refl (λ e. inl e) (λ e. inl e) (λ e. inr (marked e))

  marks_to : (now : PairState) (op : Pending) (which : MarkKind) → pending_on now op.cell ≡ Some op → now.pairs.finished ≡ own.pairs.finished
      → At op now → At op (with_pending (applied now (effect.Marks which op.cell)) (with_mark_at op which true))
  marks_to now op which there same so =
      Then (applied now (effect.Marks which op.cell)) (effect.Sets (with_mark_at op which true)) (Then now (effect.Marks which op.cell) so (op, there) refl)
      (flags (applied now (effect.Marks which op.cell)) op which true there (λ e. mark_there now.store which op.cell), same) refl

  unmarks_to : (now : PairState) (op : Pending) (which : MarkKind) → pending_on now op.cell ≡ Some op → now.pairs.finished ≡ own.pairs.finished
      → At op now → IsUnmarkedFor here own (with_pending now (with_mark_at op which false)) which op.cell
      → At op (with_pending (applied now (effect.Unmarks which op.cell)) (with_mark_at op which false))
  unmarks_to now op which there same so why =
      Then (with_pending now (with_mark_at op which false)) (effect.Unmarks which op.cell)
      (Then now (effect.Sets (with_mark_at op which false)) so (flags now op which false there (λ e. true_false e refl), same) refl) why (inl refl)

  opened_to : (op : Pending) → IsOpening heard here own op → At op (with_opened own op)
  opened_to op opening =
      Then (applied own (effect.Opens op)) (effect.Holds_slots (own.store.tickets + 1)) (Then own (effect.Opens op) As_it_was (opening, refl) refl) tt tt

  numbers_to : {now : PairState} (op : Pending) → At op now → At op (applied now (effect.Numbers op.key.map (origin_by here.state op)))
  numbers_to op so = Then _ (effect.Numbers op.key.map (origin_by here.state op)) so tt tt

  puts_as_is : (op : Pending) → pending_on own op.cell ≡ Some op → IsToPut here op → (op.stage ≡ putting) ⊎ IsApart here op.cell → At op (puts here own op).own
  puts_as_is op is fresh why = numbers_to op (Then own (effect.Puts op.key (entry_ahead own op.cell op) (As_operation _)) As_it_was
      (An_operation op op.stage.reserved op.stage.paired is fresh why, refl, (refl, inl refl)) refl)

  puts_taken : (now : PairState) (op : Pending) → Taken own now op → IsToPut here op → IsApart here op.cell → At op (puts here now op).own
  puts_taken _ _ (As_it_is op is) fresh apart = puts_as_is op is fresh (inr apart)
  puts_taken _ _ (As_told op reserved paired is) fresh apart =
      numbers_to op (Then (with_pending own (told op reserved paired)) (effect.Puts op.key (entry_ahead own op.cell op) (As_operation _))
      (taken_to _ _ (As_told op reserved paired is) apart)
      (An_operation op reserved paired is fresh (inr apart), refl, (refl, inr apart)) refl)

  drops_to : (now : PairState) (op : Pending) → Taken own now op → live here.state op.cell ≡ false → At op (gives_up now op)
  drops_to now op taken off =
      let over = Is_over op ending.Written (Is_retired now op taken off) (taking own now op taken).there in
      let closed = Then now (effect.Closes op.cell) (taken_to now op taken (inr off)) over refl in
      by_test (At op) op.stage.put (without_pending now op.cell) (gives_back (without_pending now op.cell)) (λ put. closed)
      (λ fresh. Then (without_pending now op.cell) (effect.Holds_slots (now.store.tickets - 1)) closed tt tt)

  marks_taken : (now : PairState) (op : Pending) → Taken own now op → IsApart here op.cell → (which : MarkKind)
      → At op (with_pending (applied now (effect.Marks which op.cell)) (with_mark_at op which true))
  marks_taken now op taken apart which = let t = taking own now op taken in marks_to now op which t.there t.finished (taken_to now op taken apart)

  closes_taken : (now : PairState) (op : Pending) → Taken own now op → IsApart here op.cell → HasEnded heard here own op ending.Written
      → At op (ends here (without_pending now op.cell) op op.kind ending.Written).own
  closes_taken now op taken apart ended =
      let t = taking own now op taken in closes_to now op ended t.there t.finished (taken_to now op taken apart)

  acts_to : (now : PairState) (op : Pending) → Taken own now op → live here.state op.cell ≡ false → (next : Action) → At op (acts here now op next).own
  acts_to now op taken off action.Reserve = taken_to now op taken (inr off)
  acts_to now op taken off (action.Mark which) = marks_taken now op taken (inr off) which
  acts_to now op taken off action.Put = puts_taken now op taken (λ on. true_false on off) (inr off)
  acts_to now op taken off action.Replicate = taken_to now op taken (inr off)
  acts_to now op taken off (action.Unmark which) =
      let t = taking own now op taken in
      unmarks_to now op which t.there t.finished (taken_to now op taken (inr off)) (Is_off which op.cell off)
  acts_to now op taken off action.Answer = closes_taken now op taken (inr off) (Is_retired now op taken off)
  acts_to now op taken off action.Drop = drops_to now op taken off

  opens_alone_to : (op : Pending) → IsOpening heard here own op → At op (marks (with_opened own op) op mark.Stale).own
  opens_alone_to op opening =
      marks_to (with_opened own op) op mark.Stale (cell_same own.pairs.pending op.cell op) refl (opened_to op opening)

  lead_to : (done : JobResult) → DidLead heard here own done → Job done
  lead_to _ (Is_full want new full) =
      (None, Then own (effect.Finishes want.client (record { seq = want.seq; ending = ending.Full })) As_it_was (Had_no_slot want new full new.none, refl) tt)
  lead_to _ (Gives_up op h is reserved put) =
      let closed = without_pending own op.cell in
      let ended = Is_declined op h is reserved put in
      job_at (ends_to (gives_back closed) op ending.Full ended (cell_gone own.pairs.pending op.cell) refl
      (Then closed (effect.Holds_slots (own.store.tickets - 1)) (Then own (effect.Closes op.cell) As_it_was (Is_over op ending.Full ended is) refl) tt tt))
  lead_to _ (Opens want new both) = job_at (opened_to (operation here own.pairs.next want) (For_a_write want new))
  lead_to _ (Marks op h is both stage) =
      job_at (marks_to (with_pending own (with_reserved op)) (with_reserved op) mark.Busy (cell_same own.pairs.pending op.cell (with_reserved op)) refl
      (Then own (effect.Sets (with_reserved op)) As_it_was
      (Goes_on op (record op.stage { reserved = true }) is refl (λ e. inr (inl h)) (λ e. inl e) (λ e. inl e), refl) refl))
  lead_to _ (Puts op is both stage) =
      job_at (puts_as_is op is (λ on. (ap (λ (s : Stage). s.put) stage, inl (ap (λ (s : Stage). s.busy) stage))) (inl stage))
  lead_to _ (Closes op h is both stage) = job_at (closes_to own op (Both_have op h is both stage) is refl As_it_was)
  lead_to _ (Opens_alone want new alone) = job_at (opens_alone_to (operation here own.pairs.next want) (For_a_write want new))
  lead_to _ (Marks_alone now op taken alone fresh) = job_at (marks_taken now op taken (inl alone) mark.Stale)
  lead_to _ (Puts_alone now op taken alone stale put) = job_at (puts_taken now op taken (λ on. (put, inr stale)) (inl alone))
  lead_to _ (Unmarks_alone now op taken alone stale put busy) =
      let t = taking own now op taken in
      let free = with_mark_at op mark.Busy false in
      job_at (unmarks_to now op mark.Busy t.there t.finished (taken_to now op taken (inl alone))
      (By_its_operation free (cell_same now.pairs.pending op.cell free) refl stale))
  lead_to _ (Closes_alone now op taken alone stale put free) = job_at (closes_taken now op taken (inl alone) (Alone_has now op taken alone stale put free))
  lead_to _ (Opens_fill moving new room both) = job_at (opened_to (fill_operation here own.pairs.next moving) (For_a_fill moving new))
  lead_to _ (Opens_fill_alone moving new room alone) = job_at (opens_alone_to (fill_operation here own.pairs.next moving) (For_a_fill moving new))
  lead_to _ (Goes_on_retired now op taken off) = job_at (acts_to now op taken off (next_stage here.state here.me op))
  lead_to _ _ = (None, As_it_was)

  -- ### The second server

  tells_to : (cell : Cell) (number : ℕ) (how : FollowProgress) → To None (tells here own cell number how).own
  tells_to cell number follow_progress.Reserved = As_it_was
  tells_to cell number follow_progress.Replicated = As_it_was

  second_to : (done : JobResult) → DidSecond heard here own done → Job done
  second_to _ (Sets_apart number cell tickets h is le) =
      job_at (Then (applied own (effect.Holds_slots tickets)) (effect.Reserves cell number)
      (Then own (effect.Holds_slots tickets) As_it_was tt tt) (h, is, le) refl)
  second_to _ (Promises number cell how s is) = (None, tells_to cell number how)
  second_to _ (Follows number key version origin bytes h is last) =
      let next = version_of (chain_in own.store.chains (cell_of key)) + 1 in
      job_at {cell = Some (cell_of key)} (Then _ (effect.Numbers key.map origin)
      (Then own (effect.Puts key (record { version = next; bytes = bytes }) (As_second (record { op = number; progress = follow_progress.Replicated })))
      As_it_was (A_lead number key version next origin bytes h is last refl, refl, refl) refl) tt tt)
  second_to _ _ = (None, As_it_was)

  -- ### Copies

  ended_as : (row : Option LinkRow) (now : PairState) (cell : Cell) → ended_copy row now cell ≡ with_copied row (without_copying now cell) cell.block
  ended_as None now cell = refl
  ended_as (Some row) now cell =
      let gone = without_copying now cell in
      by_test (λ (to : PairState). record gone { copies = record gone.copies { progress = to.copies.progress } } ≡ to)
      (above (progress_on gone row).copied cell.block) (with_progress gone row (record (progress_on gone row) { copied = Some cell.block })) gone
      (λ t. refl) (λ t. refl)

  pub under_way : (cell : Cell) (now : PairState) (copy : Copying) → TakenCopy heard own cell now copy → IsUnderWay own now cell copy
  under_way cell _ _ (Copy_as_is copy is) = record { is = is; was = copy; was_is = is; pairs = refl; progress = refl }
  under_way cell _ _ (Copy_trimmed copy h is fresh) =
      record { is = cell_same own.copies.pending cell _; was = copy; was_is = is; pairs = refl; progress = refl }
  under_way cell _ _ (Copy_synced copy h is trimmed lt) =
      record { is = cell_same own.copies.pending cell _; was = copy; was_is = is; pairs = refl; progress = refl }

  copy_step_to : (now : PairState) (cell : Cell) (copy : Copying) (done : JobResult) → CopyStep here now cell copy done
      → IsUnderWay own now cell copy → To (Some cell) now → To (Some cell) done.own
  copy_step_to now cell copy _ (Unmarks_copied which synced left) there so =
      Then now (effect.Unmarks which cell) so (By_a_copy which cell copy there synced) (inl refl)
  copy_step_to now cell copy _ (Closes_copy synced left) there so =
      Then _ (effect.Is_full false)
      (subst (To (Some cell)) (ended_as (cell_link here.state cell) now cell)
      (Then now (effect.Ends_copy cell (cell_link here.state cell)) so (Is_whole copy there synced) refl))
      (λ e. true_false e refl) tt
  copy_step_to now cell copy _ _ there so = so

  pub copy_to : (cell : Cell) (now : PairState) (copy : Copying) → TakenCopy heard own cell now copy → To (Some cell) now
  copy_to cell _ _ (Copy_as_is copy is) = As_it_was
  copy_to cell _ _ (Copy_trimmed copy h is fresh) =
      Then own (effect.Copies cell (record copy { trimmed = true })) As_it_was (Has_trimmed copy h is fresh, refl) refl
  copy_to cell _ _ (Copy_synced copy h is trimmed lt) =
      Then own (effect.Copies cell (record copy { index = copy.index + 1 })) As_it_was (Has_put copy h is trimmed lt, refl) refl

  -- a copy that begins asks first
  begun_to : (cell : Cell) → IsToBegin here own cell → (done : JobResult) → CopyStep here (begins_copy own cell) cell (first_copy own.pairs.next) done
      → To (Some cell) done.own
  begun_to cell next _ (Asks_to_trim fresh) = Then own (effect.Begins_copy cell) As_it_was (next, refl) refl
  begun_to cell next _ (Sends row trimmed there) = true_false trimmed refl
  begun_to cell next _ (Unmarks_copied which synced left) = true_false synced.trimmed refl
  begun_to cell next _ (Closes_copy synced left) = true_false synced.trimmed refl

  page_to : (row : LinkRow) (block : Option ℕ) → IsNextPage heard here own row block
      → Becomes heard here own (with_page own row (progress_on own row) block)
  page_to row None page = (None, Then own (effect.Turns_page row None) As_it_was (page, refl) tt)
  page_to row (Some block) page = job_at (Then own (effect.Turns_page row (Some block)) As_it_was (page, refl) refl)

  abbrev with_marks : List Mark → PairState
  with_marks marks = record own { store = record own.store { marks = marks } }

  -- old marks go one after the other
  module _ (row : LinkRow) (which : MarkKind) (idle : (block : ℕ) → In block (idle_blocks here.state row own which) → IsIdle here own (cell_at row block)) where
    old_marks_to : (room : ℕ) (next : Option ℕ) → ((block : ℕ) → next ≡ Some block → In block (idle_blocks here.state row own which))
        → (marks : List Mark) → To None (with_marks marks)
        → To None (record own { store = unmark_all_on (with_marks marks).store which (idle_from here.state row own which room next) })
    old_marks_to zero next among marks so = so
    old_marks_to (suc room) None among marks so = so
    old_marks_to (suc room) (Some block) among marks so =
        let old = idle block (among block refl) in
        old_marks_to room (next_idle here.state row own which (Some block))
        (λ later e. (in_filter (above (Some block)) (idle_blocks here.state row own which) later (among_least _ later e)).0)
        (without_mark marks (mark_on which (cell_at row block)))
        (Then (with_marks marks) (effect.Unmarks which (cell_at row block)) so (Is_old which (cell_at row block) old refl) (inr old))

  holder_to : (done : JobResult) → DidHolder heard here own done → Job done
  holder_to _ (Turns_page id row other after block h held fresh at) =
      page_to row block (record { id = id; other = other; after = after; said = h; held = held; fresh = fresh; waited = at })
  holder_to done (Begins_copy id row other cell _ held next step) =
      job_at (begun_to cell (record { id = id; row = row; other = other; held = held; next = next }) done step)
  holder_to done (Goes_on_copying cell now copy _ taken step) =
      job_at (copy_step_to now cell copy done step (under_way cell now copy taken) (copy_to cell now copy taken))
  holder_to _ (Finds_it_full cell copy h is trimmed lt) =
      job_at (Then (without_copying own cell) (effect.Is_full true)
      (Then own (effect.Ends_copy cell None) As_it_was (Found_no_slot copy (under_way cell own copy (Copy_as_is copy is)) trimmed lt) refl)
      (λ e. inl (record { cell = cell; copy = copy; said = h; copying = is; trimmed = trimmed; left = lt })) tt)
  holder_to _ (Tidies id row which cells is both e) = (
    None,
    subst (λ (cs : List Cell). To None (record own { store = unmark_all_on own.store which cs })) e
        (old_marks_to row which (λ block i. Idle id row which block is both i) unmarks_limit (next_idle here.state row own which None)
        (λ block least_is. (in_filter (above None) (idle_blocks here.state row own which) block (among_least _ block least_is)).0) own.store.marks As_it_was),
  )
  holder_to _ _ = (None, As_it_was)

  trim_to : (now : PairState) (cell : Cell) (last : LastCopy) (holder : ℕ) (done : JobResult) → TrimStep now cell last holder done
      → last_copy now cell ≡ Some last → ((epoch : ℕ) → IsNotHeld now cell last epoch → IsDroppedFor heard here own now (key_at cell epoch))
      → To (Some cell) now → now.store.chains ≡ own.store.chains → now.pairs.pending ≡ own.pairs.pending → To (Some cell) done.own
  trim_to now cell last holder _ (Is_trimmed none) there why so chains pending = so
  trim_to now cell last holder _ (Drops_entry epoch epochs is) there why so chains pending =
      Then now (effect.Drops (key_at cell epoch)) so (chains, pending, why epoch (record { is = there; later = epochs; beyond = is })) refl

  other_to : (done : JobResult) → DidOther heard here own done → Job done
  other_to done (Is_copied_to number cell epochs holder _ h held newer step) =
      let new : IsNewCopy heard here own cell number epochs = record { said = h; holder = holder; held = held; newer = newer } in
      job_at (trim_to _ cell _ holder done step (cell_same own.copies.last cell (first_last number epochs))
      (λ epoch left. A_new_copy number cell epochs epoch new left)
      (Then own (effect.Is_copied cell number epochs) As_it_was (new, refl) refl) refl refl)
  other_to done (Goes_on_trimming cell holder last _ held is step) =
      job_at (trim_to own cell last holder done step is (λ epoch left. The_last_copy cell holder last epoch held is refl left) As_it_was refl refl)
  other_to _ (Puts_entry entry holder last of_copy at room) =
      job_at (Then (applied own (effect.Holds_slots (own.store.tickets + 1)))
      (effect.Puts entry.key entry.stored (As_copy (record last { index = last.index + 1 })))
      (Then own (effect.Holds_slots (own.store.tickets + 1)) As_it_was tt tt) (A_copy entry holder last of_copy at, refl, refl) refl)
  other_to _ _ = (None, As_it_was)

  -- ### Moves and sweeps

  filler_to : (done : JobResult) → DidFiller heard here own done → Job done
  filler_to _ (Is_filled key row posts h next fills) =
      let to : Key = record { map = row.map; block = key.block; epoch = key.epoch } in
      let filled : IsFilledAs heard here own row to = record { key = key; told = h; next = next; is = refl } in
      job_at {cell = None} (Then (applied own (effect.Fills row to)) (effect.Is_full false) (Then own (effect.Fills row to) As_it_was (filled, refl) tt)
      (λ e. true_false e refl) tt)
  filler_to _ (Is_out_of_slots key row h next) =
      (None, Then own (effect.Is_full true) As_it_was (λ e. inr (record { key = key; row = row; said = h; next = next })) tt)

  sweep_to : (done : JobResult) → DidSweep here own done → Job done
  sweep_to _ (Sweeps (retired.Key key) seated next off) = job_at (Then own (effect.Drops key) As_it_was (refl, refl, A_sweep key off) refl)
  sweep_to _ (Sweeps (retired.Mark which cell) seated next off) = job_at (Then own (effect.Unmarks which cell) As_it_was (Is_off which cell off) (inl refl))

  pub effects_of : (done : JobResult) → Did heard here own done → Job done
  effects_of _ Ignores = (None, As_it_was)
  effects_of _ (Refuses to said is why held) = (None, As_it_was)
  effects_of _ (By_read done d) = (None, subst (To None) (sym (of_read heard here own done d).same) As_it_was)
  effects_of _ (By_lead done d) = lead_to done d
  effects_of _ (By_second done d) = second_to done d
  effects_of _ (By_holder done d) = holder_to done d
  effects_of _ (By_other done d) = other_to done d
  effects_of _ (By_filler done d) = filler_to done d
  effects_of _ (By_sweep done d) = sweep_to done d

  -- what each effect keeps, the job keeps
  module _ (P : PairState → Type 0) (each : (now : PairState) (e : Effect) → May heard here own now e → P now → P (applied now e)) (begun : P own) where
    at_keeps : (cell : Option Cell) (now : PairState) → To cell now → P now
    at_keeps _ _ As_it_was = begun
    at_keeps cell _ (Then now e before may on) = each now e may (at_keeps cell now before)

    pub all_keep : (now : PairState) → Becomes heard here own now → P now
    all_keep now so = at_keeps so.0 now so.1

    pub job_keeps : (done : JobResult) → Did heard here own done → P done.own
    job_keeps done did = all_keep done.own (effects_of done did)
