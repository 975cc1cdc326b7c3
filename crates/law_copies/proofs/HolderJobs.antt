-- Each job of the holder of a link keeps a cell of it.
use Rattle.law_copies.proofs.Imports.{◌∙◌, ◌≡◌, ◌≢◌, ◌≤◌, An_operation, As_copy, As_operation, As_second, Begins, Begins_copy, Body, By_a_copy}
use Rattle.law_copies.proofs.Imports.{By_its_operation, Cell, Closes, CopyGoes, Copying, Did, Drops, Effect, Ends_copy, For_a_fill, For_a_write, Found_no_slot}
use Rattle.law_copies.proofs.Imports.{Goes_on, Has_put, Has_trimmed, IsClosedFor, IsCopying, IsIdle, IsMarked, IsNextPage, IsOpening, IsPutFor, IsRising}
use Rattle.law_copies.proofs.Imports.{IsSetFor, IsToBegin, IsToEnd, IsUnmarkedFor, Is_copied, Is_off, Is_old, Is_over, Is_whole, JobContext, JobResult, Key}
use Rattle.law_copies.proofs.Imports.{LinkId, LinkRow, MarkKind, Marks, May, None, Opens, Option, PairState, Pending, Post, Progress, Puts, Reserves, Says}
use Rattle.law_copies.proofs.Imports.{Sets, Some, Store, Stored, Table, Turns_page, Unmarks, about, above, ap, applied, arith, at, begins_copy, by_bool}
use Rattle.law_copies.proofs.Imports.{cell_at, cell_cmp, cell_gone, cell_gone_apart, cell_holder, cell_link, cell_of, cell_on, cell_same, chain_in, chain_put}
use Rattle.law_copies.proofs.Imports.{chains_with, copying_on, ended, ended_copy, entry_ahead, eq_by_cmp, false, first_copy, has_proposed, held_as_flag, id_of}
use Rattle.law_copies.proofs.Imports.{in_both, inl, inr, is_alone, is_flagged, is_second, length, letters_of_job, link_cmp, link_of, live, marks, nat_cmp}
use Rattle.law_copies.proofs.Imports.{no_progress, none_some, pending_on, progress_on, put, refl, same_cell_or_apart, same_id, same_some, some_or_none}
use Rattle.law_copies.proofs.Imports.{stale_kept, subst, sym, true, true_false, turned_page, under_way, unwrap_or, with_copying, with_page, without_copying, ℕ}
use Rattle.law_jobs.specs.Effects.{Copies}
use Rattle.law_copies.specs.CopyProgress.{AreCopying, IsTold}
use Rattle.law_copies.specs.LoneSteps.{HolderKeeps, HolderStep, IsHolding, KeepsCell}
use Rattle.law_copies.specs.Pair.{HasMarks}
use Rattle.law_copies.proofs.BlocksOnLinks.{on_block}
use Rattle.law_copies.proofs.CopiesGoOn.{IsOnward, begun_onward, closed_onward, copied_itself, ended_onward, going_onward, onward_by, onward_tables}
use Rattle.law_copies.proofs.CopyLetters.{telling}
use Rattle.law_copies.proofs.EffectsOnCells.{Changes, cell_keeps, copied_apart, dropped_apart}
use Rattle.law_copies.proofs.EmptyCellsHaveNoChain.{has_entry, no_entries}
use Rattle.law_copies.proofs.EpochsRise.{AreRising, put_entry}
use Rattle.law_copies.proofs.HolderChanges.{step_on}
use Rattle.law_copies.proofs.HolderPace.{link_itself, paced_by, page_beside, paced_copied, paced_table, still_marked}
use Rattle.law_copies.proofs.LeadsFindMarks.{IsMine, KeepsAt, begun_marks, each_marks, second_apart}
use Rattle.law_copies.proofs.LeftToCopy.{IsNext, next_is}
use Rattle.law_copies.proofs.OtherIsNotHolder.{only_alone}
use Rattle.law_copies.proofs.OwnPartFrames.{keeps_itself}
use Rattle.law_copies.proofs.RolesOfWorkers.{alone_not_in_both, alone_not_row, alone_not_second, cell_map, holder_not_other, idle_both, kept_lives, named_id}
use Rattle.law_copies.proofs.RolesOfWorkers.{one_named, page_on}
use Rattle.petal_msg.specs.declared.body.Body.TheVariants as body
use Rattle.law_copies.proofs.CopyMoves as moves
use Rattle.law_copies.proofs.HolderSteps as steps
use Rattle.law_jobs.specs.Sayings as says

module _ (heard : Body → Type 0) (here : JobContext) (links : ℕ) (row : LinkRow) (vo : Option PairState) (own : PairState) where
  -- ### A copy of the cell

  module _ (cell : Cell) (f : IsHolding heard here links row cell own vo) where
    begins_here : IsNext here.state row own cell → HolderStep heard links row cell vo own (begins_copy own cell)
    begins_here n = moves.begun_step heard f.old n.paged n.free n.idle (elim n.left [
      | inl marked ↦ inl marked
      | inr all ↦ inr (record { whole = all.whole; stored = has_entry own.store.chains f.fit.filled cell all.stored }, all.past)
    ])

    goes_on : (copy : Copying) → CopyGoes heard own cell copy → HolderStep heard links row cell vo own (with_copying own cell copy)
    goes_on _ (Has_trimmed copy h is fresh) = moves.trimmed_step heard f.old copy is fresh (f.told (body.Trimmed copy.op cell) h refl)
    goes_on _ (Has_put copy h is trimmed lt) = moves.synced_step heard f.old copy is trimmed lt (f.told (body.Synced copy.op cell copy.index) h refl)

    module _ (now : PairState) (old : AreCopying links row cell (Some now) vo) where
      -- the block is one that is copied, once its copy ends
      closed_block : above (progress_on (ended_copy (cell_link here.state cell) now cell) row).copied cell.block ≡ false
      closed_block = subst (λ (o : Option LinkRow). above (progress_on (ended_copy o now cell) row).copied cell.block ≡ false) (sym f.is)
          (copied_itself (without_copying now cell) row cell.block row (link_itself (id_of row)))

      ends : (of : Option LinkRow) → IsToEnd here own now cell of → HolderStep heard links row cell vo now (ended_copy of now cell)
      ends _ (Found_no_slot copy under trimmed lt) = moves.full_step heard old copy under.is trimmed (ended_copy None now cell)
          (cell_gone now.copies.pending cell) (λ q ne. cell_gone_apart now.copies.pending cell q ne) refl refl refl refl refl refl lt
      ends _ (Is_whole copy under synced) =
          let paced = paced_copied (cell_link here.state cell) (without_copying now cell) cell.block row in
          moves.closed_step heard old copy under.is synced.trimmed (ended_copy (cell_link here.state cell) now cell)
          (cell_gone now.copies.pending cell) (λ q ne. cell_gone_apart now.copies.pending cell q ne) refl refl
          paced.paged paced.after paced.flag closed_block synced.past

  -- ### All jobs

  module _ (cell : Cell) (f : IsHolding heard here links row cell own vo) where
    abbrev Step : PairState → PairState → Type 0
    Step now to = HolderStep heard links row cell vo now to

    mine : is_alone here.me row.state ≡ true
    mine = only_alone here.me row f.whole f.held

    at_cell : (c : Cell) → cell ≡ c → IsHolding heard here links row c own vo
    at_cell c e = subst (λ (q : Cell). IsHolding heard here links row q own vo) e f

    -- it has no idle mark, which is of a link in Both
    no_idle : IsIdle here own cell → ⊥
    no_idle idle = alone_not_row here f.fit.steady cell row f.is here.me mine (idle_both here own cell idle).0

    not_held : {A : Type 0} (holder : ℕ) → cell_holder here cell ≡ Some holder → A
    not_held holder held = holder_not_other here f.fit.steady cell row f.is mine holder held

    alone : in_both here.state cell ≡ false
    alone = by_bool (in_both here.state cell) (λ both. alone_not_in_both here f.fit.steady cell row f.is here.me mine both) (λ no. no)

    own_cell : live here.state cell ≡ true → IsMine heard here own f.fit cell
    own_cell on = record {
      on = on;
      no_second = λ so. alone_not_second here f.fit.steady cell row f.is here.me mine so;
      no_other = λ holder held. not_held holder held;
      idle = λ copy is. (f.old.copying own copy refl is).free;
    }

    -- what stands in a job
    record Stands (now : PairState) : Type 0 where
      step : Step own now
      finds : live here.state cell ≡ true → KeepsAt cell own now

    abbrev ChangesHere : PairState → Effect → Type 0
    ChangesHere now e = Changes heard here own f.fit cell f.alive now e

    -- an effect that is not on the cell leaves it
    left : (now : PairState) (e : Effect) → ChangesHere now e → cell_on e ≢ Some cell → KeepsCell cell now (applied now e)
    left now e (inl at) ne = absurd (ne at.at)
    left now e (inr kept) ne = kept

    -- ### Writes

    -- no copy of the cell is under way then, and no ballot was started
    abbrev IsQuiet : PairState → Type 0
    IsQuiet now = (copying_on now cell ≡ None) × (is_flagged now (id_of row) ≡ false)

    pending_quiet : (now : PairState) → Stands now → (op : Pending) → pending_on now cell ≡ Some op → IsQuiet now
    pending_quiet now s op is = (steps.pending_idle heard s.step.copying op is, steps.pending_unflagged heard s.step.copying op is)

    new_quiet : (op : Pending) → IsOpening heard here own op → op.cell ≡ cell → IsQuiet own
    new_quiet _ (For_a_write want new) e = (
      ap (copying_on own) (sym e) ∙ new.uncopied,
      sym (held_as_flag here.state own cell row f.is) ∙ ap (has_proposed here.state own) (sym e) ∙ new.unheld,
    )
    new_quiet _ (For_a_fill moving new) e = (
      ap (copying_on own) (sym e) ∙ new.uncopied,
      sym (held_as_flag here.state own cell row f.is) ∙ ap (has_proposed here.state own) (sym e) ∙ new.unheld,
    )

    -- the entries stay
    writes : (now to : PairState) → Stands now → IsQuiet now → to.copies ≡ now.copies → now.pairs.next ≤ to.pairs.next
        → (IsMarked now.store cell → IsMarked to.store cell) → chain_in to.store.chains cell ≡ chain_in now.store.chains cell → Step now to
    writes now to s quiet copies next marks chain = steps.write_step heard s.step.copying quiet.0 quiet.1 to copies next marks (inl chain)
        (λ some none. some (sym chain ∙ none)) (subst (IsRising nat_cmp) (sym chain) (s.step.copying.risen now refl))

    set_quiet : (now : PairState) (op : Pending) → IsSetFor heard here own now op → op.cell ≡ cell → Stands now → IsQuiet now
    set_quiet now _ (Goes_on op stage there same reserved busy stale) e s =
        pending_quiet now s op (ap (at cell_cmp now.pairs.pending) (sym e) ∙ there)

    closed_quiet : (now : PairState) (c : Cell) → IsClosedFor heard here own now c → c ≡ cell → Stands now → IsQuiet now
    closed_quiet now _ (Is_over op how ended there) e s = pending_quiet now s op (ap (at cell_cmp now.pairs.pending) (sym e) ∙ there)

    puts : (now : PairState) (key : Key) (stored : Stored) (op : Pending) → IsPutFor heard here own key stored (As_operation op) → op.cell ≡ cell
        → live here.state cell ≡ true → now ≡ record own { pairs = record own.pairs { pending = now.pairs.pending } } → Stands now
        → Step now (applied now (Puts key stored (As_operation op)))
    puts now _ _ _ (An_operation op reserved paired is fresh why) e on same s =
        let there = ap (at cell_cmp own.pairs.pending) (sym e) ∙ is in
        let entry = entry_ahead own op.cell op in
        let store : now.store ≡ own.store = ap (λ (o : PairState). o.store) same in
        let has = fit_marks there in
        let marked : IsMarked now.store cell = subst (λ (x : Store). IsMarked x cell) (sym store)
        (elim (fresh (ap (live here.state) e ∙ on)).1 [ inl busy ↦ inl (has.busy busy) | inr stale ↦ inr (has.stale stale) ]) in
        let keyed : cell_of op.key ≡ cell = (f.fit.ready.staged op.cell op is).keyed ∙ e in
        let quiet : IsQuiet own = (steps.pending_idle heard f.old op there, steps.pending_unflagged heard f.old op there) in
        let made = chain_put now.store.chains (cell_of op.key) (put nat_cmp (chain_in now.store.chains (cell_of op.key)) op.key.epoch entry) in
        steps.write_step heard s.step.copying
        (ap (λ (o : PairState). copying_on o cell) same ∙ quiet.0) (ap (λ (o : PairState). is_flagged o (id_of row)) same ∙ quiet.1)
        (applied now (Puts op.key entry (As_operation _))) refl (omega arith) (λ m. m) (inr marked)
        (λ some none. no_entries (chain_in now.store.chains (cell_of op.key)) op.key.epoch entry
        (sym made ∙ ap (chain_in (chains_with now.store.chains op.key entry)) keyed ∙ none))
        (put_entry now.store.chains (cell_of op.key) op.key.epoch entry (subst (λ (x : Store). AreRising x.chains) (sym store) f.fit.rising) cell)
      where
        fit_marks : {op : Pending} → pending_on own cell ≡ Some op → HasMarks op own.store cell
        fit_marks {op} there = f.fit.marks cell op on there

    unmarks : (now : PairState) (kind : MarkKind) (c : Cell) → IsUnmarkedFor here own now kind c → c ≡ cell → live here.state cell ≡ true → Stands now
        → Step now (applied now (Unmarks kind c))
    unmarks now _ _ (By_its_operation op there busy stale) e on s =
        let is = ap (at cell_cmp now.pairs.pending) (sym e) ∙ there in
        let has = (s.finds on).marks op is in
        writes now _ s (pending_quiet now s op is) refl (omega arith)
        (λ m. inr (stale_kept now.store op.cell cell ∙ has.stale stale)) refl
    unmarks now _ _ (By_a_copy kind c copy under synced) e on s =
        subst (λ (q : Cell). Step now (applied now (Unmarks kind q))) (sym e)
        (moves.unmarked_step heard s.step.copying copy (ap (copying_on now) (sym e) ∙ under.is) synced.trimmed
        (subst (λ (q : Cell). length (chain_in now.store.chains q) ≤ copy.index) e synced.past) kind)
    unmarks now _ _ (Is_old kind c idle same) e on s = absurd (no_idle (subst (IsIdle here own) e idle))
    unmarks now _ _ (Is_off kind c off) e on s = true_false (ap (live here.state) e ∙ on) off

    -- ### Copies

    begins : (c : Cell) → IsToBegin here own c → ChangesHere own (Begins_copy c) → Step own (begins_copy own c)
    begins c to change =
        let n = next_is here.state to.id to.row own to.held.is c to.next in
        elim (same_cell_or_apart cell c) [
          | inl e ↦
              let same : to.row ≡ row = same_some (sym n.is ∙ ap (cell_link here.state) (sym e) ∙ f.is) in
              subst (λ (q : Cell). HolderStep heard links row q vo own (begins_copy own c)) (sym e)
              (begins_here c (at_cell c e) (subst (λ (x : LinkRow). IsNext here.state x own c) same n))
          | inr ne ↦ steps.kept_step heard f.old (begins_copy own c) (left own (Begins_copy c) change (λ e. ne (sym (same_some e)))) (omega arith)
              (record { paged = refl; after = refl; flag = refl })
              (begun_onward here.state links row cell f.is f.links_are c ne own to.row n (kept_lives heard here own f.fit cell f.alive))
        ]

    copies : (c : Cell) (copy : Copying) → CopyGoes heard own c copy → ChangesHere own (Copies c copy) → Step own (with_copying own c copy)
    copies c copy why change = elim (same_cell_or_apart cell c) [
      | inl e ↦ subst (λ (q : Cell). HolderStep heard links row q vo own (with_copying own c copy)) (sym e) (goes_on c (at_cell c e) copy why)
      | inr ne ↦ steps.kept_step heard f.old (with_copying own c copy) (left own (Copies c copy) change (λ e. ne (sym (same_some e)))) (omega arith)
          (record { paged = refl; after = refl; flag = refl }) (by ne copy why)
    ]
      where
        by : cell ≢ c → (copy : Copying) → CopyGoes heard own c copy → IsOnward links row cell own (with_copying own c copy)
        by ne _ (Has_trimmed was h is fresh) = going_onward here.state links row cell f.is f.links_are c ne own was _ is
        by ne _ (Has_put was h is trimmed lt) = going_onward here.state links row cell f.is f.links_are c ne own was _ is

    ends_apart : (now : PairState) (c : Cell) → cell ≢ c → (of : Option LinkRow) → IsToEnd here own now c of → AreCopying links row cell (Some now) vo
        → IsOnward links row cell now (ended_copy of now c)
    ends_apart now c ne _ (Found_no_slot copy under trimmed lt) old = ended_onward here.state links row cell f.is f.links_are c ne now
    ends_apart now c ne _ (Is_whole copy under synced) old =
        let rests = f.fit.resting.copying c under.was under.was_is in
        closed_onward here.state links row cell f.is f.links_are c ne now (old.ordered now refl) copy under.is rests.row rests.is
        (ap (λ (t : Table LinkId Progress). (unwrap_or (at link_cmp t (id_of rests.row)) no_progress).paged) under.progress ∙ rests.paged)

    ends_copy : (now : PairState) (c : Cell) (of : Option LinkRow) → IsToEnd here own now c of → ChangesHere now (Ends_copy c of) → Stands now
        → Step now (ended_copy of now c)
    ends_copy now c of why change s = elim (same_cell_or_apart cell c) [
      | inl e ↦ subst (λ (q : Cell). HolderStep heard links row q vo now (ended_copy of now c)) (sym e)
          (ends c (at_cell c e) now (subst (λ (q : Cell). AreCopying links row q (Some now) vo) e s.step.copying) of why)
      | inr ne ↦
          let paced = paced_copied of (without_copying now c) c.block row in
          steps.kept_step heard s.step.copying (ended_copy of now c) (left now (Ends_copy c of) change (λ e. ne (sym (same_some e)))) (omega arith)
          (record { paged = paced.paged; after = paced.after; flag = paced.flag }) (ends_apart now c ne of why s.step.copying)
    ]

    -- no copy of a cell of the link is under way before the pages are done
    unpaged_idle : (progress_on own row).paged ≡ false → (q : Cell) → cell_link here.state q ≡ Some row → copying_on own q ≡ None
    unpaged_idle fresh q on = elim (some_or_none (copying_on own q)) [
      | inl there ↦
          let rests = f.fit.resting.copying q there.0 there.1 in
          true_false (ap (λ (x : LinkRow). (progress_on own x).paged) (same_some (sym on ∙ rests.is)) ∙ rests.paged) fresh
      | inr none ↦ none
    ]

    later_on : (later : ℕ) → link_of links later ≡ row.link → cell_link here.state (cell_at row later) ≡ Some row
    later_on later on = on_block here.state cell row f.is later (ap (λ n. link_of n later) f.links_are ∙ on)

    page_here : (block : Option ℕ) → IsNextPage heard here own row block → Step own (turned_page row own block)
    page_here block page = as_turned block (
        let said = subst (λ (l : LinkId). heard (body.Hello l.map l.link page.after block)) (sym (named_id here.state page.id row page.held.is)) page.said in
        steps.page_step heard f.old page.after (cell_map here.state cell row f.is) page.fresh page.waited (unpaged_idle page.fresh cell f.is)
        (f.met page.after block said) (λ later on. unpaged_idle page.fresh (cell_at row later) (later_on later on)) block said)
      where
        as_turned : (block : Option ℕ) → Step own (with_page own row (progress_on own row) block) → Step own (turned_page row own block)
        as_turned None step = step
        as_turned (Some block) step = step

    -- of another link
    page_apart : (r : LinkRow) (block : Option ℕ) → IsNextPage heard here own r block → eq_by_cmp link_cmp (id_of row) (id_of r) ≡ false
        → cell_on (Turns_page r block) ≢ Some cell
    page_apart r None page apart e = none_some refl e
    page_apart r (Some block) page apart e =
        let on : cell_link here.state cell ≡ Some r =
        ap (cell_link here.state) (sym (same_some e)) ∙ (page_on heard here own f.fit page.id r page.after block page.said page.held.is).0 in
        true_false (ap (λ (x : LinkRow). eq_by_cmp link_cmp (id_of row) (id_of x)) (sym (same_some (sym f.is ∙ on))) ∙ link_itself (id_of row)) apart

    turns : (r : LinkRow) (block : Option ℕ) → IsNextPage heard here own r block → ChangesHere own (Turns_page r block)
        → Step own (turned_page r own block)
    turns r block page change = by_bool (eq_by_cmp link_cmp (id_of row) (id_of r))
        (λ t.
        let named = same_id (id_of row) (id_of r) t ∙ named_id here.state page.id r page.held.is in
        let same : row ≡ r = one_named here.state cell row page.id r f.is page.held.is named in
        subst (λ (x : LinkRow). IsNextPage heard here own x block → Step own (turned_page x own block)) same (page_here block) page)
        (λ apart.
        let e = page_beside own r row block apart in
        let paced = paced_by row own (turned_page r own block) (ap (λ (p : Progress). p.paged) e) (ap (λ (p : Progress). p.after) e)
        (ap (λ (p : Progress). p.caught) e) in
        steps.kept_step heard f.old (turned_page r own block) (left own (Turns_page r block) change (page_apart r block page apart)) (omega arith) paced
        (onward_by links row cell own _ paced (ap (λ (p : Progress). p.copied) e) (λ later copy lt on is. inl (copy, is))))

    -- ### All effects

    -- from where the job began
    first : (e : Effect) (now : PairState) → now ≡ own → ChangesHere now e → (ChangesHere own e → Step own (applied own e)) → Step now (applied now e)
    first e now same change step = subst (λ (o : PairState). ChangesHere o e → Step o (applied o e)) (sym same) step change

    one : (now : PairState) (e : Effect) → May heard here own now e → ChangesHere now e → Stands now → Step now (applied now e)
    one now (Begins_copy c) may change s = first (Begins_copy c) now may.1 change (begins c may.0)
    one now (Copies c copy) may change s = first (Copies c copy) now may.1 change (copies c copy may.0)
    one now (Turns_page r block) may change s = first (Turns_page r block) now may.1 change (turns r block may.0)
    one now (Ends_copy c of) may change s = ends_copy now c of may change s
    one now (Opens op) may (inl on) s = writes now _ s
        (subst IsQuiet (sym may.1) (new_quiet op may.0 (same_some on.at))) refl (omega arith) (λ m. m) refl
    one now (Sets op) may (inl on) s = writes now _ s (set_quiet now op may.0 (same_some on.at) s) refl (omega arith) (λ m. m) refl
    one now (Closes c) may (inl on) s = writes now _ s (closed_quiet now c may (same_some on.at) s) refl (omega arith) (λ m. m) refl
    one now (Marks kind c) may (inl on) s = writes now _ s
        (pending_quiet now s may.0 (ap (at cell_cmp now.pairs.pending) (sym (same_some on.at)) ∙ may.1)) refl (omega arith)
        (still_marked now.store kind c cell) refl
    one now (Unmarks kind c) may (inl on) s = unmarks now kind c may (same_some on.at) on.lives s
    one now (Puts key stored (As_operation op)) may (inl on) s = puts now key stored op may.0 (same_some on.at) on.lives may.2.0 s
    one now (Puts key stored (As_second last)) may (inl on) s = absurd (second_apart heard here own f.fit cell (own_cell on.lives) key stored last may.0
        (sym (same_some on.at)))
    one now (Puts key stored (As_copy last)) may (inl on) s =
        absurd (copied_apart heard here own cell (λ holder held. not_held holder held) key stored last may.0 (sym (same_some on.at)))
    one now (Drops key) may (inl on) s = absurd (dropped_apart heard here own cell (λ holder held. not_held holder held) now key may.2 on.lives
        (sym (same_some on.at)))
    one now (Reserves c number) may (inl on) s =
        alone_not_second here f.fit.steady cell row f.is here.me mine (ap (is_second here.state here.me) (sym (same_some on.at)) ∙ may.1)
    one now (Is_copied c number epochs) may (inl on) s = not_held may.0.holder (ap (cell_holder here) (sym (same_some on.at)) ∙ may.0.held)
    one now _ may (inl on) s = none_some refl on.at
    one now e may (inr kept) s = steps.kept_step heard s.step.copying (applied now e) kept (omega arith) (paced_table row now (applied now e) refl)
        (onward_tables links row cell now (applied now e) refl refl (paced_table row now (applied now e) refl))

    each : (now : PairState) (e : Effect) → May heard here own now e → ChangesHere now e → Stands now → Stands (applied now e)
    each now e may change s = record {
      step = step_on heard links row cell vo own now (applied now e) s.step (one now e may change s);
      finds = λ on. each_marks heard here own f.fit cell (own_cell on) now e may (s.finds on);
    }

    stands : Stands own
    stands = record {
      step = steps.kept_step heard f.old own (keeps_itself cell own) (omega arith) (record { paged = refl; after = refl; flag = refl })
          (onward_tables links row cell own own refl refl (record { paged = refl; after = refl; flag = refl }));
      finds = λ on. begun_marks heard here own f.fit cell (own_cell on);
    }

    did_step : (done : JobResult) → Did heard here own done → Step own done.own
    did_step done did = (cell_keeps heard here own f.fit cell f.alive Stands each stands done did).step

    -- the copy of which a letter tells is under way after the job
    told_of : (now : PairState) (copy : Copying) → IsCopying heard here own cell now copy → copying_on now cell ≡ Some copy
    told_of _ _ (Begins id r other held next) = cell_same own.copies.pending cell (first_copy own.pairs.next)
    told_of _ _ (says.Goes_on now copy taken) = (under_way heard here own cell now copy taken).is

    says_told : (new : PairState) → AreCopying links row cell (Some new) vo → (post : Post) → Says heard here own new post
        → (about post.body).cell ≡ Some cell → IsTold row (Some new) vo post.body
    says_told new old = telling heard here own row (Some new) vo cell new
        (λ copy copies fresh. moves.trim_told heard old copy (told_of new copy copies) fresh) (λ last holder held is none. not_held holder held)
        (λ copy entry copies trimmed there. moves.entry_told heard old copy (told_of new copy copies) entry trimmed there)
        (λ number index holder last held is same lt. not_held holder held)

    -- what is kept
    pub holds : (done : JobResult) → Did heard here own done → HolderKeeps heard links row cell own vo done
    holds done d =
        let s = did_step done d in
        record { step = s; says = λ post i e. says_told done.own s.copying post (letters_of_job heard here own done d post i) e }
