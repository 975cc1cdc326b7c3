-- What a server remembers of copies stays of links as they are in its own state: each job keeps it, and each ballot.
use Rattle.law_steps.proofs.Imports.{[], if◌then◌else◌, ◌+◌, ◌==◌, ◌∙◌, ◌∷◌, ◌≡◌, Ask, Block, Body, Bool, Caught, Cell, Command, Copies, Copying, In}
use Rattle.law_steps.proofs.Imports.{JobContext, JobResult, LastCopy, LinkId, LinkRow, List, Mark, NextCopy, None, Nothing, Option, PairState, Progress, Some}
use Rattle.law_steps.proofs.Imports.{State, Stored, Wait, above, after, ap, at, begins_copy, blocks_left, both_true, by_bool, by_test, cell_apart, cell_at}
use Rattle.law_steps.proofs.Imports.{cell_cmp, cell_gone, cell_gone_apart, cell_holder, cell_link, cell_of, cell_same, copying_on, eq_by_cmp, false, filter}
use Rattle.law_steps.proofs.Imports.{found_at, found_itself, holder_of, holds_link, id_of, in-append, in_filter, inl, inr, is_kept_on, is_link}
use Rattle.law_steps.proofs.Imports.{is_link_under_way, is_on, is_under_way, last_copy, least, length, lesser, link_at, link_cmp, link_named, link_of}
use Rattle.law_steps.proofs.Imports.{linked_at, live, map, marked_blocks, nat_lt, needs_full_copy, next_block, next_copy, no_progress, none_some}
use Rattle.law_steps.proofs.Imports.{option_and_then, option_map_or, progress_beside, progress_here, progress_on, proposed, refl, same_id, same_numbers}
use Rattle.law_steps.proofs.Imports.{same_some, stored_blocks, subst, sym, true, true_false, tuple_of, unwrap_or, with_copied, with_copying, with_entry}
use Rattle.law_steps.proofs.Imports.{with_full, with_last_copy, with_mark_on, with_page, with_progress, with_ticket, without_copying, ℕ}
use Rattle.law_steps.specs.DidHolder.{DidHolder, CopyStep, Unmarks_copied, Closes_copy, TakenCopy, Copy_as_is, Copy_trimmed, Copy_synced, Asks_page}
use Rattle.law_steps.specs.DidHolder.{Turns_page, Begins_copy, Goes_on_copying, Finds_it_full, Tidies, first_copy}
use Rattle.law_steps.specs.DidOther.{DidOther, first_last, TrimStep, Is_trimmed, Drops_entry, Is_copied_to, Goes_on_trimming, Puts_entry}
use Rattle.law_steps.specs.Did.{Did, Ignores, Refuses, By_read, By_lead, By_second, By_holder, By_other, By_filler, By_sweep}
use Rattle.law_steps.specs.RestingCopies.{AreResting, CopyRests, LastRests}
use Rattle.law_steps.proofs.OperationsRest.{same_cell_or_apart}
use Rattle.law_steps.proofs.Subjects.{of_filler, of_lead, of_read, of_second, of_sweep}
use Rattle.busy_marks.specs.declared.marks.MarkKind.TheVariants as mark

-- ### What is left of it

-- where neither copies nor last ones are added, and no link's pages are new
pub resting_same : (state : State) (me : ℕ) (own to : PairState)
    → ((cell : Cell) (copy : Copying) → copying_on to cell ≡ Some copy → (was : Copying) × (copying_on own cell ≡ Some was)
    × (copy.trimmed ≡ false → was.trimmed ≡ false)
    × (copy.trimmed ≡ false → copy.index ≡ was.index))
    → ((cell : Cell) (last : LastCopy) → last_copy to cell ≡ Some last → (was : LastCopy) × (last_copy own cell ≡ Some was))
    → ((row : LinkRow) → (progress_on own row).paged ≡ true → (progress_on to row).paged ≡ true)
    → AreResting state me own → AreResting state me to
resting_same state me own to copies lasts paged r = record {
  copying = λ cell copy is.
      let was = copies cell copy is in
      let old = r.copying cell was.0 was.1 in
      record {
        may = old.may;
        paged = paged old.row old.paged;
        begun = λ fresh. was.3 fresh ∙ old.begun (was.2 fresh);
      };
  lasts = λ cell last is. let was = lasts cell last is in r.lasts cell was.0 was.1;
}

-- where all copies are as they were
pub resting_equal : (state : State) (me : ℕ) (own to : PairState) → to.copies ≡ own.copies → AreResting state me own → AreResting state me to
resting_equal state me own to e = resting_same state me own to
    (λ cell copy is. (copy, ap (λ (c : Copies). at cell_cmp c.pending cell) (sym e) ∙ is, λ f. f, λ f. refl))
    (λ cell last is. (last, ap (λ (c : Copies). at cell_cmp c.last cell) (sym e) ∙ is))
    (λ row paged. ap (λ (c : Copies). (unwrap_or (at link_cmp c.progress (id_of row)) no_progress).paged) e ∙ paged)

-- pages are not new by what is put of a link
pub paged_put : (own : PairState) (row : LinkRow) (new : Progress) → ((progress_on own row).paged ≡ true → new.paged ≡ true) → (other : LinkRow)
    → (progress_on own other).paged ≡ true → (progress_on (with_progress own row new) other).paged ≡ true
paged_put own row new keeps other is = by_bool (eq_by_cmp link_cmp (id_of other) (id_of row))
    (λ e. ap (λ (p : Progress). p.paged) (progress_here own row new other e)
    ∙ keeps (ap (λ id. (unwrap_or (at link_cmp own.copies.progress id) no_progress).paged) (sym (same_id (id_of other) (id_of row) e)) ∙ is))
    (λ apart. ap (λ (p : Progress). p.paged) (progress_beside own row new other apart) ∙ is)

-- ### The cell of a copy that begins

pub in_none : {A B : Type 0} (x : A) → In x [] → B
unfolding In
in_none x h = absurd h

pub same_cell : (a b : Cell) → Block a ≡ Block b → a ≡ b
same_cell a b e = ap cell_in e
  where
    cell_in : NextCopy → Cell
    cell_in (Block c) = c
    cell_in _ = a

pub among_least : (ns : List ℕ) (n : ℕ) → least ns ≡ Some n → In n ns
unfolding In
among_least [] n e = none_some refl e
among_least (k ∷ ns) n e = by (least ns) (λ m is. among_least ns m is) e
  where
    by : (o : Option ℕ) → ((m : ℕ) → o ≡ Some m → In m ns) → lesser (Some k) o ≡ Some n → In n (k ∷ ns)
    by None rest f = inl (sym (same_some f))
    by (Some m) rest f = by_test (λ (o : Option ℕ). o ≡ Some n → In n (k ∷ ns)) (nat_lt m k) (Some m) (Some k)
        (λ _ g. inr (rest n g)) (λ _ g. inl (sym (same_some g))) f

-- a block of what stands on a link is of one of its live cells
pub blocks_on : {X : Type 0} (cell : X → Cell) (state : State) (row : LinkRow) (xs : List X) (block : ℕ)
    → In block (map (λ x. (cell x).block) (filter (λ x. is_kept_on state row (cell x)) xs)) → (c : Cell) × (c.block ≡ block) × (is_kept_on state row c ≡ true)
unfolding In
blocks_on cell state row [] block h = absurd h
blocks_on {X} cell state row (x ∷ xs) block h =
    by_test (λ (ys : List X). In block (map (λ y. (cell y).block) ys) → (c : Cell) × (c.block ≡ block) × (is_kept_on state row c ≡ true))
    (is_kept_on state row (cell x)) (x ∷ filter (λ y. is_kept_on state row (cell y)) xs) (filter (λ y. is_kept_on state row (cell y)) xs)
    (λ t i. elim i [ inl e ↦ (cell x, sym e, t) | inr j ↦ blocks_on cell state row xs block j ])
    (λ t i. blocks_on cell state row xs block i) h

-- a cell's row is found by its own map and number
pub row_named : (state : State) (cell : Cell) (row : LinkRow) → cell_link state cell ≡ Some row → link_named state (id_of row) ≡ Some row
row_named state cell row is =
    let h = linked_at state cell row is in found_itself state cell.map (link_of (length h.0) cell.block) row h.2

-- a cell on a link has its row
pub on_row : (state : State) (id : LinkId) (row : LinkRow) → link_named state id ≡ Some row → (cell : Cell) → is_on state row cell ≡ true
    → (cell_link state cell ≡ Some row) × (cell.map ≡ row.map)
on_row state id row named cell on = by (tuple_of state.maps cell.map) refl
  where
    at_row_of : (ids : List ℕ) → cell_link state cell ≡ link_at state.links cell.map (link_of (length ids) cell.block)
        → (o : Option LinkRow) → link_at state.links cell.map (link_of (length ids) cell.block) ≡ o → (cell_link state cell ≡ Some row) × (cell.map ≡ row.map)
    at_row_of ids is None none = true_false on (ap (λ o. option_map_or (is_link row.map row.link) o false) (is ∙ none))
    at_row_of ids is (Some r) there =
        let same = both_true (r.map == row.map) (r.link == row.link) (sym (ap (λ o. option_map_or (is_link row.map row.link) o false) (is ∙ there)) ∙ on) in
        let found = found_at (is_link cell.map (link_of (length ids) cell.block)) state.links r there in
        let map_is = same_numbers r.map cell.map (both_true (r.map == cell.map) _ found.2).0 in
        let one = found_itself state cell.map (link_of (length ids) cell.block) r there in
        let two = found_itself state id.map id.link row named in
        let r_is : r ≡ row =
        same_some (sym one ∙ (λ i. link_at state.links (same_numbers r.map row.map same.0 i) (same_numbers r.link row.link same.1 i)) ∙ two) in
        (is ∙ there ∙ ap Some r_is, sym map_is ∙ same_numbers r.map row.map same.0)

    by : (o : Option (List ℕ)) → tuple_of state.maps cell.map ≡ o → (cell_link state cell ≡ Some row) × (cell.map ≡ row.map)
    by None none =
        true_false on (ap (λ o. option_map_or (is_link row.map row.link) o false)
        (ap (option_and_then (λ ids. link_at state.links cell.map (link_of (length ids) cell.block))) none))
    by (Some ids) is = at_row_of ids (ap (option_and_then (λ ids. link_at state.links cell.map (link_of (length ids) cell.block))) is) _ refl

-- the cell whose copy begins next is live and lies on the link, whose pages are done
record IsNextOn (state : State) (row : LinkRow) (own : PairState) (cell : Cell) : Type 0 where
  is : cell_link state cell ≡ Some row
  live : live state cell ≡ true
  paged : (progress_on own row).paged ≡ true

pub cell_left : (state : State) (id : LinkId) (row : LinkRow) (own : PairState) → link_named state id ≡ Some row → (block : ℕ)
    → In block (blocks_left state row own) → (cell_link state (cell_at row block) ≡ Some row) × (live state (cell_at row block) ≡ true)
cell_left state id row own named block i =
    let on : (c : Cell) × (c.block ≡ block) × (is_kept_on state row c ≡ true) =
    elim (in-append block (marked_blocks state row own) _ i) [
      | inl marked ↦ blocks_on (λ (m : Mark). m.cell) state row own.store.marks block marked
      | inr stored ↦ blocks_on (λ (chain : Cell × List (ℕ × Stored)). chain.0) state row own.store.chains block (whole stored)
    ] in
    let kept = both_true (is_on state row on.0) (live state on.0) on.2 in
    let there = on_row state id row named on.0 kept.0 in
    let same : on.0 ≡ cell_at row block = λ i. record { map = there.1 i; block = on.1 i } in
    (ap (cell_link state) (sym same) ∙ there.0, ap (live state) (sym same) ∙ kept.1)
  where
    whole : In block (if needs_full_copy row.state then filter (above (progress_on own row).copied) (stored_blocks state row own) else [])
        → In block (stored_blocks state row own)
    whole = by_test (λ (ys : List ℕ). In block ys → In block (stored_blocks state row own)) (needs_full_copy row.state) _ _
        (λ t j. (in_filter (above (progress_on own row).copied) (stored_blocks state row own) block j).0) (λ t j. in_none block j)

next_on : (state : State) (id : LinkId) (row : LinkRow) (own : PairState) → link_named state id ≡ Some row → (cell : Cell)
    → next_copy state row own ≡ Block cell
    → IsNextOn state row own cell
unfolding next_copy
next_on state id row own named cell =
    by_test (λ (n : NextCopy). n ≡ Block cell → IsNextOn state row own cell) (progress_on own row).paged
    (next_block state row own (least (blocks_left state row own))) Ask
    (λ paged e. by_block paged (least (blocks_left state row own)) refl e) (λ f e. let g : Ask ≡ Block cell = e in absurd cc)
  where
    by_block : (progress_on own row).paged ≡ true → (o : Option ℕ) → least (blocks_left state row own) ≡ o → next_block state row own o ≡ Block cell
        → IsNextOn state row own cell
    by_block paged None is e =
        by_test (λ (n : NextCopy). n ≡ Block cell → IsNextOn state row own cell) (is_link_under_way state row own) Wait Nothing
        (λ t f. let g : Wait ≡ Block cell = f in absurd cc) (λ no f. let g : Nothing ≡ Block cell = f in absurd cc) e
    by_block paged (Some block) is e =
        by_test (λ (n : NextCopy). n ≡ Block cell → IsNextOn state row own cell) (is_under_way own (cell_at row block)) Wait (Block (cell_at row block))
        (λ t f. let g : Wait ≡ Block cell = f in absurd cc)
        (λ no f.
        let same : cell_at row block ≡ cell = same_cell (cell_at row block) cell f in
        let left = cell_left state id row own named block (among_least (blocks_left state row own) block is) in
        record {
          is = ap (cell_link state) (sym same) ∙ left.0;
          live = ap (live state) (sym same) ∙ left.1;
          paged = paged;
        }) e

-- ### Jobs

module _ (here : JobContext) (own : PairState) (r : AreResting here.state here.me own) where
  -- a copy stands where it is put
  copying_put : (cell : Cell) (copy : Copying) → CopyRests here.state here.me own cell copy → AreResting here.state here.me (with_copying own cell copy)
  copying_put cell copy new = record {
    copying = λ c other is. elim (same_cell_or_apart c cell) [
      | inl e ↦ (
          let one : copy ≡ other =
          same_some (sym (cell_same own.copies.pending cell copy) ∙ subst (λ (q : Cell). copying_on (with_copying own cell copy) q ≡ Some other) e is) in
          moved c other (subst (λ (q : Cell). CopyRests here.state here.me own q other) (sym e) (subst (CopyRests here.state here.me own cell) one new)))
      | inr ne ↦ moved c other (r.copying c other (sym (cell_apart own.copies.pending cell copy c ne) ∙ is))
    ];
    lasts = r.lasts;
  }
    where
      moved : (c : Cell) (other : Copying) → CopyRests here.state here.me own c other → CopyRests here.state here.me (with_copying own cell copy) c other
      moved c other o = record { may = o.may; paged = o.paged; begun = o.begun }

  copying_gone : (cell : Cell) → AreResting here.state here.me (without_copying own cell)
  copying_gone cell = resting_same here.state here.me own (without_copying own cell)
      (λ c copy is. elim (same_cell_or_apart c cell) [
        | inl e ↦ none_some (ap (copying_on (without_copying own cell)) e ∙ cell_gone own.copies.pending cell) is
        | inr ne ↦ (copy, sym (cell_gone_apart own.copies.pending cell c ne) ∙ is, (λ f. f), (λ f. refl))
      ])
      (λ c last is. (last, is)) (λ row paged. paged) r

  full_put : (full : Bool) → AreResting here.state here.me (with_full own full)
  full_put full = resting_same here.state here.me own (with_full own full) (λ c copy is. (copy, is, (λ f. f), (λ f. refl)))
      (λ c last is. (last, is)) (λ row paged. paged) r

  progress_put : (row : LinkRow) (new : Progress) → ((progress_on own row).paged ≡ true → new.paged ≡ true)
      → AreResting here.state here.me (with_progress own row new)
  progress_put row new keeps =
      resting_same here.state here.me own (with_progress own row new) (λ c copy is. (copy, is, (λ f. f), (λ f. refl))) (λ c last is. (last, is))
      (paged_put own row new keeps) r

  copied_put : (o : Option LinkRow) (block : ℕ) → AreResting here.state here.me (with_copied o own block)
  copied_put None block = r
  copied_put (Some row) block =
      by_test (AreResting here.state here.me) (above (progress_on own row).copied block)
      (with_progress own row (record (progress_on own row) { copied = Some block })) own
      (λ t. progress_put row (record (progress_on own row) { copied = Some block }) (λ paged. paged)) (λ no. r)

  last_put : (cell : Cell) (last : LastCopy) (holder : ℕ) → cell_holder here cell ≡ Some holder → AreResting here.state here.me (with_last_copy own cell last)
  last_put cell last holder held = record {
    copying = λ c copy is. let o = r.copying c copy is in
        record { may = o.may; paged = o.paged; begun = o.begun };
    lasts = λ c other is. elim (same_cell_or_apart c cell) [
      | inl e ↦ inl (subst (λ (q : Cell). LastRests here.state here.me q) (sym e) (by other (cell_link here.state cell) refl))
      | inr ne ↦ r.lasts c other (sym (cell_apart own.copies.last cell last c ne) ∙ is)
    ];
  }
    where
      by : (other : LastCopy) (o : Option LinkRow) → cell_link here.state cell ≡ o → LastRests here.state here.me cell
      by other None none = none_some (ap (option_and_then (holder_of here.me)) none) held
      by other (Some row) is = record { row = row; is = is; holder = holder; held = sym (ap (option_and_then (holder_of here.me)) is) ∙ held }

-- a step of a copy
step_rests : (here : JobContext) (own : PairState) (cell : Cell) (copy : Copying) (done : JobResult) → AreResting here.state here.me own
    → CopyStep here own cell copy done
    → AreResting here.state here.me done.own
step_rests here own cell copy _ r (Unmarks_copied kind synced left) = resting_equal here.state here.me own _ refl r
step_rests here own cell copy _ r (Closes_copy synced left) =
    full_put here _ (copied_put here (without_copying own cell) (copying_gone here own r cell) (cell_link here.state cell) cell.block) false
step_rests here own cell copy _ r _ = r

taken_rests : (heard : Body → Type 0) (here : JobContext) (own : PairState) (cell : Cell) (now : PairState) (copy : Copying) → AreResting here.state here.me own
    → TakenCopy heard own cell now copy → AreResting here.state here.me now
taken_rests heard here own cell _ copy r (Copy_as_is _ is) = r
taken_rests heard here own cell _ _ r (Copy_trimmed copy h is fresh) =
    let o = r.copying cell copy is in
    copying_put here own r cell (record copy { trimmed = true })
    (record { may = o.may; paged = o.paged; begun = λ f. true_false refl f })
taken_rests heard here own cell _ _ r (Copy_synced copy h is trimmed lt) =
    let o = r.copying cell copy is in
    copying_put here own r cell (record copy { index = copy.index + 1 })
    (record { may = o.may; paged = o.paged; begun = λ f. true_false trimmed f })

page_rests : (here : JobContext) (own : PairState) (row : LinkRow) (block : Option ℕ) → AreResting here.state here.me own
    → AreResting here.state here.me (with_page own row (progress_on own row) block)
page_rests here own row None r = progress_put here own r row (record (progress_on own row) { paged = true }) (λ t. refl)
page_rests here own row (Some block) r =
    let marked : PairState = record own { store = with_mark_on own.store mark.Stale (cell_at row block) } in
    progress_put here marked (resting_equal here.state here.me own marked refl r) row (record (progress_on own row) { after = Some block }) (λ t. t)

holder_rests : (heard : Body → Type 0) (here : JobContext) (own : PairState) (done : JobResult) → AreResting here.state here.me own
    → DidHolder heard here own done
    → AreResting here.state here.me done.own
holder_rests heard here own _ r (Asks_page id row other held fresh) = r
holder_rests heard here own _ r (Turns_page id row other after block h held fresh so) = page_rests here own row block r
holder_rests heard here own done r (Begins_copy id row other cell _ held next step) =
    let on = next_on here.state id row own held.is cell next in
    let numbered : PairState = record own { pairs = record own.pairs { next = own.pairs.next + 1 } } in
    step_rests here (begins_copy own cell) cell (first_copy own.pairs.next) done
    (copying_put here numbered (resting_equal here.state here.me own numbered refl r) cell (first_copy own.pairs.next)
    (record { may = record { row = row; is = on.is; live = on.live; other = other; other_is = held.other_is }; paged = on.paged; begun = λ f. refl })) step
holder_rests heard here own done r (Goes_on_copying cell now copy _ taken step) =
    step_rests here now cell copy done (taken_rests heard here own cell now copy r taken) step
holder_rests heard here own _ r (Finds_it_full cell copy h is trimmed lt) = full_put here (without_copying own cell) (copying_gone here own r cell) true
holder_rests heard here own _ r (Tidies id row kind cells is both idle) = resting_equal here.state here.me own _ refl r

trim_rests : (here : JobContext) (own : PairState) (cell : Cell) (last : LastCopy) (holder : ℕ) (done : JobResult) → AreResting here.state here.me own
    → TrimStep own cell last holder done → AreResting here.state here.me done.own
trim_rests here own cell last holder _ r (Is_trimmed none) = r
trim_rests here own cell last holder _ r (Drops_entry epoch epochs is) = resting_equal here.state here.me own _ refl r

other_rests : (heard : Body → Type 0) (here : JobContext) (own : PairState) (done : JobResult) → AreResting here.state here.me own
    → DidOther heard here own done
    → AreResting here.state here.me done.own
other_rests heard here own done r (Is_copied_to number cell epochs holder _ h held newer step) =
    trim_rests here (with_last_copy own cell (first_last number epochs)) cell (first_last number epochs) holder done
    (last_put here own r cell (first_last number epochs) holder held) step
other_rests heard here own done r (Goes_on_trimming cell holder last _ held is step) = trim_rests here own cell last holder done r step
other_rests heard here own _ r (Puts_entry entry holder last of_copy so room) =
    let put : PairState = record own { store = with_entry (with_ticket own.store) entry.key entry.stored } in
    last_put here put (resting_equal here.state here.me own put refl r) (cell_of entry.key) (record last { index = last.index + 1 }) holder of_copy.held
other_rests heard here own _ r _ = r

pub did_rests : (heard : Body → Type 0) (here : JobContext) (own : PairState) (done : JobResult) → AreResting here.state here.me own → Did heard here own done
    → AreResting here.state here.me done.own
did_rests heard here own _ r Ignores = r
did_rests heard here own _ r (Refuses to said is busy held) = r
did_rests heard here own done r (By_read _ d) =
    resting_equal here.state here.me own done.own (ap (λ (o : PairState). o.copies) (of_read heard here own done d).same) r
did_rests heard here own done r (By_lead _ d) = resting_equal here.state here.me own done.own (of_lead heard here own done d).copies r
did_rests heard here own done r (By_second _ d) = resting_equal here.state here.me own done.own (of_second heard here own done d).copies r
did_rests heard here own done r (By_holder _ d) = holder_rests heard here own done r d
did_rests heard here own done r (By_other _ d) = other_rests heard here own done r d
did_rests heard here own done r (By_filler _ d) =
    let f = of_filler heard here own done d in
    resting_same here.state here.me own done.own
    (λ cell copy is. (copy, ap (λ t. at cell_cmp t cell) (sym f.pending) ∙ is, (λ e. e), (λ e. refl)))
    (λ cell last is. (last, ap (λ t. at cell_cmp t cell) (sym f.last) ∙ is))
    (λ row paged. ap (λ t. (unwrap_or (at link_cmp t (id_of row)) no_progress).paged) f.progress ∙ paged) r
did_rests heard here own done r (By_sweep _ d) = resting_equal here.state here.me own done.own (of_sweep heard here own done d).copies r

-- ### A ballot

pub ballot_rests : (here : JobContext) (own : PairState) (o : Option Command) → AreResting here.state here.me own
    → AreResting here.state here.me (proposed here.state own o)
ballot_rests here own (Some (Caught of link holder inc other other_inc)) r = by (link_named here.state (record { map = of; link = link }))
  where
    by : (o : Option LinkRow) → AreResting here.state here.me (holds_link own o)
    by None = r
    by (Some row) = progress_put here own r row (record (progress_on own row) { caught = true }) (λ paged. paged)
ballot_rests here own (Some _) r = r
ballot_rests here own None r = r
