-- The changes of a holder that are of no copy: of other cells, of a write of its own on the cell, of a page, and of a ballot.
use Rattle.law_copies.proofs.Imports.{[], ◌<◌, ◌∙◌, ◌≡◌, ◌≢◌, ◌≤◌, ◌⊎◌, Body, Busy, Cell, Chain, Copies, IsMarked, IsRising, LinkRow, MarkKind, None, Option}
use Rattle.law_copies.proofs.Imports.{PairState, Pending, Progress, Some, Stale, Store, above, ap, arith, at, by_bool, cell_at, cell_cmp, chain_in}
use Rattle.law_copies.proofs.Imports.{copying_on, false, id_of, inl, inr, is_flagged, is_marked, is_some, length, link_cmp, link_of, mark_there, nat_cmp}
use Rattle.law_copies.proofs.Imports.{nat_lt, nat_tests, no_progress, none_some, page_chains, pending_on, progress_on, refl, same_block, same_or_apart}
use Rattle.law_copies.proofs.Imports.{some_or_none, subst, sym, true, true_false, unwrap_or, with_mark_on, with_page, ℕ}
use Rattle.law_copies.specs.CopyProgress.{AreCopying, AreInOrder, IsCopied, IsCovered, IsLeft, IsPage, Is_equal, Is_marked_here, Is_marked_there}
use Rattle.law_copies.specs.CopyProgress.{Is_to_be_copied, NotCopied}
use Rattle.law_copies.specs.LoneSteps.{HolderStep, IsStill, KeepsCell}
use Rattle.law_copies.proofs.AllPut.{copied_now}
use Rattle.law_copies.proofs.HolderChanges.{IsUntouched, calm_step, covers, to_be_copied}
use Rattle.law_copies.proofs.CopiesGoOn.{IsOnward, onward_tables}
use Rattle.law_copies.proofs.HolderPace.{IsPaced, paced_table, page_flag, page_marks, progress_itself, same_block_is}
use Rattle.petal_msg.specs.declared.body.Body.TheVariants as body

module _ (heard : Body → Type 0) {links : ℕ} {row : LinkRow} {cell : Cell} {vo : Option PairState} {own : PairState}
    (old : AreCopying links row cell (Some own) vo) where
  abbrev Step : PairState → Type 0
  Step to = HolderStep heard links row cell vo own to

  -- ### Of other cells

  kept_marks : (one two : PairState) → ((kind : MarkKind) → is_marked two.store kind cell ≡ is_marked one.store kind cell)
      → IsMarked one.store cell → IsMarked two.store cell
  kept_marks one two same (inl busy) = inl (same Busy ∙ busy)
  kept_marks one two same (inr stale) = inr (same Stale ∙ stale)

  module _ (to : PairState) (k : KeepsCell cell own to) (next : own.pairs.next ≤ to.pairs.next) (paced : IsPaced row own to)
      (onward : IsOnward links row cell own to) where
    kept_untouched : IsUntouched cell own to
    kept_untouched = record {
      chain = k.rest.chain;
      free = λ e. k.rest.pending
          ∙ e;
      unmarked = kept_marks to own (λ kind. sym (k.marks kind));
    }

    -- what was copied of the cell is so still
    kept_copied : IsCopied own cell → IsCopied to cell
    kept_copied all = record {
      copy = all.copy;
      is = k.rest.copying ∙ all.is;
      trimmed = all.trimmed;
      past = subst (λ (chain : Chain). length chain ≤ all.copy.index) (sym k.rest.chain) all.past;
    }

    kept_left : IsLeft own row cell → IsLeft to row cell ⊎ IsCopied own cell
    kept_left (inl marked) = inl (inl (kept_marks own to k.marks marked))
    kept_left (inr all) = elim (onward.yet all.0 all.1) [
      | inl ahead ↦ inl (inr (to_be_copied row cell own to k.rest.chain all.0, ahead))
      | inr (inl marked) ↦ inl (inl (kept_marks own to k.marks marked))
      | inr (inr put) ↦ inr put
    ]

    kept_ordered : AreInOrder links row cell to
    kept_ordered paged later copy lt on is all ahead =
        let all_was = to_be_copied row cell to own (sym k.rest.chain) all in
        let ahead_was = onward.late ahead in
        elim (onward.others later copy lt on is) [
          | inl was ↦ elim (old.ordered own refl (sym paced.paged ∙ paged) later was.0 lt on was.1 all_was ahead_was) [
            | inl marked ↦ inl (kept_marks own to k.marks marked)
            | inr put ↦ inr (kept_copied put)
          ]
          | inr never ↦ absurd (never all_was ahead_was)
        ]

    kept_covers : (now : Store) → IsStill cell vo now → IsRising nat_cmp (chain_in now.chains cell)
        → IsCovered row cell own.store now (Some own) → IsCovered row cell to.store now (Some to)
    kept_covers now still rises covered = covers row cell own to paced.paged paced.after (inl k.rest.chain) (kept_marks own to k.marks) now
        (λ all ahead. elim (onward.yet all ahead) [
          | inl past ↦ inl past
          | inr (inl marked) ↦ inr (inl marked)
          | inr (inr put) ↦ inr (inr (copied_now old put now still rises))
        ]) covered

    pub kept_step : Step to
    kept_step = calm_step heard old to (record {
      copying = k.rest.copying;
      next = next;
      flag = paced.flag;
      busy = λ copy is. kept_untouched;
      caught = λ flag. (kept_untouched, paced.paged);
      marks = kept_marks own to k.marks;
      stored = λ some none. some (sym k.rest.chain ∙ none);
      risen = subst (IsRising nat_cmp) (sym k.rest.chain) (old.risen own refl);
      late = onward.late;
      left = kept_left;
      ordered = kept_ordered;
    }) (λ page. old.met own refl (onward.page page)) (λ now still pages rises covered. kept_covers now still rises covered)

  -- ### Of a write on the cell: no copy of it is under way, and no ballot was started

  module _ (idle : copying_on own cell ≡ None) (unflagged : is_flagged own (id_of row) ≡ false) where
    module _ (to : PairState) (copies : to.copies ≡ own.copies) (next : own.pairs.next ≤ to.pairs.next)
        (marks : IsMarked own.store cell → IsMarked to.store cell)
        (chain : (chain_in to.store.chains cell ≡ chain_in own.store.chains cell) ⊎ IsMarked to.store cell)
        (stored : chain_in own.store.chains cell ≢ [] → chain_in to.store.chains cell ≢ [])
        (rises : IsRising nat_cmp (chain_in to.store.chains cell)) where
      paced : IsPaced row own to
      paced = paced_table row own to (ap (λ (c : Copies). c.progress) copies)

      onward : IsOnward links row cell own to
      onward = onward_tables links row cell own to (ap (λ (c : Copies). c.progress) copies) (ap (λ (c : Copies). c.pending) copies) paced

      copied_is : (progress_on to row).copied ≡ (progress_on own row).copied
      copied_is = ap (λ (c : Copies). (unwrap_or (at link_cmp c.progress (id_of row)) no_progress).copied) copies

      write_left : IsLeft own row cell → IsLeft to row cell
      write_left (inl marked) = inl (marks marked)
      write_left (inr all) = elim chain [
        | inl same ↦ inr (to_be_copied row cell own to same all.0, ap (λ o. above o cell.block) copied_is ∙ all.1)
        | inr marked ↦ inl marked
      ]

      write_ordered : AreInOrder links row cell to
      write_ordered paged later copy lt on is all ahead = elim chain [
        | inl same ↦ elim (old.ordered own refl (sym paced.paged ∙ paged) later copy lt on
            (ap (λ (c : Copies). at cell_cmp c.pending (cell_at row later)) (sym copies) ∙ is)
            (to_be_copied row cell to own (sym same) all) (onward.late ahead)) [
              | inl marked ↦ inl (marks marked)
              | inr put ↦ none_some idle put.is
            ]
        | inr marked ↦ inl marked
      ]

      pub write_step : Step to
      write_step = calm_step heard old to (record {
        copying = ap (λ (c : Copies). at cell_cmp c.pending cell) copies;
        next = next;
        flag = paced.flag;
        busy = λ copy is. none_some idle is;
        caught = λ flag. true_false flag unflagged;
        marks = marks;
        stored = stored;
        risen = rises;
        late = onward.late;
        left = λ l. inl (write_left l);
        ordered = write_ordered;
      }) (λ page. old.met own refl (onward.page page))
          (λ now still pages rises covered. covers row cell own to paced.paged paced.after chain marks now
          (λ all ahead. inl (ap (λ o. above o cell.block) copied_is ∙ ahead)) covered)

  -- an operation that is pending stands for both
  pub pending_idle : (op : Pending) → pending_on own cell ≡ Some op → copying_on own cell ≡ None
  pending_idle op is = elim (some_or_none (copying_on own cell)) [
    | inl there ↦ none_some (old.copying own there.0 refl there.1).free is
    | inr none ↦ none
  ]

  pub pending_unflagged : (op : Pending) → pending_on own cell ≡ Some op → is_flagged own (id_of row) ≡ false
  pending_unflagged op is = by_bool (is_flagged own (id_of row)) (λ flag. none_some (old.caught own refl flag).free is) (λ no. no)

  -- ### Of a page of the link

  module _ (after : Option ℕ) (map_is : cell.map ≡ row.map) (fresh : (progress_on own row).paged ≡ false)
      (waited : same_block after (progress_on own row).after ≡ true) (idle : copying_on own cell ≡ None) (met : is_some vo ≡ true)
      (none : (later : ℕ) → link_of links later ≡ row.link → copying_on own (cell_at row later) ≡ None) where
    abbrev turned : Option ℕ → PairState
    turned block = with_page own row (progress_on own row) block

    waited_past : above (progress_on own row).after cell.block ≡ true → above after cell.block ≡ true
    waited_past past = ap (λ o. above o cell.block) (same_block_is after (progress_on own row).after waited) ∙ past

    page_copying : (block : Option ℕ) (q : Cell) → copying_on (turned block) q ≡ copying_on own q
    page_copying None q = refl
    page_copying (Some block) q = refl

    page_chain : (block : Option ℕ) → chain_in (turned block).store.chains cell ≡ chain_in own.store.chains cell
    page_chain block = ap (λ chains. chain_in chains cell) (page_chains own row block)

    -- what was copied stays
    page_copied : (block : Option ℕ) → (progress_on (turned block) row).copied ≡ (progress_on own row).copied
    page_copied None = ap (λ (p : Progress). p.copied) (progress_itself own row (record (progress_on own row) { paged = true }))
    page_copied (Some block) = ap (λ (p : Progress). p.copied)
        (progress_itself (record own { store = with_mark_on own.store Stale (cell_at row block) }) row
        (record (progress_on own row) { after = Some block }))

    page_ahead : (block : Option ℕ) → NotCopied (Some own) row cell.block → NotCopied (Some (turned block)) row cell.block
    page_ahead block ahead = ap (λ o. above o cell.block) (page_copied block) ∙ ahead

    page_left : (block : Option ℕ) → IsLeft own row cell → IsLeft (turned block) row cell
    page_left block (inl marked) = inl (page_marks own row block cell marked)
    page_left block (inr all) = inr (to_be_copied row cell own (turned block) (page_chain block) all.0, page_ahead block all.1)

    page_next : (block : Option ℕ) → own.pairs.next ≤ (turned block).pairs.next
    page_next None = omega arith
    page_next (Some block) = omega arith

    -- the page had passed the block, had it been marked there
    passed : (block : ℕ) (now : Store) → IsPage cell now vo after (Some block) → IsMarked now cell
        → above (progress_on own row).after cell.block ≡ true
        → block ≤ cell.block
    passed block now page marked past = by_bool (nat_lt cell.block block)
        (λ t. let lt : cell.block < block = grind (arith, nat_tests) in absurd (page.least (waited_past past) lt marked))
        (λ f. grind (arith, nat_tests))

    page_covers : (block : Option ℕ) (now : Store) → IsPage cell now vo after block → IsCovered row cell own.store now (Some own)
        → IsCovered row cell (turned block).store now (Some (turned block))
    page_covers block now page (Is_equal e) = Is_equal (page_chain block ∙ e)
    page_covers block now page (Is_marked_here m) = Is_marked_here (page_marks own row block cell m)
    page_covers block now page (Is_to_be_copied all ahead) =
        Is_to_be_copied (to_be_copied row cell own (turned block) (page_chain block) all) (page_ahead block ahead)
    page_covers None now page (Is_marked_there m np) = absurd (page.least (waited_past np.1) tt m)
    page_covers (Some block) now page (Is_marked_there m np) =
        let le = passed block now page m np.1 in
        let marked : PairState = record own { store = with_mark_on own.store Stale (cell_at row block) } in
        let stands = progress_itself marked row (record (progress_on own row) { after = Some block }) in
        elim (same_or_apart block cell.block) [
          | inl e ↦ (
              let same : cell_at row block ≡ cell = λ i. record { map = sym map_is i; block = e i } in
              Is_marked_here (inr (subst (λ (q : Cell). is_marked (with_mark_on own.store Stale (cell_at row block)) Stale q ≡ true) same
              (mark_there own.store Stale (cell_at row block)))))
          | inr ne ↦ (
              let lt : nat_lt block cell.block ≡ true = less block cell.block le ne in
              Is_marked_there m (ap (λ (p : Progress). p.paged) stands ∙ np.0, ap (λ (p : Progress). above p.after cell.block) stands ∙ lt))
        ]
      where
        less : (a b : ℕ) → a ≤ b → a ≢ b → nat_lt a b ≡ true
        less a b le ne = grind (arith, nat_tests)

    pub page_step : (block : Option ℕ) → heard (body.Hello row.map row.link after block) → Step (turned block)
    page_step block h = calm_step heard old (turned block) (record {
      copying = page_copying block cell;
      next = page_next block;
      flag = page_flag own row block;
      busy = λ copy is. none_some idle is;
      caught = λ flag. true_false (old.caught own refl flag).paged fresh;
      marks = page_marks own row block cell;
      stored = λ some gone. some (sym (page_chain block) ∙ gone);
      late = λ ahead. ap (λ o. above o cell.block) (sym (page_copied block)) ∙ ahead;
      left = λ l. inl (page_left block l);
      ordered = λ paged later copy lt on is. none_some (none later on) (sym (page_copying block (cell_at row later)) ∙ is);
      risen = subst (λ chains. IsRising nat_cmp (chain_in chains cell)) (sym (page_chains own row block)) (old.risen own refl);
    }) (λ page. met) (λ now still pages rises covered. page_covers block now (pages after block h) covered)
