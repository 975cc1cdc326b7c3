-- How far a holder is with a link: what stays so, and what a page changes.
use Rattle.law_copies.proofs.Imports.{◌∙◌, ◌≡◌, Busy, Cell, IsMarked, LinkId, LinkRow, MarkKind, None, Option, PairState, Progress, Some, Stale, Store}
use Rattle.law_copies.proofs.Imports.{Table, above, ap, at, by_bool, by_test, cell_at, eq_by_cmp, false, id_of, inl, inr, is_eq, is_flagged, link_cmp}
use Rattle.law_copies.proofs.Imports.{mark_kept, nat_cmp, nat_cmp_total, no_progress, option_map_or, ordering_then, progress_beside, progress_here}
use Rattle.law_copies.proofs.Imports.{progress_on, refl, same_block, same_caught, same_id, same_numbers, sym, tied_itself, true, true_false, turned_page}
use Rattle.law_copies.proofs.Imports.{unwrap_or, with_copied, with_mark_on, with_page, with_progress, ℕ}

-- pages and the ballot are as they were
pub record IsPaced (row : LinkRow) (own to : PairState) : Type 0 where
  pub paged : (progress_on to row).paged ≡ (progress_on own row).paged
  pub after : (progress_on to row).after ≡ (progress_on own row).after
  pub flag : is_flagged to (id_of row) ≡ is_flagged own (id_of row)

pub paced_table : (row : LinkRow) (own to : PairState) → to.copies.progress ≡ own.copies.progress → IsPaced row own to
paced_table row own to e = record {
  paged = ap (λ (t : Table LinkId Progress). (unwrap_or (at link_cmp t (id_of row)) no_progress).paged) e;
  after = ap (λ (t : Table LinkId Progress). (unwrap_or (at link_cmp t (id_of row)) no_progress).after) e;
  flag = ap (λ (t : Table LinkId Progress). option_map_or (λ (p : Progress). p.caught) (at link_cmp t (id_of row)) false) e;
}

-- by what stands of the link
pub paced_by : (row : LinkRow) (own to : PairState) → (progress_on to row).paged ≡ (progress_on own row).paged
    → (progress_on to row).after ≡ (progress_on own row).after
    → (progress_on to row).caught ≡ (progress_on own row).caught → IsPaced row own to
paced_by row own to paged after caught = record {
  paged = paged;
  after = after;
  flag = same_caught to row ∙ caught
      ∙ sym (same_caught own row);
}

-- of another link
pub paced_beside : (own : PairState) (of : LinkRow) (new : Progress) (row : LinkRow) → eq_by_cmp link_cmp (id_of row) (id_of of) ≡ false
    → IsPaced row own (with_progress own of new)
paced_beside own of new row apart =
    let e = progress_beside own of new row apart in
    paced_by row own (with_progress own of new) (ap (λ (p : Progress). p.paged) e) (ap (λ (p : Progress). p.after) e)
    (ap (λ (p : Progress). p.caught) e)

-- a page of another link
pub page_beside : (own : PairState) (of : LinkRow) (row : LinkRow) (block : Option ℕ) → eq_by_cmp link_cmp (id_of row) (id_of of) ≡ false
    → progress_on (turned_page of own block) row ≡ progress_on own row
page_beside own of row None apart = progress_beside own of _ row apart
page_beside own of row (Some block) apart = progress_beside (record own { store = with_mark_on own.store Stale (cell_at of block) }) of _ row apart

-- where what is put has the same
pub paced_put : (own : PairState) (of : LinkRow) (new : Progress) (row : LinkRow) → new.paged ≡ (progress_on own of).paged
    → new.after ≡ (progress_on own of).after
    → new.caught ≡ (progress_on own of).caught → IsPaced row own (with_progress own of new)
paced_put own of new row paged after caught = by_bool (eq_by_cmp link_cmp (id_of row) (id_of of))
    (λ t.
    let e = progress_here own of new row t in
    let was : progress_on own of ≡ progress_on own row = ap (λ id. unwrap_or (at link_cmp own.copies.progress id) no_progress)
    (sym (same_id (id_of row) (id_of of) t)) in
    paced_by row own (with_progress own of new) (ap (λ (p : Progress). p.paged) e ∙ paged ∙ ap (λ (p : Progress). p.paged) was)
    (ap (λ (p : Progress). p.after) e ∙ after ∙ ap (λ (p : Progress). p.after) was)
    (ap (λ (p : Progress). p.caught) e ∙ caught ∙ ap (λ (p : Progress). p.caught) was))
    (λ apart. paced_beside own of new row apart)

-- a copied block is no matter of pages
pub paced_copied : (o : Option LinkRow) (own : PairState) (block : ℕ) (row : LinkRow) → IsPaced row own (with_copied o own block)
paced_copied None own block row = record { paged = refl; after = refl; flag = refl }
paced_copied (Some of) own block row =
    by_test (IsPaced row own) (above (progress_on own of).copied block)
    (with_progress own of (record (progress_on own of) { copied = Some block })) own
    (λ t. paced_put own of (record (progress_on own of) { copied = Some block }) row refl refl refl)
    (λ t. record { paged = refl; after = refl; flag = refl })

-- ### A page of this link

pub link_itself : (id : LinkId) → eq_by_cmp link_cmp id id ≡ true
link_itself id = ap is_eq
    (ap (λ r. ordering_then r (nat_cmp id.link id.link)) (tied_itself nat_cmp_total id.map) ∙ tied_itself nat_cmp_total id.link)

-- what is put stands there
pub progress_itself : (own : PairState) (row : LinkRow) (new : Progress) → progress_on (with_progress own row new) row ≡ new
progress_itself own row new = progress_here own row new row (link_itself (id_of row))

-- the flag stays with a page
pub page_flag : (own : PairState) (row : LinkRow) (block : Option ℕ)
    → is_flagged (with_page own row (progress_on own row) block) (id_of row) ≡ is_flagged own (id_of row)
page_flag own row None = same_caught (with_page own row (progress_on own row) None) row
    ∙ ap (λ (p : Progress). p.caught) (progress_itself own row (record (progress_on own row) { paged = true })) ∙ sym (same_caught own row)
page_flag own row (Some block) = same_caught (with_page own row (progress_on own row) (Some block)) row
    ∙ ap (λ (p : Progress). p.caught)
    (progress_itself (record own { store = with_mark_on own.store Stale (cell_at row block) }) row
    (record (progress_on own row) { after = Some block }))
    ∙ sym (same_caught own row)

-- and each mark of a block stays where another one is set
pub still_marked : (store : Store) (which : MarkKind) (of cell : Cell) → IsMarked store cell → IsMarked (with_mark_on store which of) cell
still_marked store which of cell (inl busy) = inl (mark_kept store which Busy of cell busy)
still_marked store which of cell (inr stale) = inr (mark_kept store which Stale of cell stale)

pub page_marks : (own : PairState) (row : LinkRow) (block : Option ℕ) (cell : Cell) → IsMarked own.store cell
    → IsMarked (with_page own row (progress_on own row) block).store cell
page_marks own row None cell m = m
page_marks own row (Some block) cell m = still_marked own.store Stale (cell_at row block) cell m

-- the answer is the one that is waited for
pub same_block_is : (a b : Option ℕ) → same_block a b ≡ true → a ≡ b
same_block_is None None e = refl
same_block_is None (Some b) e = true_false e refl
same_block_is (Some a) None e = true_false e refl
same_block_is (Some a) (Some b) e = ap Some (same_numbers a b e)
