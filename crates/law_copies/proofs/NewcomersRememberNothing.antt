-- A server that comes to a place with nothing in memory of the cell: what was so where it had not been there is so then.
use Rattle.law_copies.proofs.Imports.{◌∙◌, ◌≡◌, ◌≤◌, Body, Cell, IsRising, LinkRow, None, Option, PairState, Progress, Some, Store, Stored, above, ap, arith}
use Rattle.law_copies.proofs.Imports.{at, cell_cmp, chain_in, copying_on, false, id_of, inl, inr, is_flagged, is_some, last_copy, nat_cmp, no_progress}
use Rattle.law_copies.proofs.Imports.{none_some, progress_on, refl, same_caught, same_some, subst, sym, true_false, ℕ}
use Rattle.law_copies.specs.CopyProgress.{AreAlike, AreCopying, HasPage, HasSent, IsCovered, IsTold, Is_equal, Is_marked_here, Is_marked_there}
use Rattle.law_copies.specs.CopyProgress.{Is_to_be_copied}
use Rattle.law_copies.specs.Pair.{Grows, Known, PairOk, pair_of}
use Rattle.law_copies.specs.Visits.{half}
use Rattle.law_copies.proofs.CellChangesKeepCopies.{known_later}
use Rattle.law_copies.specs.LoneSteps.{StaysTold}
use Rattle.law_copies.proofs.LastCopies.{told_by}
use Rattle.petal_msg.specs.declared.body.Body.TheVariants as body

-- nothing that others asked for, and nothing of copies, is in memory of the cell and its link
pub record IsFresh (own : PairState) (row : LinkRow) (cell : Cell) : Type 0 where
  pub last : at cell_cmp own.pairs.last cell ≡ None
  pub copying : copying_on own cell ≡ None
  pub last_copy : last_copy own cell ≡ None
  pub pages : progress_on own row ≡ no_progress

no_own : {B : Type 0} {own : PairState} → None ≡ Some own → B
no_own e = none_some refl e

module _ (own : PairState) (row : LinkRow) (cell : Cell) (fresh : IsFresh own row cell) where
  unflagged : is_flagged own (id_of row) ≡ false
  unflagged = same_caught own row ∙ ap (λ (p : Progress). p.caught) fresh.pages

  no_page : {B : Type 0} → HasPage own row → B
  no_page (inl paged) = true_false paged (ap (λ (p : Progress). p.paged) fresh.pages)
  no_page (inr (inl after)) = true_false after (ap (λ (p : Progress). is_some p.after) fresh.pages)
  no_page (inr (inr copied)) = true_false copied (ap (λ (p : Progress). is_some p.copied) fresh.pages)

  -- ### As the holder

  pub fresh_holder : (links : ℕ) (other : Option PairState) → IsRising nat_cmp (chain_in own.store.chains cell)
      → AreCopying links row cell None other → AreCopying links row cell (Some own) other
  fresh_holder links other rising old = record {
    risen = λ by is. subst (λ (o : PairState). IsRising nat_cmp (chain_in o.store.chains cell)) (same_some is) rising;
    copying = λ by copy is there. none_some (ap (λ (o : PairState). copying_on o cell) (sym (same_some is)) ∙ fresh.copying) there;
    lasts = λ beside last is there. no_own (old.lasts beside last is there).met;
    caught = λ by is flagged. true_false flagged (ap (λ (o : PairState). is_flagged o (id_of row)) (sym (same_some is)) ∙ unflagged);
    met = λ by is page. no_page (subst (λ (o : PairState). HasPage o row) (sym (same_some is)) page);
    ordered = λ by is paged later copy lt on there all ahead.
        no_page (inl (ap (λ (o : PairState). (progress_on o row).paged) (same_some is) ∙ paged));
  }

  sent_on : (other : Option PairState) (number index : ℕ) (entry : ℕ × Stored) → HasSent row None other cell number index entry
      → HasSent row (Some own) other cell number index entry
  sent_on other number index entry told = record {
    trimmed = told.trimmed;
    of_last = λ same. no_own (told.of_last same).met;
    sent = λ by copy is there op. none_some (ap (λ (o : PairState). copying_on o cell) (sym (same_some is)) ∙ fresh.copying) there;
  }

  pub fresh_holder_told : (other : Option PairState) → StaysTold row cell None other (Some own) other
  fresh_holder_told other = told_by row cell None other (Some own) other
      (λ number epochs told. elim told [ inl past ↦ inl past | inr asked ↦ no_own asked.met ]) (λ number t. t) (sent_on other) (λ number index t. t)

  fresh_covered : (a b : Store) → IsCovered row cell a b None → IsCovered row cell a b (Some own)
  fresh_covered a b (Is_equal same) = Is_equal same
  fresh_covered a b (Is_marked_here marked) = Is_marked_here marked
  fresh_covered a b (Is_marked_there marked ahead) = Is_marked_there marked
      (ap (λ (p : Progress). p.paged) fresh.pages, ap (λ (p : Progress). above p.after cell.block) fresh.pages)
  fresh_covered a b (Is_to_be_copied all ahead) = Is_to_be_copied all (ap (λ (p : Progress). above p.copied cell.block) fresh.pages)

  pub fresh_alike : (a b : Store) → AreAlike row cell a b None → AreAlike row cell a b (Some own)
  fresh_alike a b alike = record {
    covered = fresh_covered a b alike.covered;
    caught = λ by is flagged. true_false flagged (ap (λ (o : PairState). is_flagged o (id_of row)) (sym (same_some is)) ∙ unflagged);
  }

  -- ### As the other server

  pub fresh_other : (links : ℕ) (holder : Option PairState) → AreCopying links row cell holder None → AreCopying links row cell holder (Some own)
  fresh_other links holder old = record {
    risen = old.risen;
    copying = λ by copy is there. no_own (old.copying by copy is there).met;
    lasts = λ beside last is there. none_some (ap (λ (o : PairState). last_copy o cell) (sym (same_some is)) ∙ fresh.last_copy) there;
    caught = old.caught;
    met = λ by is page. refl;
    ordered = old.ordered;
  }

  pub fresh_other_told : (holder : Option PairState) (said : Body) → IsTold row holder None said → IsTold row holder (Some own) said
  fresh_other_told holder (body.Trim number q epochs) (inl past) = no_own past.met
  fresh_other_told holder (body.Trim number q epochs) (inr asked) = inr asked
  fresh_other_told holder (body.Trimmed number q) told = no_own told.past.met
  fresh_other_told holder (body.Sync number key version index bytes) told = no_own told.trimmed.past.met
  fresh_other_told holder (body.Synced number q index) told = no_own told.past.met
  fresh_other_told holder _ told = tt

  -- ### In Both

  -- as the first server, where nothing is pending there
  pub fresh_first : (a : Store) (second : PairState) → 1 ≤ own.pairs.next → at cell_cmp own.pairs.pending cell ≡ None
      → PairOk (pair_of (half None a) second cell) → PairOk (pair_of (half (Some own) a) second cell)
  unfolding at
  fresh_first a second one none ok =
      subst PairOk (λ i. record {
        first = chain_in a.chains cell;
        second = chain_in second.store.chains cell;
        pending = sym none i;
        next = own.pairs.next;
        last = at cell_cmp second.pairs.last cell;
      })
      (record { copies = ok.copies; below = (let lt = ok.below in omega arith); fresh = omega arith; counted = one })

  -- and a letter tells then what it told
  pub fresh_first_known : (a : Store) (second : PairState) (said : Body) → 1 ≤ own.pairs.next → at cell_cmp own.pairs.pending cell ≡ None
      → Known (pair_of (half None a) second cell) said → Known (pair_of (half (Some own) a) second cell) said
  unfolding at
  fresh_first_known a second said one none =
      known_later (pair_of (half None a) second cell) (pair_of (half (Some own) a) second cell)
      (subst (Grows (pair_of (half None a) second cell)) (λ i. record {
        first = chain_in a.chains cell;
        second = chain_in second.store.chains cell;
        pending = sym none i;
        next = own.pairs.next;
        last = at cell_cmp second.pairs.last cell;
      })
      (record { onward = omega arith; higher = omega arith; putting = λ number key bytes putting. inl putting })) said

  -- as the second one
  pub fresh_second : (b : Store) (first : PairState) → pair_of first (half None b) cell ≡ pair_of first (half (Some own) b) cell
  unfolding at
  fresh_second b first = λ i. record {
    first = chain_in first.store.chains cell;
    second = chain_in b.chains cell;
    pending = at cell_cmp first.pairs.pending cell;
    next = first.pairs.next;
    last = sym fresh.last i;
  }
