-- What each change at the holder of a link keeps of one of the link's cells.
use Rattle.law_copies.proofs.Imports.{[], ◌+◌, ◌<◌, ◌∙◌, ◌≡◌, ◌≢◌, ◌≤◌, ◌⊎◌, Body, Cell, Chain, Copying, IsMarked, IsRising, IsToBeCopied, LastCopy, LinkRow}
use Rattle.law_copies.proofs.Imports.{List, None, Option, PairState, Some, Store, Stored, above, ap, arith, chain_in, copying_on, epochs_beyond, epochs_of}
use Rattle.law_copies.proofs.Imports.{false, id_of, inl, inr, is_flagged, is_some, last_copy, length, nat_cmp, pending_on, progress_on, refl, same_some}
use Rattle.law_copies.proofs.Imports.{slice_get, subst, sym, true, ℕ}
use Rattle.law_copies.specs.CopyProgress.{AreAlike, AreCopying, AreInOrder, HasPage, HasSent, IsCaught, IsCopied, IsCopying, IsCovered, IsFollowed}
use Rattle.law_copies.specs.CopyProgress.{IsLastCopy, IsLeft, IsPast, IsSent, IsTold, IsTrimming, Is_equal, Is_marked_here, Is_marked_there, Is_to_be_copied}
use Rattle.law_copies.specs.CopyProgress.{NotCopied, number_above}
use Rattle.law_copies.specs.LoneSteps.{HolderStep, IsStill, PagesOf, StaysTold}
use Rattle.law_copies.proofs.LastCopies.{told_by}
use Rattle.law_copies.proofs.AllPut.{all_put, none_left_to_put}
use Rattle.petal_msg.specs.declared.body.Body.TheVariants as body

-- ### What is to show

-- two changes
pub step_on : (heard : Body → Type 0) (links : ℕ) (row : LinkRow) (cell : Cell) (vo : Option PairState) (own now to : PairState)
    → HolderStep heard links row cell vo own now
    → HolderStep heard links row cell vo now to → HolderStep heard links row cell vo own to
step_on heard links row cell vo own now to one two = record {
  copying = two.copying;
  told = λ said e t. two.told said e (one.told said e t);
  marks = λ m. elim (one.marks m) [ inl n ↦ two.marks n | inr there ↦ inr there ];
  stored = λ some. two.stored (one.stored some);
  alike = λ store still pages rises a. two.alike store still pages rises (one.alike store still pages rises a);
  caught = λ flag. let a = one.caught flag in let b = two.caught a.2 in (b.0 ∙ a.0, b.1, b.2);
}

module _ (links : ℕ) (row : LinkRow) (cell : Cell) (vo : Option PairState) (to : PairState) where
  -- what a holder has to show of copies
  pub holder_copying : IsRising nat_cmp (chain_in to.store.chains cell)
      → ((copy : Copying) → copying_on to cell ≡ Some copy → IsCopying row to vo cell copy)
      → ((o : PairState) (last : LastCopy) → vo ≡ Some o → last_copy o cell ≡ Some last → IsLastCopy (Some to) o cell last)
      → (is_flagged to (id_of row) ≡ true → IsCaught to row cell) → (HasPage to row → is_some vo ≡ true)
      → AreInOrder links row cell to → AreCopying links row cell (Some to) vo
  holder_copying risen copying lasts caught met ordered = record {
    risen = λ h is. subst (λ (x : PairState). IsRising nat_cmp (chain_in x.store.chains cell)) (same_some is) risen;
    copying = λ h copy is there. subst (λ (x : PairState). IsCopying row x vo cell copy) (same_some is)
        (copying copy (ap (λ x. copying_on x cell) (same_some is) ∙ there));
    lasts = lasts;
    caught = λ h is flag. subst (λ (x : PairState). IsCaught x row cell) (same_some is)
        (caught (ap (λ x. is_flagged x (id_of row)) (same_some is) ∙ flag));
    met = λ h is page. met (subst (λ (x : PairState). HasPage x row) (sym (same_some is)) page);
    ordered = λ h is. subst (AreInOrder links row cell) (same_some is) ordered;
  }

  -- and of letters
  module _ (own : PairState)
      (trims : (number : ℕ) → IsTrimming own cell number
      → IsPast vo cell number ⊎ (IsTrimming to cell number × (chain_in to.store.chains cell ≡ chain_in own.store.chains cell)))
      (left : (o : PairState) (last : LastCopy) (index epoch : ℕ) → vo ≡ Some o → last_copy o cell ≡ Some last
      → slice_get last.epochs index ≡ Some epoch
      → index ≡ last.index → IsLeft own row cell → IsLeft to row cell)
      (sends : (number index : ℕ) (r : ℕ × Stored) → HasSent row (Some own) vo cell number index r → (copy : Copying)
      → copying_on to cell ≡ Some copy
      → copy.op ≡ number → IsSent to cell copy index r) where
    told_trim : (number : ℕ) (epochs : List ℕ) → IsTold row (Some own) vo (body.Trim number cell epochs)
        → IsTold row (Some to) vo (body.Trim number cell epochs)
    told_trim number epochs (inl past) = inl past
    told_trim number epochs (inr asked) =
        let own_is = same_some asked.met in
        elim (trims number (subst (λ (x : PairState). IsTrimming x cell number) (sym own_is) asked.trimming)) [
          | inl past ↦ inl past
          | inr t ↦ inr (record {
            own = to;
            met = refl;
            trimming = t.0;
            epochs_are = asked.epochs_are ∙ ap (λ (x : PairState). epochs_of (chain_in x.store.chains cell)) (sym own_is)
                ∙ ap epochs_of (sym t.1);
          })
        ]

    told_sync : (number index : ℕ) (r : ℕ × Stored) → HasSent row (Some own) vo cell number index r → HasSent row (Some to) vo cell number index r
    told_sync number index r h = record {
      trimmed = h.trimmed;
      of_last = λ e.
          let o = h.of_last e in
          let p = h.trimmed.past in
          record {
            epoch_is = o.epoch_is;
            near = o.near;
            own = to;
            met = refl;
            left = λ at_last. left p.own p.last index r.0 p.met p.is o.epoch_is at_last
                (subst (λ (x : PairState). IsLeft x row cell) (sym (same_some o.met)) (o.left at_last));
          };
      sent = λ x copy is there op. subst (λ (y : PairState). IsSent y cell copy index r) (same_some is)
          (sends number index r h copy (ap (λ y. copying_on y cell) (same_some is) ∙ there) op);
    }

    pub holder_told : StaysTold row cell (Some own) vo (Some to) vo
    holder_told = told_by row cell (Some own) vo (Some to) vo told_trim (λ number t. t) told_sync (λ number index t. t)

-- ### Of the two copies

module _ (row : LinkRow) (cell : Cell) (own to : PairState) where
  -- where the chain stays, a block that is one of all to be copied is so still
  pub to_be_copied : chain_in to.store.chains cell ≡ chain_in own.store.chains cell → IsToBeCopied row own.store cell
      → IsToBeCopied row to.store cell
  to_be_copied same all = record { whole = all.whole; stored = λ none. all.stored (sym same ∙ none) }

  -- a copy that is covered stays so
  pub covers : (progress_on to row).paged ≡ (progress_on own row).paged → (progress_on to row).after ≡ (progress_on own row).after
      → (chain_in to.store.chains cell ≡ chain_in own.store.chains cell) ⊎ IsMarked to.store cell
      → (IsMarked own.store cell → IsMarked to.store cell) → (now : Store)
      → (IsToBeCopied row own.store cell → NotCopied (Some own) row cell.block
      → NotCopied (Some to) row cell.block ⊎ IsMarked own.store cell ⊎ (chain_in own.store.chains cell ≡ chain_in now.chains cell))
      → IsCovered row cell own.store now (Some own) → IsCovered row cell to.store now (Some to)
  covers paged after (inr marked) marks now yet old = Is_marked_here marked
  covers paged after (inl same) marks now yet (Is_equal e) = Is_equal (same ∙ e)
  covers paged after (inl same) marks now yet (Is_marked_here m) = Is_marked_here (marks m)
  covers paged after (inl same) marks now yet (Is_marked_there m np) = Is_marked_there m
      (paged ∙ np.0, ap (λ o. above o cell.block) after ∙ np.1)
  covers paged after (inl same) marks now yet (Is_to_be_copied all ahead) = elim (yet all ahead) [
    | inl still ↦ Is_to_be_copied (to_be_copied same all) still
    | inr (inl m) ↦ Is_marked_here (marks m)
    | inr (inr e) ↦ Is_equal (same ∙ e)
  ]

  pub alike_by : (now : Store) → IsCovered row cell to.store now (Some to)
      → (is_flagged to (id_of row) ≡ true → chain_in to.store.chains cell ≡ chain_in now.chains cell)
      → AreAlike row cell to.store now (Some to)
  alike_by now covered caught = record {
    covered = covered;
    caught = λ x is flag. caught (ap (λ y. is_flagged y (id_of row)) (same_some is) ∙ flag);
  }

  -- where the store and how far the link is stay, the copies are alike as before
  pub alike_still : to.store ≡ own.store → (progress_on to row).paged ≡ (progress_on own row).paged
      → (progress_on to row).after ≡ (progress_on own row).after → (progress_on to row).copied ≡ (progress_on own row).copied
      → is_flagged to (id_of row) ≡ is_flagged own (id_of row)
      → (now : Store) → AreAlike row cell own.store now (Some own) → AreAlike row cell to.store now (Some to)
  alike_still store paged after copied flag now a = alike_by now
      (covers paged after (inl (ap (λ (s : Store). chain_in s.chains cell) store)) (λ m. subst (λ (s : Store). IsMarked s cell) (sym store) m)
      now (λ all ahead. inl (ap (λ o. above o cell.block) copied ∙ ahead)) a.covered)
      (λ f. ap (λ (s : Store). chain_in s.chains cell) store ∙ a.caught own refl (sym flag ∙ f))

-- ### Where no copy of the cell begins, goes on or ends

-- the chain stays, and no operation or mark is new
pub record IsUntouched (cell : Cell) (own to : PairState) : Type 0 where
  pub chain : chain_in to.store.chains cell ≡ chain_in own.store.chains cell
  pub free : pending_on own cell ≡ None → pending_on to cell ≡ None
  pub unmarked : IsMarked to.store cell → IsMarked own.store cell

-- the cell's copy is as it was; and the cell is untouched while one is under way, or once a ballot was started
pub record LeavesCopy (links : ℕ) (row : LinkRow) (cell : Cell) (own to : PairState) : Type 0 where
  pub copying : copying_on to cell ≡ copying_on own cell
  pub next : own.pairs.next ≤ to.pairs.next
  pub flag : is_flagged to (id_of row) ≡ is_flagged own (id_of row)
  pub busy : (copy : Copying) → copying_on own cell ≡ Some copy → IsUntouched cell own to
  pub caught : is_flagged own (id_of row) ≡ true → IsUntouched cell own to × ((progress_on to row).paged ≡ (progress_on own row).paged)
  pub marks : IsMarked own.store cell → IsMarked to.store cell
  pub stored : chain_in own.store.chains cell ≢ [] → chain_in to.store.chains cell ≢ []
  pub risen : IsRising nat_cmp (chain_in to.store.chains cell)
  pub late : NotCopied (Some to) row cell.block → NotCopied (Some own) row cell.block
  pub left : IsLeft own row cell → IsLeft to row cell ⊎ IsCopied own cell
  pub ordered : AreInOrder links row cell to

-- the last copy follows where the holder's entries stay, and no more of them is counted as put
pub followed_on : (holder to other : PairState) (cell : Cell) (copy next : Copying) (g : IsFollowed holder other cell copy)
    → chain_in to.store.chains cell ≡ chain_in holder.store.chains cell → next.op ≡ copy.op → next.index ≤ g.last.index → IsFollowed to other cell next
followed_on holder to other cell copy next g chain op past = record {
  last = g.last;
  is = g.is;
  op_is = g.op_is ∙ sym op;
  epochs_are = g.epochs_are ∙ ap epochs_of (sym chain);
  past = past;
  trimmed = g.trimmed;
  put = λ i row lt there. g.put i row lt (ap (λ c. slice_get c i) (sym chain) ∙ there);
}

module _ (heard : Body → Type 0) {links : ℕ} {row : LinkRow} {cell : Cell} {vo : Option PairState} {own : PairState}
    (old : AreCopying links row cell (Some own) vo) where
  -- the last copy's number is below
  pub below : (o : PairState) (last : LastCopy) → vo ≡ Some o → last_copy o cell ≡ Some last
      → last.op < number_above (copying_on own cell) own.pairs.next
  below o last met is =
      let l = old.lasts o last met is in
      subst (λ (x : PairState). last.op < number_above (copying_on x cell) x.pairs.next) (sym (same_some l.met)) l.below

  -- and is trimmed, or waited for
  pub trimmed_or : (o : PairState) (last : LastCopy) → vo ≡ Some o → last_copy o cell ≡ Some last
      → (epochs_beyond o cell last.epochs ≡ []) ⊎ IsTrimming own cell last.op
  trimmed_or o last met is =
      let l = old.lasts o last met is in
      elim l.trimmed [ inl none ↦ inl none | inr t ↦ inr (subst (λ (x : PairState). IsTrimming x cell last.op) (sym (same_some l.met)) t) ]

  module _ (to : PairState) (calm : LeavesCopy links row cell own to) where
    calm_number : number_above (copying_on own cell) own.pairs.next ≤ number_above (copying_on to cell) to.pairs.next
    calm_number = by (copying_on own cell) (copying_on to cell) calm.copying
      where
        by : (o p : Option Copying) → p ≡ o → number_above o own.pairs.next ≤ number_above p to.pairs.next
        by None p e = let le = calm.next in subst (λ x. own.pairs.next ≤ number_above x to.pairs.next) (sym e) le
        by (Some copy) p e = subst (λ x. copy.op + 1 ≤ number_above x to.pairs.next) (sym e) (omega arith)

    calm_is : (copy : Copying) → copying_on to cell ≡ Some copy → IsCopying row to vo cell copy
    calm_is copy is =
        let was = sym calm.copying ∙ is in
        let c = old.copying own copy refl was in
        let same = calm.busy copy was in
        record {
          below = (let lt = c.below in let le = calm.next in omega arith);
          free = same.free c.free;
          begun = c.begun;
          left = λ w.
              let waits : (copy.trimmed ≡ false) ⊎ (copy.index < length (chain_in own.store.chains cell)) =
              elim w [ inl fresh ↦ inl fresh | inr lt ↦ inr (subst (λ (chain : Chain). copy.index < length chain) same.chain lt) ] in
              elim (calm.left (c.left waits)) [ inl left ↦ left | inr all ↦ all_put old all copy was waits ];
          beside = c.beside;
          met = c.met;
          followed = λ t.
              let g = c.followed t in followed_on own to c.beside cell copy copy g same.chain refl g.past;
          heard = λ last fresh there op. let h = c.heard last fresh there op in (h.0 ∙ ap epochs_of (sym same.chain), h.1);
        }

    calm_trimming : (number : ℕ) → IsTrimming own cell number → IsTrimming to cell number
    calm_trimming number t = record { copy = t.copy; is = calm.copying ∙ t.is; op_is = t.op_is; waits = t.waits }

    pub calm_copying : (HasPage to row → is_some vo ≡ true) → AreCopying links row cell (Some to) vo
    calm_copying met = holder_copying links row cell vo to calm.risen calm_is
        (λ o last there is. record {
          by = to;
          met = refl;
          below = (let lt = below o last there is in let le = calm_number in omega arith);
          trimmed = elim (trimmed_or o last there is) [ inl none ↦ inl none | inr t ↦ inr (calm_trimming last.op t) ];
        })
        (λ flag.
        let was = sym calm.flag ∙ flag in
        let c = old.caught own refl was in
        let same = calm.caught was in
        record {
          paged = same.1 ∙ c.paged;
          free = same.0.free c.free;
          idle = calm.copying
              ∙ c.idle;
          unmarked = λ m. c.unmarked (same.0.unmarked m);
          copied = λ all ahead. c.copied (to_be_copied row cell to own (sym same.0.chain) all) (calm.late ahead);
        })
        met calm.ordered

    pub calm_told : StaysTold row cell (Some own) vo (Some to) vo
    calm_told = holder_told links row cell vo to own
        (λ number t. inr (calm_trimming number t, (calm.busy t.copy t.is).chain))
        (λ o last index epoch met is at e l. elim (calm.left l) [
          | inl left ↦ left
          | inr all ↦ none_left_to_put old all o last index epoch met is at e
        ])
        (λ number index r h copy is op.
        let was = sym calm.copying ∙ is in
        let s = h.sent own copy refl was op in
        (s.0, s.1, ap (λ chain. slice_get chain index) (calm.busy copy was).chain ∙ s.2))

    -- a step of the kind
    pub calm_step : (HasPage to row → is_some vo ≡ true)
        → ((now : Store) → IsStill cell vo now → PagesOf heard row cell now vo → IsRising nat_cmp (chain_in now.chains cell)
        → IsCovered row cell own.store now (Some own)
        → IsCovered row cell to.store now (Some to))
        → HolderStep heard links row cell vo own to
    calm_step met covered = record {
      copying = calm_copying met;
      told = calm_told;
      marks = λ m. inl (calm.marks m);
      stored = calm.stored;
      alike = λ now still pages rises a. alike_by row cell own to now (covered now still pages rises a.covered)
          (λ flag.
          let was = sym calm.flag ∙ flag in
          (calm.caught was).0.chain ∙ a.caught own refl was);
      caught = λ flag.
          let same = (calm.caught flag).0 in
          (same.chain, (λ m. (old.caught own refl flag).unmarked (same.unmarked m)), calm.flag ∙ flag);
    }
