-- The last copy of a cell at the other server, and what letters tell of it: what was known stays known while the copy goes on, and once a
-- newer one has come.
use Rattle.law_copies.proofs.Imports.{[], ◌<◌, ◌∙◌, ◌≡◌, ◌≤◌, Cell, LastCopy, LinkRow, List, Option, PairState, Some, Stored, ap, arith, epochs_beyond, inl}
use Rattle.law_copies.proofs.Imports.{inr, last_copy, refl, same_some, slice_get, subst, sym, ℕ}
use Rattle.law_copies.specs.CopyProgress.{HasPut, HasSent, HasTrimmed, IsOfLast, IsPast, IsTold}
use Rattle.law_copies.specs.LoneSteps.{StaysTold}
use Rattle.petal_msg.specs.declared.body.Body.TheVariants as body

-- what is known of each kind of letter stays known
pub told_by : (row : LinkRow) (cell : Cell) (holder other holder' other' : Option PairState)
    → ((number : ℕ) (epochs : List ℕ) → IsTold row holder other (body.Trim number cell epochs) → IsTold row holder' other' (body.Trim number cell epochs))
    → ((number : ℕ) → HasTrimmed other cell number → HasTrimmed other' cell number)
    → ((number index : ℕ) (entry : ℕ × Stored) → HasSent row holder other cell number index entry → HasSent row holder' other' cell number index entry)
    → ((number index : ℕ) → HasPut other cell number index → HasPut other' cell number index) → StaysTold row cell holder other holder' other'
told_by row cell holder other holder' other' trim trimmed sent put (body.Trim number c epochs) e =
    subst (λ (q : Cell). IsTold row holder other (body.Trim number q epochs) → IsTold row holder' other' (body.Trim number q epochs)) (sym (same_some e))
    (trim number epochs)
told_by row cell holder other holder' other' trim trimmed sent put (body.Trimmed number c) e =
    subst (λ (q : Cell). HasTrimmed other q number → HasTrimmed other' q number) (sym (same_some e)) (trimmed number)
told_by row cell holder other holder' other' trim trimmed sent put (body.Sync number key version index bytes) e =
    let entry : ℕ × Stored = (key.epoch, record { version = version; bytes = bytes }) in
    subst (λ (q : Cell). HasSent row holder other q number index entry → HasSent row holder' other' q number index entry) (sym (same_some e))
    (sent number index entry)
told_by row cell holder other holder' other' trim trimmed sent put (body.Synced number c index) e =
    subst (λ (q : Cell). HasPut other q number index → HasPut other' q number index) (sym (same_some e)) (put number index)
told_by row cell holder other holder' other' trim trimmed sent put _ e = λ told. tt

-- ### Letters, by the last copy

-- a letter of a copy finds a last one
pub past_last : (own : PairState) (cell : Cell) (number : ℕ) → IsPast (Some own) cell number
    → (last : LastCopy) × (last_copy own cell ≡ Some last)
past_last own cell number p = (p.last, ap (λ o. last_copy o cell) (same_some p.met) ∙ p.is)

module _ (own : PairState) (cell : Cell) (last : LastCopy) (is : last_copy own cell ≡ Some last) where
  same_last : (o : PairState) (l : LastCopy) → Some own ≡ Some o → last_copy o cell ≡ Some l → l ≡ last
  same_last o l met there = same_some (sym there ∙ ap (λ x. last_copy x cell) (sym (same_some met)) ∙ is)

  pub past_of : (number : ℕ) → IsPast (Some own) cell number → number ≤ last.op
  past_of number p = subst (λ (l : LastCopy). number ≤ l.op) (same_last p.own p.last p.met p.is) p.past

  abbrev pub to_past : (number : ℕ) → number ≤ last.op → IsPast (Some own) cell number
  to_past number le = record { own = own; met = refl; last = last; is = is; past = le }

  pub trimmed_of : (number : ℕ) → HasTrimmed (Some own) cell number → number ≡ last.op → epochs_beyond own cell last.epochs ≡ []
  trimmed_of number h e =
      let l = same_last h.past.own h.past.last h.past.met h.past.is in
      ap (λ o. epochs_beyond o cell last.epochs) (same_some h.past.met)
      ∙ ap (λ (l : LastCopy). epochs_beyond h.past.own cell l.epochs) (sym l)
      ∙ h.trimmed (e ∙ ap (λ (l : LastCopy). l.op) (sym l))

  abbrev pub to_trimmed : (number : ℕ) → number ≤ last.op → (number ≡ last.op → epochs_beyond own cell last.epochs ≡ [])
      → HasTrimmed (Some own) cell number
  to_trimmed number le trimmed = record { past = to_past number le; trimmed = trimmed }

  pub put_of : (number index : ℕ) → HasPut (Some own) cell number index → number ≡ last.op → index < last.index
  put_of number index h e =
      let l = same_last h.past.own h.past.last h.past.met h.past.is in
      subst (λ (l : LastCopy). index < l.index) l (h.put (e ∙ ap (λ (l : LastCopy). l.op) (sym l)))

  abbrev pub to_put : (number index : ℕ) → number ≤ last.op → (number ≡ last.op → index < last.index) → HasPut (Some own) cell number index
  to_put number index le put = record { past = to_past number le; put = put }

  pub of_last : (row : LinkRow) (holder : Option PairState) (number index : ℕ) (entry : ℕ × Stored)
      → HasSent row holder (Some own) cell number index entry
      → number ≡ last.op
      → IsOfLast row holder cell last entry.0 index
  of_last row holder number index entry h e =
      let p = h.trimmed.past in
      let l = same_last p.own p.last p.met p.is in
      subst (λ (l : LastCopy). IsOfLast row holder cell l entry.0 index) l (h.of_last (e ∙ ap (λ (l : LastCopy). l.op) (sym l)))

-- ### Onward

-- the last copy goes on
pub record IsSameCopy (own to : PairState) (cell : Cell) (last now : LastCopy) : Type 0 where
  pub epochs_are : now.epochs ≡ last.epochs
  pub onward : last.index ≤ now.index
  pub trimmed : epochs_beyond own cell last.epochs ≡ [] → epochs_beyond to cell now.epochs ≡ []

-- or a newer one has come
pub record GoesOn (own to : PairState) (cell : Cell) (last : LastCopy) : Type 0 where
  pub now : LastCopy
  pub is : last_copy to cell ≡ Some now
  pub up : last.op ≤ now.op
  pub same : now.op ≡ last.op → IsSameCopy own to cell last now

abbrev pub GoesOnward : PairState → PairState → Cell → Type 0
GoesOnward own to cell = (last : LastCopy) → last_copy own cell ≡ Some last → GoesOn own to cell last

module _ (own to : PairState) (cell : Cell) (onward : GoesOnward own to cell) where
  past_onward : (number : ℕ) → IsPast (Some own) cell number → IsPast (Some to) cell number
  past_onward number p =
      let last = past_last own cell number p in
      let le = past_of own cell last.0 last.1 number p in
      let g = onward last.0 last.1 in
      let up = g.up in
      to_past to cell g.now g.is number (omega arith)

  trimmed_onward : (number : ℕ) → HasTrimmed (Some own) cell number → HasTrimmed (Some to) cell number
  trimmed_onward number h =
      let last = past_last own cell number h.past in
      let le = past_of own cell last.0 last.1 number h.past in
      let g = onward last.0 last.1 in
      let up = g.up in
      to_trimmed to cell g.now g.is number (omega arith)
      (λ same. (g.same (omega arith)).trimmed (trimmed_of own cell last.0 last.1 number h (omega arith)))

  put_onward : (number index : ℕ) → HasPut (Some own) cell number index → HasPut (Some to) cell number index
  put_onward number index h =
      let last = past_last own cell number h.past in
      let le = past_of own cell last.0 last.1 number h.past in
      let g = onward last.0 last.1 in
      let up = g.up in
      to_put to cell g.now g.is number index (omega arith)
      (λ same.
      let more = (g.same (omega arith)).onward in
      let lt = put_of own cell last.0 last.1 number index h (omega arith) in
      omega arith)

  -- an entry is of the copy as before
  same_entry : (row : LinkRow) (holder : Option PairState) (epoch index : ℕ) (last now : LastCopy) → IsSameCopy own to cell last now
      → IsOfLast row holder cell last epoch index → IsOfLast row holder cell now epoch index
  same_entry row holder epoch index last now g o = record {
    epoch_is = ap (λ epochs. slice_get epochs index) g.epochs_are ∙ o.epoch_is;
    near = (let near = o.near in let more = g.onward in omega arith);
    own = o.own;
    met = o.met;
    left = λ e. o.left (let near = o.near in let more = g.onward in omega arith);
  }

  sent_onward : (row : LinkRow) (holder : Option PairState) (number index : ℕ) (entry : ℕ × Stored)
      → HasSent row holder (Some own) cell number index entry
      → HasSent row holder (Some to) cell number index entry
  sent_onward row holder number index entry h =
      let last = past_last own cell number h.trimmed.past in
      let le = past_of own cell last.0 last.1 number h.trimmed.past in
      let g = onward last.0 last.1 in
      let up = g.up in
      record {
        trimmed = to_trimmed to cell g.now g.is number (omega arith)
            (λ same. (g.same (omega arith)).trimmed (trimmed_of own cell last.0 last.1 number h.trimmed (omega arith)));
        of_last = λ same. same_entry row holder entry.0 index last.0 g.now (g.same (omega arith))
            (of_last own cell last.0 last.1 row holder number index entry h (omega arith));
        sent = h.sent;
      }

  -- what was known of letters of the cell is known later
  pub stays_told : (row : LinkRow) (holder : Option PairState) → StaysTold row cell holder (Some own) holder (Some to)
  stays_told row holder = told_by row cell holder (Some own) holder (Some to)
      (λ number epochs told. elim told [ inl past ↦ inl (past_onward number past) | inr asked ↦ inr asked ])
      trimmed_onward (sent_onward row holder) put_onward
