-- What a job of the other server of a link that one server holds alone keeps of one of the link's cells.
use Rattle.law_copies.proofs.Imports.{[], ◌+◌, ◌<◌, ◌∙◌, ◌∷◌, ◌≡◌, ◌≤◌, Body, Cell, Chain, Copying, Entry, IsOfCopy, IsRising, JobContext, LastCopy, LinkRow}
use Rattle.law_copies.proofs.Imports.{List, Option, PairState, Some, Stored, ap, arith, at, at_apart, at_same, cell_of, cell_same, chain_in, chain_put}
use Rattle.law_copies.proofs.Imports.{copying_on, epochs_beyond, epochs_of, false, first_last, inl, inr, key_at, last_copy, nat_cmp, nat_cmp_total, put}
use Rattle.law_copies.proofs.Imports.{put_rises, puts_entry, refl, same_or_apart, same_some, slice_get, subst, sym, true, true_false, with_last_copy}
use Rattle.law_copies.proofs.Imports.{without_entry, ℕ}
use Rattle.law_copies.specs.CopyProgress.{AreCopying, HasSent, IsFollowed, IsLastCopy, IsOfLast, IsSent, IsTrimming, number_above}
use Rattle.law_copies.specs.LoneSteps.{IsLeftBy, KeepsRest, StaysTold, IsFollowing}
use Rattle.law_copies.proofs.CopyEpochs.{IsWithin, among, beyond, same_beyond, within, within_put}
use Rattle.law_copies.proofs.LastCopies.{GoesOn, GoesOnward, of_last, stays_told, trimmed_of}
use Rattle.law_copies.proofs.ChainsRise.{row_at}
use Rattle.petal_msg.specs.declared.body.Body.TheVariants as body

-- ### What is to show of the last copy

module _ {links : ℕ} {row : LinkRow} {cell : Cell} {vh : Option PairState} {own : PairState} (old : AreCopying links row cell vh (Some own)) where
  -- the copy at the holder follows, and the last one is one of the holder's
  pub other_copying : (to : PairState)
      → ((h : PairState) (copy : Copying) → vh ≡ Some h → copying_on h cell ≡ Some copy → copy.trimmed ≡ true → IsFollowed h own cell copy
      → IsFollowed h to cell copy)
      → ((h : PairState) (copy : Copying) (last : LastCopy) → vh ≡ Some h → copying_on h cell ≡ Some copy → copy.trimmed ≡ false
      → last_copy to cell ≡ Some last
      → last.op ≡ copy.op → (last.epochs ≡ epochs_of (chain_in h.store.chains cell)) × (last.index ≡ 0))
      → ((last : LastCopy) → last_copy to cell ≡ Some last → IsLastCopy vh to cell last)
      → AreCopying links row cell vh (Some to)
  other_copying to follows hears lasts = record {
    risen = old.risen;
    copying = λ h copy met is.
        let c = old.copying h copy met is in
        record {
          below = c.below;
          free = c.free;
          begun = c.begun;
          left = c.left;
          beside = to;
          met = refl;
          followed = λ t. follows h copy met is t (subst (λ (o : PairState). IsFollowed h o cell copy) (sym (same_some c.met)) (c.followed t));
          heard = λ last fresh there op. hears h copy last met is fresh there op;
        };
    lasts = λ o last met is. subst (λ (x : PairState). IsLastCopy vh x cell last) (same_some met)
        (lasts last (ap (λ x. last_copy x cell) (same_some met) ∙ is));
    caught = old.caught;
    met = λ h met page. refl;
    ordered = old.ordered;
  }

  -- what the holder's copy had heard
  pub was_heard : (h : PairState) (copy : Copying) (last : LastCopy) → vh ≡ Some h → copying_on h cell ≡ Some copy → copy.trimmed ≡ false
      → last_copy own cell ≡ Some last → last.op ≡ copy.op → (last.epochs ≡ epochs_of (chain_in h.store.chains cell)) × (last.index ≡ 0)
  was_heard h copy last met is fresh there op =
      let c = old.copying h copy met is in
      c.heard last fresh (ap (λ x. last_copy x cell) (sym (same_some c.met)) ∙ there) op

  -- the copy that is under way is the one that waits
  pub one_trimming : (h by : PairState) (copy : Copying) (number : ℕ) → vh ≡ Some h → vh ≡ Some by → copying_on h cell ≡ Some copy
      → (t : IsTrimming by cell number) → copy ≡ t.copy
  one_trimming h by copy number met met' is t = same_some (sym is ∙ ap (λ x. copying_on x cell) (same_some (sym met ∙ met')) ∙ t.is)

  -- #### Where the chain and the last copy stay

  module _ (to : PairState) (k : KeepsRest cell own to) where
    kept_followed : (h : PairState) (copy : Copying) → IsFollowed h own cell copy → IsFollowed h to cell copy
    kept_followed h copy g = record {
      last = g.last;
      is = k.last ∙ g.is;
      op_is = g.op_is;
      epochs_are = g.epochs_are;
      past = g.past;
      trimmed = same_beyond own to cell g.last.epochs k.chain ∙ g.trimmed;
      put = λ i r lt there. ap (λ chain. at nat_cmp chain r.0) k.chain ∙ g.put i r lt there;
    }

    kept_last : (last : LastCopy) → last_copy to cell ≡ Some last → IsLastCopy vh to cell last
    kept_last last is =
        let l = old.lasts own last refl (sym k.last ∙ is) in
        record {
          by = l.by;
          met = l.met;
          below = l.below;
          trimmed = elim l.trimmed [ inl none ↦ inl (same_beyond own to cell last.epochs k.chain ∙ none) | inr t ↦ inr t ];
        }

    pub kept_copying : AreCopying links row cell vh (Some to)
    kept_copying = other_copying to (λ h copy met is t g. kept_followed h copy g)
        (λ h copy last met is fresh there op. was_heard h copy last met is fresh (sym k.last ∙ there) op) kept_last

    pub kept_onward : GoesOnward own to cell
    kept_onward last is = record {
      now = last;
      is = k.last ∙ is;
      up = omega arith;
      same = λ e. record {
        epochs_are = refl;
        onward = omega arith;
        trimmed = λ none. same_beyond own to cell last.epochs k.chain ∙ none;
      };
    }

    pub kept_told : StaysTold row cell vh (Some own) vh (Some to)
    kept_told = stays_told own to cell kept_onward row vh

  -- #### A new copy is remembered

  module _ (number : ℕ) (epochs : List ℕ) (h : PairState) (met : vh ≡ Some h) (t : IsTrimming h cell number)
      (are : epochs ≡ epochs_of (chain_in h.store.chains cell))
      (newer : (last : LastCopy) → last_copy own cell ≡ Some last → last.op < number) where
    abbrev now : PairState
    now = with_last_copy own cell (first_last number epochs)

    pub now_last : last_copy now cell ≡ Some (first_last number epochs)
    now_last = cell_same own.copies.last cell (first_last number epochs)

    one_last : (last : LastCopy) → last_copy now cell ≡ Some last → first_last number epochs ≡ last
    one_last last is = same_some (sym now_last ∙ is)

    pub begun_copying : AreCopying links row cell vh (Some now)
    begun_copying = other_copying now
        (λ h' copy met' is trimmed g. true_false trimmed
        (ap (λ (c : Copying). c.trimmed) (one_trimming h' h copy number met' met is t) ∙ t.waits))
        (λ h' copy last met' is fresh there op.
        let same = one_last last there in (
          ap (λ (l : LastCopy). l.epochs) (sym same) ∙ are
              ∙ ap (λ (x : PairState). epochs_of (chain_in x.store.chains cell)) (same_some (sym met ∙ met')),
          ap (λ (l : LastCopy). l.index) (sym same),
        ))
        (λ last is.
        let same = one_last last is in
        let op : last.op ≡ number = ap (λ (l : LastCopy). l.op) (sym same) in
        let above : number_above (copying_on h cell) h.pairs.next ≡ t.copy.op + 1 = ap (λ o. number_above o h.pairs.next) t.is in
        let waits = t.op_is in
        record { by = h; met = met; below = omega arith; trimmed = inr (subst (IsTrimming h cell) (sym op) t) })

    pub begun_onward : GoesOnward own now cell
    begun_onward last is =
        let lt = newer last is in
        record { now = first_last number epochs; is = now_last; up = omega arith; same = λ (e : number ≡ last.op). absurd (omega arith) }

  -- #### The last copy drops an entry

  module _ (last : LastCopy) (is : last_copy own cell ≡ Some last) (epoch : ℕ) (epochs : List ℕ)
      (left : epochs_beyond own cell last.epochs ≡ epoch ∷ epochs) where
    abbrev dropped : PairState
    dropped = record own { store = without_entry own.store (key_at cell epoch) }

    not_trimmed : {A : Type 0} → epochs_beyond own cell last.epochs ≡ [] → A
    not_trimmed none = let e : [] ≡ epoch ∷ epochs = sym none ∙ left in absurd cc

    holder_waits : (l : IsLastCopy vh own cell last) × IsTrimming l.by cell last.op
    holder_waits = let l = old.lasts own last refl is in (l, elim l.trimmed [ inl none ↦ not_trimmed none | inr t ↦ t ])

    dropped_last : (l : LastCopy) → last_copy own cell ≡ Some l → IsLastCopy vh dropped cell l
    dropped_last l there =
        let w = holder_waits in
        subst (IsLastCopy vh dropped cell) (same_some (sym is ∙ there))
        (record { by = w.0.by; met = w.0.met; below = w.0.below; trimmed = inr w.1 })

    pub dropped_copying : AreCopying links row cell vh (Some dropped)
    dropped_copying = other_copying dropped
        (λ h copy met there t g.
        let w = holder_waits in
        true_false t (ap (λ (c : Copying). c.trimmed) (one_trimming h w.0.by copy last.op met w.0.met there w.1) ∙ w.1.waits))
        (λ h copy l met there fresh at_cell op. was_heard h copy l met there fresh at_cell op) dropped_last

    pub dropped_onward : GoesOnward own dropped cell
    dropped_onward l there = record {
      now = l;
      is = there;
      up = omega arith;
      same = λ e. record {
        epochs_are = refl;
        onward = omega arith;
        trimmed = λ none. not_trimmed (ap (λ (x : LastCopy). epochs_beyond own cell x.epochs) (same_some (sym is ∙ there)) ∙ none);
      };
    }

    pub dropped_by : IsLeftBy row vh cell
    dropped_by =
        let w = holder_waits in
        let c = old.copying w.0.by w.1.copy w.0.met w.1.is in
        record { by = w.0.by; met = w.0.met; left = c.left (inl w.1.waits) }

-- ### An entry is put

-- the next entry of a copy, at the server to which it was sent
module _ {heard : Body → Type 0} {here : JobContext} {links : ℕ} {row : LinkRow} {vh : Option PairState} {own : PairState} (entry : Entry) (holder : ℕ)
    (last : LastCopy) (f : IsFollowing heard here links row (cell_of entry.key) vh own) (of : IsOfCopy heard here own entry holder last)
    (index_is : entry.index ≡ last.index) where
  open f use {old}
  open of use {last_is as is, op_is}

  said : HasSent row vh (Some own) (cell_of entry.key) entry.op entry.index (entry.key.epoch, entry.stored)
  said = f.told (body.Sync entry.op entry.key entry.stored.version entry.index entry.stored.bytes) of.said refl

  abbrev q : Cell
  q = cell_of entry.key

  abbrev next : LastCopy
  next = record last { index = last.index + 1 }

  abbrev to : PairState
  to = (puts_entry own entry last holder true).own

  of_this : IsOfLast row vh q last entry.key.epoch entry.index
  of_this = of_last own q last is row vh entry.op entry.index (entry.key.epoch, entry.stored) said op_is

  put_chain : chain_in to.store.chains q ≡ put nat_cmp (chain_in own.store.chains q) entry.key.epoch entry.stored
  put_chain = chain_put own.store.chains q (put nat_cmp (chain_in own.store.chains q) entry.key.epoch entry.stored)

  put_last : last_copy to q ≡ Some next
  put_last = cell_same own.copies.last q next

  put_rising : IsRising nat_cmp (chain_in to.store.chains q)
  put_rising = subst (IsRising nat_cmp) (sym put_chain)
      (put_rises nat_cmp_total (chain_in own.store.chains q) entry.key.epoch entry.stored (f.fit.rising q))

  put_trimmed : epochs_beyond to q last.epochs ≡ []
  put_trimmed = beyond to q last.epochs put_rising (subst (λ chain. IsWithin chain last.epochs) (sym put_chain)
      (within_put (chain_in own.store.chains q) last.epochs entry.key.epoch entry.stored
      (within own q last.epochs (trimmed_of own q last is entry.op said.trimmed op_is))
      (among last.epochs entry.index entry.key.epoch of_this.epoch_is)))

  module _ (h : PairState) (copy : Copying) (met : vh ≡ Some h) (there : copying_on h q ≡ Some copy) where
    abbrev chain : Chain
    chain = chain_in h.store.chains q

    this_sent : copy.op ≡ last.op → IsSent h q copy entry.index (entry.key.epoch, entry.stored)
    this_sent e = said.sent h copy met there (e ∙ sym op_is)

    -- the entry is the holder's
    the_entry : copy.op ≡ last.op → at nat_cmp chain entry.key.epoch ≡ Some entry.stored
    the_entry e = row_at chain entry.index (entry.key.epoch, entry.stored) (old.risen h met) (this_sent e).2

    put_so : copy.op ≡ last.op
        → ((i : ℕ) (r : ℕ × Stored) → i < last.index → slice_get chain i ≡ Some r → at nat_cmp (chain_in own.store.chains q) r.0 ≡ Some r.1)
        → (i : ℕ) (r : ℕ × Stored) → i < last.index + 1 → slice_get chain i ≡ Some r
        → at nat_cmp (chain_in to.store.chains q) r.0 ≡ Some r.1
    put_so e before i r lt is_r = ap (λ c. at nat_cmp c r.0) put_chain ∙ elim (same_or_apart r.0 entry.key.epoch) [
      | inl same ↦ (
          let value : r.1 ≡ entry.stored = same_some
          (sym (row_at chain i r (old.risen h met) is_r) ∙ ap (at nat_cmp chain) same ∙ the_entry e) in
          ap (at nat_cmp (put nat_cmp (chain_in own.store.chains q) entry.key.epoch entry.stored)) same
          ∙ at_same (chain_in own.store.chains q) entry.key.epoch entry.stored ∙ ap Some (sym value))
      | inr ne ↦ at_apart (chain_in own.store.chains q) entry.key.epoch entry.stored r.0 ne ∙ elim (same_or_apart i last.index) [
        | inl last_one ↦ (
            let one : r ≡ (entry.key.epoch, entry.stored) = same_some
            (sym is_r ∙ ap (slice_get chain) (last_one ∙ sym index_is) ∙ (this_sent e).2) in
            absurd (ne (ap (λ (x : ℕ × Stored). x.0) one)))
        | inr other ↦ before i r (omega arith) is_r
      ]
    ]

    put_followed : IsFollowed h own q copy → IsFollowed h to q copy
    put_followed g =
        let same : g.last ≡ last = same_some (sym g.is ∙ is) in
        let op : last.op ≡ copy.op = ap (λ (l : LastCopy). l.op) (sym same) ∙ g.op_is in
        let past = subst (λ (l : LastCopy). copy.index ≤ l.index) same g.past in
        record {
          last = next;
          is = put_last;
          op_is = op;
          epochs_are = ap (λ (l : LastCopy). l.epochs) (sym same) ∙ g.epochs_are;
          past = omega arith;
          trimmed = put_trimmed;
          put = put_so (sym op) (λ i r lt is_r. g.put i r (subst (λ (l : LastCopy). i < l.index) (sym same) lt) is_r);
        }

  pub put_copying : AreCopying links row q vh (Some to)
  put_copying = other_copying old to (λ h copy met there t g. put_followed h copy met there g)
      (λ h copy l met there fresh at_cell op.
      let same : next ≡ l = same_some (sym put_last ∙ at_cell) in
      true_false (this_sent h copy met there (sym (ap (λ (x : LastCopy). x.op) same ∙ op))).0 fresh)
      (λ l at_cell.
      let o = old.lasts own last refl is in
      subst (IsLastCopy vh to q) (same_some (sym put_last ∙ at_cell))
      (record { by = o.by; met = o.met; below = o.below; trimmed = inl put_trimmed }))

  pub put_onward : GoesOnward own to q
  put_onward l there = subst (GoesOn own to q) (same_some (sym is ∙ there)) (record {
    now = next;
    is = put_last;
    up = omega arith;
    same = λ e. record { epochs_are = refl; onward = omega arith; trimmed = λ none. put_trimmed };
  })

  pub put_by : IsLeftBy row vh q
  put_by = record { by = of_this.own; met = of_this.met; left = of_this.left index_is }
