-- The changes of a copy at its holder: it begins, the other server has trimmed, has put an entry; the block is unmarked; the copy ends.
use Rattle.law_copies.proofs.Imports.{[], ◌+◌, ◌<◌, ◌∙◌, ◌≡◌, ◌≢◌, ◌≤◌, ◌⊎◌, Body, Cell, Chain, Copying, IsMarked, IsRising, IsToBeCopied, LastCopy, LinkRow}
use Rattle.law_copies.proofs.Imports.{MarkKind, None, Option, PairState, Pairs, Some, Store, Stored, above, ap, arith, begins_copy, cell_apart, cell_at}
use Rattle.law_copies.proofs.Imports.{cell_same, chain_in, copying_on, epochs_beyond, epochs_of, false, first_copy, id_of, inl, inr, is_flagged, is_some}
use Rattle.law_copies.proofs.Imports.{last_copy, length, nat_cmp, none_some, pending_on, progress_on, refl, same_some, slice_get, slice_get_within}
use Rattle.law_copies.proofs.Imports.{some_or_none, subst, sym, true, true_false, with_copying, without_mark_on, ℕ}
use Rattle.law_copies.specs.CopyProgress.{AreCopying, AreInOrder, HasPut, HasSent, HasTrimmed, IsCopied, IsCopying, IsFollowed, IsLastCopy, IsLeft, IsPast}
use Rattle.law_copies.specs.CopyProgress.{IsSent, IsTold, IsTrimming, Is_equal, number_above}
use Rattle.law_copies.specs.LoneSteps.{HolderStep, StaysTold}
use Rattle.law_copies.proofs.AllPut.{all_put, copied_now, none_left_to_put}
use Rattle.law_copies.proofs.CopyEpochs.{epoch_at}
use Rattle.law_copies.proofs.HolderChanges.{alike_by, alike_still, below, followed_on, holder_copying, holder_told, to_be_copied, trimmed_or}
use Rattle.petal_msg.specs.declared.body.Body.TheVariants as body

module _ (heard : Body → Type 0) {links : ℕ} {row : LinkRow} {cell : Cell} {vo : Option PairState} {own : PairState}
    (old : AreCopying links row cell (Some own) vo) where
  abbrev Step : PairState → Type 0
  Step to = HolderStep heard links row cell vo own to

  abbrev chain : Chain
  chain = chain_in own.store.chains cell

  -- once a ballot was started no copy is under way
  not_flagged : {A : Type 0} (copy : Copying) → copying_on own cell ≡ Some copy → is_flagged own (id_of row) ≡ true → A
  not_flagged copy is flag = none_some (old.caught own refl flag).idle is

  -- where the store and how far the link is stay, and only the cell's own copy changes
  still_ordered : (to : PairState) → to.store ≡ own.store → (progress_on to row).paged ≡ (progress_on own row).paged
      → (progress_on to row).copied ≡ (progress_on own row).copied
      → ((q : Cell) → q ≢ cell → copying_on to q ≡ copying_on own q)
      → (IsCopied own cell → IsMarked to.store cell ⊎ IsCopied to cell) → AreInOrder links row cell to
  still_ordered to store paged copied others put is_paged later copy lt on is all ahead =
      let apart : cell_at row later ≢ cell = λ e. let same : later ≡ cell.block = ap (λ (q : Cell). q.block) e in absurd (omega arith) in
      elim (old.ordered own refl (sym paged ∙ is_paged) later copy lt on (sym (others (cell_at row later) apart) ∙ is)
      (subst (λ (s : Store). IsToBeCopied row s cell) store all) (ap (λ o. above o cell.block) (sym copied) ∙ ahead)) [
        | inl marked ↦ inl (subst (λ (s : Store). IsMarked s cell) (sym store) marked)
        | inr all_put ↦ put all_put
      ]

  -- ### A copy begins

  module _ (paged : (progress_on own row).paged ≡ true) (free : pending_on own cell ≡ None) (idle : copying_on own cell ≡ None)
      (left : IsLeft own row cell) where
    abbrev begun : PairState
    begun = begins_copy own cell

    pub begun_is : copying_on begun cell ≡ Some (first_copy own.pairs.next)
    begun_is = cell_same own.copies.pending cell (first_copy own.pairs.next)

    -- each last copy is an older one
    older : (o : PairState) (last : LastCopy) → vo ≡ Some o → last_copy o cell ≡ Some last → last.op < own.pairs.next
    older o last met is = subst (λ c. last.op < number_above c own.pairs.next) idle (below heard old o last met is)

    met_other : (o : PairState) × (vo ≡ Some o)
    met_other = elim (some_or_none vo) [ inl there ↦ there | inr none ↦ true_false (old.met own refl (inl paged)) (ap is_some none) ]

    begun_copying_is : (copy : Copying) → copying_on begun cell ≡ Some copy → IsCopying row begun vo cell copy
    begun_copying_is copy is = subst (IsCopying row begun vo cell) (same_some (sym begun_is ∙ is)) (record {
      below = omega arith;
      free = free;
      begun = λ fresh. refl;
      left = λ w. left;
      beside = met_other.0;
      met = met_other.1;
      followed = λ t. true_false t refl;
      heard = λ last fresh there op. let lt = older met_other.0 last met_other.1 there in absurd (omega arith);
    })

    begun_lasts : (o : PairState) (last : LastCopy) → vo ≡ Some o → last_copy o cell ≡ Some last → IsLastCopy (Some begun) o cell last
    begun_lasts o last met is = record {
      by = begun;
      met = refl;
      below = subst (λ c. last.op < number_above c begun.pairs.next) (sym begun_is) (let lt = older o last met is in omega arith);
      trimmed = elim (trimmed_or heard old o last met is) [ inl none ↦ inl none | inr t ↦ none_some idle t.is ];
    }

    unflagged : {A : Type 0} → is_flagged own (id_of row) ≡ true → A
    unflagged flag = elim left [
      | inl marked ↦ absurd ((old.caught own refl flag).unmarked marked)
      | inr all ↦ absurd ((old.caught own refl flag).copied all.0 all.1)
    ]

    begun_apart : (q : Cell) → q ≢ cell → copying_on begun q ≡ copying_on own q
    begun_apart q ne = cell_apart own.copies.pending cell (first_copy own.pairs.next) q ne

    pub begun_step : Step begun
    begun_step = record {
      copying = holder_copying links row cell vo begun (old.risen own refl) begun_copying_is begun_lasts (λ flag. unflagged flag)
          (λ page. old.met own refl page)
          (still_ordered begun refl refl refl begun_apart (λ all. none_some idle all.is));
      told = holder_told links row cell vo begun own (λ number t. none_some idle t.is) (λ o last index epoch met is there e l. l)
          (λ number index r h copy is op.
          let p = h.trimmed.past in
          let lt = older p.own p.last p.met p.is in
          let le = p.past in
          let first : own.pairs.next ≡ copy.op = ap (λ (c : Copying). c.op) (same_some (sym begun_is ∙ is)) in
          absurd (omega arith));
      marks = λ m. inl m;
      stored = λ some. some;
      alike = λ now still pages rises a. alike_still row cell own begun refl refl refl refl refl now a;
      caught = λ flag. unflagged flag;
    }

  -- ### A copy that is under way

  module _ (copy : Copying) (is : copying_on own cell ≡ Some copy) where
    abbrev c : IsCopying row own vo cell copy
    c = old.copying own copy refl is

    -- the last copy at the other server has no greater number
    up_to : (o : PairState) (last : LastCopy) → vo ≡ Some o → last_copy o cell ≡ Some last → last.op ≤ copy.op
    up_to o last met there =
        let lt = subst (λ x. last.op < number_above x own.pairs.next) is (below heard old o last met there) in
        omega arith

    -- what the other server has beside is one thing
    one_last : (o : PairState) (last : LastCopy) → vo ≡ Some o → last_copy o cell ≡ Some last → last_copy c.beside cell ≡ Some last
    one_last o last met there = ap (λ x. last_copy x cell) (same_some (sym c.met ∙ met)) ∙ there

    -- what waits for the other server to trim is this copy
    waits_not : {A : Type 0} (number : ℕ) → copy.trimmed ≡ true → IsTrimming own cell number → A
    waits_not number trimmed t = true_false trimmed (ap (λ (x : Copying). x.trimmed) (same_some (sym is ∙ t.is)) ∙ t.waits)

    changed : (to : PairState) (new : Copying) → copying_on to cell ≡ Some new → IsCopying row to vo cell new → (x : Copying)
        → copying_on to cell ≡ Some x
        → IsCopying row to vo cell x
    changed to new there so x at_cell = subst (IsCopying row to vo cell) (same_some (sym there ∙ at_cell)) so

    put_apart : (new : Copying) (q : Cell) → q ≢ cell → copying_on (with_copying own cell new) q ≡ copying_on own q
    put_apart new q ne = cell_apart own.copies.pending cell new q ne

    -- the copy is not one that is all put
    not_put : {A : Type 0} → (copy.trimmed ≡ false) ⊎ (copy.index < length chain) → IsCopied own cell → A
    not_put waits all = all_put old all copy is waits

    -- #### The other server has trimmed

    module _ (fresh : copy.trimmed ≡ false) (said : HasTrimmed vo cell copy.op) where
      abbrev trimmed : Copying
      trimmed = record copy { trimmed = true }

      abbrev to_trimmed : PairState
      to_trimmed = with_copying own cell trimmed

      pub trimmed_is : copying_on to_trimmed cell ≡ Some trimmed
      trimmed_is = cell_same own.copies.pending cell trimmed

      abbrev said_last : LastCopy
      said_last = said.past.last

      there_last : last_copy c.beside cell ≡ Some said_last
      there_last = one_last said.past.own said_last said.past.met said.past.is

      same_op : copy.op ≡ said_last.op
      same_op = let le = up_to said.past.own said_last said.past.met said.past.is in let ge = said.past.past in omega arith

      all_trimmed : epochs_beyond said.past.own cell said_last.epochs ≡ []
      all_trimmed = said.trimmed same_op

      trimmed_followed : IsFollowed to_trimmed c.beside cell trimmed
      trimmed_followed =
          let h = c.heard said_last fresh there_last (sym same_op) in
          let first = c.begun fresh in
          let none = h.1 in
          record {
            last = said_last;
            is = there_last;
            op_is = sym same_op;
            epochs_are = h.0;
            past = omega arith;
            trimmed = ap (λ x. epochs_beyond x cell said_last.epochs) (same_some (sym c.met ∙ said.past.met)) ∙ all_trimmed;
            put = λ i r lt there. absurd (omega arith);
          }

      trimmed_copying : (x : Copying) → copying_on to_trimmed cell ≡ Some x → IsCopying row to_trimmed vo cell x
      trimmed_copying = changed to_trimmed trimmed trimmed_is (record {
        below = c.below;
        free = c.free;
        begun = λ f. true_false refl f;
        left = λ w. c.left (inl fresh);
        beside = c.beside;
        met = c.met;
        followed = λ t. trimmed_followed;
        heard = λ last f there op. true_false refl f;
      })

      trimmed_lasts : (o : PairState) (last : LastCopy) → vo ≡ Some o → last_copy o cell ≡ Some last → IsLastCopy (Some to_trimmed) o cell last
      trimmed_lasts o last met there =
          let le = up_to o last met there in
          let own_is : said.past.own ≡ o = same_some (sym said.past.met ∙ met) in
          let last_is : said_last ≡ last = same_some (sym said.past.is ∙ ap (λ x. last_copy x cell) own_is ∙ there) in
          record {
            by = to_trimmed;
            met = refl;
            below = subst (λ x. last.op < number_above x to_trimmed.pairs.next) (sym trimmed_is) (omega arith);
            trimmed = inl (ap (λ x. epochs_beyond x cell last.epochs) (sym own_is)
                ∙ ap (λ (l : LastCopy). epochs_beyond said.past.own cell l.epochs) (sym last_is)
                ∙ all_trimmed);
          }

      pub trimmed_step : Step to_trimmed
      trimmed_step = record {
        copying = holder_copying links row cell vo to_trimmed (old.risen own refl) trimmed_copying trimmed_lasts
            (λ flag. not_flagged copy is flag)
            (λ page. old.met own refl page)
            (still_ordered to_trimmed refl refl refl (put_apart trimmed) (not_put (inl fresh)));
        told = holder_told links row cell vo to_trimmed own
            (λ number t. inl (subst (IsPast vo cell) (ap (λ (x : Copying). x.op) (same_some (sym is ∙ t.is)) ∙ t.op_is) said.past))
            (λ o last index epoch met there at_index e l. l)
            (λ number index r h x there op.
            let same : trimmed ≡ x = same_some (sym trimmed_is ∙ there) in
            true_false (h.sent own copy refl is (ap (λ (y : Copying). y.op) same ∙ op)).0 fresh);
        marks = λ m. inl m;
        stored = λ some. some;
        alike = λ now still pages rises a. alike_still row cell own to_trimmed refl refl refl refl refl now a;
        caught = λ flag. not_flagged copy is flag;
      }

    module _ (done : copy.trimmed ≡ true) where
      abbrev g : IsFollowed own c.beside cell copy
      g = c.followed done

      -- the last copy of a letter is the one that follows
      the_last : (o : PairState) (last : LastCopy) → vo ≡ Some o → last_copy o cell ≡ Some last → last ≡ g.last
      the_last o last met there = same_some (sym (one_last o last met there) ∙ g.is)

      -- nothing waits for it to be trimmed
      trimmed_last : (o : PairState) (last : LastCopy) → vo ≡ Some o → last_copy o cell ≡ Some last → epochs_beyond o cell last.epochs ≡ []
      trimmed_last o last met there = elim (trimmed_or heard old o last met there) [
        | inl none ↦ none
        | inr t ↦ waits_not last.op done t
      ]

      -- each last copy is one of the holder's then
      kept_lasts : (to : PairState) (new : Option Copying) → copying_on to cell ≡ new → copy.op < number_above new to.pairs.next
          → (o : PairState) (last : LastCopy) → vo ≡ Some o → last_copy o cell ≡ Some last → IsLastCopy (Some to) o cell last
      kept_lasts to new is_new lt o last met there = record {
        by = to;
        met = refl;
        below = subst (λ x. last.op < number_above x to.pairs.next) (sym is_new) (let le = up_to o last met there in omega arith);
        trimmed = inl (trimmed_last o last met there);
      }

      -- #### The other server has put an entry

      module _ (lt : copy.index < length chain) (said : HasPut vo cell copy.op copy.index) where
        abbrev synced : Copying
        synced = record copy { index = copy.index + 1 }

        abbrev to_synced : PairState
        to_synced = with_copying own cell synced

        pub synced_is : copying_on to_synced cell ≡ Some synced
        synced_is = cell_same own.copies.pending cell synced

        synced_past : copy.index + 1 ≤ g.last.index
        synced_past =
            let same = the_last said.past.own said.past.last said.past.met said.past.is in
            let put : copy.index < said.past.last.index = said.put (sym g.op_is ∙ ap (λ (l : LastCopy). l.op) (sym same)) in
            subst (λ (l : LastCopy). copy.index < l.index → copy.index + 1 ≤ g.last.index) (sym same) (λ less. omega arith) put

        synced_copying : (x : Copying) → copying_on to_synced cell ≡ Some x → IsCopying row to_synced vo cell x
        synced_copying = changed to_synced synced synced_is (record {
          below = c.below;
          free = c.free;
          begun = λ f. true_false done f;
          left = λ w. c.left (inr lt);
          beside = c.beside;
          met = c.met;
          followed = λ t. followed_on own to_synced c.beside cell copy synced g refl refl synced_past;
          heard = λ last f there op. true_false done f;
        })

        pub synced_step : Step to_synced
        synced_step = record {
          copying = holder_copying links row cell vo to_synced (old.risen own refl) synced_copying
              (kept_lasts to_synced (Some synced) synced_is (omega arith))
              (λ flag. not_flagged copy is flag) (λ page. old.met own refl page)
              (still_ordered to_synced refl refl refl (put_apart synced) (not_put (inr lt)));
          told = holder_told links row cell vo to_synced own (λ number t. waits_not number done t)
              (λ o last index epoch met there at_index e l. l)
              (λ number index r h x there op.
              let same : synced ≡ x = same_some (sym synced_is ∙ there) in
              let s = h.sent own copy refl is (ap (λ (y : Copying). y.op) same ∙ op) in
              subst (λ (y : Copying). IsSent to_synced cell y index r) same (s.0, (let le = s.1 in omega arith), s.2));
          marks = λ m. inl m;
          stored = λ some. some;
          alike = λ now still pages rises a. alike_still row cell own to_synced refl refl refl refl refl now a;
          caught = λ flag. not_flagged copy is flag;
        }

      -- #### All entries are put

      module _ (past : length chain ≤ copy.index) where
        abbrev put : IsCopied own cell
        put = record { copy = copy; is = is; trimmed = done; past = past }

        -- no entry is left to be put
        none_left : {A : Type 0} (o : PairState) (last : LastCopy) (index epoch : ℕ) → vo ≡ Some o → last_copy o cell ≡ Some last
            → slice_get last.epochs index ≡ Some epoch → index ≡ last.index → A
        none_left o last index epoch met there at_index e =
            none_left_to_put old put o last index epoch met there at_index e

        -- #### A mark of the block is taken away

        module _ (kind : MarkKind) where
          abbrev unmarked : PairState
          unmarked = record own { store = without_mark_on own.store kind cell }

          unmarked_copying : (x : Copying) → copying_on unmarked cell ≡ Some x → IsCopying row unmarked vo cell x
          unmarked_copying = changed unmarked copy is (record {
            below = c.below;
            free = c.free;
            begun = c.begun;
            left = λ w. elim w [ inl f ↦ true_false done f | inr lt ↦ absurd (omega arith) ];
            beside = c.beside;
            met = c.met;
            followed = λ t. followed_on own unmarked c.beside cell copy copy g refl refl g.past;
            heard = λ last f there op. true_false done f;
          })

          pub unmarked_step : Step unmarked
          unmarked_step = record {
            copying = holder_copying links row cell vo unmarked (old.risen own refl) unmarked_copying
                (kept_lasts unmarked (Some copy) is (omega arith))
                (λ flag. not_flagged copy is flag) (λ page. old.met own refl page)
                (λ paged later other lt on at_later all ahead. inr (record { copy = copy; is = is; trimmed = done; past = past }));
            told = holder_told links row cell vo unmarked own (λ number t. waits_not number done t)
                (λ o last index epoch met there at_index e l. none_left o last index epoch met there at_index e)
                (λ number index r h x there op. h.sent own x refl there op);
            marks = λ m. inr (ap is_some c.met);
            stored = λ some. some;
            alike = λ now still pages rises a. alike_by row cell own unmarked now
                (Is_equal (copied_now old put now still rises))
                (λ flag. not_flagged copy is flag);
            caught = λ flag. not_flagged copy is flag;
          }

      -- #### The copy ends

      module _ (to : PairState) (gone : copying_on to cell ≡ None) (others : (q : Cell) → q ≢ cell → copying_on to q ≡ copying_on own q)
          (store : to.store ≡ own.store) (pairs : to.pairs ≡ own.pairs)
          (paged : (progress_on to row).paged ≡ (progress_on own row).paged)
          (after : (progress_on to row).after ≡ (progress_on own row).after)
          (flag_is : is_flagged to (id_of row) ≡ is_flagged own (id_of row)) where
        chain_is : chain_in to.store.chains cell ≡ chain
        chain_is = ap (λ (s : Store). chain_in s.chains cell) store

        ended_copying : AreInOrder links row cell to → AreCopying links row cell (Some to) vo
        ended_copying ordered = holder_copying links row cell vo to
            (subst (λ (s : Store). IsRising nat_cmp (chain_in s.chains cell)) (sym store) (old.risen own refl))
            (λ x there. none_some gone there)
            (kept_lasts to None gone (subst (λ (p : Pairs). copy.op < p.next) (sym pairs) c.below))
            (λ flag. not_flagged copy is (sym flag_is ∙ flag))
            (λ page. ap is_some c.met) ordered

        ended_told : ((o : PairState) (last : LastCopy) (index epoch : ℕ) → vo ≡ Some o → last_copy o cell ≡ Some last
            → slice_get last.epochs index ≡ Some epoch → index ≡ last.index → IsLeft own row cell → IsLeft to row cell)
            → StaysTold row cell (Some own) vo (Some to) vo
        ended_told left = holder_told links row cell vo to own (λ number t. waits_not number done t) left
            (λ number index r h x there op. none_some gone there)

        -- the other server had no room
        module _ (copied : (progress_on to row).copied ≡ (progress_on own row).copied) (lt : copy.index < length chain) where
          ended_left : IsLeft own row cell → IsLeft to row cell
          ended_left (inl marked) = inl (subst (λ (s : Store). IsMarked s cell) (sym store) marked)
          ended_left (inr all) = inr (to_be_copied row cell own to chain_is all.0, ap (λ o. above o cell.block) copied ∙ all.1)

          pub full_step : Step to
          full_step = record {
            copying = ended_copying (still_ordered to store paged copied others (not_put (inr lt)));
            told = ended_told (λ o last index epoch met there at_index e l. ended_left l);
            marks = λ m. inl (subst (λ (s : Store). IsMarked s cell) (sym store) m);
            stored = λ some none. some (sym chain_is ∙ none);
            alike = λ now still pages rises a. alike_still row cell own to store paged after copied flag_is now a;
            caught = λ flag. not_flagged copy is flag;
          }

        -- all is put
        module _ (copied : above (progress_on to row).copied cell.block ≡ false) (past : length chain ≤ copy.index) where
          pub closed_step : Step to
          closed_step = record {
            copying = ended_copying (λ paged later other lt on at_later all ahead. true_false ahead copied);
            told = ended_told (λ o last index epoch met there at_index e l. none_left past o last index epoch met there at_index e);
            marks = λ m. inl (subst (λ (s : Store). IsMarked s cell) (sym store) m);
            stored = λ some none. some (sym chain_is ∙ none);
            alike = λ now still pages rises a. alike_by row cell own to now
                (Is_equal (chain_is ∙ copied_now old (put past) now still rises))
                (λ flag. not_flagged copy is (sym flag_is ∙ flag));
            caught = λ flag. not_flagged copy is flag;
          }

    -- ### What is sent of it

    pub trim_told : copy.trimmed ≡ false → IsTold row (Some own) vo (body.Trim copy.op cell (epochs_of chain))
    trim_told fresh = inr (record {
      own = own;
      met = refl;
      trimming = record { copy = copy; is = is; op_is = refl; waits = fresh };
      epochs_are = refl;
    })

    pub entry_told : (r : ℕ × Stored) → copy.trimmed ≡ true → slice_get chain copy.index ≡ Some r
        → HasSent row (Some own) vo cell copy.op copy.index r
    entry_told r done at_index =
        let f = c.followed done in
        let op = f.op_is in
        record {
          trimmed = record {
            past = record { own = c.beside; met = c.met; last = f.last; is = f.is; past = omega arith };
            trimmed = λ same. f.trimmed;
          };
          of_last = λ same. record {
            epoch_is = ap (λ epochs. slice_get epochs copy.index) f.epochs_are ∙ epoch_at chain copy.index r at_index;
            near = f.past;
            own = own;
            met = refl;
            left = λ at_last. c.left (inr (slice_get_within chain copy.index r at_index));
          };
          sent = λ x other own_is there same.
              let one : copy ≡ other = same_some (sym is ∙ ap (λ y. copying_on y cell) (same_some own_is) ∙ there) in
              subst (λ (y : PairState). IsSent y cell other copy.index r) (same_some own_is)
              (subst (λ (y : Copying). IsSent own cell y copy.index r) one (done, omega arith, at_index));
        }
