-- A lead puts only on a block that is marked on its device, and its operations find the marks that their stages tell of.
use Rattle.law_copies.proofs.Imports.{◌&&◌, ◌+◌, ◌||◌, ◌∙◌, ◌≡◌, ◌≢◌, ◌⊎◌, A_lead, An_operation, As_copy, As_operation, As_second, Body, Busy, By_a_copy}
use Rattle.law_copies.proofs.Imports.{By_its_operation, Cell, Closes, Copying, Did, Drops, Effect, For_a_fill, For_a_write, Goes_on, Idle, IsIdle, IsMarked}
use Rattle.law_copies.proofs.Imports.{IsOpening, IsPutFor, IsSetFor, IsUnmarkedFor, Is_off, Is_old, JobContext, JobResult, Key, LastOp, MarkKind, Marks, May}
use Rattle.law_copies.proofs.Imports.{None, Opens, PairState, Pairs, Pending, Puts, Sets, Some, Stale, Store, Stored, Turns_page, Unmarks, ap, both_true}
use Rattle.law_copies.proofs.Imports.{applied, at, both, cell_apart, cell_at, cell_cmp, cell_holder, cell_of, cell_same, chain_in, copying_on, did_ready}
use Rattle.law_copies.proofs.Imports.{drop_apart, entry_ahead, false, follows, in_filter, inl, inr, is_marked, is_second, is_some, is_under_way, job_keeps}
use Rattle.law_copies.proofs.Imports.{leads_link, led_by_link, live, live_stage, mark_kept, marked_blocks, nat_cmp, none_some, not, not_true, pending_on, put}
use Rattle.law_copies.proofs.Imports.{put_with, refl, same_cell_or_apart, same_some, some_or_none, stale_kept, stood, subst, sym, true, true_false}
use Rattle.law_copies.proofs.Imports.{unmark_beside, version_of, ℕ}
use Rattle.law_copies.specs.LoneSteps.{IsFit}
use Rattle.law_copies.specs.Pair.{HasMarks, HaveMarks}
use Rattle.law_copies.proofs.EffectsOnCells.{copied_apart, dropped_apart, own_apart, put_apart}
use Rattle.law_copies.proofs.OtherIsNotHolder.{held_not_leading}
use Rattle.law_copies.proofs.RolesOfWorkers.{leads_not_second}

-- operations find their marks, and a copy of a live cell whose link the server leads changed only where the block was marked
pub record KeepsMarks (here : JobContext) (old new : PairState) : Type 0 where
  pub marks : HaveMarks here.state new.pairs.pending new.store
  pub first : (cell : Cell) → live here.state cell ≡ true → leads_link here.state here.me cell ≡ true
      → chain_in new.store.chains cell ≢ chain_in old.store.chains cell → IsMarked old.store cell

-- so it is at one cell
pub record KeepsAt (q : Cell) (own now : PairState) : Type 0 where
  pub marks : (op : Pending) → pending_on now q ≡ Some op → HasMarks op now.store q
  pub chain : (chain_in now.store.chains q ≡ chain_in own.store.chains q) ⊎ IsMarked own.store q

module _ (heard : Body → Type 0) (here : JobContext) (own : PairState) (fit : IsFit heard here own) where
  -- of a live cell, which the server neither follows nor takes from another holder; and where it copies the cell, nothing is pending
  pub record IsMine (q : Cell) : Type 0 where
    pub on : live here.state q ≡ true
    pub no_second : is_second here.state here.me q ≡ true → ⊥
    pub no_other : (holder : ℕ) → cell_holder here q ≡ Some holder → ⊥
    pub idle : (copy : Copying) → copying_on own q ≡ Some copy → pending_on own q ≡ None

  module _ (q : Cell) (mine : IsMine q) where
    open mine use {on, no_second, no_other, idle}

    abbrev K : PairState → Type 0
    K now = KeepsAt q own now

    -- what is pending and the marks stay
    stays : (now to : PairState) → K now → pending_on to q ≡ pending_on now q → ((kind : MarkKind) → is_marked now.store kind q ≡ true
        → is_marked to.store kind q ≡ true) → chain_in to.store.chains q ≡ chain_in now.store.chains q → K to
    stays now to k pending marks chain = record {
      marks = λ op is.
          let was = k.marks op (sym pending ∙ is) in
          record {
            busy = λ e. marks Busy (was.busy e);
            stale = λ e. marks Stale (was.stale e);
            lacks = λ fill unput. ap (λ c. at nat_cmp c op.key.epoch) chain ∙ was.lacks fill unput;
          };
      chain = elim k.chain [ inl same ↦ inl (chain ∙ same) | inr there ↦ inr there ];
    }

    opened : (op : Pending) → IsOpening heard here own op → HasMarks op own.store op.cell
    opened _ (For_a_write want new) =
        record { busy = λ e. true_false e refl; stale = λ e. true_false e refl; lacks = λ fill unput. true_false refl fill }
    opened _ (For_a_fill moving new) =
        record { busy = λ e. true_false e refl; stale = λ e. true_false e refl; lacks = λ fill unput. new.lacks }

    set_to : (now : PairState) (op : Pending) → IsSetFor heard here own now op → K now → q ≡ op.cell → HasMarks op now.store q
    set_to now _ (Goes_on op stage there same reserved busy stale) k e =
        let was = k.marks op (ap (at cell_cmp now.pairs.pending) e ∙ there) in
        record {
          busy = λ t. elim (busy t) [ inl old ↦ was.busy old | inr there ↦ ap (is_marked now.store Busy) e ∙ there ];
          stale = λ t. elim (stale t) [ inl old ↦ was.stale old | inr there ↦ ap (is_marked now.store Stale) e ∙ there ];
          lacks = λ fill unput. was.lacks fill (sym same ∙ unput);
        }

    -- nothing is under way where an idle mark is taken away
    idle_free : (cell : Cell) → IsIdle here own cell → pending_on own cell ≡ None
    idle_free _ (Idle id row kind block named both i) =
        let left = in_filter (λ b. is_marked own.store kind (cell_at row b) && not (is_under_way own (cell_at row b)))
        (marked_blocks here.state row own) block i in
        let free : is_under_way own (cell_at row block) ≡ false = not_true _ (both_true _ _ left.1).1 in
        elim (some_or_none (pending_on own (cell_at row block))) [
          | inl there ↦ true_false (ap (λ o. is_some o || is_some (copying_on own (cell_at row block))) there.1) free
          | inr none ↦ none
        ]

    none_there : (now : PairState) (kind : MarkKind) (cell : Cell) → K now → pending_on now q ≡ None → K (applied now (Unmarks kind cell))
    none_there now kind cell k none = record { marks = λ op is. none_some none is; chain = k.chain }

    unmarked : (now : PairState) (kind : MarkKind) (cell : Cell) → IsUnmarkedFor here own now kind cell → q ≡ cell → K now
        → K (applied now (Unmarks kind cell))
    unmarked now _ _ (By_its_operation op there busy stale) e k = record {
      marks = λ o is.
          let was = k.marks o is in
          let same : op ≡ o = same_some (sym there ∙ ap (at cell_cmp now.pairs.pending) (sym e) ∙ is) in
          record {
            busy = λ t. true_false t (ap (λ (p : Pending). p.stage.busy) (sym same) ∙ busy);
            stale = λ t. stale_kept now.store op.cell q ∙ was.stale t;
            lacks = was.lacks;
          };
      chain = k.chain;
    }
    unmarked now _ _ (By_a_copy kind cell copy under synced) e k = none_there now kind cell k
        (ap (λ (p : Pairs). at cell_cmp p.pending q) under.pairs ∙ idle under.was (ap (copying_on own) e ∙ under.was_is))
    unmarked now _ _ (Is_old kind cell old same) e k = none_there now kind cell k
        (ap (λ (o : PairState). pending_on o q) same ∙ ap (pending_on own) e ∙ idle_free cell old)
    unmarked now _ _ (Is_off kind cell off) e k = true_false on (ap (live here.state) e ∙ off)

    -- the entry is put on a marked block
    put_here : (now : PairState) (key : Key) (stored : Stored) (op : Pending) → IsPutFor heard here own key stored (As_operation op)
        → now.store ≡ own.store → q ≡ op.cell → K (applied now (Puts key stored (As_operation op)))
    put_here now _ _ _ (An_operation op reserved paired is fresh why) same e =
        let old = fit.marks q op on (ap (at cell_cmp own.pairs.pending) e ∙ is) in
        let now_put : Pending = record op {
          version = version_of (chain_in own.store.chains op.cell) + 1;
          stage = record op.stage { reserved = reserved; paired = paired; put = true };
        } in
        record {
          marks = λ o there.
              let one : now_put ≡ o = same_some (sym (cell_same now.pairs.pending op.cell now_put)
              ∙ ap (at cell_cmp (put cell_cmp now.pairs.pending op.cell now_put)) (sym e) ∙ there) in
              subst (λ (p : Pending). HasMarks p (applied now (Puts op.key (entry_ahead own op.cell op) (As_operation now_put))).store q) one (record {
                busy = λ t. ap (λ (s : Store). is_marked s Busy q) same ∙ old.busy t;
                stale = λ t. ap (λ (s : Store). is_marked s Stale q) same ∙ old.stale t;
                lacks = λ fill unput. true_false refl unput;
              });
          chain = inr (elim (fresh (ap (live here.state) (sym e) ∙ on)).1 [ inl busy ↦ inl (old.busy busy) | inr stale ↦ inr (old.stale stale) ]);
        }

    pub second_apart : (key : Key) (stored : Stored) (last : LastOp) → IsPutFor heard here own key stored (As_second last) → q ≢ cell_of key
    second_apart _ _ _ (A_lead number key told version origin bytes h follows last next) e = no_second (ap (is_second here.state here.me) e ∙ follows)

    pub each_marks : (now : PairState) (e : Effect) → May heard here own now e → K now → K (applied now e)
    each_marks now (Opens op) may k = record {
      marks = put_with (λ o. HasMarks o now.store q) now.pairs.pending op.cell q op
          (λ e. subst (HasMarks op now.store) (sym e) (subst (λ (o : PairState). HasMarks op o.store op.cell) (sym may.1) (opened op may.0))) k.marks;
      chain = k.chain;
    }
    each_marks now (Sets op) may k =
        record { marks = put_with (λ o. HasMarks o now.store q) now.pairs.pending op.cell q op (set_to now op may.0 k) k.marks; chain = k.chain }
    each_marks now (Closes cell) may k = record { marks = λ op is. k.marks op (stood now.pairs.pending cell q op is); chain = k.chain }
    each_marks now (Puts key stored (As_operation op)) may k = elim (same_cell_or_apart q op.cell) [
      | inl e ↦ put_here now key stored op may.0 (ap (λ (o : PairState). o.store) may.2.0) e
      | inr ne ↦ stays now _ k (cell_apart now.pairs.pending op.cell op q ne) (λ kind there. there)
          (put_apart now.store.chains key stored q (own_apart heard here own fit q (live_stage here.state q on).1 key stored op may.0 ne))
    ]
    each_marks now (Puts key stored (As_second last)) may k =
        stays now _ k refl (λ kind there. there) (put_apart now.store.chains key stored q (second_apart key stored last may.0))
    each_marks now (Puts key stored (As_copy last)) may k =
        stays now _ k refl (λ kind there. there) (put_apart now.store.chains key stored q (copied_apart heard here own q no_other key stored last may.0))
    each_marks now (Drops key) may k =
        stays now _ k refl (λ kind there. there) (drop_apart now.store key q (dropped_apart heard here own q no_other now key may.2 on))
    each_marks now (Marks which cell) may k = stays now _ k refl (λ kind. mark_kept now.store which kind cell q) refl
    each_marks now (Unmarks which cell) may k = elim (same_cell_or_apart q cell) [
      | inl e ↦ unmarked now which cell may e k
      | inr ne ↦ stays now _ k refl (λ kind there. unmark_beside now.store which kind cell q ne ∙ there) refl
    ]
    each_marks now (Turns_page row (Some block)) may k = stays now _ k refl (λ kind. mark_kept now.store Stale kind (cell_at row block) q) refl
    each_marks now e may k = stays now (applied now e) k refl (λ kind there. there) refl

    pub begun_marks : K own
    begun_marks = record { marks = λ op is. fit.marks q op on is; chain = inl refl }

  -- ### All jobs

  module _ (idle : (cell : Cell) (copy : Copying) → copying_on own cell ≡ Some copy → pending_on own cell ≡ None) (done : JobResult)
      (did : Did heard here own done) where
    marked : (q : Cell) → live here.state q ≡ true → leads_link here.state here.me q ≡ true → KeepsAt q own done.own
    marked q on leads =
        let mine : IsMine q = record {
          on = on;
          no_second = λ so. let led = led_by_link here.state here.me q leads in leads_not_second here fit.steady q led.0 led.1 leads so;
          no_other = λ holder held. held_not_leading here fit.steady q holder held leads;
          idle = idle q;
        } in
        job_keeps heard here own (KeepsAt q own) (each_marks q mine) (begun_marks q mine) done did

    pub job_marked : KeepsMarks here own done.own
    job_marked = record {
      marks = λ q op on is. (marked q on (((did_ready heard here own fit.ready done did).staged q op is).leads on)).marks op is;
      first = λ q on leads changed. elim (marked q on leads).chain [ inl same ↦ absurd (changed same) | inr there ↦ there ];
    }
