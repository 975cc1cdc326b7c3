-- What a step of the first server of a cell in Both keeps of its two copies.
use Rattle.law_copies.proofs.Imports.{◌+◌, ◌∙◌, ◌≡◌, ◌≢◌, ◌≤◌, ◌⊎◌, A_lead, Alone_has, An_operation, As_copy, As_operation, As_second, Body, Bool, Both_have}
use Rattle.law_copies.proofs.Imports.{Cell, Closes, Did, Drops, Effect, Ending, For_a_fill, For_a_write, Goes_on, HasEnded, IsApart, IsClosedFor, IsOpening}
use Rattle.law_copies.proofs.Imports.{IsPutFor, IsReserved, IsSetFor, Is_declined, Is_over, Is_retired, JobResult, Key, LastOp, May, None, Opens, PairState}
use Rattle.law_copies.proofs.Imports.{Pairs, Pending, Puts, Sets, Some, Stage, Stored, about, ap, applied, arith, at, both, both_not_alone, cell_cmp}
use Rattle.law_copies.proofs.Imports.{cell_gone, cell_of, cell_same, chain_in, chain_put, chains_with, ended, entry_ahead, false, fill_operation, follows}
use Rattle.law_copies.proofs.Imports.{inl, inr, is_alone_on, live, nat_cmp, operation, pending_on, put, putting, refl, same_some, so_both, stage_live, subst}
use Rattle.law_copies.proofs.Imports.{sym, taking, true, true_false, version_of, without}
use Rattle.law_copies.specs.Pair.{Keeps, Known, Pair, PairOk, far, pair_of}
use Rattle.law_copies.specs.Visits.{AliveIn}
use Rattle.law_copies.proofs.CellInBoth.{CellInBoth, no_other, second_apart}
use Rattle.law_copies.proofs.EffectsOnCells.{Changes, cell_keeps, copied_apart, dropped_apart}
use Rattle.petal_msg.specs.declared.body.Body.TheVariants as body
use Rattle.law_copies.proofs.CellChangesKeepCopies as moves

module _ (it : CellInBoth) (leads : it.row.primary ≡ it.here.me) (second_own : PairState) (ok : PairOk (pair_of it.own second_own it.cell))
    (known : (said : Body) → it.heard said → (about said).cell ≡ Some it.cell → Known (pair_of it.own second_own it.cell) said) where
  open it use {heard, here, own, fit, cell, row, is_row, alive, both_row}

  abbrev pair : PairState → Pair
  pair now = pair_of now second_own cell

  abbrev K : PairState → Type 0
  K now = Keeps (pair own) (pair now)

  -- another cell is held alone, or no longer live
  alone_not : {A : Type 0} (q : Cell) → cell ≡ q → is_alone_on here.state here.me q ≡ true → A
  alone_not q e alone =
      true_false alone (ap (is_alone_on here.state here.me) (sym e) ∙ both_not_alone here.state here.me cell (so_both here.state cell row is_row both_row))

  retired_not : {A : Type 0} (q : Cell) (op : Pending) → pending_on own q ≡ Some op → cell ≡ q → live here.state q ≡ false → A
  retired_not q op is e off = true_false (stage_live here.state q (fit.ready.staged q op is).born (subst (AliveIn here.state) e alive)) off

  apart_not : {A : Type 0} (op : Pending) → pending_on own op.cell ≡ Some op → cell ≡ op.cell → IsApart here op.cell → A
  apart_not op is e (inl alone) = alone_not op.cell e alone
  apart_not op is e (inr off) = retired_not op.cell op is e off

  -- ### The operation of the cell

  opened : (op : Pending) → pending_on own op.cell ≡ None → op.op ≡ own.pairs.next → op.stage.reserved ≡ false → op.stage.put ≡ false → cell ≡ op.cell
      → K (applied own (Opens op))
  opened op none number unreserved unput e =
      let there = ap (at cell_cmp (put cell_cmp own.pairs.pending op.cell op)) e ∙ cell_same own.pairs.pending op.cell op in
      subst (Keeps (pair own)) (λ i. record (pair (applied own (Opens op))) { pending = sym there i })
      (moves.opens (pair own) op ok (ap (at cell_cmp own.pairs.pending) e ∙ none) number unreserved unput)

  opens_keeps : (op : Pending) → IsOpening heard here own op → cell ≡ op.cell → K (applied own (Opens op))
  opens_keeps _ (For_a_write want new) = opened (operation here own.pairs.next want) new.none refl refl refl
  opens_keeps _ (For_a_fill moving new) = opened (fill_operation here own.pairs.next moving) new.none refl refl refl

  reserved_so : (op : Pending) → cell ≡ op.cell → IsReserved heard here own op → (op.stage.reserved ≡ true) ⊎ (op.op + op.op ≤ far (pair own))
  reserved_so op e (inl was) = inl was
  reserved_so op e (inr (inl h)) = inr (known (body.Reserved op.op op.cell) h (ap Some (sym e)))
  reserved_so op e (inr (inr why)) = apart_not op why.0 e why.1

  sets_keeps : (now : PairState) (op : Pending) → IsSetFor heard here own now op → PairOk (pair now) → cell ≡ op.cell
      → Keeps (pair now) (record (pair now) { pending = Some op })
  sets_keeps now _ (Goes_on op stage there same reserved busy stale) so e =
      moves.restages (pair now) op stage so (ap (at cell_cmp now.pairs.pending) e ∙ there) same (λ r. reserved_so op e (reserved r))

  closes_keeps : (now : PairState) (op : Pending) (how : Ending) → HasEnded heard here own op how → at cell_cmp now.pairs.pending cell ≡ Some op
      → PairOk (pair now) → cell ≡ op.cell → Keeps (pair now) (record (pair now) { pending = None })
  closes_keeps now op _ (Is_declined _ h is reserved unput) there so e = moves.refuses (pair now) op so there unput
  closes_keeps now op _ (Both_have _ h is both stage) there so e =
      moves.closes (pair now) op so there (ap (λ (s : Stage). s.put) stage) (known (body.Replicated op.op op.cell) h (ap Some (sym e)))
  closes_keeps now op _ (Alone_has _ _ taken alone stale done free) there so e = alone_not op.cell e alone
  closes_keeps now op _ (Is_retired then _ taken off) there so e =
      let t = taking own then op taken in retired_not op.cell t.old t.was e off

  closed_so : (now : PairState) (q : Cell) → IsClosedFor heard here own now q → PairOk (pair now) → cell ≡ q
      → Keeps (pair now) (record (pair now) { pending = None })
  closed_so now _ (Is_over op how ended there) so e = closes_keeps now op how ended (ap (at cell_cmp now.pairs.pending) e ∙ there) so e

  puts_keeps : (now : PairState) (op : Pending) (reserved paired : Bool) → pending_on own op.cell ≡ Some op → op.stage ≡ putting
      → now.store.chains ≡ own.store.chains → now.pairs ≡ own.pairs → cell ≡ op.cell
      → K (applied now (Puts op.key (entry_ahead own op.cell op) (As_operation (record op {
        version = version_of (chain_in own.store.chains op.cell) + 1;
        stage = record op.stage { reserved = reserved; paired = paired; put = true };
      }))))
  puts_keeps now op reserved paired is stage_is chains pairs e =
      let entry = entry_ahead own op.cell op in
      let two : Pending = record op { version = entry.version; stage = record op.stage { reserved = reserved; paired = paired; put = true } } in
      let keyed = (fit.ready.staged op.cell op is).keyed in
      let new = applied now (Puts op.key entry (As_operation two)) in
      let copied : put nat_cmp (chain_in own.store.chains op.cell) op.key.epoch entry ≡ chain_in new.store.chains op.cell =
      ap (λ (q : Cell). put nat_cmp (chain_in own.store.chains q) op.key.epoch entry) (sym keyed)
      ∙ sym (chain_put own.store.chains (cell_of op.key) (put nat_cmp (chain_in own.store.chains (cell_of op.key)) op.key.epoch entry))
      ∙ ap (λ t. chain_in (chains_with t op.key entry) (cell_of op.key)) (sym chains) ∙ ap (chain_in new.store.chains) keyed in
      subst (λ (q : Cell). Keeps (pair_of own second_own q) (pair_of new second_own q)) (sym e)
      (subst (Keeps (pair_of own second_own op.cell)) (λ i. record (pair_of new second_own op.cell) {
        first = copied i;
        pending = sym (cell_same now.pairs.pending op.cell two) i;
        next = sym (ap (λ (p : Pairs). p.next) pairs) i;
      }) (moves.puts (pair_of own second_own op.cell) op two (subst (λ (q : Cell). PairOk (pair_of own second_own q)) e ok) is
      (ap (λ (s : Stage). s.reserved) stage_is) (ap (λ (s : Stage). s.put) stage_is) refl refl refl refl))

  put_so : (now : PairState) (key : Key) (stored : Stored) (op : Pending) → IsPutFor heard here own key stored (As_operation op)
      → now.store.chains ≡ own.store.chains → (now.pairs ≡ own.pairs) ⊎ IsApart here op.cell → cell ≡ op.cell
      → K (applied now (Puts key stored (As_operation op)))
  put_so now _ _ _ (An_operation op reserved paired is fresh (inr apart)) chains same e = apart_not op is e apart
  put_so now _ _ _ (An_operation op reserved paired is fresh (inl stage_is)) chains (inr apart) e = apart_not op is e apart
  put_so now _ _ _ (An_operation op reserved paired is fresh (inl stage_is)) chains (inl pairs) e =
      puts_keeps now op reserved paired is stage_is chains pairs e

  -- ### All effects

  second_put : (key : Key) (stored : Stored) (last : LastOp) → IsPutFor heard here own key stored (As_second last) → cell ≢ cell_of key
  second_put _ _ _ (A_lead number key told version origin bytes h follows last next) = second_apart it leads (cell_of key) follows

  -- the cell stays
  after : (now new : PairState) → K now → chain_in new.store.chains cell ≡ chain_in now.store.chains cell
      → at cell_cmp new.pairs.pending cell ≡ at cell_cmp now.pairs.pending cell → now.pairs.next ≤ new.pairs.next → K new
  after now new k chain pending next = moves.keeps_then k (moves.first_stays now new second_own cell chain pending next k.ok)

  counted : (now : PairState) (e : Effect) → now.pairs.next ≤ (applied now e).pairs.next
  counted now (Opens op) = omega arith
  counted now _ = omega arith

  each : (now : PairState) (e : Effect) → May heard here own now e → Changes heard here own fit cell alive now e → K now → K (applied now e)
  each now (Opens op) may (inl on) k = subst (λ (o : PairState). K (applied o (Opens op))) (sym may.1) (opens_keeps op may.0 (sym (same_some on.at)))
  each now (Sets op) may (inl on) k =
      let e = sym (same_some on.at) in
      let there = ap (at cell_cmp (put cell_cmp now.pairs.pending op.cell op)) e ∙ cell_same now.pairs.pending op.cell op in
      moves.keeps_then k (subst (Keeps (pair now)) (λ i. record (pair now) { pending = sym there i }) (sets_keeps now op may.0 k.ok e))
  each now (Closes q) may (inl on) k =
      let e = sym (same_some on.at) in
      let gone = ap (at cell_cmp (without cell_cmp now.pairs.pending q)) e ∙ cell_gone now.pairs.pending q in
      moves.keeps_then k (subst (Keeps (pair now)) (λ i. record (pair now) { pending = sym gone i }) (closed_so now q may k.ok e))
  each now (Puts key stored (As_operation op)) may (inl on) k = put_so now key stored op may.0 may.1 may.2.1 (sym (same_some on.at))
  each now (Puts key stored (As_second last)) may (inl on) k = absurd (second_put key stored last may.0 (sym (same_some on.at)))
  each now (Puts key stored (As_copy last)) may (inl on) k =
      absurd (copied_apart heard here own cell (no_other it) key stored last may.0 (sym (same_some on.at)))
  each now (Drops key) may (inl on) k = absurd (dropped_apart heard here own cell (no_other it) now key may.2 on.lives (sym (same_some on.at)))
  each now e may (inl on) k = after now (applied now e) k refl refl (omega arith)
  each now e may (inr kept) k = after now (applied now e) k kept.rest.chain kept.rest.pending (counted now e)

  pub lead_keeps : (done : JobResult) → Did heard here own done → K done.own
  lead_keeps = cell_keeps heard here own fit cell alive K each (moves.stays (pair own) own.pairs.next ok (omega arith))
