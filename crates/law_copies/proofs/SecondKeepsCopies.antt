-- What a step of the second server of a cell in Both keeps of its two copies.
use Rattle.law_copies.proofs.Imports.{◌+◌, ◌∙◌, ◌≡◌, ◌≤◌, ◌⊎◌, A_lead, As_copy, As_operation, As_second, Body, Cell, Did, Drops, Effect, IsPutFor, JobResult}
use Rattle.law_copies.proofs.Imports.{Key, LastOp, List, May, Named, Option, PairState, Pending, Puts, Replicated, Reserved, Reserves, Some, Stored, about}
use Rattle.law_copies.proofs.Imports.{ap, applied, arith, at, cell_cmp, cell_of, cell_same, chain_in, chain_put, chains_with, inl, inr, nat_cmp, progress}
use Rattle.law_copies.proofs.Imports.{put, putting, refl, same_some, subst, sym, version_of, ℕ}
use Rattle.law_copies.specs.BothSteps.{LacksFill}
use Rattle.law_copies.specs.Pair.{IsPutting, Keeps, Known, Pair, PairOk, far, pair_of}
use Rattle.law_copies.proofs.CellInBoth.{CellInBoth, no_other, own_put_apart}
use Rattle.law_copies.proofs.EffectsOnCells.{Changes, cell_keeps, copied_apart, dropped_apart}
use Rattle.petal_msg.specs.declared.body.Body.TheVariants as body
use Rattle.petal_msg.specs.declared.operation.FollowProgress.TheVariants as follow_progress
use Rattle.law_copies.proofs.CellChangesKeepCopies as moves

-- a second server that has not followed was asked to by an operation that is pending
asked : (number : ℕ) (key : Key) (bytes : List ℕ) (pair : Pair) → pair.last ≡ Some (record { op = number; progress = follow_progress.Reserved })
    → IsPutting pair.pending number key bytes ⊎ (number + number + 1 ≤ far pair) → IsPutting pair.pending number key bytes
asked number key bytes pair last (inl putting) = putting
asked number key bytes pair last (inr past) = let e : far pair ≡ number + number = ap progress last in absurd (omega arith)

module _ (it : CellInBoth) (follows : it.row.secondary ≡ it.here.me) (first : PairState) (ok : PairOk (pair_of first it.own it.cell))
    (known : (said : Body) → it.heard said → (about said).cell ≡ Some it.cell → Known (pair_of first it.own it.cell) said) where
  open it use {heard, here, own, fit, cell}

  abbrev pair : PairState → Pair
  pair now = pair_of first now cell

  -- the copies are kept together; and of an entry that moves nothing is here before the server has followed
  pub record IsKept (now : PairState) : Type 0 where
    pub keeps : Keeps (pair own) (pair now)
    pub lacks : LacksFill first own cell → LacksFill first now cell

  -- the chain stays
  further : (now new : PairState) → IsKept now → Keeps (pair now) (pair new) → chain_in new.store.chains cell ≡ chain_in now.store.chains cell → IsKept new
  further now new k step chain = record {
    keeps = moves.keeps_then k.keeps step;
    lacks = λ old op there fill le.
        let up = step.grows.onward in ap (λ c. at nat_cmp c op.key.epoch) chain ∙ k.lacks old op there fill (omega arith);
  }

  -- the last operation as well
  after : (now new : PairState) → IsKept now → chain_in new.store.chains cell ≡ chain_in now.store.chains cell
      → at cell_cmp new.pairs.last cell ≡ at cell_cmp now.pairs.last cell → IsKept new
  after now new k chain last = further now new k (moves.second_stays first now new cell chain last k.keeps.ok) chain

  reserves : (now : PairState) (number : ℕ) → heard (body.Reserve number cell) → progress (at cell_cmp now.pairs.last cell) ≤ number + number
      → IsKept now → IsKept (applied now (Reserves cell number))
  reserves now number h le k =
      let there = cell_same now.pairs.last cell (record { op = number; progress = follow_progress.Reserved }) in
      further now (applied now (Reserves cell number)) k
      (subst (Keeps (pair now)) (λ i. record (pair now) { last = sym there i }) (moves.reserves (pair now) number k.keeps.ok le (known _ h refl))) refl

  -- it follows
  abbrev followed : ℕ → LastOp
  followed number = record { op = number; progress = follow_progress.Replicated }

  follows_keeps : (now : PairState) (number : ℕ) (key : Key) (told version : ℕ) (origin : Option Named) (bytes : List ℕ)
      → heard (body.Replicate number key told origin bytes)
      → at cell_cmp own.pairs.last (cell_of key) ≡ Some (record { op = number; progress = follow_progress.Reserved })
      → version ≡ version_of (chain_in own.store.chains (cell_of key)) + 1 → now.store.chains ≡ own.store.chains → cell ≡ cell_of key
      → IsKept (applied now (Puts key (record { version = version; bytes = bytes }) (As_second (followed number))))
  follows_keeps now number key told version origin bytes h is next chains e =
      let last = followed number in
      let stored : Stored = record { version = version; bytes = bytes } in
      let q = cell_of key in
      let new = applied now (Puts key stored (As_second last)) in
      let was = ap (at cell_cmp own.pairs.last) e ∙ is in
      let putting = asked number key bytes (pair own) was (known (body.Replicate number key told origin bytes) h (ap Some (sym e))) in
      let there : at cell_cmp new.pairs.last cell ≡ Some last = ap (at cell_cmp new.pairs.last) e ∙ cell_same now.pairs.last q last in
      let chain : put nat_cmp (chain_in own.store.chains cell) key.epoch (record { version = version_of (chain_in own.store.chains cell) + 1; bytes = bytes })
      ≡ chain_in new.store.chains cell =
      ap (λ (c : Cell).
      put nat_cmp (chain_in own.store.chains c) key.epoch (record { version = version_of (chain_in own.store.chains c) + 1; bytes = bytes })) e
      ∙ ap (λ v. put nat_cmp (chain_in own.store.chains q) key.epoch (record { version = v; bytes = bytes })) (sym next)
      ∙ sym (chain_put own.store.chains q (put nat_cmp (chain_in own.store.chains q) key.epoch stored))
      ∙ ap (λ t. chain_in (chains_with t key stored) q) (sym chains) ∙ ap (chain_in new.store.chains) (sym e) in
      record {
        keeps = subst (Keeps (pair own)) (λ i. record (pair own) { second = chain i; last = sym there i })
            (moves.follows (pair own) number key bytes ok was putting);
        -- what is pending is what it has followed
        lacks = λ old op pending fill le.
            let same : op ≡ putting.op = same_some (sym pending ∙ putting.is) in
            let number_is : op.op ≡ number = ap (λ (o : Pending). o.op) same ∙ putting.number_is in
            let past : far (pair new) ≡ number + number + 1 = ap progress there in
            absurd (omega arith);
      }

  second_put : (now : PairState) (key : Key) (stored : Stored) (last : LastOp) → IsPutFor heard here own key stored (As_second last)
      → now.store.chains ≡ own.store.chains → cell ≡ cell_of key → IsKept (applied now (Puts key stored (As_second last)))
  second_put now _ _ _ (A_lead number key told version origin bytes h s last next) chains e =
      follows_keeps now number key told version origin bytes h last next chains e

  each : (now : PairState) (e : Effect) → May heard here own now e → Changes heard here own fit cell it.alive now e → IsKept now → IsKept (applied now e)
  each now (Reserves q number) may (inl on) k =
      let e = sym (same_some on.at) in
      subst (λ (c : Cell). IsKept (applied now (Reserves c number))) e (
      reserves now number (subst (λ (c : Cell). heard (body.Reserve number c)) (sym e) may.0)
      (subst (λ (c : Cell). progress (at cell_cmp now.pairs.last c) ≤ number + number) (sym e) may.2) k)
  each now (Puts key stored (As_operation op)) may (inl on) k = absurd (own_put_apart it follows key stored op may.0 (sym (same_some on.at)))
  each now (Puts key stored (As_second last)) may (inl on) k = second_put now key stored last may.0 may.1 (sym (same_some on.at))
  each now (Puts key stored (As_copy last)) may (inl on) k =
      absurd (copied_apart heard here own cell (no_other it) key stored last may.0 (sym (same_some on.at)))
  each now (Drops key) may (inl on) k = absurd (dropped_apart heard here own cell (no_other it) now key may.2 on.lives (sym (same_some on.at)))
  each now _ may (inl on) k = record { keeps = k.keeps; lacks = k.lacks }
  each now e may (inr kept) k = after now (applied now e) k kept.rest.chain kept.rest.followed

  pub second_keeps : (done : JobResult) → Did heard here own done → IsKept done.own
  second_keeps = cell_keeps heard here own fit cell it.alive IsKept each
      (record { keeps = moves.second_stays first own own cell refl refl ok; lacks = λ old. old })
