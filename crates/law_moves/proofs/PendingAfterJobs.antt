-- What is pending after a job was so before: with the same number, and put only if it was, or the job put it; or it is new, under the next number,
-- and not put.
use Rattle.law_moves.proofs.Imports.{◌∙◌, ◌≡◌, ◌⊎◌, An_operation, As_operation, Body, Cell, Chain, Closes, Did, Drops, Effect, For_a_fill, For_a_write}
use Rattle.law_moves.proofs.Imports.{Goes_on, IsOpening, IsPutFor, IsSame, IsSetFor, JobContext, JobResult, Key, May, None, Opens, PairState, Pending, Puts}
use Rattle.law_moves.proofs.Imports.{Sets, Some, Stored, Table, ap, applied, at, cell_cmp, cell_of, chain_in, chains_ahead, chains_with, entry_ahead, false}
use Rattle.law_moves.proofs.Imports.{inl, inr, job_keeps, put, put_with, refl, restaged, same_itself, same_on, stood, sym, true}
use Rattle.law_moves.proofs.JobsChangeOneChain.{not_ahead}

-- the operation was pending, or is new
pub data WasSo (heard : Body → Type 0) (here : JobContext) (own : PairState) (chains : Table Cell Chain) (q : Cell) (op : Pending) : Type 0 where
  It_was : (o : Pending) → at cell_cmp own.pairs.pending q ≡ Some o → IsSame o op
      → (op.stage.put ≡ true → (o.stage.put ≡ true) ⊎ (chains ≡ chains_ahead own q o)) → WasSo heard here own chains q op
  Is_new : at cell_cmp own.pairs.pending q ≡ None → op.op ≡ own.pairs.next → op.stage.put ≡ false → WasSo heard here own chains q op

module _ (heard : Body → Type 0) (here : JobContext) (own : PairState)
    (keyed : (cell : Cell) (op : Pending) → at cell_cmp own.pairs.pending cell ≡ Some op → cell_of op.key ≡ cell) where
  abbrev W : Table Cell Chain → Cell → Pending → Type 0
  W chains q op = WasSo heard here own chains q op

  abbrev AreSo : PairState → Type 0
  AreSo now = (q : Cell) (op : Pending) → at cell_cmp now.pairs.pending q ≡ Some op → W now.store.chains q op

  stands : (chains : Table Cell Chain) (q : Cell) (op : Pending) → at cell_cmp own.pairs.pending q ≡ Some op → W chains q op
  stands chains q op is = It_was op is (same_itself op) (λ put. inl put)

  -- one that is set
  set_so : (now : PairState) (next : Pending) → IsSetFor heard here own now next → AreSo now → (q : Cell) → q ≡ next.cell → W now.store.chains q next
  set_so now _ (Goes_on op stage is put reserved busy stale) so q e = elim (so q op (ap (at cell_cmp now.pairs.pending) e ∙ is)) [
    | Is_new none number fresh ↦ Is_new none number (put ∙ fresh)
    | It_was o was same how ↦ It_was o was (same_on o op _ same (restaged op op.version stage)) (λ done. how (sym put ∙ done))
  ]

  opened_so : (chains : Table Cell Chain) (op : Pending) → IsOpening heard here own op → (q : Cell) → q ≡ op.cell → W chains q op
  opened_so chains _ (For_a_write want new) q e = Is_new (ap (at cell_cmp own.pairs.pending) e ∙ new.none) refl refl
  opened_so chains _ (For_a_fill moving new) q e = Is_new (ap (at cell_cmp own.pairs.pending) e ∙ new.none) refl refl

  noted_so : (chains : Table Cell Chain) → chains ≡ own.store.chains → (key : Key) (stored : Stored) (op : Pending)
      → IsPutFor heard here own key stored (As_operation op) → (q : Cell) → q ≡ op.cell → W (chains_with chains key stored) q op
  noted_so chains same _ _ _ (An_operation op reserved paired is fresh why) q e =
      It_was op (ap (at cell_cmp own.pairs.pending) e ∙ is) (restaged op _ _)
      (λ done. inr (ap (λ t. chains_with t op.key (entry_ahead own op.cell op)) same ∙ ap (λ c. chains_ahead own c op) (sym e)))

  put_so : (chains : Table Cell Chain) (key : Key) (stored : Stored) → chains ≡ own.store.chains → (q : Cell) (op : Pending) → W chains q op
      → W (chains_with chains key stored) q op
  put_so chains key stored same q op (Is_new none number fresh) = Is_new none number fresh
  put_so chains key stored same q op (It_was o was as_it how) =
      It_was o was as_it (λ done.
      elim (how done) [ inl put ↦ inl put | inr ahead ↦ absurd (not_ahead own q o (keyed q o was) (ap (λ c. chain_in c q) (sym ahead ∙ same))) ])

  each : (now : PairState) (e : Effect) → May heard here own now e → AreSo now → AreSo (applied now e)
  each now (Opens next) may so q op there =
      put_with (W now.store.chains q) now.pairs.pending next.cell q next (opened_so now.store.chains next may.0 q) (so q) op there
  each now (Sets next) may so q op there = put_with (W now.store.chains q) now.pairs.pending next.cell q next (set_so now next may.0 so q) (so q) op there
  each now (Closes cell) may so q op there = so q op (stood now.pairs.pending cell q op there)
  each now (Puts key stored (As_operation next)) may so q op there =
      put_with (W (chains_with now.store.chains key stored) q) now.pairs.pending next.cell q next (noted_so now.store.chains may.1 key stored next may.0 q)
      (λ old is. put_so now.store.chains key stored may.1 q old (so q old is)) op there
  each now (Puts key stored _) may so q op there = put_so now.store.chains key stored may.1 q op (so q op there)
  each now (Drops key) may so q op there = stands _ q op (ap (λ t. at cell_cmp t q) (sym may.1) ∙ there)
  each now _ may so q op there = so q op there

  pub did_was : (done : JobResult) → Did heard here own done → AreSo done.own
  did_was = job_keeps heard here own AreSo each (stands own.store.chains)
