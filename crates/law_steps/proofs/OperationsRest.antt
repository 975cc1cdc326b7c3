-- After each job the pending operations rest: in one of the three stages, where the link is in Both.
use Rattle.law_steps.proofs.Imports.{◌+◌, ◌∙◌, ◌≡◌, ◌≢◌, ◌⊎◌, Action, Body, Bool, Busy, Cell, Full, JobContext, JobResult, PairState, Pairs, Pending, Some}
use Rattle.law_steps.proofs.Imports.{Stage, Stale, State, Table, Written, acts, alone_not_both, ap, at, by_test, cell_apart, cell_cmp, cell_cmp_total}
use Rattle.law_steps.proofs.Imports.{cell_gone, cell_gone_apart, cell_of, cell_same, chain_in, false, fill_operation, gives_back, has_proposed, in_both, inl}
use Rattle.law_steps.proofs.Imports.{inr, is_alone_on, is_lead, live, next_stage, none_some, operation, put, refl, same_or_apart, same_some, subst, sym, true}
use Rattle.law_steps.proofs.Imports.{true_false, version_of, with_mark_at, with_paired, with_reserved, without, without_pending, ℕ}
use Rattle.law_steps.specs.Operations.{A_fill, A_write, IsOpenedFor, IsStaged, AtRest, Waiting, Putting, Copying}
use Rattle.law_steps.specs.DidLead.{DidLead, Opens, Marks, Puts, Gives_up, Closes, Opens_alone, Marks_alone, Puts_alone, Unmarks_alone, Closes_alone}
use Rattle.law_steps.specs.DidLead.{Opens_fill, Opens_fill_alone, Goes_on_retired, Taken, As_it_is}
use Rattle.law_steps.specs.Did.{Did, Ignores, Refuses, By_read, By_lead, By_second, By_holder, By_other, By_filler, By_sweep}
use Rattle.law_steps.specs.Ready.{IsReady, IsRising}
use Rattle.law_steps.proofs.CopyFrames.{of_holder, of_other}
use Rattle.law_steps.proofs.WhoLeads.{lead_links, live_stage}
use Rattle.law_steps.proofs.Subjects.{of_ending, of_filler, of_read, of_second, of_sweep}
use Rattle.law_steps.proofs.TablesOfPuts.{put_rises, without_rises}
use Rattle.law_steps.proofs.TakenUpAlone.{taking}
use Rattle.petal_msg.specs.declared.operation.Action.TheVariants as action

pub same_cell_or_apart : (a b : Cell) → (a ≡ b) ⊎ (a ≢ b)
same_cell_or_apart a b = elim (same_or_apart a.map b.map) [
  | inl e ↦ elim (same_or_apart a.block b.block) [
    | inl f ↦ inl (λ i. record { map = e i; block = f i })
    | inr ne ↦ inr
        (λ is. ne (ap (λ (c : Cell). c.block) is))
  ]
  | inr ne ↦ inr (λ is. ne (ap (λ (c : Cell). c.map) is))
]

-- what stands at one cell is another
pub changed_ready : (state : State) (me : ℕ) (held : Cell → Bool) (t u : Table Cell Pending) (cell : Cell) → IsReady state me held t → IsRising cell_cmp u
    → ((q : Cell) → q ≢ cell → at cell_cmp u q ≡ at cell_cmp t q) → ((o : Pending) → at cell_cmp u cell ≡ Some o → IsStaged state me held cell o)
    → IsReady state me held u
changed_ready state me held t u cell ready rises others here = record {
  staged = λ c o is. elim (same_cell_or_apart c cell) [
    | inl e ↦ subst (λ (q : Cell). IsStaged state me held q o) (sym e) (here o (subst (λ (q : Cell). at cell_cmp u q ≡ Some o) e is))
    | inr ne ↦ ready.staged c o (sym (others c ne) ∙ is)
  ];
  rising = rises;
}

-- what stands at other cells after two puts at one
pub put_put : (t : Table Cell Pending) (cell : Cell) (one two : Pending) (q : Cell) → q ≢ cell
    → at cell_cmp (put cell_cmp (put cell_cmp t cell one) cell two) q ≡ at cell_cmp t q
put_put t cell one two q ne = cell_apart (put cell_cmp t cell one) cell two q ne ∙ cell_apart t cell one q ne

-- an operation is opened for the same as before
opened_same : (op new : Pending) → new.kind ≡ op.kind → new.client ≡ op.client → new.seq ≡ op.seq → IsOpenedFor op → IsOpenedFor new
opened_same op new kind client seq (A_write is) = A_write (kind ∙ is)
opened_same op new kind client seq (A_fill is no_client no_seq) = A_fill (kind ∙ is) (client ∙ no_client) (seq ∙ no_seq)

module _ (heard : Body → Type 0) (here : JobContext) (own : PairState)
    (ready : IsReady here.state here.me (has_proposed here.state own) own.pairs.pending) where
  abbrev t : Table Cell Pending
  t = own.pairs.pending

  abbrev R : Table Cell Pending → Type 0
  R u = IsReady here.state here.me (has_proposed here.state own) u

  restaged : (op new : Pending) → at cell_cmp t op.cell ≡ Some op → new.cell ≡ op.cell → new.kind ≡ op.kind → new.client ≡ op.client → new.seq ≡ op.seq
      → new.key ≡ op.key → AtRest new.stage → IsStaged here.state here.me (has_proposed here.state own) op.cell new
  restaged op new is cell kind client seq key stage =
      let s = ready.staged op.cell op is in
      record {
        own = cell;
        opened = opened_same op new kind client seq s.opened;
        keyed = ap cell_of key ∙ s.keyed;
        born = s.born;
        leads = s.leads;
        stage = λ on both. stage;
        unheld = s.unheld;
      }

  -- the operation rests in its next stage, and nothing else is changed
  put_ready : (op new : Pending) → IsStaged here.state here.me (has_proposed here.state own) op.cell new → R (put cell_cmp t op.cell new)
  put_ready op new staged =
      changed_ready here.state here.me (has_proposed here.state own) t (put cell_cmp t op.cell new) op.cell ready
      (put_rises cell_cmp_total t op.cell new ready.rising)
      (λ q ne. cell_apart t op.cell new q ne)
      (λ o there. subst (IsStaged here.state here.me (has_proposed here.state own) op.cell) (same_some (sym (cell_same t op.cell new) ∙ there)) staged)

  put_twice_ready : (op one new : Pending) → IsStaged here.state here.me (has_proposed here.state own) op.cell new
      → R (put cell_cmp (put cell_cmp t op.cell one) op.cell new)
  put_twice_ready op one new staged =
      let u = put cell_cmp t op.cell one in
      changed_ready here.state here.me (has_proposed here.state own) t (put cell_cmp u op.cell new) op.cell ready
      (put_rises cell_cmp_total u op.cell new (put_rises cell_cmp_total t op.cell one ready.rising))
      (λ q ne. put_put t op.cell one new q ne)
      (λ o there. subst (IsStaged here.state here.me (has_proposed here.state own) op.cell) (same_some (sym (cell_same u op.cell new) ∙ there)) staged)

  -- one that is opened is of a live cell that the server leads
  opened_staged : (op : Pending) → IsOpenedFor op → cell_of op.key ≡ op.cell → is_lead here.state here.me op.cell ≡ true
      → has_proposed here.state own op.cell ≡ false → (in_both here.state op.cell ≡ true → AtRest op.stage)
      → IsStaged here.state here.me (has_proposed here.state own) op.cell op
  opened_staged op opened keyed lead unheld stage =
      let led = lead_links here.state here.me op.cell lead in
      record {
        own = refl;
        opened = opened;
        keyed = keyed;
        born = (live_stage here.state op.cell led.0).0;
        leads = λ on. led.1;
        unheld = λ on. unheld;
        stage = λ on both. stage both;
      }

  -- ### At a holder that is alone

  -- what is so of an operation that is taken up, in whatever stage it goes on
  taken_opened : (now : PairState) (op new : Pending) → Taken own now op → new.kind ≡ op.kind → new.client ≡ op.client → new.seq ≡ op.seq → IsOpenedFor new
  taken_opened now op new taken kind client seq =
      let k = taking own now op taken in
      opened_same k.old new (kind ∙ ap (λ (o : Pending). o.kind) k.is) (client ∙ ap (λ (o : Pending). o.client) k.is) (seq ∙ ap (λ (o : Pending). o.seq) k.is)
      (ready.staged op.cell k.old k.was).opened

  taken_keyed : (now : PairState) (op new : Pending) → Taken own now op → new.key ≡ op.key → cell_of new.key ≡ op.cell
  taken_keyed now op new taken key =
      let k = taking own now op taken in
      ap cell_of (key ∙ ap (λ (o : Pending). o.key) k.is) ∙ (ready.staged op.cell k.old k.was).keyed

  taken_staged : (now : PairState) (op new : Pending) → Taken own now op → is_alone_on here.state here.me op.cell ≡ true → new.cell ≡ op.cell
      → new.kind ≡ op.kind → new.client ≡ op.client → new.seq ≡ op.seq → new.key ≡ op.key
      → IsStaged here.state here.me (has_proposed here.state own) op.cell new
  taken_staged now op new taken alone cell kind client seq key =
      let k = taking own now op taken in
      let s = ready.staged op.cell k.old k.was in
      record {
        own = cell;
        opened = taken_opened now op new taken kind client seq;
        keyed = taken_keyed now op new taken key;
        born = s.born;
        leads = s.leads;
        unheld = s.unheld;
        stage = λ on both. true_false both (alone_not_both here.state here.me op.cell alone);
      }

  -- an operation that was taken up is put again
  taken_put : (now : PairState) (op new : Pending) → Taken own now op → IsStaged here.state here.me (has_proposed here.state own) op.cell new
      → R (put cell_cmp now.pairs.pending op.cell new)
  taken_put now op new taken staged =
      let k = taking own now op taken in
      let u = now.pairs.pending in
      changed_ready here.state here.me (has_proposed here.state own) t (put cell_cmp u op.cell new) op.cell ready
      (put_rises cell_cmp_total u op.cell new (k.rises ready.rising))
      (λ q ne. cell_apart u op.cell new q ne ∙ k.others q ne)
      (λ o there. subst (IsStaged here.state here.me (has_proposed here.state own) op.cell) (same_some (sym (cell_same u op.cell new) ∙ there)) staged)

  taken_ready : (now : PairState) (op new : Pending) → Taken own now op → is_alone_on here.state here.me op.cell ≡ true → new.cell ≡ op.cell
      → new.kind ≡ op.kind → new.client ≡ op.client → new.seq ≡ op.seq → new.key ≡ op.key → R (put cell_cmp now.pairs.pending op.cell new)
  taken_ready now op new taken alone cell kind client seq key =
      taken_put now op new taken (taken_staged now op new taken alone cell kind client seq key)

  taken_gone : (now : PairState) (op : Pending) → Taken own now op → R (without cell_cmp now.pairs.pending op.cell)
  taken_gone now op taken =
      let k = taking own now op taken in
      let u = now.pairs.pending in
      changed_ready here.state here.me (has_proposed here.state own) t (without cell_cmp u op.cell) op.cell ready
      (without_rises cell_cmp u op.cell (k.rises ready.rising))
      (λ q ne. cell_gone_apart u op.cell q ne ∙ k.others q ne) (λ o there. none_some (cell_gone u op.cell) there)

  -- ### On a cell that is no longer live

  retired_staged : (now : PairState) (op new : Pending) → Taken own now op → live here.state op.cell ≡ false → new.cell ≡ op.cell
      → new.kind ≡ op.kind → new.client ≡ op.client → new.seq ≡ op.seq → new.key ≡ op.key
      → IsStaged here.state here.me (has_proposed here.state own) op.cell new
  retired_staged now op new taken off cell kind client seq key =
      let k = taking own now op taken in
      let s = ready.staged op.cell k.old k.was in
      record {
        own = cell;
        opened = taken_opened now op new taken kind client seq;
        keyed = taken_keyed now op new taken key;
        born = s.born;
        leads = λ on. true_false on off;
        stage = λ on both. true_false on off;
        unheld = λ on. true_false on off;
      }

  -- it stands as it was taken up
  retired_stays : (now : PairState) (op : Pending) → Taken own now op → live here.state op.cell ≡ false → R now.pairs.pending
  retired_stays now op taken off =
      let k = taking own now op taken in
      changed_ready here.state here.me (has_proposed here.state own) t now.pairs.pending op.cell ready (k.rises ready.rising) k.others
      (λ o there. subst (IsStaged here.state here.me (has_proposed here.state own) op.cell) (same_some (sym k.there ∙ there))
      (retired_staged now op op taken off refl refl refl refl refl))

  retired_ready : (now : PairState) (op : Pending) → Taken own now op → live here.state op.cell ≡ false → (next : Action)
      → R (acts here now op next).own.pairs.pending
  retired_ready now op taken off action.Reserve = retired_stays now op taken off
  retired_ready now op taken off (action.Mark which) =
      taken_put now op (with_mark_at op which true) taken (retired_staged now op (with_mark_at op which true) taken off refl refl refl refl refl)
  retired_ready now op taken off action.Put =
      let new : Pending = record op { version = version_of (chain_in now.store.chains op.cell) + 1; stage = record op.stage { put = true } } in
      taken_put now op new taken (retired_staged now op new taken off refl refl refl refl refl)
  retired_ready now op taken off action.Replicate = retired_stays now op taken off
  retired_ready now op taken off (action.Unmark which) =
      taken_put now op (with_mark_at op which false) taken (retired_staged now op (with_mark_at op which false) taken off refl refl refl refl refl)
  retired_ready now op taken off action.Answer =
      subst R (sym (of_ending here (without_pending now op.cell) op op.kind Written).pending) (taken_gone now op taken)
  retired_ready now op taken off action.Drop =
      by_test (λ (o : PairState). R o.pairs.pending) op.stage.put (without_pending now op.cell) (gives_back (without_pending now op.cell))
      (λ put. taken_gone now op taken) (λ fresh. taken_gone now op taken)

  lead_ready : (done : JobResult) → DidLead heard here own done → R done.own.pairs.pending
  lead_ready _ (Gives_up op h is reserved put) =
      subst R (sym (of_ending here (gives_back (without_pending own op.cell)) op op.kind Full).pending) (taken_gone own op (As_it_is op is))
  lead_ready _ (Opens want new both) =
      let op = operation here own.pairs.next want in
      put_ready op op (opened_staged op (A_write refl) refl new.lead new.unheld (λ both. Waiting refl))
  lead_ready _ (Marks op h is both stage) =
      put_twice_ready op (with_reserved op) _ (restaged op (with_mark_at (with_reserved op) Busy true) is refl refl refl refl refl
      (Putting (ap (λ (x : Stage). (record x { reserved = true; busy = true })) stage)))
  lead_ready _ (Puts op is both stage) =
      let two : Pending = record op { version = version_of (chain_in own.store.chains op.cell) + 1; stage = record op.stage { put = true } } in
      put_ready op two (restaged op two is refl refl refl refl refl (Copying (ap (λ (x : Stage). (record x { put = true })) stage)))
  lead_ready _ (Closes op h is both stage) = subst R (sym (of_ending here (without_pending own op.cell) op op.kind Written).pending)
      (taken_gone own op (As_it_is op is))
  lead_ready _ (Opens_alone want new alone) =
      let op = operation here own.pairs.next want in
      put_twice_ready op op (with_mark_at op Stale true) (opened_staged (with_mark_at op Stale true) (A_write refl) refl new.lead new.unheld
      (λ both. true_false both (alone_not_both here.state here.me want.cell alone)))
  lead_ready _ (Marks_alone now op taken alone fresh) = taken_ready now op (with_mark_at op Stale true) taken alone refl refl refl refl refl
  lead_ready _ (Puts_alone now op taken alone stale put) =
      taken_ready now op (record op { version = version_of (chain_in now.store.chains op.cell) + 1; stage = record op.stage { put = true } })
      taken alone refl refl refl refl refl
  lead_ready _ (Unmarks_alone now op taken alone stale put busy) = taken_ready now op (with_mark_at op Busy false) taken alone refl refl refl refl refl
  lead_ready _ (Closes_alone now op taken alone stale put free) =
      subst R (sym (of_ending here (without_pending now op.cell) op op.kind Written).pending) (taken_gone now op taken)
  lead_ready _ (Opens_fill moving new room both) =
      let op = fill_operation here own.pairs.next moving in
      put_ready op op (opened_staged op (A_fill refl refl refl) refl new.lead new.unheld (λ both. Waiting refl))
  lead_ready _ (Opens_fill_alone moving new room alone) =
      let op = fill_operation here own.pairs.next moving in
      put_twice_ready op op (with_mark_at op Stale true) (opened_staged (with_mark_at op Stale true) (A_fill refl refl refl) refl new.lead new.unheld
      (λ both. true_false both (alone_not_both here.state here.me op.cell alone)))
  lead_ready _ (Goes_on_retired now op taken off) = retired_ready now op taken off (next_stage here.state here.me op)
  lead_ready _ _ = ready

  still : (t : Table Cell Pending) → t ≡ own.pairs.pending → R t
  still t same = subst R (sym same) ready

  pub did_ready : (done : JobResult) → Did heard here own done → R done.own.pairs.pending
  did_ready _ Ignores = ready
  did_ready _ (Refuses to said is busy held) = ready
  did_ready _ (By_read done d) = still _ (ap (λ (o : PairState). o.pairs.pending) (of_read heard here own done d).same)
  did_ready _ (By_lead done d) = lead_ready done d
  did_ready _ (By_second done d) = still _ (of_second heard here own done d).pending
  did_ready _ (By_holder done d) = still _ (of_holder heard here own done d).pending
  did_ready _ (By_other done d) = still _ (of_other heard here own done d).pending
  did_ready _ (By_filler done d) = still _ (ap (λ (p : Pairs). p.pending) (of_filler heard here own done d).pairs)
  did_ready _ (By_sweep done d) = still _ (ap (λ (p : Pairs). p.pending) (of_sweep heard here own done d).pairs)
