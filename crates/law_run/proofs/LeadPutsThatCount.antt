-- What a job leaves pending and finished at its server: the write of what is put where it counts, or is closed, has had its bytes.
use Rattle.law_run.proofs.Imports.{◌+◌, ◌∙◌, ◌≡◌, ◌≤◌, ◌⊎◌, A_copy, Alone_has, An_asked, An_own, AreCopies, As_it_is, As_told, Bool, Both, Both_have}
use Rattle.law_run.proofs.Imports.{By_operation, Cell, Chain, Did, Finished, Had_no_slot, IsFinishedFor, IsLinked, IsOpen, IsSame, IsSteady, Is_declined}
use Rattle.law_run.proofs.Imports.{Is_new, Is_retired, It_was, JobResult, LinkRow, NeverRetired, None, Nothing_new, Of_the_retired, Only, Option, PairOk}
use Rattle.law_run.proofs.Imports.{PairState, Pending, Plain, Some, Stage, Store, StoresSo, Table, Taken, Working, ap, at, authority, cell_cmp, cell_of}
use Rattle.law_run.proofs.Imports.{chain_apart, chain_in, chains_ahead, chosen_state, copied_apart, did_was, false, far, half, held_not_lead, in_both, inl}
use Rattle.law_run.proofs.Imports.{inr, is_alone_on, is_clients, is_lead, is_second, is_the_one, kept, lead_links, led_by, live, nat_cmp, not_ahead}
use Rattle.law_run.proofs.Imports.{own_steady, pair_of, put, refl, same_cell_or_apart, same_some, second_by, secondary_is_one, so_both, subst, sym, true}
use Rattle.law_run.proofs.Imports.{true_false, ℕ}
use Rattle.law_run.specs.WritesGoOn.{is_held, Onward}
use Rattle.law_run.specs.MachineTies.{HasCounted, Is_followed, Is_counted}
use Rattle.law_run.proofs.ServerFrames.{kept_finished, own_counted}
use Rattle.law_run.proofs.GroundGives.{Followed}
use Rattle.law_run.proofs.Machine.{held_onward}
use Rattle.law_run.proofs.OwnPlacesAreLatest.{IsSharing, first_ok, heard_shared, op_alone, op_shared, peer, place_of, shared_or_alone, shared_store}
use Rattle.law_run.proofs.OwnPlacesAreLatest.{store_there, op_lead}
use Rattle.law_run.proofs.EventsOfServerSteps.{ServerStep, ends_of, grounded}
use Rattle.petal_msg.specs.declared.body.Body.TheVariants as body
use Rattle.petal_msg.specs.declared.operation.Ending.TheVariants as ending

module _ (this : ServerStep) (k : Plain) where
  open ends_of this use {own, here, hears}

  abbrev pub Held : Pending → Type 0
  Held op = is_clients op.kind ≡ true → IsOpen (this.w.clients op.client) op.seq → is_held k op.client ≡ true

  abbrev pub Counted : Cell → Pending → Chain → Type 0
  Counted cell op chain = HasCounted this.setting this.w this.n cell op chain

  abbrev mine : Cell → Chain
  mine cell = chain_in own.store.chains cell

  -- what was put where it counts has had its bytes
  abbrev pub PutHeld : {new : Table Cell Chain} → StoresSo hears here own new → Type 0
  PutHeld (Nothing_new same) = Unit {0}
  PutHeld (An_own p) = is_clients p.op.kind ≡ true → authority (chosen_state this.setting this.w) p.op.cell ≡ Some this.n → is_held k p.op.client ≡ true
  PutHeld (An_asked a) =
      (f : Followed (grounded this) this.along.steady this.n a.number a.key a.bytes)
      → is_clients f.putting.op.kind ≡ true → is_held k f.putting.op.client ≡ true
  PutHeld (A_copy c) = Unit {0}
  PutHeld (Of_the_retired d) = Unit {0}

  module _ (runs : (this.w.servers this.n).life.running ≡ true) (onward : Onward this.m k) (never : NeverRetired here own) where
    -- an operation that was pending
    pub was_held : (cell : Cell) (op : Pending) → at cell_cmp own.pairs.pending cell ≡ Some op → Counted cell op (mine cell) → Held op
    was_held cell op is counted clients still =
        held_onward this.m k op.client onward (this.follow.pending this.n cell op runs is clients
        (subst (Counted cell op) (sym (own_counted this k runs cell op is)) counted) still)

    -- ### In Both

    abbrev IsFirst : Pending → Type 0
    IsFirst op = (f : LinkRow) × IsSharing (grounded this) this.n op.cell f
        × (f.primary ≡ this.n)

    first_of : (op : Pending) → at cell_cmp own.pairs.pending op.cell ≡ Some op → in_both here.state op.cell ≡ true → IsFirst op
    first_of op is both =
        let f = op_shared (grounded this) this.n op.cell op runs is both in
        (f.row, f.shares, f.first)

    -- what the second server has in memory of the place
    abbrev second_of : (op : Pending) → IsFirst op → PairState
    second_of op f = peer (grounded this) this.n f.0.secondary op.cell f.0

    -- the second server's store, by the entries at the place
    abbrev two : (op : Pending) → IsFirst op → Chain
    two op f = chain_in (store_there (grounded this) this.n f.0.secondary).chains op.cell

    copies_at : (op : Pending) → at cell_cmp own.pairs.pending op.cell ≡ Some op → (f : IsFirst op) → (put : Bool) → op.stage.put ≡ put
        → Working (mine op.cell) (two op f) (far (pair_of own (second_of op f) op.cell)) op put
    copies_at op is f put e =
        let ok = first_ok (grounded this) this.n op.cell f.0 f.1 f.2 in
        of_half (this.ground.good.visits f.0.secondary (place_of (grounded this) this.n
        f.0) op.cell) ok put e
      where
        store : Store
        store = store_there (grounded this) this.n f.0.secondary

        of_half : (visit : Option PairState) → PairOk (pair_of own (half visit store) op.cell) → (put : Bool)
            → op.stage.put ≡ put
            → Working (mine op.cell) (two op f) (far (pair_of own (half visit store) op.cell)) op put
        of_half None ok put e =
            subst (Working (mine op.cell) (two op f) (far (pair_of own (half None store) op.cell)) op) e
            (subst (AreCopies (mine op.cell) (two op f) (far (pair_of own (half None store) op.cell))) is ok.copies)
        of_half (Some other) ok put e =
            subst (Working (mine op.cell) (two op f) (far (pair_of own (half (Some other) store) op.cell)) op) e
            (subst (AreCopies (mine op.cell) (two op f) (far (pair_of own (half (Some other) store) op.cell))) is ok.copies)

    -- which counts, while the link is in Both by what is chosen
    two_counts : (op : Pending) (f : IsFirst op) → in_both (chosen_state this.setting this.w) op.cell ≡ true
        → two op f ≡ chain_in (kept this.setting this.w f.0.secondary).chains op.cell
    two_counts op f shared =
        ap (λ (s : Store). chain_in s.chains op.cell)
        (shared_store (grounded this) this.n op.cell f.0 f.1 shared f.0.secondary
        (secondary_is_one f.0 f.0.secondary refl))

    -- how far the second server is, by a letter of its own
    past_at : (op : Pending) → hears (body.Replicated op.op op.cell) → (f : IsFirst op)
        → op.op + op.op + 1 ≤ far (pair_of own (second_of op f) op.cell)
    past_at op h f =
        heard_shared (grounded this) this.n op.cell f.0 f.1
        (body.Replicated op.op op.cell) h refl

    paired_held : (op : Pending) → hears (body.Replicated op.op op.cell) → at cell_cmp own.pairs.pending op.cell ≡ Some op
        → in_both here.state op.cell ≡ true → op.stage.put ≡ true → Held op
    paired_held op h is both put =
        let f = first_of op is both in
        elim (shared_or_alone (grounded this) this.n op.cell f.0 f.1) [
          | inr counts ↦ was_held op.cell op is (Is_counted put counts)
          | inl shared ↦
              let ahead = copies_at op is f true put in
              was_held op.cell op is (Is_followed f.0 f.1.linked f.1.both shared put (ahead.even (past_at op h f) ∙ two_counts op f shared))
        ]

    -- an operation that is put now is ahead of the second server's copy
    put_now : (op : Pending) → at cell_cmp own.pairs.pending op.cell ≡ Some op → in_both here.state op.cell ≡ true → op.stage.put ≡ false
        → (row : LinkRow) → IsLinked this.setting (this.w.servers this.n).log.applied op.cell row
        → in_both (chosen_state this.setting this.w) op.cell ≡ true
        → mine op.cell ≡ chain_in (kept this.setting this.w row.secondary).chains op.cell
    put_now op is both put row linked shared =
        let f = first_of op is both in
        (copies_at op is f false put).even ∙ two_counts op f shared
        ∙ ap (λ (r : LinkRow). chain_in (kept this.setting this.w r.secondary).chains op.cell) (same_some (sym f.1.linked ∙ linked))

    -- a new operation
    fresh_held : (cell : Cell) (op : Pending) (chain : Chain) → op.stage.put ≡ false → Counted cell op chain → Held op
    fresh_held cell op chain unput (Is_counted e counts) clients = true_false e unput
    fresh_held cell op chain unput (Is_followed row linked both shared e same) clients = true_false e unput

    -- ### What a job stores

    abbrev Leads : Cell → Type 0
    Leads cell = is_lead here.state this.n cell ≡ true

    abbrev steady_here : IsSteady here.state
    steady_here = own_steady this.setting this.w this.along.firm this.n

    keyed : (cell : Cell) (op : Pending) → at cell_cmp own.pairs.pending cell ≡ Some op → cell_of op.key ≡ cell
    keyed cell op is = ((this.ground.ready.rests.pending this.n).staged cell op is).keyed

    -- a cell that the server leads, it is not the second of
    led_alone : (cell : Cell) → Leads cell → is_second here.state this.n cell ≡ true → ⊥
    led_alone cell lead second =
        let b = second_by here.state steady_here cell this.n (is_the_one _ this.n second) in
        elim (led_by here.state steady_here cell this.n (is_the_one _ this.n lead)) [
          | inl f ↦ b.0.linked.apart (ap (λ (r : LinkRow). r.primary) (same_some (sym b.0.is ∙ f.0.is)) ∙ f.1 ∙ sym b.1)
          | inr held ↦ (let f : Only this.n held.whole ≡ Both = sym held.so
              ∙ ap (λ (r : LinkRow). r.state) (same_some (sym held.is ∙ b.0.is)) ∙ b.0.so in absurd cc)
        ]

    -- the chain of a cell with an operation pending stays, or the operation, which had not put, has put
    chain_of : (new : Table Cell Chain) (s : StoresSo hears here own new) → PutHeld s → (was : Pending) → at cell_cmp own.pairs.pending was.cell ≡ Some was
        → Leads was.cell → (chain_in new was.cell ≡ mine was.cell) ⊎ ((was.stage.put ≡ false)
        × (is_clients was.kind ≡ true → authority (chosen_state this.setting this.w) was.cell ≡ Some this.n → is_held k was.client ≡ true))
    chain_of new (Nothing_new same) held was is lead = inl (ap (λ c. chain_in c was.cell) same)
    chain_of new (An_own p) held was is lead = elim (same_cell_or_apart was.cell p.op.cell) [
      | inl e ↦
          let same : p.op ≡ was = same_some (sym p.is ∙ ap (at cell_cmp own.pairs.pending) (sym e) ∙ is) in
          inr (subst (λ (o : Pending). (o.stage.put ≡ false)
          × (is_clients o.kind ≡ true → authority (chosen_state this.setting this.w) o.cell ≡ Some this.n → is_held k o.client ≡ true)) same (p.fresh, held))
      | inr ne ↦ inl (ap (λ c. chain_in c was.cell) p.chains
          ∙ chain_apart own.store.chains (cell_of p.op.key) _ was.cell (λ e. ne (e ∙ keyed p.op.cell p.op p.is)))
    ]
    chain_of new (An_asked a) held was is lead = inl (ap (λ c. chain_in c was.cell) a.chains
        ∙ chain_apart own.store.chains (cell_of a.key) _ was.cell
        (λ e. led_alone was.cell lead (subst (λ (c : Cell). is_second here.state this.n c ≡ true) (sym e) a.seconds)))
    chain_of new (A_copy c) held was is lead = inl (copied_apart hears own c.cell new c.how was.cell
        (λ e. held_not_lead here steady_here c.cell c.holder c.held (subst (λ (q : Cell). Leads q) e lead)))
    chain_of new (Of_the_retired d) held was is lead =
        inl (d.others was.cell (λ e. true_false (lead_links here.state this.n was.cell lead).0 (ap (live here.state) e ∙ d.off)))

    -- ### What is pending

    -- an operation that was pending, in the stage that it is left in
    stage_held : (was op : Pending) (is : at cell_cmp own.pairs.pending was.cell ≡ Some was) (new : Table Cell Chain) (s : StoresSo hears here own new)
        → PutHeld s → (op.stage.put ≡ true → (was.stage.put ≡ true) ⊎ (new ≡ chains_ahead own was.cell was))
        → Counted was.cell op (chain_in new was.cell) → Held was
    stage_held was op is new s held how = by
      where
        chain : (chain_in new was.cell ≡ mine was.cell) ⊎ ((was.stage.put ≡ false)
            × (is_clients was.kind ≡ true → authority (chosen_state this.setting this.w) was.cell ≡ Some this.n → is_held k was.client ≡ true))
        chain = chain_of new s held was is (op_lead (grounded this) this.n was.cell was runs is)

        unmoved : {B : Type 0} → new ≡ chains_ahead own was.cell was → chain_in new was.cell ≡ mine was.cell → B
        unmoved ahead stays = absurd (not_ahead own was.cell was (keyed was.cell was is) (ap (λ c. chain_in c was.cell) (sym ahead) ∙ stays))

        by : Counted was.cell op (chain_in new was.cell) → Held was
        by (Is_counted put counts) = elim (how put) [
          | inl old ↦ was_held was.cell was is (Is_counted old counts)
          | inr ahead ↦ elim chain [ inl stays ↦ unmoved ahead stays | inr made ↦ λ clients still. made.1 clients counts ]
        ]
        by (Is_followed row linked both shared put same) = elim (how put) [
          | inl old ↦ elim chain [
            | inl stays ↦ was_held was.cell was is (Is_followed row linked both shared old (sym stays ∙ same))
            | inr made ↦ true_false old made.0
          ]
          | inr ahead ↦ elim chain [
            | inl stays ↦ unmoved ahead stays
            | inr made ↦ unmoved ahead (same ∙ sym (put_now was is (so_both here.state was.cell row linked both) made.0 row linked shared))
          ]
        ]

    same_held : (was op : Pending) → IsSame was op → Held was → Held op
    same_held was op same held clients still =
        subst (λ c. is_held k c ≡ true) same.client (held (ap is_clients same.kind ∙ clients)
        (subst (IsOpen (this.w.clients was.client)) (sym same.seq) (subst (λ c. IsOpen (this.w.clients c) op.seq) (sym same.client) still)))

    pub pending_held : (done : JobResult) → Did hears here own done → (s : StoresSo hears here own done.own.store.chains) → PutHeld s → (cell : Cell)
        (op : Pending) → at cell_cmp done.own.pairs.pending cell ≡ Some op → Counted cell op (chain_in done.own.store.chains cell) → Held op
    pending_held done did s held cell op is = elim (did_was hears here own keyed done did cell op is) [
      | Is_new none number fresh ↦ fresh_held cell op (chain_in done.own.store.chains cell) fresh
      | It_was was there same how ↦ (
          let new = done.own.store.chains in
          subst (λ (q : Cell). at cell_cmp own.pairs.pending q ≡ Some was
          → (op.stage.put ≡ true → (was.stage.put ≡ true) ⊎ (new ≡ chains_ahead own q was)) → Counted q op (chain_in new q) → Held op)
          ((this.ground.ready.rests.pending this.n).staged cell was there).own
          (λ at_own how_put counted. same_held was op same (stage_held was op at_own new s held how_put counted)) there how)
    ]

    -- ### What is finished

    pub old_finished : (c : ℕ) (last : Finished) → at nat_cmp own.pairs.finished c ≡ Some last → last.ending ≡ ending.Written
        → IsOpen (this.w.clients c) last.seq
        → is_held k c ≡ true
    old_finished = kept_finished this k onward runs own refl

    full_unwritten : {B : Type 0} → ending.Full ≡ ending.Written → B
    full_unwritten e = cc

    -- an operation that is closed has had its bytes
    closed_alone : (now : PairState) (op : Pending) → Taken own now op → is_alone_on here.state this.n op.cell ≡ true → op.stage.put ≡ true → Held op
    closed_alone _ _ (As_it_is op is) alone put = was_held op.cell op is (Is_counted put (op_alone (grounded this) this.n op.cell op runs is alone))
    closed_alone _ _ (As_told op reserved paired is) alone put =
        was_held op.cell op is (Is_counted put (op_alone (grounded this) this.n op.cell op runs is alone))

    -- a request is finished, for want of a slot, or as written
    pub finish_held : (t : Table Cell Pending) (client : ℕ) (last : Finished) → IsFinishedFor hears here own t client last → last.ending ≡ ending.Written
        → IsOpen (this.w.clients client) last.seq → is_held k client ≡ true
    finish_held t _ _ (Had_no_slot want new full gone) e = full_unwritten e
    finish_held t _ _ (By_operation _ _ (Is_declined op h is reserved put) write gone) e = full_unwritten e
    finish_held t _ _ (By_operation _ _ (Both_have op h is both stage) write gone) e =
        paired_held op h is both (ap (λ (s : Stage). s.put) stage) (ap is_clients write)
    finish_held t _ _ (By_operation _ _ (Alone_has now op taken alone stale put free) write gone) e =
        closed_alone now op taken alone put (ap is_clients write)
    finish_held t _ _ (By_operation _ _ (Is_retired now op taken off) write gone) e = absurd (never now op taken off)
