-- Each kind of job shows what it has to, where the write of what it has put where it counts has had its bytes.
use Rattle.law_run.proofs.Imports.{◌∙◌, ◌≡◌, ◌≢◌, ◌⊎◌, A_copy, AliveIn, An_asked, An_own, Cell, Chain, Did, Drops, Finished, IsOpen, IsOwn, JobResult}
use Rattle.law_run.proofs.Imports.{LinkRow, NeverRetired, Nothing_new, Of_the_retired, PairState, Pending, Plain, PutsAsked, PutsCopy, PutsOwn, Some, Store}
use Rattle.law_run.proofs.Imports.{StoresSo, Table, ap, at, cell_cmp, cell_of, chain_apart, chain_in, chosen_state, copied_apart, did_finish, finished_of}
use Rattle.law_run.proofs.Imports.{inl, inr, is_clients, kept, nat_cmp, one_lead, own_steady, owns_of, same_cell_or_apart, same_some, subst, sym, true, ℕ}
use Rattle.law_run.specs.WritesGoOn.{is_held, Onward}
use Rattle.law_run.proofs.CopiesThatDontCount.{copied_unfollowed}
use Rattle.law_run.proofs.ServerFrames.{OwnFollow}
use Rattle.law_run.proofs.GroundGives.{dropped_same, followed}
use Rattle.law_run.proofs.OwnPlacesAreLatest.{IsSharing, one_place_of, op_leads, op_seat, place_of, visit_here, alive_here}
use Rattle.law_run.proofs.EventsOfServerSteps.{ServerStep, ends_of, grounded, joined_now, joined_then, kept_here, later_world, new as own_left, own_after}
use Rattle.law_run.proofs.LeadPutsThatCount.{PutHeld, finish_held, old_finished, pending_held}
use Rattle.petal_msg.specs.declared.operation.Ending.TheVariants as ending

module _ (this : ServerStep) (k : Plain) where
  open ends_of this use {own, here, hears}

  abbrev mine : Cell → Chain
  mine cell = chain_in own.store.chains cell

  module _ (runs : (this.w.servers this.n).life.running ≡ true) (onward : Onward this.m k) (never : NeverRetired here own) where
    -- another server, which has put, and has the link in Both with this one
    module _ (cell : Cell) (p : ℕ) (op : Pending) (row : LinkRow)
        (shares : IsSharing (grounded this) p cell row)
        (first : row.primary ≡ p) (second : row.secondary ≡ this.n) (is : at cell_cmp (owns_of this.w p).pairs.pending cell ≡ Some op)
        (clients : is_clients op.kind ≡ true) where
      not_itself : p ≢ this.n
      not_itself e = ((own_steady this.setting this.w this.along.firm p).linked cell row shares.linked).apart (first ∙ e ∙ sym second)

      abbrev theirs : Chain
      theirs = chain_in (kept this.setting this.w p).chains cell

      abbrev Followed_or_held : Table Cell Chain → Type 0
      Followed_or_held new = theirs ≡ chain_in new cell → (theirs ≡ mine cell) ⊎ (is_held k op.client ≡ true)

      own_second : (new : Table Cell Chain) (o : PutsOwn own new) → Followed_or_held new
      own_second new o same =
          let s = (this.ground.ready.rests.pending this.n).staged o.op.cell o.op o.is in
          inl (same ∙ ap (λ c. chain_in c cell) o.chains
          ∙ chain_apart own.store.chains (cell_of o.op.key) _ cell
          (λ e.
          let there : at cell_cmp own.pairs.pending cell ≡ Some o.op = ap (at cell_cmp own.pairs.pending) (e ∙ s.keyed) ∙ o.is in
          not_itself (one_lead (chosen_state this.setting this.w) p this.n cell
          (op_leads (grounded this) p cell op shares.runs is)
          (op_leads (grounded this) this.n cell o.op runs there))))

      asked_second : (new : Table Cell Chain) (a : PutsAsked hears here own new) → PutHeld this k {new = new} (An_asked a) → Followed_or_held new
      asked_second new a held same = elim (same_cell_or_apart cell (cell_of a.key)) [
        | inr ne ↦ inl (same ∙ ap (λ c. chain_in c cell) a.chains ∙ chain_apart own.store.chains (cell_of a.key) _ cell ne)
        | inl e ↦
            let f = followed (grounded this) this.along.steady this.n runs new a
            (subst (AliveIn (chosen_state this.setting this.w)) e shares.alive) in
            let shares' : IsSharing (grounded this) p (cell_of a.key) row =
            subst (λ (c : Cell). IsSharing (grounded this) p c row) e shares in
            let at_one = one_place_of (grounded this) this.n p
            (cell_of a.key) f.row row f.shares shares' in
            let who : f.row.primary ≡ p = ap (λ (r : LinkRow). r.primary) (sym at_one.1) ∙ first in
            let visit : this.ground.good.visits p (place_of (grounded this) p row)
            (cell_of a.key)
            ≡ Some (owns_of this.w p) = visit_here (grounded this) p
            (cell_of a.key) row shares'.runs shares'.seat shares'.linked
            (alive_here (grounded this) p (cell_of a.key) shares'.alive) in
            let own_is : f.own ≡ owns_of this.w p =
            same_some (sym f.visited ∙ (λ i. this.ground.good.visits (who i) (at_one.0 i) (cell_of a.key)) ∙ visit) in
            let op_is : op ≡ f.putting.op =
            same_some (sym is ∙ (λ i. at cell_cmp (sym own_is i).pairs.pending (e i)) ∙ f.putting.is) in
            inr (ap (λ (o : Pending). is_held k o.client) op_is ∙ held f (ap (λ (o : Pending). is_clients o.kind) (sym op_is) ∙ clients))
      ]

      copy_second : (new : Table Cell Chain) (c : PutsCopy hears here own new) → Followed_or_held new
      copy_second new c same = inl (same ∙ copied_apart hears own c.cell new c.how cell
          (λ e. copied_unfollowed (grounded this) this.n runs new c
          (subst (AliveIn (chosen_state this.setting this.w)) e shares.alive) p row
          (subst (λ (q : Cell). IsSharing (grounded this) p q row) e shares) not_itself))

      retired_second : (new : Table Cell Chain) → Drops here own new → Followed_or_held new
      retired_second new d same = inl (same ∙ dropped_same (grounded this) this.along.steady this.n new d cell
          shares.alive)

      -- by the stores that count
      abbrev Followed_now : Type 0
      Followed_now = theirs ≡ chain_in (kept this.setting (later_world this) this.n).chains cell
          → (theirs ≡ chain_in (kept this.setting this.w this.n).chains cell) ⊎ (is_held k op.client ≡ true)

      by_own : (new_own : PairState) → own_left this ≡ new_own → joined_now this this.n ≡ joined_then this this.n → IsOwn this.setting this.w this.n
          → Followed_or_held new_own.store.chains → Followed_now
      by_own new_own is_new as_before counts follows same =
          elim (follows (same ∙ ap (λ (s : Store). chain_in s.chains cell) (own_after this counts as_before)
          ∙ ap (λ (o : PairState). chain_in o.store.chains cell) is_new)) [
            | inl before ↦ inl (before ∙ ap (λ (s : Store). chain_in s.chains cell) (sym (counts own.store)))
            | inr held ↦ inr held
          ]

      did_second : (new_own : PairState) → own_left this ≡ new_own → joined_now this this.n ≡ joined_then this this.n
          → (s : StoresSo hears here own new_own.store.chains) → PutHeld this k s → Followed_now
      did_second new_own is_new as_before (Nothing_new stays) held same =
          inl (same ∙ ap (λ c. chain_in c cell) (kept_here this (ap (λ (o : PairState). o.store.chains) is_new ∙ stays) as_before))
      did_second new_own is_new as_before (An_own o) held same =
          by_own new_own is_new as_before
          (this.ground.own this.n runs (op_seat (grounded this) this.n o.op.cell o.op runs o.is))
          (own_second new_own.store.chains o) same
      did_second new_own is_new as_before (An_asked a) held same =
          by_own new_own is_new as_before (this.ground.own this.n runs a.seat) (asked_second new_own.store.chains a held) same
      did_second new_own is_new as_before (A_copy c) held same =
          by_own new_own is_new as_before (this.ground.own this.n runs c.seat) (copy_second new_own.store.chains c) same
      did_second new_own is_new as_before (Of_the_retired d) held same =
          by_own new_own is_new as_before (this.ground.own this.n runs d.seat) (retired_second new_own.store.chains d) same

    -- ### All of it

    did_finished : (done : JobResult) → Did hears here own done → (c : ℕ) (last : Finished) → at nat_cmp done.own.pairs.finished c ≡ Some last
        → last.ending ≡ ending.Written → IsOpen (this.w.clients c) last.seq → is_held k c ≡ true
    did_finished done d c last is written still =
        elim (finished_of hears here own done.own.pairs.finished done.own.pairs.pending (did_finish hears here own done d) c last is) [
          | inl was ↦ old_finished this k runs onward never c last was written still
          | inr why ↦ finish_held this k runs onward never done.own.pairs.pending c last why written still
        ]

    pub did_job : (done : JobResult) → Did hears here own done → (s : StoresSo hears here own done.own.store.chains) → PutHeld this k s
        → own_left this ≡ done.own → OwnFollow this k done.own
    did_job done d s held is_new = record {
      finished = λ c last on. did_finished done d c last;
      as_lead = λ cell op on is clients counted still. pending_held this k runs onward never done d s held cell op is counted clients still;
      as_second = λ as_before cell p op row shares first second is clients put still same.
          did_second cell p op row shares first second is clients done.own is_new as_before s held same;
    }
