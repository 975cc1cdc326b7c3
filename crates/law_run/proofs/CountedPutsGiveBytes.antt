-- A server's put of the copy that counts gives a block the bytes of a write under way; one of another copy changes no content.
use Rattle.law_run.proofs.Imports.{◌∙◌, ◌≡◌, A_copy, AliveIn, An_asked, An_own, Cell, Drops, IsLinked, IsOpen, IsOwn, IsSecondary, None, Nothing_new}
use Rattle.law_run.proofs.Imports.{Of_the_retired, Pending, Plain, PutsAsked, PutsCopy, PutsOwn, Some, StoresSo, alone_authority, ap, arith, asked_for, at}
use Rattle.law_run.proofs.Imports.{authority, both_authority, by_bool, cell_cmp, cell_of, chain_apart, chain_in, chosen_log, copied_apart, counted, epoch_at}
use Rattle.law_run.proofs.Imports.{false, inl, inr, is_clients, log_roles, named_cell, nat_cmp, none_some, one_row, open_beside, open_running, pending_here}
use Rattle.law_run.proofs.Imports.{place_by, prefix_on, replay, retired_not, runs_now, same_or_apart, same_some, some_or_none, stage_at, stage_facts, subst}
use Rattle.law_run.proofs.Imports.{sym, true, true_false, ℕ}
use Rattle.law_run.specs.WritesGoOn.{is_held, Onward}
use Rattle.law_run.proofs.CopiesThatDontCount.{copied_uncounted}
use Rattle.law_run.proofs.MachineTakesWrites.{Taken, all_given, takes_of}
use Rattle.law_run.proofs.ServerFrames.{OwnFollow, SaysOk}
use Rattle.law_run.proofs.GroundGives.{Followed, followed, followed_epoch, followed_recalled, remembered, write_of, alive_or_retired, dropped_same}
use Rattle.law_run.proofs.GroundGives.{followed_comes, followed_frozen, followed_lacks, followed_timely, pending_timely, pending_write}
use Rattle.law_run.proofs.OpenWritesAreOnDisks.{Placed, placed}
use Rattle.law_run.proofs.LeadPutsThatCount.{PutHeld}
use Rattle.law_run.proofs.OwnPlacesAreLatest.{op_seat, lives_now, second_shares}
use Rattle.law_run.proofs.EventsOfServerSteps.{ServerStep, TakesTold, ends_of, grounded, later_world, new}
use Rattle.law_run.proofs.PutContents.{PutsHere, calm_given, calm_told, counts, retired_apart, fill_given, given_put, named_alive, own_unchanged, put_held}

module _ (this : ServerStep) (same : chosen_log this.setting (later_world this) ≡ chosen_log this.setting this.w) where
  open ends_of this use {chosen, own, here, hears}

  -- ### The second server that runs

  -- by what is chosen it still is the second, or holds the cell alone, so that its copy counts
  after_second : (runs : (this.w.servers this.n).life.running ≡ true) (a : PutsAsked hears here own (new this).store.chains)
      → AliveIn chosen (cell_of a.key) → authority chosen (cell_of a.key) ≡ Some this.n
  after_second runs a alive =
      let firm = this.along.firm in
      let cell = cell_of a.key in
      let roles = log_roles this.setting.servers (this.w.servers this.n).log.applied (chosen_log this.setting this.w) firm.plain (firm.servers this.n) in
      let s = second_shares (grounded this) this.n cell runs a.seat a.seconds alive in
      let lives = lives_now (grounded this) this.n cell s.shares.low alive in
      let second : IsSecondary here.state this.n cell = record { row = s.row; is = s.shares.linked; both = s.shares.both; second = s.second } in
      elim (roles.seconds this.n (this.w.servers this.n).life.inc cell a.seat (runs_now this.setting this.w firm this.n runs a.seat) second) [
        | inl still ↦ both_authority chosen cell still.row still.is lives still.both ∙ ap Some still.second
        | inr (inl alone) ↦ alone_authority chosen cell alone.row alone.is lives this.n alone.whole alone.alone
        | inr (inr died) ↦ absurd (retired_not chosen cell died alive)
      ]

  abbrev FollowedHere : PutsAsked hears here own (new this).store.chains → Type 0
  FollowedHere a = Followed (grounded this) this.along.steady this.n a.number a.key a.bytes

  -- the place at which it was asked
  abbrev spot : (a : PutsAsked hears here own (new this).store.chains) → FollowedHere a → ℕ
  spot a f = place_by this.setting (this.w.servers this.n).log.applied f.row

  asked_open : (runs : (this.w.servers this.n).life.running ≡ true) (a : PutsAsked hears here own (new this).store.chains) (f : FollowedHere a)
      → is_clients f.putting.op.kind ≡ true → IsOpen (this.w.clients f.putting.op.client) f.putting.op.seq
  asked_open runs a f clients =
      let cell = cell_of a.key in
      let firm = this.along.firm in
      let known = remembered this.setting this.w this.ground.lives this.ground.asking f.row.primary (spot a f) cell f.putting.op clients
      (followed_recalled (grounded this) this.along.steady this.n a.number a.key a.bytes f clients) in
      let timely = followed_timely (grounded this) this.along.steady this.n a.number a.key a.bytes f clients in
      let upto = prefix_on known.known.upto _ _ known.known.applied (firm.servers f.row.primary) in
      let one : known.row ≡ f.row = one_row this.setting (chosen_log this.setting this.w) firm.plain
      (this.w.servers this.n).log.applied known.known.upto cell
      f.row known.row (firm.servers this.n) upto f.shares.linked known.linked (sym known.at) in
      open_beside this.setting this.w firm this.ground.lives (record {
        n = f.row.primary;
        inc = known.inc;
        want = asked_for cell f.putting.op;
        rev = f.putting.op.rev;
        p = known.known;
        m = this.n;
        runs = runs;
        seat = a.seat;
        row = f.row;
        there = f.shares.linked;
        has = f.shares.has;
        both = f.shares.both;
        known = subst (λ r. IsLinked this.setting known.known.upto cell r) one known.linked;
        place = sym known.at ∙ ap (place_by this.setting known.known.upto) one;
        most = timely.stays;
      })

  -- ### What is told

  module _ (runs : (this.w.servers this.n).life.running ≡ true) (says : (k : Plain) → Onward this.m k → SaysOk this k) where
    abbrev Jobs : StoresSo hears here own (new this).store.chains → Type 0
    Jobs s = (k : Plain) → Onward this.m k → PutHeld this k s → OwnFollow this k (new this)

    events_of_moves : (taken : Taken this) (s : StoresSo hears here own (new this).store.chains) → Jobs s
        → PutHeld this (replay this.m taken.es) s → TakesTold this
    events_of_moves taken s job held =
        let k = replay this.m taken.es in
        takes_of this taken (job k taken.onward held) (counts this same k) (says k taken.onward)

    module _ (p : PutsOwn own (new this).store.chains) (job : Jobs (An_own p)) where
      open p use {op, is, fresh as unput, entry, bytes, chains}

      keyed : cell_of op.key ≡ op.cell
      keyed = ((this.ground.ready.rests.pending this.n).staged op.cell op is).keyed

      own_counts : IsOwn this.setting this.w this.n
      own_counts = this.ground.own this.n runs (op_seat (grounded this) this.n op.cell op runs is)

      other : ((authority chosen op.cell ≡ Some this.n) → ⊥) → TakesTold this
      other never =
          let taken = all_given this (calm_given this same (λ row there b. own_unchanged this same own_counts row there b
          (λ mine. ap (λ c. chain_in c (named_cell row b)) chains
          ∙ chain_apart own.store.chains (cell_of op.key) _ (named_cell row b)
          (λ e. never (ap (authority chosen) (sym keyed ∙ sym e) ∙ mine))))) in
          events_of_moves taken (An_own p) job
          (λ clients e. absurd (never e))

      mine : is_clients op.kind ≡ true → authority chosen op.cell ≡ Some this.n → TakesTold this
      mine clients counted =
          let lives = this.ground.lives in
          let firm = this.along.firm in
          let timely = pending_timely (grounded this) this.along.steady this.n this.n op.cell op runs is clients in
          let epoch : epoch_at chosen (cell_of op.key) ≡ op.key.epoch = ap (epoch_at chosen) keyed ∙ timely.epoch in
          let still = open_running this.setting this.w firm lives this.n (asked_for op.cell op) op.rev
          (pending_here this.setting this.w firm lives this.ground.ready.rests this.ground.asking this.ground.reports this.n op.cell op is clients)
          (this.ground.asking.lived.ran this.n runs) runs in
          let place : Placed this op (cell_of op.key) =
          subst (Placed this op) (sym keyed) (placed this op.cell op
          (pending_write (grounded this) this.along.steady this.n this.n op.cell op runs is clients) still) in
          let here_mine : authority chosen (cell_of op.key) ≡ Some this.n = ap (authority chosen) keyed ∙ counted in
          let put : PutsHere this same = record { key = op.key; entry = entry; chains = chains; own_counts = own_counts; mine = here_mine } in
          let taken = all_given this (given_put this same put epoch op bytes place) in
          events_of_moves taken (An_own p) job
          (λ clients e. put_held this same put epoch op bytes place taken)

      -- a fill
      fills : is_clients op.kind ≡ false → authority chosen op.cell ≡ Some this.n → TakesTold this
      fills fill counted =
          let here_mine : authority chosen (cell_of op.key) ≡ Some this.n = ap (authority chosen) keyed ∙ counted in
          let one : stage_at chosen (cell_of op.key) ≡ 1 = ap (stage_at chosen) keyed ∙ this.ground.moves.fills.opened this.n op.cell op runs is fill in
          let lacks : at nat_cmp (chain_in own.store.chains (cell_of op.key)) op.key.epoch ≡ None =
          ap (λ (c : Cell). at nat_cmp (chain_in own.store.chains c) op.key.epoch) keyed
          ∙ this.ground.moves.fills.lacks this.n op.cell op runs is fill unput in
          let put : PutsHere this same = record { key = op.key; entry = entry; chains = chains; own_counts = own_counts; mine = here_mine } in
          let taken = all_given this (fill_given this same put op.bytes bytes one op.rev
          (this.ground.moves.fills.asked this.n op.cell op is fill) lacks) in
          events_of_moves taken (An_own p) job
          (λ clients e. true_false clients fill)

      own_told : TakesTold this
      own_told = elim (some_or_none (authority chosen op.cell)) [
        | inr none ↦ other (λ e. none_some none e)
        | inl some ↦ elim (same_or_apart some.0 this.n) [
          | inr ne ↦ other (λ e. absurd (ne (same_some (sym some.1 ∙ e))))
          | inl e ↦ by_bool (is_clients op.kind) (λ clients. mine clients (some.1 ∙ ap Some e)) (λ fill. fills fill (some.1 ∙ ap Some e))
        ]
      ]

    asked_told : (a : PutsAsked hears here own (new this).store.chains) → Jobs (An_asked a) → TakesTold this
    asked_told a job = elim (alive_or_retired chosen (cell_of a.key)
        (stage_facts this.setting.servers (chosen_log this.setting this.w) this.along.firm.plain (cell_of a.key)).most) [
          | inr retired ↦ retired_told a job retired
          | inl alive ↦
              let f = followed (grounded this) this.along.steady this.n runs (new this).store.chains a alive in
              by_bool (is_clients f.putting.op.kind) (λ clients. write_told a alive f clients job) (λ fill. fill_told a alive f fill job)
        ]
      where
        same_op : (a : PutsAsked hears here own (new this).store.chains) (f g : FollowedHere a) → f.putting.op ≡ g.putting.op
        same_op a f g =
            let row : f.row ≡ g.row = same_some (sym f.shares.linked ∙ g.shares.linked) in
            let own : f.own ≡ g.own = same_some (sym f.visited
            ∙ (λ i. this.ground.good.visits (row i).primary (place_by this.setting (this.w.servers this.n).log.applied (row i))
            (cell_of a.key)) ∙ g.visited) in
            same_some (sym f.putting.is ∙ (λ i. at cell_cmp (own i).pairs.pending (cell_of a.key)) ∙ g.putting.is)

        -- of a cell that is retired by what is chosen nothing counts
        retired_told : (a : PutsAsked hears here own (new this).store.chains) → Jobs (An_asked a) → stage_at chosen (cell_of a.key) ≡ 4 → TakesTold this
        retired_told a job retired =
            let taken = all_given this (calm_given this same (λ row there b. own_unchanged this same (this.ground.own this.n runs a.seat) row there b (λ mine.
            ap (λ c. chain_in c (named_cell row b)) a.chains ∙ chain_apart own.store.chains (cell_of a.key) _ (named_cell row b)
            (λ e. retired_apart this same row there b (ap (stage_at chosen) e ∙ retired))))) in
            events_of_moves taken (An_asked a) job (λ g clients. let alive = g.shares.alive in absurd (omega (arith, alive, retired)))

        write_told : (a : PutsAsked hears here own (new this).store.chains) → AliveIn chosen (cell_of a.key) → (f : FollowedHere a)
            → is_clients f.putting.op.kind ≡ true → Jobs (An_asked a) → TakesTold this
        write_told a alive f clients job =
            let timely = followed_timely (grounded this) this.along.steady this.n a.number a.key a.bytes f clients in
            let recalled = followed_recalled (grounded this) this.along.steady this.n a.number a.key
            a.bytes f clients in
            let epoch = followed_epoch (grounded this) this.along.steady this.n a.number a.key a.bytes f clients in
            let counts_here = after_second runs a alive in
            let bytes : a.entry.bytes ≡ f.putting.op.bytes = a.put ∙ sym f.putting.bytes_is in
            let still = asked_open runs a f clients in
            let place = placed this (cell_of a.key) f.putting.op
            (write_of (grounded this) this.along.steady this.n f.row.primary (spot a f)
            (cell_of a.key) f.putting.op clients recalled timely) still in
            let own_counts = this.ground.own this.n runs a.seat in
            let put : PutsHere this same = record { key = a.key; entry = a.entry; chains = a.chains; own_counts = own_counts; mine = counts_here } in
            let taken = all_given this (given_put this same put epoch f.putting.op bytes place) in
            events_of_moves taken (An_asked a) job (λ g clients.
            ap (λ (o : Pending). is_held (replay this.m taken.es) o.client) (sym (same_op a f g))
            ∙ put_held this same put epoch f.putting.op bytes place taken)

        fill_told : (a : PutsAsked hears here own (new this).store.chains) → AliveIn chosen (cell_of a.key) → (f : FollowedHere a)
            → is_clients f.putting.op.kind ≡ false → Jobs (An_asked a) → TakesTold this
        fill_told a alive f fill job =
            let own_counts = this.ground.own this.n runs a.seat in
            let one = followed_comes (grounded this) this.along.steady this.n a.number a.key a.bytes f fill in
            let frozen = followed_frozen (grounded this) this.along.steady this.n a.number a.key a.bytes f fill in
            let lacks = followed_lacks (grounded this) this.along.steady this.n a.number a.key a.bytes f fill in
            let put : PutsHere this same =
            record { key = a.key; entry = a.entry; chains = a.chains; own_counts = own_counts; mine = after_second runs a alive } in
            let taken = all_given this (fill_given this same put a.bytes a.put one f.putting.op.rev
            frozen lacks) in
            events_of_moves taken (An_asked a) job (λ g clients. true_false (ap (λ (o : Pending). is_clients o.kind) (same_op a f g) ∙ clients) fill)

    -- a copy is to a server whose copy doesn't count
    copy_told : (c : PutsCopy hears here own (new this).store.chains) → Jobs (A_copy c) → TakesTold this
    copy_told c job =
        let taken = all_given this (calm_given this same (λ row there b. own_unchanged this same (this.ground.own this.n runs c.seat) row there b
        (λ mine. copied_apart hears own c.cell (new this).store.chains c.how (named_cell row b)
        (λ e. copied_uncounted (grounded this) this.n runs (new this).store.chains c
        (subst (AliveIn chosen) e (named_alive this same row there b))
        (ap (authority chosen) (sym e) ∙ mine))))) in
        events_of_moves taken (A_copy c) job tt

    -- a sweep is of a cell that is retired by what is chosen, or has nothing
    retired_drops : (d : Drops here own (new this).store.chains) → Jobs (Of_the_retired d) → TakesTold this
    retired_drops d job =
        let taken = all_given this (calm_given this same (λ row there b. own_unchanged this same (this.ground.own this.n runs d.seat) row there b
        (λ mine. dropped_same (grounded this) this.along.steady this.n (new this).store.chains d (named_cell row b)
        (named_alive this same row there b)))) in
        events_of_moves taken (Of_the_retired d) job tt

    -- a job that changes at most one chain
    pub stored_told : (s : StoresSo hears here own (new this).store.chains) → Jobs s → TakesTold this
    stored_told (Nothing_new chains) job = calm_told this same chains (λ k onward. job k onward tt) says
    stored_told (An_own p) job = own_told p job
    stored_told (An_asked a) job = asked_told a job
    stored_told (A_copy c) job = copy_told c job
    stored_told (Of_the_retired d) job = retired_drops d job
