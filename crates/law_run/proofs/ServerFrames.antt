-- What a server's step has to show so that servers and clients stay tied to the plain machine.
use Rattle.law_run.proofs.Imports.{◌∙◌, ◌≡◌, ◌≢◌, ◌⊎◌, AliveIn, Both, Cell, Chain, Finished, In, IsLinked, IsOpen, IsOwn, IsPrefix, Letter, LinkRow}
use Rattle.law_run.proofs.Imports.{PairState, Pairs, Pending, Plain, Server, Some, Store, ap, arith, at, at-empty, authority, both_row, cell_cmp, chain_in}
use Rattle.law_run.proofs.Imports.{chosen_log, chosen_state, in-append, in_both, inl, inr, is_clients, kept, linked_between, nat_cmp, no_pairs, none_some}
use Rattle.law_run.proofs.Imports.{one_row, open_write, own_steady, owns_of, place_by, places_up, prefix_itself, put_apart, put_same, refl, rows_later}
use Rattle.law_run.proofs.Imports.{same_or_apart, same_some, secondary_is_one, server_state, serves, so_both, state_in, subst, sym, true, ℕ}
use Rattle.law_run.specs.WritesGoOn.{is_held, Onward}
use Rattle.law_run.specs.MachineTies.{HasCounted, Is_followed, Is_counted, Follow, Stores}
use Rattle.law_run.proofs.StepsLeaveServers.{Leaves, As_it_was, In_place, Goes_further, Boots, serves_leaves}
use Rattle.law_run.proofs.OwnPlacesAreLatest.{IsSharing, op_seat, op_shared, shared_before, op_alive}
use Rattle.law_run.proofs.ServingStoresCount.{serving_same}
use Rattle.law_run.proofs.ChosenDisks.{rows_in}
use Rattle.law_run.proofs.Machine.{seat_onward, held_onward}
use Rattle.law_run.proofs.EventsOfServerSteps.{ServerStep, ends_of, grounded, grounded_after, joined_now, joined_then, kept_here, kept_other, letters, new}
use Rattle.law_run.proofs.EventsOfServerSteps.{logs_grow, logs_within, own_now, own_other}
use Rattle.petal_msg.specs.declared.body.Body.TheVariants as body
use Rattle.petal_msg.specs.declared.letter.Actor.TheVariants as actor
use Rattle.petal_msg.specs.declared.operation.Ending.TheVariants as ending

-- the server runs after the step
abbrev pub Runs : ServerStep → Type 0
Runs this = this.acted.server.life.running ≡ true

-- a step that leaves the server's operations as they are, while it runs, or one by which it runs with nothing in memory
pub data AreKept (this : ServerStep) : Type 0 where
  As_before : (this.w.servers this.n).life.running ≡ true → (new this).pairs.finished ≡ (owns_of this.w this.n).pairs.finished
      → (new this).pairs.pending ≡ (owns_of this.w this.n).pairs.pending → AreKept this
  Anew : (new this).pairs ≡ no_pairs → AreKept this

module _ (this : ServerStep) (k : Plain) where
  open ends_of this use {v, own}

  -- the client's write of this number has had its bytes, where it is open
  abbrev pub Held : ℕ → ℕ → Type 0
  Held c seq = IsOpen (this.w.clients c) seq → is_held k c ≡ true

  -- what a server's own part shows after the step, where the machine goes on to k
  pub record OwnFollow (after : PairState) : Type 0 where
    pub finished : (c : ℕ) (last : Finished) → Runs this → at nat_cmp after.pairs.finished c ≡ Some last → last.ending ≡ ending.Written → Held c last.seq
    pub as_lead : (cell : Cell) (op : Pending) → Runs this → at cell_cmp after.pairs.pending cell ≡ Some op
        → is_clients op.kind ≡ true → HasCounted this.setting this.w this.n cell op (chain_in after.store.chains cell) → Held op.client op.seq
    pub as_second : joined_now this this.n ≡ joined_then this this.n → (cell : Cell) (p : ℕ) (op : Pending) (row : LinkRow)
        → IsSharing (grounded this) p cell row
        → row.primary ≡ p → row.secondary ≡ this.n → at cell_cmp (owns_of this.w p).pairs.pending cell ≡ Some op
        → is_clients op.kind ≡ true → op.stage.put ≡ true
        → IsOpen (this.w.clients op.client) op.seq
        → chain_in (kept this.setting this.w p).chains cell ≡ chain_in (kept this.setting v this.n).chains cell
        → (chain_in (kept this.setting this.w p).chains cell ≡ chain_in (kept this.setting this.w this.n).chains cell)
        ⊎ (is_held k op.client ≡ true)

  -- what it sends ends a write as written only where that has had its bytes
  abbrev pub SaysOk : Type 0
  SaysOk = (letter : Letter) → In letter (letters this) → (c seq : ℕ) → letter.to ≡ actor.Client c → letter.body ≡ body.Written seq → Held c seq

  -- an operation that is put where the copy counts after the step was put where it counted before, or has had its bytes
  abbrev pub CountsOk : Type 0
  CountsOk = (i : ℕ) (cell : Cell) (op : Pending) → (v.servers i).life.running ≡ true
      → at cell_cmp (owns_of v i).pairs.pending cell ≡ Some op → is_clients op.kind ≡ true → op.stage.put ≡ true
      → authority (chosen_state this.setting v) cell ≡ Some i → IsOpen (this.w.clients op.client) op.seq
      → (authority (chosen_state this.setting this.w) cell ≡ Some i) ⊎ (is_held k op.client ≡ true)

  module _ (onward : Onward this.m k) (job : OwnFollow (new this)) (counts : CountsOk) where
    server_now : v.servers this.n ≡ this.acted.server
    server_now = put_same this.w.servers this.n this.acted.server

    -- another server runs as before
    ran_other : (i : ℕ) → i ≢ this.n → (v.servers i).life.running ≡ true → (this.w.servers i).life.running ≡ true
    ran_other i ne on = ap (λ (x : Server). x.life.running) (sym (put_apart this.w.servers this.n this.acted.server i ne)) ∙ on

    runs_here : (i : ℕ) → i ≡ this.n → (v.servers i).life.running ≡ true → Runs this
    runs_here i e on = ap (λ (x : Server). x.life.running) (sym (ap v.servers e ∙ server_now)) ∙ on

    finished : (i c : ℕ) (last : Finished) → (v.servers i).life.running ≡ true → at nat_cmp (owns_of v i).pairs.finished c ≡ Some last
        → last.ending ≡ ending.Written → Held c last.seq
    finished i c last on is how still = elim (same_or_apart i this.n) [
      | inl e ↦ job.finished c last (runs_here i e on)
          (sym (ap (λ (h : PairState). at nat_cmp h.pairs.finished c) (ap (owns_of v) e ∙ own_now this)) ∙ is) how still
      | inr ne ↦
          held_onward this.m k c onward
          (this.follow.finished i c last (ran_other i ne on) (sym (ap (λ (h : PairState). at nat_cmp h.pairs.finished c) (own_other this i ne)) ∙ is) how still)
    ]

    -- a server whose operation is pending, and that has the cell's link in Both then, had it so before
    record WasShared (cell : Cell) (row : LinkRow) : Type 0 where
      old : LinkRow
      linked : IsLinked this.setting (this.w.servers this.n).log.applied cell old
      both : old.state ≡ Both
      second : row.secondary ≡ old.secondary

    same_before : (cell : Cell) (row : LinkRow) → this.acted.server.log.applied ≡ (this.w.servers this.n).log.applied
        → IsLinked this.setting this.acted.server.log.applied cell row → row.state ≡ Both → WasShared cell row
    same_before cell row applied linked both =
        record { old = row; linked = subst (λ prefix. IsLinked this.setting prefix cell row) applied linked; both = both; second = refl }

    was_shared : (cell : Cell) (op : Pending) (row : LinkRow) → Leaves this.setting this.n (this.w.servers this.n) this.acted.server
        → at cell_cmp (new this).pairs.pending cell ≡ Some op → IsLinked this.setting this.acted.server.log.applied cell row
        → row.state ≡ Both → WasShared cell row
    was_shared cell op row (As_it_was pending applied) is linked both = same_before cell row applied linked both
    was_shared cell op row (In_place applied seat) is linked both = same_before cell row applied linked both
    was_shared cell op row (Boots runs inc none) is linked both =
        none_some (ap (λ (p : Pairs). at cell_cmp p.pending cell) none ∙ at-empty cell_cmp cell) is
    was_shared cell op row (Goes_further runs inc pending) is linked both =
        let firm = this.along.firm in
        let grows : IsPrefix (this.w.servers this.n).log.applied this.acted.server.log.applied =
        subst (λ (x : Server). IsPrefix (this.w.servers this.n).log.applied x.log.applied) server_now (logs_grow this this.n) in
        let within : IsPrefix this.acted.server.log.applied (chosen_log this.setting this.w) =
        subst (λ (x : Server). IsPrefix x.log.applied (chosen_log this.setting this.w)) server_now (logs_within this this.n) in
        let s = shared_before (grounded this) this.n cell op runs
        (ap (λ t. at cell_cmp t cell) (sym pending) ∙ is)
        this.acted.server.log.applied row grows within linked both in
        let old = s.first in
        record {
          old = old.row;
          linked = old.shares.linked;
          both = old.shares.both;
          second = (rows_later this.setting (chosen_log this.setting this.w) firm.plain
              (this.w.servers this.n).log.applied this.acted.server.log.applied cell
              old.row row grows within old.shares.linked linked).secondary;
        }

    leaves : Leaves this.setting this.n (this.w.servers this.n) this.acted.server
    leaves = serves_leaves this.setting this.state this.w this.n this.what this.acted this.serving

    abbrev chain_now : ℕ → Cell → Chain
    chain_now i cell = chain_in (kept this.setting v i).chains cell

    abbrev chain_then : ℕ → Cell → Chain
    chain_then i cell = chain_in (kept this.setting this.w i).chains cell

    same_chain : (i : ℕ) (cell : Cell) → i ≢ this.n → joined_now this i ≡ joined_then this i → chain_now i cell ≡ chain_then i cell
    same_chain i cell ne same = ap (λ (s : Store). chain_in s.chains cell) (kept_other this i ne same)

    -- the store of a server that runs with an operation counts: it is In as itself
    counts_now : (i : ℕ) (cell : Cell) (op : Pending) → (v.servers i).life.running ≡ true → at cell_cmp (owns_of v i).pairs.pending cell ≡ Some op
        → IsOwn this.setting v i
    counts_now i cell op on is =
        this.onward.own i on (op_seat (grounded_after this) i cell op on is)

    counts_then : (i : ℕ) (cell : Cell) (op : Pending) → (this.w.servers i).life.running ≡ true
        → at cell_cmp (owns_of this.w i).pairs.pending cell ≡ Some op → IsOwn this.setting this.w i
    counts_then i cell op runs is =
        this.ground.own i runs (op_seat (grounded this) i cell op runs is)

    new_chain : (cell : Cell) (op : Pending) → (v.servers this.n).life.running ≡ true → at cell_cmp (owns_of v this.n).pairs.pending cell ≡ Some op
        → chain_now this.n cell ≡ chain_in (new this).store.chains cell
    new_chain cell op on is =
        ap (λ (s : Store). chain_in s.chains cell) (counts_now this.n cell op on is (owns_of v this.n).store)
        ∙ ap (λ (h : PairState). chain_in h.store.chains cell) (own_now this)

    -- a link in Both by what is chosen was so before the step, where a server has it so by its own state; and its second server's store
    -- counts as before
    shared_then : (i : ℕ) (cell : Cell) (op : Pending) (row : LinkRow) → (v.servers i).life.running ≡ true
        → at cell_cmp (owns_of v i).pairs.pending cell ≡ Some op → IsLinked this.setting (v.servers i).log.applied cell row → row.state ≡ Both
        → in_both (chosen_state this.setting v) cell ≡ true → in_both (chosen_state this.setting this.w) cell ≡ true
    shared_then i cell op row on is linked both shared =
        let end = chosen_log this.setting v in
        let top = chosen_log this.setting this.w in
        let firm = this.next.firm in
        let b = both_row (chosen_state this.setting v) cell shared in
        let applied = (v.servers i).log.applied in
        let s = shared_before (grounded_after this) i cell op on is end b.row (firm.servers i) (prefix_itself end) b.is b.both in
        let mid = linked_between this.setting end firm.plain applied top end cell s.first.row b.row (logs_within this i) this.grows (prefix_itself end)
        s.first.shares.linked b.is in
        let one = places_up this.setting end firm.plain applied top cell s.first.row mid.0 (logs_within this i) this.grows
        s.first.shares.linked mid.1 in
        let two = places_up this.setting end firm.plain top end cell mid.0 b.row this.grows (prefix_itself end) mid.1 b.is in
        let at = s.at in
        let same : place_by this.setting top mid.0 ≡ place_by this.setting end b.row = omega arith in
        let row_is = one_row this.setting end firm.plain top end cell mid.0 b.row this.grows (prefix_itself end) mid.1 b.is same in
        so_both (chosen_state this.setting this.w) cell mid.0 mid.1 (ap (λ (r : LinkRow). r.state) (sym row_is) ∙ b.both)

    second_same : (i : ℕ) (cell : Cell) (row : LinkRow) → IsLinked this.setting (v.servers i).log.applied cell row
        → in_both (chosen_state this.setting v) cell ≡ true → AliveIn (chosen_state this.setting v) cell
        → joined_now this row.secondary ≡ joined_then this row.secondary
    second_same i cell row linked shared alive =
        let end = chosen_log this.setting v in
        let top = chosen_log this.setting this.w in
        let firm = this.next.firm in
        let b = both_row (chosen_state this.setting v) cell shared in
        let applied = (v.servers i).log.applied in
        let mid = linked_between this.setting end firm.plain applied top end cell row b.row (logs_within this i) this.grows (prefix_itself end) linked b.is in
        let one = rows_later this.setting end firm.plain applied top cell row mid.0 (logs_within this i) this.grows linked mid.1 in
        let two = rows_later this.setting end firm.plain top end cell mid.0 b.row this.grows (prefix_itself end) mid.1 b.is in
        serving_same this cell mid.0 b.row row.secondary mid.1 b.is alive (secondary_is_one mid.0 row.secondary one.secondary)
        (ap (serves row.secondary b.row) b.both ∙ secondary_is_one b.row row.secondary (two.secondary ∙ one.secondary))

    -- a server that leads a cell in Both is not its second one
    not_second : {B : Type 0} (cell : Cell) (op : Pending) → (v.servers this.n).life.running ≡ true
        → at cell_cmp (owns_of v this.n).pairs.pending cell ≡ Some op
        → (row : LinkRow) → IsLinked this.setting (v.servers this.n).log.applied cell row → row.state ≡ Both → row.secondary ≡ this.n → B
    not_second cell op on there row linked both mine =
        let state_now = server_state this.setting v this.n in
        let steady = own_steady this.setting v this.next.firm this.n in
        let f = op_shared (grounded_after this) this.n cell op on there
        (so_both state_now cell row linked both) in
        let one : f.row ≡ row = same_some (sym f.shares.linked ∙ linked) in
        absurd ((steady.linked cell row linked).apart (ap (λ (r : LinkRow). r.primary) (sym one) ∙ f.first ∙ sym mine))

    -- the operations of this server
    mine : (cell : Cell) (op : Pending) → (v.servers this.n).life.running ≡ true → at cell_cmp (owns_of v this.n).pairs.pending cell ≡ Some op
        → is_clients op.kind ≡ true → HasCounted this.setting v this.n cell op (chain_now this.n cell) → Held op.client op.seq
    mine cell op on there clients counted still = by counted
      where
        runs : Runs this
        runs = runs_here this.n refl on

        is : at cell_cmp (new this).pairs.pending cell ≡ Some op
        is = sym (ap (λ (h : PairState). at cell_cmp h.pairs.pending cell) (own_now this)) ∙ there

        to_here : (row : LinkRow) → IsLinked this.setting (v.servers this.n).log.applied cell row
            → IsLinked this.setting this.acted.server.log.applied cell row
        to_here row = subst (λ (x : Server). IsLinked this.setting x.log.applied cell row) server_now

        by : HasCounted this.setting v this.n cell op (chain_now this.n cell) → is_held k op.client ≡ true
        by (Is_followed row linked both shared put same) =
            let was = was_shared cell op row leaves is (to_here row linked) both in
            let as_before = second_same this.n cell row linked shared
            (op_alive (grounded_after this) this.n cell op on there) in
            elim (same_or_apart row.secondary this.n) [
              | inl mine ↦ not_second cell op on there row linked both mine
              | inr ne ↦ job.as_lead cell op runs is clients (Is_followed was.old was.linked was.both
                  (shared_then this.n cell op row on there linked both shared) put
                  (sym (new_chain cell op on there) ∙ same ∙ same_chain row.secondary cell ne as_before
                  ∙ ap (λ q. chain_then q cell) was.second)) still
            ]
        by (Is_counted put here) = elim (counts this.n cell op on there clients put here still) [
          | inl before ↦ job.as_lead cell op runs is clients (Is_counted put before) still
          | inr held ↦ held
        ]

    -- those of another server
    theirs : (i : ℕ) → i ≢ this.n → (cell : Cell) (op : Pending) → (v.servers i).life.running ≡ true → at cell_cmp (owns_of v i).pairs.pending cell ≡ Some op
        → is_clients op.kind ≡ true → HasCounted this.setting v i cell op (chain_now i cell) → Held op.client op.seq
    theirs i ne cell op on there clients counted still = by counted
      where
        runs : (this.w.servers i).life.running ≡ true
        runs = ran_other i ne on

        is : at cell_cmp (owns_of this.w i).pairs.pending cell ≡ Some op
        is = sym (ap (λ (h : PairState). at cell_cmp h.pairs.pending cell) (own_other this i ne)) ∙ there

        was : HasCounted this.setting this.w i cell op (chain_then i cell) → is_held k op.client ≡ true
        was h = held_onward this.m k op.client onward (this.follow.pending i cell op runs is clients h still)

        -- the server is as before
        same_server : v.servers i ≡ this.w.servers i
        same_server = put_apart this.w.servers this.n this.acted.server i ne

        -- and so is its store, which counts
        own_chain : at cell_cmp (owns_of v i).pairs.pending cell ≡ Some op → chain_now i cell ≡ chain_then i cell
        own_chain there_now =
            ap (λ (s : Store). chain_in s.chains cell) (counts_now i cell op on there_now (owns_of v i).store)
            ∙ ap (λ (h : PairState). chain_in h.store.chains cell) (own_other this i ne)
            ∙ ap (λ (s : Store). chain_in s.chains cell) (sym (counts_then i cell op runs is (owns_of this.w i).store))

        by : HasCounted this.setting v i cell op (chain_now i cell) → is_held k op.client ≡ true
        by (Is_followed row linked both shared put same) =
            let there_now = there in
            let there : IsLinked this.setting (this.w.servers i).log.applied cell row =
            subst (λ (x : Server). IsLinked this.setting x.log.applied cell row) same_server linked in
            let shared_was = shared_then i cell op row on there_now linked both shared in
            let as_before = second_same i cell row linked shared
            (op_alive (grounded_after this) i cell op on there_now) in
            elim (same_or_apart row.secondary this.n) [
              | inl e ↦
                  let own_state = server_state this.setting this.w i in
                  let f = op_shared (grounded this) i cell op runs is
                  (so_both own_state cell row there both) in
                  let one : f.row ≡ row = same_some (sym f.shares.linked ∙ there) in
                  let same' : chain_then i cell ≡ chain_now this.n cell =
                  sym (own_chain there_now) ∙ same ∙ ap (λ j. chain_now j cell) e in
                  let as_before' : joined_now this this.n ≡ joined_then this this.n =
                  subst (λ j. joined_now this j ≡ joined_then this j) e as_before in
                  elim (job.as_second as_before' cell i op f.row f.shares f.first (ap (λ (r : LinkRow). r.secondary) one ∙ e) is clients put still same') [
                    | inl before ↦ was (Is_followed row there both shared_was put (before ∙ ap (λ j. chain_then j cell) (sym e)))
                    | inr held ↦ held
                  ]
              | inr ne' ↦ was (Is_followed row there both shared_was put
                  (sym (own_chain there_now) ∙ same ∙ same_chain row.secondary cell ne' as_before))
            ]
        by (Is_counted put here) = elim (counts i cell op on there clients put here still) [
          | inl before ↦ was (Is_counted put before)
          | inr held ↦ held
        ]

    pending : (i : ℕ) (cell : Cell) (op : Pending) → (v.servers i).life.running ≡ true → at cell_cmp (owns_of v i).pairs.pending cell ≡ Some op
        → is_clients op.kind ≡ true → HasCounted this.setting v i cell op (chain_now i cell) → Held op.client op.seq
    pending i cell op on is clients counted still = elim (same_or_apart i this.n) [
      | inl e ↦ subst (λ j. (v.servers j).life.running ≡ true → at cell_cmp (owns_of v j).pairs.pending cell ≡ Some op
          → HasCounted this.setting v j cell op (chain_now j cell) → is_held k op.client ≡ true) (sym e)
          (λ on is counted. mine cell op on is clients counted still) on is counted
      | inr ne ↦ theirs i ne cell op on is clients counted still
    ]

    pub own_follow : SaysOk → Stores this.setting (rows_in this.setting this.w) v k
        → Follow this.setting (rows_in this.setting this.w) v k
    own_follow says stores = record {
      stores = stores;
      seats = λ c. seat_onward this.m k c (open_write this.w c) onward (this.follow.seats c);
      letters = λ letter c seq h to said still. elim (in-append letter (letters this) this.w.sent h) [
        | inl fresh ↦ says letter fresh c seq to said still
        | inr old ↦ held_onward this.m k c onward (this.follow.letters letter c seq old to said still)
      ];
      pending = pending;
      finished = finished;
    }

  -- the store of a server that runs with an operation counts
  pub own_counted : (this.w.servers this.n).life.running ≡ true → (cell : Cell) (op : Pending) → at cell_cmp own.pairs.pending cell ≡ Some op
      → chain_in (kept this.setting this.w this.n).chains cell ≡ chain_in own.store.chains cell
  own_counted runs cell op is =
      let seat = op_seat (grounded this) this.n cell op runs is in
      ap (λ (s : Store). chain_in s.chains cell) (this.ground.own this.n runs seat own.store)

  module _ (onward : Onward this.m k) where
    pub kept_finished : (this.w.servers this.n).life.running ≡ true → (after : PairState) → after.pairs.finished ≡ own.pairs.finished
        → (c : ℕ) (last : Finished) → at nat_cmp after.pairs.finished c ≡ Some last → last.ending ≡ ending.Written → Held c last.seq
    kept_finished runs after finished c last is how still =
        held_onward this.m k c onward (this.follow.finished this.n c last runs (ap (λ t. at nat_cmp t c) (sym finished) ∙ is) how still)

    pub kept_pending : (this.w.servers this.n).life.running ≡ true → (after : PairState) → after.pairs.pending ≡ own.pairs.pending
        → (cell : Cell) → chain_in after.store.chains cell ≡ chain_in own.store.chains cell → (op : Pending)
        → at cell_cmp after.pairs.pending cell ≡ Some op → is_clients op.kind ≡ true
        → HasCounted this.setting this.w this.n cell op (chain_in after.store.chains cell) → Held op.client op.seq
    kept_pending runs after pending cell chain op is clients counted still =
        let was : at cell_cmp own.pairs.pending cell ≡ Some op = ap (λ t. at cell_cmp t cell) (sym pending) ∙ is in
        held_onward this.m k op.client onward (this.follow.pending this.n cell op runs was clients
        (subst (HasCounted this.setting this.w this.n cell op) (chain ∙ sym (own_counted runs cell op was)) counted) still)

    pub kept_own : (new this).store.chains ≡ own.store.chains → (Runs this → AreKept this) → OwnFollow (new this)
    kept_own chains kept = record {
      finished = λ c last on is how still. fin c last is how still (kept on);
      as_lead = λ cell op on is clients counted still. lead cell op is clients counted still (kept on);
      as_second = λ as_before cell p op row shares first second is clients put still same.
          inl (same ∙ ap (λ c. chain_in c cell) (kept_here this chains as_before));
    }
      where
        fin : (c : ℕ) (last : Finished) → at nat_cmp (new this).pairs.finished c ≡ Some last → last.ending ≡ ending.Written
            → IsOpen (this.w.clients c) last.seq → AreKept this → is_held k c ≡ true
        fin c last is how still (As_before runs finished pending) = kept_finished runs (new this) finished c last is how still
        fin c last is how still (Anew none) =
            none_some (ap (λ (p : Pairs). at nat_cmp p.finished c) none ∙ at-empty nat_cmp c) is

        lead : (cell : Cell) (op : Pending) → at cell_cmp (new this).pairs.pending cell ≡ Some op → is_clients op.kind ≡ true
            → HasCounted this.setting this.w this.n cell op (chain_in (new this).store.chains cell)
            → IsOpen (this.w.clients op.client) op.seq
            → AreKept this → is_held k op.client ≡ true
        lead cell op is clients counted still (As_before runs finished pending) =
            kept_pending runs (new this) pending cell (ap (λ c. chain_in c cell) chains) op is clients counted still
        lead cell op is clients counted still (Anew none) =
            none_some (ap (λ (p : Pairs). at cell_cmp p.pending cell) none ∙ at-empty cell_cmp cell) is

-- an operation that is pending after such a step was pending before
pub kept_before : (this : ServerStep) → AreKept this → (cell : Cell) (op : Pending) → at cell_cmp (new this).pairs.pending cell ≡ Some op
    → ((this.w.servers this.n).life.running ≡ true) × (at cell_cmp (owns_of this.w this.n).pairs.pending cell ≡ Some op)
kept_before this (As_before runs finished pending) cell op is = (runs, ap (λ t. at cell_cmp t cell) (sym pending) ∙ is)
kept_before this (Anew none) cell op is = none_some (ap (λ (p : Pairs). at cell_cmp p.pending cell) none ∙ at-empty cell_cmp cell) is
