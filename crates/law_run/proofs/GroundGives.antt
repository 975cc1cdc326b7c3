-- What follows from the ground on which the run stands: of operations that are remembered, of the epochs of those that are put, and of
-- entries.
use Rattle.law_run.proofs.Imports.{[], ◌+◌, ◌∙◌, ◌∷◌, ◌≡◌, ◌≤◌, ◌⊎◌, AliveIn, AreEarly, AskingBy, Body, Cell, Chain, Drops, Handled, IsFrozen, IsLinked}
use Rattle.law_run.proofs.Imports.{IsPutting, IsSteady, IsTimely, IsWrite, JobContext, Key, LinkRow, List, Lives, NeverRetired, None, Option, PairState}
use Rattle.law_run.proofs.Imports.{Pending, PendingFor, PutsAsked, Setting, Some, State, Store, Table, WasThere, World, ap, arith, asked_for, at, at-empty}
use Rattle.law_run.proofs.Imports.{at_row, cases_lt, cell_cmp, cell_of, chain_in, chosen_log, chosen_state, epoch_at, false, half, inl, inr, is_clients}
use Rattle.law_run.proofs.Imports.{is_in, kept, length, live, nat_cmp, nat_cmp_total, none_some, own_below, own_place, own_plain, owns_of, place_by}
use Rattle.law_run.proofs.Imports.{prefix_itself, prefix_long, prefix_on, progress, refl, runs_now, same_cell_or_apart, seen, server_state, stage_at}
use Rattle.law_run.proofs.Imports.{stage_facts, subst, sym, taking, true, true_false, write_stays, ℕ}
use Rattle.law_run.specs.MachineTies.{Ground, IsRemembered, Is_pending, Was_pending}
use Rattle.law_run.proofs.StoresThatCount.{of_kept}
use Rattle.law_run.proofs.EntryAtEpoch.{AreUpTo}
use Rattle.law_run.proofs.OwnPlacesAreLatest.{IsSharing, alive_here, heard_shared, op_lives, op_seat, second_shares, sharing_last, store_there, visit_here}
use Rattle.law_run.proofs.OwnPlacesAreLatest.{own_there}
use Rattle.law_run.proofs.RunScenes.{Grounded}
use Rattle.petal_msg.specs.declared.body.Body.TheVariants as body
use Rattle.petal_msg.specs.declared.operation.FollowProgress.TheVariants as follow_progress

-- a cell is retired, or not
pub alive_or_retired : (state : State) (cell : Cell) → stage_at state cell ≤ 4 → AliveIn state cell ⊎ (stage_at state cell ≡ 4)
alive_or_retired state cell most = elim (cases_lt (stage_at state cell) 4) [ inl lt ↦ inl lt | inr le ↦ inr (omega arith) ]

-- ### Operations that are remembered

-- it is of a write that is known of at an incarnation, up to this place
pub record IsKnownUpTo (setting : Setting) (w : World) (lives : Lives) (n place : ℕ) (cell : Cell)
    (op : Pending) : Type 0 where
  pub inc : ℕ
  pub known : PendingFor setting (seen lives w) n inc (asked_for cell op) op.rev
  pub row : LinkRow
  pub linked : IsLinked setting known.upto cell row
  pub at : place_by setting known.upto row ≡ place

pub remembered : (setting : Setting) (w : World) (lives : Lives) → AskingBy setting w lives
    → (n place : ℕ) (cell : Cell) (op : Pending) → is_clients op.kind ≡ true
    → IsRemembered setting w lives n place cell op → IsKnownUpTo setting w lives n place cell op
remembered setting w lives asking n place cell op clients (Is_pending is row linked spot) = record {
  inc = lives.ran n;
  known = asking.pending n cell op is clients;
  row = row;
  linked = subst (λ log. IsLinked setting log cell row) (sym (asking.come n cell op is clients)) linked;
  at = ap (λ log. place_by setting log row) (asking.come n cell op is clients) ∙ spot;
}
remembered setting w lives asking n place cell op clients (Was_pending inc lt p row linked spot) =
    record { inc = inc; known = p; row = row; linked = linked; at = spot }

-- ### Entries

module _ (setting : Setting) (state : State) (w : World) (ground : Ground setting state w) where
  -- no entry is of an epoch that its server doesn't know of
  early_at : (i : ℕ) → AreEarly setting.servers (w.servers i).log.applied (kept setting w i)
  early_at i = of_kept (AreEarly setting.servers (w.servers i).log.applied) _ (w.before_blank i) (owns_of w i).store (ground.epochs.early.now i)
      (ground.epochs.early.before i)

  pub kept_up_to : (i : ℕ) (cell : Cell) (top : ℕ) → epoch_at (server_state setting w i) cell ≤ top
      → AreUpTo (chain_in (kept setting w i).chains cell) top
  kept_up_to i cell top le row there =
      let known = (early_at i).known cell row.0 row.1 (at_row nat_cmp_total (chain_in (kept setting w i).chains cell) row (ground.good.rising i cell) there) in
      omega arith

-- ### Operations at a server

module _ (g : Grounded) (steady : IsSteady g.state) (n : ℕ) where
  open g use {setting, w, firm, ground}

  abbrev here : JobContext
  here = own_place setting w n

  abbrev own : PairState
  own = owns_of w n

  abbrev hears : Body → Type 0
  hears = Handled w n

  abbrev pub IsRecalledAt : (p place : ℕ) → Cell → Pending → Type 0
  IsRecalledAt p place cell op = IsRemembered setting w ground.lives p place cell op

  -- it was opened by no more entries than the server has applied, at this place
  pub opened_within : (p place : ℕ) (cell : Cell) (op : Pending) (clients : is_clients op.kind ≡ true) (r : IsRecalledAt p place cell op)
      → op.rev ≤ length (remembered setting w ground.lives ground.asking p place cell op clients r).known.upto
  opened_within p place cell op clients r =
      let k = (remembered setting w ground.lives ground.asking p place cell op clients r).known in
      let long = k.known.sent.at.long in
      let le = prefix_long k.known.sent.at.prefix k.upto k.opened in
      omega arith

  -- the write of an operation that a server remembers, by what is chosen, where its cell takes writes still
  pub write_of : (p place : ℕ) (cell : Cell) (op : Pending) (clients : is_clients op.kind ≡ true) → IsRecalledAt p place cell op
      → IsTimely setting.servers (chosen_log setting w) cell op
      → IsWrite (chosen_state setting w) setting.lines op.client op.seq cell op.bytes
  write_of p place cell op clients r timely =
      let k = (remembered setting w ground.lives ground.asking p place cell op clients r).known in
      let whole = prefix_on k.known.sent.at.prefix k.upto _ k.opened (prefix_on k.upto _ (chosen_log setting w) k.applied (firm.servers p)) in
      write_stays setting.servers k.known.sent.at.prefix (chosen_log setting w) firm.plain whole setting.lines op.client op.seq cell op.bytes
      k.known.sent.served timely.born timely.stays

  -- ### Epochs

  -- a client's write of a server that runs is in time
  pub pending_timely : (p : ℕ) (cell : Cell) (op : Pending) → (w.servers p).life.running ≡ true
      → at cell_cmp (owns_of w p).pairs.pending cell ≡ Some op → is_clients op.kind ≡ true → IsTimely setting.servers (chosen_log setting w) cell op
  pending_timely p cell op runs is clients =
      let k = ground.asking.pending p cell op is clients in
      let opened = k.known.sent.at in
      let ran = ground.asking.lived.ran p runs in
      let seat = runs_now setting w firm p runs (op_seat g p cell op runs is) in
      ground.epochs.pending p (ground.lives.ran p) cell op opened.prefix (chosen_log setting w) is clients
      (prefix_on opened.prefix k.upto (chosen_log setting w) k.opened (prefix_on k.upto _ (chosen_log setting w) k.applied (firm.servers p)))
      (prefix_itself (chosen_log setting w)) opened.long (k.along opened.prefix (prefix_itself opened.prefix) k.opened).seated
      (subst (λ i. is_in (chosen_state setting w) p i ≡ true) (sym ran) seat)

  -- and is its client's, by what is chosen
  pub pending_write : (p : ℕ) (cell : Cell) (op : Pending) → (w.servers p).life.running ≡ true
      → at cell_cmp (owns_of w p).pairs.pending cell ≡ Some op → is_clients op.kind ≡ true
      → IsWrite (chosen_state setting w) setting.lines op.client op.seq cell op.bytes
  pending_write p cell op runs is clients =
      let k = ground.asking.pending p cell op is clients in
      let timely = pending_timely p cell op runs is clients in
      let whole = prefix_on k.known.sent.at.prefix k.upto _ k.opened (prefix_on k.upto _ (chosen_log setting w) k.applied (firm.servers p)) in
      write_stays setting.servers k.known.sent.at.prefix (chosen_log setting w) firm.plain whole setting.lines op.client op.seq cell op.bytes
      k.known.sent.served timely.born timely.stays

  -- so is one that was pending at the place of what is chosen
  pub recalled_timely : (p : ℕ) (cell : Cell) (row : LinkRow) (linked : IsLinked setting (chosen_log setting w) cell row) (visit : PairState)
      → ground.good.visits p (place_by setting (chosen_log setting w) row) cell ≡ Some visit → (op : Pending)
      → at cell_cmp visit.pairs.pending cell ≡ Some op → is_clients op.kind ≡ true
      → IsRecalledAt p (place_by setting (chosen_log setting w) row) cell op
      → IsTimely setting.servers (chosen_log setting w) cell op
  recalled_timely p cell row linked visit there op is clients r =
      let k = (remembered setting w ground.lives ground.asking p (place_by setting (chosen_log setting w) row) cell op clients r).known in
      let le = opened_within p (place_by setting (chosen_log setting w) row) cell op clients r in
      let long = prefix_long k.upto (chosen_log setting w) (prefix_on k.upto _ (chosen_log setting w) k.applied (firm.servers p)) in
      ground.epochs.place p (place_by setting (chosen_log setting w) row) cell visit.pairs op (chosen_log setting w) row
      (ground.good.came p (place_by setting (chosen_log setting w) row) cell visit there) is clients (prefix_itself (chosen_log setting w)) linked refl
      (omega arith)

  -- no operation is on a cell that is retired by the server's own state
  pub never_retired : (w.servers n).life.running ≡ true → NeverRetired here own
  never_retired runs now op taken off =
      let t = taking own now op taken in
      let there : at cell_cmp own.pairs.pending op.cell ≡ Some t.old = t.was in
      true_false (op_lives g n op.cell t.old runs there) off

  -- what is dropped of a cell that is not retired by what is chosen is nothing: the server does not know yet that it is live
  pub dropped_same : (new : Table Cell Chain) → Drops here own new → (q : Cell) → AliveIn (chosen_state setting w) q
      → chain_in new q ≡ chain_in own.store.chains q
  dropped_same new d q alive = elim (same_cell_or_apart q d.cell) [
    | inr ne ↦ d.others q ne
    | inl e ↦
        let empty = unborn q alive (ap (live here.state) e ∙ d.off) (chain_in own.store.chains q) refl in
        d.none q empty ∙ sym empty
  ]
    where
      unborn : (q : Cell) → AliveIn (chosen_state setting w) q → live here.state q ≡ false → (chain : Chain)
          → chain_in own.store.chains q ≡ chain → chain_in own.store.chains q ≡ []
      unborn q alive off [] e = e
      unborn q alive off (row ∷ rows) e =
          let low = (ground.epochs.early.now n).lived q (λ f. let g : row ∷ rows ≡ [] = sym e ∙ f in absurd cc) in
          let up = (own_below setting w firm n).stages q in
          true_false ((stage_facts setting.servers (w.servers n).log.applied (own_plain setting w firm n) q).alive low (omega arith)) off

  -- ### A second server that follows

  -- it was asked to by an operation that the first one had pending at the place
  pub record Followed (number : ℕ) (key : Key) (bytes : List ℕ) : Type 0 where
    pub row : LinkRow
    pub shares : IsSharing g n (cell_of key) row
    pub second : row.secondary ≡ n
    pub own : PairState
    pub visited : ground.good.visits row.primary (place_by setting (w.servers n).log.applied row) (cell_of key) ≡ Some own
    pub putting : IsPutting (at cell_cmp own.pairs.pending (cell_of key)) number key bytes
    pub last : at cell_cmp (owns_of w n).pairs.last (cell_of key) ≡ Some (record { op = number; progress = follow_progress.Reserved })

  -- by its letter, and the slot that is set apart here
  putting_there : (visit : Option PairState) (store : Store) (cell : Cell) (number : ℕ) (key : Key) (bytes : List ℕ)
      → IsPutting (at cell_cmp (half visit store).pairs.pending cell) number key bytes
      → (own : PairState) × (visit ≡ Some own) × IsPutting (at cell_cmp own.pairs.pending cell) number key bytes
  putting_there None store cell number key bytes p = none_some (at-empty cell_cmp cell) p.is
  putting_there (Some own) store cell number key bytes p = (own, refl, p)

  pub followed : (w.servers n).life.running ≡ true → (new : Table Cell Chain) (a : PutsAsked hears here own new)
      → AliveIn (chosen_state setting w) (cell_of a.key)
      → Followed a.number a.key a.bytes
  followed runs new a alive =
      let cell = cell_of a.key in
      let s = second_shares g n cell runs a.seat a.seconds alive in
      let place = place_by setting (w.servers n).log.applied s.row in
      let last : at cell_cmp (half (ground.good.visits s.row.secondary place cell)
      (store_there g n s.row.secondary)).pairs.last cell
      ≡ Some (record { op = a.number; progress = follow_progress.Reserved }) =
      ap (λ k. at cell_cmp (half (ground.good.visits k place cell) (store_there g n k)).pairs.last cell) s.second
      ∙ ap (λ o. at cell_cmp (half o (store_there g n n)).pairs.last cell)
      (visit_here g n cell s.row runs a.seat s.shares.linked (alive_here g n cell alive)) ∙ a.last in
      let there = putting_there (ground.good.visits s.row.primary place cell) (store_there g n s.row.primary) cell
      a.number a.key a.bytes
      (elim (heard_shared g n cell s.row s.shares
      (body.Replicate a.number a.key a.version a.origin a.bytes) a.asked refl) [
        | inl putting ↦ putting
        | inr past ↦ (let at : progress _ ≡ a.number + a.number = ap progress last in absurd (omega arith))
      ]) in
      record { row = s.row; shares = s.shares; second = s.second; own = there.0; visited = there.1; putting = there.2; last = a.last }

  module _ (number : ℕ) (key : Key) (bytes : List ℕ) (f : Followed number key bytes) (clients : is_clients f.putting.op.kind ≡ true) where
    -- a client's write is remembered, since no server that serves the link has been further
    pub followed_recalled : IsRecalledAt f.row.primary (place_by setting (w.servers n).log.applied f.row) (cell_of key) f.putting.op
    followed_recalled =
        ground.recalled (w.servers n).log.applied (cell_of key) f.row f.row.primary f.own f.putting.op
        (firm.servers n) f.shares.linked f.shares.both
        (sharing_last g n (cell_of key) f.row f.shares) f.visited f.putting.is clients

    -- and it is in time
    pub followed_timely : IsTimely setting.servers (chosen_log setting w) (cell_of key) f.putting.op
    followed_timely =
        let place = place_by setting (w.servers n).log.applied f.row in
        let m = remembered setting w ground.lives ground.asking f.row.primary place (cell_of key) f.putting.op clients followed_recalled in
        ground.epochs.second f.row.primary n (cell_of key) f.own.pairs f.putting.op f.row f.shares.runs f.shares.seat f.shares.linked f.shares.both
        refl f.second (ground.good.came f.row.primary place (cell_of key) f.own f.visited) f.putting.is clients m.known.upto m.row
        (prefix_on m.known.upto _ (chosen_log setting w) m.known.applied (firm.servers f.row.primary)) m.linked m.at
        (opened_within f.row.primary place (cell_of key) f.putting.op clients followed_recalled)

    pub followed_epoch : epoch_at (chosen_state setting w) (cell_of key) ≡ key.epoch
    followed_epoch = followed_timely.epoch ∙ ap (λ (k : Key). k.epoch) f.putting.key_is

  -- a fill: its cell is coming, it is of a frozen entry, and the server has nothing of its epoch
  module _ (number : ℕ) (key : Key) (bytes : List ℕ) (f : Followed number key bytes) (fill : is_clients f.putting.op.kind ≡ false) where
    abbrev spot : ℕ
    spot = place_by setting (w.servers n).log.applied f.row

    was_there : WasThere setting ground.records f.row.primary spot (cell_of key) f.own.pairs
    was_there = ground.good.came f.row.primary spot (cell_of key) f.own f.visited

    asked_last : progress (at cell_cmp own.pairs.last (cell_of key)) ≤ f.putting.op.op + f.putting.op.op
    asked_last = let e = ap progress f.last in let number_is = f.putting.number_is in omega arith

    pub followed_comes : stage_at (chosen_state setting w) (cell_of key) ≡ 1
    followed_comes =
        ground.moves.second f.row.primary n (cell_of key) f.own.pairs f.putting.op f.row f.shares.runs f.shares.seat f.shares.linked f.shares.both
        refl f.second was_there f.putting.is fill asked_last (let alive = f.shares.alive in omega arith)

    pub followed_frozen : IsFrozen setting w f.putting.op.rev key bytes
    followed_frozen =
        subst (λ (k : Key). IsFrozen setting w f.putting.op.rev k bytes) f.putting.key_is
        (subst (IsFrozen setting w f.putting.op.rev f.putting.op.key) f.putting.bytes_is
        (ground.moves.filling f.row.primary spot (cell_of key) f.own.pairs f.putting.op was_there f.putting.is fill))

    pub followed_lacks : at nat_cmp (chain_in own.store.chains (cell_of key)) key.epoch ≡ None
    followed_lacks =
        let cell = cell_of key in
        let q = f.row.secondary in
        let twins = (ground.good.both (w.servers n).log.applied cell f.row (firm.servers n) f.shares.linked f.shares.both).twins f.shares.alive
        (sharing_last g n cell f.row f.shares) in
        let there = store_there g n in
        let last : at cell_cmp (half (ground.good.visits q spot cell) (there q)).pairs.last cell
        ≡ Some (record { op = number; progress = follow_progress.Reserved }) =
        ap (λ k. at cell_cmp (half (ground.good.visits k spot cell) (there k)).pairs.last cell) f.second
        ∙ ap (λ o. at cell_cmp (half o (there n)).pairs.last cell)
        (visit_here g n cell f.row f.shares.runs f.shares.seat f.shares.linked
        (alive_here g n cell f.shares.alive)) ∙ f.last in
        let low = ap progress last in
        let number_is = f.putting.number_is in
        ap (λ (s : Store). at nat_cmp (chain_in s.chains cell) key.epoch)
        (sym (ap there f.second ∙ own_there g n f.shares.runs f.shares.seat))
        ∙ ap (λ (k : Key). at nat_cmp (chain_in (there q).chains cell) k.epoch) (sym f.putting.key_is)
        ∙ twins.lacks f.own f.putting.op f.visited f.putting.is fill (omega arith)
