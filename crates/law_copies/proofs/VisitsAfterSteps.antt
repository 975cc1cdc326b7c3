-- Where servers have been, once one of them has done a step.
use Rattle.law_copies.proofs.Imports.{[], if◌then◌else◌, ◌&&◌, ◌++◌, ◌==◌, ◌∙◌, ◌∷◌, ◌≡◌, ◌≢◌, ◌≤◌, ◌⊎◌, Bool, Cell, Command, IsPrefix, IsRising, LinkRow}
use Rattle.law_copies.proofs.Imports.{List, None, Only, Option, PairState, Record, Server, Setting, Some, State, Store, WasStarted, World, ap, arith}
use Rattle.law_copies.proofs.Imports.{blank_joins_in, both_true, by_bool, cell_link, chain_in, false, id_of, inl, inr, is_flagged, is_in, is_some, max}
use Rattle.law_copies.proofs.Imports.{nat_cmp, nat_eq, number_itself, option_map, option_map_or, prefix_itself, prefix_on, same_numbers, same_or_apart}
use Rattle.law_copies.proofs.Imports.{server_state, serves, some_or_none, split_last, start, state_after, state_in, subst, sym, true, true_false, with_store}
use Rattle.law_copies.proofs.Imports.{world_after, ℕ}
use Rattle.law_copies.specs.Visits.{AliveIn, AreReached, HasBeen, HasReached, IsHere, IsLinked, IsPlaced, Visits, is_alive, is_at, place_by, place_on}
use Rattle.law_copies.specs.Visits.{store_by, visited}
use Rattle.law_copies.proofs.AtStep.{AtStep}
use Rattle.law_copies.proofs.PlacesByPrefixes.{one_row, reached_on}

-- ### Where a server is

alive_so : (state : State) (cell : Cell) → AliveIn state cell → is_alive state cell ≡ true
alive_so state cell alive = grind arith

so_alive : (state : State) (cell : Cell) → is_alive state cell ≡ true → AliveIn state cell
so_alive state cell e = grind arith

-- the server is In as itself, at this place of the cell's link, and the cell is not retired
pub record IsAt (setting : Setting) (n : ℕ) (server : Server) (place : ℕ) (cell : Cell) : Type 0 where
  pub row : LinkRow
  pub linked : IsLinked setting server.log.applied cell row
  pub seat : is_in (state_in setting.servers server.log) n server.life.inc ≡ true
  pub alive : AliveIn (state_in setting.servers server.log) cell
  pub at : place ≡ place_by setting server.log.applied row

module _ (setting : Setting) (n : ℕ) (server : Server) where
  pub is_at_so : (cell : Cell) (row : LinkRow) → IsLinked setting server.log.applied cell row
      → is_in (state_in setting.servers server.log) n server.life.inc ≡ true → AliveIn (state_in setting.servers server.log) cell
      → is_at setting n server (place_by setting server.log.applied row) cell ≡ true
  is_at_so cell row is seat alive =
      let place = place_by setting server.log.applied row in
      ap (λ b. b && (is_alive (state_in setting.servers server.log) cell && option_map_or (nat_eq place) (place_on setting server cell) false)) seat
      ∙ ap (λ b. b && option_map_or (nat_eq place) (place_on setting server cell) false) (alive_so (state_in setting.servers server.log) cell alive)
      ∙ ap (λ o. option_map_or (nat_eq place) (option_map (λ r. place_by setting server.log.applied r) o) false) is
      ∙ number_itself place

  pub at_by : (place : ℕ) (cell : Cell) → is_at setting n server place cell ≡ true → IsAt setting n server place cell
  at_by place cell e =
      let there = option_map_or (nat_eq place) (place_on setting server cell) false in
      let alive = is_alive (state_in setting.servers server.log) cell in
      let two = both_true (is_in (state_in setting.servers server.log) n server.life.inc) (alive && there) e in
      let last = both_true alive there two.1 in
      elim (some_or_none (cell_link (state_in setting.servers server.log) cell)) [
        | inl h ↦ record {
          row = h.0;
          linked = h.1;
          seat = two.0;
          alive = so_alive (state_in setting.servers server.log) cell last.0;
          at = same_numbers place (place_by setting server.log.applied h.0)
              (sym (ap (λ o. option_map_or (nat_eq place) (option_map (λ r. place_by setting server.log.applied r) o) false) h.1) ∙ last.1);
        }
        | inr none ↦ true_false last.1 (ap (λ o. option_map_or (nat_eq place) (option_map (λ r. place_by setting server.log.applied r) o) false) none)
      ]

  -- the place at which it serves the link, or 0
  abbrev place_served : Option LinkRow → ℕ
  place_served o = option_map_or (λ row. if serves n row row.state then place_by setting server.log.applied row else 0) o 0

  abbrev is_seated : Cell → Bool
  is_seated cell = is_in (state_in setting.servers server.log) n server.life.inc && is_alive (state_in setting.servers server.log) cell

  abbrev pub served_at : Cell → ℕ
  served_at cell = if is_seated cell then place_served (cell_link (state_in setting.servers server.log) cell) else 0

  seated_so : (cell : Cell) → is_in (state_in setting.servers server.log) n server.life.inc ≡ true → AliveIn (state_in setting.servers server.log) cell
      → is_seated cell ≡ true
  seated_so cell seat alive =
      ap (λ b. b && is_alive (state_in setting.servers server.log) cell) seat ∙ alive_so (state_in setting.servers server.log) cell alive

  pub served_so : (cell : Cell) (row : LinkRow) → IsLinked setting server.log.applied cell row
      → is_in (state_in setting.servers server.log) n server.life.inc ≡ true → AliveIn (state_in setting.servers server.log) cell
      → serves n row row.state ≡ true → served_at cell ≡ place_by setting server.log.applied row
  served_so cell row is seat alive serving =
      ap (λ b. if b then place_served (cell_link (state_in setting.servers server.log) cell) else 0) (seated_so cell seat alive)
      ∙ ap place_served is
      ∙ ap (λ b. if b then place_by setting server.log.applied row else 0) serving

  -- it serves the link there
  pub record ServesAt (cell : Cell) (place : ℕ) : Type 0 where
    pub placed : IsPlaced setting server.log.applied cell place
    pub open placed use *
    pub seat : is_in (state_in setting.servers server.log) n server.life.inc ≡ true
    pub serving : serves n row row.state ≡ true

  pub served_by : (cell : Cell) → (served_at cell ≡ 0) ⊎ ServesAt cell (served_at cell)
  served_by cell = by_bool (is_seated cell)
      (λ on.
      let two = both_true (is_in (state_in setting.servers server.log) n server.life.inc) (is_alive (state_in setting.servers server.log) cell) on in
      let alive = so_alive (state_in setting.servers server.log) cell two.1 in
      let seated : served_at cell ≡ place_served (cell_link (state_in setting.servers server.log) cell) =
      ap (λ b. if b then place_served (cell_link (state_in setting.servers server.log) cell) else 0) on in
      elim (some_or_none (cell_link (state_in setting.servers server.log) cell)) [
        | inl h ↦ by_bool (serves n h.0 h.0.state)
            (λ serving. inr (record {
              placed = record { row = h.0; linked = h.1; alive = alive; at = sym (served_so cell h.0 h.1 two.0 alive serving) };
              seat = two.0;
              serving = serving;
            }))
            (λ off. inl (seated ∙ ap place_served h.1 ∙ ap (λ b. if b then place_by setting server.log.applied h.0 else 0) off))
        | inr none ↦ inl (seated ∙ ap place_served none)
      ])
      (λ out. inl (ap (λ b. if b then place_served (cell_link (state_in setting.servers server.log) cell) else 0) out))

-- what a server is at a place: its own part as it is in this world, where it is there, and else what it was
abbrev pub seen : Setting → Visits → World → Visits
seen setting visits v n place cell = if is_at setting n (v.servers n) place cell then Some (v.servers n).own else visits n place cell

-- the world after these records, but for stores
abbrev pub IsThen : Setting → List Record → World → Type 0
IsThen setting records v = (n : ℕ) → with_store ((world_after setting (start setting) records).servers n) (v.servers n).own.store ≡ v.servers n

-- ### A step of a server

module _ (it : AtStep) where
  open it use {setting, records, top, w, v, k, server, good, step}

  abbrev prefix : List Command
  prefix = server.log.applied

  abbrev pub later : Visits
  later = visited setting good.visits k server

  abbrev pub counted : Cell → ℕ
  counted cell = max (good.reached cell) (served_at setting k server cell)

  pub counted_up : (cell : Cell) → good.reached cell ≤ counted cell
  counted_up cell = omega arith

  -- ### Visits

  -- what the server is at a place where it is now
  pub visited_here : (cell : Cell) (row : LinkRow) → IsLinked setting prefix cell row → is_in (state_in setting.servers server.log) k server.life.inc ≡ true
      → AliveIn (state_in setting.servers server.log) cell → later k (place_by setting prefix row) cell ≡ Some server.own
  visited_here cell row is seat alive =
      ap (λ b. if b && is_at setting k server (place_by setting prefix row) cell then Some server.own else good.visits k (place_by setting prefix row) cell)
      (number_itself k)
      ∙ ap (λ b. if b then Some server.own else good.visits k (place_by setting prefix row) cell) (is_at_so setting k server cell row is seat alive)

  -- the visit is the server's as it is now, or as it was
  pub record IsNow (n place : ℕ) (cell : Cell) : Type 0 where
    pub who : n ≡ k
    pub there : IsAt setting k server place cell
    pub is : later n place cell ≡ Some server.own

  pub visited_by : (n place : ℕ) (cell : Cell) → (later n place cell ≡ good.visits n place cell) ⊎ IsNow n place cell
  visited_by n place cell = by_bool ((n == k) && is_at setting k server place cell)
      (λ on.
      let two = both_true (n == k) (is_at setting k server place cell) on in
      inr (record {
        who = same_numbers n k two.0;
        there = at_by setting k server place cell two.1;
        is = ap (λ b. if b then Some server.own else good.visits n place cell) on;
      }))
      (λ off. inl (ap (λ b. if b then Some server.own else good.visits n place cell) off))

  pub visited_apart : (n place : ℕ) (cell : Cell) → n ≢ k → later n place cell ≡ good.visits n place cell
  visited_apart n place cell ne = elim (visited_by n place cell) [ inl same ↦ same | inr now ↦ absurd (ne now.who) ]

  -- another place stays as it was
  pub visited_beside : (n place : ℕ) (cell : Cell) → (IsAt setting k server place cell → ⊥) → later n place cell ≡ good.visits n place cell
  visited_beside n place cell away = elim (visited_by n place cell) [ inl same ↦ same | inr now ↦ absurd (away now.there) ]

  -- who was at a place still was
  pub none_before : (n place : ℕ) (cell : Cell) → later n place cell ≡ None → good.visits n place cell ≡ None
  none_before n place cell none = elim (visited_by n place cell) [ inl same ↦ sym same ∙ none | inr now ↦ none_now now.is none ]
    where
      none_now : {B : Type 0} {o : Option PairState} {x : PairState} → o ≡ Some x → o ≡ None → B
      none_now e f = true_false (ap is_some e) (ap is_some f)

  pub some_after : (n place : ℕ) (cell : Cell) → is_some (good.visits n place cell) ≡ true → is_some (later n place cell) ≡ true
  some_after n place cell there = elim (visited_by n place cell) [ inl same ↦ ap is_some same ∙ there | inr now ↦ ap is_some now.is ]

  -- ### Where a server stands then

  seat_now : is_in (server_state setting v k) k (v.servers k).life.inc ≡ true → is_in (state_in setting.servers server.log) k server.life.inc ≡ true
  seat_now seat = subst (λ (s : Server). is_in (state_in setting.servers s.log) k s.life.inc ≡ true) step.here seat

  alive_now : (cell : Cell) → AliveIn (server_state setting v k) cell → AliveIn (state_in setting.servers server.log) cell
  alive_now cell alive = subst (λ (s : Server). AliveIn (state_in setting.servers s.log) cell) step.here alive

  pub here_now : (n : ℕ) (cell : Cell) (row : LinkRow) → IsLinked setting (v.servers n).log.applied cell row
      → is_in (server_state setting v n) n (v.servers n).life.inc ≡ true → AliveIn (server_state setting v n) cell → IsHere setting v later n cell row
  here_now n cell row = elim (same_or_apart n k) [
    | inl e ↦ subst (λ m. IsLinked setting (v.servers m).log.applied cell row → is_in (server_state setting v m) m (v.servers m).life.inc ≡ true
        → AliveIn (server_state setting v m) cell → IsHere setting v later m cell row)
        (sym e)
        (λ is seat alive. record {
          own = server.own;
          is = ap (λ (s : Server). later k (place_by setting s.log.applied row) cell) step.here
              ∙ visited_here cell row (subst (λ (s : Server). IsLinked setting s.log.applied cell row) step.here is) (seat_now seat) (alive_now cell alive);
          same = ap (λ (s : Server). s.own) (sym step.here);
        })
    | inr ne ↦ (λ is seat alive.
        let same = step.others n ne in
        let was = good.here n cell row (subst (λ (s : Server). IsLinked setting s.log.applied cell row) same is)
        (subst (λ (s : Server). is_in (state_in setting.servers s.log) n s.life.inc ≡ true) same seat)
        (subst (λ (s : Server). AliveIn (state_in setting.servers s.log) cell) same alive) in
        record {
          own = was.own;
          is = ap (λ (s : Server). later n (place_by setting s.log.applied row) cell) same ∙ visited_apart n _ cell ne ∙ was.is;
          same = was.same ∙ ap (λ (s : Server). s.own) (sym same);
        })
  ]

  has_been : (n place : ℕ) (cell : Cell) → HasBeen setting w n place cell → HasBeen setting v n place cell
  has_been n place cell was = record {
    prefix = was.prefix;
    within = elim (same_or_apart n k) [
      | inl e ↦ subst (λ m. IsPrefix was.prefix (v.servers m).log.applied) (sym e)
          (subst (λ (s : Server). IsPrefix was.prefix s.log.applied) (sym step.here)
          (prefix_on was.prefix (w.servers k).log.applied prefix (subst (λ m. IsPrefix was.prefix (w.servers m).log.applied) e was.within) step.onward))
      | inr ne ↦ subst (λ (s : Server). IsPrefix was.prefix s.log.applied) (sym (step.others n ne)) was.within
    ];
    placed = was.placed;
  }

  pub been_now : (n place : ℕ) (cell : Cell) (own : PairState) → later n place cell ≡ Some own → HasBeen setting v n place cell
  been_now n place cell own e = elim (visited_by n place cell) [
    | inl same ↦ has_been n place cell (good.been n place cell own (sym same ∙ e))
    | inr now ↦ record {
      prefix = prefix;
      within = subst (λ m. IsPrefix prefix (v.servers m).log.applied) (sym now.who)
          (subst (λ (s : Server). IsPrefix prefix s.log.applied) (sym step.here) (prefix_itself prefix));
      placed = record { row = now.there.row; linked = now.there.linked; alive = now.there.alive; at = sym now.there.at };
    }
  ]

  -- each server's visits then: its own part as it is, where it is at the place, and else what they were
  pub all_visited : (n place : ℕ) (cell : Cell) → later n place cell ≡ seen setting good.visits v n place cell
  all_visited n place cell = elim (same_or_apart n k) [
    | inl e ↦ subst (λ m. later m place cell ≡ seen setting good.visits v m place cell) (sym e) mine
    | inr ne ↦
        let was = step.others n ne in
        visited_apart n place cell ne
        ∙ by_bool (is_at setting n (w.servers n) place cell)
        (λ on.
        let at = at_by setting n (w.servers n) place cell on in
        let h = good.here n cell at.row at.linked at.seat at.alive in
        ap (λ p. good.visits n p cell) at.at ∙ h.is ∙ ap Some h.same
        ∙ sym (ap (λ b. if b then Some (w.servers n).own else good.visits n place cell) on))
        (λ off. sym (ap (λ b. if b then Some (w.servers n).own else good.visits n place cell) off))
        ∙ ap (λ (s : Server). if is_at setting n s place cell then Some s.own else good.visits n place cell) (sym was)
  ]
    where
      mine : later k place cell ≡ seen setting good.visits v k place cell
      mine =
          ap (λ b. if b && is_at setting k server place cell then Some server.own else good.visits k place cell) (number_itself k)
          ∙ ap (λ (s : Server). if is_at setting k s place cell then Some s.own else good.visits k place cell) (sym step.here)

  -- ### Places that count

  pub reaching_now : AreReached setting top later counted
  reaching_now = record { below = below; by = by }
    where
      below : (f : List Command) (cell : Cell) (row : LinkRow) (n : ℕ) (own : PairState) → IsPrefix f top → IsLinked setting f cell row
          → serves n row row.state ≡ true → later n (place_by setting f row) cell ≡ Some own → place_by setting f row ≤ counted cell
      below f cell row n own is_prefix is serving e = elim (visited_by n (place_by setting f row) cell) [
        | inl same ↦ (
            let le = good.reaching.below f cell row n own is_prefix is serving (sym same ∙ e) in
            let up = counted_up cell in
            omega arith)
        | inr now ↦ (
            let there = now.there in
            let at = there.at in
            let one : there.row ≡ row = one_row setting top step.plain f prefix cell row there.row is_prefix step.within is there.linked at in
            let serves_it : serves k there.row there.row.state ≡ true =
            subst (λ m. serves m there.row there.row.state ≡ true) now.who (subst (λ (r : LinkRow). serves n r r.state ≡ true) (sym one) serving) in
            let same = served_so setting k server cell there.row there.linked there.seat there.alive serves_it in
            omega arith)
      ]

      old : (cell : Cell) → HasReached setting top good.visits cell (good.reached cell) → HasReached setting top later cell (good.reached cell)
      old cell r = elim (visited_by r.server (good.reached cell) cell) [
        | inl same ↦ reached_on r r.is_prefix r.own (same ∙ r.visited)
        | inr now ↦ reached_on r r.is_prefix server.own now.is
      ]

      either : (a b : ℕ) → (max a b ≡ a) ⊎ (max a b ≡ b)
      either a b = grind arith

      by : (cell : Cell) → (counted cell ≡ 0) ⊎ HasReached setting top later cell (counted cell)
      by cell = elim (either (good.reached cell) (served_at setting k server cell)) [
        | inl e ↦ elim (good.reaching.by cell) [ inl none ↦ inl (e ∙ none) | inr r ↦ inr (subst (HasReached setting top later cell) (sym e) (old cell r)) ]
        | inr e ↦ elim (served_by setting k server cell) [
          | inl none ↦ inl (e ∙ none)
          | inr s ↦ inr (subst (HasReached setting top later cell) (sym e)
              (record {
                prefix = prefix;
                is_prefix = step.within;
                placed = s.placed;
                server = k;
                serving = s.serving;
                own = server.own;
                visited = ap (λ place. later k place cell) (sym s.at) ∙ visited_here cell s.row s.linked s.seat s.alive;
              }))
        ]
      ]

  -- ### Stores

  -- the stores then: the server's last one is what it has now
  abbrev pub stored : ℕ → ℕ → Store
  stored n joins = if (n == k) && (joins == blank_joins_in setting top k) then server.own.store else good.stores n joins

  pub stored_here : stored k (blank_joins_in setting top k) ≡ server.own.store
  stored_here = ap (λ b. if b then server.own.store else good.stores k (blank_joins_in setting top k))
      (ap (λ b. b && (blank_joins_in setting top k == blank_joins_in setting top k)) (number_itself k) ∙ number_itself (blank_joins_in setting top k))

  -- it is that one, or is as it was
  stored_of : (n joins : ℕ) → (stored n joins ≡ good.stores n joins)
      ⊎ ((n ≡ k) × (joins ≡ blank_joins_in setting top k) × (stored n joins ≡ server.own.store))
  stored_of n joins = by_bool ((n == k) && (joins == blank_joins_in setting top k))
      (λ on.
      let two = both_true (n == k) (joins == blank_joins_in setting top k) on in
      inr (
        same_numbers n k two.0,
        same_numbers joins (blank_joins_in setting top k) two.1,
        ap (λ b. if b then server.own.store else good.stores n joins) on,
      ))
      (λ off. inl (ap (λ b. if b then server.own.store else good.stores n joins) off))

  pub stored_apart : (n joins : ℕ) → n ≢ k → stored n joins ≡ good.stores n joins
  stored_apart n joins ne = elim (stored_of n joins) [ inl same ↦ same | inr now ↦ absurd (ne now.0) ]

  pub stored_frozen : (n joins : ℕ) → joins ≢ blank_joins_in setting top k → stored n joins ≡ good.stores n joins
  stored_frozen n joins ne = elim (stored_of n joins) [ inl same ↦ same | inr now ↦ absurd (ne now.1) ]

  -- by a prefix after which the server has joined no more
  pub stored_by : (f : List Command) → blank_joins_in setting f k ≡ blank_joins_in setting top k → store_by setting stored f k ≡ server.own.store
  stored_by f same = ap (stored k) same ∙ stored_here

  pub was_stored : (f : List Command) → blank_joins_in setting f k ≡ blank_joins_in setting top k → store_by setting good.stores f k ≡ (w.servers k).own.store
  was_stored f same = ap (good.stores k) same ∙ good.now k

  pub now_then : (n : ℕ) → stored n (blank_joins_in setting top n) ≡ (v.servers n).own.store
  now_then n = elim (same_or_apart n k) [
    | inl e ↦ subst (λ m. stored m (blank_joins_in setting top m) ≡ (v.servers m).own.store) (sym e)
        (stored_here ∙ ap (λ (s : Server). s.own.store) (sym step.here))
    | inr ne ↦ stored_apart n (blank_joins_in setting top n) ne ∙ good.now n ∙ ap (λ (s : Server). s.own.store) (sym (step.others n ne))
  ]

  pub ever_then : ((cell : Cell) → IsRising nat_cmp (chain_in server.own.store.chains cell)) → (n joins : ℕ) (cell : Cell)
      → IsRising nat_cmp (chain_in (stored n joins).chains cell)
  ever_then rising n joins cell = elim (stored_of n joins) [
    | inl same ↦ subst (λ (s : Store). IsRising nat_cmp (chain_in s.chains cell)) (sym same) (good.ever n joins cell)
    | inr now ↦ subst (λ (s : Store). IsRising nat_cmp (chain_in s.chains cell)) (sym now.2) (rising cell)
  ]

  -- ### Ballots that were started

  -- the server forgets no ballot for the Caught of a link that it holds alone, while it stays at the link's place
  abbrev pub KeepsFlags : Type 0
  KeepsFlags = (cell : Cell) (row : LinkRow) (own : PairState) (whole : Bool) → IsLinked setting prefix cell row
      → AliveIn (state_in setting.servers server.log) cell → row.state ≡ Only k whole
      → is_in (state_in setting.servers server.log) k server.life.inc ≡ true
      → good.visits k (place_by setting prefix row) cell ≡ Some own → is_flagged own (id_of row) ≡ true → is_flagged server.own (id_of row) ≡ true

  module _ (own : Record) (then_is : IsThen setting (records ++ own ∷ []) v) (flags : KeepsFlags) where
    pub started_now : (holder inc : ℕ) (whole : Bool) (f : List Command) (cell : Cell) (row : LinkRow) → IsPrefix f top → IsLinked setting f cell row
        → AliveIn (state_after setting.servers f) cell → row.state ≡ Only holder whole → is_in (state_after setting.servers f) holder inc ≡ true
        → WasStarted setting (records ++ own ∷ []) holder inc f (id_of row)
        → (o : PairState) × (later holder (place_by setting f row) cell ≡ Some o) × (is_flagged o (id_of row) ≡ true)
    started_now holder inc whole f cell row is_prefix is alive alone seat was = elim (split_last records own was.before was.later was.is) [
      | inl all ↦ now (subst (λ rs. IsThen setting rs v) (sym all) then_is)
      | inr more ↦ still (good.started holder inc whole f cell row is_prefix is alive alone seat
          (record { before = was.before; later = more.0; is = more.1; lives = was.lives; at = was.at; minded = was.minded }))
    ]
      where
        now : IsThen setting was.before v
            → (o : PairState) × (later holder (place_by setting f row) cell ≡ Some o) × (is_flagged o (id_of row) ≡ true)
        now e =
            let at : (v.servers holder).log.applied ≡ f = sym (ap (λ (s : Server). s.log.applied) (e holder)) ∙ was.at in
            let lives : (v.servers holder).life.inc ≡ inc = sym (ap (λ (s : Server). s.life.inc) (e holder)) ∙ was.lives in
            let minded : is_flagged (v.servers holder).own (id_of row) ≡ true =
            sym (ap (λ (s : Server). is_flagged s.own (id_of row)) (e holder)) ∙ was.minded in
            let h = here_now holder cell row (subst (λ g. IsLinked setting g cell row) (sym at) is)
            (subst (λ i. is_in (server_state setting v holder) holder i ≡ true) (sym lives)
            (subst (λ g. is_in (state_after setting.servers g) holder inc ≡ true) (sym at) seat))
            (subst (λ g. AliveIn (state_after setting.servers g) cell) (sym at) alive) in
            (h.own, ap (λ g. later holder (place_by setting g row) cell) (sym at) ∙ h.is, ap (λ (o : PairState). is_flagged o (id_of row)) h.same ∙ minded)

        still : (o : PairState) × (good.visits holder (place_by setting f row) cell ≡ Some o) × (is_flagged o (id_of row) ≡ true)
            → (o : PairState) × (later holder (place_by setting f row) cell ≡ Some o) × (is_flagged o (id_of row) ≡ true)
        still h = elim (visited_by holder (place_by setting f row) cell) [
          | inl same ↦ (h.0, same ∙ h.1, h.2)
          | inr is_now ↦ (
              let there = is_now.there in
              let one : there.row ≡ row = one_row setting top step.plain f prefix cell row there.row is_prefix step.within is there.linked there.at in
              let before : good.visits k (place_by setting prefix there.row) cell ≡ Some h.0 =
              ap (λ place. good.visits k place cell) (sym there.at) ∙ subst (λ m. good.visits m (place_by setting f row) cell ≡ Some h.0) is_now.who h.1 in
              let mine : there.row.state ≡ Only k whole = ap (λ (r : LinkRow). r.state) one ∙ alone ∙ ap (λ n. Only n whole) is_now.who in
              let flagged = flags cell there.row h.0 whole there.linked there.alive mine there.seat before
              (ap (λ (r : LinkRow). is_flagged h.0 (id_of r)) one ∙ h.2) in
              (server.own, is_now.is, ap (λ (r : LinkRow). is_flagged server.own (id_of r)) (sym one) ∙ flagged))
        ]

-- ### Names for what is then

-- visits, places that count and stores once the step is done, and the stores by a prefix of the log before and then
pub record Then : Type 0 where
  pub visits : Visits
  pub reached : Cell → ℕ
  pub next : ℕ → ℕ → Store
  pub olds : List Command → ℕ → Store
  pub news : List Command → ℕ → Store

abbrev pub then_of : AtStep → Then
then_of it = record {
  visits = later it;
  reached = counted it;
  next = stored it;
  olds = store_by it.setting it.good.stores;
  news = store_by it.setting (stored it);
}
