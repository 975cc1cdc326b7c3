-- What a server that runs relies on at its own place of a cell's link: that no server that serves the link has been further, and what the
-- other server has in memory of the place.
use Rattle.law_run.proofs.Imports.{[], ◌&&◌, ◌++◌, ◌∙◌, ◌∷◌, ◌≡◌, ◌≤◌, ◌⊎◌, AliveIn, AreCopies, AreTwins, Body, Both, Cell, Command, Handled, HasProperTuples}
use Rattle.law_run.proofs.Imports.{HasStage, IsHeldBy, IsLast, IsLinked, IsPrefix, IsStaged, Join, LinkRow, List, None, Only, Option, Pair, PairOk, PairState}
use Rattle.law_run.proofs.Imports.{Pending, Setting, Some, Store, about, alive_on, alone_authority, alone_not_both, ap, arith, at, at-empty, authority}
use Rattle.law_run.proofs.Imports.{blank_joins_in, both_last, both_row, both_since, by_bool, cell_cmp, chain_in, chosen_log, chosen_state, counted, far, half}
use Rattle.law_run.proofs.Imports.{half_store, has_proposed, has_server, heard_there, held_as_flag, holds_since, in_both, inl, inr, is_alone_on, is_clients}
use Rattle.law_run.proofs.Imports.{is_in, is_lead, is_second, is_the_one, kept, lead, led_by, linked_alive, linked_between, live, live_stage, none_some}
use Rattle.law_run.proofs.Imports.{one_before, one_row, op_there, own_below, own_plain, own_steady, owns_of, pair_at, pair_of, place_by, place_of_later}
use Rattle.law_run.proofs.Imports.{place_touched, places_up, prefix_itself, prefix_more, prefix_on, primary_is_one, reached_here, ready_chosen, refl}
use Rattle.law_run.proofs.Imports.{retired_second, rows_later, runs_now, second, second_by, secondary_is_one, server_state, serves, so_alone, so_both}
use Rattle.law_run.proofs.Imports.{stage_at, stage_facts, subst, sym, top_last, true, true_false, ℕ}
use Rattle.law_copies.specs.Pair.{Known}
use Rattle.law_run.proofs.FirstIsOneAhead.{unfollowed_equal}
use Rattle.law_run.proofs.BlankedServeNothing.{more_joins}
use Rattle.law_run.proofs.RunScenes.{Grounded}

-- ### What is remembered of a place

-- where none is, the copies are equal
pub equal_pair : (one other : Option PairState) (a b : Store) (cell : Cell) → PairOk (pair_of (half one a) (half other b) cell)
    → ((own : PairState) → one ≡ Some own → at cell_cmp own.pairs.pending cell ≡ None) → chain_in a.chains cell ≡ chain_in b.chains cell
equal_pair one other a b cell ok none =
    ap (λ (s : Store). chain_in s.chains cell) (sym (half_store one a))
    ∙ by (pair_of (half one a) (half other b) cell) (at cell_cmp (half one a).pairs.pending cell) refl ok.copies
    ∙ ap (λ (s : Store). chain_in s.chains cell) (half_store other b)
  where
    by : (pair : Pair) (o : Option Pending) → at cell_cmp (half one a).pairs.pending cell ≡ o
        → AreCopies pair.first pair.second (far pair) o
        → pair.first ≡ pair.second
    by pair None is same = same
    by pair (Some op) is copies = let t = op_there one a cell op is in none_some (none t.0 t.1) t.2

-- nor are they other where the second server was not there
pub unfollowed_halves : (one other : Option PairState) (a b : Store) (cell : Cell) → PairOk (pair_of (half one a) (half other b) cell) → other ≡ None
    → chain_in a.chains cell ≡ chain_in b.chains cell
unfollowed_halves one other a b cell ok none =
    ap (λ (s : Store). chain_in s.chains cell) (sym (half_store one a))
    ∙ unfollowed_equal (pair_of (half one a) (half other b) cell) ok
    (ap (λ o. at cell_cmp (half o b).pairs.last cell) none ∙ at-empty cell_cmp cell)
    ∙ ap (λ (s : Store). chain_in s.chains cell) (half_store other b)

-- at one place of a link none of its servers has joined with an empty store since
place_joins : (setting : Setting) (whole : List Command) → HasProperTuples setting.servers whole → (prefix : List Command) (cell : Cell) (row now : LinkRow)
    → IsPrefix prefix whole → IsLinked setting prefix cell row → IsLinked setting whole cell now
    → place_by setting prefix row ≡ place_by setting whole now → (n : ℕ) → has_server n row ≡ true
    → blank_joins_in setting whole n ≡ blank_joins_in setting prefix n
place_joins setting whole all prefix cell row now is_prefix is end same n has = elim (more_joins setting.servers n prefix whole is_prefix) [
  | inl joins ↦ joins
  | inr j ↦
      let until = j.1.until in
      let following = until ++ Join n j.0 true ∷ [] in
      let until_whole = prefix_on until following whole (prefix_more until (Join n j.0 true)) j.1.stands in
      let mid = linked_between setting whole all prefix until whole cell row now j.1.following until_whole (prefix_itself whole) is end in
      let later = rows_later setting whole all prefix until cell row mid.0 j.1.following until_whole is mid.1 in
      let has_mid : has_server n mid.0 ≡ true = one_before row mid.0 n later ∙ has in
      let next = linked_between setting whole all until following whole cell mid.0 now (prefix_more until (Join n j.0 true)) j.1.stands
      (prefix_itself whole) mid.1 end in
      let one = places_up setting whole all prefix until cell row mid.0 j.1.following until_whole is mid.1 in
      let two = place_touched setting until (Join n j.0 true) mid.0 (λ i. j.1.may i && has_mid i) in
      let three = place_of_later setting whole all until following following cell mid.0 next.0 (prefix_more until (Join n j.0 true)) j.1.stands mid.1 next.1 in
      let four = places_up setting whole all following whole cell next.0 now j.1.stands (prefix_itself whole) next.1 end in
      absurd (omega arith)
]

module _ (g : Grounded) where
  open g use {setting, w, firm, ground}

  abbrev chosen : List Command
  chosen = chosen_log setting w

  abbrev own_prefix : ℕ → List Command
  own_prefix n = (w.servers n).log.applied

  abbrev stores : ℕ → Store
  stores n = kept setting w n

  abbrev pub place_of : ℕ → LinkRow → ℕ
  place_of n row = place_by setting (own_prefix n) row

  -- what it was at its own place it is now
  pub visit_here : (n : ℕ) (cell : Cell) (row : LinkRow) → (w.servers n).life.running ≡ true
      → is_in (server_state setting w n) n (w.servers n).life.inc ≡ true
      → IsLinked setting (own_prefix n) cell row → AliveIn (server_state setting w n) cell
      → ground.good.visits n (place_of n row) cell ≡ Some (owns_of w n)
  visit_here n cell row runs seat is alive =
      let h = ground.good.here n cell row is seat alive in
      let own = owns_of w n in
      h.is ∙ ap Some (h.same ∙ (λ i. record own { store = ground.own n runs seat own.store i }))

  -- the stores by what is chosen are those that count
  abbrev pub chosen_store : ℕ → Store
  chosen_store n = ground.good.stores n (blank_joins_in setting chosen n)

  -- the other server's store by the server's own entries
  abbrev pub store_there : (n m : ℕ) → Store
  store_there n m = ground.good.stores m (blank_joins_in setting (own_prefix n) m)

  -- ### By what is chosen

  -- nobody who serves the link has been further
  pub chosen_last : (cell : Cell) (row : LinkRow) → IsLinked setting chosen cell row → IsLast ground.good.reached setting chosen cell row
  chosen_last cell row is = top_last setting ground.records chosen (counted setting w) firm.plain ground.good cell row is

  pub chosen_twins : (cell : Cell) (row : LinkRow) → IsLinked setting chosen cell row → row.state ≡ Both → AliveIn (chosen_state setting w) cell
      → AreTwins chosen_store ground.good.visits (place_by setting chosen row) cell row.primary row.secondary
  chosen_twins cell row is both alive = (ground.good.both chosen cell row (prefix_itself chosen) is both).twins alive (chosen_last cell row is)

  -- a cell that is not retired by what is chosen is not by a server's own state
  pub alive_here : (n : ℕ) (cell : Cell) → AliveIn (chosen_state setting w) cell → AliveIn (server_state setting w n) cell
  alive_here n cell alive = let le = (own_below setting w firm n).stages cell in omega arith

  -- ### In Both by its own state

  -- the server runs, and by its own state it is In and one of the two of a link in Both, of a cell that is live by it, and not retired by what is
  -- chosen
  pub record IsSharing (n : ℕ) (cell : Cell) (row : LinkRow) : Type 0 where
    pub runs : (w.servers n).life.running ≡ true
    pub seat : is_in (server_state setting w n) n (w.servers n).life.inc ≡ true
    pub linked : IsLinked setting (own_prefix n) cell row
    pub both : row.state ≡ Both
    pub has : has_server n row ≡ true
    pub low : 1 ≤ stage_at (server_state setting w n) cell
    pub alive : AliveIn (chosen_state setting w) cell

  pub sharing_last : (n : ℕ) (cell : Cell) (row : LinkRow) → IsSharing n cell row
      → IsLast ground.good.reached setting (own_prefix n) cell row
  sharing_last n cell row s = both_last setting ground.records w stores firm ground.good n s.runs s.seat cell row s.linked s.both s.has

  -- two such servers of one cell are at one place
  pub one_place_of : (n m : ℕ) (cell : Cell) (row other : LinkRow) → IsSharing n cell row → IsSharing m cell other
      → (place_of n row ≡ place_of m other) × (other ≡ row)
  one_place_of n m cell row other s t =
      let one = sharing_last n cell row s in
      let two = sharing_last m cell other t in
      let up = reached_here setting ground.records w stores firm ground.good n cell row s.seat s.linked (alive_here n cell s.alive)
      (ap (serves n row) s.both ∙ s.has) in
      let also = reached_here setting ground.records w stores firm ground.good m cell other t.seat t.linked (alive_here m cell t.alive)
      (ap (serves m other) t.both ∙ t.has) in
      let same : place_of n row ≡ place_of m other = omega arith in (
        same,
        one_row setting chosen firm.plain (own_prefix n) (own_prefix m) cell row other (firm.servers n)
            (firm.servers m) s.linked t.linked same,
      )

  pub shared_ok : (n : ℕ) (cell : Cell) (row : LinkRow) → IsSharing n cell row
      → PairOk (pair_at (store_there n) ground.good.visits (place_of n row) cell row.primary row.secondary)
  shared_ok n cell row s =
      ((ground.good.both (own_prefix n) cell row (firm.servers n) s.linked s.both).twins s.alive (sharing_last n cell row s)).pair

  -- what the server's peer has in memory of the place
  abbrev pub peer : (n m : ℕ) → Cell → LinkRow → PairState
  peer n m cell row = half (ground.good.visits m (place_of n row) cell) (store_there n m)

  -- the store of a server that runs and is In as itself is its own by its own entries, too
  pub own_there : (n : ℕ) → (w.servers n).life.running ≡ true → is_in (server_state setting w n) n (w.servers n).life.inc ≡ true
      → store_there n n ≡ (owns_of w n).store
  own_there n runs seat =
      ap (ground.good.stores n) (ground.joined n (own_prefix n) (firm.servers n) seat) ∙ ground.good.now n ∙ ground.own n runs seat (owns_of w n).store

  pub first_ok : (n : ℕ) (cell : Cell) (row : LinkRow) → IsSharing n cell row → row.primary ≡ n
      → PairOk (pair_of (owns_of w n) (peer n row.secondary cell row) cell)
  first_ok n cell row s first =
      let own = owns_of w n in
      subst (λ (x : Store). PairOk (pair_of (record own { store = x }) (peer n row.secondary cell row) cell)) (own_there n s.runs s.seat)
      (subst (λ o. PairOk (pair_of (half o (store_there n n)) (peer n row.secondary cell row) cell))
      (visit_here n cell row s.runs s.seat s.linked (alive_here n cell s.alive))
      (subst (λ k. PairOk (pair_of (half (ground.good.visits k (place_of n row) cell) (store_there n k))
      (peer n row.secondary cell row) cell)) first
      (shared_ok n cell row s)))

  -- the cell is live by what is chosen, where it is by some state before and not retired since
  pub lives_now : (n : ℕ) (cell : Cell) → 1 ≤ stage_at (server_state setting w n) cell → AliveIn (chosen_state setting w) cell
      → live (chosen_state setting w) cell ≡ true
  lives_now n cell low alive =
      let le = (own_below setting w firm n).stages cell in
      (stage_facts setting.servers chosen firm.plain cell).alive (omega arith) (omega arith)

  -- the link is in Both by what is chosen, or the server's copy counts
  pub shared_or_alone : (n : ℕ) (cell : Cell) (row : LinkRow) → IsSharing n cell row
      → (in_both (chosen_state setting w) cell ≡ true) ⊎ (authority (chosen_state setting w) cell ≡ Some n)
  shared_or_alone n cell row s =
      let now = linked_alive setting chosen firm.plain (own_prefix n) chosen cell row (firm.servers n) (prefix_itself chosen) s.linked s.alive in
      elim (both_since setting ground.records w stores firm ground.good n s.runs s.seat cell row s.linked s.both s.has chosen now.0
      (firm.servers n) (prefix_itself chosen) now.1 s.alive) [
        | inl same ↦
            let one = one_row setting chosen firm.plain (own_prefix n) chosen cell row now.0 (firm.servers n) (prefix_itself chosen)
            s.linked now.1 (sym same) in
            inl (so_both (chosen_state setting w) cell now.0 now.1 (ap (λ (r : LinkRow). r.state) one ∙ s.both))
        | inr only ↦ inr (alone_authority (chosen_state setting w) cell now.0 now.1 (lives_now n cell s.low s.alive) n only.0 only.1)
      ]

  -- while it is so, the stores of the link's servers are those that count
  pub shared_store : (n : ℕ) (cell : Cell) (row : LinkRow) → IsSharing n cell row → in_both (chosen_state setting w) cell ≡ true
      → (m : ℕ) → has_server m row ≡ true → store_there n m ≡ kept setting w m
  shared_store n cell row s shared m has =
      let b = both_row (chosen_state setting w) cell shared in
      let same : blank_joins_in setting chosen m ≡ blank_joins_in setting (own_prefix n) m =
      elim (both_since setting ground.records w stores firm ground.good n s.runs s.seat cell row s.linked s.both s.has chosen b.row
      (firm.servers n) (prefix_itself chosen) b.is s.alive) [
        | inl place ↦ place_joins setting chosen firm.plain (own_prefix n) cell row b.row (firm.servers n) s.linked b.is (sym place) m has
        | inr only ↦ (let f : Only n only.0 ≡ Both = sym only.1 ∙ b.both in absurd cc)
      ] in
      ap (ground.good.stores m) (sym same) ∙ ground.good.now m

  -- what is known of a letter that it handles
  pub heard_shared : (n : ℕ) (cell : Cell) (row : LinkRow) → IsSharing n cell row → (said : Body) → Handled w n said
      → (about said).cell ≡ Some cell
      → Known (pair_at (store_there n) ground.good.visits (place_of n row) cell row.primary row.secondary) said
  heard_shared n cell row s =
      heard_there setting ground.records w stores firm ground.good n s.runs s.seat cell row s.linked s.both s.has s.alive

  -- the second server
  pub record IsSharedSecond (n : ℕ) (cell : Cell) : Type 0 where
    pub row : LinkRow
    pub shares : IsSharing n cell row
    pub second : row.secondary ≡ n

  -- a cell that has a second server is live
  second_low : (n : ℕ) (cell : Cell) → is_second (server_state setting w n) n cell ≡ true → 1 ≤ stage_at (server_state setting w n) cell
  second_low n cell e = by_bool (live (server_state setting w n) cell)
      (λ lives. (live_stage (server_state setting w n) cell lives).0)
      (λ retired. none_some (retired_second (server_state setting w n) cell retired) (is_the_one (second (server_state setting w n) cell) n e))

  pub second_shares : (n : ℕ) (cell : Cell) → (w.servers n).life.running ≡ true
      → is_in (server_state setting w n) n (w.servers n).life.inc ≡ true
      → is_second (server_state setting w n) n cell ≡ true → AliveIn (chosen_state setting w) cell → IsSharedSecond n cell
  second_shares n cell runs seat e alive =
      let b = second_by (server_state setting w n) (own_steady setting w firm n) cell n
      (is_the_one (second (server_state setting w n) cell) n e) in
      record {
        row = b.0.row;
        shares = record {
          runs = runs;
          seat = seat;
          linked = b.0.is;
          both = b.0.so;
          has = secondary_is_one b.0.row n b.1;
          low = second_low n cell e;
          alive = alive;
        };
        second = b.1;
      }

  -- ### Operations

  module _ (n : ℕ) (cell : Cell) (op : Pending) (runs : (w.servers n).life.running ≡ true)
      (is : at cell_cmp (owns_of w n).pairs.pending cell ≡ Some op) where
    staged : IsStaged (server_state setting w n) n (has_proposed (server_state setting w n) (owns_of w n)) cell op
    staged = (ground.ready.rests.pending n).staged cell op is

    pub op_seat : is_in (server_state setting w n) n (w.servers n).life.inc ≡ true
    op_seat = ground.ready.rests.seated n cell op runs is

    -- its cell is live by what is chosen, and not leaving: a client's write is in time, and a fill's cell is coming
    pub op_high : stage_at (chosen_state setting w) cell ≤ 2
    op_high = by_bool (is_clients op.kind)
        (λ clients.
        let k = ground.asking.pending n cell op is clients in
        let opened = k.known.sent.at in
        let ran = ground.asking.lived.ran n runs in
        let seat = runs_now setting w firm n runs op_seat in
        (ground.epochs.pending n (ground.lives.ran n) cell op opened.prefix chosen is clients
        (prefix_on opened.prefix k.upto chosen k.opened (prefix_on k.upto _ chosen k.applied (firm.servers n)))
        (prefix_itself chosen) opened.long (k.along opened.prefix (prefix_itself opened.prefix) k.opened).seated
        (subst (λ i. is_in (chosen_state setting w) n i ≡ true) (sym ran) seat)).stays)
        (λ fill. let one = ground.moves.fills.opened n cell op runs is fill in omega arith)

    op_own_high : stage_at (server_state setting w n) cell ≤ 2
    op_own_high = let le = (own_below setting w firm n).stages cell in let high = op_high in omega arith

    pub op_alive : AliveIn (chosen_state setting w) cell
    op_alive = let high = op_high in omega arith

    op_facts : HasStage (server_state setting w n) cell
    op_facts = stage_facts setting.servers (own_prefix n) (own_plain setting w firm n) cell

    pub op_lives : live (server_state setting w n) cell ≡ true
    op_lives = let high = op_own_high in op_facts.alive staged.born (omega arith)

    -- the server leads it
    pub op_lead : is_lead (server_state setting w n) n cell ≡ true
    op_lead = op_facts.led n (staged.leads op_lives) staged.born op_own_high

    -- who leads the cell where an operation is pending: the first server in Both, or the holder
    pub record IsSharedFirst : Type 0 where
      pub row : LinkRow
      pub shares : IsSharing n cell row
      pub first : row.primary ≡ n

    pub op_place : IsSharedFirst ⊎ IsHeldBy (server_state setting w n) cell n
    op_place = elim (led_by (server_state setting w n) (own_steady setting w firm n) cell n
        (is_the_one (lead (server_state setting w n) cell) n op_lead)) [
          | inl b ↦ inl (record {
            row = b.0.row;
            shares = record {
              runs = runs;
              seat = op_seat;
              linked = b.0.is;
              both = b.0.so;
              has = primary_is_one b.0.row n b.1;
              low = staged.born;
              alive = op_alive;
            };
            first = b.1;
          })
          | inr held ↦ inr held
        ]

    pub op_shared : in_both (server_state setting w n) cell ≡ true → IsSharedFirst
    op_shared both = elim op_place [
      | inl first ↦ first
      | inr held ↦ true_false both
          (alone_not_both (server_state setting w n) n cell (so_alone (server_state setting w n) n cell held.row held.whole held.is held.so))
    ]

    -- the server leads the cell by what is chosen, too
    pub op_leads : is_lead (chosen_state setting w) n cell ≡ true
    op_leads =
        let facts = stage_facts setting.servers chosen firm.plain cell in
        let at = (ready_chosen setting w firm ground.ready.rests n runs).staged cell op is in
        let high = op_high in
        facts.led n (at.leads (facts.alive at.born (omega arith))) at.born high

    -- and holds it alone by what is chosen, where it does so by its own state
    pub op_alone : is_alone_on (server_state setting w n) n cell ≡ true → authority (chosen_state setting w) cell ≡ Some n
    op_alone alone = elim op_place [
      | inl first ↦ true_false (so_both (server_state setting w n) cell first.row first.shares.linked first.shares.both)
          (alone_not_both (server_state setting w n) n cell alone)
      | inr held ↦
          let now = linked_alive setting chosen firm.plain (own_prefix n) chosen cell held.row (firm.servers n) (prefix_itself chosen) held.is op_alive in
          elim (holds_since setting ground.records w stores firm ground.good n runs op_seat cell held.row held.is ground.started
          held.whole held.so chosen now.0 (firm.servers n) (prefix_itself chosen) now.1 op_alive) [
            | inl only ↦ alone_authority (chosen_state setting w) cell now.0 now.1 (lives_now n cell staged.born op_alive) n only.0 only.1
            | inr flagged ↦ true_false (held_as_flag (server_state setting w n) (owns_of w n) cell held.row held.is ∙ flagged) (staged.unheld op_lives)
          ]
    ]

    -- a prefix at which the link is in Both: so it is by the server's own state, at the same place
    pub record IsSharedAt (prefix : List Command) (now : LinkRow) : Type 0 where
      pub first : IsSharedFirst
      pub at : place_by setting prefix now ≡ place_of n first.row

    pub shared_before : (prefix : List Command) (now : LinkRow) → IsPrefix (own_prefix n) prefix
        → IsPrefix prefix chosen → IsLinked setting prefix cell now → now.state ≡ Both → IsSharedAt prefix now
    shared_before prefix now one two there both =
        let alive = alive_on setting chosen firm.plain prefix chosen cell two (prefix_itself chosen) op_alive in
        elim op_place [
          | inl first ↦ elim (both_since setting ground.records w stores firm ground.good n runs op_seat cell first.row first.shares.linked
              first.shares.both
              first.shares.has prefix now one two there alive) [
                | inl same ↦ record { first = first; at = same }
                | inr only ↦ (let f : Only n only.0 ≡ Both = sym only.1 ∙ both in absurd cc)
              ]
          | inr held ↦ elim (holds_since setting ground.records w stores firm ground.good n runs op_seat cell held.row held.is ground.started
              held.whole held.so prefix now one two there alive) [
                | inl only ↦ (let f : Only n only.0 ≡ Both = sym only.1 ∙ both in absurd cc)
                | inr flagged ↦ true_false (held_as_flag (server_state setting w n) (owns_of w n) cell held.row held.is ∙ flagged) (staged.unheld op_lives)
              ]
        ]
