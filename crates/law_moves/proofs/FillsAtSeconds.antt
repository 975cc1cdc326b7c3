-- An entry that moves which a second server can still put: its region is on its way, or a letter would say that it is there, and the server, which
-- has not put it, would have it.
use Rattle.law_moves.proofs.Imports.{◌+◌, ◌∙◌, ◌≡◌, ◌≤◌, AreSteps, AreTwins, At, Both, Cell, Command, Good, IsHere, IsLinked, IsPrefix, IsServing, IsSound}
use Rattle.law_moves.proofs.Imports.{LinkRow, List, None, PairState, Pairs, Pending, Record, Run, Script, Setting, Some, Store, WasThere, World, ap, arith}
use Rattle.law_moves.proofs.Imports.{at, at_most_or_above, both_last, cell_cmp, chain_in, chosen_state, counted, end_of, false, far, half, has_server}
use Rattle.law_moves.proofs.Imports.{in_counts, inl, inr, is_clients, is_in, is_some, kept, nat_cmp, pair_at, place_by, prefix_itself, progress}
use Rattle.law_moves.proofs.Imports.{secondary_is_one, server_state, serves, setting_of, stage_at, store_by, subst, sym, true, true_false, ℕ}
use Rattle.law_moves.specs.Fills.{Has, WasFilled}
use Rattle.law_moves.proofs.KnownOfMoves.{born_after, filling_after, keyed}
use Rattle.law_moves.proofs.MovesInHistories.{known_after}
use Rattle.law_moves.proofs.ToldEntriesAreThere.{told_already}
use Rattle.law_moves.proofs.MoveWorlds.{firm, good, own_counts, row_serving, serving_on, up, was_seen}

-- a server that runs, and by its own entries is In and the second one of a link in Both, where the first one had a fill pending that it has not followed
record IsToFill (setting : Setting) (records : List Record) (w : World) : Type 0 where
  n : ℕ
  m : ℕ
  cell : Cell
  pairs : Pairs
  op : Pending
  row : LinkRow
  runs : (w.servers m).life.running ≡ true
  seat : is_in (server_state setting w m) m (w.servers m).life.inc ≡ true
  linked : IsLinked setting (w.servers m).log.applied cell row
  both : row.state ≡ Both
  first : row.primary ≡ n
  second : row.secondary ≡ m
  there : WasThere setting records n (place_by setting (w.servers m).log.applied row) cell pairs
  is : at cell_cmp pairs.pending cell ≡ Some op
  fills : is_clients op.kind ≡ false
  following : progress (at cell_cmp (w.servers m).own.pairs.last cell) ≤ op.op + op.op
  alive : stage_at (chosen_state setting w) cell ≤ 3

module _ (it : Run) (s : IsToFill (end_of it).setting it.records (end_of it).w) where
  open it use {script, sound, records, legal}
  open end_of it use {setting, w, chosen, By}
  open s use {n, m, cell, pairs, op, row, runs, seat, linked, both, first, second, there, is, fills, alive}

  abbrev mine : List Command
  mine = (w.servers m).log.applied

  abbrev place : ℕ
  place = place_by setting mine row

  lies : IsPrefix mine chosen
  lies = (firm it).servers m

  abbrev G : Good setting records chosen (counted setting w)
  G = good it

  has : has_server m row ≡ true
  has = secondary_is_one row m second

  serving : IsServing (By mine) m cell
  serving = row_serving (By mine) m cell row linked has (ap (serves m row) both ∙ has)

  -- the two copies by the server's own entries
  twins : AreTwins (store_by setting G.stores mine) G.visits place cell row.primary row.secondary
  twins = (G.both mine cell row lies linked both).twins (omega arith)
      (both_last setting records w (kept setting w) (firm it) G m runs seat cell row linked both has)

  here : IsHere setting (counted setting w) G.visits m cell row
  here = let le = up it mine chosen lies (prefix_itself chosen) cell in G.here m cell row linked seat (omega arith)

  -- how far the server is
  far_is : far (pair_at (store_by setting G.stores mine) G.visits place cell row.primary row.secondary)
      ≡ progress (at cell_cmp (w.servers m).own.pairs.last cell)
  far_is =
      ap (λ k. progress (at cell_cmp (half (G.visits k place cell) (store_by setting G.stores mine k)).pairs.last cell)) second
      ∙ ap (λ o. progress (at cell_cmp (half o (store_by setting G.stores mine m)).pairs.last cell)) here.is
      ∙ ap (λ (o : PairState). progress (at cell_cmp o.pairs.last cell)) here.same

  lacks : at nat_cmp (chain_in (w.servers m).own.store.chains cell) op.key.epoch ≡ None
  lacks =
      let seen = was_seen it n place cell pairs there in
      let by = ap (λ k. G.visits k place cell) first ∙ seen.1 in
      let pending = ap (λ (p : Pairs). at cell_cmp p.pending cell) seen.2 ∙ is in
      let far_at = far_is in
      let none = twins.lacks seen.0 op by pending fills (omega arith) in
      let counts : store_by setting G.stores mine row.secondary ≡ (w.servers m).own.store =
      ap (store_by setting G.stores mine) second ∙ ap (G.stores m) (in_counts script records m mine sound legal lies seat) ∙ G.now m
      ∙ own_counts it m runs mine lies seat in
      ap (λ (s : Store). at nat_cmp (chain_in s.chains cell) op.key.epoch) (sym counts) ∙ none

  -- were it told to be there, the server would have it
  not_told : 1 ≤ stage_at (By chosen) cell → WasFilled w op.key → ⊥
  not_told born told =
      let key_cell = keyed script records sound legal n place cell pairs op there is fills in
      let serves_now = serving_on it m runs mine chosen lies (prefix_itself chosen) seat cell alive serving in
      let kept_is = own_counts it m runs mine lies seat in
      let has_it = subst (λ (q : Cell). 1 ≤ stage_at (By chosen) q → stage_at (By chosen) q ≤ 3 → IsServing (By chosen) m q
      → Has (chain_in (kept setting w m).chains q) op.key.epoch) key_cell (((known_after script sound records legal).filled.filled op.key told).now m)
      born alive serves_now in
      true_false has_it (ap is_some (ap (λ (s : Store). at nat_cmp (chain_in s.chains cell) op.key.epoch) kept_is ∙ lacks))

  on_way : stage_at (chosen_state setting w) cell ≡ 1
  on_way =
      let born = born_after script records sound legal n place cell pairs op there is fills in
      elim (at_most_or_above (stage_at (By chosen) cell) 1) [
        | inl one ↦ (omega arith)
        | inr two ↦
            let key_cell = keyed script records sound legal n place cell pairs op there is fills in
            let frozen = filling_after script records sound legal n place cell pairs op there is fills in
            absurd (not_told (omega arith) (told_already it (known_after script sound records legal).filled.moved op.rev op.key op.bytes
            frozen (subst (λ (q : Cell). 2 ≤ stage_at (By chosen) q) (sym key_cell) two)))
      ]

pub second_after : (script : Script) (records : List Record) → IsSound script → AreSteps script records → (n m : ℕ) (cell : Cell) (pairs : Pairs)
    (op : Pending) (row : LinkRow) → ((At script records).servers m).life.running ≡ true
    → is_in (server_state (setting_of script) (At script records) m) m ((At script records).servers m).life.inc ≡ true
    → IsLinked (setting_of script) ((At script records).servers m).log.applied cell row → row.state ≡ Both → row.primary ≡ n → row.secondary ≡ m
    → WasThere (setting_of script) records n (place_by (setting_of script) ((At script records).servers m).log.applied row) cell pairs
    → at cell_cmp pairs.pending cell ≡ Some op → is_clients op.kind ≡ false
    → progress (at cell_cmp ((At script records).servers m).own.pairs.last cell) ≤ op.op + op.op
    → stage_at (chosen_state (setting_of script) (At script records)) cell ≤ 3 → stage_at (chosen_state (setting_of script) (At script records)) cell ≡ 1
second_after script records sound legal n m cell pairs op row runs seat linked both first second there is fills following alive =
    on_way (record { script = script; sound = sound; records = records; legal = legal }) (record {
      n = n;
      m = m;
      cell = cell;
      pairs = pairs;
      op = op;
      row = row;
      runs = runs;
      seat = seat;
      linked = linked;
      both = both;
      first = first;
      second = second;
      there = there;
      is = is;
      fills = fills;
      following = following;
      alive = alive;
    })
