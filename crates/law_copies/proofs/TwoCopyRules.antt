-- The rules of two copies by what is chosen: in Both, and where one server holds a cell alone.
use Rattle.law_copies.proofs.Imports.{if◌then◌else◌, ◌==◌, ◌∙◌, ◌≡◌, ◌≤◌, AreCovered, AreSteps, Both, Busy, Cell, Command, Covered, Firm, IsSound, IsSteady}
use Rattle.law_copies.proofs.Imports.{LinkRow, List, None, Option, PairState, Pending, Record, Script, Setting, Some, State, Store, TwoCopies, World}
use Rattle.law_copies.proofs.Imports.{alone_by, ap, arith, at, at-empty, both_true, by_bool, cell_cmp, cell_link, chain_in, chosen_log, chosen_state, counted}
use Rattle.law_copies.proofs.Imports.{false, first, first_by, history_is_firm, inc_of, inl, inr, is_at_work, is_in, is_marked, live, live_stage, log_steady}
use Rattle.law_copies.proofs.Imports.{none_some, one_put_ahead, option_and_then, option_map, option_map_or, other_of, prefix_itself, refl, row_in_both}
use Rattle.law_copies.proofs.Imports.{same_some, second_by, server_state, setting_of, start, subst, sym, true, world_after, ℕ}
use Rattle.spec_history.specs.Claims.{Copies}
use Rattle.law_copies.specs.CopyProgress.{IsCovered, Is_equal, Is_marked_here, Is_marked_there, Is_to_be_copied}
use Rattle.law_copies.specs.GoodCopies.{AreTwins, Good, pair_at, store_of}
use Rattle.law_copies.specs.Pair.{pair_of}
use Rattle.law_copies.specs.Visits.{AliveIn, IsLinked, half, place_by, store_by}
use Rattle.law_copies.proofs.UnequalIsMarked.{copied}
use Rattle.law_copies.proofs.CopiesInHistories.{good_after}
use Rattle.law_copies.proofs.PlacesByPrefixes.{alive_on, linked_alive, one_place, places_up}

module _ (setting : Setting) (records : List Record) (w : World) (firm : Firm setting w)
    (good : Good setting records (chosen_log setting w) (counted setting w)) where
  abbrev top : List Command
  top = chosen_log setting w

  -- the world with the stores that count, and the stores by all that is chosen
  abbrev at_top : World
  at_top = counted setting w

  abbrev stores : ℕ → Store
  stores = store_by setting good.stores top

  abbrev now : State
  now = chosen_state setting w

  steady : IsSteady now
  steady = log_steady setting.servers top firm.plain

  -- no place that counts is beyond what is chosen
  pub reached_top : (cell : Cell) (row : LinkRow) → IsLinked setting top cell row → good.reached cell ≤ place_by setting top row
  reached_top cell row is = elim (good.reaching.by cell) [
    | inl none ↦ omega (arith, none)
    | inr r ↦ (
        let le = places_up setting top firm.plain r.prefix top cell r.row row r.is_prefix (prefix_itself top) r.linked is in
        let at = r.at in
        omega arith)
  ]

  -- ### In Both

  module _ (cell : Cell) (row : LinkRow) (is : IsLinked setting top cell row) (alive : AliveIn now cell) (both : row.state ≡ Both) where
    abbrev place : ℕ
    place = place_by setting top row

    abbrev n : ℕ
    n = row.primary

    abbrev m : ℕ
    m = row.secondary

    pub twins : AreTwins stores good.visits place cell n m
    twins = (good.both top cell row (prefix_itself top) is both).twins alive (reached_top cell row is)

    -- an operation that the first server has in mind
    pub record IsInMind (op : Pending) : Type 0 where
      pub own : PairState
      pub visit : good.visits n place cell ≡ Some own
      pub there : at cell_cmp own.pairs.pending cell ≡ Some op

    pub in_mind : (op : Pending) → (pair_at stores good.visits place cell n m).pending ≡ Some op → IsInMind op
    in_mind op = by (good.visits n place cell) refl
      where
        by : (o : Option PairState) → good.visits n place cell ≡ o
            → (pair_of (half o (stores n)) (half (good.visits m place cell) (stores m)) cell).pending ≡ Some op
            → IsInMind op
        by None e there = none_some (at-empty cell_cmp cell) there
        by (Some own) e there = record { own = own; visit = e; there = there }

    -- a server that is at work, and has been at the place, is there
    pub at_work : is_at_work now at_top n ≡ true → (own : PairState) → good.visits n place cell ≡ Some own → own ≡ (at_top.servers n).own
    at_work works own visit =
        let parts = both_true (w.servers n).life.running (is_in now n (w.servers n).life.inc) works in
        let b = good.been n place cell own visit in
        let own_prefix = (w.servers n).log.applied in
        let mine_alive = alive_on setting top firm.plain own_prefix top cell (firm.servers n) (prefix_itself top) alive in
        let mine = linked_alive setting top firm.plain b.prefix own_prefix cell b.row b.within (firm.servers n) b.linked mine_alive in
        let low = places_up setting top firm.plain b.prefix own_prefix cell b.row mine.0 b.within (firm.servers n) b.linked mine.1 in
        let up = places_up setting top firm.plain own_prefix top cell mine.0 row (firm.servers n) (prefix_itself top) mine.1 is in
        let same : place_by setting own_prefix mine.0 ≡ place = (let at = b.at in omega arith) in
        let so = one_place setting top firm.plain own_prefix top cell mine.0 row (firm.servers n) (prefix_itself top) mine.1 is same in
        let one : mine.0 ≡ row = same_some (sym so.same ∙ is) in
        let inc_same = subst (λ (r : LinkRow). inc_of now r.primary ≡ inc_of (server_state setting w n) r.primary) one so.primary in
        let seat : is_in (server_state setting w n) n (w.servers n).life.inc ≡ true =
        ap (λ o. option_map_or (λ present. present == (w.servers n).life.inc) o false) (sym inc_same) ∙ parts.1 in
        let h = good.here n cell mine.0 mine.1 seat mine_alive in
        same_some (sym visit ∙ ap (λ p. good.visits n p cell) (sym same) ∙ h.is) ∙ h.same

    first_chain : (pair_at stores good.visits place cell n m).first ≡ chain_in (store_of at_top n).chains cell
    first_chain = ap (λ (s : Store). chain_in s.chains cell) (good.now n)

    second_chain : (pair_at stores good.visits place cell n m).second ≡ chain_in (store_of at_top m).chains cell
    second_chain = ap (λ (s : Store). chain_in s.chains cell) (good.now m)

    both_copies : Copies (chain_in (store_of at_top n).chains cell) (chain_in (store_of at_top m).chains cell) (is_at_work now at_top n)
        (at cell_cmp (at_top.servers n).own.pairs.pending cell) (is_marked (store_of at_top n) Busy cell)
    both_copies =
        elim (copied (pair_at stores good.visits place cell n m) twins.pair
        (λ op there. let i = in_mind op there in (twins.recalled i.own op i.visit i.there).rests)) [
          | inl same ↦ inl (sym first_chain ∙ same ∙ second_chain)
          | inr ahead ↦ (
              let i = in_mind ahead.op ahead.is in
              inr (
                ahead.op,
                sym first_chain ∙ ahead.ahead ∙ ap (λ chain. one_put_ahead chain ahead.op) second_chain,
                subst (λ (s : Store). is_marked s Busy cell ≡ true) (good.now n) ((twins.recalled i.own ahead.op i.visit i.there).marks.busy ahead.busy),
                λ works. ap (λ (o : PairState). at cell_cmp o.pairs.pending cell) (sym (at_work works i.own i.visit)) ∙ i.there,
              ))
        ]

  -- a cell that has a first server is live
  first_alive : (cell : Cell) (n : ℕ) → first now cell ≡ Some n → AliveIn now cell
  first_alive cell n leads = by_bool (live now cell)
      (λ on. (live_stage now cell on).1)
      (λ off. none_some (ap (λ b. option_map (λ (r : LinkRow). r.primary)
      (if b then option_and_then (λ (r : LinkRow). row_in_both r r.state) (cell_link now cell) else None)) off) leads)

  pub two_copies : (cell : Cell) → TwoCopies now at_top cell
  two_copies cell n m leads follows =
      let one = first_by now steady cell n leads in
      let other = second_by now steady cell m follows in
      let row = one.0.row in
      let same : other.0.row ≡ row = same_some (sym other.0.is ∙ one.0.is) in
      let second_is : row.secondary ≡ m = ap (λ (r : LinkRow). r.secondary) (sym same) ∙ other.1 in
      subst (λ k. Copies (chain_in (store_of at_top k).chains cell) (chain_in (store_of at_top m).chains cell) (is_at_work now at_top k)
      (at cell_cmp (at_top.servers k).own.pairs.pending cell) (is_marked (store_of at_top k) Busy cell)) one.1
      (subst (λ k. Copies (chain_in (store_of at_top row.primary).chains cell) (chain_in (store_of at_top k).chains cell) (is_at_work now at_top row.primary)
      (at cell_cmp (at_top.servers row.primary).own.pairs.pending cell) (is_marked (store_of at_top row.primary) Busy cell)) second_is
      (both_copies cell row one.0.is (first_alive cell n leads) one.0.so))

  -- ### Alone

  cover_of : (row : LinkRow) (cell : Cell) (a b : Store) (visit : Option PairState) → IsCovered row cell a b visit → AreCovered row a b cell
  cover_of row cell a b visit (Is_equal same) = inl same
  cover_of row cell a b visit (Is_marked_here marked) = inr (inl marked)
  cover_of row cell a b visit (Is_marked_there marked ahead) = inr (inr (inl marked))
  cover_of row cell a b visit (Is_to_be_copied all ahead) = inr (inr (inr all))

  pub covered : (cell : Cell) → Covered now at_top cell
  covered cell row holder on is alone =
      let held = alone_by holder row.state alone in
      let beside = (good.alone top cell row holder held.0 (prefix_itself top) is held.1).beside (live_stage now cell on).1 (reached_top cell row is) in
      let place = place_by setting top row in
      subst (λ (s : Store). AreCovered row s (store_of at_top (other_of holder row)) cell) (good.now holder)
      (subst (λ (s : Store). AreCovered row (stores holder) s cell) (good.now (other_of holder row))
      (cover_of row cell (stores holder) (stores (other_of holder row)) (good.visits holder place cell) beside.alike.covered))

-- ### Histories

module _ (script : Script) (records : List Record) (sound : IsSound script) (legal : AreSteps script records) where
  abbrev setting : Setting
  setting = setting_of script

  abbrev w : World
  w = world_after setting (start setting) records

  pub copies_after : (cell : Cell) → TwoCopies (chosen_state setting w) (counted setting w) cell
  copies_after = two_copies setting records w (history_is_firm script records sound legal) (good_after script records sound legal)

  pub covered_after : (cell : Cell) → Covered (chosen_state setting w) (counted setting w) cell
  covered_after = covered setting records w (history_is_firm script records sound legal) (good_after script records sound legal)
