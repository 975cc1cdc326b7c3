-- A second server that runs, by a prefix by which it is In, at the place that the link has by that prefix: nobody who serves the cell has
-- been further, and where
-- the server has been at the place it is there.
use Rattle.law_moves.proofs.Imports.{◌==◌, ◌∙◌, ◌≡◌, ◌≤◌, AreTwins, ByBoth, ByNone, ByOne, Cell, Command, Good, HasReached, IsLinked, IsPrefix, LinkRow, List}
use Rattle.law_moves.proofs.Imports.{OneMore, Option, PairState, Some, StaysSo, alone_row, ap, arith, at, cell_cmp, counted, ends_of, false, far, half}
use Rattle.law_moves.proofs.Imports.{has_server, inc_of, inl, inr, is_in, linked_between, log_both_place, log_steady, lost_not_both, one_place, one_row}
use Rattle.law_moves.proofs.Imports.{option_map_or, pair_at, place_by, places_up, prefix_on, prefix_plain, prefixes_meet, progress, running_prefixes}
use Rattle.law_moves.proofs.Imports.{same_some, secondary_is_one, server_state, serves, serves_alone, stage_at, stays_both, store_by, subst, sym, true}
use Rattle.law_moves.proofs.Imports.{up_some, ℕ}
use Rattle.law_state.proofs.GrownStates.{alone_not_both}
use Rattle.law_moves.proofs.StepsTellEntries.{knows_now}
use Rattle.law_moves.proofs.MoveWorlds.{good, up}
use Rattle.law_moves.proofs.MoveScenes.{IsSecondAt}

module _ (it : OneMore) where
  open it use {prior.{script}}
  open ends_of it use {setting, records, v, whole, By, plain, present}

  abbrev far_of_last : PairState → Cell → ℕ
  far_of_last o q = progress (at cell_cmp o.pairs.last q)

  abbrev G : Good setting records whole (counted setting v)
  G = good present

  -- a second server that runs, by a prefix by which it is In
  module _ (s : IsSecondAt setting v) (three : stage_at (By whole) s.cell ≡ 3) where
    open s use {m, f, cell, row, runs, on, lies, seat, linked, both, second}

    abbrev mine_now : List Command
    mine_now = (v.servers m).log.applied

    abbrev place : ℕ
    place = place_by setting f row

    abbrev visit : ℕ → Option PairState
    visit n = G.visits n place cell

    abbrev far_is : ℕ
    far_is = far (pair_at (store_by setting G.stores f) G.visits place cell row.primary row.secondary)

    -- the link's place there, who was at it, and how far this server is
    pub record SecondPlace : Type 0 where
      pub place : ℕ
      pub visit : ℕ → Option PairState
      pub far_is : ℕ

    abbrev pub second_place : SecondPlace
    second_place = record { place = place; visit = visit; far_is = far_is }

    pub one_of : has_server m row ≡ true
    one_of = secondary_is_one row m second

    -- nobody who serves the link has been further
    pub last : G.reached cell ≤ place
    last = elim (G.reaching.by cell) [
      | inl none ↦ omega (arith, none)
      | inr r ↦ elim (prefixes_meet r.prefix f whole r.is_prefix lies) [
        | inl back ↦ (
            let le = places_up setting whole plain r.prefix f cell r.row row back lies r.linked linked in
            let at_it = r.at in
            omega arith)
        | inr beyond ↦ by_later r beyond
      ]
    ]
      where
        by_later : (r : HasReached setting whole G.visits cell (G.reached cell)) → IsPrefix f r.prefix → G.reached cell ≤ place
        by_later r beyond =
            elim (stays_both (running_prefixes (knows_now it) m runs on beyond r.is_prefix seat) cell row linked one_of
            (ap (serves m row) both ∙ one_of) r.alive both) [
              | inl stays ↦ (
                  let same : place_by setting r.prefix r.row ≡ place = place_stays r beyond stays in
                  let at_it = r.at in
                  omega arith)
              | inr alone ↦ (
                  let a = alone_row (By r.prefix) m cell alone in
                  let state = ap (λ (x : LinkRow). x.state) (same_some (sym r.linked ∙ a.is)) ∙ a.alone in
                  let who = serves_alone m r.server r.row state r.serving in
                  let b = G.been m (G.reached cell) cell r.own (subst (λ k. G.visits k (G.reached cell) cell ≡ Some r.own) who r.visited) in
                  let b_f = prefix_on b.prefix mine_now f b.within on in
                  let le = places_up setting whole plain b.prefix f cell b.row row b_f lies b.linked linked in
                  let at_it = b.at in
                  omega arith)
            ]
          where
            place_stays : (r : HasReached setting whole G.visits cell (G.reached cell)) → IsPrefix f r.prefix
                → StaysSo cell row (By f) (By r.prefix) → place_by setting r.prefix r.row ≡ place
            place_stays r beyond stays =
                elim ((log_steady script.servers f (prefix_plain script.servers f whole plain lies)).linked cell row linked).served [
                  | ByBoth so first also ↦ (
                      let inc = up_some (By f) row.primary first in
                      let other = up_some (By f) row.secondary also in
                      ap (place_by setting r.prefix) (same_some (sym r.linked ∙ stays.same))
                      ∙ log_both_place script.servers f r.prefix
                      (prefix_plain script.servers r.prefix whole plain r.is_prefix) beyond cell row inc.0 other.0 linked
                      both inc.1 other.1
                      (ap (λ o. option_map_or (λ present. present == inc.0) o false) stays.primary ∙ inc.1)
                      (ap (λ o. option_map_or (λ present. present == other.0) o false) stays.secondary ∙ other.1))
                  | ByOne holder other fills so pair out ↦ alone_not_both row holder so both
                  | ByNone one other so pair out ↦ lost_not_both row so both
                ]

    pub twins : AreTwins (store_by setting G.stores f) G.visits place cell row.primary row.secondary
    twins = (G.both f cell row lies linked both).twins (omega arith) last

    -- where the server was at the place, it is there
    pub record IsThereNow : Type 0 where
      pub linked_mine : IsLinked setting mine_now cell row
      pub same_place : place_by setting mine_now row ≡ place
      pub seat_mine : is_in (server_state setting v m) m (v.servers m).life.inc ≡ true
      pub so_far : far_is ≡ far_of_last (v.servers m).own cell

    pub there_so : (by : PairState) → visit m ≡ Some by → IsThereNow
    there_so by e =
        let b = G.been m place cell by e in
        let b_f = prefix_on b.prefix mine_now f b.within on in
        let mine_whole = prefix_on mine_now f whole on lies in
        let r = linked_between setting whole plain b.prefix mine_now f cell b.row row b.within on lies b.linked linked in
        let low_place = places_up setting whole plain b.prefix mine_now cell b.row r.0 b.within mine_whole b.linked r.1 in
        let high_place = places_up setting whole plain mine_now f cell r.0 row on lies r.1 linked in
        let at_it = b.at in
        let same_r : place_by setting mine_now r.0 ≡ place = omega arith in
        let one = one_row setting whole plain mine_now f cell r.0 row mine_whole lies r.1 linked same_r in
        let linked_mine : IsLinked setting mine_now cell row = r.1 ∙ ap Some (sym one) in
        let same : place_by setting mine_now row ≡ place = ap (place_by setting mine_now) one ∙ same_r in
        let stays = (one_place setting whole plain mine_now f cell row row mine_whole lies linked_mine linked same).secondary in
        let seat_mine : is_in (server_state setting v m) m (v.servers m).life.inc ≡ true =
        subst (λ k. option_map_or (λ present. present == (v.servers m).life.inc) (inc_of (By mine_now) k) false ≡ true) second
        (ap (λ o. option_map_or (λ present. present == (v.servers m).life.inc) o false) (sym stays)
        ∙ subst (λ k. is_in (By f) k (v.servers m).life.inc ≡ true) (sym second) seat) in
        let le = up present mine_now f on lies cell in
        let here_now = G.here m cell row linked_mine seat_mine (omega arith) in
        let by_is : by ≡ here_now.own = same_some (sym e ∙ sym (ap (λ p. G.visits m p cell) same) ∙ here_now.is) in
        record {
          linked_mine = linked_mine;
          same_place = same;
          seat_mine = seat_mine;
          so_far = ap (λ k. progress (at cell_cmp (half (visit k) (store_by setting G.stores f k)).pairs.last cell)) second
              ∙ ap (λ o. progress (at cell_cmp (half o (store_by setting G.stores f m)).pairs.last cell)) e
              ∙ ap (λ (o : PairState). far_of_last o cell) by_is ∙ ap (λ (o : PairState). far_of_last o cell) here_now.same;
        }
    -- an operation that the first server had put there, and that this one has not followed
