-- A step keeps that no second server will put what its lead asked for, of a cell that is leaving or has left: where the region begins to
-- leave, each such letter is
-- of an operation that the second server has followed; and none is sent from then on.
use Rattle.law_moves.proofs.Imports.{◌++◌, ◌+◌, ◌<◌, ◌∙◌, ◌≡◌, ◌≤◌, AreCopies, At, Body, Bool, Cell, Chain, Good, In, IsServing, List, None, OneMore, Option}
use Rattle.law_moves.proofs.Imports.{PairState, Pairs, Pending, Record, Run, Some, Store, Tells, WasThere, Working, about, ap, arith, at, at-empty, at_by}
use Rattle.law_moves.proofs.Imports.{at_most_or_above, by_bool, cell_cmp, chain_in, chosen_log, counted, cut, ends_of, false, half, history_grows}
use Rattle.law_moves.proofs.Imports.{history_is_firm, in_counts, inl, inr, is_between, is_clients, is_some, live_stage, nat_cmp, none_some, pair_at, place_by}
use Rattle.law_moves.proofs.Imports.{prefix_on, progress, refl, same_some, second_timely, serves, some_or_none, split_last, stage_at, store_by, subject_of}
use Rattle.law_moves.proofs.Imports.{subst, sym, true, true_false, ℕ}
use Rattle.law_moves.specs.Fills.{Has}
use Rattle.law_moves.proofs.AllKeptOfMoves.{HaveFollowed, WereKnown}
use Rattle.law_moves.proofs.PendingWasOpened.{opened_mine}
use Rattle.law_moves.proofs.EqualCopies.{asked_then, moved_now}
use Rattle.law_moves.proofs.LeavingCopiesAreFrozen.{not_jumped}
use Rattle.law_moves.proofs.ToldEntriesAreThere.{told_already}
use Rattle.law_moves.proofs.MoveWorlds.{good, own_counts, rests, row_serving}
use Rattle.law_moves.proofs.SecondPlaces.{IsThereNow, last, one_of, second_place, there_so, twins}
use Rattle.law_moves.proofs.StillFollowed.{past_so}
use Rattle.law_moves.proofs.MoveScenes.{AsksToPut, FillsSo, IsSecondAt}
use Rattle.petal_msg.specs.declared.body.Body.TheVariants as body

-- an operation is pending there only where the server was there
pub op_there : (visit : Option PairState) (store : Store) (cell : Cell) (op : Pending) → at cell_cmp (half visit store).pairs.pending cell ≡ Some op
    → (by : PairState) × (visit ≡ Some by) × (at cell_cmp by.pairs.pending cell ≡ Some op)
op_there None store cell op is = none_some (at-empty cell_cmp cell) is
op_there (Some by) store cell op is = (by, refl, is)

-- one that the first server has put had its slot at the second one
begun_by : (first second : Chain) (far_at : ℕ) (o : Option Pending) (op : Pending) → AreCopies first second far_at o → o ≡ Some op → op.stage.put ≡ true
    → op.op + op.op ≤ far_at
begun_by first second far_at None op same e put = none_some refl e
begun_by first second far_at (Some now) op copies e put =
    let same : now ≡ op = same_some e in
    subst (λ (x : Pending). x.op + x.op ≤ far_at) same (by now.stage.put (ap (λ (x : Pending). x.stage.put) same ∙ put) copies)
  where
    by : (is : Bool) → is ≡ true → Working first second far_at now is → now.op + now.op ≤ far_at
    by false off even = true_false off refl
    by true on ahead = ahead.begun

module _ (it : OneMore) (all : WereKnown it) where
  open it use {prior.{script, sound, records as prefix}, own, legal}
  open ends_of it use {setting, records, v, top, whole, By, present}

  abbrev far_of_last : PairState → Cell → ℕ
  far_of_last o q = progress (at cell_cmp o.pairs.last q)

  -- ### Where the region begins to leave

  module _ (now_so : FillsSo setting v) where
    numbered_then : (past later : List Record) → records ≡ past ++ later → (m : ℕ) (cell : Cell) (op : Pending)
        → at cell_cmp ((At script past).servers m).own.pairs.pending cell ≡ Some op → 1 ≤ op.op
    numbered_then past later e m cell op is = elim (split_last prefix own past later e) [
      | inl same ↦ now_so.numbered m cell op (subst (λ rs. at cell_cmp ((At script rs).servers m).own.pairs.pending cell ≡ Some op) same is)
      | inr more ↦ (all past more.0 more.1).numbered m cell op is
    ]

    abbrev G : Good setting records whole (counted setting v)
    G = good present

    -- a second server that runs, by a prefix by which it is In
    module _ (s : IsSecondAt setting v) (three : stage_at (By whole) s.cell ≡ 3) where
      open s use {m, f, cell, row, runs, on, lies, seat, linked, both, second, low}
      open second_place it s three use {place, visit, far_is}

      module _ (by : PairState) (op : Pending) (there : visit row.primary ≡ Some by) (pending : at cell_cmp by.pairs.pending cell ≡ Some op)
          (put : op.stage.put ≡ true) (following : far_is < op.op + op.op + 1) where
        was : WasThere setting records row.primary place cell by.pairs
        was = G.came row.primary place cell by there

        pending_then : at cell_cmp ((At script was.before).servers row.primary).own.pairs.pending cell ≡ Some op
        pending_then = ap (λ (p : Pairs). at cell_cmp p.pending cell) was.had ∙ pending

        abbrev then : Run
        then = cut present was.before was.later was.is

        -- an entry that moves is here, and is not
        no_fill : 1 ≤ stage_at (By f) cell → is_clients op.kind ≡ false → ⊥
        no_fill born fills =
            let keyed = (((rests then).pending row.primary).staged cell op pending_then).keyed in
            let frozen = asked_then it all now_so was.before was.later was.is row.primary cell op pending_then fills in
            let said = told_already present (moved_now it all) op.rev op.key op.bytes frozen
            (subst (λ (q : Cell). 2 ≤ stage_at (By whole) q) (sym keyed) (omega arith)) in
            let serving = row_serving (By f) m cell row linked (one_of it s three) (ap (serves m row) both ∙ (one_of it s three)) in
            let has = subst (λ (q : Cell). 1 ≤ stage_at (By f) q → stage_at (By f) q ≤ 3 → IsServing (By f) m q
            → Has (chain_in (v.servers m).own.store.chains q) op.key.epoch) keyed ((now_so.there op.key said).own m f runs on lies seat) born low serving in
            let lacks = (twins it s three).lacks by op there pending fills (omega arith) in
            let counts : store_by setting G.stores f row.secondary ≡ (v.servers m).own.store =
            ap (store_by setting G.stores f) second ∙ ap (G.stores m) (in_counts script records m f sound legal lies seat) ∙ G.now m
            ∙ own_counts present m runs f lies seat in
            true_false has (ap is_some (ap (λ (s : Store). at nat_cmp (chain_in s.chains cell) op.key.epoch) (sym counts) ∙ lacks))

        -- a client's write is in time, where the server is at the place
        no_write : IsThereNow it s three → is_clients op.kind ≡ true → ⊥
        no_write t clients =
            let at_it = at_by setting row.primary ((At script was.before).servers row.primary) place cell was.there in
            let on_v = history_grows script records sound legal was.before was.later was.is in
            let lies_then = prefix_on _ (chosen_log setting (At script was.before)) whole
            ((history_is_firm script was.before sound then.legal).servers row.primary) on_v in
            let le = opened_mine then row.primary cell op pending_then clients in
            let so = t.so_far in
            let stays = (second_timely script records sound legal row.primary m cell by.pairs op row runs t.seat_mine t.linked_mine both refl second
            (subst (λ p. WasThere setting records row.primary p cell by.pairs) (sym t.same_place) was) pending clients
            ((At script was.before).servers row.primary).log.applied at_it.row lies_then at_it.linked (sym at_it.at ∙ sym t.same_place) le).stays in
            omega arith

        -- and none was put before the server was there
        no_early : visit m ≡ None → ⊥
        no_early none =
            let one = numbered_then was.before was.later was.is row.primary cell op pending_then in
            let least =
            begun_by _ _ far_is (at cell_cmp (half (visit row.primary) (store_by setting G.stores f row.primary)).pairs.pending cell) op
            (twins it s three).pair.copies
            (ap (λ o. at cell_cmp (half o (store_by setting G.stores f row.primary)).pairs.pending cell) there ∙ pending) put in
            let zero_far : far_is ≡ 0 = ap (λ k. progress (at cell_cmp (half (visit k) (store_by setting G.stores f k)).pairs.last cell)) second
            ∙ ap (λ o. progress (at cell_cmp (half o (store_by setting G.stores f m)).pairs.last cell)) none ∙ ap progress (at-empty cell_cmp cell) in
            omega arith

        never : 1 ≤ stage_at (By f) cell → ⊥
        never born = by_bool (is_clients op.kind)
            (λ clients. elim (some_or_none (visit m)) [ inl h ↦ no_write (there_so it s three h.0 h.1) clients | inr none ↦ no_early none ])
            (no_fill born)

      -- each letter that asks the server to put is of an operation that it followed
      module _ (a : AsksToPut f cell) (i : In a.letter v.sent) where
        open a use {letter, number, key, version, origin, bytes, is, of, rev}

        is_of : (about letter.body).cell ≡ Some cell
        is_of = ap (λ (b : Body). (about b).cell) is ∙ ap Some of

        born : 1 ≤ stage_at (By f) cell
        born = (live_stage (By f) cell (G.lives letter i (ap (λ (b : Body). is_between (subject_of b)) is) f lies (sym rev) cell is_of)).0

        told : Tells (pair_at (store_by setting G.stores f) G.visits place cell row.primary row.secondary) (body.Replicate number key version origin bytes)
        told = subst (Tells (pair_at (store_by setting G.stores f) G.visits place cell row.primary row.secondary)) is
            ((G.letters letter i f cell row lies (sym rev) linked (omega arith)).both (omega arith) both (last it s three) is_of)

        followed : number + number + 1 ≤ far_is
        followed = elim told [
          | inr past ↦ past
          | inl putting ↦ elim (at_most_or_above (number + number + 1) far_is) [
            | inl past ↦ past
            | inr following ↦
                let e = putting.number_is in
                let t = op_there (visit row.primary) (store_by setting G.stores f row.primary) cell putting.op putting.is in
                absurd (never t.0 putting.op t.1 t.2 putting.put (omega arith) born)
          ]
        ]

        past_now : (place_by setting (v.servers m).log.applied row ≡ place) × (number + number + 1 ≤ far_of_last (v.servers m).own cell)
        past_now = elim (some_or_none (visit m)) [
          | inl h ↦ (
              let t = there_so it s three h.0 h.1 in
              let so = t.so_far in
              let enough = followed in
              (t.same_place, omega arith))
          | inr none ↦ (
              let enough = followed in
              let zero_far : far_is ≡ 0 = ap (λ k. progress (at cell_cmp (half (visit k) (store_by setting G.stores f k)).pairs.last cell)) second
              ∙ ap (λ o. progress (at cell_cmp (half o (store_by setting G.stores f m)).pairs.last cell)) none ∙ ap progress (at-empty cell_cmp cell) in
              absurd (omega arith))
        ]

    pub followed_next : HaveFollowed setting v
    followed_next s a three i = elim (at_most_or_above (stage_at (By top) s.cell) 2) [
      | inr high ↦ past_so it all s a high i
      | inl early ↦ (let jumped = not_jumped it all s.cell early in past_now s (omega arith) a i)
    ]
