-- Where a region was leaving before a step, each letter that asks a second server to put is of an operation that it has followed still: none is sent
-- from then on.
use Rattle.law_moves.proofs.Imports.{[], ◌++◌, ◌+◌, ◌||◌, ◌∙◌, ◌∷◌, ◌≡◌, ◌≤◌, BeforeBlank, Body, Cell, Command, Handled, In, IsLinked, IsPrefix, LinkRow}
use Rattle.law_moves.proofs.Imports.{List, None, OneMore, Option, PairState, Server, Some, State, ap, arith, at, at-where, both_true, by_bool, cell_cmp}
use Rattle.law_moves.proofs.Imports.{cell_cmp_same, cell_link, cell_of, cond, crossed, did_follow, dies, ends_cell, ends_of, false, inl, inr, is_between}
use Rattle.law_moves.proofs.Imports.{is_clients, is_in, is_of_entries, live, live_stage, not, option_map_or, own_place, place_by, place_of_later}
use Rattle.law_moves.proofs.Imports.{place_touched, places_grow, prefix_on, prefix_within, progress, refl, running_timely, some_or_none, stage_at, stage_live}
use Rattle.law_moves.proofs.Imports.{state_next, subject_of, subst, sym, touches, touches_cell, true, true_false, ℕ}
use Rattle.law_moves.proofs.StepsTellEntries.{Crosses, Goes_on, HasStore, Is_bare, Keeps, Same_last, Awakes, Before, IsPosted, Other, Posted, Works, gone}
use Rattle.law_moves.proofs.StepsTellEntries.{here, sent}
use Rattle.spec_state.specs.Command.{after}
use Rattle.law_moves.proofs.ServedCellChanges.{never_retired}
use Rattle.law_moves.proofs.LeavingCellsGainNothing.{before}
use Rattle.law_moves.proofs.AllKeptOfMoves.{Known, WereKnown}
use Rattle.law_moves.proofs.FillLetters.{did_says}
use Rattle.law_moves.proofs.MoveWorlds.{good, rests, up}
use Rattle.law_moves.proofs.MoveScenes.{AsksToPut, IsSecondAt}
use Rattle.petal_msg.specs.declared.body.Body.TheVariants as body

module _ (it : OneMore) (all : WereKnown it) where
  open it use {prior, prior.{script, sound, records as prefix}}
  open ends_of it use {setting, w, v, top, whole, By, top_whole, plain, present}

  known : Known script prefix
  known = before it all

  abbrev far_of_last : PairState → Cell → ℕ
  far_of_last o q = progress (at cell_cmp o.pairs.last q)

  -- ### How far a second server is

  -- by these entries the cell is not retired, and its link is at the place at which it was by the server's own entries before the step
  module _ (m : ℕ) (f : List Command) (lies : IsPrefix f whole) (cell : Cell) (row : LinkRow) (linked : IsLinked setting f cell row)
      (low : stage_at (By f) cell ≤ 3) where
    abbrev mine : List Command
    mine = (w.servers m).log.applied

    -- what an entry leaves of what it remembers as a second server
    module _ (entry : Command) (on : IsPrefix (mine ++ entry ∷ []) f) (same : place_by setting (mine ++ entry ∷ []) row ≡ place_by setting mine row) where
      abbrev here_state : State
      here_state = By mine

      mine_f : IsPrefix mine f
      mine_f = prefix_on mine (mine ++ entry ∷ []) f (record { later = entry ∷ []; is = refl }) on

      untouched : touches_cell here_state entry cell ≡ false
      untouched = elim (some_or_none (cell_link here_state cell)) [
        | inr none ↦ ap (λ o. option_map_or (touches here_state entry) o false) none
        | inl r ↦ ap (λ o. option_map_or (touches here_state entry) o false) r.1 ∙ by_bool (touches here_state entry r.0)
            (λ t.
            let count = λ (l : List Command). place_of_later setting whole plain mine f l cell r.0 row mine_f lies r.1 linked in
            let one = place_touched setting mine entry r.0 t in
            let a = count (mine ++ entry ∷ []) in
            let b = count mine in
            absurd (omega arith))
            (λ no. no)
      ]

      not_dying : dies here_state entry cell ≡ false
      not_dying = by_bool (dies here_state entry cell)
          (λ t.
          let both = both_true (live here_state cell) (not (live (after here_state entry) cell)) t in
          let born = (live_stage here_state cell both.0).0 in
          let on_whole = prefix_on (mine ++ entry ∷ []) f whole on lies in
          let a = up present mine (mine ++ entry ∷ []) (record { later = entry ∷ []; is = refl }) on_whole cell in
          let b = up present (mine ++ entry ∷ []) f on lies cell in
          let lives : live (By (mine ++ entry ∷ [])) cell ≡ true = stage_live (By (mine ++ entry ∷ [])) cell (omega arith) (omega arith) in
          true_false both.1 (ap not (ap (λ s. live s cell) (sym (state_next setting mine entry)) ∙ lives)))
          (λ no. no)

      kept_last : at cell_cmp (crossed here_state entry (w.servers m).own).pairs.last cell ≡ at cell_cmp (w.servers m).own.pairs.last cell
      kept_last =
          let ends : ends_cell here_state entry cell ≡ false = λ i. untouched i || not_dying i in
          at-where cell_cmp (w.servers m).own.pairs.last (λ q. not (ends_cell here_state entry q)) cell
          (λ k tie. ap (λ q. not (ends_cell here_state entry q)) (sym (cell_cmp_same cell k tie)))
          ∙ ap (λ b. cond (not b) (at cell_cmp (w.servers m).own.pairs.last cell) None) ends

    far_by : (to : Server) (b : Option BeforeBlank) → HasStore it m to b → (w.servers m).life.running ≡ true → IsPrefix to.log.applied f
        → place_by setting to.log.applied row ≡ place_by setting mine row → far_of_last (w.servers m).own cell ≤ far_of_last to.own cell
    far_by to b (Goes_on (Keeps kept) same) runs on place = elim kept.last [
      | Same_last is ↦ (let e = ap (λ t. progress (at cell_cmp t cell)) is in omega arith)
      | Crosses entry more is ↦
          let e = ap (λ t. progress (at cell_cmp t cell)) is in
          let k = ap progress (kept_last entry (subst (λ l. IsPrefix l f) more on)
          (subst (λ l. place_by setting l row ≡ place_by setting mine row) more place)) in
          omega arith
    ]
    far_by to b (Goes_on (Works job) same) runs on place =
        let le = did_follow (Handled w m) (own_place setting w m) (w.servers m).own cell job.done job.did in
        let e = ap (λ (o : PairState). far_of_last o cell) job.own_is in
        omega arith
    far_by to b (Goes_on (Awakes asleep is) same) runs on place = true_false runs asleep
    far_by to b (Is_bare asleep bare same) runs on place = true_false runs asleep

  -- ### What was so before the step

  module _ (s : IsSecondAt setting v) (a : AsksToPut s.f s.cell) where
    open s use {m, f, cell, row, runs, on, lies, seat, linked, both, second, low}
    open a use {letter, number, key, version, origin, bytes, is, of}

    abbrev IsPast : Type 0
    IsPast = (place_by setting (v.servers m).log.applied row ≡ place_by setting f row)
        × (number + number + 1 ≤ far_of_last (v.servers m).own cell)

    past_before : 3 ≤ stage_at (By top) cell → In letter w.sent → IsPast
    past_before high i =
        let h = here it m runs f lies seat in
        let le = (good prior).revs letter i (ap (λ (b : Body). is_between (subject_of b)) is) in
        let within = prefix_within f top whole lies top_whole (omega arith) in
        let on_was = prefix_on (w.servers m).log.applied (v.servers m).log.applied f h.onward on in
        let past = known.followed (record {
          m = m;
          f = f;
          cell = cell;
          row = row;
          runs = h.runs;
          on = on_was;
          lies = within;
          seat = subst (λ k. is_in (By f) m k ≡ true) h.inc_is seat;
          linked = linked;
          both = both;
          second = second;
          low = low;
        }) a high i in
        let a = places_grow script.servers (w.servers m).log.applied (v.servers m).log.applied row h.onward in
        let b = places_grow script.servers (v.servers m).log.applied f row on in
        let at = past.0 in
        let place : place_by setting (v.servers m).log.applied row ≡ place_by setting f row = omega arith in
        let more = far_by m f lies cell row linked low (v.servers m) _ (gone it m) h.runs on (omega arith) in
        let far = past.1 in
        (place, omega arith)

    -- none is sent any more
    not_sent : 3 ≤ stage_at (By top) cell → IsPosted it letter → ⊥
    not_sent high p =
        let asks = did_says (Handled w p.n) (own_place setting w p.n) (w.servers p.n).own (never_retired prior known.filled.opened p.n p.job.runs)
        p.job.done p.job.did p.post p.there (body.Replicate number key version origin bytes) (sym p.body ∙ is) in
        let o = asks.op in
        let keyed = (((rests prior).pending p.n).staged o.cell o asks.is).keyed in
        let to : o.cell ≡ cell = sym keyed ∙ ap cell_of asks.of ∙ of in
        let at_cell : at cell_cmp (w.servers p.n).own.pairs.pending cell ≡ Some o = ap (at cell_cmp (w.servers p.n).own.pairs.pending) (sym to) ∙ asks.is in
        by_bool (is_clients o.kind)
        (λ clients. let stays = (running_timely script prefix sound prior.legal p.n cell o p.job.runs at_cell clients).stays in absurd (omega arith))
        (λ fills. let one = known.filled.opened p.n cell o p.job.runs at_cell fills in absurd (omega arith))

    pub past_so : 3 ≤ stage_at (By top) cell → In letter v.sent → IsPast
    past_so high i = elim (sent it letter i) [
      | Before j ↦ past_before high j
      | Posted p ↦ absurd (not_sent high p)
      | Other e ↦ true_false (ap (λ (b : Body). is_of_entries (subject_of b)) is) e
    ]
