-- What a server remembers of copies rests after an entry, which drops what it touches; and at the start it remembers nothing of them.
use Rattle.law_steps.proofs.Imports.{[], if◌then◌else◌, ◌&&◌, ◌++◌, ◌==◌, ◌||◌, ◌∙◌, ◌∷◌, ◌≡◌, ◌≤◌, Bool, Cell, Command, Copies, HasProperTuple}
use Rattle.law_steps.proofs.Imports.{HasProperTuples, In, IsSettledState, LinkRow, List, None, Option, PairState, Some, State, StaysSo, Table, after, ap}
use Rattle.law_steps.proofs.Imports.{arith, at, at-empty, at-where, both_true, by_bool, by_test, cell_cmp, cell_cmp_same, cell_link, cond, crossed, dies}
use Rattle.law_steps.proofs.Imports.{either_false, ends_cell, ends_link, entry_stays, false, filter, fold-append, id_of, in_former, in_later, in_up, inc_of}
use Rattle.law_steps.proofs.Imports.{inl, inr, is_alone, is_eq, is_none, is_up, link_cmp, live, log_below, log_plain, no_copies, no_progress, none_some, not}
use Rattle.law_steps.proofs.Imports.{option_map_or, other_in, other_of, prefix_more, refl, same_id, same_some, stage_at, stage_most, state_after, subst, sym}
use Rattle.law_steps.proofs.Imports.{touches, touches_cell, true, true_false, unwrap_or, up_some, ℕ}
use Rattle.spec_state.specs.State.{start}
use Rattle.law_steps.specs.RestingCopies.{AreResting}
use Rattle.law_steps.proofs.WhoLeads.{live_stage}
use Rattle.law_steps.proofs.CopiesRest.{row_named}

-- ### An entry

-- what an entry leaves of a table by cells is of a cell that it doesn't touch, and that doesn't die by it
left_there : {X : Type 0} (state : State) (entry : Command) (t : Table Cell X) (cell : Cell) (x : X)
    → at cell_cmp (filter (λ row. not (ends_cell state entry row.0)) t) cell ≡ Some x
    → (at cell_cmp t cell ≡ Some x) × (touches_cell state entry cell ≡ false) × (dies state entry cell ≡ false)
left_there state entry t cell x is =
    let lies = at-where cell_cmp t (λ k. not (ends_cell state entry k)) cell
    (λ k tie. ap (λ q. not (ends_cell state entry q)) (sym (cell_cmp_same cell k tie))) in
    by_bool (ends_cell state entry cell)
    (λ on. none_some (lies ∙ ap (λ b. cond (not b) (at cell_cmp t cell) None) on) is)
    (λ off.
    let neither = either_false (touches_cell state entry cell) (dies state entry cell) off in
    (sym (lies ∙ ap (λ b. cond (not b) (at cell_cmp t cell) None) off) ∙ is, neither.0, neither.1))

-- a live cell that doesn't die by the entry is live after it
still_live : (before following : Bool) → (before && not following) ≡ false → before ≡ true → following ≡ true
still_live before true e on = refl
still_live true false e on = true_false refl e
still_live false false e on = on

other_so : (state : State) (me : ℕ) (row : LinkRow) (other : ℕ) → other_in state me row ≡ Some other
    → (is_alone me row.state ≡ true) × (is_up state (other_of me row) ≡ true) × (other_of me row ≡ other)
other_so state me row other =
    by_test (λ (o : Option ℕ). o ≡ Some other → (is_alone me row.state ≡ true) × (is_up state (other_of me row) ≡ true) × (other_of me row ≡ other))
    (is_alone me row.state && is_up state (other_of me row)) (Some (other_of me row)) None
    (λ t e. let both = both_true _ _ t in (both.0, both.1, same_some e)) (λ no e. none_some refl e)

up_same : (s t : State) (n : ℕ) → inc_of t n ≡ inc_of s n → is_up s n ≡ true → is_up t n ≡ true
up_same s t n same up = let is = up_some s n up in in_up t n is.0 (ap (λ o. option_map_or (λ present. present == is.0) o false) same ∙ is.1)

pub crossed_rests : (servers : ℕ) (state : State) → IsSettledState servers state → (entry : Command) → HasProperTuple servers entry
    → ((cell : Cell) → stage_at state cell ≤ stage_at (after state entry) cell) → (me : ℕ) (own : PairState)
    → AreResting state me own → AreResting (after state entry) me (crossed state entry own)
crossed_rests servers state plain entry plain_entry grows me own r = record {
  copying = λ cell copy is.
      let was = left_there state entry own.copies.pending cell copy is in
      let o = r.copying cell copy was.0 in
      let off : touches state entry o.row ≡ false = sym (ap (λ l. option_map_or (touches state entry) l false) o.is) ∙ was.1 in
      let alive : live (after state entry) cell ≡ true = still_live (live state cell) (live (after state entry) cell) was.2 o.live in
      let so : StaysSo cell o.row state (after state entry) = elim (entry_stays servers state plain cell o.row o.is entry plain_entry off) [
        | inl stays ↦ stays
        | inr died ↦ (
            let retired = died.1 in
            let most = (live_stage (after state entry) cell alive).1 in
            absurd (omega arith))
      ] in
      let other = other_so state me o.row o.other o.other_is in
      let up = up_same state (after state entry) (other_of me o.row)
      (by_test (λ n. inc_of (after state entry) n ≡ inc_of state n) (o.row.primary == me) o.row.secondary o.row.primary (λ t. so.secondary) (λ t. so.primary))
      other.1 in
      record {
        may = record {
          row = o.row;
          is = so.same;
          live = alive;
          other = o.other;
          other_is = ap (λ b. if b then Some (other_of me o.row) else None) (λ i. other.0 i && up i) ∙ ap Some other.2;
        };
        paged = ap (λ p. (unwrap_or p no_progress).paged) (kept cell o.row o.is off so.same) ∙ o.paged;
        begun = o.begun;
      };
  lasts = λ cell last is.
      let was = left_there state entry own.copies.last cell last is in
      elim (r.lasts cell last was.0) [
        | inr retired ↦ inr (stays_retired cell retired)
        | inl o ↦ (
            let off : touches state entry o.row ≡ false = sym (ap (λ l. option_map_or (touches state entry) l false) o.is) ∙ was.1 in
            elim (entry_stays servers state plain cell o.row o.is entry plain_entry off) [
              | inl so ↦ inl (record { row = o.row; is = so.same; holder = o.holder; held = o.held })
              | inr died ↦ inr died.1
            ])
      ];
}
  where
    stays_retired : (cell : Cell) → stage_at state cell ≡ 4 → stage_at (after state entry) cell ≡ 4
    stays_retired cell retired =
        let more = grows cell in
        let most = stage_most (after state entry) cell in
        omega arith

    kept : (cell : Cell) (row : LinkRow) → cell_link state cell ≡ Some row → touches state entry row ≡ false → cell_link (after state entry) cell ≡ Some row
        → at link_cmp (crossed state entry own).copies.progress (id_of row) ≡ at link_cmp own.copies.progress (id_of row)
    kept cell row is off there =
        let away : ends_link state entry (id_of row) ≡ false =
        (λ i. option_map_or (touches state entry) (row_named state cell row is i) false || is_none (row_named (after state entry) cell row there i))
        ∙ ap (λ b. b || false) off in
        at-where link_cmp own.copies.progress (λ k. not (ends_link state entry k)) (id_of row)
        (λ k tie. ap (λ q. not (ends_link state entry q)) (sym (same_id (id_of row) k (ap is_eq tie))))
        ∙ ap (λ b. cond (not b) (at link_cmp own.copies.progress (id_of row)) None) away

pub log_rests : (servers : ℕ) (log : List Command) (entry : Command) → HasProperTuples servers (log ++ entry ∷ []) → (me : ℕ) (own : PairState)
    → AreResting (state_after servers log) me own → AreResting (state_after servers (log ++ entry ∷ [])) me (crossed (state_after servers log) entry own)
unfolding In
log_rests servers log entry plain me own r =
    let below = log_below servers log (log ++ entry ∷ []) plain (prefix_more log entry) in
    let following : state_after servers (log ++ entry ∷ []) ≡ after (state_after servers log) entry = fold-append after (start servers) log (entry ∷ []) in
    subst (λ (t : State). AreResting t me (crossed (state_after servers log) entry own)) (sym following)
    (crossed_rests servers (state_after servers log) (log_plain servers log (λ command i. plain command (in_former command log (entry ∷ []) i))) entry
    (plain entry (in_later entry log (entry ∷ []) (inl refl)))
    (λ cell. subst (λ (t : State). stage_at (state_after servers log) cell ≤ stage_at t cell) following (below.stages cell)) me own r)

-- ### The start

pub none_rest : (state : State) (me : ℕ) (own : PairState) → own.copies ≡ no_copies → AreResting state me own
none_rest state me own e = record {
  copying = λ cell copy is. none_some (ap (λ (c : Copies). at cell_cmp c.pending cell) e ∙ at-empty cell_cmp cell) is;
  lasts = λ cell last is. none_some (ap (λ (c : Copies). at cell_cmp c.last cell) e ∙ at-empty cell_cmp cell) is;
}
