-- What is known of moves after each legal history.
use Rattle.law_moves.proofs.Imports.{◌++◌, ◌∙◌, ◌∷◌, ◌≡◌, ◌≤◌, AreSteps, At, Cell, Chain, IsLinked, IsSound, LinkRow, List, Moved, Moves, Pairs, Pending}
use Rattle.law_moves.proofs.Imports.{Record, Run, Script, Some, WasThere, ap, arith, at, at_most_or_above, cell_cmp, cell_of, chosen_state, cut, end_of, false}
use Rattle.law_moves.proofs.Imports.{history_grows, history_is_firm, inl, inr, is_clients, log_below, place_by, prefix_on, region_of, stage_at, subst, sym, ℕ}
use Rattle.law_moves.specs.Fills.{HaveComeOver, IsFrozen}
use Rattle.law_moves.proofs.MovesInHistories.{all_known, known_after}
use Rattle.law_moves.proofs.AllKeptOfMoves.{Known}
use Rattle.law_moves.proofs.MovedsHadNothingLeft.{had_now}
use Rattle.law_moves.proofs.MovedRegionsHaveAll.{come_over, retired_moved, until_lies}
use Rattle.law_moves.proofs.TwoCopyRuleInMoves.{rule_kept}
use Rattle.law_moves.proofs.EqualCopies.{frozen_on}
use Rattle.law_moves.proofs.ToldEntriesAreThere.{told_already}
use Rattle.law_moves.proofs.MoveWorlds.{rests, facts_at}

module _ (script : Script) (records : List Record) (sound : IsSound script) (legal : AreSteps script records) where
  abbrev h : Run
  h = record { script = script; sound = sound; records = records; legal = legal }

  open end_of h use {setting, w, chosen}

  known : Known script records
  known = known_after script sound records legal

  pub over_after : HaveComeOver setting w
  over_after = come_over h known.filled

  pub rule_after : Moves setting w
  rule_after = rule_kept h known.still known.filled

  -- a cell that has left was frozen
  pub retired_frozen : (cell : Cell) → stage_at (chosen_state setting w) cell ≡ 4
      → (before : Chain) × (w.frozen cell ≡ Some before)
  retired_frozen cell four =
      let m = retired_moved h cell four in
      let lies = until_lies h m.until (Moved cell.map (region_of cell.block) m.row.link) m.stands in
      let goes = (facts_at h m.until lies cell).targets m.leaves in
      let earlier = λ (before : List Record) (own : Record) (later : List Record) (e : records ≡ before ++ own ∷ later).
      all_known script sound records legal before (own ∷ later) e in (
        _,
        had_now h earlier m.until cell goes.0 m.row m.stands
            (record { stage = m.leaves; to = goes.1; linked = m.linked }),
      )

  -- ### An entry that a server had under way

  module _ (n place : ℕ) (cell : Cell) (pairs : Pairs) (op : Pending) (there : WasThere setting records n place cell pairs)
      (is : at cell_cmp pairs.pending cell ≡ Some op) (fills : is_clients op.kind ≡ false) where
    pending_then : at cell_cmp ((At script there.before).servers n).own.pairs.pending cell ≡ Some op
    pending_then = ap (λ (p : Pairs). at cell_cmp p.pending cell) there.had ∙ is

    abbrev then : Run
    then = cut h there.before there.later there.is

    -- it is a frozen one
    pub filling_after : IsFrozen setting w op.rev op.key op.bytes
    filling_after =
        subst (λ rs. IsFrozen setting (At script rs) op.rev op.key op.bytes) (sym there.is)
        (frozen_on script sound there.before there.later (subst (AreSteps script) there.is legal) op.rev op.key op.bytes
        ((all_known script sound records legal there.before there.later there.is).filled.asked n cell op pending_then fills))

    pub keyed : cell_of op.key ≡ cell
    keyed = (((rests then).pending n).staged cell op pending_then).keyed

    -- its cell is live, or has been
    pub born_after : 1 ≤ stage_at (chosen_state setting w) cell
    born_after =
        let born = (((rests then).pending n).staged cell op pending_then).born in
        let log = ((At script there.before).servers n).log.applied in
        let lies = prefix_on log _ chosen ((history_is_firm script there.before sound then.legal).servers n)
        (history_grows script records sound legal there.before there.later there.is) in
        let rise = (log_below script.servers log chosen (history_is_firm script records sound legal).plain lies).stages cell in
        omega arith

    -- and while the link is at the place, its region is on its way
    pub comes_after : (row : LinkRow) → IsLinked setting chosen cell row
        → place_by setting chosen row ≡ place
        → stage_at (chosen_state setting w) cell ≡ 1
    comes_after row linked at_place =
        let born = born_after in
        elim (at_most_or_above (stage_at (chosen_state setting w) cell) 1) [
          | inl one ↦ (omega arith)
          | inr two ↦
              let of_key : 2 ≤ stage_at (chosen_state setting w) (cell_of op.key) =
              subst (λ (q : Cell). 2 ≤ stage_at (chosen_state setting w) q) (sym keyed) two in
              let told = told_already h known.filled.moved op.rev op.key op.bytes filling_after of_key in
              absurd (known.visits (record {
                n = n;
                place = place;
                cell = cell;
                pairs = pairs;
                op = op;
                row = row;
                is = is;
                fills = fills;
                linked = linked;
                spot = at_place;
              }) there told)
        ]
