-- What is in time stays so while the era of its cell does not rise; and a cell that has died was leaving before.
use Rattle.law_epochs.proofs.Imports.{if◌then◌else◌, ◌+◌, ◌∙◌, ◌≡◌, ◌≤◌, Cell, Command, HasProperTuples, IsPrefix, LinkRow, List, Moved, Pending, Some, State}
use Rattle.law_epochs.proofs.Imports.{ap, arith, at_most_or_above, cell_link, epoch_at, era_by, era_low, inl, inr, length, link_at, link_of, links_of}
use Rattle.law_epochs.proofs.Imports.{log_below, log_grown, log_plain, log_retired, nat_le, nat_tests, none_some, option_and_then, option_map_or, prefix_more}
use Rattle.law_epochs.proofs.Imports.{prefix_on, prefix_plain, proper, region_of, some_or_none, stage_at, state_after, sym, true, tuple_of, tuple_on, ℕ}
use Rattle.law_state.specs.Homes.{era_at}
use Rattle.law_epochs.specs.InTime.{IsTimely}

era_high : (e a : ℕ) → 3 ≤ a → era_by e a ≡ e + 1
era_high e a high = ap (λ b. e + (if b then 1 else 0)) (yes high)
  where
    yes : 3 ≤ a → nat_le 3 a ≡ true
    yes le = grind (arith, nat_tests)

module _ (servers : ℕ) (prefix whole : List Command) (cell : Cell) (plain : HasProperTuples servers whole) (is_prefix : IsPrefix prefix whole) where
  abbrev was : State
  was = state_after servers prefix

  abbrev now : State
  now = state_after servers whole

  -- the era is the epoch while the cell does not leave; so at an equal era neither has changed
  pub on_time : (op : Pending) → IsTimely servers prefix cell op → era_at now cell ≡ era_at was cell → IsTimely servers whole cell op
  on_time op timely same =
      let below = log_below servers prefix whole plain is_prefix in
      let epochs = below.epochs cell in
      let stages = below.stages cell in
      let low = era_low (epoch_at was cell) (stage_at was cell) timely.stays in
      elim (at_most_or_above (stage_at now cell) 2) [
        | inl stays ↦ record {
          epoch = sym (era_low (epoch_at now cell) (stage_at now cell) stays) ∙ same ∙ low ∙ timely.epoch;
          born = (let born = timely.born in omega arith);
          stays = stays;
        }
        | inr leaves ↦ let high = era_high (epoch_at now cell) (stage_at now cell) leaves in absurd (omega arith)
      ]

  -- a cell that had a link, and is retired, was leaving
  pub record WasLeaving : Type 0 where
    pub until : List Command
    pub lies : IsPrefix until whole
    pub leaves : stage_at (state_after servers until) cell ≡ 3

  pub was_leaving : (row : LinkRow) → cell_link was cell ≡ Some row → stage_at now cell ≡ 4 → WasLeaving
  was_leaving row linked retired = elim (some_or_none (tuple_of was.maps cell.map)) [
    | inl h ↦
        let p = log_plain servers whole plain in
        let later : tuple_of now.maps cell.map ≡ Some h.0 =
        tuple_on servers was now (log_plain servers prefix (prefix_plain servers prefix whole plain is_prefix)) p
        (log_grown servers prefix whole plain is_prefix)
        cell.map h.0 h.1 in
        let ids = proper servers h.0 (p.tuples cell.map h.0 later) in
        let many : links_of now cell.map ≡ length h.0 = ap (λ o. option_map_or length o 0) later in
        let moved = log_retired servers whole cell 0 plain retired (let two = ids.two in omega arith) in
        record {
          until = moved.until;
          lies = prefix_on moved.until _ whole (prefix_more moved.until (Moved cell.map (region_of cell.block) 0)) moved.stands;
          leaves = moved.leaves;
        }
    | inr none ↦ none_some (ap (option_and_then (λ ids. link_at was.links cell.map (link_of (length ids) cell.block))) none) linked
  ]
