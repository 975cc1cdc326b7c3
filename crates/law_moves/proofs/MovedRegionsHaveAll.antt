-- A region that has moved has all that was frozen: after the Moved of a link each of its entries was told to be at the new map, and what was told
-- so is there.
use Rattle.law_moves.proofs.Imports.{[], ◌++◌, ◌==◌, ◌∙◌, ◌∷◌, ◌≡◌, ◌≤◌, Cell, Chain, Command, HasMovedIn, HasProperTuples, IsMoved, IsPrefix, LinkRow, List}
use Rattle.law_moves.proofs.Imports.{MapRow, Moved, Run, Setting, Some, World, ap, arith, below, both_true, cell_link, chosen_log, end_of, found_at}
use Rattle.law_moves.proofs.Imports.{goal_same, gone_twin, history_is_firm, inl, inr, is_link, key_at, length, link_at, link_of, links_of, log_comes}
use Rattle.law_moves.proofs.Imports.{log_goes, log_grown, log_plain, log_retired, log_steady, no_home, none_some, option_and_then, option_map, option_map_or}
use Rattle.law_moves.proofs.Imports.{prefix_more, prefix_on, prefixes_meet, proper, refl, region_of, row_or_none, same_numbers, some_or_none, source}
use Rattle.law_moves.proofs.Imports.{stage_at, stage_in, stage_is, subst, sym, tuple_of, tuple_on, ℕ}
use Rattle.law_moves.specs.Fills.{AllFilled, AreFilled, Has, HaveComeOver, IsOnWay, WasFilled}
use Rattle.law_moves.proofs.MoveWorlds.{plain_at, facts_at}

-- at each Moved of a link that is chosen, while a cell of the link was leaving, the new map was told to have each entry of the cell
abbrev pub AllMoved : Setting → World → Type 0
AllMoved setting w = (prefix : List Command) (region : ℕ) (old new : Cell) (row : LinkRow)
    → IsPrefix (prefix ++ Moved old.map region row.link ∷ []) (chosen_log setting w) → IsOnWay setting.servers prefix old new row
    → region_of old.block ≡ region → AllFilled w old new (λ epoch. Unit {0})

module _ (it : Run) where
  open it use {script, sound, records, legal}
  open end_of it use {setting, w, chosen, By}

  pub all_plain : HasProperTuples script.servers chosen
  all_plain = (history_is_firm script records sound legal).plain

  -- ### The link of a cell

  -- the number of a cell's link
  abbrev pub slot : Cell → ℕ
  slot cell = link_of (links_of (By chosen) cell.map) cell.block

  pub link_slot : (log : List Command) → IsPrefix log chosen → (cell : Cell) (row : LinkRow) → cell_link (By log) cell ≡ Some row → row.link ≡ slot cell
  link_slot log lies cell row is = elim (some_or_none (tuple_of (By log).maps cell.map)) [
    | inl h ↦ (
        let at = found_at (is_link cell.map (link_of (length h.0) cell.block)) (By log).links row
        (sym (ap (option_and_then (λ ids. link_at (By log).links cell.map (link_of (length ids) cell.block))) h.1) ∙ is) in
        let later =
        tuple_on script.servers (By log) (By chosen) (log_plain script.servers log (plain_at it log lies)) (log_plain script.servers chosen all_plain)
        (log_grown script.servers log chosen all_plain lies) cell.map h.0 h.1 in
        same_numbers row.link (link_of (length h.0) cell.block) (both_true (row.map == cell.map) (row.link == link_of (length h.0) cell.block) at.2).1
        ∙ ap (λ o. link_of (option_map_or length o 0) cell.block) (sym later))
    | inr none ↦ none_some (ap (option_and_then (λ ids. link_at (By log).links cell.map (link_of (length ids) cell.block))) none) is
  ]

  -- the Moved of the cell's own link, while the cell was leaving
  pub record HasMovedOwn (old : Cell) : Type 0 where
    pub until : List Command
    pub row : LinkRow
    pub stands : IsPrefix (until ++ Moved old.map (region_of old.block) row.link ∷ []) chosen
    pub leaves : stage_at (By until) old ≡ 3
    pub linked : cell_link (By until) old ≡ Some row

  pub until_lies : (until : List Command) (entry : Command) → IsPrefix (until ++ entry ∷ []) chosen → IsPrefix until chosen
  until_lies until entry stands = prefix_on until (until ++ entry ∷ []) chosen (prefix_more until entry) stands

  pub on_own_link : (old : Cell) (link : ℕ) → HasMovedIn script.servers chosen old link → link ≡ slot old → HasMovedOwn old
  on_own_link old link m is =
      let lies = until_lies m.until (Moved old.map (region_of old.block) link) m.stands in
      let three = m.leaves in
      let h = (log_steady script.servers m.until (plain_at it m.until lies)).lives old ((facts_at it m.until lies old).alive (omega arith) (omega arith)) in
      let same : link ≡ h.row.link = is ∙ sym (link_slot m.until lies old h.row h.is) in
      record {
        until = m.until;
        row = h.row;
        stands = subst (λ k. IsPrefix (m.until ++ Moved old.map (region_of old.block) k ∷ []) chosen) same m.stands;
        leaves = m.leaves;
        linked = h.is;
      }

  -- there was one of each cell that is retired
  pub retired_moved : (old : Cell) → stage_at (By chosen) old ≡ 4 → HasMovedOwn old
  retired_moved old four =
      let p = log_plain script.servers chosen all_plain in
      elim (row_or_none (By chosen) p.rows p.homes old) [
        | inr none ↦
            let zero_too : stage_at (By chosen) old ≡ 0 =
            stage_is (By chosen) p.rows p.homes old ∙ ap (stage_in old) (no_home (By chosen) p.rows p.homes old.map none) in
            absurd (omega arith)
        | inl h ↦
            let tuple : tuple_of (By chosen).maps old.map ≡ Some h.m.tuple = ap (option_map (λ (m : MapRow). m.tuple)) h.known in
            let many : links_of (By chosen) old.map ≡ length h.m.tuple = ap (λ o. option_map_or length o 0) tuple in
            let two = (proper script.servers h.m.tuple (p.tuples old.map h.m.tuple tuple)).two in
            on_own_link old (slot old) (log_retired script.servers chosen old (slot old) all_plain four
            (below old.block (links_of (By chosen) old.map) (omega arith))) refl
      ]

  -- ### The two cells of a move

  -- by any two prefixes an old cell goes to one new cell
  pub one_goal : (a b : List Command) → IsPrefix a chosen → IsPrefix b chosen → (old new goal : Cell) → IsMoved (By a) old new → IsMoved (By b) old goal
      → goal ≡ new
  one_goal a b one two old new goal first second = elim (prefixes_meet a b chosen one two) [
    | inl on ↦ goal_same script.servers a b (plain_at it b two) on old new goal first second
    | inr back ↦ sym (goal_same script.servers b a (plain_at it a one) back old goal new second first)
  ]

  -- ### What has come over

  module _ (all_moved : AllMoved setting w) where
    pub moved_filled : (old new : Cell) → HasMovedOwn old → (prefix : List Command) → IsPrefix prefix chosen → IsMoved (By prefix) old new
        → (before : Chain) (epoch : ℕ) → w.frozen old ≡ Some before → Has before epoch → WasFilled w (key_at new epoch)
    moved_filled old new m prefix lies is before epoch frozen has =
        let until = until_lies m.until (Moved old.map (region_of old.block) m.row.link) m.stands in
        let goes = (facts_at it m.until until old).targets m.leaves in
        let same = one_goal prefix m.until lies until old new goes.0 is (log_goes script.servers m.until (plain_at it m.until until) old goes.0 goes.1) in
        all_moved m.until (region_of old.block) old new m.row m.stands
        (record { stage = m.leaves; to = goes.1 ∙ ap Some same; linked = m.linked }) refl before epoch frozen has tt

    -- where the new cell is there, each frozen entry was told to be
    pub over_told : (old new : Cell) (prefix : List Command) → IsPrefix prefix chosen → source (By prefix) new ≡ Some old → 2 ≤ stage_at (By chosen) new
        → (before : Chain) (epoch : ℕ) → w.frozen old ≡ Some before → Has before epoch → WasFilled w (key_at new epoch)
    over_told old new prefix lies comes two before epoch frozen has =
        let m = log_comes script.servers prefix (plain_at it prefix lies) old new comes in
        moved_filled old new (retired_moved old (gone_twin script.servers prefix chosen all_plain lies old new m two)) prefix lies m before epoch frozen has

  pub come_over : AreFilled setting w → HaveComeOver setting w
  come_over filled cell two three = record {
    all = λ n epoch before old prefix lies comes frozen serving has.
        let told = over_told filled.moved old cell prefix lies comes two before epoch frozen has in
        (filled.filled (key_at cell epoch) told).now n (omega arith) three serving;
  }
