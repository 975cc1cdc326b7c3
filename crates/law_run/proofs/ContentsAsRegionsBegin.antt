-- What is chosen grows: by which cells a block's content is told after a step, and before it. A region that begins its way has what counted at the
-- old map, and one that has come has at the new one all that was frozen.
use Rattle.law_run.proofs.Imports.{if◌then◌else◌, ◌&&◌, ◌||◌, ◌∙◌, ◌≡◌, ◌≤◌, ◌⊎◌, AreDisks, Bool, Cell, Chain, DiskRow, Has, HasRowLater, HasStage, In}
use Rattle.law_run.proofs.Imports.{IsSettledState, None, Option, Some, Stored, ap, arith, authority, begins_to_leave, by_bool, bytes_of, cases_lt, chain_in}
use Rattle.law_run.proofs.Imports.{chain_that_counts, content_at, counted, disk_at, disk_on, entry_at, entry_before, entry_by, entry_of, false, first_entry}
use Rattle.law_run.proofs.Imports.{get_in, has_content_at, has_map, inl, inr, is_some, kept, leaving, log_twins, map_made, named_cell, none_some, not}
use Rattle.law_run.proofs.Imports.{old_cell, option_and_then, option_map, refl, same_some, stage_at, stage_facts, sym, true, true_false, ℕ}
use Rattle.law_run.proofs.ChosenDisks.{HasDisk, cell_comes, cell_leaves, cell_lives, cell_named, cell_old, content_is, disk_here, disks_now, has_content_is}
use Rattle.law_run.proofs.ChosenDisks.{later_row, named_comes, named_high, named_low, named_map_is, old_leaves, plain_now, rows_in}
use Rattle.law_run.proofs.MachineTakesWrites.{now_has, now_kept}
use Rattle.law_run.proofs.CountingServerServes.{counts_serves}
use Rattle.law_run.proofs.FillsComeInTurn.{old_source}
use Rattle.law_run.proofs.ContentsByCells.{entry_over, has_over, is_between}
use Rattle.law_run.proofs.SourceCells.{source_stays}
use Rattle.law_run.proofs.EventsOfServerSteps.{ServerStep, ends_of, grounded, unput, plain_chosen}

module _ (this : ServerStep) where
  open ends_of this use {v, top, end, chosen, after}

  plain_after : IsSettledState this.setting.servers after
  plain_after = plain_now this.setting v this.next.firm

  disks_then : AreDisks chosen
  disks_then = disks_now this.setting this.w this.along.firm

  disks_after : AreDisks after
  disks_after = disks_now this.setting v this.next.firm

  facts_then : (cell : Cell) → HasStage chosen cell
  facts_then cell = stage_facts this.setting.servers top this.along.firm.plain cell

  facts_after : (cell : Cell) → HasStage after cell
  facts_after cell = stage_facts this.setting.servers end this.next.firm.plain cell

  stages_up : (cell : Cell) → stage_at chosen cell ≤ stage_at after cell
  stages_up cell = this.grown.stages cell

  -- ### What is frozen

  frozen_where : (cell : Cell) (t : Bool) → begins_to_leave this.setting this.w v cell ≡ t
      → v.frozen cell ≡ (if t then chain_that_counts this.setting v cell else this.w.frozen cell)
  frozen_where cell t e = ap (λ b. if b then chain_that_counts this.setting v cell else this.w.frozen cell) e

  -- of a cell that does not begin to leave it stays
  frozen_kept : (cell : Cell) → (leaving chosen cell ≡ true) ⊎ (leaving after cell ≡ false) → v.frozen cell ≡ this.w.frozen cell
  frozen_kept cell (inl t) = frozen_where cell false (and_not (leaving after cell) (leaving chosen cell) t)
    where
      and_not : (a b : Bool) → b ≡ true → (a && not b) ≡ false
      and_not true true e = refl
      and_not true false e = true_false e refl
      and_not false b e = refl
  frozen_kept cell (inr f) = frozen_where cell false (ap (λ b. b && not (leaving chosen cell)) f)

  -- of one that does it is what counts then
  frozen_now : (cell : Cell) → stage_at chosen cell ≤ 2 → stage_at after cell ≡ 3 → v.frozen cell ≡ chain_that_counts this.setting v cell
  frozen_now cell low three = frozen_where cell true (λ i. (facts_after cell).left three i && not (stays i))
    where
      stays : leaving chosen cell ≡ false
      stays = by_bool (leaving chosen cell) (λ t. let e = (facts_then cell).leaves t in absurd (omega arith)) (λ f. f)

  -- a cell that is retired had begun to leave before the step
  pub not_jumped : (cell : Cell) → stage_at chosen cell ≤ 2 → stage_at after cell ≤ 3
  not_jumped cell low = elim (cases_lt (stage_at after cell) 4) [
    | inl lt ↦ omega arith
    | inr le ↦
        let most = (facts_after cell).most in
        let died = this.onward.moves.died cell (omega arith) in
        let stays : leaving after cell ≡ false =
        by_bool (leaving after cell) (λ t. let e = (facts_after cell).leaves t in absurd (omega arith)) (λ f. f) in
        none_some (this.ground.moves.still.early cell low) (sym (frozen_kept cell (inr stays)) ∙ died.1)
  ]

  -- ### A block

  module _ (row : DiskRow) (h : In row (rows_in this.setting this.w)) (b : ℕ) where
    -- the cell that requests name before the step
    abbrev pub named : Cell
    named = named_cell row b

    abbrev old : Cell
    old = old_cell row b

    named_has : has_map named.map row ≡ true
    named_has = named_map_is this.setting.servers chosen (plain_chosen this) disks_then row h b

    low : 1 ≤ stage_at chosen named
    low = named_low this.setting.servers chosen (plain_chosen this) disks_then row h b

    high : stage_at chosen named ≤ 2
    high = named_high this.setting.servers chosen (plain_chosen this) disks_then row h b

    pub low_after : 1 ≤ stage_at after named
    low_after = let up = stages_up named in let l = low in omega arith

    pub high_after : stage_at after named ≤ 3
    high_after = not_jumped named high

    later : HasRowLater (rows_in this.setting v) row
    later = later_row this.setting this.w v this.along.firm this.next.firm this.grown row h

    -- the disk of a cell of one of its maps is the same one later
    one_disk : (cell : Cell) → has_map cell.map row ≡ true → (d : HasDisk this.setting.servers after plain_after disks_after cell) → d.row ≡ later.now
    one_disk cell has d =
        let at = get_in (rows_in this.setting this.w) row h in
        let at_d = get_in (rows_in this.setting v) d.row d.there in
        let here = map_made chosen.maps at.0 cell.map row ((plain_chosen this).rows at.0 row at.1) has in
        let there = map_made after.maps at_d.0 cell.map d.row (plain_after.rows at_d.0 d.row at_d.1) d.has in
        let place : at.0 ≡ at_d.0 = same_some (sym (disk_on chosen.maps after.maps cell.map at.0 this.grown.maps here) ∙ there) in
        let id : d.row.id ≡ later.now.id =
        (plain_after.rows at_d.0 d.row at_d.1).id ∙ sym place ∙ sym ((plain_chosen this).rows at.0 row at.1).id ∙ sym later.so.id in
        same_some (sym (disks_after.at d.row d.there)
        ∙ ap (disk_at after.disks.rows) id ∙ disks_after.at later.now later.there)

    disk_named : HasDisk this.setting.servers after plain_after disks_after named
    disk_named = disk_here this.setting.servers after plain_after disks_after named low_after high_after

    later_has : has_map named.map later.now ≡ true
    later_has = ap (λ (r : DiskRow). has_map named.map r) (sym (one_disk named named_has disk_named)) ∙ disk_named.has

    -- the entry of that cell after the step
    abbrev pub entry_now : ℕ → Option Stored
    entry_now e = entry_of after (counted this.setting v) named e

    -- the contents after the step, by the later row
    now_by : (e : ℕ) → now_kept this row e b
        ≡ bytes_of (entry_over (is_between later.now b) (entry_of after (counted this.setting v) (named_cell later.now b) e)
        (entry_before v (old_cell later.now b) e))
    now_by e = ap (λ i. content_at this.setting v i e b) (sym later.so.id) ∙ content_is this.setting v this.next.firm later.now later.there e b

    has_by : (e : ℕ) → now_has this row e b
        ≡ has_over (is_between later.now b) (is_some (authority after (named_cell later.now b)))
        (entry_of after (counted this.setting v) (named_cell later.now b) e) (is_some (v.frozen (old_cell later.now b)))
    has_by e = ap (λ i. has_content_at this.setting v i e b) (sym later.so.id) ∙ has_content_is this.setting v this.next.firm later.now later.there e b

    -- ### While the cell takes writes

    module _ (lives : stage_at after named ≤ 2) where
      named_still : named ≡ named_cell later.now b
      named_still = cell_named this.setting.servers after plain_after disks_after later.now later.there named later_has low_after lives

      -- its region is on its way still, from the same cell
      module _ (comes : stage_at after named ≡ 1) where
        between_then : is_between row b ≡ true
        between_then = cell_comes this.setting.servers chosen (plain_chosen this) disks_then row h named named_has
            (let up = stages_up named in let l = low in omega arith)

        between_after : is_between later.now b ≡ true
        between_after = cell_comes this.setting.servers after plain_after disks_after later.now later.there named later_has comes

        same_old : old ≡ old_cell later.now b
        same_old =
            source_stays this.setting.servers top end this.next.firm.plain this.grows named old
            (old_source (grounded this) named
            (named_comes this.setting.servers chosen (plain_chosen this) disks_then row h b between_then) row h named_has)
            later.now later.there later_has comes

        old_frozen : v.frozen (old_cell later.now b) ≡ this.w.frozen old
        old_frozen = ap v.frozen (sym same_old) ∙ frozen_kept old
            (inl ((facts_then old).left (old_leaves this.setting.servers chosen (plain_chosen this) disks_then row h b between_then)))

        over_kept : (e : ℕ) → now_kept this row e b ≡ bytes_of (first_entry (entry_now e) (entry_before this.w old e))
        over_kept e = now_by e
            ∙ (λ i. bytes_of (entry_over (between_after i) (entry_of after (counted this.setting v) (sym named_still i) e)
            (option_and_then (λ chain. entry_at chain e) (old_frozen i))))

        over_has : (e : ℕ) → now_has this row e b ≡ (is_some (authority after named) && (is_some (entry_now e) || is_some (this.w.frozen old)))
        over_has e = has_by e
            ∙ (λ i. has_over (between_after i) (is_some (authority after (sym named_still i)))
            (entry_of after (counted this.setting v) (sym named_still i) e) (is_some (old_frozen i)))

      module _ (there : stage_at after named ≡ 2) where
        apart_after : is_between later.now b ≡ false
        apart_after = cell_lives this.setting.servers after plain_after disks_after later.now later.there named later_has there

        plain_kept : (e : ℕ) → now_kept this row e b ≡ bytes_of (entry_now e)
        plain_kept e = now_by e
            ∙ (λ i. bytes_of (entry_over (apart_after i) (entry_of after (counted this.setting v) (sym named_still i) e)
            (entry_before v (old_cell later.now b) e)))

        plain_has : (e : ℕ) → now_has this row e b ≡ is_some (authority after named)
        plain_has e = has_by e
            ∙ (λ i. has_over (apart_after i) (is_some (authority after (sym named_still i)))
            (entry_of after (counted this.setting v) (sym named_still i) e) (is_some (v.frozen (old_cell later.now b))))

    -- ### Once it begins to leave

    module _ (leaves : stage_at after named ≡ 3) where
      left_between : is_between later.now b ≡ true
      left_between = cell_leaves this.setting.servers after plain_after disks_after later.now later.there named later_has leaves

      left_old : named ≡ old_cell later.now b
      left_old = cell_old this.setting.servers after plain_after disks_after later.now later.there named later_has leaves

      -- the new map's cell was not live before the step
      new_has : has_map (named_cell later.now b).map later.now ≡ true
      new_has = named_map_is this.setting.servers after plain_after disks_after later.now later.there b

      new_comes : stage_at after (named_cell later.now b) ≡ 1
      new_comes = named_comes this.setting.servers after plain_after disks_after later.now later.there b left_between

      new_unborn : stage_at chosen (named_cell later.now b) ≡ 0
      new_unborn = elim (cases_lt 0 (stage_at chosen (named_cell later.now b))) [
        | inr le ↦ omega arith
        | inl lt ↦
            let up = stages_up (named_cell later.now b) in
            let one = new_comes in
            absurd (not_before (omega arith))
      ]
        where
          -- else that cell would be the one that requests named before
          not_before : stage_at chosen (named_cell later.now b) ≡ 1 → ⊥
          not_before was =
              let new = named_cell later.now b in
              let d = disk_here this.setting.servers chosen (plain_chosen this) disks_then new (omega (arith, was)) (omega (arith, was)) in
              let at = get_in (rows_in this.setting this.w) row h in
              let at_d = get_in (rows_in this.setting this.w) d.row d.there in
              let at_l = get_in (rows_in this.setting v) later.now later.there in
              let here = disk_on chosen.maps after.maps new.map at_d.0 this.grown.maps
              (map_made chosen.maps at_d.0 new.map d.row ((plain_chosen this).rows at_d.0 d.row at_d.1) d.has) in
              let there = map_made after.maps at_l.0 new.map later.now (plain_after.rows at_l.0 later.now at_l.1) new_has in
              let place : at_d.0 ≡ at_l.0 = same_some (sym here ∙ there) in
              let id : d.row.id ≡ row.id =
              ((plain_chosen this).rows at_d.0 d.row at_d.1).id ∙ place ∙ sym (plain_after.rows at_l.0 later.now at_l.1).id ∙ later.so.id in
              let row_is : d.row ≡ row = same_some (sym (disks_then.at d.row d.there)
              ∙ ap (disk_at chosen.disks.rows) id ∙ disks_then.at row h) in
              let has : has_map new.map row ≡ true = ap (λ (r : DiskRow). has_map new.map r) (sym row_is) ∙ d.has in
              let same : new ≡ named = cell_named this.setting.servers chosen (plain_chosen this) disks_then row h new has
              (omega (arith, was)) (omega (arith, was)) in
              let one = new_comes in
              let three : stage_at after new ≡ 3 = ap (stage_at after) same ∙ leaves in
              omega arith

      new_nothing : (e : ℕ) → entry_of after (counted this.setting v) (named_cell later.now b) e ≡ None
      new_nothing e = by (authority after (named_cell later.now b))
        where
          by : (o : Option ℕ) → entry_by (counted this.setting v) (named_cell later.now b) e o ≡ None
          by None = refl
          by (Some i) = ap (λ c. entry_at c e) (unput this (named_cell later.now b) new_unborn i)

      -- what is frozen is what counts
      left_frozen : v.frozen (old_cell later.now b) ≡ chain_that_counts this.setting v named
      left_frozen = ap v.frozen (sym left_old) ∙ frozen_now named high leaves

      before_now : (e : ℕ) → entry_before v (old_cell later.now b) e ≡ entry_now e
      before_now e = ap (option_and_then (λ chain. entry_at chain e)) left_frozen ∙ by (authority after named)
        where
          by : (o : Option ℕ) → option_and_then (λ chain. entry_at chain e) (option_map (λ n. chain_in (kept this.setting v n).chains named) o)
              ≡ entry_by (counted this.setting v) named e o
          by None = refl
          by (Some i) = refl

      left_kept : (e : ℕ) → now_kept this row e b ≡ bytes_of (entry_now e)
      left_kept e = now_by e ∙ (λ i. bytes_of (entry_over (left_between i) (new_nothing e i) (before_now e i)))

      left_has : (e : ℕ) → now_has this row e b ≡ true → is_some (authority after named) ≡ true
      left_has e has = by (is_some (authority after (named_cell later.now b)))
          (sym (has_by e ∙ (λ i. has_over (left_between i) (is_some (authority after (named_cell later.now b))) (new_nothing e i)
          (is_some (left_frozen i)))) ∙ has)
        where
          of_map : (o : Option ℕ) → is_some (option_map (λ n. chain_in (kept this.setting v n).chains named) o) ≡ true → is_some o ≡ true
          of_map None e = e
          of_map (Some i) e = refl

          by : (c : Bool) → (c && (is_some {T = Stored} None || is_some (chain_that_counts this.setting v named))) ≡ true
              → is_some (authority after named) ≡ true
          by true e = of_map (authority after named) e
          by false e = true_false e refl

    -- ### What has come over

    -- the new map has all that was frozen
    pub record HasAll : Type 0 where
      pub before : Chain
      pub frozen : this.w.frozen old ≡ Some before
      pub all : (n : ℕ) → authority after named ≡ Some n → (e : ℕ) → Has before e → Has (chain_in (kept this.setting v n).chains named) e

    has_all : is_between row b ≡ true → 2 ≤ stage_at after named → HasAll
    has_all between come =
        let one = named_comes this.setting.servers chosen (plain_chosen this) disks_then row h b between in
        let from = old_source (grounded this) named one row h named_has in
        let retired : stage_at after old ≡ 4 = log_twins this.setting.servers top end named old this.next.firm.plain this.grows from one come in
        let died = this.onward.moves.died old retired in
        let same = frozen_kept old (inl ((facts_then old).left (old_leaves this.setting.servers chosen (plain_chosen this) disks_then row h b between))) in
        record {
          before = died.0;
          frozen = sym same ∙ died.1;
          all = λ n counts e has. (this.onward.moves.over named come high_after).all n e died.0 old top this.grows from died.1
              (counts_serves this.setting v this.next.firm named n counts) has;
        }

    -- ### By which entries the contents are told after the step

    pub data IsNow : Type 0 where
      By_entry : ((e : ℕ) → now_kept this row e b ≡ bytes_of (entry_now e))
          → ((e : ℕ) → now_has this row e b ≡ true → is_some (authority after named) ≡ true)
          → (stage_at after named ≤ 2 → (e : ℕ) → now_has this row e b ≡ is_some (authority after named))
          → (is_between row b ≡ true → HasAll) → IsNow
      By_both : is_between row b ≡ true → ((e : ℕ) → now_kept this row e b ≡ bytes_of (first_entry (entry_now e) (entry_before this.w old e)))
          → ((e : ℕ) → now_has this row e b ≡ (is_some (authority after named) && (is_some (entry_now e) || is_some (this.w.frozen old)))) → IsNow

    pub is_now : IsNow
    is_now = elim (cases_lt (stage_at after named) 2) [
      | inl lt ↦
          let low = low_after in
          let one : stage_at after named ≡ 1 = omega arith in
          let lives : stage_at after named ≤ 2 = omega arith in
          By_both (between_then lives one) (over_kept lives one) (over_has lives one)
      | inr le ↦ elim (cases_lt (stage_at after named) 3) [
        | inl lt ↦
            let two : stage_at after named ≡ 2 = omega arith in
            let lives : stage_at after named ≤ 2 = omega arith in
            By_entry (plain_kept lives two) (λ e has. sym (plain_has lives two e) ∙ has) (λ l e. plain_has lives two e)
            (λ between. has_all between (omega arith))
        | inr more ↦
            let high = high_after in
            let three : stage_at after named ≡ 3 = omega arith in
            By_entry (left_kept three) (left_has three) (λ l e. absurd (omega arith)) (λ between. has_all between (omega arith))
      ]
    ]
