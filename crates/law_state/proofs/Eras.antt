-- What each entry, and each fence that passes, leaves of a cell that is live and not leaving: its epoch, and that it does not leave. And what a
-- fence holds of such a cell it held before.
use Rattle.law_state.proofs.Imports.{if◌then◌else◌, ◌&&◌, ◌+◌, ◌==◌, ◌||◌, ◌∙◌, ◌≡◌, ◌≢◌, ◌≤◌, All, Bool, Cell, DiskRow, FenceKind, Fenced, Hold, MapRow}
use Rattle.law_state.proofs.Imports.{Move, New, No, None, Option, Region, Some, State, Whole, Writes, ap, arith, both_true, by_bool, disk_of, false, has_map}
use Rattle.law_state.proofs.Imports.{holds, inl, inr, is_of, leaves, live, live_under, move_fenced, nat_le, nat_tests, none_some, option_and_then, option_map}
use Rattle.law_state.proofs.Imports.{option_map_or, owner, refl, region_of, row_fenced, same_some, slice_get, some_or_none, subst, sym, true, true_false}
use Rattle.law_state.proofs.Imports.{unwrap_or, ℕ}
use Rattle.law_state.specs.Homes.{epoch_at, era_by, new_stage, stage_at, stage_of}
use Rattle.law_state.proofs.Fences.{Acted, IsUnsettled}
use Rattle.law_state.proofs.Homes.{has_stage, row_or_none}
use Rattle.law_state.proofs.Owners.{epoch_in, epoch_is, home, home_later, kept_by, no_home, owner_is, stage_in, stage_is}
use Rattle.law_state.proofs.ListLookups.{get_set_beside}

-- ### Eras

pub era_low : (e a : ℕ) → a ≤ 2 → era_by e a ≡ e
era_low e a low = ap (λ b. e + (if b then 1 else 0)) (no low) ∙ none
  where
    no : a ≤ 2 → nat_le 3 a ≡ false
    no le = grind (arith, nat_tests)

    none : e + 0 ≡ e
    none = omega arith

-- ### Owners

-- a live cell is of a map that a disk has
pub live_owner : (s : State) (cell : Cell) → live s cell ≡ true → (row : DiskRow) × (owner s cell.map ≡ Some row)
live_owner s cell lives = elim (some_or_none (owner s cell.map)) [
  | inl h ↦ h
  | inr none ↦ true_false lives (ap (λ o. option_map_or (live_under cell.map (region_of cell.block)) o false) none)
]

-- a disk that has a map is the one that it was made for
pub owner_home : (servers : ℕ) (s : State) → IsUnsettled servers s → (of : ℕ) (row : DiskRow) → owner s of ≡ Some row → home s of ≡ Some row
owner_home servers s p of row e = by (home s of) refl (sym (owner_is s p.rows of) ∙ e)
  where
    by : (o : Option DiskRow) → home s of ≡ o → option_and_then (kept_by of) o ≡ Some row → home s of ≡ Some row
    by None is f = none_some refl f
    by (Some other) is f = by_bool (has_map of other)
        (λ t. is ∙ sym (ap (λ b. if b then Some other else None) t) ∙ f)
        (λ no. none_some (ap (λ b. if b then Some other else None) no) f)

module _ (servers : ℕ) (s t : State) (p : IsUnsettled servers s) (acted : Acted servers s t) (cell : Cell) (low : 1 ≤ stage_at s cell)
    (high : stage_at s cell ≤ 2) where
  pub lives : live s cell ≡ true
  lives = (has_stage s p.rows p.homes cell).alive low (let h = high in omega arith)

  -- the row of the cell's disk, and the later one
  pub record HasRows : Type 0 where
    pub row : DiskRow
    pub place : ℕ
    pub owned : owner s cell.map ≡ Some row
    pub is : home s cell.map ≡ Some row
    pub stands : slice_get s.disks.rows place ≡ Some row
    pub of : disk_of s.maps cell.map ≡ Some place
    pub now : DiskRow
    pub later_home : home t cell.map ≡ Some now
    pub there : slice_get t.disks.rows place ≡ Some now
    pub id : now.id ≡ row.id

  pub rows_of : HasRows
  rows_of =
      let o = live_owner s cell lives in
      elim (row_or_none s p.rows p.homes cell) [
        | inr none ↦ none_some (no_home s p.rows p.homes cell.map none) (owner_home servers s p cell.map o.0 o.1)
        | inl h ↦
            let l = home_later s t p.rows p.homes acted.grown.rows acted.grown.maps cell.map h.m h.known in
            let one : l.0.row ≡ o.0 = same_some (sym l.1 ∙ owner_home servers s p cell.map o.0 o.1) in
            record {
              row = o.0;
              place = h.m.disk;
              owned = o.1;
              is = owner_home servers s p cell.map o.0 o.1;
              stands = l.0.is ∙ ap Some one;
              of = ap (option_map (λ (r : MapRow). r.disk)) h.known;
              now = l.2.0.now;
              later_home = l.2.1;
              there = l.2.0.is;
              id = l.2.0.so.id ∙ ap (λ (r : DiskRow). r.id) one;
            }
      ]

  is_of_before : (disk : ℕ) → is_of t disk cell.map ≡ true → is_of s disk cell.map ≡ true
  is_of_before disk e = elim (some_or_none (owner t cell.map)) [
    | inr none ↦ true_false e (ap (λ o. option_map_or (λ (row : DiskRow). row.id == disk) o false) none)
    | inl o ↦
        let h = rows_of in
        let same : o.0 ≡ h.now = same_some (sym (owner_home servers t acted.plain cell.map o.0 o.1) ∙ h.later_home) in
        ap (λ o. option_map_or (λ (row : DiskRow). row.id == disk) o false) h.owned
        ∙ ap (λ k. k == disk) (sym h.id ∙ ap (λ (r : DiskRow). r.id) (sym same))
        ∙ sym (ap (λ o. option_map_or (λ (row : DiskRow). row.id == disk) o false) o.1) ∙ e
  ]

  -- what a fence holds it held before
  pub holds_before : (which : Hold → Bool) → which No ≡ false → (kind : FenceKind) → which (holds t cell kind) ≡ true → which (holds s cell kind) ≡ true
  holds_before which nothing (Whole disk name client seq) e = by_bool (is_of t disk cell.map)
      (λ is. ap (λ b. which (if b then Writes else No)) (is_of_before disk is) ∙ sym (ap (λ b. which (if b then Writes else No)) is) ∙ e)
      (λ no. true_false e (ap (λ b. which (if b then Writes else No)) no ∙ nothing))
  holds_before which nothing (Region disk region) e = by_bool (is_of t disk cell.map && region == region_of cell.block && live t cell)
      (λ is.
      let a = both_true (is_of t disk cell.map && region == region_of cell.block) (live t cell) is in
      let b = both_true (is_of t disk cell.map) (region == region_of cell.block) a.0 in
      (λ i. which (if is_of_before disk b.0 i && b.1 i && lives i then All else No)) ∙ sym (ap (λ b. which (if b then All else No)) is) ∙ e)
      (λ no. true_false e (ap (λ b. which (if b then All else No)) no ∙ nothing))

  -- ### What the row says

  epoch_was : epoch_at s cell ≡ rows_of.row.epoch
  epoch_was = epoch_is s p.rows cell ∙ ap epoch_in rows_of.is

  epoch_now : epoch_at t cell ≡ rows_of.now.epoch
  epoch_now = epoch_is t acted.plain.rows cell ∙ ap epoch_in rows_of.later_home

  pub stage_was : stage_at s cell ≡ stage_of cell rows_of.row
  stage_was = stage_is s p.rows p.homes cell ∙ ap (stage_in cell) rows_of.is

  pub stage_now : stage_at t cell ≡ stage_of cell rows_of.now
  stage_now = stage_is t acted.plain.rows acted.plain.homes cell ∙ ap (stage_in cell) rows_of.later_home

  -- the cell is live still, and does not leave; and its epoch is the same
  pub record IsKept : Type 0 where
    pub epoch : epoch_at t cell ≡ epoch_at s cell
    pub settled : stage_at t cell ≤ 2

  pub low_now : 1 ≤ stage_at t cell
  low_now = let a = low in let b = acted.grown.stages cell in omega arith

  -- where its disk's row is the same
  pub kept_by_row : rows_of.now ≡ rows_of.row → IsKept
  kept_by_row same = record {
    epoch = epoch_now ∙ ap (λ (r : DiskRow). r.epoch) same ∙ sym epoch_was;
    settled = (let a = stage_was in let b = stage_now in let c = ap (stage_of cell) same in let d = high in omega arith);
  }

  pub kept_by_place : slice_get t.disks.rows rows_of.place ≡ slice_get s.disks.rows rows_of.place → IsKept
  kept_by_place same = kept_by_row (same_some (sym rows_of.there ∙ same ∙ rows_of.stands))

  -- or of the same epoch, and the cell's region is as before, or at the disk's own map
  pub kept_by_stage : rows_of.now.epoch ≡ rows_of.row.epoch → (stage_of cell rows_of.row ≤ 2 → stage_of cell rows_of.now ≤ 2) → IsKept
  kept_by_stage same on = record {
    epoch = epoch_now ∙ same ∙ sym epoch_was;
    settled = (let a = stage_was in let b = stage_now in let d = high in let c = on (omega arith) in omega arith);
  }

-- ### A region that is on its way

-- each other region is as it was
pub fenced_apart : (cell : Cell) (row : DiskRow) (region : ℕ) (move : Move) → row.moving ≡ Some move → region_of cell.block ≢ region
    → stage_of cell (row_fenced region row) ≡ stage_of cell row
fenced_apart cell row region move moves ne =
    subst (λ m. stage_of cell (record row { moving = option_map (move_fenced region) m }) ≡ stage_of cell (record row { moving = m })) (sym moves)
    (ap (λ k. if row.map == cell.map || leaves cell.map (Some move) then (if row.map == cell.map then k else k + 2) else 4)
    (ap (λ o. new_stage (unwrap_or o New)) (get_set_beside move.regions region (region_of cell.block) Fenced ne)))
