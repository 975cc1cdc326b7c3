-- What is chosen in a world, as a later state tells it; and its disks, with the cells under which their blocks are named.
use Rattle.law_run.proofs.Imports.{if◌then◌else◌, ◌==◌, ◌∙◌, ◌≡◌, ◌≤◌, ◌⊎◌, AreDisks, Cell, DiskRow, DiskView, Firm, HasRowLater, In, IsBelow, IsGrown}
use Rattle.law_run.proofs.Imports.{IsSettledState, IsSteady, List, MapRow, Move, Setting, Some, State, World, ap, arith, authority, by_bool, bytes_of}
use Rattle.law_run.proofs.Imports.{chosen_state, content_at, content_where, counted, entry_before, entry_of, epoch_at, epoch_in, epoch_is, false, find}
use Rattle.law_run.proofs.Imports.{found_at, get_in, has_content_at, has_content_where, has_map, home_later, in_get, inl, inr, is_some, known_row, log_disks}
use Rattle.law_run.proofs.Imports.{log_plain, map_made, named_cell, no_home, old_cell, option_and_then, option_map, owner, same_numbers, same_some, slice_get}
use Rattle.law_run.proofs.Imports.{some_or_none, stage_at, stage_by, stage_in, stage_is, stage_under, stays_row, sym, true, tuple_of, view_of, viewed, ℕ}
use Rattle.global_tables.specs.Map.{disk_of}
use Rattle.law_run.proofs.ContentsByCells.{IsHomed, entry_named, entry_over, has_named, has_over, is_between, is_named, lives_apart, comes_between}
use Rattle.law_run.proofs.ContentsByCells.{named_homed, old_cell_homed, is_old_cell, leaves_between}

-- the disks that are chosen
abbrev pub rows_in : Setting → World → List DiskRow
rows_in setting w = (chosen_state setting w).disks.rows

-- a plain state that what is chosen grows to
pub record Along (setting : Setting) (state : State) (w : World) : Type 0 where
  pub steady : IsSteady state
  pub last : IsSettledState setting.servers state
  pub firm : Firm setting w
  pub grown : IsGrown (chosen_state setting w) state
  pub below : IsBelow (chosen_state setting w) state

pub plain_now : (setting : Setting) (w : World) → Firm setting w → IsSettledState setting.servers (chosen_state setting w)
plain_now setting w firm = log_plain setting.servers _ firm.plain

pub disks_now : (setting : Setting) (w : World) → Firm setting w → AreDisks (chosen_state setting w)
disks_now setting w firm = log_disks setting.servers _ firm.plain

-- two disks of one map are one
pub one_row_of : (state : State) → AreDisks state → (one other : DiskRow) → In one state.disks.rows → In other state.disks.rows
    → {a b : ℕ} → has_map a one ≡ true → has_map b other ≡ true → a ≡ b → one ≡ other
one_row_of state disks one other h g {a} {b} has has_other e = disks.apart a one other h g has (ap (λ of. has_map of other) e ∙ has_other)

-- a disk that is found by its name
pub record IsFound (state : State) (name : List ℕ) (disk : DiskView) : Type 0 where
  pub row : DiskRow
  pub there : In row state.disks.rows
  pub name_is : row.name ≡ name
  pub view : view_of row ≡ disk

pub found_row : (servers : ℕ) (state : State) → IsSettledState servers state → (name : List ℕ) (disk : DiskView) → find state name ≡ Some disk
    → IsFound state name disk
found_row servers state plain name disk finds =
    let v = viewed servers state plain name disk finds in
    let k = known_row servers state plain name v.0 v.1 in
    record { row = v.0; there = k.0; name_is = k.1; view = v.2 }

-- ### The cells of a disk's blocks

module _ (servers : ℕ) (s : State) (p : IsSettledState servers s) (disks : AreDisks s) where
  -- a move leaves an earlier map
  pub left_apart : (row : DiskRow) → In row s.disks.rows → (move : Move) → row.moving ≡ Some move → (row.map == move.old_map) ≡ false
  left_apart row h move e =
      let at = get_in s.disks.rows row h in
      let lt = ((p.rows at.0 row at.1).moving move e).old in
      by_bool (row.map == move.old_map) (λ t. let same = same_numbers row.map move.old_map t in absurd (omega arith)) (λ f. f)

  module _ (row : DiskRow) (h : In row s.disks.rows) where
    -- how far a cell of one of the disk's maps is
    pub stage_here : (cell : Cell) → has_map cell.map row ≡ true → stage_at s cell ≡ stage_under cell row
    stage_here cell has = ap (stage_by s cell) (disks.owned cell.map row h has)

    -- and of which epoch
    pub epoch_here : (cell : Cell) → has_map cell.map row ≡ true → epoch_at s cell ≡ row.epoch
    epoch_here cell has =
        let at = get_in s.disks.rows row h in
        epoch_is s p.rows cell
        ∙ ap (λ d. epoch_in (option_and_then (slice_get s.disks.rows) d)) (map_made s.maps at.0 cell.map row (p.rows at.0 row at.1) has)
        ∙ ap epoch_in at.1

    module _ (block : ℕ) where
      homed : IsHomed row block (left_apart row h) (named_cell row block) (if is_between row block then 1 else 2)
      homed = named_homed row block (left_apart row h)

      -- that of the cell that requests name
      pub named_map_is : has_map (named_cell row block).map row ≡ true
      named_map_is = homed.has

      pub named_stage : stage_at s (named_cell row block) ≡ (if is_between row block then 1 else 2)
      named_stage = stage_here (named_cell row block) homed.has ∙ homed.is

      pub named_low : 1 ≤ stage_at s (named_cell row block)
      named_low = by_bool (is_between row block)
          (λ t. let e = named_stage ∙ ap (λ b. if b then 1 else 2) t in omega (arith, e))
          (λ f. let e = named_stage ∙ ap (λ b. if b then 1 else 2) f in omega (arith, e))

      pub named_high : stage_at s (named_cell row block) ≤ 2
      named_high = by_bool (is_between row block)
          (λ t. let e = named_stage ∙ ap (λ b. if b then 1 else 2) t in omega (arith, e))
          (λ f. let e = named_stage ∙ ap (λ b. if b then 1 else 2) f in omega (arith, e))

      pub named_epoch : epoch_at s (named_cell row block) ≡ row.epoch
      named_epoch = epoch_here (named_cell row block) homed.has

      module _ (between : is_between row block ≡ true) where
        old_homed : IsHomed row block (left_apart row h) (old_cell row block) 3
        old_homed = old_cell_homed row block (left_apart row h) between

        pub named_comes : stage_at s (named_cell row block) ≡ 1
        named_comes = named_stage ∙ ap (λ b. if b then 1 else 2) between

        pub old_map_is : has_map (old_cell row block).map row ≡ true
        old_map_is = old_homed.has

        pub old_leaves : stage_at s (old_cell row block) ≡ 3
        old_leaves = stage_here (old_cell row block) old_homed.has ∙ old_homed.is

    -- a cell of the disk's maps, by how far it is
    module _ (cell : Cell) (has : has_map cell.map row ≡ true) where
      stage_row : stage_at s cell ≡ stage_under cell row
      stage_row = stage_here cell has

      pub cell_named : 1 ≤ stage_at s cell → stage_at s cell ≤ 2 → cell ≡ named_cell row cell.block
      cell_named low high = let e = stage_row in is_named row cell.block cell.map has (omega arith) (omega arith)

      pub cell_comes : stage_at s cell ≡ 1 → is_between row cell.block ≡ true
      cell_comes one = comes_between row cell.block cell.map has (sym stage_row ∙ one)

      pub cell_lives : stage_at s cell ≡ 2 → is_between row cell.block ≡ false
      cell_lives two = lives_apart row cell.block cell.map has (sym stage_row ∙ two)

      pub cell_leaves : stage_at s cell ≡ 3 → is_between row cell.block ≡ true
      cell_leaves three = leaves_between row cell.block cell.map has (sym stage_row ∙ three)

      pub cell_old : stage_at s cell ≡ 3 → cell ≡ old_cell row cell.block
      cell_old three = is_old_cell row cell.block cell.map has (sym stage_row ∙ three)

  -- the disk of a cell that is live
  pub record HasDisk (cell : Cell) : Type 0 where
    pub row : DiskRow
    pub there : In row s.disks.rows
    pub has : has_map cell.map row ≡ true

  pub disk_here : (cell : Cell) → 1 ≤ stage_at s cell → stage_at s cell ≤ 3 → HasDisk cell
  disk_here cell low high = elim (some_or_none (owner s cell.map)) [
    | inl o ↦
        let at = found_at (has_map cell.map) s.disks.rows o.0 o.1 in
        record { row = o.0; there = in_get s.disks.rows at.0 o.0 at.1; has = at.2 }
    | inr none ↦
        let e : stage_at s cell ≡ (if is_some (tuple_of s.maps cell.map) then 4 else 0) = ap (stage_by s cell) none in
        by_bool (is_some (tuple_of s.maps cell.map))
        (λ t. let f = e ∙ ap (λ b. if b then 4 else 0) t in absurd (omega arith))
        (λ n. let f = e ∙ ap (λ b. if b then 4 else 0) n in absurd (omega arith))
  ]

-- ### Contents

module _ (setting : Setting) (w : World) (firm : Firm setting w) (row : DiskRow) (h : In row (rows_in setting w)) where
  -- by the cell that requests name
  pub content_is : (epoch b : ℕ) → content_at setting w row.id epoch b
      ≡ bytes_of (entry_over (is_between row b) (entry_of (chosen_state setting w) (counted setting w) (named_cell row b) epoch)
      (entry_before w (old_cell row b) epoch))
  content_is epoch b =
      ap (λ o. content_where (chosen_state setting w) (counted setting w) o epoch b) ((disks_now setting w firm).at row h)
      ∙ ap bytes_of (entry_named (chosen_state setting w) (counted setting w) row epoch b)

  pub has_content_is : (epoch b : ℕ) → has_content_at setting w row.id epoch b
      ≡ has_over (is_between row b) (is_some (authority (chosen_state setting w) (named_cell row b)))
      (entry_of (chosen_state setting w) (counted setting w) (named_cell row b) epoch) (is_some (w.frozen (old_cell row b)))
  has_content_is epoch b =
      ap (λ o. has_content_where (chosen_state setting w) (counted setting w) o epoch b) ((disks_now setting w firm).at row h)
      ∙ has_named (chosen_state setting w) (counted setting w) row epoch b

-- ### A longer log

-- a cell of a disk that there is later: its map was not made yet, or the disk was there
pub record WasMade (s : State) (i : ℕ) (cell : Cell) : Type 0 where
  pub was : DiskRow
  pub is : slice_get s.disks.rows i ≡ Some was
  pub epoch : epoch_at s cell ≡ was.epoch

module _ (servers : ℕ) (s t : State) (p : IsSettledState servers s) (q : IsSettledState servers t) (g : IsGrown s t) where
  pub made_before : (i : ℕ) (row : DiskRow) → slice_get t.disks.rows i ≡ Some row → (cell : Cell) → has_map cell.map row ≡ true
      → ((stage_at s cell ≡ 0) × (epoch_at s cell ≡ 0)) ⊎ WasMade s i cell
  made_before i row is cell has = elim (some_or_none (slice_get s.maps cell.map)) [
    | inr none ↦
        let gone = no_home s p.rows p.homes cell.map none in
        inl (stage_is s p.rows p.homes cell ∙ ap (stage_in cell) gone, epoch_is s p.rows cell ∙ ap epoch_in gone)
    | inl m ↦
        let l = home_later s t p.rows p.homes g.rows g.maps cell.map m.0 m.1 in
        let before : disk_of t.maps cell.map ≡ Some m.0.disk = ap (option_map (λ (r : MapRow). r.disk)) (g.maps cell.map m.0 m.1) in
        let now : disk_of t.maps cell.map ≡ Some i = map_made t.maps i cell.map row (q.rows i row is) has in
        let same : m.0.disk ≡ i = same_some (sym before ∙ now) in
        inr (record {
          was = l.0.row;
          is = ap (slice_get s.disks.rows) (sym same) ∙ l.0.is;
          epoch = epoch_is s p.rows cell ∙ ap epoch_in l.1;
        })
  ]

-- a step, as contents see it
module _ (setting : Setting) (w v : World) (one : Firm setting w) (two : Firm setting v)
    (grown : IsGrown (chosen_state setting w) (chosen_state setting v)) where
  pub later_row : (row : DiskRow) → In row (rows_in setting w) → HasRowLater (rows_in setting v) row
  later_row row h =
      stays_row setting.servers (chosen_state setting w) (chosen_state setting v) (plain_now setting w one) (plain_now setting v two) grown row h
