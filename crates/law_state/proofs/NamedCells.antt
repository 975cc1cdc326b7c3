-- Which cell of a disk's block its users name: one that takes writes, and the only one of those that were made for the disk.
use Rattle.law_state.proofs.Imports.{if◌then◌else◌, ◌<◌, ◌==◌, ◌||◌, ◌∙◌, ◌≡◌, ◌≤◌, Cell, DiskRow, DiskView, Fenced, List, Move, New, None, Old, Option}
use Rattle.law_state.proofs.Imports.{RegionState, Some, State, ap, arith, by_bool, cell_asked, disk_at, disk_of, false, has_map, leaves, map_asked}
use Rattle.law_state.proofs.Imports.{move_region, number_itself, option_and_then, option_map, refl, region_at, region_of, same_numbers, slice_get, subst, sym}
use Rattle.law_state.proofs.Imports.{true, true_false, view_of, ℕ}
use Rattle.spec_rules.specs.State.{find}
use Rattle.law_state.specs.Homes.{epoch_at, new_stage, old_stage, stage_at, stage_of, stage_under}
use Rattle.law_state.specs.Tables.{IsSettledState}
use Rattle.law_state.proofs.Owners.{disk_at_is, epoch_in, epoch_is, home, map_made, stage_in, stage_is}
use Rattle.law_state.proofs.Stages.{new_most}
use Rattle.law_state.proofs.Steady.{found, viewed}

-- ### By the disk's row

module _ (row : DiskRow) (block : ℕ) where
  -- the map under which the block is named, by how far its region is
  abbrev map_by : Option Move → ℕ
  map_by moving = map_asked (record (view_of row) { old_map = option_map (λ (m : Move). m.old_map) moving }) false (move_region (region_of block) moving)

  abbrev named : ℕ
  named = map_by row.moving

  -- a cell of the block under a map that the disk has, which takes writes, is of that map
  own_named : (of : ℕ) → (row.map == of) ≡ true → (moving : Option Move) → 1 ≤ new_stage (move_region (region_of block) moving) → of ≡ map_by moving
  own_named of own moving low = by (move_region (region_of block) moving) low
    where
      by : (r : RegionState) → 1 ≤ new_stage r → of ≡ map_asked (record (view_of row) { old_map = option_map (λ (m : Move). m.old_map) moving }) false r
      by Old le = absurd (omega arith)
      by Fenced le = sym (same_numbers row.map of own)
      by New le = sym (same_numbers row.map of own)

  old_named : (of : ℕ) (moving : Option Move) → leaves of moving ≡ true → old_stage (move_region (region_of block) moving) ≤ 2 → of ≡ map_by moving
  old_named of None left most = true_false left refl
  old_named of (Some move) left most = by (move_region (region_of block) (Some move)) most
    where
      by : (r : RegionState) → old_stage r ≤ 2 → of ≡ map_asked (record (view_of row) { old_map = Some move.old_map }) false r
      by Old le = sym (same_numbers move.old_map of left)
      by Fenced le = absurd (omega arith)
      by New le = absurd (omega arith)

  abbrev region : RegionState
  region = move_region (region_of block) row.moving

  is_named : (of : ℕ) → 1 ≤ stage_of (record { map = of; block = block }) row → stage_of (record { map = of; block = block }) row ≤ 2 → of ≡ named
  is_named of low most = by_bool (has_map of row) has
      (λ none. let e : stage_of (record { map = of; block = block }) row ≡ 4 =
      ap (λ b. if b then stage_under (record { map = of; block = block }) row else 4) none in
      absurd (omega arith))
    where
      has : has_map of row ≡ true → of ≡ named
      has is = by_bool (row.map == of)
          (λ own. let e : stage_of (record { map = of; block = block }) row ≡ new_stage region =
          ap (λ b. if b then stage_under (record { map = of; block = block }) row else 4) is
          ∙ ap (λ b. if b then new_stage region else old_stage region) own in
          own_named of own row.moving (omega arith))
          (λ other. let e : stage_of (record { map = of; block = block }) row ≡ old_stage region =
          ap (λ b. if b then stage_under (record { map = of; block = block }) row else 4) is
          ∙ ap (λ b. if b then new_stage region else old_stage region) other in
          old_named of row.moving (sym (ap (λ b. b || leaves of row.moving) other) ∙ is) (omega arith))

  -- and the disk has that map
  pub has_named : has_map named row ≡ true
  has_named = by row.moving refl
    where
      by : (moving : Option Move) → row.moving ≡ moving → has_map named row ≡ true
      by None e =
          let own : named ≡ row.map = ap map_by e in
          ap (λ of. has_map of row) own ∙ ap (λ b. b || leaves row.map row.moving) (number_itself row.map)
      by (Some move) e = region (move_region (region_of block) (Some move)) refl
        where
          own : named ≡ row.map → has_map named row ≡ true
          own is = ap (λ of. has_map of row) is ∙ ap (λ b. b || leaves row.map row.moving) (number_itself row.map)

          old : named ≡ move.old_map → has_map named row ≡ true
          old is =
              let left : leaves move.old_map row.moving ≡ true = ap (leaves move.old_map) e ∙ number_itself move.old_map in
              ap (λ of. has_map of row) is
              ∙ by_bool (row.map == move.old_map) (λ t. ap (λ b. b || leaves move.old_map row.moving) t)
              (λ f. ap (λ b. b || leaves move.old_map row.moving) f ∙ left)

          region : (r : RegionState) → move_region (region_of block) (Some move) ≡ r → has_map named row ≡ true
          region Old at = old (ap map_by e ∙ ap (map_asked (record (view_of row) { old_map = Some move.old_map }) false) at)
          region Fenced at = own (ap map_by e ∙ ap (map_asked (record (view_of row) { old_map = Some move.old_map }) false) at)
          region New at = own (ap map_by e ∙ ap (map_asked (record (view_of row) { old_map = Some move.old_map }) false) at)

  -- its stage under the disk's own map, and under the one that it leaves
  own_stage : stage_of (record { map = row.map; block = block }) row ≡ new_stage region
  own_stage =
      let own = number_itself row.map in
      let has : has_map row.map row ≡ true = ap (λ b. b || leaves row.map row.moving) own in
      ap (λ b. if b then stage_under (record { map = row.map; block = block }) row else 4) has
      ∙ ap (λ b. if b then new_stage region else old_stage region) own

  left_stage : (move : Move) → row.moving ≡ Some move → move.old_map < row.map → stage_of (record { map = move.old_map; block = block }) row ≡ old_stage region
  left_stage move e lt =
      let of = move.old_map in
      let left : leaves of row.moving ≡ true = ap (leaves of) e ∙ number_itself of in
      let other : (row.map == of) ≡ false = by_bool (row.map == of) (λ t. let same = same_numbers row.map of t in absurd (omega arith)) (λ f. f) in
      let has : has_map of row ≡ true = (λ i. other i || left i) in
      ap (λ b. if b then stage_under (record { map = of; block = block }) row else 4) has
      ∙ ap (λ b. if b then new_stage region else old_stage region) other

  -- the cell under which the block is named takes writes
  Takes : ℕ → Type 0
  Takes of = (1 ≤ stage_of (record { map = of; block = block }) row) × (stage_of (record { map = of; block = block }) row ≤ 2)

  own_takes : 1 ≤ new_stage region → Takes row.map
  unfolding Takes
  own_takes low = let e = own_stage in let most = new_most region in (omega arith, omega arith)

  old_takes : (move : Move) → row.moving ≡ Some move → move.old_map < row.map → region ≡ Old → Takes move.old_map
  unfolding Takes
  old_takes move e lt at = let s = left_stage move e lt ∙ ap old_stage at in (omega arith, omega arith)

  named_takes : ((move : Move) → row.moving ≡ Some move → move.old_map < row.map) → Takes named
  named_takes below = by row.moving refl
    where
      by : (moving : Option Move) → row.moving ≡ moving → Takes named
      by None e =
          let at : region ≡ New = ap (move_region (region_of block)) e in
          let low : 1 ≤ new_stage region = (let s = ap new_stage at in omega arith) in
          subst Takes (sym (ap map_by e)) (own_takes low)
      by (Some move) e = region_by (move_region (region_of block) (Some move)) refl
        where
          at_map : (r : RegionState) → move_region (region_of block) (Some move) ≡ r
              → named ≡ map_asked (record (view_of row) { old_map = Some move.old_map }) false r
          at_map r at = ap map_by e ∙ ap (map_asked (record (view_of row) { old_map = Some move.old_map }) false) at

          here : (r : RegionState) → move_region (region_of block) (Some move) ≡ r → region ≡ r
          here r at = ap (move_region (region_of block)) e ∙ at

          region_by : (r : RegionState) → move_region (region_of block) (Some move) ≡ r → Takes named
          region_by Old at = subst Takes (sym (at_map Old at)) (old_takes move e (below move e) (here Old at))
          region_by Fenced at =
              let low : 1 ≤ new_stage region = (let s = ap new_stage (here Fenced at) in omega arith) in
              subst Takes (sym (at_map Fenced at)) (own_takes low)
          region_by New at =
              let low : 1 ≤ new_stage region = (let s = ap new_stage (here New at) in omega arith) in
              subst Takes (sym (at_map New at)) (own_takes low)

  -- a read that was told that the new map has nothing asks the old one while the region is on its way: no cell that is coming
  abbrev told_by : Option Move → ℕ
  told_by moving = map_asked (record (view_of row) { old_map = option_map (λ (m : Move). m.old_map) moving }) true (move_region (region_of block) moving)

  abbrev told : ℕ
  told = told_by row.moving

  -- the cell of the block under this map is one of the disk's, and not before its second stage
  IsSettled : ℕ → Type 0
  IsSettled of = (has_map of row ≡ true) × (2 ≤ stage_of (record { map = of; block = block }) row)

  own_settled : move_region (region_of block) row.moving ≡ New → IsSettled row.map
  unfolding IsSettled
  own_settled at =
      let stage = own_stage ∙ ap new_stage at in (ap (λ b. b || leaves row.map row.moving) (number_itself row.map), omega arith)

  old_settled : (move : Move) → row.moving ≡ Some move → move.old_map < row.map → IsSettled move.old_map
  unfolding IsSettled
  old_settled move e lt =
      let of = move.old_map in
      let left : leaves of row.moving ≡ true = ap (leaves of) e ∙ number_itself of in
      let other : (row.map == of) ≡ false = by_bool (row.map == of) (λ t. let same = same_numbers row.map of t in absurd (omega arith)) (λ f. f) in
      let stage = left_stage move e lt in
      (λ i. other i || left i, omega arith)

  told_settled : ((move : Move) → row.moving ≡ Some move → move.old_map < row.map) → IsSettled told
  told_settled below = by row.moving refl
    where
      by : (moving : Option Move) → row.moving ≡ moving → IsSettled told
      by None e = subst IsSettled (sym (ap told_by e)) (own_settled (ap (move_region (region_of block)) e))
      by (Some move) e = region_by (move_region (region_of block) (Some move)) refl
        where
          at_map : (r : RegionState) → move_region (region_of block) (Some move) ≡ r
              → told ≡ map_asked (record (view_of row) { old_map = Some move.old_map }) true r
          at_map r at = ap told_by e ∙ ap (map_asked (record (view_of row) { old_map = Some move.old_map }) true) at

          region_by : (r : RegionState) → move_region (region_of block) (Some move) ≡ r → IsSettled told
          region_by Old at = subst IsSettled (sym (at_map Old at)) (old_settled move e (below move e))
          region_by Fenced at = subst IsSettled (sym (at_map Fenced at)) (old_settled move e (below move e))
          region_by New at = subst IsSettled (sym (at_map New at)) (own_settled (ap (move_region (region_of block)) e ∙ at))

-- ### By a plain state

-- the row of a disk that is found by its name
record HasRow (s : State) (disk : DiskView) : Type 0 where
  row : DiskRow
  view : view_of row ≡ disk
  is : slice_get s.disks.rows row.id ≡ Some row
  at : disk_at s.disks.rows row.id ≡ Some row

module _ (servers : ℕ) (s : State) (p : IsSettledState servers s) (name : List ℕ) (disk : DiskView) (found_it : find s name ≡ Some disk) (block : ℕ) where
  row_of : HasRow s disk
  row_of =
      let v = viewed servers s p name disk found_it in
      let place = found servers s p name v.0 v.1 in
      let there : slice_get s.disks.rows v.0.id ≡ Some v.0 = ap (slice_get s.disks.rows) (p.rows place.0 v.0 place.1).id ∙ place.1 in
      record { row = v.0; view = v.2; is = there; at = disk_at_is s.disks.rows (λ i row e. (p.rows i row e).id) v.0.id ∙ there }

  -- the block is named under a map of the row's
  asked_is : cell_asked s disk block false ≡ record { map = named row_of.row block; block = block }
  asked_is =
      subst (λ d. cell_asked s d block false ≡ record { map = named row_of.row block; block = block }) row_of.view
      (λ i. record { map = map_asked (view_of row_of.row) false (region_at (row_of.at i) (region_of block)); block = block })

  pub made_for : disk_of s.maps (cell_asked s disk block false).map ≡ Some disk.disk
  made_for =
      let h = row_of in
      ap (λ (cell : Cell). disk_of s.maps cell.map) asked_is
      ∙ map_made s.maps h.row.id (named h.row block) h.row (p.rows h.row.id h.row h.is) (has_named h.row block)
      ∙ ap (λ (d : DiskView). Some d.disk) h.view

  -- of the cells of the block that were made for the disk only the one that is named takes writes
  pub asked_only : (cell : Cell) → cell.block ≡ block → disk_of s.maps cell.map ≡ Some disk.disk → 1 ≤ stage_at s cell → stage_at s cell ≤ 2
      → cell ≡ cell_asked s disk block false
  asked_only cell same of low most =
      let h = row_of in
      let there : home s cell.map ≡ Some h.row =
      ap (option_and_then (slice_get s.disks.rows)) (of ∙ ap (λ (d : DiskView). Some d.disk) (sym h.view)) ∙ h.is in
      let stage : stage_at s cell ≡ stage_of cell h.row = stage_is s p.rows p.homes cell ∙ ap (stage_in cell) there in
      let here : stage_of cell h.row ≡ stage_of (record { map = cell.map; block = block }) h.row =
      (λ i. stage_of (record { map = cell.map; block = same i }) h.row) in
      let map_is = is_named h.row block cell.map (omega arith) (omega arith) in
      (λ i. record { map = map_is i; block = same i }) ∙ sym asked_is

  -- the cell that is named takes writes
  pub asked_takes : (1 ≤ stage_at s (cell_asked s disk block false)) × (stage_at s (cell_asked s disk block false) ≤ 2)
  unfolding Takes
  asked_takes =
      let h = row_of in
      let k = named_takes h.row block (λ move e. ((p.rows h.row.id h.row h.is).moving move e).old) in
      let there : home s (cell_asked s disk block false).map ≡ Some h.row =
      ap (option_and_then (slice_get s.disks.rows)) (made_for ∙ ap (λ (d : DiskView). Some d.disk) (sym h.view)) ∙ h.is in
      let stage : stage_at s (cell_asked s disk block false) ≡ stage_of (record { map = named h.row block; block = block }) h.row =
      stage_is s p.rows p.homes (cell_asked s disk block false) ∙ ap (stage_in (cell_asked s disk block false)) there
      ∙ ap (λ (cell : Cell). stage_of cell h.row) asked_is in
      let low = k.0 in
      let most = k.1 in
      (omega arith, omega arith)

  -- the cell that a read asks which was told that the new map has nothing is not coming
  pub told_settled_at : 2 ≤ stage_at s (cell_asked s disk block true)
  unfolding IsSettled
  told_settled_at =
      let h = row_of in
      let k = told_settled h.row block (λ move e. ((p.rows h.row.id h.row h.is).moving move e).old) in
      let is : cell_asked s disk block true ≡ record { map = told h.row block; block = block } =
      subst (λ d. cell_asked s d block true ≡ record { map = told h.row block; block = block }) h.view
      (λ i. record { map = map_asked (view_of h.row) true (region_at (h.at i) (region_of block)); block = block }) in
      let made : disk_of s.maps (told h.row block) ≡ Some h.row.id = map_made s.maps h.row.id (told h.row block) h.row (p.rows h.row.id h.row h.is) k.0 in
      let there : home s (told h.row block) ≡ Some h.row = ap (option_and_then (slice_get s.disks.rows)) made ∙ h.is in
      let stage : stage_at s (record { map = told h.row block; block = block }) ≡ stage_of (record { map = told h.row block; block = block }) h.row =
      stage_is s p.rows p.homes (record { map = told h.row block; block = block })
      ∙ ap (stage_in (record { map = told h.row block; block = block })) there in
      subst (λ (cell : Cell). 2 ≤ stage_at s cell) (sym is) (let low = k.1 in omega arith)

  -- the disk's epoch is that of its cells
  pub found_epoch : disk.epoch ≡ epoch_at s (cell_asked s disk block false)
  found_epoch =
      let h = row_of in
      let there : home s (cell_asked s disk block false).map ≡ Some h.row =
      ap (option_and_then (slice_get s.disks.rows)) (made_for ∙ ap (λ (d : DiskView). Some d.disk) (sym h.view)) ∙ h.is in
      sym (epoch_is s p.rows (cell_asked s disk block false) ∙ ap epoch_in there ∙ ap (λ (d : DiskView). d.epoch) h.view)
