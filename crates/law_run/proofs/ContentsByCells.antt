-- A block's content is told by the cell under which requests name it and, between two maps, by what was frozen.
use Rattle.law_run.proofs.Imports.{if◌then◌else◌, ◌&&◌, ◌==◌, ◌||◌, ◌∙◌, ◌≡◌, ◌≤◌, Bool, Cell, DiskRow, DiskView, Fenced, Move, New, None, Old, Option}
use Rattle.law_run.proofs.Imports.{RegionState, Some, State, Stored, World, ap, arith, authority, by_bool, cell_asked, disk_at, entry_at_home, entry_before}
use Rattle.law_run.proofs.Imports.{entry_of, false, first_entry, has_at_home, has_map, home_of, is_fenced, is_some, leaves, map_asked, move_region}
use Rattle.law_run.proofs.Imports.{named_cell, named_map, new_most, new_stage, number_itself, old_cell, old_map, old_stage, option_map, read_cell, read_map}
use Rattle.law_run.proofs.Imports.{refl, region_at, region_of, same_numbers, stage_under, subst, sym, true, true_false, view_of, ℕ}

-- ### Contents

-- the block's region is on its way
abbrev pub is_between : DiskRow → ℕ → Bool
is_between row block = is_fenced (home_of row block)

abbrev pub entry_over : (between : Bool) → (top below : Option Stored) → Option Stored
entry_over false top below = top
entry_over true top below = first_entry top below

abbrev pub has_over : (between counts : Bool) → Option Stored → (frozen : Bool) → Bool
has_over false counts top frozen = counts
has_over true counts top frozen = counts && (is_some top || frozen)

pub entry_named : (s : State) (w : World) (row : DiskRow) (epoch block : ℕ)
    → entry_at_home s w row epoch block (home_of row block)
    ≡ entry_over (is_between row block) (entry_of s w (named_cell row block) epoch) (entry_before w (old_cell row block) epoch)
entry_named s w row epoch block = by (home_of row block)
  where
    by : (r : RegionState) → entry_at_home s w row epoch block r
        ≡ entry_over (is_fenced r) (entry_of s w (record { map = named_map row.map row.moving r; block = block }) epoch)
        (entry_before w (old_cell row block) epoch)
    by Old = refl
    by Fenced = refl
    by New = refl

pub has_named : (s : State) (w : World) (row : DiskRow) (epoch block : ℕ)
    → has_at_home s w row epoch block (home_of row block)
    ≡ has_over (is_between row block) (is_some (authority s (named_cell row block))) (entry_of s w (named_cell row block) epoch)
    (is_some (w.frozen (old_cell row block)))
has_named s w row epoch block = by (home_of row block)
  where
    by : (r : RegionState) → has_at_home s w row epoch block r
        ≡ has_over (is_fenced r) (is_some (authority s (record { map = named_map row.map row.moving r; block = block })))
        (entry_of s w (record { map = named_map row.map row.moving r; block = block }) epoch) (is_some (w.frozen (old_cell row block)))
    by Old = refl
    by Fenced = refl
    by New = refl

-- ### How far the cells of a disk's block are

new_named : (map : ℕ) (m : Option Move) (r : RegionState) → 1 ≤ new_stage r → named_map map m r ≡ map
new_named map m Old le = absurd (omega arith)
new_named map m Fenced le = refl
new_named map m New le = refl

old_named : (map : ℕ) (m : Option Move) (r : RegionState) → old_stage r ≤ 2 → named_map map m r ≡ old_map map m
old_named map m Old le = refl
old_named map m Fenced le = absurd (omega arith)
old_named map m New le = absurd (omega arith)

-- the map that it leaves
left_map : (map of : ℕ) (m : Option Move) → leaves of m ≡ true → of ≡ old_map map m
left_map map of None e = true_false e refl
left_map map of (Some move) e = sym (same_numbers move.old_map of e)

is_on_way : (r : RegionState) → new_stage r ≡ 1 → is_fenced r ≡ true
is_on_way Old e = absurd (omega arith)
is_on_way Fenced e = refl
is_on_way New e = absurd (omega arith)

is_there : (r : RegionState) → 2 ≤ new_stage r → is_fenced r ≡ false
is_there Old le = refl
is_there Fenced le = absurd (omega arith)
is_there New le = refl

is_old : (r : RegionState) → old_stage r ≤ 2 → is_fenced r ≡ false
is_old Old le = refl
is_old Fenced le = absurd (omega arith)
is_old New le = refl

module _ (row : DiskRow) (block of : ℕ) (has : has_map of row ≡ true) where
  abbrev home : RegionState
  home = home_of row block

  abbrev stage : ℕ
  stage = stage_under (record { map = of; block = block }) row

  own_stage : (row.map == of) ≡ true → stage ≡ new_stage home
  own_stage t = ap (λ b. if b then new_stage home else old_stage home) t

  other_stage : (row.map == of) ≡ false → stage ≡ old_stage home
  other_stage f = ap (λ b. if b then new_stage home else old_stage home) f

  other_left : (row.map == of) ≡ false → leaves of row.moving ≡ true
  other_left f = sym (ap (λ b. b || leaves of row.moving) f) ∙ has

  -- one that is live and not leaving is the one that requests name
  pub is_named : 1 ≤ stage → stage ≤ 2 → record { map = of; block = block } ≡ named_cell row block
  is_named low high =
      let map_is : of ≡ named_map row.map row.moving home = by_bool (row.map == of)
      (λ t. let e = own_stage t in sym (same_numbers row.map of t) ∙ sym (new_named row.map row.moving home (omega arith)))
      (λ f. let e = other_stage f in left_map row.map of row.moving (other_left f) ∙ sym (old_named row.map row.moving home (omega arith))) in
      λ i. record { map = map_is i; block = block }

  pub comes_between : stage ≡ 1 → is_between row block ≡ true
  comes_between one = by_bool (row.map == of)
      (λ t. is_on_way home (sym (own_stage t) ∙ one))
      (λ f. let e = other_stage f in absurd (omega arith))

  pub lives_apart : stage ≡ 2 → is_between row block ≡ false
  lives_apart two = by_bool (row.map == of)
      (λ t. let e = own_stage t in is_there home (omega arith))
      (λ f. let e = other_stage f in is_old home (omega arith))

  -- one that is leaving is that of the old map
  pub leaves_between : stage ≡ 3 → is_between row block ≡ true
  leaves_between three = by_bool (row.map == of)
      (λ t. let e = own_stage t in let most = new_most home in absurd (omega arith))
      (λ f. let e = other_stage f in is_on_way home (omega arith))

  pub is_old_cell : stage ≡ 3 → record { map = of; block = block } ≡ old_cell row block
  is_old_cell three =
      let map_is : of ≡ old_map row.map row.moving = by_bool (row.map == of)
      (λ t. true_false (leaves_between three) (own_apart t))
      (λ f. left_map row.map of row.moving (other_left f)) in
      λ i. record { map = map_is i; block = block }
    where
      own_apart : (row.map == of) ≡ true → is_between row block ≡ false
      own_apart t = let e = own_stage t in is_there home (omega arith)

-- ### The cell that requests name

module _ (row : DiskRow) (block : ℕ) (old : (move : Move) → row.moving ≡ Some move → (row.map == move.old_map) ≡ false) where
  -- the map is one of the disk's; and how far the cell is
  pub record IsHomed (cell : Cell) (stage : ℕ) : Type 0 where
    pub has : has_map cell.map row ≡ true
    pub is : stage_under cell row ≡ stage

  own_homed : (r : RegionState) → home_of row block ≡ r → IsHomed (record { map = row.map; block = block }) (new_stage r)
  own_homed r at =
      let t = number_itself row.map in
      record {
        has = ap (λ b. b || leaves row.map row.moving) t;
        is = ap (λ b. if b then new_stage (home_of row block) else old_stage (home_of row block)) t ∙ ap new_stage at;
      }

  old_homed : (move : Move) → row.moving ≡ Some move → (r : RegionState) → home_of row block ≡ r
      → IsHomed (record { map = move.old_map; block = block }) (old_stage r)
  old_homed move e r at =
      let f = old move e in
      record {
        has = (λ i. f i || leaves move.old_map (e i)) ∙ number_itself move.old_map;
        is = ap (λ b. if b then new_stage (home_of row block) else old_stage (home_of row block)) f ∙ ap old_stage at;
      }

  abbrev named_stage : RegionState → ℕ
  named_stage r = if is_fenced r then 1 else 2

  pub named_homed : IsHomed (named_cell row block) (if is_between row block then 1 else 2)
  named_homed = by row.moving refl
    where
      named_by : (m : Option Move) → row.moving ≡ m → (r : RegionState) → home_of row block ≡ r
          → IsHomed (record { map = named_map row.map m r; block = block }) (named_stage r)
          → IsHomed (named_cell row block) (if is_between row block then 1 else 2)
      named_by m e r at h =
          subst (λ (q : RegionState). IsHomed (record { map = named_map row.map row.moving (home_of row block); block = block }) (named_stage q)) (sym at)
          (subst (λ of. IsHomed (record { map = of; block = block }) (named_stage r)) (sym (λ i. named_map row.map (e i) (at i))) h)

      region : (move : Move) → row.moving ≡ Some move → (r : RegionState) → home_of row block ≡ r
          → IsHomed (record { map = named_map row.map (Some move) r; block = block }) (named_stage r)
      region move e Old at = old_homed move e Old at
      region move e Fenced at = own_homed Fenced at
      region move e New at = own_homed New at

      by : (m : Option Move) → row.moving ≡ m → IsHomed (named_cell row block) (if is_between row block then 1 else 2)
      by None e = named_by None e New (ap (move_region (region_of block)) e) (own_homed New (ap (move_region (region_of block)) e))
      by (Some move) e = named_by (Some move) e (home_of row block) refl (region move e (home_of row block) refl)

  -- and the one of the old map, between two maps
  pub old_cell_homed : is_between row block ≡ true → IsHomed (old_cell row block) 3
  old_cell_homed between = by row.moving refl
    where
      fenced : (r : RegionState) → is_fenced r ≡ true → r ≡ Fenced
      fenced Old e = true_false e refl
      fenced Fenced e = refl
      fenced New e = true_false e refl

      by : (m : Option Move) → row.moving ≡ m → IsHomed (old_cell row block) 3
      by None e = true_false between (ap (λ m. is_fenced (move_region (region_of block) m)) e)
      by (Some move) e = subst (λ of. IsHomed (record { map = of; block = block }) 3) (sym (ap (old_map row.map) e))
          (old_homed move e Fenced (fenced (home_of row block) between))

-- a request's cell is the one that is named, and the old one where its client was told that the new map has nothing
map_named : (disk : DiskView) (m : Option Move) (r : RegionState) → disk.old_map ≡ option_map (λ (move : Move). move.old_map) m
    → map_asked disk false r ≡ named_map disk.map m r
map_named disk None Old e = ap (λ o. map_asked (record disk { old_map = o }) false Old) e
map_named disk (Some move) Old e = ap (λ o. map_asked (record disk { old_map = o }) false Old) e
map_named disk m Fenced e = refl
map_named disk m New e = refl

map_read : (disk : DiskView) (m : Option Move) (r : RegionState) → disk.old_map ≡ option_map (λ (move : Move). move.old_map) m
    → map_asked disk true r ≡ read_map disk.map m r
map_read disk None Old e = ap (λ o. map_asked (record disk { old_map = o }) true Old) e
map_read disk (Some move) Old e = ap (λ o. map_asked (record disk { old_map = o }) true Old) e
map_read disk None Fenced e = ap (λ o. map_asked (record disk { old_map = o }) true Fenced) e
map_read disk (Some move) Fenced e = ap (λ o. map_asked (record disk { old_map = o }) true Fenced) e
map_read disk m New e = refl

module _ (s : State) (row : DiskRow) (at : disk_at s.disks.rows row.id ≡ Some row) (block : ℕ) where
  pub asked_named : cell_asked s (view_of row) block false ≡ named_cell row block
  asked_named =
      let here : region_at (disk_at s.disks.rows row.id) (region_of block) ≡ home_of row block = ap (λ o. region_at o (region_of block)) at in
      let map_is = ap (map_asked (view_of row) false) here ∙ map_named (view_of row) row.moving (home_of row block) refl in
      λ i. record { map = map_is i; block = block }

  pub asked_read : cell_asked s (view_of row) block true ≡ read_cell row block
  asked_read =
      let here : region_at (disk_at s.disks.rows row.id) (region_of block) ≡ home_of row block = ap (λ o. region_at o (region_of block)) at in
      let map_is = ap (map_asked (view_of row) true) here ∙ map_read (view_of row) row.moving (home_of row block) refl in
      λ i. record { map = map_is i; block = block }

-- the map of a cell that a request names is one of the disk's
pub read_has : (row : DiskRow) (block : ℕ) → ((move : Move) → row.moving ≡ Some move → (row.map == move.old_map) ≡ false)
    → has_map (read_cell row block).map row ≡ true
read_has row block old = by row.moving refl
  where
    own : has_map row.map row ≡ true
    own = ap (λ b. b || leaves row.map row.moving) (number_itself row.map)

    left : (move : Move) → row.moving ≡ Some move → has_map move.old_map row ≡ true
    left move e = (λ i. old move e i || leaves move.old_map (e i)) ∙ number_itself move.old_map

    none : (r : RegionState) → has_map (read_map row.map None r) row ≡ true
    none Old = own
    none Fenced = own
    none New = own

    some : (move : Move) → row.moving ≡ Some move → (r : RegionState) → has_map (read_map row.map (Some move) r) row ≡ true
    some move e Old = left move e
    some move e Fenced = left move e
    some move e New = own

    by : (m : Option Move) → row.moving ≡ m → has_map (read_cell row block).map row ≡ true
    by None e = subst (λ m. has_map (read_map row.map m (home_of row block)) row ≡ true) (sym e) (none (home_of row block))
    by (Some move) e = subst (λ m. has_map (read_map row.map m (home_of row block)) row ≡ true) (sym e) (some move e (home_of row block))
