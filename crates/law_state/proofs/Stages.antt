-- How far a cell is by the row of its disk, and the regions of a move: each goes forward alone.
use Rattle.law_state.proofs.Imports.{if◌then◌else◌, ◌+◌, ◌<◌, ◌==◌, ◌||◌, ◌∙◌, ◌≡◌, ◌≤◌, Bool, Cell, DiskRow, Fenced, List, Move, New, None, Old, Option}
use Rattle.law_state.proofs.Imports.{RegionState, Some, State, ap, arith, by_test, false, inl, inr, is_fenced, is_some, leaves, length-replicate, length-set}
use Rattle.law_state.proofs.Imports.{move_region, owner, refl, region_of, replicate, same_numbers, same_or_apart, slice_get, slice_get_within, slice_set}
use Rattle.law_state.proofs.Imports.{some_or_none, subst, suc, sym, true, true_false, tuple_of, unwrap_or, zero, ℕ}
use Rattle.law_state.specs.Homes.{new_stage, old_stage, stage_at, stage_by, stage_of, stage_under}
use Rattle.law_state.specs.Tables.{IsShape}
use Rattle.law_state.proofs.ListLookups.{get_replicate, get_set_beside, get_set_here}

-- ### No stage is above 4

pub new_most : (region : RegionState) → new_stage region ≤ 2
new_most Old = omega arith
new_most Fenced = omega arith
new_most New = omega arith

pub fenced_old : (r : RegionState) → old_stage r ≡ 3 → r ≡ Fenced
fenced_old Old e = absurd (omega arith)
fenced_old Fenced e = refl
fenced_old New e = absurd (omega arith)

pub high_new : (r : RegionState) → 2 ≤ new_stage r → r ≡ New
high_new Old e = absurd (omega arith)
high_new Fenced e = absurd (omega arith)
high_new New e = refl

pub low_region : (block : ℕ) → region_of block < 16
low_region block = omega arith

-- the move from a map
pub left_move : (o : Option Move) (of : ℕ) → leaves of o ≡ true → (move : Move) × (o ≡ Some move) × (move.old_map ≡ of)
left_move None of e = true_false e refl
left_move (Some move) of e = (move, refl, same_numbers move.old_map of e)

under_most : (cell : Cell) (row : DiskRow) → stage_under cell row ≤ 4
under_most cell row =
    let most = new_most (move_region (region_of cell.block) row.moving) in
    by_test (λ k. k ≤ 4) (row.map == cell.map) _ _ (λ t. omega arith) (λ f. omega arith)

pub of_most : (cell : Cell) (row : DiskRow) → stage_of cell row ≤ 4
of_most cell row = by_test (λ k. k ≤ 4) _ (stage_under cell row) 4 (λ t. under_most cell row) (λ f. omega arith)

pub stage_most : (s : State) (cell : Cell) → stage_at s cell ≤ 4
stage_most s cell = by (owner s cell.map)
  where
    by : (o : Option DiskRow) → stage_by s cell o ≤ 4
    by None = by_test (λ k. k ≤ 4) (is_some (tuple_of s.maps cell.map)) 4 0 (λ t. omega arith) (λ f. omega arith)
    by (Some row) = under_most cell row

-- ### A row whose move goes forward

abbrev stage_value : Cell → Option Move → (own left : Bool) → ℕ
stage_value cell m own left =
    if own || left then (if own then new_stage (move_region (region_of cell.block) m) else old_stage (move_region (region_of cell.block) m)) else 4

value_most : (cell : Cell) (m : Option Move) (own left : Bool) → stage_value cell m own left ≤ 4
value_most cell m own left =
    let most = new_most (move_region (region_of cell.block) m) in
    by_test (λ k. k ≤ 4) (own || left) _ 4
    (λ t. by_test (λ k. k ≤ 4) own _ _ (λ mine. omega arith) (λ other. omega arith)) (λ f. omega arith)

value_on : (cell : Cell) (old new : Option Move) (own before later : Bool) → (later ≡ true → before ≡ true)
    → new_stage (move_region (region_of cell.block) old) ≤ new_stage (move_region (region_of cell.block) new)
    → stage_value cell old own before ≤ stage_value cell new own later
value_on cell old new true before later left forward = forward
value_on cell old new false before true left forward =
    let is : stage_value cell old false before ≡ old_stage (move_region (region_of cell.block) old) = ap (stage_value cell old false) (left refl) in
    let now : stage_value cell new false true ≡ old_stage (move_region (region_of cell.block) new) = refl in
    omega arith
value_on cell old new false before false left forward =
    let most = value_most cell old false before in
    let now : stage_value cell new false false ≡ 4 = refl in
    omega arith

pub moved_on : (cell : Cell) (row : DiskRow) (old new : Option Move) → (leaves cell.map new ≡ true → leaves cell.map old ≡ true)
    → new_stage (move_region (region_of cell.block) old) ≤ new_stage (move_region (region_of cell.block) new)
    → stage_of cell (record row { moving = old }) ≤ stage_of cell (record row { moving = new })
moved_on cell row old new left forward = value_on cell old new (row.map == cell.map) (leaves cell.map old) (leaves cell.map new) left forward

-- the same, where the row's move is told by an equation
pub row_on : (cell : Cell) (row : DiskRow) (old later new : Option Move) → row.moving ≡ old → later ≡ new
    → (leaves cell.map new ≡ true → leaves cell.map old ≡ true)
    → new_stage (move_region (region_of cell.block) old) ≤ new_stage (move_region (region_of cell.block) new)
    → stage_of cell row ≤ stage_of cell (record row { moving = later })
row_on cell row old later new is so left forward =
    subst (λ m. stage_of cell (record row { moving = m }) ≤ stage_of cell (record row { moving = later })) (sym is)
    (subst (λ m. stage_of cell (record row { moving = old }) ≤ stage_of cell (record row { moving = m })) (sym so)
    (moved_on cell row old new left forward))

-- a row that was not on the move begins one to a newer map
pub begun_on : (cell : Cell) (row : DiskRow) (of : ℕ) (move : Move) → row.moving ≡ None → move.old_map ≡ row.map → (of == cell.map) ≡ false
    → stage_of cell row ≤ stage_of cell (record row { map = of; moving = Some move })
begun_on cell row of move none old new =
    let was : stage_of cell row ≡ stage_value cell None (row.map == cell.map) false =
    ap (λ m. stage_value cell m (row.map == cell.map) (leaves cell.map m)) none in
    let now : stage_of cell (record row { map = of; moving = Some move }) ≡ stage_value cell (Some move) false (row.map == cell.map) =
    (λ i. stage_value cell (Some move) (new i) (old i == cell.map)) in
    let on = by (row.map == cell.map) in
    omega arith
  where
    by : (own : Bool) → stage_value cell None own false ≤ stage_value cell (Some move) false own
    by true = omega arith
    by false = omega arith

-- where one region of the move goes forward
pub set_on : (regions : List RegionState) (at i : ℕ) (was now : RegionState) → slice_get regions at ≡ Some was → new_stage was ≤ new_stage now
    → new_stage (unwrap_or (slice_get regions i) New) ≤ new_stage (unwrap_or (slice_get (slice_set regions at now) i) New)
set_on regions at i was now is forward = elim (same_or_apart i at) [
  | inl same ↦
      let before : new_stage (unwrap_or (slice_get regions i) New) ≡ new_stage was =
      ap (λ k. new_stage (unwrap_or (slice_get regions k) New)) same ∙ ap (λ o. new_stage (unwrap_or o New)) is in
      let later : new_stage (unwrap_or (slice_get (slice_set regions at now) i) New) ≡ new_stage now =
      ap (λ k. new_stage (unwrap_or (slice_get (slice_set regions at now) k) New)) same
      ∙ ap (λ o. new_stage (unwrap_or o New)) (get_set_here regions at now (slice_get_within regions at was is)) in
      omega arith
  | inr ne ↦
      let e : new_stage (unwrap_or (slice_get (slice_set regions at now) i) New) ≡ new_stage (unwrap_or (slice_get regions i) New) =
      ap (λ o. new_stage (unwrap_or o New)) (get_set_beside regions at i now ne) in
      omega arith
]

-- ### Shapes

pub data Side (a b : ℕ) : Type 0 where
  Under : a < b → Side a b
  Same : a ≡ b → Side a b
  Over : b < a → Side a b

pub side_of : (a b : ℕ) → Side a b
side_of zero zero = Same refl
side_of zero (suc b) = Under (omega arith)
side_of (suc a) zero = Over (omega arith)
side_of (suc a) (suc b) = elim (side_of a b) [ Under lt ↦ Under (omega arith) | Same e ↦ Same (ap suc e) | Over lt ↦ Over (omega arith) ]

pub shape_begun : IsShape (replicate 16 Old) 0 Old
shape_begun = record {
  many = length-replicate 16 Old;
  low = omega arith;
  new = λ i lt. absurd (omega arith);
  here = get_replicate 16 0 Old (omega arith);
  old = λ i lt high. get_replicate 16 i Old high;
}

-- the region that is next goes forward
pub shape_set : (regions : List RegionState) (at : ℕ) (was now : RegionState) → IsShape regions at was → IsShape (slice_set regions at now) at now
shape_set regions at was now h = record {
  many = length-set regions at now ∙ h.many;
  low = h.low;
  new = λ i lt. get_set_beside regions at i now (λ e. omega arith) ∙ h.new i lt;
  here = get_set_here regions at now (slice_get_within regions at was h.here);
  old = λ i lt high. get_set_beside regions at i now (λ e. omega arith) ∙ h.old i lt high;
}

-- once it is at the new map, the one after it is next
pub shape_next : (regions : List RegionState) (at : ℕ) → IsShape regions at New → at < 15 → IsShape regions (at + 1) Old
shape_next regions at h low = record {
  many = h.many;
  low = omega arith;
  new = λ i lt. elim (side_of i at) [
    | Under below ↦ h.new i below
    | Same e ↦ ap (slice_get regions) e ∙ h.here
    | Over above ↦ absurd (omega arith)
  ];
  here = h.old (at + 1) (omega arith) (omega arith);
  old = λ i lt high. h.old i (omega arith) high;
}

-- a region that is on its way is the next one
pub fenced_next : (regions : List RegionState) (at i : ℕ) (now : RegionState) → IsShape regions at now
    → is_fenced (unwrap_or (slice_get regions i) New) ≡ true → (i ≡ at) × (now ≡ Fenced)
fenced_next regions at i now h on = elim (side_of i at) [
  | Under lt ↦ true_false on (ap (λ o. is_fenced (unwrap_or o New)) (h.new i lt))
  | Same e ↦ (e, by now (sym (ap (λ o. is_fenced (unwrap_or o New)) (ap (slice_get regions) e ∙ h.here)) ∙ on))
  | Over lt ↦ elim (some_or_none (slice_get regions i)) [
    | inl x ↦ let within = slice_get_within regions i x.0 x.1 in
        let many = h.many in
        true_false on (ap (λ o. is_fenced (unwrap_or o New)) (h.old i lt (omega arith)))
    | inr none ↦ true_false on (ap (λ o. is_fenced (unwrap_or o New)) none)
  ]
]
  where
    by : (r : RegionState) → is_fenced r ≡ true → r ≡ Fenced
    by Old e = true_false e refl
    by Fenced e = refl
    by New e = true_false e refl

old_not_fenced : {A : Type 0} → Some Old ≡ Some Fenced → A
old_not_fenced e = true_false refl (ap (λ o. is_fenced (unwrap_or o New)) (sym e))

new_not_fenced : {A : Type 0} → Some New ≡ Some Fenced → A
new_not_fenced e = true_false refl (ap (λ o. is_fenced (unwrap_or o New)) (sym e))

-- where one is, none waits
pub no_fenced : {A : Type 0} (regions : List RegionState) (a b : ℕ) → IsShape regions a Old → IsShape regions b Fenced → A
no_fenced regions a b h k = elim (side_of b a) [
  | Under lt ↦ new_not_fenced (sym (h.new b lt) ∙ k.here)
  | Same e ↦ old_not_fenced (sym (ap (slice_get regions) e ∙ h.here) ∙ k.here)
  | Over lt ↦ old_not_fenced (sym (h.old b lt k.low) ∙ k.here)
]
