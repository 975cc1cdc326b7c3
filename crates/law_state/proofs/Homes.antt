-- What a state says of a cell, its stage says.
use Rattle.law_state.proofs.Imports.{if◌then◌else◌, ◌&&◌, ◌+◌, ◌<◌, ◌==◌, ◌||◌, ◌∙◌, ◌≡◌, ◌≤◌, ◌⊎◌, Bool, Cell, DiskRow, Fenced, MapRow, Move, New, None, Old}
use Rattle.law_state.proofs.Imports.{Option, RegionState, Some, State, ap, arith, by_bool, cell_link, comes_under, coming, disk_of, false, has_map, inl, inr}
use Rattle.law_state.proofs.Imports.{is_fenced, is_lead, is_the, lead, leaves, leaving, live, live_new, live_old, live_under, move_region, mover, nat_le}
use Rattle.law_state.proofs.Imports.{nat_tests, not, number_itself, option_and_then, option_map, option_map_or, owner, refl, region_of, row_lead}
use Rattle.law_state.proofs.Imports.{same_numbers, slice_get, some_or_none, source, source_in, sym, target, true, true_false, ℕ}
use Rattle.law_state.specs.Homes.{HasStage, HasTwin, era_by, new_stage, old_stage, stage_at, stage_of, stage_under}
use Rattle.law_state.specs.Tables.{HasHome, IsRowAt}
use Rattle.law_state.proofs.Owners.{home, home_of, kept_by, left_by, mover_is, no_home, owner_is, stage_in, stage_is}
use Rattle.law_state.proofs.Stages.{new_most, stage_most, fenced_old}

-- ### Eras

pub era_grows : (e f a b : ℕ) → e ≤ f → a ≤ b → era_by e a ≤ era_by f b
era_grows e f a b le on = by_bool (nat_le 3 a)
    (λ t.
    let was : era_by e a ≡ e + 1 = ap (λ x. e + (if x then 1 else 0)) t in
    let now : era_by f b ≡ f + 1 = ap (λ x. f + (if x then 1 else 0)) (up t) in
    omega arith)
    (λ n.
    let was : era_by e a ≡ e + 0 = ap (λ x. e + (if x then 1 else 0)) n in
    let now = least in
    omega arith)
  where
    up : nat_le 3 a ≡ true → nat_le 3 b ≡ true
    up t = grind (arith, nat_tests)

    least : f ≤ era_by f b
    least = omega arith

-- ### Phases

-- the stage, and whether the cell is live, leaves and comes
pub record IsSaid (state : State) (cell : Cell) (stage : ℕ) (lives leaves comes : Bool) : Type 0 where
  pub stage_is : stage_at state cell ≡ stage
  pub lives_is : live state cell ≡ lives
  pub leaves_is : leaving state cell ≡ leaves
  pub comes_is : coming state cell ≡ comes

pub data Phase (state : State) (cell : Cell) : Type 0 where
  Unborn : IsSaid state cell 0 false false false → Phase state cell
  Coming : IsSaid state cell 1 true false true → Phase state cell
  Settled : IsSaid state cell 2 true false false → Phase state cell
  Leaving : IsSaid state cell 3 true true false → Phase state cell
  Retired : IsSaid state cell 4 false false false → Phase state cell

module _ (s : State) (at_rows : (i : ℕ) (row : DiskRow) → slice_get s.disks.rows i ≡ Some row → IsRowAt s.maps i row)
    (at_homes : (of disk : ℕ) → disk_of s.maps of ≡ Some disk → HasHome s of disk) (cell : Cell) where
  abbrev region : ℕ
  region = region_of cell.block

  -- by the row of the disk for which the map was made
  module _ (row : DiskRow) (m : MapRow) (known : slice_get s.maps cell.map ≡ Some m) (is : home s cell.map ≡ Some row)
      (moving : (move : Move) → row.moving ≡ Some move → move.old_map < row.map) where
    owner_by : (b : Bool) → has_map cell.map row ≡ b → owner s cell.map ≡ (if b then Some row else None)
    owner_by b e = owner_is s at_rows cell.map ∙ ap (option_and_then (kept_by cell.map)) is ∙ ap (λ x. if x then Some row else None) e

    mover_by : (b : Bool) → leaves cell.map row.moving ≡ b → mover s cell.map ≡ (if b then Some row else None)
    mover_by b e = mover_is s at_rows cell.map ∙ ap (option_and_then (left_by cell.map)) is ∙ ap (λ x. if x then Some row else None) e

    stage_row : stage_at s cell ≡ stage_of cell row
    stage_row = stage_is s at_rows at_homes cell ∙ ap (stage_in cell) is

    -- the disk's own map is not the one that it leaves
    pub not_both : row.map ≡ cell.map → leaves cell.map row.moving ≡ false
    not_both own = by row.moving refl
      where
        by : (o : Option Move) → row.moving ≡ o → leaves cell.map o ≡ false
        by None e = refl
        by (Some move) e = by_bool (move.old_map == cell.map)
            (λ t. let a = moving move e in let b = same_numbers move.old_map cell.map t in absurd (omega arith)) (λ f. f)

    own_phase : (row.map == cell.map) ≡ true → (r : RegionState) → move_region region row.moving ≡ r → Phase s cell
    own_phase own r at =
        let out = not_both (same_numbers row.map cell.map own) in
        let has : has_map cell.map row ≡ true = ap (λ b. b || leaves cell.map row.moving) own in
        let stage : stage_at s cell ≡ new_stage r = stage_row ∙ ap (λ b. if b then stage_under cell row else 4) has
        ∙ ap (λ b. if b then new_stage (move_region region row.moving) else old_stage (move_region region row.moving)) own ∙ ap new_stage at in
        let lives : live s cell ≡ live_new r = ap (λ o. option_map_or (live_under cell.map region) o false) (owner_by true has)
        ∙ ap (λ b. if b then live_new (move_region region row.moving) else live_old (move_region region row.moving)) own ∙ ap live_new at in
        let stays : leaving s cell ≡ false =
        ap (λ o. option_map_or (λ (x : DiskRow). is_fenced (move_region region x.moving)) o false) (mover_by false out) in
        let comes : coming s cell ≡ is_fenced r = ap (λ o. option_map_or (comes_under cell) o false) (owner_by true has)
        ∙ ap (λ b. b && is_fenced (move_region region row.moving)) own ∙ ap is_fenced at in
        by r stage lives stays comes
      where
        by : (r : RegionState) → stage_at s cell ≡ new_stage r → live s cell ≡ live_new r → leaving s cell ≡ false → coming s cell ≡ is_fenced r → Phase s cell
        by Old a b c d = Unborn (record { stage_is = a; lives_is = b; leaves_is = c; comes_is = d })
        by Fenced a b c d = Coming (record { stage_is = a; lives_is = b; leaves_is = c; comes_is = d })
        by New a b c d = Settled (record { stage_is = a; lives_is = b; leaves_is = c; comes_is = d })

    old_phase : (row.map == cell.map) ≡ false → leaves cell.map row.moving ≡ true → (r : RegionState) → move_region region row.moving ≡ r → Phase s cell
    old_phase other left r at =
        let has : has_map cell.map row ≡ true = (λ i. other i || left i) in
        let stage : stage_at s cell ≡ old_stage r = stage_row ∙ ap (λ b. if b then stage_under cell row else 4) has
        ∙ ap (λ b. if b then new_stage (move_region region row.moving) else old_stage (move_region region row.moving)) other ∙ ap old_stage at in
        let lives : live s cell ≡ live_old r = ap (λ o. option_map_or (live_under cell.map region) o false) (owner_by true has)
        ∙ ap (λ b. if b then live_new (move_region region row.moving) else live_old (move_region region row.moving)) other ∙ ap live_old at in
        let leaves_so : leaving s cell ≡ is_fenced r =
        ap (λ o. option_map_or (λ (x : DiskRow). is_fenced (move_region region x.moving)) o false) (mover_by true left) ∙ ap is_fenced at in
        let comes : coming s cell ≡ false = ap (λ o. option_map_or (comes_under cell) o false) (owner_by true has)
        ∙ ap (λ b. b && is_fenced (move_region region row.moving)) other in
        by r stage lives leaves_so comes
      where
        by : (r : RegionState) → stage_at s cell ≡ old_stage r → live s cell ≡ live_old r → leaving s cell ≡ is_fenced r → coming s cell ≡ false → Phase s cell
        by Old a b c d = Settled (record { stage_is = a; lives_is = b; leaves_is = c; comes_is = d })
        by Fenced a b c d = Leaving (record { stage_is = a; lives_is = b; leaves_is = c; comes_is = d })
        by New a b c d = Retired (record { stage_is = a; lives_is = b; leaves_is = c; comes_is = d })

    retired_phase : (row.map == cell.map) ≡ false → leaves cell.map row.moving ≡ false → Phase s cell
    retired_phase other out =
        let has : has_map cell.map row ≡ false = (λ i. other i || out i) in
        Retired (record {
          stage_is = stage_row ∙ ap (λ b. if b then stage_under cell row else 4) has;
          lives_is = ap (λ o. option_map_or (live_under cell.map region) o false) (owner_by false has);
          leaves_is = ap (λ o. option_map_or (λ (x : DiskRow). is_fenced (move_region region x.moving)) o false) (mover_by false out);
          comes_is = ap (λ o. option_map_or (comes_under cell) o false) (owner_by false has);
        })

    row_phase : Phase s cell
    row_phase = by_bool (row.map == cell.map) (λ own. own_phase own (move_region region row.moving) refl)
        (λ other. by_bool (leaves cell.map row.moving) (λ left. old_phase other left (move_region region row.moving) refl) (retired_phase other))

  -- the row of a known map
  pub record HasRow : Type 0 where
    pub row : DiskRow
    pub place : ℕ
    pub m : MapRow
    pub known : slice_get s.maps cell.map ≡ Some m
    pub is : home s cell.map ≡ Some row
    pub stands : slice_get s.disks.rows place ≡ Some row
    pub so : IsRowAt s.maps place row

  pub row_or_none : HasRow ⊎ (slice_get s.maps cell.map ≡ None)
  row_or_none = elim (some_or_none (slice_get s.maps cell.map)) [
    | inl m ↦
        let h = home_of s at_rows at_homes cell.map m.0 m.1 in
        inl (record {
          row = h.0.row;
          place = m.0.disk;
          m = m.0;
          known = m.1;
          is = h.1;
          stands = h.0.is;
          so = at_rows m.0.disk h.0.row h.0.is;
        })
    | inr none ↦ inr none
  ]

  pub phase_of : Phase s cell
  phase_of = elim row_or_none [
    | inl h ↦ row_phase h.row h.m h.known h.is (λ move e. (h.so.moving move e).old)
    | inr none ↦
        let gone = no_home s at_rows at_homes cell.map none in
        let unowned : owner s cell.map ≡ None = owner_is s at_rows cell.map ∙ ap (option_and_then (kept_by cell.map)) gone in
        let unmoved : mover s cell.map ≡ None = mover_is s at_rows cell.map ∙ ap (option_and_then (left_by cell.map)) gone in
        Unborn (record {
          stage_is = stage_is s at_rows at_homes cell ∙ ap (stage_in cell) gone;
          lives_is = ap (λ o. option_map_or (live_under cell.map region) o false) unowned;
          leaves_is = ap (λ o. option_map_or (λ (x : DiskRow). is_fenced (move_region region x.moving)) o false) unmoved;
          comes_is = ap (λ o. option_map_or (comes_under cell) o false) unowned;
        })
  ]

  -- ### Who leads it

  abbrev lead_of : (lives leaves : Bool) → Option ℕ
  lead_of lives leaves = if not lives then None else if leaves then None else option_and_then (row_lead s) (cell_link s cell)

  -- the lead of its link, where it is live and does not leave
  pub led_so : live s cell ≡ true → leaving s cell ≡ false → lead s cell ≡ option_and_then (row_lead s) (cell_link s cell)
  led_so lives stays = (λ i. lead_of (lives i) (stays i))

  pub not_live : live s cell ≡ false → lead s cell ≡ None
  not_live retired = ap (λ b. lead_of b (leaving s cell)) retired

  pub not_led : live s cell ≡ true → leaving s cell ≡ true → lead s cell ≡ None
  not_led lives left = (λ i. lead_of (lives i) (left i))

  nobody : {A : Type 0} (n : ℕ) → lead s cell ≡ None → is_lead s n cell ≡ true → A
  nobody n none e = true_false e (ap (λ o. is_the o n) none)

  -- ### The other cell

  fenced_new : (r : RegionState) → new_stage r ≡ 1 → r ≡ Fenced
  fenced_new Old e = absurd (omega arith)
  fenced_new Fenced e = refl
  fenced_new New e = absurd (omega arith)

  -- a region that is on its way has a move
  on_move : (o : Option Move) → move_region region o ≡ Fenced → (move : Move) × (o ≡ Some move)
  on_move None e = true_false refl (ap is_fenced (sym e))
  on_move (Some move) e = (move, refl)

  old_least : (r : RegionState) → 2 ≤ old_stage r
  old_least r = omega arith

  -- a cell of this map of the row, by how far its region is
  home_stage : (h : HasRow) (other : Cell) → home s other.map ≡ Some h.row → (b : Bool) → (h.row.map == other.map) ≡ b → has_map other.map h.row ≡ true
      → stage_at s other ≡ (if b then new_stage (move_region (region_of other.block) h.row.moving) else old_stage (move_region
      (region_of other.block) h.row.moving))
  home_stage h other is b own has =
      stage_is s at_rows at_homes other ∙ ap (stage_in other) is ∙ ap (λ x. if x then stage_under other h.row else 4) has
      ∙ ap (λ x. if x then new_stage (move_region (region_of other.block) h.row.moving) else old_stage (move_region (region_of other.block) h.row.moving)) own

  home_at : (h : HasRow) (of : ℕ) → disk_of s.maps of ≡ Some h.place → home s of ≡ Some h.row
  home_at h of e = ap (option_and_then (slice_get s.disks.rows)) e ∙ h.stands

  -- the stage says which of the two maps it is of, and that its region is on its way
  coming_row : stage_at s cell ≡ 1 → (h : HasRow) × ((h.row.map == cell.map) ≡ true) × (move_region region h.row.moving ≡ Fenced)
  coming_row e = elim row_or_none [
    | inr none ↦
        let zero_too : stage_at s cell ≡ 0 = stage_is s at_rows at_homes cell ∙ ap (stage_in cell) (no_home s at_rows at_homes cell.map none) in
        absurd (omega arith)
    | inl h ↦ by_bool (h.row.map == cell.map)
        (λ own. (
          h,
          own,
          fenced_new (move_region region h.row.moving)
              (sym (home_stage h cell h.is true own (ap (λ b. b || leaves cell.map h.row.moving) own)) ∙ e),
        ))
        (λ other. by_bool (leaves cell.map h.row.moving)
        (λ left.
        let is = home_stage h cell h.is false other (λ i. other i || left i) in
        let low = old_least (move_region region h.row.moving) in
        absurd (omega arith))
        (λ out.
        let is : stage_at s cell ≡ 4 = stage_is s at_rows at_homes cell ∙ ap (stage_in cell) h.is
        ∙ ap (λ x. if x then stage_under cell h.row else 4) (λ i. other i || out i) in
        absurd (omega arith)))
  ]

  pub leaving_row : stage_at s cell ≡ 3 → (h : HasRow) × ((h.row.map == cell.map) ≡ false) × (leaves cell.map h.row.moving ≡ true)
      × (move_region region h.row.moving ≡ Fenced)
  leaving_row e = elim row_or_none [
    | inr none ↦
        let zero_too : stage_at s cell ≡ 0 = stage_is s at_rows at_homes cell ∙ ap (stage_in cell) (no_home s at_rows at_homes cell.map none) in
        absurd (omega arith)
    | inl h ↦ by_bool (h.row.map == cell.map)
        (λ own.
        let is = home_stage h cell h.is true own (ap (λ b. b || leaves cell.map h.row.moving) own) in
        let high = new_most (move_region region h.row.moving) in
        absurd (omega arith))
        (λ other. by_bool (leaves cell.map h.row.moving)
        (λ left. (h, other, left, fenced_old (move_region region h.row.moving) (sym (home_stage h cell h.is false other (λ i. other i || left i)) ∙ e)))
        (λ out.
        let is : stage_at s cell ≡ 4 = stage_is s at_rows at_homes cell ∙ ap (stage_in cell) h.is
        ∙ ap (λ x. if x then stage_under cell h.row else 4) (λ i. other i || out i) in
        absurd (omega arith)))
  ]

  less_apart : (a b : ℕ) → a < b → (b == a) ≡ false
  less_apart a b lt = by_bool (b == a) (λ t. let e = same_numbers b a t in absurd (omega arith)) (λ f. f)

  pub source_of : stage_at s cell ≡ 1 → (old : Cell) × (source s cell ≡ Some old) × (target s old ≡ Some cell) × HasTwin s cell old 3
  source_of e =
      let c = coming_row e in
      let h = c.0 in
      let m = on_move h.row.moving c.2 in
      let moving = h.so.moving m.0 m.1 in
      let old : Cell = record { map = m.0.old_map; block = cell.block } in
      let there = home_at h m.0.old_map moving.from in
      let left : leaves m.0.old_map h.row.moving ≡ true = ap (leaves m.0.old_map) m.1 ∙ number_itself m.0.old_map in
      let other : (h.row.map == m.0.old_map) ≡ false = less_apart m.0.old_map h.row.map moving.old in
      let same : h.row.map ≡ cell.map = same_numbers h.row.map cell.map c.1 in (
        old,
        ap (option_and_then (source_in cell)) (owner_by h.row h.m h.known h.is (λ move f. (h.so.moving move f).old) true
            (ap (λ b. b || leaves cell.map h.row.moving) c.1))
            ∙ ap (λ b. if b then option_map (λ (move : Move). record { map = move.old_map; block = cell.block }) h.row.moving else None) c.1
            ∙ ap (option_map (λ (move : Move). record { map = move.old_map; block = cell.block })) m.1,
        ap (option_map (λ (row : DiskRow). record { map = row.map; block = cell.block }))
            (mover_is s at_rows m.0.old_map ∙ ap (option_and_then (left_by m.0.old_map)) there ∙ ap (λ b. if b then Some h.row else None) left)
            ∙ ap (λ k. Some (record { map = k; block = cell.block })) same,
        record {
          block = refl;
          stage_is = home_stage h old there false other (λ i. other i || left i) ∙ ap old_stage c.2;
        },
      )

  pub target_of : stage_at s cell ≡ 3 → (new : Cell) × (target s cell ≡ Some new) × (source s new ≡ Some cell) × HasTwin s cell new 1
  target_of e =
      let c = leaving_row e in
      let h = c.0 in
      let m = on_move h.row.moving c.3 in
      let new : Cell = record { map = h.row.map; block = cell.block } in
      let there = home_at h h.row.map h.so.of in
      let own : (h.row.map == h.row.map) ≡ true = number_itself h.row.map in
      let has : has_map h.row.map h.row ≡ true = ap (λ b. b || leaves h.row.map h.row.moving) own in
      let same : m.0.old_map ≡ cell.map = same_numbers m.0.old_map cell.map (sym (ap (leaves cell.map) m.1) ∙ c.2) in (
        new,
        ap (option_map (λ (row : DiskRow). record { map = row.map; block = cell.block }))
            (mover_by h.row h.m h.known h.is (λ move f. (h.so.moving move f).old) true c.2),
        ap (option_and_then (source_in new))
            (owner_is s at_rows h.row.map ∙ ap (option_and_then (kept_by h.row.map)) there ∙ ap (λ b. if b then Some h.row else None) has)
            ∙ ap (λ b. if b then option_map (λ (move : Move). record { map = move.old_map; block = cell.block }) h.row.moving else None) own
            ∙ ap (option_map (λ (move : Move). record { map = move.old_map; block = cell.block })) m.1
            ∙ ap (λ k. Some (record { map = k; block = cell.block })) same,
        record { block = refl; stage_is = home_stage h new there true own has ∙ ap new_stage c.3 },
      )

  -- ### The whole

  pub has_stage : HasStage s cell
  has_stage = record {
    most = stage_most s cell;
    lives = λ e. elim phase_of [
      | Unborn x ↦ true_false e x.lives_is
      | Coming x ↦ (let f = x.stage_is in (omega arith, omega arith))
      | Settled x ↦ (let f = x.stage_is in (omega arith, omega arith))
      | Leaving x ↦ (let f = x.stage_is in (omega arith, omega arith))
      | Retired x ↦ true_false e x.lives_is
    ];
    alive = λ low high. elim phase_of [
      | Unborn x ↦ (let f = x.stage_is in absurd (omega arith))
      | Coming x ↦ x.lives_is
      | Settled x ↦ x.lives_is
      | Leaving x ↦ x.lives_is
      | Retired x ↦ (let f = x.stage_is in absurd (omega arith))
    ];
    leaves = λ e. elim phase_of [
      | Unborn x ↦ true_false e x.leaves_is
      | Coming x ↦ true_false e x.leaves_is
      | Settled x ↦ true_false e x.leaves_is
      | Leaving x ↦ x.stage_is
      | Retired x ↦ true_false e x.leaves_is
    ];
    left = λ e. elim phase_of [
      | Unborn x ↦ (let f = x.stage_is in absurd (omega arith))
      | Coming x ↦ (let f = x.stage_is in absurd (omega arith))
      | Settled x ↦ (let f = x.stage_is in absurd (omega arith))
      | Leaving x ↦ x.leaves_is
      | Retired x ↦ (let f = x.stage_is in absurd (omega arith))
    ];
    comes = λ e. elim phase_of [
      | Unborn x ↦ true_false e x.comes_is
      | Coming x ↦ x.stage_is
      | Settled x ↦ true_false e x.comes_is
      | Leaving x ↦ true_false e x.comes_is
      | Retired x ↦ true_false e x.comes_is
    ];
    came = λ e. elim phase_of [
      | Unborn x ↦ (let f = x.stage_is in absurd (omega arith))
      | Coming x ↦ x.comes_is
      | Settled x ↦ (let f = x.stage_is in absurd (omega arith))
      | Leaving x ↦ (let f = x.stage_is in absurd (omega arith))
      | Retired x ↦ (let f = x.stage_is in absurd (omega arith))
    ];
    leads = λ n e. elim phase_of [
      | Unborn x ↦ nobody n (not_live x.lives_is) e
      | Coming x ↦ (let f = x.stage_is in (sym (ap (λ o. is_the o n) (led_so x.lives_is x.leaves_is)) ∙ e, omega arith, omega arith))
      | Settled x ↦ (let f = x.stage_is in (sym (ap (λ o. is_the o n) (led_so x.lives_is x.leaves_is)) ∙ e, omega arith, omega arith))
      | Leaving x ↦ nobody n (not_led x.lives_is x.leaves_is) e
      | Retired x ↦ nobody n (not_live x.lives_is) e
    ];
    led = λ n e low high. elim phase_of [
      | Unborn x ↦ (let f = x.stage_is in absurd (omega arith))
      | Coming x ↦ ap (λ o. is_the o n) (led_so x.lives_is x.leaves_is) ∙ e
      | Settled x ↦ ap (λ o. is_the o n) (led_so x.lives_is x.leaves_is) ∙ e
      | Leaving x ↦ (let f = x.stage_is in absurd (omega arith))
      | Retired x ↦ (let f = x.stage_is in absurd (omega arith))
    ];
    sources = source_of;
    targets = target_of;
  }
