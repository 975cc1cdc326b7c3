-- Links are noted one by one, each after its own Moved: what of this a state says, that stands in its log.
use Rattle.law_state.proofs.Imports.{[], if◌then◌else◌, ◌&&◌, ◌++◌, ◌+◌, ◌<◌, ◌==◌, ◌||◌, ◌∙◌, ◌∷◌, ◌≡◌, ◌≤◌, ◌⊎◌, Bool, Cell, Command, DiskRow, Fence}
use Rattle.law_state.proofs.Imports.{Fenced, IsPrefix, List, MakeDisk, MapRow, Move, Moved, New, None, Old, Option, Region, RegionState, Some, StartMove}
use Rattle.law_state.proofs.Imports.{State, act, after, all_noted, ap, arith, both_true, by_bool, disk_of, false, has_link, inl, inr, is_fenced, is_noted}
use Rattle.law_state.proofs.Imports.{is_tuple, leaves, length, links_of, list_all, list_any, move_fenced, move_region, mover, named, nat_eq, nat_tests}
use Rattle.law_state.proofs.Imports.{none_some, noted_in, number_itself, option_and_then, option_map, option_map_or, range_with_len, refl, region_of}
use Rattle.law_state.proofs.Imports.{row_fenced, row_frozen, row_moving, row_noted, same_numbers, same_or_apart, same_some, settled, slice_get}
use Rattle.law_state.proofs.Imports.{slice_get_within, slice_set, some_or_none, source, start, state_after, subst, suc, sym, true, true_false, tuple_of}
use Rattle.law_state.proofs.Imports.{unwrap_or, with_disk, with_fence, with_link, with_move, zero, ℕ}
use Rattle.law_state.specs.Homes.{new_stage, old_stage, stage_at, stage_of}
use Rattle.law_state.specs.NotedLinks.{HasMovedIn}
use Rattle.law_state.specs.Plain.{HasProperTuple, HasProperTuples}
use Rattle.law_state.specs.Tables.{IsSettledState, Of_disk, Of_region}
use Rattle.law_state.proofs.EntriesOnlyAdd.{acting, log_plain}
use Rattle.law_state.proofs.Eras.{fenced_apart}
use Rattle.law_state.proofs.Fences.{Acted, IsUnsettled, head_get, ready_by}
use Rattle.law_state.proofs.Homes.{leaving_row, row_or_none, source_of, HasRow}
use Rattle.law_state.proofs.MapsAreAdded.{map_on, new_map, row_last, same_home}
use Rattle.law_state.proofs.MovesOfDisks.{IsNoting, at_row, begins, known, move_then, moved_state, noted_state, noting, on_way, onward, over, row_now}
use Rattle.law_state.proofs.Owners.{disk_on, home, mover_is, no_home, stage_in, stage_is, left_by as left_by_row}
use Rattle.law_state.proofs.FencesPass.{framed_itself, framed_passed, here_row, one_passed, passed_beside, passed_here, passing, region_beside, region_here}
use Rattle.law_state.proofs.FencesPass.{region_row, settled_keeps}
use Rattle.law_state.proofs.ListLookups.{get_last, get_replicate, get_set_beside, get_set_here}
use Rattle.law_state.proofs.DiskRowChanges.{beside, here, here_now}
use Rattle.law_state.proofs.Steady.{prefix_plain, log_grown}
use Rattle.law_state.proofs.Stages.{Over, Same, Under, fenced_next, new_most, of_most, side_of, high_new, low_region, left_move, fenced_old}
use Rattle.law_state.proofs.EntryByEntry.{NextEntry, by_entries, settled_there}
use Rattle.law_state.proofs.EntryOutcomes.{Begins, Ends, Makes, Moves_on, Notes, Outcome, outcome}
use Rattle.law_state.proofs.MapsAreAdded as making

-- ### Lists of links

any_last : (n last : ℕ) (xs : List ℕ) → list_any (nat_eq n) (xs ++ last ∷ []) ≡ true → (last ≡ n) ⊎ (list_any (nat_eq n) xs ≡ true)
any_last n last [] e = by_bool (nat_eq n last) (λ t. inl (sym (same_numbers n last t))) (λ f. true_false e (ap (λ b. b || false) f))
any_last n last (x ∷ xs) e = by_bool (nat_eq n x)
    (λ t. inr (ap (λ b. b || list_any (nat_eq n) xs) t))
    (λ f. elim (any_last n last xs (sym (ap (λ b. b || list_any (nat_eq n) (xs ++ last ∷ [])) f) ∙ e)) [
      | inl is ↦ inl is
      | inr old ↦ inr (ap (λ b. b || list_any (nat_eq n) xs) f ∙ old)
    ])

-- a link that is there once another is noted was there, or is that one
has_with : (n last : ℕ) (noted : List ℕ) → has_link n (with_link last noted) ≡ true → (last ≡ n) ⊎ (has_link n noted ≡ true)
has_with n last noted e = by_bool (has_link last noted)
    (λ t. inr (sym (ap (λ b. has_link n (if b then noted else noted ++ last ∷ [])) t) ∙ e))
    (λ f. any_last n last noted (sym (ap (λ b. has_link n (if b then noted else noted ++ last ∷ [])) f) ∙ e))

all_range : (p : ℕ → Bool) (start many i : ℕ) → list_all p (range_with_len start many) ≡ true → start ≤ i → i < start + many → p i ≡ true
all_range p start zero i e low high = absurd (omega arith)
all_range p start (suc many) i e low high =
    let h = both_true (p start) (list_all p (range_with_len (start + 1) many)) e in
    by_bool (nat_eq i start)
    (λ t. ap p (same_numbers i start t) ∙ h.0)
    (λ f. all_range p (start + 1) many i h.1 (past f) (omega arith))
  where
    past : nat_eq i start ≡ false → start + 1 ≤ i
    past f = grind (arith, nat_tests)

all_has : (n i : ℕ) (noted : List ℕ) → all_noted n noted ≡ true → i < n → has_link i noted ≡ true
all_has n i noted e lt = all_range (λ link. has_link link noted) 0 n i e (omega arith) (omega arith)

-- ### A row of a disk

-- the link is noted for the cell's region, which is on its way; or the cell is retired
abbrev pub IsFilled : Cell → (link links : ℕ) → DiskRow → Type 0
IsFilled cell link links row =
    ((stage_of cell row ≡ 3) × (noted_in (region_of cell.block) link row.moving ≡ true)) ⊎ ((stage_of cell row ≡ 4) × (link < links))

-- a cell of the disk's own map is neither
pub own_value : (cell : Cell) (row : DiskRow) → (row.map == cell.map) ≡ true → stage_of cell row ≡ new_stage (move_region (region_of cell.block) row.moving)
own_value cell row own =
    (λ i. if own i || leaves cell.map row.moving then (if own i then new_stage (move_region (region_of cell.block) row.moving)
    else old_stage (move_region (region_of cell.block) row.moving)) else 4)

own_low : (cell : Cell) (row : DiskRow) → (row.map == cell.map) ≡ true → stage_of cell row ≤ 2
own_low cell row own =
    let e = own_value cell row own in
    let most = new_most (move_region (region_of cell.block) row.moving) in
    omega arith

pub old_value : (cell : Cell) (row : DiskRow) → (row.map == cell.map) ≡ false → leaves cell.map row.moving ≡ true
    → stage_of cell row ≡ old_stage (move_region (region_of cell.block) row.moving)
old_value cell row other left =
    (λ i. if other i || left i then (if other i then new_stage (move_region (region_of cell.block) row.moving)
    else old_stage (move_region (region_of cell.block) row.moving)) else 4)

pub gone_value : (cell : Cell) (row : DiskRow) → (row.map == cell.map) ≡ false → leaves cell.map row.moving ≡ false → stage_of cell row ≡ 4
gone_value cell row other out =
    (λ i. if other i || out i then (if other i then new_stage (move_region (region_of cell.block) row.moving)
    else old_stage (move_region (region_of cell.block) row.moving)) else 4)

-- one that is not retired is told by its region
three_left : (cell : Cell) (row : DiskRow) → stage_of cell row ≡ 3 → ((row.map == cell.map) ≡ false) × (leaves cell.map row.moving ≡ true)
    × (move_region (region_of cell.block) row.moving ≡ Fenced)
three_left cell row e = by_bool (row.map == cell.map)
    (λ own. let low = own_low cell row own in absurd (omega arith))
    (λ other. by_bool (leaves cell.map row.moving)
    (λ left. (other, left, fenced_old (move_region (region_of cell.block) row.moving) (sym (old_value cell row other left) ∙ e)))
    (λ out. let four = gone_value cell row other out in absurd (omega arith)))

-- ### A link is noted

module _ (servers : ℕ) (s : State) (p : IsSettledState servers s) (of region last : ℕ) (h : IsNoting s of region last) (cell : Cell) where
  abbrev then_row : DiskRow
  then_row = row_noted region last (links_of s of) h.row

  abbrev all_there : Bool
  all_there = all_noted (links_of s of) (with_link last h.move.noted)

  -- it was noted before, or it is this one
  abbrev Comes : ℕ → ℕ → Type 0
  Comes link links = IsFilled cell link links h.row ⊎ ((last ≡ link) × (region ≡ region_of cell.block) × (of ≡ cell.map) × (stage_of cell h.row ≡ 3))

  is_there : (link links : ℕ) → stage_of cell h.row ≡ 3 → has_link link (with_link last h.move.noted) ≡ true → Comes link links
  is_there link links three has =
      let l = three_left cell h.row three in
      let on : is_fenced (move_region (region_of cell.block) (Some h.move)) ≡ true =
      ap is_fenced (sym (ap (move_region (region_of cell.block)) h.moves) ∙ l.2) in
      elim (has_with link last h.move.noted has) [
        | inl same ↦ inr (
          same,
          sym (fenced_next h.move.regions region (region_of cell.block) Fenced (on_way servers s p of region last h) on).0,
          sym h.old ∙ same_numbers h.move.old_map cell.map (sym (ap (leaves cell.map) h.moves) ∙ l.1),
          three,
        )
        | inr old ↦ inl (inl (three, ap (noted_in (region_of cell.block) link) h.moves ∙ (λ i. on i && old i)))
      ]

  -- a region that is under the old map is so still
  pub keeps_old : stage_of cell h.row ≤ 2 → stage_of cell then_row ≤ 2
  keeps_old le = by_bool (h.row.map == cell.map)
      (λ own. own_low cell then_row own)
      (λ other. by_bool (leaves cell.map h.row.moving)
      (λ left. under other left (old_zero (move_region (region_of cell.block) h.row.moving) (let e = old_value cell h.row other left in omega arith)))
      (λ out. let four = gone_value cell h.row other out in absurd (omega arith)))
    where
      old_zero : (r : RegionState) → old_stage r ≤ 2 → r ≡ Old
      old_zero Old e = refl
      old_zero Fenced e = absurd (omega arith)
      old_zero New e = absurd (omega arith)

      by_left : (h.row.map == cell.map) ≡ false → (left : Option Move) → then_row.moving ≡ left → leaves cell.map left ≡ true
          → move_region (region_of cell.block) left ≡ Old → stage_of cell then_row ≤ 2
      by_left other left is leaving at =
          let e = old_value cell then_row other (ap (leaves cell.map) is ∙ leaving) in
          let two : old_stage (move_region (region_of cell.block) then_row.moving) ≡ 2 = ap old_stage (ap (move_region (region_of cell.block)) is ∙ at) in
          omega arith

      two_zero : new_stage New ≡ new_stage Old → new_stage Fenced ≡ new_stage Old
      two_zero e = absurd (omega arith)

      beyond : region < region_of cell.block → region ≡ 15 → new_stage Fenced ≡ new_stage Old
      beyond lt e = let low = low_region cell.block in absurd (omega arith)

      not_here : unwrap_or (slice_get h.move.regions (region_of cell.block)) New ≡ Old → region_of cell.block ≡ region → new_stage Fenced ≡ new_stage Old
      not_here at e =
          ap new_stage (sym (ap (λ o. unwrap_or o New) (ap (slice_get h.move.regions) e ∙ (on_way servers s p of region last h).here)) ∙ at)

      not_last : unwrap_or (slice_get h.move.regions (region_of cell.block)) New ≡ Old → region ≡ 15 → new_stage Fenced ≡ new_stage Old
      not_last at e = elim (side_of (region_of cell.block) region) [
        | Under lt ↦ two_zero (ap new_stage (sym (ap (λ o. unwrap_or o New) ((on_way servers s p of region last h).new (region_of cell.block) lt)) ∙ at))
        | Same same ↦ not_here at same
        | Over lt ↦ beyond lt e
      ]

      under : (h.row.map == cell.map) ≡ false → leaves cell.map h.row.moving ≡ true → move_region (region_of cell.block) h.row.moving ≡ Old
          → stage_of cell then_row ≤ 2
      under other left at =
          let was : unwrap_or (slice_get h.move.regions (region_of cell.block)) New ≡ Old = sym (ap (move_region (region_of cell.block)) h.moves) ∙ at in
          let leaving : leaves cell.map (Some h.move) ≡ true = sym (ap (leaves cell.map) h.moves) ∙ left in
          let next : Move = record h.move { regions = slice_set h.move.regions region New; noted = [] } in
          by_bool all_there
          (λ every. by_bool (region == 15)
          (λ end. let e = not_last was (same_numbers region 15 end) in absurd (omega arith))
          (λ more. by_left other (Some next)
          (move_then servers s p of region last h true every ∙ ap (λ b. if b then None else Some next) more) leaving
          (ap (λ o. unwrap_or o New) (get_set_beside h.move.regions region (region_of cell.block) New (λ e. let f = not_here was e in omega arith)) ∙ was)))
          (λ some. by_left other (Some (record h.move { noted = with_link last h.move.noted })) (move_then servers s p of region last h false some) leaving was)

  -- of the links that are noted then one is new
  pub noted_comes : (link links : ℕ) → (of ≡ cell.map → links ≡ links_of s of) → stage_of cell h.row ≤ stage_of cell then_row
      → IsFilled cell link links then_row → Comes link links
  noted_comes link links many on (inr retired) = elim (side_of (stage_of cell h.row) 3) [
    | Under lt ↦ (let low = keeps_old (omega arith) in let four = retired.0 in absurd (omega arith))
    | Over lt ↦ (let most = of_most cell h.row in inl (inr (omega arith, retired.1)))
    | Same three ↦ by_bool all_there
        (λ every. is_there link links three (all_has (links_of s of) link (with_link last h.move.noted) every
        (let e = many (old_of three) in let lt = retired.1 in omega arith)))
        (λ some. (let e = same_stage some in let four = retired.0 in absurd (omega arith)))
  ]
    where
      old_of : stage_of cell h.row ≡ 3 → of ≡ cell.map
      old_of three = sym h.old ∙ same_numbers h.move.old_map cell.map (sym (ap (leaves cell.map) h.moves) ∙ (three_left cell h.row three).1)

      same_stage : all_there ≡ false → stage_of cell then_row ≡ stage_of cell h.row
      same_stage some = ap (λ m. stage_of cell (record h.row { moving = m })) (move_then servers s p of region last h false some)
          ∙ sym (ap (λ m. stage_of cell (record h.row { moving = m })) h.moves)
  noted_comes link links many on (inl noted) =
      let l = three_left cell then_row noted.0 in
      by_bool all_there
      (λ every. by_bool (region == 15)
      (λ end. true_false noted.1 (ap (noted_in (region_of cell.block) link) (move_then servers s p of region last h true every
      ∙ ap (λ b. if b then None else Some (record h.move { regions = slice_set h.move.regions region New; noted = [] })) end)))
      (λ more.
      let next : Move = record h.move { regions = slice_set h.move.regions region New; noted = [] } in
      true_false (both_true (is_fenced (move_region (region_of cell.block) (Some next))) false
      (sym (ap (noted_in (region_of cell.block) link) (move_then servers s p of region last h true every
      ∙ ap (λ b. if b then None else Some next) more)) ∙ noted.1)).1
      refl))
      (λ some.
      let moving = move_then servers s p of region last h false some in
      let same : stage_of cell then_row ≡ stage_of cell h.row = ap (λ m. stage_of cell (record h.row { moving = m })) moving
      ∙ sym (ap (λ m. stage_of cell (record h.row { moving = m })) h.moves) in
      let more : Move = record h.move { noted = with_link last h.move.noted } in
      is_there link links (sym same ∙ noted.0)
      (both_true (is_fenced (move_region (region_of cell.block) (Some more))) (has_link link (with_link last h.move.noted))
      (sym (ap (noted_in (region_of cell.block) link) moving) ∙ noted.1)).1)

-- ### A region that is on its way now, and a move that begins

-- nothing is noted of a region that has just come on its way
fenced_comes : (cell : Cell) (link links region : ℕ) (row : DiskRow) (move : Move) → row.moving ≡ Some move → slice_get move.regions region ≡ Some Old
    → IsFilled cell link links (row_fenced region row) → IsFilled cell link links row
fenced_comes cell link links region row move moves old (inl noted) =
    true_false (both_true (is_fenced (move_region (region_of cell.block) (Some (move_fenced region move)))) false
    (sym (ap (λ m. noted_in (region_of cell.block) link (option_map (move_fenced region) m)) moves) ∙ noted.1)).1 refl
fenced_comes cell link links region row move moves old (inr retired) = elim (same_or_apart (region_of cell.block) region) [
  | inr ne ↦ inr (sym (fenced_apart cell row region move moves ne) ∙ retired.0, retired.1)
  | inl same ↦ by_bool (row.map == cell.map)
      (λ own. let low = own_low cell (row_fenced region row) own in let four = retired.0 in absurd (omega arith))
      (λ other. by_bool (leaves cell.map row.moving)
      (λ left.
      let now : leaves cell.map (row_fenced region row).moving ≡ true = ap (λ m. leaves cell.map (option_map (move_fenced region) m)) moves
      ∙ sym (ap (leaves cell.map) moves) ∙ left in
      let e = old_value cell (row_fenced region row) other now in
      let three : old_stage (move_region (region_of cell.block) (row_fenced region row).moving) ≡ 3 =
      ap (λ m. old_stage (move_region (region_of cell.block) (option_map (move_fenced region) m))) moves
      ∙ ap (λ k. old_stage (unwrap_or (slice_get (slice_set move.regions region Fenced) k) New)) same
      ∙ ap (λ o. old_stage (unwrap_or o New)) (get_set_here move.regions region Fenced (slice_get_within move.regions region Old old)) in
      let four = retired.0 in
      absurd (omega arith))
      (λ out. inr (gone_value cell row other out, retired.1)))
]

begun_comes : (cell : Cell) (link links new : ℕ) (row : DiskRow) → row.moving ≡ None → IsFilled cell link links (row_moving new row)
    → IsFilled cell link links row
begun_comes cell link links new row still (inl noted) =
    true_false (both_true (is_fenced (move_region (region_of cell.block) (row_moving new row).moving)) false noted.1).1 refl
begun_comes cell link links new row still (inr retired) = by_bool (new == cell.map)
    (λ own. let low = own_low cell (row_moving new row) own in let four = retired.0 in absurd (omega arith))
    (λ other. by_bool (row.map == cell.map)
    (λ left.
    let e = old_value cell (row_moving new row) other left in
    let two : old_stage (move_region (region_of cell.block) (row_moving new row).moving) ≡ 2 =
    ap (λ o. old_stage (unwrap_or o New)) (get_replicate 16 (region_of cell.block) Old (low_region cell.block)) in
    let four = retired.0 in
    absurd (omega arith))
    (λ out. inr (gone_value cell row out (ap (leaves cell.map) still), retired.1)))

-- ### A state

-- so it is by the disk of the cell's map
pub record IsFilledAt (s : State) (cell : Cell) (link : ℕ) : Type 0 where
  pub row : DiskRow
  pub is : home s cell.map ≡ Some row
  pub so : IsFilled cell link (links_of s cell.map) row

not_low : {A : Type 0} (cell : Cell) (link links : ℕ) (row : DiskRow) → stage_of cell row ≤ 2 → IsFilled cell link links row → A
not_low cell link links row low (inl noted) = let e = noted.0 in absurd (omega arith)
not_low cell link links row low (inr retired) = let e = retired.0 in absurd (omega arith)

-- a Moved of the link for the cell's region, while it is on its way
record IsMovedBy (s : State) (entry : Command) (cell : Cell) (link : ℕ) : Type 0 where
  is : entry ≡ Moved cell.map (region_of cell.block) link
  leaves : stage_at s cell ≡ 3

-- the disk of a known map, by its place
home_at : (s : State) (of : ℕ) (row : DiskRow) → home s of ≡ Some row → (d : ℕ) × (disk_of s.maps of ≡ Some d) × (slice_get s.disks.rows d ≡ Some row)
home_at s of row e = elim (some_or_none (disk_of s.maps of)) [
  | inl d ↦ (d.0, d.1, sym (ap (option_and_then (slice_get s.disks.rows)) d.1) ∙ e)
  | inr none ↦ none_some (ap (option_and_then (slice_get s.disks.rows)) none) e
]

-- ### Fences that pass

passed_filled : (servers : ℕ) (s : State) (p : IsUnsettled servers s) (fence : Fence) (first : slice_get s.view.queue 0 ≡ Some fence) (cell : Cell) (link : ℕ)
    → IsFilledAt (one_passed s fence) cell link → IsFilledAt s cell link
passed_filled servers s p fence first cell link f =
    let t = one_passed s fence in
    let maps : t.maps ≡ s.maps = (framed_passed s s fence (framed_itself s)).maps in
    let at = home_at t cell.map f.row f.is in
    let of : disk_of s.maps cell.map ≡ Some at.0 = sym (ap (λ m. disk_of m cell.map) maps) ∙ at.1 in
    let links : links_of t cell.map ≡ links_of s cell.map = ap (λ m. option_map_or length (tuple_of m cell.map) 0) maps in
    let so : IsFilled cell link (links_of s cell.map) f.row = subst (λ n. IsFilled cell link n f.row) links f.so in
    let stood : (row : DiskRow) → slice_get s.disks.rows at.0 ≡ Some row → IsFilled cell link (links_of s cell.map) row → IsFilledAt s cell link =
    λ row there filled. record {
      row = row;
      is = ap (option_and_then (slice_get s.disks.rows)) of ∙ there;
      so = filled;
    } in
    elim (p.fences.each 0 fence first) [
      | Of_disk h ↦ elim (same_or_apart at.0 h.disk) [
        | inr ne ↦ stood f.row (sym (passed_beside servers s p fence first h at.0 ne) ∙ at.2) so
        | inl e ↦
            let now : row_frozen h.name h.row ≡ f.row =
            same_some (sym (passed_here servers s p fence first h) ∙ ap (slice_get t.disks.rows) (sym e) ∙ at.2) in
            stood h.row (ap (slice_get s.disks.rows) e ∙ here_row servers s p fence first h) (subst (IsFilled cell link (links_of s cell.map)) (sym now) so)
      ]
      | Of_region h ↦ elim (same_or_apart at.0 h.disk) [
        | inr ne ↦ stood f.row (sym (region_beside servers s p fence first h at.0 ne) ∙ at.2) so
        | inl e ↦
            let now : row_fenced h.region h.row ≡ f.row =
            same_some (sym (region_here servers s p fence first h) ∙ ap (slice_get t.disks.rows) (sym e) ∙ at.2) in
            stood h.row (ap (slice_get s.disks.rows) e ∙ region_row servers s p fence first h)
            (fenced_comes cell link (links_of s cell.map) h.region h.row h.move h.moves h.shape.here
            (subst (IsFilled cell link (links_of s cell.map)) (sym now) so))
      ]
    ]

-- what settles so was so
abbrev Settles : ℕ → Cell → ℕ → State → State → Type 0
Settles servers cell link s t = IsUnsettled servers t × (IsFilledAt t cell link → IsFilledAt s cell link)

settled_filled : (servers : ℕ) (s : State) → IsUnsettled servers s → (cell : Cell) (link : ℕ) → IsFilledAt (settled s) cell link → IsFilledAt s cell link
settled_filled servers s p cell link f =
    (settled_keeps (Settles servers cell link s)
    (λ t fence is h.
    let first = head_get t.view.queue fence (ready_by t.view.queue fence is).first in
    ((passing servers t h.0 fence first).plain, λ g. h.1 (passed_filled servers t h.0 fence first cell link g))) s (p, λ g. g)).1 f

-- ### An entry

module _ (servers : ℕ) (s : State) (p : IsSettledState servers s) (cell : Cell) (link : ℕ) where
  abbrev Enters : Command → State → Type 0
  Enters entry t = IsFilledAt t cell link → IsFilledAt s cell link ⊎ IsMovedBy s entry cell link

  -- over the same disks and maps
  same_tables : (entry : Command) (t : State) → t.maps ≡ s.maps → t.disks.rows ≡ s.disks.rows → Enters entry t
  same_tables entry t maps rows f = inl (record {
    row = f.row;
    is = (λ i. option_and_then (slice_get (sym rows i)) (disk_of (sym maps i) cell.map)) ∙ f.is;
    so = subst (λ n. IsFilled cell link n f.row) (ap (λ m. option_map_or length (tuple_of m cell.map) 0) maps) f.so;
  })

  -- over one map more
  links_on : (t : State) (m : MapRow) → slice_get s.maps cell.map ≡ Some m → slice_get t.maps cell.map ≡ Some m → links_of t cell.map ≡ links_of s cell.map
  links_on t m was now =
      ap (λ o. option_map_or length (option_map (λ (r : MapRow). r.tuple) o) 0) now
      ∙ sym (ap (λ o. option_map_or length (option_map (λ (r : MapRow). r.tuple) o) 0) was)

  last_map : (maps : List MapRow) (m : MapRow) (of : ℕ) (other : MapRow) → slice_get maps of ≡ None → slice_get (maps ++ m ∷ []) of ≡ Some other
      → of ≡ length maps
  last_map maps m of other none e = elim (get_last maps m of other e) [ inl old ↦ none_some none old | inr h ↦ h.0 ]

  known_map : (t : State) (row : DiskRow) → home t cell.map ≡ Some row → (m : MapRow) × (slice_get t.maps cell.map ≡ Some m)
  known_map t row e = elim (some_or_none (slice_get t.maps cell.map)) [
    | inl m ↦ m
    | inr none ↦ none_some (ap (λ m. option_and_then (slice_get t.disks.rows) (option_map (λ (r : MapRow). r.disk) m)) none) e
  ]

  makes : (entry : Command) (name tuple : List ℕ) → named s.disks.rows name ≡ None → is_tuple servers tuple ≡ true → Enters entry (with_disk s name tuple)
  makes entry name tuple fresh proper f =
      let t = with_disk s name tuple in
      elim (some_or_none (slice_get s.maps cell.map)) [
        | inl m ↦ inl (record {
          row = f.row;
          is = sym (same_home servers s p name tuple fresh proper cell.map m.0 m.1) ∙ f.is;
          so = subst (λ n. IsFilled cell link n f.row) (links_on t m.0 m.1 (map_on servers s p tuple s.disks.made proper cell.map m.0 m.1)) f.so;
        })
        | inr none ↦ (
            let there = known_map t f.row f.is in
            let new = last_map s.maps _ cell.map there.0 none there.1 in
            let made = making.made_row servers s p name tuple fresh proper in
            let row : f.row ≡ made = same_some (sym f.is
            ∙ ap (option_and_then (slice_get t.disks.rows)) (ap (disk_of t.maps) new ∙ new_map servers s p tuple s.disks.made proper)
            ∙ row_last servers s p name tuple fresh proper) in
            not_low cell link (links_of t cell.map) made (own_low cell made (ap (λ k. k == cell.map) (sym new) ∙ number_itself cell.map))
            (subst (IsFilled cell link (links_of t cell.map)) row f.so))
      ]

  begins_so : (entry : Command) (disk tuple : List ℕ) (row : DiskRow) → named s.disks.rows disk ≡ Some row → row.moving ≡ None → is_tuple servers tuple ≡ true
      → Enters entry (with_move s tuple row.id)
  begins_so entry disk tuple row found still proper f =
      let t = with_move s tuple row.id in
      let q = begins servers s p disk tuple row found still proper in
      let at = home_at t cell.map f.row f.is in
      elim (some_or_none (slice_get s.maps cell.map)) [
        | inr none ↦ (
            let there = known_map t f.row f.is in
            let new = last_map s.maps _ cell.map there.0 none there.1 in
            let now : f.row ≡ row_moving (length s.maps) row = same_some (sym f.is
            ∙ ap (option_and_then (slice_get t.disks.rows)) (ap (disk_of t.maps) new ∙ new_map servers s p tuple row.id proper)
            ∙ row_now servers s p disk tuple row found still proper) in
            not_low cell link (links_of t cell.map) (row_moving (length s.maps) row)
            (own_low cell (row_moving (length s.maps) row) (ap (λ k. k == cell.map) (sym new) ∙ number_itself cell.map))
            (subst (IsFilled cell link (links_of t cell.map)) now f.so))
        | inl m ↦ (
            let on = map_on servers s p tuple row.id proper cell.map m.0 m.1 in
            let of : disk_of s.maps cell.map ≡ Some at.0 =
            ap (option_map (λ (r : MapRow). r.disk)) m.1 ∙ sym (ap (option_map (λ (r : MapRow). r.disk)) on) ∙ at.1 in
            let so : IsFilled cell link (links_of s cell.map) f.row = subst (λ n. IsFilled cell link n f.row) (links_on t m.0 m.1 on) f.so in
            elim (same_or_apart at.0 row.id) [
              | inr ne ↦ inl (record {
                row = f.row;
                is = ap (option_and_then (slice_get s.disks.rows)) of
                    ∙ sym (beside servers s p.unsettled row.id row (known servers s p disk tuple row found still proper) (row_moving
                    (length s.maps)) at.0 ne)
                    ∙ at.2;
                so = so;
              })
              | inl same ↦ (
                  let now : row_moving (length s.maps) row ≡ f.row =
                  same_some (sym (row_now servers s p disk tuple row found still proper) ∙ ap (slice_get t.disks.rows) (sym same) ∙ at.2) in
                  inl (record {
                    row = row;
                    is = ap (option_and_then (slice_get s.disks.rows)) of ∙ ap (slice_get s.disks.rows) same
                        ∙ at_row servers s p disk tuple row found still proper;
                    so = begun_comes cell link (links_of s cell.map) (length s.maps) row still
                        (subst (IsFilled cell link (links_of s cell.map)) (sym now) so);
                  }))
            ])
      ]

  notes : (of region last : ℕ) (h : IsNoting s of region last) (t : State) (q : Acted servers s t) → t.maps ≡ s.maps
      → t.disks.rows ≡ (noted_state servers s p of region last h).disks.rows → Enters (Moved of region last) t
  notes of region last h t q maps rows f =
      let u = p.unsettled in
      let g = row_noted region last (links_of s of) in
      let at = home_at t cell.map f.row f.is in
      let place : disk_of s.maps cell.map ≡ Some at.0 = sym (ap (λ m. disk_of m cell.map) maps) ∙ at.1 in
      let there : slice_get (noted_state servers s p of region last h).disks.rows at.0 ≡ Some f.row = sym (ap (λ r. slice_get r at.0) rows) ∙ at.2 in
      let links : links_of t cell.map ≡ links_of s cell.map = ap (λ m. option_map_or length (tuple_of m cell.map) 0) maps in
      let so : IsFilled cell link (links_of s cell.map) f.row = subst (λ n. IsFilled cell link n f.row) links f.so in
      elim (same_or_apart at.0 h.row.id) [
        | inr ne ↦ inl (record {
          row = f.row;
          is = ap (option_and_then (slice_get s.disks.rows)) place ∙ sym (beside servers s u h.row.id h.row h.known g at.0 ne) ∙ there;
          so = so;
        })
        | inl same ↦ (
            let is : home s cell.map ≡ Some h.row =
            ap (option_and_then (slice_get s.disks.rows)) place ∙ ap (slice_get s.disks.rows) same ∙ here servers s u h.row.id h.row h.known g in
            let now : g h.row ≡ f.row = same_some (sym (here_now servers s u h.row.id h.row h.known g)
            ∙ ap (slice_get (noted_state servers s p of region last h).disks.rows) (sym same) ∙ there) in
            let was : stage_at s cell ≡ stage_of cell h.row = stage_is s p.rows p.homes cell ∙ ap (stage_in cell) is in
            let later : stage_at t cell ≡ stage_of cell (g h.row) =
            stage_is t q.plain.rows q.plain.homes cell ∙ ap (stage_in cell) (f.is ∙ ap Some (sym now)) in
            let on = q.grown.stages cell in
            elim (noted_comes servers s p of region last h cell link (links_of s cell.map) (λ e. ap (links_of s) (sym e)) (omega arith)
            (subst (IsFilled cell link (links_of s cell.map)) (sym now) so)) [
              | inl old ↦ inl (record { row = h.row; is = is; so = old })
              | inr new ↦ inr (record { is = (λ i. Moved (new.2 i) (new.1 i) (new.0 i)); leaves = was ∙ new.3 })
            ])
      ]

  acts : (entry : Command) (t : State) → Outcome servers s p entry t → Enters entry t
  acts _ _ (Makes client seq name tuple new fresh proper) f =
      makes (MakeDisk client seq name tuple) name tuple fresh proper (record { row = f.row; is = f.is; so = f.so })
  acts _ _ (Begins client seq disk tuple new row found still proper) f =
      begins_so (StartMove client seq disk tuple) disk tuple row found still proper (record { row = f.row; is = f.is; so = f.so })
  acts _ _ (Notes of region last h some) f =
      notes of region last h (noted_state servers s p of region last h) (noting servers s p of region last h some) refl refl f
  acts _ _ (Moves_on of region last h every more) f =
      notes of region last h (with_fence (noted_state servers s p of region last h) (Region h.row.id (region + 1)))
      (onward servers s p of region last h every more) refl refl f
  acts _ _ (Ends of region last h every end) f =
      notes of region last h (moved_state servers s p of region last h every end) (over servers s p of region last h every end) refl refl f
  acts _ _ _ f = same_tables _ _ refl refl f

  enters : (entry : Command) → HasProperTuple servers entry → Enters entry (after s entry)
  enters entry plain f = acts entry (act entry s) (outcome servers s p entry plain)
      (settled_filled servers (act entry s) (acting servers s entry p plain).plain cell link (record { row = f.row; is = f.is; so = f.so }))

-- ### A log

log_filled : (servers : ℕ) (whole : List Command) → HasProperTuples servers whole → (cell : Cell) (link : ℕ) → IsFilledAt (state_after servers whole) cell link
    → HasMovedIn servers whole cell link
log_filled servers whole all cell link f = by_entries servers [] whole all is_prefix (λ log t. IsFilledAt t cell link → HasMovedIn servers whole cell link) step
    (λ h. none_some refl h.is) f
  where
    is_prefix : IsPrefix [] whole
    is_prefix = record { later = whole; is = refl }

    step : (it : NextEntry servers [] whole) → (IsFilledAt (state_after servers it.until) cell link → HasMovedIn servers whole cell link)
        → IsFilledAt (after (state_after servers it.until) it.entry) cell link → HasMovedIn servers whole cell link
    step it so g = elim (enters servers (state_after servers it.until) (settled_there servers [] whole all is_prefix it) cell link it.entry it.proper g) [
      | inl h ↦ so h
      | inr m ↦ record { until = it.until; stands = subst (λ e. IsPrefix (it.until ++ e ∷ []) whole) m.is it.stands; leaves = m.leaves }
    ]

-- a cell that has a stage has a disk
has_row : (servers : ℕ) (s : State) (p : IsSettledState servers s) (cell : Cell) → 1 ≤ stage_at s cell → HasRow s p.rows p.homes cell
has_row servers s p cell some = elim (row_or_none s p.rows p.homes cell) [
  | inr none ↦
      let zero : stage_at s cell ≡ 0 = stage_is s p.rows p.homes cell ∙ ap (stage_in cell) (no_home s p.rows p.homes cell.map none) in
      absurd (omega arith)
  | inl h ↦ h
]

pub log_noted : (servers : ℕ) (whole : List Command) (cell : Cell) (link : ℕ) → HasProperTuples servers whole → stage_at (state_after servers whole) cell ≡ 3
    → is_noted (state_after servers whole) cell.map (region_of cell.block) link ≡ true → HasMovedIn servers whole cell link
log_noted servers whole cell link all three noted =
    let s = state_after servers whole in
    let p = log_plain servers whole all in
    let h = has_row servers s p cell (omega arith) in
    let is : stage_of cell h.row ≡ 3 = sym (stage_is s p.rows p.homes cell ∙ ap (stage_in cell) h.is) ∙ three in
    let left = (three_left cell h.row is).1 in
    let mover : mover s cell.map ≡ Some h.row =
    mover_is s p.rows cell.map ∙ ap (option_and_then (left_by_row cell.map)) h.is ∙ ap (λ b. if b then Some h.row else None) left in
    log_filled servers whole all cell link (record {
      row = h.row;
      is = h.is;
      so = inl (is, sym (ap (λ o. option_map_or (λ (r : DiskRow). noted_in (region_of cell.block) link r.moving) o false) mover) ∙ noted);
    })

pub log_retired : (servers : ℕ) (whole : List Command) (cell : Cell) (link : ℕ) → HasProperTuples servers whole → stage_at (state_after servers whole) cell ≡ 4
    → link < links_of (state_after servers whole) cell.map → HasMovedIn servers whole cell link
log_retired servers whole cell link all four lt =
    let s = state_after servers whole in
    let p = log_plain servers whole all in
    let h = has_row servers s p cell (omega arith) in
    log_filled servers whole all cell link (record {
      row = h.row;
      is = h.is;
      so = inr (sym (stage_is s p.rows p.homes cell ∙ ap (stage_in cell) h.is) ∙ four, lt);
    })

-- ### The two cells of a move

-- once the cell that comes is there, the one that it came from is retired
pub log_twins : (servers : ℕ) (prefix whole : List Command) (cell old : Cell) → HasProperTuples servers whole → IsPrefix prefix whole
    → source (state_after servers prefix) cell ≡ Some old → stage_at (state_after servers prefix) cell ≡ 1 → 2 ≤ stage_at (state_after servers whole) cell
    → stage_at (state_after servers whole) old ≡ 4
log_twins servers prefix whole cell old all is_prefix from one two =
    let s = state_after servers prefix in
    let t = state_after servers whole in
    let p = log_plain servers prefix (prefix_plain servers prefix whole all is_prefix) in
    let q = log_plain servers whole all in
    let g = log_grown servers prefix whole all is_prefix in
    let o = source_of s p.rows p.homes cell one in
    let same : o.0 ≡ old = same_some (sym o.1 ∙ from) in
    let l = leaving_row s p.rows p.homes o.0 o.3.stage_is in
    let h = l.0 in
    let mover : mover s o.0.map ≡ Some h.row =
    mover_is s p.rows o.0.map ∙ ap (option_and_then (left_by_row o.0.map)) h.is ∙ ap (λ b. if b then Some h.row else None) l.2 in
    let map_is : h.row.map ≡ cell.map =
    ap (λ (c : Cell). c.map) (same_some (sym (ap (option_map (λ (r : DiskRow). record { map = r.map; block = o.0.block })) mover) ∙ o.2)) in
    let later = g.rows h.place h.row h.stands in
    let m = left_move h.row.moving o.0.map l.2 in
    let moving = h.so.moving m.0 m.1 in
    let lt : o.0.map < h.row.map = (let e = m.2 in let f = moving.old in omega arith) in
    let there = λ (of : ℕ) (e : disk_of s.maps of ≡ Some h.place).
    ap (option_and_then (slice_get t.disks.rows)) (disk_on s.maps t.maps of h.place g.maps e) ∙ later.is in
    let new_is : stage_at t cell ≡ stage_of cell later.now =
    stage_is t q.rows q.homes cell ∙ ap (stage_in cell) (there cell.map (ap (disk_of s.maps) (sym map_is) ∙ h.so.of)) in
    let old_is : stage_at t o.0 ≡ stage_of o.0 later.now =
    stage_is t q.rows q.homes o.0 ∙ ap (stage_in o.0) (there o.0.map (ap (disk_of s.maps) (sym m.2) ∙ moving.from)) in
    let on = later.so.map in
    let other : (later.now.map == o.0.map) ≡ false =
    by_bool (later.now.map == o.0.map) (λ t. let e = same_numbers later.now.map o.0.map t in absurd (omega arith)) (λ f. f) in
    subst (λ (c : Cell). stage_at t c ≡ 4) same (old_is ∙ by_bool (leaves o.0.map later.now.moving)
    (λ left.
    let own : later.now.map ≡ cell.map = (later.so.back o.0.map lt left).0 ∙ map_is in
    let value = old_value o.0 later.now other left in
    let region : move_region (region_of cell.block) later.now.moving ≡ New =
    high_new (move_region (region_of cell.block) later.now.moving) (let a = own_value cell later.now (ap (λ k. k == cell.map) own ∙ number_itself cell.map) in
    let b = new_is in omega arith) in
    value ∙ ap (λ k. old_stage (move_region (region_of k) later.now.moving)) o.3.block ∙ ap old_stage region)
    (λ out. gone_value o.0 later.now other out))
