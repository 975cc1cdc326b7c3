-- Which disk has a map: the one that it was made for, or none any more. By its row a cell's stage and epoch are told.
use Rattle.law_state.proofs.Imports.{if◌then◌else◌, ◌==◌, ◌||◌, ◌∙◌, ◌≡◌, ◌≤◌, ◌⊎◌, Bool, Cell, DiskRow, List, MapRow, Move, None, Option, Some, State, ap}
use Rattle.law_state.proofs.Imports.{arith, by_bool, disk_at, disk_of, false, find, has_map, inl, inr, is_disk, is_some, leaves, mover, none_some}
use Rattle.law_state.proofs.Imports.{number_itself, option_and_then, option_map, option_map_or, owner, refl, same_numbers, same_some, slice_get, some_or_none}
use Rattle.law_state.proofs.Imports.{sym, true, true_false, ℕ}
use Rattle.law_state.specs.Homes.{epoch_at, stage_at, stage_by, stage_of, stage_under}
use Rattle.law_state.specs.Tables.{HasHome, HasLaterDisk, IsRowAt}
use Rattle.law_state.proofs.ListLookups.{find_here, find_none}
use Rattle.law_state.proofs.NewMapLinks.{or_true}

-- the row of the disk for which the map was made
abbrev pub home : State → ℕ → Option DiskRow
home s of = option_and_then (slice_get s.disks.rows) (disk_of s.maps of)

abbrev pub kept_by : ℕ → DiskRow → Option DiskRow
kept_by of row = if has_map of row then Some row else None

abbrev pub left_by : ℕ → DiskRow → Option DiskRow
left_by of row = if leaves of row.moving then Some row else None

abbrev pub stage_in : Cell → Option DiskRow → ℕ
stage_in cell None = 0
stage_in cell (Some row) = stage_of cell row

abbrev pub epoch_in : Option DiskRow → ℕ
epoch_in o = option_map_or (λ (row : DiskRow). row.epoch) o 0

pub either_of : (a b : Bool) → (a || b) ≡ true → (a ≡ true) ⊎ (b ≡ true)
either_of true b e = inl refl
either_of false b e = inr e

-- a disk that has a map is the one that it was made for
pub map_made : (maps : List MapRow) (place of : ℕ) (row : DiskRow) → IsRowAt maps place row → has_map of row ≡ true → disk_of maps of ≡ Some place
map_made maps place of row is e = elim (either_of (row.map == of) (leaves of row.moving) e) [
  | inl own ↦ ap (disk_of maps) (sym (same_numbers row.map of own)) ∙ is.of
  | inr old ↦ by row.moving refl old
]
  where
    by : (m : Option Move) → row.moving ≡ m → leaves of m ≡ true → disk_of maps of ≡ Some place
    by None e f = true_false f refl
    by (Some move) e f = ap (disk_of maps) (sym (same_numbers move.old_map of f)) ∙ (is.moving move e).from

-- a disk is found where its number says
pub disk_at_is : (rows : List DiskRow) → ((i : ℕ) (row : DiskRow) → slice_get rows i ≡ Some row → row.id ≡ i) → (disk : ℕ)
    → disk_at rows disk ≡ slice_get rows disk
disk_at_is rows ids disk = elim (some_or_none (slice_get rows disk)) [
  | inl h ↦ find_here (is_disk disk) rows disk h.0 h.1 (ap (λ n. n == disk) (ids disk h.0 h.1) ∙ number_itself disk)
      (λ j other e t. sym (ids j other e) ∙ same_numbers other.id disk t) ∙ sym h.1
  | inr none ↦ find_none (is_disk disk) rows (λ i row e. by_bool (is_disk disk row)
      (λ t. none_some none (ap (slice_get rows) (sym (sym (ids i row e) ∙ same_numbers row.id disk t)) ∙ e)) (λ f. f)) ∙ sym none
]

-- a disk of a map is so where there are more maps
pub disk_on : (maps more : List MapRow) (of d : ℕ) → ((of : ℕ) (m : MapRow) → slice_get maps of ≡ Some m → slice_get more of ≡ Some m)
    → disk_of maps of ≡ Some d → disk_of more of ≡ Some d
disk_on maps more of d on e = elim (some_or_none (slice_get maps of)) [
  | inl m ↦ ap (option_map (λ (row : MapRow). row.disk)) (on of m.0 m.1) ∙ sym (ap (option_map (λ (row : MapRow). row.disk)) m.1) ∙ e
  | inr none ↦ none_some (ap (option_map (λ (row : MapRow). row.disk)) none) e
]

pub row_at_on : (maps more : List MapRow) (i : ℕ) (row : DiskRow) → ((of : ℕ) (m : MapRow) → slice_get maps of ≡ Some m → slice_get more of ≡ Some m)
    → IsRowAt maps i row → IsRowAt more i row
row_at_on maps more i row on h = record {
  id = h.id;
  of = disk_on maps more row.map i on h.of;
  many = h.many;
  snaps = h.snaps;
  names = h.names;
  moving = λ move e.
      let m = h.moving move e in
      record { old = m.old; from = disk_on maps more move.old_map i on m.from; next = m.next; now = m.now; shape = m.shape; waits = m.waits };
}

module _ (s : State) (at : (i : ℕ) (row : DiskRow) → slice_get s.disks.rows i ≡ Some row → IsRowAt s.maps i row) where
  stands : (of i : ℕ) (row : DiskRow) → slice_get s.disks.rows i ≡ Some row → has_map of row ≡ true → disk_of s.maps of ≡ Some i
  stands of i row e t = map_made s.maps i of row (at i row e) t

  -- what only the disk of a map can be is that disk, or none
  module _ (q : DiskRow → Bool) (of : ℕ) (only : (i : ℕ) (row : DiskRow) → slice_get s.disks.rows i ≡ Some row → q row ≡ true
      → disk_of s.maps of ≡ Some i) where
    abbrev passed : DiskRow → Option DiskRow
    passed row = if q row then Some row else None

    known_home : (d : ℕ) → disk_of s.maps of ≡ Some d
        → ((row : DiskRow) × (slice_get s.disks.rows d ≡ Some row)) ⊎ (slice_get s.disks.rows d ≡ None)
        → find q s.disks.rows ≡ option_and_then passed (home s of)
    known_home d is (inl h) =
        let there : home s of ≡ Some h.0 = ap (option_and_then (slice_get s.disks.rows)) is ∙ h.1 in
        by_bool (q h.0)
        (λ t. find_here q s.disks.rows d h.0 h.1 t (λ j other e u. same_some (sym (only j other e u) ∙ is))
        ∙ sym (ap (option_and_then passed) there ∙ ap (λ b. if b then Some h.0 else None) t))
        (λ f. find_none q s.disks.rows (λ i row e. by_bool (q row)
        (λ t.
        let same : d ≡ i = same_some (sym is ∙ only i row e t) in
        let one : row ≡ h.0 = same_some (sym e ∙ ap (slice_get s.disks.rows) (sym same) ∙ h.1) in
        true_false t (ap q one ∙ f))
        (λ n. n))
        ∙ sym (ap (option_and_then passed) there ∙ ap (λ b. if b then Some h.0 else None) f))
    known_home d is (inr none) =
        let gone : home s of ≡ None = ap (option_and_then (slice_get s.disks.rows)) is ∙ none in
        find_none q s.disks.rows (λ i row e. by_bool (q row)
        (λ t. none_some none (ap (slice_get s.disks.rows) (same_some (sym is ∙ only i row e t)) ∙ e)) (λ n. n))
        ∙ sym (ap (option_and_then passed) gone)

    found_home : find q s.disks.rows ≡ option_and_then passed (home s of)
    found_home = elim (some_or_none (disk_of s.maps of)) [
      | inl d ↦ known_home d.0 d.1 (some_or_none (slice_get s.disks.rows d.0))
      | inr none ↦ find_none q s.disks.rows (λ i row e. by_bool (q row) (λ t. none_some none (only i row e t)) (λ f. f))
          ∙ sym (ap (λ d. option_and_then passed (option_and_then (slice_get s.disks.rows) d)) none)
    ]

  -- a map's owner is that disk, while it has it
  pub owner_is : (of : ℕ) → owner s of ≡ option_and_then (kept_by of) (home s of)
  owner_is of = found_home (has_map of) of (stands of)

  -- and so is the disk that is on its way from it
  pub mover_is : (of : ℕ) → mover s of ≡ option_and_then (left_by of) (home s of)
  mover_is of = found_home (λ (row : DiskRow). leaves of row.moving) of (λ i row e t. stands of i row e (or_true (row.map == of) (leaves of row.moving) t))

  -- a disk that has the map is its owner
  pub owned : (of i : ℕ) (row : DiskRow) → slice_get s.disks.rows i ≡ Some row → has_map of row ≡ true → owner s of ≡ Some row
  owned of i row e t =
      owner_is of ∙ ap (λ d. option_and_then (kept_by of) (option_and_then (slice_get s.disks.rows) d)) (stands of i row e t)
      ∙ ap (option_and_then (kept_by of)) e ∙ ap (λ b. if b then Some row else None) t

  pub epoch_is : (cell : Cell) → epoch_at s cell ≡ epoch_in (home s cell.map)
  epoch_is cell = by (disk_of s.maps cell.map)
    where
      by : (o : Option ℕ) → epoch_in (option_and_then (disk_at s.disks.rows) o) ≡ epoch_in (option_and_then (slice_get s.disks.rows) o)
      by None = refl
      by (Some d) = ap epoch_in (disk_at_is s.disks.rows (λ i row e. (at i row e).id) d)

  module _ (homes : (of disk : ℕ) → disk_of s.maps of ≡ Some disk → HasHome s of disk) where
    -- the disk of a map that is known
    pub home_of : (of : ℕ) (m : MapRow) → slice_get s.maps of ≡ Some m → (h : HasHome s of m.disk) × (home s of ≡ Some h.row)
    home_of of m is =
        let e : disk_of s.maps of ≡ Some m.disk = ap (option_map (λ (row : MapRow). row.disk)) is in
        let h = homes of m.disk e in (h, ap (option_and_then (slice_get s.disks.rows)) e ∙ h.is)

    -- a map that is not made yet has none
    pub no_owner : (of : ℕ) → slice_get s.maps of ≡ None → owner s of ≡ None
    no_owner of none = owner_is of ∙ ap (λ m. option_and_then (kept_by of) (option_and_then (slice_get s.disks.rows) (option_map (λ
        (row : MapRow). row.disk) m))) none

    pub no_home : (of : ℕ) → slice_get s.maps of ≡ None → home s of ≡ None
    no_home of none = ap (λ m. option_and_then (slice_get s.disks.rows) (option_map (λ (row : MapRow). row.disk) m)) none

    by_row : (cell : Cell) (row : DiskRow) (m : MapRow) → slice_get s.maps cell.map ≡ Some m → stage_by s cell (kept_by cell.map row) ≡ stage_of cell row
    by_row cell row m is = by_bool (has_map cell.map row)
        (λ t. ap (λ b. stage_by s cell (if b then Some row else None)) t ∙ sym (ap (λ b. if b then stage_under cell row else 4) t))
        (λ f. ap (λ b. stage_by s cell (if b then Some row else None)) f
        ∙ ap (λ o. if is_some (option_map (λ (r : MapRow). r.tuple) o) then 4 else 0) is
        ∙ sym (ap (λ b. if b then stage_under cell row else 4) f))

    pub stage_is : (cell : Cell) → stage_at s cell ≡ stage_in cell (home s cell.map)
    stage_is cell = elim (some_or_none (slice_get s.maps cell.map)) [
      | inl m ↦
          let h = home_of cell.map m.0 m.1 in
          ap (stage_by s cell) (owner_is cell.map ∙ ap (option_and_then (kept_by cell.map)) h.1) ∙ by_row cell h.0.row m.0 m.1 ∙ sym (ap (stage_in cell) h.1)
      | inr none ↦
          let gone = no_home cell.map none in
          ap (stage_by s cell) (owner_is cell.map ∙ ap (option_and_then (kept_by cell.map)) gone)
          ∙ ap (λ o. if is_some (option_map (λ (r : MapRow). r.tuple) o) then 4 else 0) none ∙ sym (ap (stage_in cell) gone)
    ]

-- ### Later rows

module _ (s t : State) (at : (i : ℕ) (row : DiskRow) → slice_get s.disks.rows i ≡ Some row → IsRowAt s.maps i row)
    (homes : (of disk : ℕ) → disk_of s.maps of ≡ Some disk → HasHome s of disk)
    (rows : (i : ℕ) (row : DiskRow) → slice_get s.disks.rows i ≡ Some row → HasLaterDisk t i row)
    (maps : (of : ℕ) (map : MapRow) → slice_get s.maps of ≡ Some map → slice_get t.maps of ≡ Some map) where
  -- the later row of a known map's disk
  pub home_later : (of : ℕ) (m : MapRow) → slice_get s.maps of ≡ Some m
      → (h : HasHome s of m.disk) × (home s of ≡ Some h.row) × ((l : HasLaterDisk t m.disk h.row) × (home t of ≡ Some l.now))
  home_later of m is =
      let h = home_of s at homes of m is in
      let l = rows m.disk h.0.row h.0.is in
      (h.0, h.1, (l, ap (λ o. option_and_then (slice_get t.disks.rows) (option_map (λ (row : MapRow). row.disk) o)) (maps of m is) ∙ l.is))

  module _ (at_later : (i : ℕ) (row : DiskRow) → slice_get t.disks.rows i ≡ Some row → IsRowAt t.maps i row)
      (homes_later : (of disk : ℕ) → disk_of t.maps of ≡ Some disk → HasHome t of disk) where
    pub stages_later : (cell : Cell) → stage_at s cell ≤ stage_at t cell
    stages_later cell = elim (some_or_none (slice_get s.maps cell.map)) [
      | inl m ↦
          let h = home_later cell.map m.0 m.1 in
          let was : stage_at s cell ≡ stage_of cell h.0.row = stage_is s at homes cell ∙ ap (stage_in cell) h.1 in
          let now : stage_at t cell ≡ stage_of cell h.2.0.now = stage_is t at_later homes_later cell ∙ ap (stage_in cell) h.2.1 in
          let on = h.2.0.so.stages cell h.0.newest in
          omega arith
      | inr none ↦
          let zero_too : stage_at s cell ≡ 0 = stage_is s at homes cell ∙ ap (stage_in cell) (no_home s at homes cell.map none) in
          omega arith
    ]

    pub epochs_later : (cell : Cell) → epoch_at s cell ≤ epoch_at t cell
    epochs_later cell = elim (some_or_none (slice_get s.maps cell.map)) [
      | inl m ↦
          let h = home_later cell.map m.0 m.1 in
          let was : epoch_at s cell ≡ h.0.row.epoch = epoch_is s at cell ∙ ap epoch_in h.1 in
          let now : epoch_at t cell ≡ h.2.0.now.epoch = epoch_is t at_later cell ∙ ap epoch_in h.2.1 in
          let on = h.2.0.so.onward in
          omega arith
      | inr none ↦
          let zero_too : epoch_at s cell ≡ 0 = epoch_is s at cell ∙ ap epoch_in (no_home s at homes cell.map none) in
          omega arith
    ]
