-- The row of one disk is changed: its name and number stay, its map is the one that it had or a later one, and each cell is as far as it was, or
-- farther.
use Rattle.law_state.proofs.Imports.{[], ◌+◌, ◌==◌, ◌∙◌, ◌∷◌, ◌≡◌, ◌≢◌, ◌⊎◌, Bool, DiskRow, Fence, List, Move, None, Old, Option, Some, State, ap, arith}
use Rattle.law_state.proofs.Imports.{by_bool, change, cond, disk_at, disk_of, false, has_map, inl, inr, is_disk, length, length-set, none_some, number_itself}
use Rattle.law_state.proofs.Imports.{option_and_then, owner, refl, same_numbers, same_or_apart, same_some, slice_get, slice_get_within, slice_set}
use Rattle.law_state.proofs.Imports.{snapshot_named, subst, suc, sym, true, true_false, zero, ℕ}
use Rattle.law_state.specs.Tables.{HasHome, HasLaterDisk, IsFence, IsForRegion, IsForSnapshot, IsLaterDisk, IsRowAt, IsShape, Of_disk, Of_region}
use Rattle.law_state.proofs.Fences.{Acted, AreQueued, IsUnsettled, link_kept, snapshot_on, region_on}
use Rattle.law_state.proofs.GrownStates.{grown_still, later_disk_itself}
use Rattle.law_state.proofs.Owners.{disk_at_is, kept_by, owner_is, stages_later}
use Rattle.law_state.proofs.ListLookups.{get_set_beside, get_set_here}

-- the row at the disk's number, where each row's number is its place
change_at : (start disk : ℕ) (f : DiskRow → DiskRow) (rows : List DiskRow) (row : DiskRow)
    → ((i : ℕ) (other : DiskRow) → slice_get rows i ≡ Some other → other.id ≡ start + i)
    → slice_get rows disk ≡ Some row → change (start + disk) f rows ≡ slice_set rows disk (f row)
change_at start disk f [] row ids e = none_some refl e
change_at start zero f (first ∷ rest) row ids e =
    let same : is_disk (start + 0) first ≡ true = ap (λ n. n == start + 0) (ids 0 first refl) ∙ number_itself (start + 0) in
    ap (λ b. cond b (f first ∷ rest) (first ∷ change (start + 0) f rest)) same ∙ ap (λ r. f r ∷ rest) (same_some e)
change_at start (suc disk) f (first ∷ rest) row ids e =
    by_bool (is_disk (start + suc disk) first)
    (λ t.
    let a : first.id ≡ start + suc disk = same_numbers first.id (start + suc disk) t in
    let b : first.id ≡ start + 0 = ids 0 first refl in
    absurd (omega arith))
    (λ no. ap (λ b. cond b (f first ∷ rest) (first ∷ change (start + suc disk) f rest)) no
    ∙ ap (λ n. first ∷ change n f rest) (let g : start + suc disk ≡ start + 1 + disk = omega arith in g)
    ∙ ap (λ rows. first ∷ rows)
    (change_at (start + 1) disk f rest row (λ i other g. let a : other.id ≡ start + suc i = ids (suc i) other g in omega arith) e))

module _ (servers : ℕ) (s : State) (p : IsUnsettled servers s) (disk : ℕ) (row : DiskRow) (known : disk_at s.disks.rows disk ≡ Some row)
    (f : DiskRow → DiskRow) where
  abbrev now : DiskRow
  now = f row

  abbrev rows_then : List DiskRow
  rows_then = change disk f s.disks.rows

  was_at : (d : ℕ) → disk_at s.disks.rows d ≡ slice_get s.disks.rows d
  was_at d = disk_at_is s.disks.rows (λ i other e. (p.rows i other e).id) d

  pub here : slice_get s.disks.rows disk ≡ Some row
  here = sym (was_at disk) ∙ known

  rows_are : rows_then ≡ slice_set s.disks.rows disk now
  rows_are =
      ap (λ n. change n f s.disks.rows) (let e : disk ≡ 0 + disk = omega arith in e)
      ∙ change_at 0 disk f s.disks.rows row (λ i other e. let g = (p.rows i other e).id in omega arith) here

  pub here_now : slice_get rows_then disk ≡ Some now
  here_now = ap (λ rows. slice_get rows disk) rows_are ∙ get_set_here s.disks.rows disk now (slice_get_within s.disks.rows disk row here)

  pub beside : (i : ℕ) → i ≢ disk → slice_get rows_then i ≡ slice_get s.disks.rows i
  beside i ne = ap (λ rows. slice_get rows i) rows_are ∙ get_set_beside s.disks.rows disk i now ne

  -- it is the row of the disk
  pub row_known : (d : ℕ) (other : DiskRow) → d ≡ disk → disk_at s.disks.rows d ≡ Some other → row ≡ other
  row_known d other same e = same_some (sym known ∙ ap (disk_at s.disks.rows) (sym same) ∙ e)

  pub many_rows : length rows_then ≡ length s.disks.rows
  many_rows = ap length rows_are ∙ length-set s.disks.rows disk now

  -- each row is the changed one, or stood there before
  pub was_row : (i : ℕ) (other : DiskRow) → slice_get rows_then i ≡ Some other → ((i ≡ disk) × (other ≡ now)) ⊎ (slice_get s.disks.rows i ≡ Some other)
  was_row i other e = elim (same_or_apart i disk) [
    | inl same ↦ inl (same, same_some (sym e ∙ ap (slice_get rows_then) same ∙ here_now))
    | inr ne ↦ inr (sym (beside i ne) ∙ e)
  ]

  module _ (so : IsLaterDisk row now) where
    -- each row has the name of the one before
    named_as : (i : ℕ) (other : DiskRow) → slice_get rows_then i ≡ Some other
        → (was : DiskRow) × (slice_get s.disks.rows i ≡ Some was) × (was.name ≡ other.name)
    named_as i other e = elim (was_row i other e) [
      | inl h ↦ (row, ap (slice_get s.disks.rows) h.0 ∙ here, sym so.name ∙ ap (λ (r : DiskRow). r.name) (sym h.1))
      | inr old ↦ (other, old, refl)
    ]

    pub names_now : (i j : ℕ) (one other : DiskRow) → slice_get rows_then i ≡ Some one → slice_get rows_then j ≡ Some other → one.name ≡ other.name → i ≡ j
    names_now i j one other e g same =
        let a = named_as i one e in
        let b = named_as j other g in
        p.names i j a.0 b.0 a.1 b.1 (a.2 ∙ same ∙ sym b.2)

    pub ids_now : (i : ℕ) (other : DiskRow) → slice_get rows_then i ≡ Some other → other.id ≡ i
    ids_now i other e = elim (was_row i other e) [
      | inl h ↦ ap (λ (r : DiskRow). r.id) h.1 ∙ so.id ∙ (p.rows disk row here).id ∙ sym h.0
      | inr old ↦ (p.rows i other old).id
    ]

    -- the later row of a disk
    pub row_later : (i : ℕ) (other : DiskRow) → slice_get s.disks.rows i ≡ Some other
        → (later : DiskRow) × (slice_get rows_then i ≡ Some later) × IsLaterDisk other later
    row_later i other e = elim (same_or_apart i disk) [
      | inl same ↦
          let is : row ≡ other = same_some (sym here ∙ sym (ap (slice_get s.disks.rows) same) ∙ e) in
          (now, ap (slice_get rows_then) same ∙ here_now, subst (λ r. IsLaterDisk r now) is so)
      | inr ne ↦ (other, beside i ne ∙ e, later_disk_itself other)
    ]

  -- the state then, over the same maps and links, with this queue
  module _ (queue : List Fence) (waiting : ℕ) where
    abbrev pub rowed : State
    rowed = record s { view = record s.view { queue = queue; queued = waiting }; disks = record s.disks { rows = rows_then } }

    module _ (so : IsLaterDisk row now) where
      disk_then : (d : ℕ) (other : DiskRow) → slice_get rows_then d ≡ Some other → disk_at rows_then d ≡ Some other
      disk_then d other e = disk_at_is rows_then (ids_now so) d ∙ e

      -- a fence stands as before, where it is for another disk, or for something that the changed row still lacks
      pub fence_then : (before fence : Fence) → fence.kind ≡ before.kind → IsFence s before
          → ((h : IsForSnapshot s before) → h.disk ≡ disk → snapshot_named now.snaps h.name ≡ None)
          → ((h : IsForRegion s before) → h.disk ≡ disk → (move : Move) × (now.moving ≡ Some move) × IsShape move.regions h.region Old)
          → IsFence rowed fence
      fence_then before fence like (Of_disk h) fresh next = elim (same_or_apart h.disk disk) [
        | inl same ↦ snapshot_on s rowed before fence h like now (disk_then h.disk now (ap (slice_get rows_then) same ∙ here_now)) (fresh h same)
        | inr ne ↦ snapshot_on s rowed before fence h like h.row (disk_then h.disk h.row (beside h.disk ne ∙ sym (was_at h.disk) ∙ h.known)) h.fresh
      ]
      fence_then before fence like (Of_region h) fresh next = elim (same_or_apart h.disk disk) [
        | inl same ↦
            let m = next h same in
            region_on s rowed before fence h like now m.0 (disk_then h.disk now (ap (slice_get rows_then) same ∙ here_now)) m.1 m.2
        | inr ne ↦
            region_on s rowed before fence h like h.row h.move (disk_then h.disk h.row (beside h.disk ne ∙ sym (was_at h.disk) ∙ h.known)) h.moves h.shape
      ]

    module _ (so : IsLaterDisk row now) (then : IsRowAt s.maps disk now) where
      pub rows_later : (i : ℕ) (other : DiskRow) → slice_get s.disks.rows i ≡ Some other → HasLaterDisk rowed i other
      rows_later i other e = let h = row_later so i other e in record { now = h.0; is = h.1; so = h.2 }

      pub rows_now : (i : ℕ) (other : DiskRow) → slice_get rows_then i ≡ Some other → IsRowAt s.maps i other
      rows_now i other e = elim (was_row i other e) [
        | inl h ↦ subst (λ k. IsRowAt s.maps k other) (sym h.0) (subst (IsRowAt s.maps disk) (sym h.1) then)
        | inr old ↦ p.rows i other old
      ]

      pub homes_now : (of d : ℕ) → disk_of s.maps of ≡ Some d → HasHome rowed of d
      homes_now of d e =
          let h = p.homes of d e in
          let l = row_later so d h.row h.is in
          record { row = l.0; is = l.1; newest = (let a = h.newest in let b = l.2.map in omega arith) }

      -- ### Who has a map

      kept_then : (of : ℕ) (one two : List DiskRow) (x y : DiskRow) → slice_get one disk ≡ Some x → slice_get two disk ≡ Some y
          → ((d : ℕ) → d ≢ disk → slice_get two d ≡ slice_get one d) → has_map of y ≡ has_map of x → (o : Option ℕ)
          → option_and_then (kept_by of) (option_and_then (slice_get one) o) ≡ None → option_and_then (kept_by of) (option_and_then (slice_get two) o) ≡ None
      kept_then of one two x y is too away same None e = refl
      kept_then of one two x y is too away same (Some d) e = elim (same_or_apart d disk) [
        | inl at ↦
            ap (option_and_then (kept_by of)) (ap (slice_get two) at ∙ too)
            ∙ none_by (has_map of y) (has_map of x) same (sym (ap (option_and_then (kept_by of)) (ap (slice_get one) at ∙ is)) ∙ e)
        | inr ne ↦ ap (option_and_then (kept_by of)) (away d ne) ∙ e
      ]
        where
          none_by : (a b : Bool) → a ≡ b → cond b (Some x) None ≡ None → cond a (Some y) None ≡ None
          none_by true true same e = none_some e refl
          none_by true false same e = true_false refl same
          none_by false b same e = refl

      -- a map that the disk keeps, or never had
      pub owner_then : (of : ℕ) → has_map of now ≡ has_map of row → owner s of ≡ None → owner rowed of ≡ None
      owner_then of keeps none = owner_is rowed rows_now of
          ∙ kept_then of s.disks.rows rows_then row now here here_now beside keeps (disk_of s.maps of) (sym (owner_is s p.rows of) ∙ none)

      pub owner_before : (of : ℕ) → has_map of now ≡ has_map of row → owner rowed of ≡ None → owner s of ≡ None
      owner_before of keeps none = owner_is s p.rows of
          ∙ kept_then of rows_then s.disks.rows now row here_now here (λ d ne. sym (beside d ne)) (sym keeps) (disk_of s.maps of)
          (sym (owner_is rowed rows_now of) ∙ none)

      -- ### The whole, where the disk keeps its maps

      module _ (keeps : (of : ℕ) → has_map of now ≡ has_map of row) where
        pub rowing : AreQueued rowed → Acted servers s rowed
        rowing fences = record {
          plain = record {
            many = p.many;
            members = p.members;
            fences = fences;
            made = p.made ∙ sym many_rows;
            homes = homes_now;
            rows = rows_now;
            names = names_now so;
            tuples = p.tuples;
            links = λ of link tuple e lt has. link_kept s rowed of link tuple refl refl (p.links of link tuple e lt (λ none. has (owner_then of
                (keeps of) none)));
            unlinked = λ of link none. p.unlinked of link (owner_before of (keeps of) none);
            found = p.found;
          };
          grown = grown_still s rowed (let e = many_rows in omega arith) rows_later refl refl refl
              (stages_later s rowed p.rows p.homes rows_later (λ of map e. e) rows_now homes_now);
        }
