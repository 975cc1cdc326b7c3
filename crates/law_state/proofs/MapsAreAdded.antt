-- A map is added, with the links that its tuple asks for. A disk is made over such a map: its row stands last.
use Rattle.law_state.proofs.Imports.{[], if◌then◌else◌, ◌++◌, ◌<◌, ◌||◌, ◌∙◌, ◌∷◌, ◌≡◌, ◌≢◌, ◌≤◌, ◌⊎◌, DiskRow, Fence, In, LinkRow, List, MapRow, None}
use Rattle.law_state.proofs.Imports.{Option, Some, State, added, ap, arith, disk_of, in-append, inl, inr, is_disk, is_link, is_tuple, leaves, length}
use Rattle.law_state.proofs.Imports.{length-append, link_at, named, new_row, new_rows, none_some, number_itself, option_and_then, option_map, owner, refl}
use Rattle.law_state.proofs.Imports.{same_name, same_some, slice_get, slice_get_past, slice_get_within, some_or_none, subst, sym, true, true_false, tuple_of}
use Rattle.law_state.proofs.Imports.{ups, with_disk, ℕ}
use Rattle.law_state.specs.Tables.{HasHome, HasLaterDisk, HasLinkOf, IsFence, IsSettledState, IsRowAt, Of_disk, Of_region}
use Rattle.law_state.specs.Ages.{age_of}
use Rattle.law_state.proofs.Ages.{no_less}
use Rattle.law_state.proofs.Fences.{Acted, AreQueued, asked_on, snapshot_on, region_on}
use Rattle.law_state.proofs.GrownStates.{later_disk_itself, same_row}
use Rattle.law_state.proofs.Owners.{home, home_later, kept_by, no_owner, owner_is, row_at_on, stages_later}
use Rattle.law_state.proofs.ListLookups.{get_prefix, get_in, get_last, none_find, find_prefix, find_after, text_itself}
use Rattle.law_state.proofs.NewMapLinks.{link_new, link_other, new_served, row_in}

pub map_prefix : (maps : List MapRow) (tuple other : List ℕ) (disk of : ℕ) → tuple_of maps of ≡ Some tuple → tuple_of (added maps other disk) of ≡ Some tuple
map_prefix maps tuple other disk of e = by (slice_get maps of) refl e
  where
    by : (o : Option MapRow) → slice_get maps of ≡ o → option_map (λ row. row.tuple) o ≡ Some tuple → tuple_of (added maps other disk) of ≡ Some tuple
    by None is f = none_some refl f
    by (Some row) is f = ap (option_map (λ row. row.tuple)) (get_prefix maps _ of row is) ∙ f

-- a map of the list with one more is one of those before, or the new one
map_last : (maps : List MapRow) (tuple other : List ℕ) (disk of : ℕ) → tuple_of (added maps other disk) of ≡ Some tuple
    → (tuple_of maps of ≡ Some tuple) ⊎ ((of ≡ length maps) × (tuple ≡ other))
map_last maps tuple other disk of e = by (slice_get (added maps other disk) of) refl e
  where
    by : (o : Option MapRow) → slice_get (added maps other disk) of ≡ o → option_map (λ row. row.tuple) o ≡ Some tuple
        → (tuple_of maps of ≡ Some tuple) ⊎ ((of ≡ length maps) × (tuple ≡ other))
    by None is f = none_some refl f
    by (Some row) is f = elim (get_last maps _ of row is) [
      | inl h ↦ inl (ap (option_map (λ row. row.tuple)) h ∙ f)
      | inr h ↦ inr (h.0, sym (same_some f) ∙ ap (λ row. row.tuple) h.1)
    ]

pub map_within : (maps : List MapRow) (of : ℕ) (tuple : List ℕ) → tuple_of maps of ≡ Some tuple → of < length maps
map_within maps of tuple e = elim (some_or_none (slice_get maps of)) [
  | inl h ↦ slice_get_within maps of h.0 h.1
  | inr none ↦ none_some (ap (option_map (λ row. row.tuple)) none) e
]

-- the disk of a map of the list with one more
disk_last : (maps : List MapRow) (tuple : List ℕ) (disk of d : ℕ) → disk_of (added maps tuple disk) of ≡ Some d
    → (disk_of maps of ≡ Some d) ⊎ ((of ≡ length maps) × (d ≡ disk))
disk_last maps tuple disk of d e = by (slice_get (added maps tuple disk) of) refl e
  where
    by : (o : Option MapRow) → slice_get (added maps tuple disk) of ≡ o → option_map (λ (row : MapRow). row.disk) o ≡ Some d
        → (disk_of maps of ≡ Some d) ⊎ ((of ≡ length maps) × (d ≡ disk))
    by None is f = none_some refl f
    by (Some row) is f = elim (get_last maps _ of row is) [
      | inl h ↦ inl (ap (option_map (λ (row : MapRow). row.disk)) h ∙ f)
      | inr h ↦ inr (h.0, sym (same_some f) ∙ ap (λ (row : MapRow). row.disk) h.1)
    ]

-- ### A map more

module _ (servers : ℕ) (s : State) (p : IsSettledState servers s) (tuple : List ℕ) (disk : ℕ) (proper : is_tuple servers tuple ≡ true) where
  abbrev late : List LinkRow
  late = new_rows (length s.maps) tuple (ups s)

  pub map_on : (of : ℕ) (m : MapRow) → slice_get s.maps of ≡ Some m → slice_get (added s.maps tuple disk) of ≡ Some m
  map_on of m e = get_prefix s.maps _ of m e

  -- a map that is not made yet has no owner
  past_owner : (of : ℕ) → length s.maps ≤ of → owner s of ≡ None
  past_owner of le = no_owner s p.rows p.homes of (slice_get_past s.maps of le)

  pub new_map : disk_of (added s.maps tuple disk) (length s.maps) ≡ Some disk
  new_map = last s.maps
    where
      last : (maps : List MapRow) → disk_of (maps ++ record { tuple = tuple; disk = disk } ∷ []) (length maps) ≡ Some disk
      last [] = refl
      last (m ∷ maps) = last maps

  -- the disk of each map that is known then
  pub disk_then : (of d : ℕ) → disk_of (added s.maps tuple disk) of ≡ Some d → (disk_of s.maps of ≡ Some d) ⊎ ((of ≡ length s.maps) × (d ≡ disk))
  disk_then of d e = disk_last s.maps tuple disk of d e

  module _ (rows : List DiskRow) (made : ℕ) (queue : List Fence) (waiting : ℕ) where
    -- the state with the map, these disks and this queue
    abbrev pub mapped : State
    mapped = record s {
      maps = added s.maps tuple disk;
      links = s.links ++ late;
      disks = record { rows = rows; made = made };
      view = record s.view { queue = queue; queued = waiting };
    }

    module _ (kept : (of : ℕ) (m : MapRow) → slice_get s.maps of ≡ Some m → owner s of ≡ None → owner mapped of ≡ None)
        (was : (of : ℕ) (m : MapRow) → slice_get s.maps of ≡ Some m → owner mapped of ≡ None → owner s of ≡ None)
        (owned : owner mapped (length s.maps) ≢ None) where
      tuples_now : (of : ℕ) (other : List ℕ) → tuple_of mapped.maps of ≡ Some other → is_tuple servers other ≡ true
      tuples_now of other e = elim (map_last s.maps other tuple disk of e) [
        | inl h ↦ p.tuples of other h
        | inr h ↦ subst (λ ids. is_tuple servers ids ≡ true) (sym h.1) proper
      ]

      -- the map that was made, or one before
      links_now : (of link : ℕ) (ids : List ℕ) → tuple_of mapped.maps of ≡ Some ids → link < length ids → owner mapped of ≢ None → HasLinkOf mapped of ids link
      links_now of link ids e lt has = elim (map_last s.maps ids tuple disk of e) [
        | inl h ↦ elim (some_or_none (slice_get s.maps of)) [
          | inr none ↦ none_some (ap (option_map (λ (row : MapRow). row.tuple)) none) h
          | inl m ↦ (let old = p.links of link ids h lt (λ none. has (kept of m.0 m.1 none)) in record {
            row = old.row;
            is = find_prefix (is_link of link) s.links late old.row old.is;
            asked = asked_on s mapped of ids link old.row old.asked old.asked.served;
          })
        ]
        | inr h ↦ record {
          row = new_row of ids (ups s) link;
          is = find_after (is_link of link) s.links late (p.unlinked of link (past_owner of (let f = h.0 in omega arith)))
              ∙ (λ i. link_at (new_rows (sym h.0 i) (sym h.1 i) (ups s)) of link) ∙ link_new (ups s) of ids link lt;
          asked = record { map = refl; place = refl; primary = refl; secondary = refl; served = new_served s of ids link };
        }
      ]

      unlinked_now : (of link : ℕ) → owner mapped of ≡ None → link_at mapped.links of link ≡ None
      unlinked_now of link none =
          find_after (is_link of link) s.links late (p.unlinked of link (before (some_or_none (slice_get s.maps of))))
          ∙ link_other (ups s) (length s.maps) of tuple link (λ e. absurd (owned (ap (owner mapped) e ∙ none)))
        where
          before : ((m : MapRow) × (slice_get s.maps of ≡ Some m)) ⊎ (slice_get s.maps of ≡ None) → owner s of ≡ None
          before (inl m) = was of m.0 m.1 none
          before (inr gone) = no_owner s p.rows p.homes of gone

      found_now : (row : LinkRow) → In row mapped.links → link_at mapped.links row.map row.link ≡ Some row
      found_now row h = elim (in-append row s.links late h) [
        | inl old ↦ find_prefix (is_link row.map row.link) s.links late row (p.found row old)
        | inr new ↦ (
            let at = get_in late row new in
            let is = row_in (ups s) (length s.maps) tuple at.0 row at.1 in
            subst (λ r. link_at mapped.links r.map r.link ≡ Some r) (sym is.2)
            (find_after (is_link (length s.maps) is.0) s.links late (p.unlinked (length s.maps) is.0 (past_owner (length s.maps) (no_less (length s.maps))))
            ∙ link_new (ups s) (length s.maps) tuple is.0 is.1))
      ]

      module _ (rows_now : (i : ℕ) (row : DiskRow) → slice_get rows i ≡ Some row → IsRowAt (added s.maps tuple disk) i row)
          (homes_now : (of d : ℕ) → disk_of (added s.maps tuple disk) of ≡ Some d → HasHome mapped of d)
          (names_now : (i j : ℕ) (one other : DiskRow) → slice_get rows i ≡ Some one → slice_get rows j ≡ Some other → one.name ≡ other.name → i ≡ j)
          (rows_later : (i : ℕ) (row : DiskRow) → slice_get s.disks.rows i ≡ Some row → HasLaterDisk mapped i row)
          (count : made ≡ length rows) (many : length s.disks.rows ≤ length rows) (fences : AreQueued mapped) where
        pub mapping : Acted servers s mapped
        mapping = record {
          plain = record {
            many = p.many;
            members = p.members;
            fences = fences;
            made = count;
            homes = homes_now;
            rows = rows_now;
            names = names_now;
            tuples = tuples_now;
            links = links_now;
            unlinked = unlinked_now;
            found = found_now;
          };
          grown = record {
            many = many;
            rows = rows_later;
            maps = map_on;
            links = λ of link row e. inl (same_row s mapped of link row (find_prefix (is_link of link) s.links late row e));
            stages = stages_later s mapped p.rows p.homes rows_later map_on rows_now homes_now;
            ages = λ n. no_less (age_of s n);
          };
        }

-- ### A disk more

module _ (servers : ℕ) (s : State) (p : IsSettledState servers s) (name tuple : List ℕ) (fresh : named s.disks.rows name ≡ None)
    (proper : is_tuple servers tuple ≡ true) where
  abbrev pub made_row : DiskRow
  made_row = record { id = s.disks.made; name = name; map = length s.maps; epoch = 0; snaps = []; moving = None }

  abbrev t : State
  t = with_disk s name tuple

  on : (of : ℕ) (m : MapRow) → slice_get s.maps of ≡ Some m → slice_get t.maps of ≡ Some m
  on = map_on servers s p tuple s.disks.made proper

  pub row_last : slice_get t.disks.rows s.disks.made ≡ Some made_row
  row_last = ap (slice_get t.disks.rows) p.made ∙ last s.disks.rows
    where
      last : (rows : List DiskRow) → slice_get (rows ++ made_row ∷ []) (length rows) ≡ Some made_row
      last [] = refl
      last (row ∷ rows) = last rows

  -- no snapshot, and epoch 0
  new_row_at : (i : ℕ) → s.disks.made ≡ i → IsRowAt t.maps i made_row
  new_row_at i id = record {
    id = id;
    of = new_map servers s p tuple s.disks.made proper ∙ ap Some id;
    many = refl;
    snaps = λ j snap e. none_some refl e;
    names = λ j k one other e. none_some refl e;
    moving = λ move e. none_some refl e;
  }

  row_now : (i : ℕ) (row : DiskRow) → slice_get t.disks.rows i ≡ Some row → IsRowAt t.maps i row
  row_now i row e = elim (get_last s.disks.rows made_row i row e) [
    | inl h ↦ row_at_on s.maps t.maps i row on (p.rows i row h)
    | inr h ↦ subst (IsRowAt t.maps i) (sym h.1) (new_row_at i (p.made ∙ sym h.0))
  ]

  home_now : (of d : ℕ) → disk_of t.maps of ≡ Some d → HasHome t of d
  home_now of d e = elim (disk_then servers s p tuple s.disks.made proper of d e) [
    | inl old ↦ (let h = p.homes of d old in record { row = h.row; is = get_prefix s.disks.rows (made_row ∷ []) d h.row h.is; newest = h.newest })
    | inr new ↦ record { row = made_row; is = ap (slice_get t.disks.rows) new.1 ∙ row_last; newest = (let a = new.0 in omega arith) }
  ]

  -- no row before has the new name
  apart : (i : ℕ) (row : DiskRow) → slice_get s.disks.rows i ≡ Some row → row.name ≢ name
  apart i row e same = true_false
      (ap (λ n. same_name n name) same ∙ text_itself name)
      (none_find (λ row. same_name row.name name) s.disks.rows i row fresh e)

  names_now : (i j : ℕ) (one other : DiskRow) → slice_get t.disks.rows i ≡ Some one → slice_get t.disks.rows j ≡ Some other → one.name ≡ other.name → i ≡ j
  names_now i j one other e f same = elim (get_last s.disks.rows made_row i one e) [
    | inl h ↦ elim (get_last s.disks.rows made_row j other f) [
      | inl k ↦ p.names i j one other h k same
      | inr k ↦ absurd (apart i one h (same ∙ ap (λ r. r.name) k.1))
    ]
    | inr h ↦ elim (get_last s.disks.rows made_row j other f) [
      | inl k ↦ absurd (apart j other k (sym same ∙ ap (λ r. r.name) h.1))
      | inr k ↦ h.0 ∙ sym k.0
    ]
  ]

  -- what waits is for disks that were known
  fence_now : (fence : Fence) → IsFence s fence → IsFence t fence
  fence_now fence (Of_disk h) =
      snapshot_on s t fence fence h refl h.row (find_prefix (is_disk h.disk) s.disks.rows (made_row ∷ []) h.row h.known) h.fresh
  fence_now fence (Of_region h) =
      region_on s t fence fence h refl h.row h.move (find_prefix (is_disk h.disk) s.disks.rows (made_row ∷ []) h.row h.known) h.moves h.shape

  fences_now : AreQueued t
  fences_now = record {
    each = λ i fence e. fence_now fence (p.fences.each i fence e);
    apart = p.fences.apart;
    once = p.fences.once;
    present = p.fences.present;
  }

  rows_later : (i : ℕ) (row : DiskRow) → slice_get s.disks.rows i ≡ Some row → HasLaterDisk t i row
  rows_later i row e = record { now = row; is = get_prefix s.disks.rows (made_row ∷ []) i row e; so = later_disk_itself row }

  -- the disk of a map that was known
  pub same_home : (of : ℕ) (m : MapRow) → slice_get s.maps of ≡ Some m → home t of ≡ home s of
  same_home of m e =
      let h = home_later s t p.rows p.homes rows_later on of m e in
      h.2.1 ∙ ap Some (same_some (sym h.2.0.is ∙ get_prefix s.disks.rows (made_row ∷ []) m.disk h.0.row h.0.is)) ∙ sym h.1

  same_owner : (of : ℕ) (m : MapRow) → slice_get s.maps of ≡ Some m → owner t of ≡ owner s of
  same_owner of m e = owner_is t row_now of ∙ ap (option_and_then (kept_by of)) (same_home of m e) ∙ sym (owner_is s p.rows of)

  owned : owner t (length s.maps) ≢ None
  owned none = none_some none
      (owner_is t row_now (length s.maps)
      ∙ ap (λ o. option_and_then (kept_by (length s.maps)) (option_and_then (slice_get t.disks.rows) o)) (new_map servers s p tuple s.disks.made proper)
      ∙ ap (option_and_then (kept_by (length s.maps))) row_last
      ∙ ap (λ b. if b || leaves (length s.maps) None then Some made_row else None) (number_itself (length s.maps)))

  pub making : Acted servers s t
  making = mapping servers s p tuple s.disks.made proper t.disks.rows t.disks.made t.view.queue t.view.queued
      (λ of m e none. same_owner of m e ∙ none) (λ of m e none. sym (same_owner of m e) ∙ none) owned
      row_now home_now names_now rows_later (simp length-append (let e = p.made in omega arith)) (simp length-append (omega arith)) fences_now
