-- Disks that come later: where they stand, what they are named, and that their cells had no links before.
use Rattle.law_state.proofs.Imports.{[], ◌++◌, ◌+◌, ◌<◌, ◌∙◌, ◌∷◌, ◌≡◌, ◌≤◌, ◌⊎◌, Cell, DiskRow, In, List, None, Some, State, ap, arith, cell_link, drop}
use Rattle.law_state.proofs.Imports.{has_map, inl, inr, length, length-append, named, nat_lists_same, none_some, refl, same_name, same_some, slice_get}
use Rattle.law_state.proofs.Imports.{slice_get_past, slice_get_within, some_or_none, subst, suc, sym, true, zero, ℕ}
use Rattle.law_state.specs.Tables.{IsGrown, IsLaterDisk, IsSettledState}
use Rattle.law_state.proofs.Owners.{no_owner}
use Rattle.law_state.proofs.ListLookups.{found_at, get_in, get_last, get_within, in_get, get_drop}
use Rattle.law_state.proofs.Steady.{found, unlinked}

-- no disk of the list has the name of one that follows, one after another
abbrev pub AreFresh : List DiskRow → List DiskRow → Type 0
AreFresh rows [] = Unit {0}
AreFresh rows (row ∷ more) = (named rows row.name ≡ None) × AreFresh (rows ++ row ∷ []) more

-- a disk of this name, which has the map as its own, or as the one that it leaves
pub record HasRow (rows : List DiskRow) (name : List ℕ) (of : ℕ) : Type 0 where
  pub row : DiskRow
  pub there : In row rows
  pub name_is : row.name ≡ name
  pub map_is : has_map of row ≡ true

module _ (servers : ℕ) (s : State) (p : IsSettledState servers s) where
  -- found by name
  pub known_row : (name : List ℕ) (row : DiskRow) → named s.disks.rows name ≡ Some row → In row s.disks.rows × (row.name ≡ name)
  known_row name row e = let at = found servers s p name row e in (in_get s.disks.rows at.0 row at.1, at.2)

  -- a cell past the last map has none
  pub past_link : (cell : Cell) → length s.maps ≤ cell.map → cell_link s cell ≡ None
  past_link cell le = unlinked servers s p cell (no_owner s p.rows p.homes cell.map (slice_get_past s.maps cell.map le))

-- the disks that were made since
abbrev pub later_rows : (earlier later : State) → List DiskRow
later_rows earlier later = drop (length earlier.disks.rows) later.disks.rows

-- the later row of a disk
pub record HasRowLater (rows : List DiskRow) (row : DiskRow) : Type 0 where
  pub now : DiskRow
  pub there : In now rows
  pub so : IsLaterDisk row now

module _ (servers : ℕ) (s t : State) (p : IsSettledState servers s) (q : IsSettledState servers t) (g : IsGrown s t) where
  pub stays_row : (row : DiskRow) → In row s.disks.rows → HasRowLater t.disks.rows row
  stays_row row h =
      let at = get_in s.disks.rows row h in
      let later = g.rows at.0 row at.1 in
      record { now = later.now; there = in_get t.disks.rows at.0 later.now later.is; so = later.so }

  -- a disk that was made later stands after those before
  pub later_place : (row : DiskRow) → In row (later_rows s t) → (i : ℕ) × (slice_get t.disks.rows i ≡ Some row) × (length s.disks.rows ≤ i)
  later_place row h =
      let at = get_in (later_rows s t) row h in
      (length s.disks.rows + at.0, get_drop (length s.disks.rows) t.disks.rows at.0 row at.1, omega arith)

  -- each disk that there is later was there before, or is one of these
  pub old_or_new : (row : DiskRow) → In row t.disks.rows → ((was : DiskRow) × In was s.disks.rows × IsLaterDisk was row) ⊎ In row (later_rows s t)
  old_or_new row h =
      let at = get_in t.disks.rows row h in
      elim (before_or_after at.0 (length s.disks.rows)) [
        | inl low ↦
            let was = get_within s.disks.rows at.0 low in
            let later = g.rows at.0 was.0 was.1 in
            let same : later.now ≡ row = same_some (sym later.is ∙ at.1) in
            inl (was.0, in_get s.disks.rows at.0 was.0 was.1, subst (IsLaterDisk was.0) same later.so)
        | inr k ↦ inr (in_get (later_rows s t) k.0 row (drop_get (length s.disks.rows) t.disks.rows k.0 row (ap (slice_get t.disks.rows) (sym k.1) ∙ at.1)))
      ]
    where
      before_or_after : (i n : ℕ) → (i < n) ⊎ ((k : ℕ) × (i ≡ n + k))
      before_or_after i zero = inr (i, omega arith)
      before_or_after zero (suc n) = inl (omega arith)
      before_or_after (suc i) (suc n) = elim (before_or_after i n) [ inl lt ↦ inl (omega arith) | inr k ↦ inr (k.0, let e = k.1 in omega arith) ]

      drop_get : {A : Type 0} (n : ℕ) (xs : List A) (i : ℕ) (x : A) → slice_get xs (n + i) ≡ Some x → slice_get (drop n xs) i ≡ Some x
      drop_get zero xs i x e = subst (λ k. slice_get xs k ≡ Some x) (let f : 0 + i ≡ i = omega arith in f) e
      drop_get (suc n) [] i x e = none_some refl e
      drop_get (suc n) (y ∷ xs) i x e =
          drop_get n xs i x (subst (λ k. slice_get (y ∷ xs) k ≡ Some x) (let f : suc n + i ≡ suc (n + i) = omega arith in f) e)

-- what follows in a list of disks of different names
fresh_by : (servers : ℕ) (t : State) → IsSettledState servers t → (rows more : List DiskRow)
    → ((i : ℕ) (row : DiskRow) → slice_get rows i ≡ Some row → (now : DiskRow) × (slice_get t.disks.rows i ≡ Some now) × (now.name ≡ row.name))
    → ((i : ℕ) (row : DiskRow) → slice_get more i ≡ Some row → slice_get t.disks.rows (length rows + i) ≡ Some row) → AreFresh rows more
fresh_by servers t q rows [] prefix following = tt
fresh_by servers t q rows (row ∷ more) prefix following = (
  elim (some_or_none (named rows row.name)) [
    | inl h ↦
        let at = found_at (λ other. same_name other.name row.name) rows h.0 h.1 in
        let now = prefix at.0 h.0 at.1 in
        let lt = slice_get_within rows at.0 h.0 at.1 in
        let same = q.names at.0 (length rows + 0) now.0 row now.1 (following 0 row refl) (now.2 ∙ nat_lists_same h.0.name row.name at.2) in
        absurd (omega arith)
    | inr none ↦ none
  ],
  fresh_by servers t q (rows ++ row ∷ []) more
      (λ i other e. elim (get_last rows row i other e) [
        | inl old ↦ prefix i other old
        | inr new ↦ (
          row,
          ap (slice_get t.disks.rows) (let f = new.0 in let g : i ≡ length rows + 0 = omega arith in g) ∙ following 0 row refl,
          ap (λ (r : DiskRow). r.name) (sym new.1),
        )
      ])
      (λ i other e. ap (slice_get t.disks.rows) (one_more i) ∙ following (suc i) other e),
)
  where
    one_more : (i : ℕ) → length (rows ++ row ∷ []) + i ≡ length rows + suc i
    one_more i = simp length-append (omega arith)

pub fresh_rows : (servers : ℕ) (s t : State) → IsSettledState servers t → IsGrown s t → AreFresh s.disks.rows (later_rows s t)
fresh_rows servers s t q g = fresh_by servers t q s.disks.rows (later_rows s t)
    (λ i row e. let later = g.rows i row e in (later.now, later.is, later.so.name))
    (λ i row e. get_drop (length s.disks.rows) t.disks.rows i row e)
