-- Snapshots that a step takes: of each disk those that it has after the step and had not before. And no event changes a snapshot.
use Rattle.law_run.proofs.Imports.{[], ◌++◌, ◌∙◌, ◌∷◌, ◌≡◌, ◌≢◌, ◌≤◌, Begin, Bool, DiskRow, End, Event, Freeze, Holds, In, IsRowAt, List, Look, Make, MapRow}
use Rattle.law_run.proofs.Imports.{Obeys, Option, Plain, PlainDisk, PlainSnapshot, Snapshot, Some, Take, after, ap, append-nil, append_assoc, arith, by_bool}
use Rattle.law_run.proofs.Imports.{disk_at, disk_of, drop, drop-append_seam, find_prefix, flat_map, freeze_of, frozen, get_in, get_prefix, inl, inr, is_named}
use Rattle.law_run.proofs.Imports.{length, map, nat_lists_same, refl, replay, same_bytes, slice_get, slice_get_within, snapshots_of, subst, suc, sym}
use Rattle.law_run.proofs.Imports.{text_itself, true_false, with_disk, written, ℕ}
use Rattle.law_run.specs.WritesGoOn.{IsMindful, Onward}
use Rattle.law_run.proofs.Machine.{Obeys-append, disks_after, onward_itself, onward_joined, replay-append, with_apart, with_same}
use Rattle.law_run.proofs.DisksMade.{drop_all}
use Rattle.law_run.proofs.ListMembers.{all_empty}
use Rattle.law_run.proofs.SnapshotsAreChosen.{AreNext, Frozen, as_of, freeze_all}

-- ### Several disks

-- no two of these disks have one name
abbrev pub AreApart : List DiskRow → Type 0
AreApart [] = Unit {0}
AreApart (row ∷ rows) = ((other : DiskRow) → In other rows → other.name ≢ row.name) × AreApart rows

pub apart_by : (rows : List DiskRow)
    → ((i j : ℕ) (one other : DiskRow) → slice_get rows i ≡ Some one → slice_get rows j ≡ Some other → one.name ≡ other.name → i ≡ j)
    → AreApart rows
apart_by [] h = tt
apart_by (row ∷ rows) h = (
  λ other there e.
      let at = get_in rows other there in
      let f : suc at.0 ≡ 0 = h (suc at.0) 0 other row at.1 refl e in absurd (omega arith),
  apart_by rows (λ i j one other a b e. let f : suc i ≡ suc j = h (suc i) (suc j) one other a b e in omega arith),
)

-- the snapshots of a row are of one epoch after the other, and have names of their own
next_by : (maps : List MapRow) (row : DiskRow) (place : ℕ) → IsRowAt maps place row → (done more : List Snapshot) → row.snaps ≡ done ++ more → AreNext done more
next_by maps row place is done [] e = tt
next_by maps row place is done (snap ∷ more) e =
    let here : slice_get row.snaps (length done) ≡ Some snap = ap (λ s. slice_get s (length done)) e ∙ get_seam done snap more in (
      is.snaps (length done) snap here,
      λ other there same.
          let at = get_in done other there in
          let prefix = ap (λ s. slice_get s at.0) e ∙ get_prefix done (snap ∷ more) at.0 other at.1 in
          let lt = slice_get_within done at.0 other at.1 in
          let one = is.names at.0 (length done) other snap prefix here same in
          absurd (omega arith),
      next_by maps row place is (done ++ snap ∷ []) more (e ∙ sym (append_assoc done (snap ∷ []) more)),
    )
  where
    get_seam : (xs : List Snapshot) (x : Snapshot) (ys : List Snapshot) → slice_get (xs ++ x ∷ ys) (length xs) ≡ Some x
    get_seam [] x ys = refl
    get_seam (z ∷ zs) x ys = get_seam zs x ys

module _ (has : DiskRow → (epoch block : ℕ) → Bool) (contents : DiskRow → (epoch block : ℕ) → List ℕ) (done : DiskRow → List Snapshot) where
  -- what is told of a disk: a freeze for each snapshot after the ones that it had
  abbrev pub freezes_of : DiskRow → List Event
  freezes_of row = map (freeze_of row) (drop (length (done row)) row.snaps)

  -- the disk's row, which has these snapshots more than before; its contents at later epochs are what they were
  pub record IsFrozenFrom (row : DiskRow) : Type 0 where
    pub maps : List MapRow
    pub place : ℕ
    pub is : IsRowAt maps place row
    pub more : List Snapshot
    pub snaps : row.snaps ≡ done row ++ more
    pub still : (epoch b : ℕ) → length (done row) ≤ epoch
        → (has row epoch b ≡ has row (length (done row)) b) × (contents row epoch b ≡ contents row (length (done row)) b)

  -- the machine after all of it
  pub record AllFrozen (m : Plain) (rows : List DiskRow) (es : List Event) : Type 0 where
    pub may : Obeys m es
    pub known : (row : DiskRow) → In row rows → Holds (replay m es).disks row (has row) (contents row)
    pub others : (name : List ℕ) → ((row : DiskRow) → In row rows → name ≢ row.name) → disk_of (replay m es).disks name ≡ disk_of m.disks name
    pub mindful : IsMindful (replay m es)
    pub onward : Onward m (replay m es)

  -- of one disk
  freeze_disk : (m : Plain) (row : DiskRow) → IsFrozenFrom row → IsMindful m → Holds m.disks (as_of row (done row)) (has row) (contents row)
      → Frozen row (has row) (contents row) m (freezes_of row) row.snaps
  freeze_disk m row f mindful h =
      let following : drop (length (done row)) row.snaps ≡ f.more =
      ap (drop (length (done row))) f.snaps ∙ drop-append_seam (done row) f.more in
      subst (λ snaps. Frozen row (has row) (contents row) m (map (freeze_of row) snaps) row.snaps) (sym following)
      (subst (Frozen row (has row) (contents row) m (map (freeze_of row) f.more)) (sym f.snaps)
      (freeze_all row (has row) (contents row) (length (done row)) f.still m (done row) f.more (omega arith)
      (next_by f.maps row f.place f.is (done row) f.more f.snaps) mindful h))

  -- the row is that with all its snapshots
  whole_row : (row : DiskRow) → IsFrozenFrom row → as_of row row.snaps ≡ row
  whole_row row f = (λ i. record row { epoch = f.is.many i })

  pub freeze_rows : (m : Plain) (rows : List DiskRow) → AreApart rows → ((row : DiskRow) → In row rows → IsFrozenFrom row) → IsMindful m
      → ((row : DiskRow) → In row rows → Holds m.disks (as_of row (done row)) (has row) (contents row))
      → AllFrozen m rows (flat_map freezes_of rows)
  unfolding In
  freeze_rows m [] apart from mindful known =
      record { may = tt; known = λ row h. absurd h; others = λ name ne. refl; mindful = mindful; onward = onward_itself m }
  freeze_rows m (row ∷ rows) apart from mindful known =
      let now = freeze_disk m row (from row (inl refl)) mindful (known row (inl refl)) in
      let es = freezes_of row in
      let k = replay m es in
      let rest = freeze_rows k rows apart.1 (λ other h. from other (inr h)) now.mindful
      (λ other h.
      let old = known other (inr h) in
      record { disk = old.disk; is = now.others other.name (apart.0 other h) ∙ old.is; same = old.same; snapshots = old.snapshots }) in
      let later = flat_map freezes_of rows in
      let joined : replay m (es ++ later) ≡ replay k later = replay-append m es later in
      record {
        may = Obeys-append m es later now.may rest.may;
        known = λ other h. subst (λ j. Holds j.disks other (has other) (contents other)) (sym joined) (elim h [
          | inl e ↦ subst (λ (r : DiskRow). Holds (replay k later).disks r (has r) (contents r)) (sym e)
              (let own : Holds k.disks row (has row) (contents row) =
              subst (λ r. Holds k.disks r (has row) (contents row)) (whole_row row (from row (inl refl))) now.known in
              record {
                disk = own.disk;
                is = rest.others row.name (λ other there f. apart.0 other there (sym f)) ∙ own.is;
                same = own.same;
                snapshots = own.snapshots;
              })
          | inr there ↦ rest.known other there
        ]);
        others = λ name ne. ap (λ j. disk_of j.disks name) joined ∙ rest.others name (λ other h. ne other (inr h)) ∙ now.others name (ne row (inl refl));
        mindful = subst IsMindful (sym joined) rest.mindful;
        onward = subst (Onward m) (sym joined) (onward_joined m k (replay k later) now.onward rest.onward);
      }

-- where the disks are as they were, no snapshot is taken
pub no_freezes : (old rows : List DiskRow) → ((row : DiskRow) → In row rows → disk_at old row.id ≡ Some row)
    → flat_map (λ (row : DiskRow). map (freeze_of row) (drop (length (snapshots_of (disk_at old row.id))) row.snaps)) rows ≡ []
no_freezes old rows there = all_empty (λ (row : DiskRow). map (freeze_of row) (drop (length (snapshots_of (disk_at old row.id))) row.snaps)) rows
    (λ row h.
    ap (λ o. map (freeze_of row) (drop (length (snapshots_of o)) row.snaps)) (there row h) ∙ ap (map (freeze_of row)) (drop_all row.snaps))

-- ### Snapshots never change

-- the disk is there later, with the snapshots that it had
pub record HasMore (later : Option PlainDisk) (disk : PlainDisk) : Type 0 where
  pub now : PlainDisk
  pub is : later ≡ Some now
  pub more : List PlainSnapshot
  pub snaps : now.snaps ≡ disk.snaps ++ more

has_same : (later : Option PlainDisk) (disk : PlainDisk) → later ≡ Some disk → HasMore later disk
has_same later disk is = record { now = disk; is = is; more = []; snaps = sym (append-nil disk.snaps) }

-- one disk is changed, by which it keeps its snapshots
changed_more : (ds : List PlainDisk) (name : List ℕ) (f : PlainDisk → PlainDisk) (other : List ℕ) (disk : PlainDisk) → ((d : PlainDisk) → (f d).name ≡ d.name)
    → (more : List PlainSnapshot) → (f disk).snaps ≡ disk.snaps ++ more → disk_of ds other ≡ Some disk
    → HasMore (disk_of (with_disk ds name f) other) disk
changed_more ds name f other disk keeps more snaps is = by_bool (same_bytes other name)
    (λ on.
    let same : other ≡ name = nat_lists_same other name on in
    record {
      now = f disk;
      is = ap (disk_of (with_disk ds name f)) same ∙ with_same ds name f disk keeps (ap (disk_of ds) (sym same) ∙ is);
      more = more;
      snaps = snaps;
    })
    (λ off. has_same _ disk (with_apart ds name f other keeps
    (λ e. true_false (ap (λ n. same_bytes n name) e ∙ text_itself name) off) ∙ is))

snaps_after : (m : Plain) (e : Event) (name : List ℕ) (disk : PlainDisk) → disk_of m.disks name ≡ Some disk → HasMore (disk_of (after m e).disks name) disk
snaps_after m (Make other) name disk is =
    has_same _ disk (ap (λ ds. disk_of ds name) (disks_after m (Make other)) ∙ find_prefix (is_named name) m.disks _ disk is)
snaps_after m (Freeze other snap) name disk is =
    subst (λ ds. HasMore (disk_of ds name) disk) (sym (disks_after m (Freeze other snap)))
    (changed_more m.disks other (frozen snap) name disk (λ d. refl) _ refl is)
snaps_after m (Take w) name disk is =
    subst (λ ds. HasMore (disk_of ds name) disk) (sym (disks_after m (Take w)))
    (changed_more m.disks w.disk (written w.block w.bytes) name disk (λ d. refl) [] (sym (append-nil disk.snaps)) is)
snaps_after m (Begin w) name disk is = has_same _ disk (ap (λ ds. disk_of ds name) (disks_after m (Begin w)) ∙ is)
snaps_after m (End w how) name disk is = has_same _ disk (ap (λ ds. disk_of ds name) (disks_after m (End w how)) ∙ is)
snaps_after m (Look other snap block bytes) name disk is =
    has_same _ disk (ap (λ ds. disk_of ds name) (disks_after m (Look other snap block bytes)) ∙ is)

-- each event leaves a disk the snapshots that it has
pub snaps_stay : (m : Plain) (es : List Event) (name : List ℕ) (disk : PlainDisk) → disk_of m.disks name ≡ Some disk
    → HasMore (disk_of (replay m es).disks name) disk
snaps_stay m [] name disk is = has_same _ disk is
snaps_stay m (e ∷ es) name disk is =
    let now = snaps_after m e name disk is in
    let later = snaps_stay (after m e) es name now.now now.is in
    record {
      now = later.now;
      is = later.is;
      more = now.more ++ later.more;
      snaps = later.snaps ∙ ap (λ s. s ++ later.more) now.snaps ∙ append_assoc disk.snaps now.more later.more;
    }
