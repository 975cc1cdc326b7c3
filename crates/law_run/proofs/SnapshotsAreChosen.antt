-- The machine's snapshots are those of the chosen disks; and a freeze takes one more.
use Rattle.law_run.proofs.Imports.{[], ◌++◌, ◌+◌, ◌∙◌, ◌∷◌, ◌≡◌, ◌≢◌, ◌≤◌, AreSnapshots, Bool, DiskRow, Event, Holds, In, List, None, Obeys, Plain}
use Rattle.law_run.proofs.Imports.{PlainSnapshot, Snapshot, Some, after, ap, append-nil, append_assoc, arith, by_bool, changed, cond, content, disk_of}
use Rattle.law_run.proofs.Imports.{freeze_of, frozen, inl, inr, is_snap_named, length, length-append, map, nat_lists_same, none_some, refl, replay, same_name}
use Rattle.law_run.proofs.Imports.{same_some, slice_get, snapshot_named, subst, suc, sym, true, zero, ℕ}
use Rattle.std.specs.Prelude.{find}
use Rattle.law_run.specs.WritesGoOn.{IsMindful, Onward}
use Rattle.law_run.proofs.Machine.{after_mindful, disks_after, onward_by, onward_itself, onward_joined, opened_after, with_apart, with_same}

-- ### What they are

-- the same, where fewer blocks have a content, and those at the snapshots' epochs are the same
pub snapshots_on : (taken : List PlainSnapshot) (snaps : List Snapshot) (has later : (epoch block : ℕ) → Bool) (from to : (epoch block : ℕ) → List ℕ)
    → ((snap : Snapshot) → In snap snaps → (b : ℕ) → later snap.epoch b ≡ true → (has snap.epoch b ≡ true) × (from snap.epoch b ≡ to snap.epoch b))
    → AreSnapshots taken snaps has from → AreSnapshots taken snaps later to
unfolding In
snapshots_on [] [] has later from to same a = tt
snapshots_on (t ∷ ts) (s ∷ ss) has later from to same a = (
  a.0,
  λ b h. let k = same s (inl refl) b h in a.1 b k.0 ∙ k.1,
  snapshots_on ts ss has later from to (λ x i. same x (inr i)) a.2,
)
snapshots_on [] (s ∷ ss) has later from to same a = absurd a
snapshots_on (t ∷ ts) [] has later from to same a = absurd a

module _ (has : (epoch block : ℕ) → Bool) (contents : (epoch block : ℕ) → List ℕ) where
  -- the machine's snapshot is this one
  abbrev pub IsTaken : PlainSnapshot → Snapshot → Type 0
  IsTaken taken snap = (taken.name ≡ snap.name) × ((b : ℕ) → has snap.epoch b ≡ true → content taken.blocks b ≡ contents snap.epoch b)

  snapshots_more : (taken : List PlainSnapshot) (snaps : List Snapshot) (t : PlainSnapshot) (s : Snapshot) → AreSnapshots taken snaps has contents
      → IsTaken t s → AreSnapshots (taken ++ t ∷ []) (snaps ++ s ∷ []) has contents
  snapshots_more [] [] t s a is = (is.0, is.1, tt)
  snapshots_more (x ∷ xs) (y ∷ ys) t s a is = (a.0, a.1, snapshots_more xs ys t s a.2 is)
  snapshots_more [] (y ∷ ys) t s a is = absurd a
  snapshots_more (x ∷ xs) [] t s a is = absurd a

  -- the one of a name is found by it in the machine
  pub snapshot_found : (taken : List PlainSnapshot) (snaps : List Snapshot) (name : List ℕ) (s : Snapshot) → AreSnapshots taken snaps has contents
      → snapshot_named snaps name ≡ Some s → (t : PlainSnapshot) × (find (is_snap_named name) taken ≡ Some t) × IsTaken t s
  snapshot_found [] [] name s a e = none_some refl e
  snapshot_found (x ∷ xs) (y ∷ ys) name s a e = by_bool (same_name y.name name)
      (λ on.
      let same : y ≡ s = same_some (sym (ap (λ b. cond b (Some y) (snapshot_named ys name)) on) ∙ e) in (
        x,
        ap (λ b. cond b (Some x) (find (is_snap_named name) xs)) (ap (λ n. same_name n name) a.0 ∙ on),
        subst (IsTaken x) same (a.0, a.1),
      ))
      (λ off.
      let later = snapshot_found xs ys name s a.2 (sym (ap (λ b. cond b (Some y) (snapshot_named ys name)) off) ∙ e) in (
        later.0,
        ap (λ b. cond b (Some x) (find (is_snap_named name) xs)) (ap (λ n. same_name n name) a.0 ∙ off) ∙ later.1,
        later.2,
      ))
  snapshot_found [] (y ∷ ys) name s a e = absurd a
  snapshot_found (x ∷ xs) [] name s a e = absurd a

  -- a name that none of them has is unknown to the machine
  snapshot_unknown : (taken : List PlainSnapshot) (snaps : List Snapshot) (name : List ℕ) → AreSnapshots taken snaps has contents
      → ((s : Snapshot) → In s snaps → s.name ≢ name) → find (is_snap_named name) taken ≡ None
  unfolding In
  snapshot_unknown [] [] name a other = refl
  snapshot_unknown (x ∷ xs) (y ∷ ys) name a other =
      ap (λ b. cond b (Some x) (find (is_snap_named name) xs))
      (by_bool (is_snap_named name x) (λ on. absurd (other y (inl refl) (sym a.0 ∙ nat_lists_same x.name name on))) (λ off. off))
      ∙ snapshot_unknown xs ys name a.2 (λ s i. other s (inr i))
  snapshot_unknown [] (y ∷ ys) name a other = absurd a
  snapshot_unknown (x ∷ xs) [] name a other = absurd a

  -- the one at a place is there in the machine
  pub snapshot_at : (taken : List PlainSnapshot) (snaps : List Snapshot) (i : ℕ) (s : Snapshot) → AreSnapshots taken snaps has contents
      → slice_get snaps i ≡ Some s → (t : PlainSnapshot) × (slice_get taken i ≡ Some t) × IsTaken t s
  snapshot_at [] [] i s a e = none_some refl e
  snapshot_at (x ∷ xs) (y ∷ ys) zero s a e = (x, refl, subst (IsTaken x) (same_some e) (a.0, a.1))
  snapshot_at (x ∷ xs) (y ∷ ys) (suc i) s a e = snapshot_at xs ys i s a.2 e
  snapshot_at [] (y ∷ ys) i s a e = absurd a
  snapshot_at (x ∷ xs) [] i s a e = absurd a

-- ### One disk

-- the disk with these snapshots
abbrev pub as_of : DiskRow → List Snapshot → DiskRow
as_of row done = record row { epoch = length done; snaps = done }

-- each of these is of the next epoch, and has a name of its own
abbrev pub AreNext : (done more : List Snapshot) → Type 0
AreNext done [] = Unit {0}
AreNext done (snap ∷ more) = (snap.epoch ≡ length done) × ((other : Snapshot) → In other done → other.name ≢ snap.name) × AreNext (done ++ snap ∷ []) more

-- the machine after snapshots of the disk were taken, so that it has these
pub record Frozen (row : DiskRow) (has : (epoch block : ℕ) → Bool) (contents : (epoch block : ℕ) → List ℕ) (m : Plain) (es : List Event)
    (snaps : List Snapshot) : Type 0 where
  pub may : Obeys m es
  pub known : Holds (replay m es).disks (as_of row snaps) has contents
  pub others : (name : List ℕ) → name ≢ row.name → disk_of (replay m es).disks name ≡ disk_of m.disks name
  pub mindful : IsMindful (replay m es)
  pub onward : Onward m (replay m es)

-- contents at epochs from one on are the same
module _ (row : DiskRow) (has : (epoch block : ℕ) → Bool) (contents : (epoch block : ℕ) → List ℕ) (from : ℕ)
    (still : (epoch b : ℕ) → from ≤ epoch → (has epoch b ≡ has from b) × (contents epoch b ≡ contents from b)) where
  module _ (m : Plain) (done : List Snapshot) (snap : Snapshot) (low : from ≤ length done) (epoch : snap.epoch ≡ length done)
      (h : Holds m.disks (as_of row done) has contents) where
    abbrev event : Event
    event = freeze_of row snap

    held_more : Holds (after m event).disks (as_of row (done ++ snap ∷ [])) has contents
    held_more = record {
      disk = frozen snap.name h.disk;
      is = ap (λ ds. disk_of ds row.name) (disks_after m event) ∙ with_same m.disks row.name (frozen snap.name) h.disk (λ d. refl) h.is;
      same = λ b there.
          let long : length (done ++ snap ∷ []) ≡ length done + 1 = length-append done (snap ∷ []) in
          let was = still (length done) b low in
          let now = still (length (done ++ snap ∷ [])) b (omega arith) in
          h.same b (was.0 ∙ sym now.0 ∙ there) ∙ was.1 ∙ sym now.1;
      snapshots = snapshots_more has contents h.disk.snaps done (record { name = snap.name; blocks = h.disk.now }) snap h.snapshots
          (refl, λ b there. h.same b (ap (λ e. has e b) (sym epoch) ∙ there) ∙ ap (λ e. contents e b) (sym epoch));
    }

    freeze_others : (name : List ℕ) → name ≢ row.name → disk_of (after m event).disks name ≡ disk_of m.disks name
    freeze_others name ne =
        ap (λ ds. disk_of ds name) (disks_after m event) ∙ with_apart m.disks row.name (frozen snap.name) name (λ d. refl) ne

  freeze_onward : (m : Plain) (snap : Snapshot) → Onward m (after m (freeze_of row snap))
  freeze_onward m snap = onward_by m (after m (freeze_of row snap)) (changed m (freeze_of row snap)).disks (opened_after m (freeze_of row snap))

  pub freeze_all : (m : Plain) (done more : List Snapshot) → from ≤ length done → AreNext done more → IsMindful m
      → Holds m.disks (as_of row done) has contents → Frozen row has contents m (map (freeze_of row) more) (done ++ more)
  freeze_all m done [] low next mindful h = record {
    may = tt;
    known = subst (λ snaps. Holds m.disks (as_of row snaps) has contents) (sym (append-nil done)) h;
    others = λ name ne. refl;
    mindful = mindful;
    onward = onward_itself m;
  }
  freeze_all m done (snap ∷ more) low next mindful h =
      let e = freeze_of row snap in
      let k = after m e in
      let long : length (done ++ snap ∷ []) ≡ length done + 1 = length-append done (snap ∷ []) in
      let rest = freeze_all k (done ++ snap ∷ []) more (omega arith) next.2 (after_mindful m e) (held_more m done snap low next.0 h) in
      record {
        may = (
          record { known = record { disk = h.disk; is = h.is }; fresh = snapshot_unknown has contents h.disk.snaps done snap.name h.snapshots next.1 },
          rest.may,
        );
        known = subst (λ snaps. Holds (replay k (map (freeze_of row) more)).disks (as_of row snaps) has contents)
            (append_assoc done (snap ∷ []) more) rest.known;
        others = λ name ne. rest.others name ne ∙ freeze_others m done snap low next.0 h name ne;
        mindful = rest.mindful;
        onward = onward_joined m k (replay k (map (freeze_of row) more)) (freeze_onward m snap) rest.onward;
      }
