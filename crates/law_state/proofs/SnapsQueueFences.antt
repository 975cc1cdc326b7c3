-- A Snap queues a fence for a snapshot that nobody has, and that no other fence is for. A report takes its server from those for whom the
-- active fence waits.
use Rattle.law_state.proofs.Imports.{[], ◌&&◌, ◌+◌, ◌==◌, ◌∙◌, ◌∷◌, ◌≡◌, Bool, DiskRow, Fence, List, None, Option, Region, Some, State, Whole, ap, disk_at}
use Rattle.law_state.proofs.Imports.{false, first_waiting, inl, inr, is_disk, is_some, is_taken, list_any, named, none_some, number_itself, refl, same_name}
use Rattle.law_state.proofs.Imports.{same_numbers, same_some, slice_get, snapshot_named, suc, sym, takes, true_false, with_fence, zero, ℕ}
use Rattle.law_state.specs.Tables.{IsSettledState, Of_disk}
use Rattle.law_state.proofs.Fences.{Acted, AreQueued, fence_kept, head_queued, head_reported, queued_on, requeued, requeued_reported, waits_before}
use Rattle.law_state.proofs.Fences.{waits_present}
use Rattle.law_state.proofs.NewMapLinks.{either_false}
use Rattle.law_state.proofs.ListLookups.{find_here, found_at, get_last, text_itself}
use Rattle.global_tables.specs.View as view

pub none_of : {A : Type 0} (o : Option A) → is_some o ≡ false → o ≡ None
none_of None e = refl
none_of (Some x) e = true_false refl e

any_none : {A : Type 0} (p : A → Bool) (xs : List A) (i : ℕ) (x : A) → list_any p xs ≡ false → slice_get xs i ≡ Some x → p x ≡ false
any_none p [] i x none e = none_some refl e
any_none p (y ∷ ys) zero x none e = ap p (sym (same_some e)) ∙ (either_false (p y) (list_any p ys) none).0
any_none p (y ∷ ys) (suc i) x none e = any_none p ys i x (either_false (p y) (list_any p ys) none).1 e

-- two fences for snapshots are for the same one
pub same_snapshot : {disk other client seq later again : ℕ} {name text : List ℕ} → Whole disk name client seq ≡ Whole other text later again
    → (disk ≡ other) × (name ≡ text)
same_snapshot e = (cc, cc)

-- a disk is found where its number says, where each row's number is its place
pub disk_is : (rows : List DiskRow) → ((i : ℕ) (row : DiskRow) → slice_get rows i ≡ Some row → row.id ≡ i) → (disk : ℕ) (row : DiskRow)
    → slice_get rows disk ≡ Some row → disk_at rows disk ≡ Some row
disk_is rows ids disk row e =
    find_here (is_disk disk) rows disk row e (ap (λ n. n == disk) (ids disk row e) ∙ number_itself disk)
    (λ j other f t. sym (ids j other f) ∙ same_numbers other.id disk t)

pub disk_stands : (rows : List DiskRow) → ((i : ℕ) (row : DiskRow) → slice_get rows i ≡ Some row → row.id ≡ i) → (disk : ℕ) (row : DiskRow)
    → disk_at rows disk ≡ Some row → slice_get rows disk ≡ Some row
disk_stands rows ids disk row e =
    let at = found_at (is_disk disk) rows row e in
    let same : at.0 ≡ disk = sym (ids at.0 row at.1) ∙ same_numbers row.id disk at.2 in
    ap (slice_get rows) (sym same) ∙ at.1

-- ### The queue

-- a snapshot that is asked for, of a disk that has none of this name, nor one that waits
module _ (servers : ℕ) (s : State) (p : IsSettledState servers s) (client seq : ℕ) (disk name : List ℕ) (row : DiskRow)
    (found : named s.disks.rows disk ≡ Some row) (free : is_taken s name row ≡ false) where
  abbrev t : State
  t = with_fence s (Whole row.id name client seq)

  abbrev late : Fence
  late = record {
    number = s.view.queued + 1;
    kind = Whole row.id name client seq;
    waiting = first_waiting s.view.members s.view.queue;
  }

  known : disk_at s.disks.rows row.id ≡ Some row
  known =
      let at = found_at (λ (r : DiskRow). same_name r.name disk) s.disks.rows row found in
      disk_is s.disks.rows (λ i r e. (p.rows i r e).id) row.id row (ap (slice_get s.disks.rows) (p.rows at.0 row at.1).id ∙ at.1)

  unlike : (is_some (snapshot_named row.snaps name) ≡ false) × (list_any (λ (fence : Fence). takes row.id name fence.kind) s.view.queue ≡ false)
  unlike = either_false _ _ free

  -- none of those that waited is for this snapshot
  other_name : {A : Type 0} (i : ℕ) (one : Fence) (disk client seq : ℕ) (text : List ℕ) → slice_get s.view.queue i ≡ Some one
      → one.kind ≡ Whole disk text client seq → row.id ≡ disk → name ≡ text → A
  other_name i one disk client seq text e kind number letters = true_false
      (ap (takes row.id name) kind ∙ (λ k. (sym number k == row.id) && same_name (sym letters k) name)
      ∙ (λ k. number_itself row.id k && text_itself name k))
      (any_none (λ (fence : Fence). takes row.id name fence.kind) s.view.queue i one unlike.1 e)

  apart : (i j : ℕ) (one other : Fence) (disk client seq later again : ℕ) (text : List ℕ) → slice_get t.view.queue i ≡ Some one
      → slice_get t.view.queue j ≡ Some other → one.kind ≡ Whole disk text client seq → other.kind ≡ Whole disk text later again → i ≡ j
  apart i j one other disk client seq later again text e f kind like =
      elim (get_last s.view.queue late i one e) [
        | inl old ↦ elim (get_last s.view.queue late j other f) [
          | inl older ↦ p.fences.apart i j one other disk client seq later again text old older kind like
          | inr new ↦ (let same = same_snapshot (sym (ap (λ (x : Fence). x.kind) new.1) ∙ like) in
              other_name i one disk client seq text old kind same.0 same.1)
        ]
        | inr new ↦ elim (get_last s.view.queue late j other f) [
          | inl old ↦ (let same = same_snapshot (sym (ap (λ (x : Fence). x.kind) new.1) ∙ kind) in
              other_name j other disk later again text old like same.0 same.1)
          | inr newer ↦ new.0 ∙ sym newer.0
        ]
      ]

  -- the new one is for no region
  not_region : {A : Type 0} (fence : Fence) (disk region : ℕ) → fence ≡ late → fence.kind ≡ Region disk region → A
  not_region fence disk region is kind =
      let e : Whole row.id name client seq ≡ Region disk region = sym (ap (λ (x : Fence). x.kind) is) ∙ kind in absurd cc

  once : (i j : ℕ) (one other : Fence) (disk region later : ℕ) → slice_get t.view.queue i ≡ Some one → slice_get t.view.queue j ≡ Some other
      → one.kind ≡ Region disk region → other.kind ≡ Region disk later → i ≡ j
  once i j one other disk region later e f kind like = elim (get_last s.view.queue late i one e) [
    | inr new ↦ not_region one disk region new.1 kind
    | inl old ↦ elim (get_last s.view.queue late j other f) [
      | inr new ↦ not_region other disk later new.1 like
      | inl older ↦ p.fences.once i j one other disk region later old older kind like
    ]
  ]

  fences_now : AreQueued t
  fences_now = record {
    each = λ i fence e. elim (get_last s.view.queue late i fence e) [
      | inl old ↦ fence_kept s t fence fence refl refl (p.fences.each i fence old)
      | inr new ↦ Of_disk (record {
        disk = row.id;
        name = name;
        client = client;
        seq = seq;
        kind = ap (λ (x : Fence). x.kind) new.1;
        row = row;
        known = known;
        fresh = none_of _ unlike.0;
      })
    ];
    apart = apart;
    once = once;
    present = λ fence n e waits. elim (head_queued s.view (Whole row.id name client seq) fence e) [
      | inl old ↦ p.fences.present fence n old waits
      | inr all ↦ waits_present s.view.members fence n all waits
    ];
  }

  pub snapping : Acted servers s t
  snapping = requeued servers s p.unsettled s.rev t.view.queued t.view.queue s.verdicts fences_now

-- ### A report

module _ (servers : ℕ) (s : State) (p : IsSettledState servers s) (server : ℕ) where
  abbrev u : State
  u = record s { view = view.drained s.view server }

  pub draining : Acted servers s u
  draining = requeued servers s p.unsettled s.rev s.view.queued u.view.queue s.verdicts
      (queued_on s u p.fences refl (requeued_reported server s.view.queue)
      (λ fence n e waits.
      let b = head_reported server s.view.queue fence e in
      p.fences.present b.0 n b.1 (waits_before server b.0 fence n b.2 waits)))
