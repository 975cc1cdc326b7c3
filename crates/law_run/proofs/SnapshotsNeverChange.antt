-- Snapshots never change: what a later world has of them is what the machine kept.
use Rattle.law_run.proofs.Imports.{◌<◌, ◌∙◌, ◌≡◌, DiskRow, Event, Firm, HasRowLater, Holds, In, IsPrefix, IsRowAt, IsStill, List, Plain, PlainDisk}
use Rattle.law_run.proofs.Imports.{PlainSnapshot, Setting, Snapshot, Some, World, ap, arith, chosen_log, chosen_state, content, content_at, disk_of, get_in}
use Rattle.law_run.proofs.Imports.{get_prefix, get_within, has_content_at, log_grown, replay, same_some, slice_get, sym, true, ℕ}
use Rattle.law_run.specs.MachineTies.{Stores}
use Rattle.law_run.proofs.ChosenDisks.{later_row, plain_now, rows_in}
use Rattle.law_run.proofs.SnapshotsTaken.{HasMore, snaps_stay}
use Rattle.law_run.proofs.SnapshotsAreChosen.{IsTaken, snapshot_at}

-- two worlds of one history, and the machine at the first and, by events more, at the second
pub record Replayed : Type 0 where
  pub setting : Setting
  pub w : World
  pub v : World
  pub one : Firm setting w
  pub two : Firm setting v
  pub grows : IsPrefix (chosen_log setting w) (chosen_log setting v)
  pub m : Plain
  pub es : List Event
  pub was : Stores setting (rows_in setting w) w m
  pub now : Stores setting (rows_in setting v) v (replay m es)

module _ (it : Replayed) where
  open it use {setting, w, v, one, two, grows, m, es, was, now}

  module _ (row : DiskRow) (h : In row (rows_in setting w)) (epoch : ℕ) (lt : epoch < row.epoch) where
    abbrev later : HasRowLater (rows_in setting v) row
    later = later_row setting w v one two (log_grown setting.servers _ _ two.plain grows) row h

    row_at : (place : ℕ) × (slice_get (rows_in setting w) place ≡ Some row)
    row_at = get_in (rows_in setting w) row h

    is_row : IsRowAt (chosen_state setting w).maps row_at.0 row
    is_row = (plain_now setting w one).rows row_at.0 row row_at.1

    -- the snapshot of this epoch
    snap : (snap : Snapshot) × (slice_get row.snaps epoch ≡ Some snap)
    snap = get_within row.snaps epoch (let many = is_row.many in omega arith)

    snap_epoch : snap.0.epoch ≡ epoch
    snap_epoch = is_row.snaps epoch snap.0 snap.1

    snap_later : slice_get later.now.snaps epoch ≡ Some snap.0
    snap_later = ap (λ s. slice_get s epoch) later.so.snaps ∙ get_prefix row.snaps later.so.more epoch snap.0 snap.1

    then : Holds m.disks row (has_content_at setting w row.id) (content_at setting w row.id)
    then = was.known row h

    last : Holds (replay m es).disks later.now (has_content_at setting v later.now.id)
        (content_at setting v later.now.id)
    last = now.known later.now later.there

    -- the machine's one
    taken : (t : PlainSnapshot) × (slice_get then.disk.snaps epoch ≡ Some t)
        × IsTaken (has_content_at setting w row.id) (content_at setting w row.id) t snap.0
    taken = snapshot_at (has_content_at setting w row.id) (content_at setting w row.id)
        then.disk.snaps row.snaps epoch snap.0 then.snapshots snap.1

    kept : (t : PlainSnapshot) × (slice_get last.disk.snaps epoch ≡ Some t)
        × IsTaken (has_content_at setting v later.now.id) (content_at setting v later.now.id) t snap.0
    kept = snapshot_at (has_content_at setting v later.now.id) (content_at setting v later.now.id)
        last.disk.snaps later.now.snaps epoch snap.0 last.snapshots snap_later

    same_taken : taken.0 ≡ kept.0
    same_taken =
        let more : HasMore (disk_of (replay m es).disks row.name) then.disk = snaps_stay m es row.name then.disk then.is in
        let disk : more.now ≡ last.disk = same_some (sym more.is ∙ ap (disk_of (replay m es).disks) (sym later.so.name) ∙ last.is) in
        same_some (sym (get_prefix then.disk.snaps more.more epoch taken.0 taken.1) ∙ ap (λ s. slice_get s epoch) (sym more.snaps)
        ∙ ap (λ (d : PlainDisk). slice_get d.snaps epoch) disk ∙ kept.1)

    same_content : (block : ℕ) → has_content_at setting w row.id epoch block ≡ true → has_content_at setting v row.id epoch block ≡ true
        → content_at setting v row.id epoch block ≡ content_at setting w row.id epoch block
    same_content block has has_later =
        let there : has_content_at setting v later.now.id snap.0.epoch block ≡ true =
        (λ i. has_content_at setting v (later.so.id i) (snap_epoch i) block) ∙ has_later in
        let here : has_content_at setting w row.id snap.0.epoch block ≡ true = ap (λ e. has_content_at setting w row.id e block) snap_epoch ∙ has in
        (λ i. content_at setting v (sym later.so.id i) (sym snap_epoch i) block)
        ∙ sym (kept.2.1 block there) ∙ ap (λ (t : PlainSnapshot). content t.blocks block) (sym same_taken) ∙ taken.2.1 block here
        ∙ ap (λ e. content_at setting w row.id e block) snap_epoch

  pub contents_still : IsStill setting w v
  contents_still row epoch block h lt has has_later = same_content row h epoch lt block has has_later
