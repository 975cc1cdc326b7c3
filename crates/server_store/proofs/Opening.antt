-- A store that was read from its device.
use Rattle.std.proofs.Common.{◌≡◌, ◌∙◌, ◌≤◌, ◌↔◌, Bool, true, false, List, ℕ, Vec, map, vec_len, sym, ap, subst, arith}
use Rattle.std.specs.declared.alloc.Global.{Global}
use Rattle.block_journal.specs.declared.half.TheConstants.{TURN_BYTES}
use Rattle.petal_disk.specs.Disk.{Only, Within}
use Rattle.physical_map.specs.declared.entry.Entry.{Entry}
use Rattle.data_device.specs.declared.record.StoreRecord.{StoreRecord}
use Rattle.data_device.specs.Device.{Log, Logs}
use Rattle.data_device.specs.Found.{IsFound}
use Rattle.data_device.specs.Kept.{IsWithin, Kept, kept_of}
use Rattle.data_device.specs.Slots.{slot_start}
use Rattle.data_device.proofs.Held.{within_of}
use Rattle.data_device.specs.declared.opening.Found.{Found}
use Rattle.server_store.specs.Holdings.{Holdings, IsKeptBy, held_in, listed}
use Rattle.server_store.specs.Opening.{Reopened, kept_found}
use Rattle.server_store.specs.declared.reread.Reread.{Reread}
use Rattle.server_store.specs.declared.reread.Reread.TheVariants.{Same}
use Rattle.busy_marks.specs.declared.marks.Mark.{Mark}
use Rattle.client_rows.specs.declared.row.Row.{Row}
use Rattle.server_store.specs.Shown.{Keeps, Picture, Shows, picture_in}
use Rattle.server_store.proofs.Contents.{is_listed}

-- the store of what was found on a device with these bytes
abbrev pub store_in : {D : Type 0} → List ℕ → Found → D → Holdings D
store_in seen found disk = record {
  entries = map (held_in seen) found.ledger.entries;
  tickets = found.ledger.tickets;
  marks = found.marks.marks;
  rows = found.rows.rows;
  slots = found.ledger.slots;
  fresh = found.fresh;
  log = found.log;
  disk = disk;
}

-- it is the one that the device showed
pub reopened : {D : Type 0} (before seen : List ℕ) (may_leave : List ℕ → Type 0) (found : Found) (disk : D)
    → (slots : ℕ) (fresh : Bool) (recorded : List StoreRecord) (picture : Picture)
    → IsFound found.ledger.slots found.log.fresh found → seen ≡ before → Only seen may_leave
    → (found.ledger.slots ≡ slots) × (found.log.fresh ≡ fresh) × (found.log.records ≡ recorded) × Logs slots found.log seen may_leave
    → Shows before slots fresh recorded picture → Reopened slots fresh recorded picture (store_in seen found disk) seen may_leave
reopened before seen may_leave found disk slots fresh recorded picture is kept_seen only same shows =
    let logs = same.3 in
    let kept : kept_of found.log.fresh found.log.records ≡ kept_of fresh recorded = ap (λ (b : Bool). kept_of b found.log.records) same.1
    ∙ ap (λ (rs : List StoreRecord). kept_of fresh rs) same.2 in
    let shown = ap (λ (k : Kept). picture_in seen k) is.kept in
    record {
      slots_are = same.0;
      fresh_is = same.1;
      records_are = same.2;
      shown = sym shown ∙ ap (λ (k : Kept). picture_in seen k) kept ∙ ap (λ (f : List ℕ). picture_in f (kept_of fresh recorded)) kept_seen ∙ shows.shown;
      holds = rw same.0 (record {
        logs = logs;
        shown = shown;
        left = λ x i. ap (λ (f : List ℕ). picture_in f (kept_of found.log.fresh found.log.records)) (only x i) ∙ shown;
      });
    }

-- what was found keeps the type's invariant
pub found_keeps : (found : Found) (buffer : Vec ℕ Global) (size : ℕ) → IsFound found.ledger.slots found.log.fresh found
    → slot_start found.ledger.slots ≤ size → vec_len buffer ≡ TURN_BYTES
    → IsKeptBy found.ledger found.marks found.rows found.fresh found.log buffer size
found_keeps found buffer size is fits buffer_is = record {
  fits = fits;
  few = is.few;
  kept = is.kept;
  within = subst IsWithin is.kept (within_of found.ledger.slots found.log.fresh found.log.records is.fit);
  room = rw is.tickets (omega arith);
  buffer_is = buffer_is;
}

-- what memory keeps of it
pub found_kept : (seen : List ℕ) (found : Found)
    → kept_found found
    ≡ record { entries = listed (map (held_in seen) found.ledger.entries); marks = found.marks.marks; rows = found.rows.rows; fresh = found.fresh }
found_kept seen found =
    ap (λ (es : List Entry). record { entries = es; marks = found.marks.marks; rows = found.rows.rows; fresh = found.fresh })
    (is_listed seen found.ledger.entries)

-- a device that was read shows what it showed
pub keeps_within : (slots : ℕ) (log : Log) (picture : Picture) (seen : List ℕ) (leave leave' : List ℕ → Type 0) → Within leave leave'
    → Keeps slots log picture seen leave → Keeps slots log picture seen leave'
keeps_within slots log picture seen leave leave' within h = record {
  logs = record {
    place = h.logs.place;
    stored = record {
      count = h.logs.stored.count;
      now = h.logs.stored.now;
      left = λ c i. h.logs.stored.left c (within c i);
    };
    now = h.logs.now;
    left = λ c i. h.logs.left c (within c i);
  };
  shown = h.shown;
  left = λ c i. h.left c (within c i);
}

-- whether it is what was held
pub told_same : (r : Reread) (same : Bool) (was was' now now' : Kept) → (r ≡ Same) ↔ (same ≡ true) → (same ≡ true) ↔ (was ≡ now) → was ≡ was' → now ≡ now'
    → (r ≡ Same) ↔ (now' ≡ was')
told_same r same was was' now now' first known old new =
    ((λ is. sym new ∙ sym (known.0 (first.0 is)) ∙ old), (λ is. first.1 (known.1 (old ∙ sym is ∙ sym new))))

same_fields : (k k' : Kept) → k.entries ≡ k'.entries → k.marks ≡ k'.marks → k.rows ≡ k'.rows → k.fresh ≡ k'.fresh → k ≡ k'
same_fields k k' entries marks rows fresh =
    ap (λ (es : List Entry). record { entries = es; marks = k.marks; rows = k.rows; fresh = k.fresh }) entries
    ∙ ap (λ (ms : List Mark). record { entries = k'.entries; marks = ms; rows = k.rows; fresh = k.fresh }) marks
    ∙ ap (λ (rs : List Row). record { entries = k'.entries; marks = k'.marks; rows = rs; fresh = k.fresh }) rows
    ∙ ap (λ (b : Bool). record { entries = k'.entries; marks = k'.marks; rows = k'.rows; fresh = b }) fresh

pub both_kept : (k k' : Kept) (rest : Bool) → (k.entries ≡ k'.entries) × (k.marks ≡ k'.marks)
    → (rest ≡ true) ↔ ((k.rows ≡ k'.rows) × (k.fresh ≡ k'.fresh)) → (rest ≡ true) ↔ (k ≡ k')
both_kept k k' rest tables known = (
  (λ yes. let r = known.0 yes in same_fields k k' tables.0 tables.1 r.0 r.1),
  (λ is. known.1 (ap (λ (x : Kept). x.rows) is, ap (λ (x : Kept). x.fresh) is)),
)

pub not_kept : (k k' : Kept) (tables : Bool) → (tables ≡ true) ↔ ((k.entries ≡ k'.entries) × (k.marks ≡ k'.marks)) → tables ≡ false
    → (tables ≡ true) ↔ (k ≡ k')
not_kept k k' tables known off = (
  (λ yes. let clash : true ≡ false = sym yes ∙ off in absurd (cc)),
  (λ is. known.1 (ap (λ (x : Kept). x.entries) is, ap (λ (x : Kept). x.marks) is)),
)
