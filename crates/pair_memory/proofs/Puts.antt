-- A put into a slot that is set apart and used at once.
use Rattle.std.proofs.Common.{◌≡◌, ◌==◌, ◌&&◌, ◌+◌, ℕ, ◌++◌, ◌∷◌, [], List, length, true, false, not, Bool, Option, Some, None, ◌↔◌, Result, Ok, Err, refl}
use Rattle.std.proofs.Common.{subst, ap, ◌∙◌, arith}
use Rattle.std.proofs.lemmas.Bool.Decides.{nat_tests}
use Rattle.std.specs.Prelude.{IfErr, IsErrOf, OnOk, OnErr, Contains}
use Rattle.client_rows.proofs.Searches.{row_more}
use Rattle.client_rows.specs.declared.row.Row.{Row}
use Rattle.client_rows.specs.Rows.{greater, row_of, rows_after}
use Rattle.petal_base.specs.Limits.{marks_limit}
use Rattle.petal_base.specs.Origins.{Named}
use Rattle.petal_base.specs.declared.cell.Key.{Key}
use Rattle.petal_disk.specs.Disk.{LeavesOnly}
use Rattle.petal_disk.specs.declared.disk.Disk.{Ghosts}
use Rattle.physical_map.specs.Keys.{placed}
use Rattle.spec_rules.specs.Store.{Store, Stored, marked_by, with_entry, with_put}
use Rattle.kept_chains.specs.Errors.{HasFault, IsPutError}
use Rattle.kept_chains.specs.Holdings.{Holdings, adds_row, adds_to, kept_in, key_held, marked_in}
use Rattle.kept_chains.specs.Shown.{Holds}
use Rattle.kept_chains.specs.Tickets as lists
use Rattle.kept_chains.proofs.ServerStoreCommits.{on_ok}
use Rattle.kept_chains.proofs.Commits.{mark_errors, not_full, not_memory, not_set, still_moments}
use Rattle.kept_chains.specs.StoreError.{StoreError}
use Rattle.kept_chains.specs.StoreError.TheVariants.{Failed, NoSpace, MarksFull, BadRecord, NoMemory}
use Rattle.kept_chains.specs.Kept.{store_of}
use Rattle.kept_chains.specs.Marking.{IsChange}
use Rattle.kept_chains.specs.Standing.{StandsAsEither}
use Rattle.pair_memory.specs.Slots.{with_new}
use Rattle.pair_memory.proofs.Tickets.{kept_is, spent_is, undone}

pub err_is : {T : Type 0} (a b : StoreError) → IsErrOf {T = T} (Err a) b → a ≡ b
err_is a b is = cc

no_row_added : (n : ℕ) (adds : Bool) → not ((n == marks_limit) && adds) ≡ true → n ≡ marks_limit → adds ≡ true → ⊥
no_row_added n adds room at new = grind (arith, nat_tests, room, at, new)

-- a put that has room for its row fails only where its device does
pub put_fails : {T : Type 0} (n : ℕ) (adds : Bool) (e : StoreError) → not ((n == marks_limit) && adds) ≡ true → IsPutError e
    → IsErrOf {T = T} (Err e) MarksFull ↔ (n ≡ marks_limit) × (adds ≡ true) → e ≡ Failed
put_fails n adds Failed room is full = refl
put_fails n adds NoSpace room is full = absurd is
put_fails n adds MarksFull room is full = let at = full.0 refl in absurd (no_row_added n adds room at.0 at.1)
put_fails n adds (BadRecord index) room is full = absurd is
put_fails n adds NoMemory room is full = absurd is

-- a put for no write adds no row
pub none_added : (n : ℕ) → not ((n == marks_limit) && false) ≡ true
none_added n = grind (arith, nat_tests)

at_limit : (n : ℕ) (adds : Bool) → not ((n == marks_limit) && adds) ≡ false → (n ≡ marks_limit) × (adds ≡ true)
at_limit n adds none = (grind (arith, nat_tests, none), grind (arith, nat_tests, none))

-- a write that has no row adds one
row_added : (rows : List Row) (map : ℕ) (origin : Option Named) → adds_to rows map origin ≡ true → length (rows_after rows map origin) ≡ length rows + 1
row_added rows map None new = absurd (cc)
row_added rows map (Some o) new =
    row_more (record { map = map; link = o.link; client = o.client; seq = greater (row_of rows map o.link o.client) o.seq }) rows (not_set _ new)

-- of a put that has no room for its row, the rule has one more than there may be
pub row_over : {D : Type 0} (store : Holdings D) (key : Key) (entry : Stored) (origin : Option Named)
    → not ((marked_in store == marks_limit) && adds_row store key.map origin) ≡ false
    → (marked_in store ≡ marks_limit) × (marked_by (with_put (store_of store) key entry origin) ≡ marks_limit + 1)
row_over store key entry origin none =
    let at = at_limit (marked_in store) (adds_row store key.map origin) none in
    let one = row_added store.rows key.map origin at.1 in
    let full = at.0 in
    (full, omega (arith, one, full))

-- nothing was put, and no call of the device was made
module _ {D T : Type 0} (device : Ghosts D) (stays : (d : D) → device.came_to d d)
    (only_now : (d : D) (c : List ℕ) → device.left_since d (device.moment d) c → device.may_leave d c)
    (before after : Holdings D) (same : after ≡ before) (rule : Store) where
  pub none_free : (done : T) → store_of before ≡ rule → IsChange device before after (Ok done) rule
  none_free done is = rw same (record {
    done = λ _. is;
    holds = λ _ holds. holds;
    moments = λ _. still_moments device only_now before before rule refl;
    tickets = refl;
    kept = tt;
    stays = tt;
    errors = tt;
    memory = λ no. absurd (cc);
    full = λ no. absurd (cc);
    cause = record { later = omega arith; failed = λ no. absurd (cc) };
    run = stays before.disk;
  })

  pub no_memory : IsChange {T = T} device before after (Err NoMemory) rule
  no_memory = rw same (record {
    done = tt;
    holds = λ _ _. tt;
    moments = λ _. still_moments device only_now before before rule refl;
    tickets = refl;
    kept = λ _. refl;
    stays = refl;
    errors = tt;
    memory = λ _. refl;
    full = λ no. absurd (cc);
    cause = record { later = omega arith; failed = λ no. absurd (cc) };
    run = stays before.disk;
  })

-- what the store says of a put with a ticket, for no write
pub record IsPut {D T : Type 0} (device : Ghosts D) (mid after : Holdings D) (result : Result T StoreError) (slot : ℕ) (key : Key) (version : ℕ)
    (bytes : List ℕ) : Type 0 where
  pub out : Contains mid.tickets slot
  pub content : OnOk result (device.observable
      → after.entries ≡ placed key_held mid.entries (record { entry = record { key = key; slot = slot; version = version }; content = bytes }))
  pub rows : OnOk result (after.rows ≡ mid.rows)
  pub rest : after ≡ record mid {
    entries = after.entries;
    rows = after.rows;
    tickets = lists.without mid.tickets slot;
    log = after.log;
    disk = after.disk;
  }
  pub kept : OnErr result (device.observable → after.entries ≡ mid.entries)
  pub stays : OnErr result (kept_in after ≡ kept_in mid)
  pub errors : IfErr result (λ e. e ≡ Failed)
  pub holds : device.observable → Holds mid (device.seen mid.disk) (device.may_leave mid.disk)
      → OnOk result (Holds after (device.seen after.disk) (device.may_leave after.disk))
  pub moments : device.observable → Holds mid (device.seen mid.disk) (device.may_leave mid.disk)
      → LeavesOnly device.moment device.left_since mid.disk after.disk
      (StandsAsEither mid (with_entry (store_of mid) key (record { version = version; bytes = bytes })))
  pub cause : HasFault (device.faults mid.disk) (device.faults after.disk) result
  pub run : device.came_to mid.disk after.disk

module _ {D T : Type 0} (device : Ghosts D) (before mid after : Holdings D) (slot : ℕ) (key : Key) (version : ℕ) (bytes : List ℕ) (result : Result T StoreError)
    (is : mid ≡ record before { tickets = before.tickets ++ slot ∷ [] }) (other : ¬ Contains before.tickets slot)
    (put : IsPut device mid after result slot key version bytes) where
  at_slot : IsPut device (record before { tickets = before.tickets ++ slot ∷ [] }) after result slot key version bytes
  at_slot = subst (λ (m : Holdings D). IsPut device m after result slot key version bytes) is put

  back : record before { tickets = lists.without (before.tickets ++ slot ∷ []) slot } ≡ before
  back = undone before (record before { tickets = before.tickets ++ slot ∷ [] }) slot slot refl refl other

  pub put_new_is : (room : Bool) → room ≡ true
      → IsChange device before after result (with_new (store_of before) key (record { version = version; bytes = bytes }) room)
  put_new_is room has = rw has (record {
    done = on_ok result _ _ _
        (λ content rows observed.
        spent_is (record before { tickets = before.tickets ++ slot ∷ [] }) after key version slot None bytes at_slot.out (content observed) rows at_slot.rest
        ∙ ap (λ (s : Store). with_entry s key (record { version = version; bytes = bytes }))
        (kept_is before (record before { tickets = before.tickets ++ slot ∷ [] }) slot refl))
        at_slot.content at_slot.rows;
    holds = at_slot.holds;
    moments = at_slot.moments;
    tickets = ap (λ (s : Holdings D). s.tickets) at_slot.rest ∙ ap (λ (s : Holdings D). s.tickets) back;
    kept = at_slot.kept;
    stays = at_slot.stays;
    errors = mark_errors result at_slot.errors;
    memory = λ no. absurd (not_memory result at_slot.errors no);
    full = λ no. absurd (not_full result at_slot.errors no);
    cause = at_slot.cause;
    run = at_slot.run;
  })
