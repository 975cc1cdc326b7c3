-- Calls that make room for records, and then commit them.
use Rattle.std.proofs.Common.{◌≡◌, ◌≢◌, ◌≤◌, ◌+◌, ℕ, Bool, List, [], fold, length, map, Vec, vec_len, Result, Ok, Err}
use Rattle.std.proofs.Common.{refl, sym, ◌∙◌, ap, subst, inl, inr, arith}
use Rattle.std.specs.Result.{IsErr, IsErrAnd, IsErrOf, OnErr, OnOk}
use Rattle.petal_disk.specs.Disk.{LeavesOnly}
use Rattle.petal_disk.specs.declared.disk.Disk.{Ghosts}
use Rattle.petal_disk.proofs.Moments.{started, weaker}
use Rattle.std.specs.declared.alloc.Global.{Global}
use Rattle.busy_marks.specs.Marks.{Marked}
use Rattle.busy_marks.specs.declared.marks.Mark.{Mark}
use Rattle.client_rows.specs.Rows.{Numbered}
use Rattle.petal_base.specs.Limits.{marks_limit, max_slots}
use Rattle.block_journal.specs.declared.half.TheConstants.{GROUP_BODIES, HALF_BODIES}
use Rattle.data_device.specs.Turned.{Turned, turned}
use Rattle.data_device.proofs.Turning.{few_turned}
use Rattle.client_rows.specs.declared.row.Row.{Row}
use Rattle.physical_map.specs.declared.entry.Entry.{Entry}
use Rattle.data_device.specs.Accounts.{Book}
use Rattle.data_device.specs.Device.{Log}
use Rattle.data_device.specs.Errors.{HasFault}
use Rattle.data_device.specs.Kept.{Kept, kept_after, kept_of}
use Rattle.data_device.specs.declared.error.StoreError.{StoreError}
use Rattle.data_device.specs.declared.error.StoreError.TheVariants.{Failed, MarksFull, NoMemory}
use Rattle.data_device.specs.declared.record.StoreRecord.{StoreRecord}
use Rattle.server_store.specs.Committing.{IsCommitOf}
use Rattle.server_store.specs.Holdings.{Holdings, IsKeptBy, held_in, kept_in}
use Rattle.server_store.specs.Shown.{Picture, BeforeOrAfter, HoldsAt, IsBefore, IsShown, Keeps, ShowsEither, picture_after_all, picture_of}
use Rattle.server_store.proofs.Changes.{listed_still, on_err}
use Rattle.server_store.proofs.Commits.{shown_left, shown_now}
use Rattle.server_store.proofs.Contents.{is_listed}

-- what holds of an error holds of the result that has it
pub of_error : {T E : Type 0} (P : Result T E → Type 0) (e : E) (result : Result T E) → IsErr result × IsErrAnd result (λ it. it ≡ e) → P (Err e) → P result
of_error P e (Ok value) is holds = let no = is.0 in absurd (cc)
of_error P e (Err it) is holds = subst (λ (x : _). P (Err x)) (sym is.1) holds

-- what holds anyway holds of a success
pub if_ok : {T E : Type 0} (result : Result T E) (A : Type 0) → A → OnOk result A
if_ok (Ok value) A a = a
if_ok (Err error) A a = tt

pub shown_as : (c : List ℕ) (n n' : ℕ) (f f' : Bool) (k k' : Kept) (p p' : Picture) → n ≡ n' → f ≡ f' → k ≡ k' → p ≡ p'
    → IsShown c n f k p → IsShown c n' f' k' p'
shown_as c n n' f f' k k' p p' slots fresh kept picture shown = rw (← slots, ← fresh, ← kept, ← picture) shown

-- a store by its fields
abbrev pub view_of : {D : Type 0} → Ghosts D → Book → List Mark → List Row → Bool → Log → D → Holdings D
view_of device ledger marks rows fresh log disk = record {
  entries = map (held_in (device.seen disk)) ledger.entries;
  tickets = ledger.tickets;
  marks = marks;
  rows = rows;
  slots = ledger.slots;
  fresh = fresh;
  log = log;
  disk = disk;
}

abbrev pub kept_as : Book → List Mark → List Row → Bool → Kept
kept_as ledger marks rows fresh = record { entries = ledger.entries; marks = marks; rows = rows; fresh = fresh }

-- what a device shows by a log it shows by one that gives the same
pub either_as : (c : List ℕ) (slots : ℕ) (log log' : Log) (picture : Picture) (entries : List StoreRecord) (content : List ℕ) → log'.fresh ≡ log.fresh
    → kept_of log'.fresh log'.records ≡ kept_of log.fresh log.records → ShowsEither c slots log' picture entries content
    → ShowsEither c slots log picture entries content
either_as c slots log log' picture entries content fresh kept (inl shown) = inl (shown_as c _ _ _ _ _ _ _ _ refl fresh kept refl shown)
either_as c slots log log' picture entries content fresh kept (inr shown) =
    inr (shown_as c _ _ _ _ _ _ _ _ refl fresh (ap (λ (k : Kept). fold kept_after k entries) kept) refl shown)

pub ok_fine : {T : Type 0} (value : T) → IsErrOf {T = T} {E = StoreError} (Ok value) Failed → ⊥
ok_fine value is = cc

pub full_fine : {T : Type 0} → IsErrOf {T = T} (Err MarksFull) Failed → ⊥
full_fine is = cc

pub memory_fine : {T : Type 0} → IsErrOf {T = T} (Err NoMemory) Failed → ⊥
memory_fine is = cc

-- ### Calls of a store

module _ {D : Type 0} (device : Ghosts D) (ledger : Book) (marks : List Mark) (rows : List Row) (fresh : Bool) (log : Log) (disk : D)
    (kept : kept_of log.fresh log.records ≡ kept_as ledger marks rows fresh) where
  abbrev store : Holdings D
  store = view_of device ledger marks rows fresh log disk

  kept_is : kept_of log.fresh log.records ≡ kept_in store
  kept_is = kept ∙ ap (λ (es : List Entry). record { entries = es; marks = marks; rows = rows; fresh = fresh }) (is_listed (device.seen disk) ledger.entries)

  before : (c : List ℕ) → IsShown c ledger.slots log.fresh (kept_of log.fresh log.records) (picture_of store) → IsBefore c store
  before c shown = shown_as c _ _ _ _ _ _ _ _ refl refl kept_is refl shown

  -- a call that commits nothing, but for a ticket that is handed back
  pub idle : {T : Type 0} (result : Result T StoreError) (tickets : List ℕ) (entries : List StoreRecord) (content : List ℕ)
      → ((c : List ℕ) → device.left_since disk (device.moment disk) c → device.may_leave disk c) → device.came_to disk disk
      → (IsErrOf result Failed → ⊥)
      → IsCommitOf device store (view_of device (record ledger { tickets = tickets }) marks rows fresh log disk) result entries content
  idle result tickets entries content only stays fine = record {
    fresh = refl;
    kept = on_err result _ refl;
    holds = λ observed h. if_ok result _ h;
    either = λ observed h. inl (before _ (shown_now ledger.slots log (picture_of store) _ _ h));
    any_moment = λ observed h.
        started device.moment device.left_since disk _ (λ c left. inl (before c (shown_left ledger.slots log (picture_of store) _ _ h c (only c left))));
    cause = record { later = omega arith; failed = λ is. absurd (fine is) };
    run = stays;
  }

  -- for want of memory
  pub starved : {T : Type 0} (result : Result T StoreError) (entries : List StoreRecord) (content : List ℕ)
      → IsErr result × IsErrAnd result (λ it. it ≡ NoMemory) → ((c : List ℕ) → device.left_since disk (device.moment disk) c → device.may_leave disk c)
      → device.came_to disk disk → IsCommitOf device store store result entries content
  starved result entries content is only stays =
      of_error (λ r. IsCommitOf device store store r entries content) NoMemory result is
      (idle (Err NoMemory) ledger.tickets entries content only stays memory_fine)

  module _ (entries : List StoreRecord) (content : List ℕ) (log' : Log) (disk' : D)
      (other : fold kept_after (kept_in store) entries ≢ kept_in store) (fresh_is : log'.fresh ≡ log.fresh)
      (either : device.observable → HoldsAt device store → ShowsEither (device.seen disk') ledger.slots log (picture_of store) entries content)
      (any_moment : device.observable → HoldsAt device store
      → LeavesOnly device.moment device.left_since disk disk' (λ c. ShowsEither c ledger.slots log (picture_of store) entries content))
      (run : device.came_to disk disk') where
    known : (c : List ℕ) → ShowsEither c ledger.slots log (picture_of store) entries content → BeforeOrAfter c store entries content
    known c (inl shown) = inl (before c shown)
    known c (inr shown) = inr (record {
      other = other;
      shown = shown_as c _ _ _ _ _ _ _ _ refl refl (ap (λ (k : Kept). fold kept_after k entries) kept_is) refl shown;
    })

    -- a commit that failed
    pub failed : {T : Type 0} (e : StoreError) (tickets : List ℕ) → HasFault {T = T} (device.faults disk) (device.faults disk') (Err e)
        → IsCommitOf {T = T} device store (view_of device (record ledger { tickets = tickets }) marks rows fresh log' disk') (Err e) entries content
    failed e tickets cause = record {
      fresh = fresh_is;
      kept = ap (λ (es : List Entry). record { entries = es; marks = marks; rows = rows; fresh = fresh })
          (listed_still (device.seen disk) (device.seen disk') ledger.entries);
      holds = λ observed h. tt;
      either = λ observed h. known _ (either observed h);
      any_moment = λ observed h. weaker device.moment device.left_since _ _ _ _ (any_moment observed h) known;
      cause = cause;
      run = run;
    }

    -- and whose error is handed on
    pub refused : {T : Type 0} (e : StoreError) (result : Result T StoreError) → IsErr result × IsErrAnd result (λ it. it ≡ e)
        → HasFault {T = T} (device.faults disk) (device.faults disk') (Err e)
        → IsCommitOf device store (view_of device ledger marks rows fresh log' disk') result entries content
    refused e result is cause =
        of_error (λ r. IsCommitOf device store (view_of device ledger marks rows fresh log' disk') r entries content) e result is
        (failed e ledger.tickets cause)

    -- a commit that was made, and then the change in memory
    pub done : {T : Type 0} (value : T) (ledger' : Book) (marks' : List Mark) (rows' : List Row) (fresh' : Bool)
        → HasFault {T = T} (device.faults disk) (device.faults disk') (Ok value) → ledger.slots ≡ ledger'.slots
        → (device.observable → picture_after_all (picture_of store) entries content ≡ picture_of (view_of device ledger' marks' rows' fresh' log' disk'))
        → (device.observable → HoldsAt device store
        → Keeps ledger.slots log' (picture_after_all (picture_of store) entries content) (device.seen disk') (device.may_leave disk'))
        → IsCommitOf {T = T} device store (view_of device ledger' marks' rows' fresh' log' disk') (Ok value) entries content
    done value ledger' marks' rows' fresh' cause slots shown keeps = record {
      fresh = fresh_is;
      kept = tt;
      holds = λ observed h. rw (← slots, ← shown observed) (keeps observed h);
      either = λ observed h. known _ (either observed h);
      any_moment = λ observed h. weaker device.moment device.left_since _ _ _ _ (any_moment observed h) known;
      cause = cause;
      run = run;
    }

-- ### What keeps the type's invariant

pub kept_anew : (ledger ledger' : Book) (marks marks' : Marked) (rows rows' : Numbered) (fresh fresh' : Bool) (log log' : Log) (buffer buffer' : Vec ℕ Global)
    (size size' : ℕ) → IsKeptBy ledger marks rows fresh log buffer size → ledger'.slots ≡ ledger.slots
    → kept_of log'.fresh log'.records ≡ kept_as ledger' marks'.marks rows'.rows fresh' → length marks'.marks + length rows'.rows ≤ marks_limit
    → length ledger'.tickets ≤ rows'.spare → size' ≡ size → vec_len buffer' ≡ vec_len buffer → IsKeptBy ledger' marks' rows' fresh' log' buffer' size'
kept_anew ledger ledger' marks marks' rows rows' fresh fresh' log log' buffer buffer' size size' was slots kept within room same_size same_buffer = record {
  fits = rw (slots, same_size) was.fits;
  few = rw slots was.few;
  kept = kept;
  within = within;
  room = room;
  buffer_is = same_buffer ∙ was.buffer_is;
}

-- a commit that failed
pub kept_still : (ledger : Book) (marks : Marked) (rows : Numbered) (fresh : Bool) (log log' : Log) (buffer buffer' : Vec ℕ Global) (size size' : ℕ)
    → IsKeptBy ledger marks rows fresh log buffer size → kept_of log'.fresh log'.records ≡ kept_of log.fresh log.records → size' ≡ size
    → vec_len buffer' ≡ vec_len buffer → IsKeptBy ledger marks rows fresh log' buffer' size'
kept_still ledger marks rows fresh log log' buffer buffer' size size' was kept same_size same_buffer =
    kept_anew ledger ledger marks marks rows rows fresh fresh log log' buffer buffer' size size' was refl
    (kept ∙ was.kept) was.within was.room same_size same_buffer

-- ### What a turn writes

-- there is room for it, and for a group of records
pub list_short : (slots : ℕ) (l was : Turned) → l ≡ was → length was.entries ≤ slots → slots ≤ max_slots → length was.marks + length was.rows ≤ marks_limit
    → length (turned l) + GROUP_BODIES ≤ HALF_BODIES
list_short slots l was is entries few within = rw is (let all = few_turned slots was entries few within in omega (arith, all))
