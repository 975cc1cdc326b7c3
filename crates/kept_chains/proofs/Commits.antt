-- What a crash within a commit leaves, as the stores of the rules.
use Rattle.std.proofs.Common.{◌≡◌, ◌≢◌, inl, inr, ℕ, ◌+◌, ◌||◌, Bool, true, false, not, List, [], ◌∷◌, map, fold, length, Option, is_some, Result, Ok, Err}
use Rattle.std.proofs.Common.{refl, sym, subst, ap, ◌∙◌, arith}
use Rattle.std.proofs.lemmas.Bool.{cases_Bool}
use Rattle.std.specs.Prelude.{if◌then◌else◌, IfErr, IsErrOf, OnOk}
use Rattle.std.specs.BTreeSet.{insert_key}
use Rattle.std.specs.Ordering.{is_eq, match_ordering}
use Rattle.std.specs.declared.cmp.Ordering.TheVariants.{Less, Equal, Greater}
use Rattle.busy_marks.specs.Marks.{has_mark, mark_cmp, same_mark, with_mark}
use Rattle.busy_marks.proofs.Orders.{ties}
use Rattle.busy_marks.specs.declared.marks.Mark.{Mark}
use Rattle.busy_marks.specs.declared.marks.MarkKind.{MarkKind}
use Rattle.petal_base.specs.declared.cell.Cell.{Cell}
use Rattle.petal_base.specs.declared.cell.Key.{Key}
use Rattle.petal_base.specs.Origins.{Named}
use Rattle.petal_disk.specs.Disk.{LeavesOnly}
use Rattle.petal_disk.specs.declared.disk.Disk.{Ghosts}
use Rattle.petal_disk.proofs.Moments.{started, weaker}
use Rattle.spec_rules.specs.Store.{Store, mark_on, settled, unmark_all_on, with_mark_on, with_put, without_entry}
use Rattle.spec_rules.specs.Store.{without_mark_on}
use Rattle.physical_map.specs.Entries.{slot_of}
use Rattle.physical_map.specs.Keys.{IsInOrder}
use Rattle.physical_map.specs.declared.entry.Entry.{Entry}
use Rattle.server_store.specs.Committing.{unmarks_of}
use Rattle.server_store.specs.Errors.{IsMarkError}
use Rattle.server_store.specs.Holdings.{Holdings, held_in, kept_in, key_held, listed}
use Rattle.server_store.specs.Shown.{BeforeOrAfter, HoldsAt, IsBefore, Picture, picture_after_all, picture_in, picture_of}
use Rattle.server_store.specs.StoreError.{StoreError}
use Rattle.server_store.specs.StoreError.TheVariants.{Failed, MarksFull, NoMemory}
use Rattle.server_store.proofs.Commits.{shown_left}
use Rattle.server_store.proofs.Contents.{is_listed}
use Rattle.server_store.proofs.Needed.{unmarks_shown}
use Rattle.server_store.proofs.Steps.{shown_as}
use Rattle.data_device.specs.Kept.{Kept, kept_after, kept_of}
use Rattle.data_device.specs.declared.record.StoreRecord.{StoreRecord}
use Rattle.data_device.specs.declared.record.StoreRecord.TheVariants as kind
use Rattle.kept_chains.specs.Kept.{chains_of, store_of}
use Rattle.kept_chains.specs.Standing.{StandsAs, StandsAsEither}
use Rattle.kept_chains.proofs.Drops.{chains_dropped}
use Rattle.kept_chains.proofs.Kept.{placed_is}

-- ### Refusals

-- what follows for a call that was done
pub when_ok : {T E : Type 0} (result : Result T E) (A B : Type 0) → (A → B) → OnOk result A → OnOk result B
when_ok (Ok value) A B f a = f a
when_ok (Err e) A B f a = tt

-- a call that is refused for its device alone
fails : {T : Type 0} (result : Result T StoreError) (e : StoreError) → IfErr result (λ it. it ≡ Failed) → IsErrOf result e → e ≡ Failed
fails (Ok value) e failed is = absurd (cc)
fails (Err it) e failed is = let same : it ≡ e = cc in sym same ∙ failed

pub not_memory : {T : Type 0} (result : Result T StoreError) → IfErr result (λ it. it ≡ Failed) → IsErrOf result NoMemory → ⊥
not_memory result failed is = let same = fails result NoMemory failed is in cc

pub not_full : {T : Type 0} (result : Result T StoreError) → IfErr result (λ it. it ≡ Failed) → IsErrOf result MarksFull → ⊥
not_full result failed is = let same = fails result MarksFull failed is in cc

pub mark_errors : {T : Type 0} (result : Result T StoreError) → IfErr result (λ it. it ≡ Failed) → IfErr result IsMarkError
mark_errors (Ok value) failed = tt
mark_errors (Err e) failed = subst IsMarkError (sym failed) tt

pub not_set : (b : Bool) → not b ≡ true → b ≡ false
not_set true is = absurd (cc)
not_set false is = refl

-- a mark that was not set is one more
pub marked_more : (m : Mark) (ms : List Mark) → has_mark m ms ≡ false → length (with_mark ms m) ≡ length ms + 1
marked_more m [] none = refl
marked_more m (x ∷ ms) none =
    elim (mark_cmp m x) as (λ o. mark_cmp m x ≡ o → length (match_ordering o (m ∷ x ∷ ms) (x ∷ ms) (x ∷ insert_key mark_cmp ms m)) ≡ length (x ∷ ms) + 1) [
      | Less ↦ λ _. omega arith
      | Equal ↦ λ same.
          let here : same_mark x m ≡ true = sym (ties m x) ∙ ap is_eq same in
          let clash : true ≡ false = sym (ap (λ b. b || has_mark m ms) here) ∙ none in absurd (cc)
      | Greater ↦ λ more.
          let other : same_mark x m ≡ false = sym (ties m x) ∙ ap is_eq more in
          let rest = marked_more m ms (sym (ap (λ b. b || has_mark m ms) other) ∙ none) in omega (arith, rest)
    ] refl

-- ### What is shown

-- what shows a store of the device stands for the rules' store that it is
pub stands_before : {D : Type 0} (file : List ℕ) (before : Holdings D) → IsBefore file before → StandsAs file (kept_in before) (store_of before)
stands_before file before shown = record {
  fresh = before.log.fresh;
  records = shown.records;
  picture = picture_of before;
  shows = shown.shows;
  keeps = shown.keeps;
  chains_are = refl;
  marks_are = refl;
  rows_are = refl;
  fresh_is = refl;
}

-- what is kept of a picture
abbrev pub kept_shown : Picture → Kept
kept_shown picture = record { entries = listed picture.entries; marks = picture.marks; rows = picture.rows; fresh = picture.fresh }

pub kept_by : (file : List ℕ) (kept : Kept) (picture : Picture) → picture_in file kept ≡ picture → kept ≡ kept_shown picture
kept_by file kept picture shown =
    ap (λ (es : List Entry). record { entries = es; marks = kept.marks; rows = kept.rows; fresh = kept.fresh }) (is_listed file kept.entries)
    ∙ ap kept_shown shown

-- a device that shows the store shows it after any crash
pub stands_left : {D : Type 0} (device : Ghosts D) (store : Holdings D) → HoldsAt device store → (c : List ℕ) → device.may_leave store.disk c
    → StandsAs c (kept_in store) (store_of store)
stands_left device store holds c left =
    stands_before c store (shown_as c _ _ _ _ _ _ _ _ refl refl
    (kept_by (device.seen store.disk) (kept_of store.log.fresh store.log.records) (picture_of store) holds.shown) refl
    (shown_left store.slots store.log (picture_of store) _ _ holds c left))

-- the store of the rules that has what a picture shows
record IsPictured (picture : Picture) (rule : Store) : Type 0 where
  chains_are : chains_of picture.entries ≡ rule.chains
  marks_are : picture.marks ≡ rule.marks
  rows_are : picture.rows ≡ rule.rows
  fresh_is : picture.fresh ≡ rule.fresh

module _ {D : Type 0} (file : List ℕ) (before : Holdings D) where
  stands_either : (entries : List StoreRecord) (content : List ℕ) (rule : Store) → IsPictured (picture_after_all (picture_of before) entries content) rule
      → rule.slots ≡ before.slots → BeforeOrAfter file before entries content → StandsAsEither before rule file
  stands_either entries content rule is slots (inl shown) = inl (stands_before file before shown)
  stands_either entries content rule is slots (inr shown) = inr (
    record {
      kept = fold kept_after (kept_in before) entries;
      other = shown.other;
      stands = rw slots (record {
        fresh = before.log.fresh;
        records = shown.shown.records;
        picture = picture_after_all (picture_of before) entries content;
        shows = shown.shown.shows;
        keeps = shown.shown.keeps;
        chains_are = is.chains_are;
        marks_are = is.marks_are;
        rows_are = is.rows_are;
        fresh_is = is.fresh_is;
      });
    },
    slots,
  )

  -- nothing is committed
  stands_still : (content : List ℕ) (rule : Store) → BeforeOrAfter file before [] content → StandsAsEither before rule file
  stands_still content rule (inl shown) = inl (stands_before file before shown)
  stands_still content rule (inr shown) = absurd (shown.other refl)

  -- a mark is set, where it was not there
  mark_after : (k : MarkKind) (cell : Cell)
      → BeforeOrAfter file before (if not (has_mark (mark_on k cell) before.marks) then kind.Mark k cell ∷ [] else []) []
      → StandsAsEither before (with_mark_on (store_of before) k cell) file
  mark_after k cell either =
      let rule = with_mark_on (store_of before) k cell in
      elim (cases_Bool (has_mark (mark_on k cell) before.marks)) [
        | inl has ↦ stands_still [] rule (rw has at either)
        | inr has ↦ stands_either (kind.Mark k cell ∷ []) [] rule
            (record { chains_are = refl; marks_are = refl; rows_are = refl; fresh_is = refl }) refl (rw has at either)
      ]

  -- a mark is taken away, where it was there
  unmark_after : (k : MarkKind) (cell : Cell)
      → BeforeOrAfter file before (if has_mark (mark_on k cell) before.marks then kind.Unmark k cell ∷ [] else []) []
      → StandsAsEither before (without_mark_on (store_of before) k cell) file
  unmark_after k cell either =
      let rule = without_mark_on (store_of before) k cell in
      elim (cases_Bool (has_mark (mark_on k cell) before.marks)) [
        | inl has ↦ stands_either (kind.Unmark k cell ∷ []) [] rule
            (record { chains_are = refl; marks_are = refl; rows_are = refl; fresh_is = refl }) refl (rw has at either)
        | inr has ↦ stands_still [] rule (rw has at either)
      ]

  -- marks are taken away together, those that were there
  unmarks_after : (k : MarkKind) (cells : List Cell) → BeforeOrAfter file before (unmarks_of k cells before.marks) []
      → StandsAsEither before (unmark_all_on (store_of before) k cells) file
  unmarks_after k cells =
      let all = unmarks_shown k before.marks before.entries before.marks before.rows before.fresh cells (λ m there. there) in
      stands_either (unmarks_of k cells before.marks) [] (unmark_all_on (store_of before) k cells) (record {
        chains_are = ap (λ (p : Picture). chains_of p.entries) all;
        marks_are = ap (λ (p : Picture). p.marks) all;
        rows_are = ap (λ (p : Picture). p.rows) all;
        fresh_is = ap (λ (p : Picture). p.fresh) all;
      }) refl

  -- a store that waited does so no more
  settled_after : BeforeOrAfter file before (if before.fresh then kind.Settled ∷ [] else []) [] → StandsAsEither before (settled (store_of before)) file
  settled_after either =
      let rule = settled (store_of before) in
      elim (cases_Bool before.fresh) [
        | inl waits ↦ stands_either (kind.Settled ∷ []) [] rule
            (record { chains_are = refl; marks_are = refl; rows_are = refl; fresh_is = refl }) refl (needed true waits either)
        | inr none ↦ stands_still [] rule (needed false none either)
      ]
    where
      needed : (b : Bool) → before.fresh ≡ b → BeforeOrAfter file before (if before.fresh then kind.Settled ∷ [] else []) []
          → BeforeOrAfter file before (if b then kind.Settled ∷ [] else []) []
      needed b is = subst (λ (it : Bool). BeforeOrAfter file before (if it then kind.Settled ∷ [] else []) []) is

  -- an entry is put
  put_after : (key : Key) (version slot : ℕ) (origin : Option Named) (bytes : List ℕ)
      → BeforeOrAfter file before (kind.Put key version slot origin ∷ []) bytes
      → StandsAsEither before (with_put (store_of before) key (record { version = version; bytes = bytes }) origin) file
  put_after key version slot origin bytes =
      stands_either (kind.Put key version slot origin ∷ []) bytes
      (with_put (store_of before) key (record { version = version; bytes = bytes }) origin) (record {
        chains_are = placed_is before.entries (record { entry = record { key = key; slot = slot; version = version }; content = bytes });
        marks_are = refl;
        rows_are = refl;
        fresh_is = refl;
      }) refl

  -- an entry is dropped that was there
  drop_after : (key : Key) → IsInOrder key_held before.entries → is_some (slot_of (listed before.entries) key) ≡ true
      → BeforeOrAfter file before (if is_some (slot_of (listed before.entries) key) then kind.Drop key ∷ [] else []) []
      → StandsAsEither before (without_entry (store_of before) key) file
  drop_after key order there either =
      stands_either (kind.Drop key ∷ []) [] (without_entry (store_of before) key) (record {
        chains_are = chains_dropped before.entries key order;
        marks_are = refl;
        rows_are = refl;
        fresh_is = refl;
      }) refl (rw there at either)

module _ {D : Type 0} (device : Ghosts D) (before after : Holdings D) where
  -- a crash at any moment leaves what has P
  abbrev Leaves : (List ℕ → Type 0) → Type 0
  Leaves P = LeavesOnly device.moment device.left_since before.disk after.disk P

  -- what a crash within the put of an entry leaves
  pub put_moments : (key : Key) (version slot : ℕ) (origin : Option Named) (bytes : List ℕ)
      → Leaves (λ c. BeforeOrAfter c before (kind.Put key version slot origin ∷ []) bytes)
      → Leaves (StandsAsEither before (with_put (store_of before) key (record { version = version; bytes = bytes }) origin))
  put_moments key version slot origin bytes run =
      weaker device.moment device.left_since before.disk after.disk _ _ run (λ c. put_after c before key version slot origin bytes)

  -- what a crash within the drop of an entry leaves
  pub drop_moments : (key : Key) → IsInOrder key_held before.entries → is_some (slot_of (listed before.entries) key) ≡ true
      → Leaves (λ c. BeforeOrAfter c before (if is_some (slot_of (listed before.entries) key) then kind.Drop key ∷ [] else []) [])
      → Leaves (StandsAsEither before (without_entry (store_of before) key))
  drop_moments key order there run =
      weaker device.moment device.left_since before.disk after.disk _ _ run (λ c. drop_after c before key order there)

  -- what a crash within the commit of a mark leaves
  pub mark_moments : (k : MarkKind) (cell : Cell)
      → Leaves (λ c. BeforeOrAfter c before (if not (has_mark (mark_on k cell) before.marks) then kind.Mark k cell ∷ [] else []) [])
      → Leaves (StandsAsEither before (with_mark_on (store_of before) k cell))
  mark_moments k cell run = weaker device.moment device.left_since before.disk after.disk _ _ run (λ c. mark_after c before k cell)

  -- so within one that takes a mark away
  pub unmark_moments : (k : MarkKind) (cell : Cell)
      → Leaves (λ c. BeforeOrAfter c before (if has_mark (mark_on k cell) before.marks then kind.Unmark k cell ∷ [] else []) [])
      → Leaves (StandsAsEither before (without_mark_on (store_of before) k cell))
  unmark_moments k cell run = weaker device.moment device.left_since before.disk after.disk _ _ run (λ c. unmark_after c before k cell)

  -- so within one that takes marks away together
  pub unmarks_moments : (k : MarkKind) (cells : List Cell) → Leaves (λ c. BeforeOrAfter c before (unmarks_of k cells before.marks) [])
      → Leaves (StandsAsEither before (unmark_all_on (store_of before) k cells))
  unmarks_moments k cells run = weaker device.moment device.left_since before.disk after.disk _ _ run (λ c. unmarks_after c before k cells)

  -- so within one by which the store waits no more
  pub settle_moments : Leaves (λ c. BeforeOrAfter c before (if before.fresh then kind.Settled ∷ [] else []) [])
      → Leaves (StandsAsEither before (settled (store_of before)))
  settle_moments run = weaker device.moment device.left_since before.disk after.disk _ _ run (λ c. settled_after c before)

-- where no call of the device was made, a crash leaves the store as it is
pub still_moments : {D : Type 0} (device : Ghosts D) → ((d : D) (c : List ℕ) → device.left_since d (device.moment d) c → device.may_leave d c)
    → (before after : Holdings D) (rule : Store) → after.disk ≡ before.disk → HoldsAt device before
    → LeavesOnly device.moment device.left_since before.disk after.disk (StandsAsEither before rule)
still_moments {D = D} device only_now before after rule same holds =
    subst (λ (d : D). LeavesOnly device.moment device.left_since before.disk d (StandsAsEither before rule)) (sym same)
    (started device.moment device.left_since before.disk (StandsAsEither before rule)
    (λ c left. inl (stands_left device before holds c (only_now before.disk c left))))
