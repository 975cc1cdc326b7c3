-- Which of two stores a device shows that was opened again, and which records.
use Rattle.std.proofs.Common.{◌≡◌, ◌≢◌, ◌⊎◌, ◌↔◌, ◌&&◌, ◌==◌, inl, inr, ⊎_elim, ◌+◌, ℕ, Bool, true, false, List, [], length, refl, sym, ap, subst, ◌∙◌, arith}
use Rattle.std.proofs.lemmas.Bool.Decides.{nat_tests}
use Rattle.std.specs.Prelude.{if◌then◌else◌}
use Rattle.kept_chains.proofs.Commits.{kept_by, kept_shown, stands_left}
use Rattle.server_log.specs.Done as logs
use Rattle.pair_memory.specs.JobResult.{HoldsAt}
use Rattle.petal_disk.specs.declared.disk.Disk.{Ghosts}
use Rattle.spec_paxos.specs.declared.record.StateRecord.{StateRecord}
use Rattle.spec_rules.specs.Store.{Store}
use Rattle.spec_rules.specs.declared.step.CommitEnd.{CommitEnd}
use Rattle.spec_rules.specs.declared.step.CommitEnd.TheVariants.{Before, After}
use Rattle.kept_chains.specs.Kept.{chains_of, store_of}
use Rattle.kept_chains.specs.Standing.{StandsAs, StandsAsEither}
use Rattle.server_store.specs.Holdings.{Holdings, kept_in}
use Rattle.server_store.specs.Kept.{Kept, kept_of}
use Rattle.server_store.specs.Opening.{Reopened}
use Rattle.server_store.specs.Shown.{Picture, Shows as ShowsPicture}
use Rattle.state_store.specs.Device.{Keeping, StandsFor, StandsForEither}
use Rattle.data_device.specs.declared.record.StoreRecord.{StoreRecord}
use Rattle.memory_server.specs.Recovery.{CommitsOnce, IsReread, Shown, Shows, StoreStays, on_device, shown_in}

-- ### One device

-- a store that was opened again is one of the two, and the later one keeps something else
pub record StoreIs (kept was_kept : Kept) (was will store : Store) : Type 0 where
  pub is : ((store ≡ on_device was) × (kept ≡ was_kept)) ⊎ ((store ≡ on_device will) × (kept ≢ was_kept))

-- so with records, and the later ones are one more
pub record RecordsAre (was will records : List StateRecord) : Type 0 where
  pub are : (records ≡ was) ⊎ ((records ≡ will) × (length will ≡ length was + 1))

module _ {D : Type 0} (device : Ghosts D) (store : Holdings D) where
  -- what opening says, for each store that the bytes could stand for
  abbrev pub Opens : Type 0
  Opens = (slots : ℕ) (fresh : Bool) (recorded : List StoreRecord) (picture : Picture) → ShowsPicture (device.seen store.disk) slots fresh recorded picture
      → Reopened slots fresh recorded picture store (device.seen store.disk) (device.may_leave store.disk)

  stands_is : (stood : Store) (kept : Kept) → Opens → store.tickets ≡ [] → StandsAs (device.seen store.disk) kept stood
      → (store_of store ≡ on_device stood) × (kept_in store ≡ kept)
  stands_is stood kept opens none stands =
      let again = opens stood.slots stands.fresh stands.records stands.picture stands.shows in (
        (λ i. record {
          slots = again.slots_are i;
          chains = (ap (λ (p : Picture). chains_of p.entries) again.shown ∙ stands.chains_are) i;
          tickets = length (none i);
          marks = (ap (λ (p : Picture). p.marks) again.shown ∙ stands.marks_are) i;
          rows = (ap (λ (p : Picture). p.rows) again.shown ∙ stands.rows_are) i;
          fresh = (ap (λ (p : Picture). p.fresh) again.shown ∙ stands.fresh_is) i;
        }),
        ap kept_shown again.shown
            ∙ sym (kept_by (device.seen store.disk) (kept_of stands.fresh stands.records) stands.picture stands.shows.shown) ∙ stands.keeps,
      )

  stands_holds : (stood : Store) (kept : Kept) → Opens → StandsAs (device.seen store.disk) kept stood → HoldsAt device store
  stands_holds stood kept opens stands =
      let again = opens stood.slots stands.fresh stands.records stands.picture stands.shows in again.holds

  pub store_is : (was : Holdings D) (will : Store) → Opens → store.tickets ≡ [] → StandsAsEither was will (device.seen store.disk)
      → StoreIs (kept_in store) (kept_in was) (store_of was) will (store_of store)
  store_is was will opens none (inl stands) = record { is = inl (stands_is (store_of was) (kept_in was) opens none stands) }
  store_is was will opens none (inr stands) =
      let found = stands_is will stands.0.kept opens none stands.0.stands in
      record { is = inr (found.0, (λ same. stands.0.other (sym found.1 ∙ same))) }

  pub store_holds : (was : Holdings D) (will : Store) → Opens → StandsAsEither was will (device.seen store.disk) → HoldsAt device store
  store_holds was will opens (inl stands) = stands_holds (store_of was) (kept_in was) opens stands
  store_holds was will opens (inr stands) = stands_holds will stands.0.kept opens stands.0.stands

  -- it is as it was, where it was that after any crash
  pub store_stays : (was : Holdings D) → Opens → store.tickets ≡ [] → StandsAs (device.seen store.disk) (kept_in was) (store_of was)
      → (store_of store ≡ on_device (store_of was)) × (kept_in store ≡ kept_in was)
  store_stays was opens none stands = stands_is (store_of was) (kept_in was) opens none stands

module _ {D : Type 0} (device : Ghosts D) (state : Keeping D) where
  pub records_are : (was will : List StateRecord) → ((records : List StateRecord) → StandsFor (device.seen state.disk) records → state.records ≡ records)
      → StandsForEither was will (device.seen state.disk) → RecordsAre was will state.records
  records_are was will opens (inl stands) = record { are = inl (opens was stands) }
  records_are was will opens (inr stands) = record { are = inr (opens will stands.0, stands.1) }

  pub records_hold : (was will : List StateRecord)
      → ((records : List StateRecord) → StandsFor (device.seen state.disk) records → logs.HoldsAt device state)
      → StandsForEither was will (device.seen state.disk) → logs.HoldsAt device state
  records_hold was will opens (inl stands) = opens was stands
  records_hold was will opens (inr stands) = opens will stands.0

-- ### Both

-- the records stay, or the store does
abbrev pub StaysOnce : (kept was_kept : Kept) → (was will : Shown) → Store → Type 0
StaysOnce kept was_kept was will store =
    (will.records ≡ was.records) ⊎ ((on_device will.store ≡ on_device was.store) × (store ≡ on_device was.store) × (kept ≡ was_kept))

module _ (kept was_kept : Kept) (was will : Shown) (store : Store) (records : List StateRecord) where
  -- what was kept, and as many records as before: nothing was committed
  is_before : StoreIs kept was_kept was.store will.store store → RecordsAre was.records will.records records
      → kept ≡ was_kept → length records ≡ length was.records → Shows Before was will store records
  is_before stored recorded same_kept same_records = elim (stored.is) [
    | inl is ↦ elim (recorded.are) [
      | inl are ↦ record { store_is = is.0; records_are = are }
      | inr are ↦ let more = are.1 in let same = ap (λ (rs : List StateRecord). length rs) are.0 in absurd (omega (arith, more, same, same_records))
    ]
    | inr is ↦ absurd (is.1 same_kept)
  ]

  -- something else of one of them: that was committed, and the other device shows what it showed
  is_after : StaysOnce kept was_kept was will store → StoreIs kept was_kept was.store will.store store → RecordsAre was.records will.records records
      → ((kept ≡ was_kept) × (length records ≡ length was.records) → ⊥) → Shows After was will store records
  is_after once stored recorded other = elim (once) [
    | inl same ↦ elim (stored.is) [
      | inl is ↦ absurd (other (is.1, ap (λ (rs : List StateRecord). length rs) (recorded_as same recorded)))
      | inr is ↦ record { store_is = is.0; records_are = recorded_as same recorded ∙ sym same }
    ]
    | inr same ↦ elim (recorded.are) [
      | inl are ↦ absurd (other (same.2, ap (λ (rs : List StateRecord). length rs) are))
      | inr are ↦ record { store_is = same.1 ∙ sym same.0; records_are = are.0 }
    ]
  ]
    where
      recorded_as : will.records ≡ was.records → RecordsAre was.records will.records records → records ≡ was.records
      recorded_as same recorded = ⊎_elim (λ are. are) (λ are. are.0 ∙ same) recorded.are

  -- so it is told by whether both are as before
  pub ended : (end : CommitEnd) (same_store same_records : Bool) → end ≡ (if same_store && same_records then Before else After)
      → (same_store ≡ true) ↔ (kept ≡ was_kept) → (same_records ≡ true) ↔ (length records ≡ length was.records)
      → StaysOnce kept was_kept was will store → StoreIs kept was_kept was.store will.store store → RecordsAre was.records will.records records
      → Shows end was will store records
  ended end true true is by_store by_records once stored recorded =
      rw is (is_before stored recorded (by_store.0 refl) (by_records.0 refl))
  ended end true false is by_store by_records once stored recorded =
      rw is (is_after once stored recorded (λ same. let no = by_records.1 same.1 in absurd (cc)))
  ended end false same_records is by_store by_records once stored recorded =
      rw is (is_after once stored recorded (λ same. let no = by_store.1 same.0 in absurd (cc)))

-- whether what is kept is what was kept, by a store that kept as much
pub told_as : (same : Bool) (now old was : Kept) → (same ≡ true) ↔ (now ≡ old) → old ≡ was → (same ≡ true) ↔ (now ≡ was)
told_as same now old was told is = ((λ yes. told.0 yes ∙ is), (λ alike. told.1 (alike ∙ sym is)))

-- whether there are as many records as before
pub alike : (count before now was : ℕ) → count ≡ now → before ≡ was → ((count == before) ≡ true) ↔ (now ≡ was)
alike count before now was is counted =
    ((λ yes. let same : count ≡ before = grind (arith, nat_tests) in sym is ∙ same ∙ counted), (λ same. grind (arith, nat_tests)))

-- ### No commit was under way

module _ {D : Type 0} (device : Ghosts D) (before after : Holdings D) (was now : Keeping D) where
  -- both stores are what they were, whichever end is told
  pub reread : (end : CommitEnd) → Shows end (shown_in before was.records) (shown_in before was.records) (store_of after) now.records → after.tickets ≡ []
      → HoldsAt device after → logs.HoldsAt device now → IsReread device before after was now
  reread Before shows out holds kept =
      record { store_is = shows.store_is; tickets = out; records_are = shows.records_are; holds = holds; state_holds = kept }
  reread After shows out holds kept =
      record { store_is = shows.store_is; tickets = out; records_are = shows.records_are; holds = holds; state_holds = kept }

-- a device that shows the store, and was not called since, shows it after any crash
pub stays_of : {D : Type 0} (device : Ghosts D) (disk : D) (was : Holdings D) (will : Store) → disk ≡ was.disk → HoldsAt device was
    → on_device will ≡ on_device (store_of was) → StoreStays device disk was will
stays_of {D = D} device disk was will same holds alike =
    record { same = alike; left = λ c left. stands_left device was holds c (subst (λ (d : D). device.may_leave d c) same left) }

-- the records stay, or the store does, as they are found
pub once_found : {D : Type 0} (device : Ghosts D) (disk : D) (store : Holdings D) (was : Holdings D) (records : List StateRecord) (will : Shown)
    → Opens device store → store.tickets ≡ [] → device.may_leave disk (device.seen store.disk) → CommitsOnce device disk was records will
    → StaysOnce (kept_in store) (kept_in was) (shown_in was records) will (store_of store)
once_found device disk store was records will opens none left (inl same) = inl same
once_found device disk store was records will opens none left (inr stays) =
    let found = store_stays device store was opens none (stays.left _ left) in inr (stays.same, found.0, found.1)
