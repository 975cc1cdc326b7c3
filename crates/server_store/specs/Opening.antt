-- What a device is found to be.
use Rattle.std.specs.Prelude.{◌≡◌, ℕ, Bool, List, ⊤}
use Rattle.data_device.specs.declared.record.StoreRecord.{StoreRecord}
use Rattle.server_store.specs.declared.opened.Opened.{Opened}
use Rattle.server_store.specs.declared.opened.Opened.TheVariants.{Store, Blank}
use Rattle.data_device.specs.Kept.{Kept}
use Rattle.data_device.specs.declared.opening.Found.{Found}
use Rattle.server_store.specs.declared.reread.Reread.{Reread}
use Rattle.server_store.specs.declared.reread.Reread.TheVariants.{Same, Changed}
use Rattle.server_store.specs.declared.reread.Reread.TheVariants as reread
use Rattle.server_store.specs.Holdings.{Holdings}
use Rattle.server_store.specs.Shown.{Picture, picture_of, Holds}

-- what holds of a store that was found
abbrev pub IfStore : {D : Type 0} → Opened D → (Holdings D → Type 0) → Type 0
IfStore (Store store) P = P store
IfStore (Blank disk) P = ⊤

-- what holds of a device that was found blank
abbrev pub IfBlank : {D : Type 0} → Opened D → (D → Type 0) → Type 0
IfBlank (Store store) P = ⊤
IfBlank (Blank disk) P = P disk

-- it was found to be a store, of which this holds
abbrev pub IsStore : {D : Type 0} → Opened D → (Holdings D → Type 0) → Type 0
IsStore (Store store) P = P store
IsStore (Blank disk) P = ⊥

-- the store that its device showed
pub record Reopened (slots : ℕ) (fresh : Bool) (records : List StoreRecord) (picture : Picture) {D : Type 0} (store : Holdings D) (seen : List ℕ)
    (may_leave : List ℕ → Type 0) : Type 0 where
  pub slots_are : store.slots ≡ slots
  pub fresh_is : store.log.fresh ≡ fresh
  pub records_are : store.log.records ≡ records
  pub shown : picture_of store ≡ picture
  pub holds : Holds store seen may_leave

-- what of a store was found on a device
abbrev pub kept_found : Found → Kept
kept_found found = record { entries = found.ledger.entries; marks = found.marks.marks; rows = found.rows.rows; fresh = found.fresh }

-- the device stands for a store
abbrev pub IsReread : Reread → Type 0
IsReread Same = ⊤
IsReread Changed = ⊤
IsReread reread.Blank = ⊥
