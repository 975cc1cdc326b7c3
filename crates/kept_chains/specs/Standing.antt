-- Bytes that stand for a store of the rules.
use Rattle.std.specs.Prelude.{◌≡◌, ◌≢◌, ◌⊎◌, ℕ, Bool, List}
use Rattle.busy_marks.specs.declared.marks.Mark.{Mark}
use Rattle.client_rows.specs.declared.row.Row.{Row}
use Rattle.petal_base.specs.declared.cell.Cell.{Cell}
use Rattle.petal_table.specs.Table.{Table}
use Rattle.spec_rules.specs.Store.{Chain, Store}
use Rattle.server_store.specs.Holdings.{Holdings, kept_in}
use Rattle.server_store.specs.Shown.{Picture, Shows}
use Rattle.data_device.specs.Kept.{Kept, kept_of}
use Rattle.data_device.specs.declared.record.StoreRecord.{StoreRecord}
use Rattle.kept_chains.specs.Kept.{chains_of, store_of}

-- these bytes stand for records that keep this, and what they show has the chains, the marks, the rows, and is still to be filled or not
pub record StandsIn (file : List ℕ) (slots : ℕ) (chains : Table Cell Chain) (marks : List Mark) (rows : List Row) (unfilled : Bool) (kept : Kept) : Type 0 where
  pub fresh : Bool
  pub records : List StoreRecord
  pub picture : Picture
  pub shows : Shows file slots fresh records picture
  pub keeps : kept_of fresh records ≡ kept
  pub chains_are : chains_of picture.entries ≡ chains
  pub marks_are : picture.marks ≡ marks
  pub rows_are : picture.rows ≡ rows
  pub fresh_is : picture.fresh ≡ unfilled

-- these bytes stand for the store, by records that keep this. Its tickets are in memory only: nothing is said of them
abbrev pub StandsAs : List ℕ → Kept → Store → Type 0
StandsAs file kept store = StandsIn file store.slots store.chains store.marks store.rows store.fresh kept

-- they stand for a store with these, by records that keep something other than this
pub record StandsOther (file : List ℕ) (slots : ℕ) (chains : Table Cell Chain) (marks : List Mark) (rows : List Row) (unfilled : Bool)
    (was : Kept) : Type 0 where
  pub kept : Kept
  pub other : kept ≢ was
  pub stands : StandsIn file slots chains marks rows unfilled kept

-- they stand for the store before a commit, or for the one after it, of which something other is kept, with as many slots
abbrev pub StandsAsEither : {D : Type 0} → Holdings D → Store → List ℕ → Type 0
StandsAsEither before after file =
    StandsAs file (kept_in before) (store_of before)
    ⊎ (StandsOther file after.slots after.chains after.marks after.rows after.fresh (kept_in before) × (after.slots ≡ before.slots))
