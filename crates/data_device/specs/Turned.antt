-- What a turn writes: all that the store keeps, as records.
use Rattle.std.specs.Prelude.{Bool, true, false, ◌&&◌, not, List, [], ◌∷◌, ◌++◌, map, None}
use Rattle.busy_marks.specs.declared.marks.Mark.{Mark}
use Rattle.client_rows.specs.declared.row.Row.{Row}
use Rattle.physical_map.specs.declared.entry.Entry.{Entry}
use Rattle.data_device.specs.declared.record.StoreRecord.{StoreRecord}
use Rattle.data_device.specs.declared.record.StoreRecord.TheVariants as kind
use Rattle.data_device.specs.Kept.{Kept, kept_of}

-- the entries, the marks, the rows, and whether the store was formatted to be filled again and has been
pub record Turned : Type 0 where
  pub entries : List Entry
  pub marks : List Mark
  pub rows : List Row
  pub settled : Bool

abbrev pub put_of : Entry → StoreRecord
put_of e = kind.Put e.key e.version e.slot None

abbrev pub mark_of : Mark → StoreRecord
mark_of m = kind.Mark m.kind m.cell

abbrev pub done_of : Row → StoreRecord
done_of row = kind.Done row.map (record { link = row.link; client = row.client; seq = row.seq })

abbrev pub settled_of : Bool → List StoreRecord
settled_of true = kind.Settled ∷ []
settled_of false = []

abbrev pub turned : Turned → List StoreRecord
turned l = map put_of l.entries ++ map mark_of l.marks ++ map done_of l.rows ++ settled_of l.settled

-- of what is kept since the store was formatted so
abbrev pub list_of : Bool → Kept → Turned
list_of fresh kept = record { entries = kept.entries; marks = kept.marks; rows = kept.rows; settled = fresh && not kept.fresh }

-- the records that a turn leaves of these
abbrev pub turned_of : Bool → List StoreRecord → List StoreRecord
turned_of fresh records = turned (list_of fresh (kept_of fresh records))
