-- What records leave of a store has a spelling.
use Rattle.std.proofs.Common.{ℕ, Bool, true, false, ◌&&◌, not, List, [], ◌∷◌, ◌++◌, fold, map, Option, None, Some, inl, inr, arith}
use Rattle.std.proofs.lemmas.Bool.{cases_Bool}
use Rattle.std.proofs.lemmas.List.Elements.{All-filter, All-head, All-nil, All-tail}
use Rattle.std.proofs.lemmas.Map.Views.{All-insert_key}
use Rattle.std.specs.List.{All}
use Rattle.std.specs.Option.{IfSome}
use Rattle.busy_marks.specs.Marks.{mark_cmp, same_mark}
use Rattle.client_rows.specs.declared.row.Row.{Row}
use Rattle.client_rows.specs.Rows.{greater, is_of, is_on, row_cmp, row_of, rows_after, with_row}
use Rattle.client_rows.proofs.Searches.{placed_all}
use Rattle.petal_base.specs.Origins.{Named}
use Rattle.record_fields.specs.Fields.{IsWord}
use Rattle.data_device.specs.Spelling.{HasSpelling, IsOrigin}
use Rattle.data_device.specs.Device.{AreSpelled}
use Rattle.data_device.specs.Kept.{Kept, formatted, kept_after, kept_of}
use Rattle.data_device.specs.Turned.{put_of, mark_of, done_of, settled_of, turned_of}
use Rattle.data_device.specs.declared.record.StoreRecord.{StoreRecord}
use Rattle.data_device.specs.declared.record.StoreRecord.TheVariants as kind
use Rattle.data_device.proofs.Held.{all_placed, all_without}
use Rattle.data_device.proofs.RecordLists.{spelled_append, spelled_map}

-- each entry, mark and row has one
record AllSpelled (kept : Kept) : Type 0 where
  pub entries : All (λ e. HasSpelling (put_of e)) kept.entries
  pub marks : All (λ m. HasSpelling (mark_of m)) kept.marks
  pub rows : All (λ r. HasSpelling (done_of r)) kept.rows

-- the number of a row that is found
found_word : (map link client : ℕ) (rows : List Row) → All (λ r. HasSpelling (done_of r)) rows → IfSome (row_of rows map link client) IsWord
found_word map link client [] all = tt
found_word map link client (r ∷ rows) all = elim (cases_Bool (is_of map link client r)) [
  | inl is ↦ let one = All-head (λ x. HasSpelling (done_of x)) r rows all in rw is one.1.1
  | inr is ↦ rw is (found_word map link client rows (All-tail (λ x. HasSpelling (done_of x)) r rows all))
]

greater_word : (there : Option ℕ) (seq : ℕ) → IfSome there IsWord → IsWord seq → IsWord (greater there seq)
greater_word None seq found word = word
greater_word (Some n) seq found word = omega (arith, found, word)

spelled_row : (rows : List Row) (map : ℕ) (o : Named) → IsWord map → IsOrigin o → All (λ r. HasSpelling (done_of r)) rows
    → All (λ r. HasSpelling (done_of r)) (with_row rows map o)
spelled_row rows map o word fits all =
    placed_all (λ r. HasSpelling (done_of r)) row_cmp rows (record {
      map = map;
      link = o.link;
      client = o.client;
      seq = greater (row_of rows map o.link o.client) o.seq;
    }) all
    (word, (fits.0, greater_word (row_of rows map o.link o.client) o.seq (found_word map o.link o.client rows all) fits.1, fits.2))

spelled_rows : (rows : List Row) (map : ℕ) (o : Option Named) → IsWord map → IfSome o IsOrigin → All (λ r. HasSpelling (done_of r)) rows
    → All (λ r. HasSpelling (done_of r)) (rows_after rows map o)
spelled_rows rows map None word fits all = all
spelled_rows rows map (Some o) word fits all = spelled_row rows map o word fits all

spelled_after : (kept : Kept) (r : StoreRecord) → HasSpelling r → AllSpelled kept → AllSpelled (kept_after kept r)
spelled_after kept (kind.Put key version slot origin) fits all = record {
  entries = all_placed (λ e. HasSpelling (put_of e)) kept.entries (record { key = key; slot = slot; version = version }) all.entries
      (fits.0, fits.1, fits.2, fits.3, fits.4, tt);
  marks = all.marks;
  rows = spelled_rows kept.rows key.map origin fits.0 fits.5 all.rows;
}
spelled_after kept (kind.Drop key) fits all =
    record { entries = all_without (λ e. HasSpelling (put_of e)) kept.entries key all.entries; marks = all.marks; rows = all.rows }
spelled_after kept (kind.Mark k cell) fits all = record {
  entries = all.entries;
  marks = All-insert_key mark_cmp (record { kind = k; cell = cell }) (λ m. HasSpelling (mark_of m)) kept.marks all.marks fits;
  rows = all.rows;
}
spelled_after kept (kind.Unmark k cell) fits all = record {
  entries = all.entries;
  marks = All-filter (λ m. not (same_mark m (record { kind = k; cell = cell }))) (λ m. HasSpelling (mark_of m)) kept.marks all.marks;
  rows = all.rows;
}
spelled_after kept kind.Settled fits all = record { entries = all.entries; marks = all.marks; rows = all.rows }
spelled_after kept (kind.Forget map link) fits all = record {
  entries = all.entries;
  marks = all.marks;
  rows = All-filter (λ row. not (is_on map link row)) (λ r. HasSpelling (done_of r)) kept.rows all.rows;
}
spelled_after kept (kind.Done map origin) fits all =
    record { entries = all.entries; marks = all.marks; rows = spelled_row kept.rows map origin fits.0 fits.1 all.rows }

spelled_all : (kept : Kept) (records : List StoreRecord) → AreSpelled records → AllSpelled kept → AllSpelled (fold kept_after kept records)
spelled_all kept [] fits all = all
spelled_all kept (r ∷ records) fits all = spelled_all (kept_after kept r) records fits.1 (spelled_after kept r fits.0 all)

settled_spelled : (settled : Bool) → AreSpelled (settled_of settled)
settled_spelled true = (tt, tt)
settled_spelled false = tt

-- what a turn writes in place of records that have a spelling has one
pub turned_spelled : (fresh : Bool) (records : List StoreRecord) → AreSpelled records → AreSpelled (turned_of fresh records)
turned_spelled fresh records fits =
    let kept = kept_of fresh records in
    let all : AllSpelled kept = spelled_all (formatted fresh) records fits (record {
      entries = All-nil (λ e. HasSpelling (put_of e));
      marks = All-nil (λ m. HasSpelling (mark_of m));
      rows = All-nil (λ r. HasSpelling (done_of r));
    }) in
    let P = map put_of kept.entries in
    let M = map mark_of kept.marks in
    let R = map done_of kept.rows in
    let S = settled_of (fresh && not kept.fresh) in
    spelled_append (P ++ M ++ R) S (spelled_append (P ++ M) R (spelled_append P M (spelled_map put_of kept.entries all.entries)
    (spelled_map mark_of kept.marks all.marks)) (spelled_map done_of kept.rows all.rows)) (settled_spelled (fresh && not kept.fresh))
