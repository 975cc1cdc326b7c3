-- What records leave of a store stands in its order.
use Rattle.std.proofs.Common.{◌≡◌, ◌≤◌, ◌+◌, ℕ, Bool, true, not, List, [], ◌∷◌, length, fold, Option, None, Some, refl, arith}
use Rattle.std.proofs.lemmas.Cmp.{nat_cmp_total, on_total, then_total}
use Rattle.std.proofs.lemmas.List.Kept.{IsStrictlySortedBy-filter}
use Rattle.std.specs.Cmp.{IsTotalOrder}
use Rattle.std.specs.List.Sorted.{IsStrictlySortedBy}
use Rattle.std.specs.Ordering.{match_ordering}
use Rattle.std.specs.declared.cmp.Ordering.{Ordering}
use Rattle.std.specs.declared.cmp.Ordering.TheVariants.{Less, Equal, Greater}
use Rattle.sorted_list.specs.Lists.{placed}
use Rattle.sorted_list.proofs.Orders.{none_sorted, placed_sorted}
use Rattle.busy_marks.specs.Marks.{mark_cmp, same_mark}
use Rattle.client_rows.specs.declared.row.Row.{Row}
use Rattle.client_rows.specs.Rows.{greater, is_on, row_cmp, row_of, rows_after, with_row}
use Rattle.petal_base.specs.Origins.{Named}
use Rattle.physical_map.specs.Entries.{key_of}
use Rattle.physical_map.specs.Keys.{IsInOrder}
use Rattle.physical_map.proofs.Orders.{ordered-placed}
use Rattle.physical_map.proofs.Places.{ordered-without}
use Rattle.data_device.specs.Kept.{Kept, formatted, kept_after, kept_of}
use Rattle.data_device.specs.declared.record.StoreRecord.{StoreRecord}
use Rattle.data_device.specs.declared.record.StoreRecord.TheVariants as kind
use Rattle.data_device.proofs.MarkOrder.{sorted_with}

-- entries, marks and rows stand in their order
pub record AreInOrder (kept : Kept) : Type 0 where
  pub entries : IsInOrder key_of kept.entries
  pub marks : IsStrictlySortedBy mark_cmp kept.marks
  pub rows : IsStrictlySortedBy row_cmp kept.rows

row_total : IsTotalOrder row_cmp
row_total =
    then_total (then_total (on_total (λ (r : Row). r.map) nat_cmp_total) (on_total (λ (r : Row). r.link) nat_cmp_total))
    (on_total (λ (r : Row). r.client) nat_cmp_total)

sorted_row : (rows : List Row) (map : ℕ) (origin : Named) → IsStrictlySortedBy row_cmp rows → IsStrictlySortedBy row_cmp (with_row rows map origin)
sorted_row rows map origin sorted =
    placed_sorted row_cmp (record {
      map = map;
      link = origin.link;
      client = origin.client;
      seq = greater (row_of rows map origin.link origin.client) origin.seq;
    }) row_total rows sorted

sorted_rows : (rows : List Row) (map : ℕ) (origin : Option Named) → IsStrictlySortedBy row_cmp rows → IsStrictlySortedBy row_cmp (rows_after rows map origin)
sorted_rows rows map None sorted = sorted
sorted_rows rows map (Some origin) sorted = sorted_row rows map origin sorted

pub order_after : (kept : Kept) (r : StoreRecord) → AreInOrder kept → AreInOrder (kept_after kept r)
order_after kept (kind.Put key version slot origin) order = record {
  entries = ordered-placed key_of kept.entries (record { key = key; slot = slot; version = version }) order.entries;
  marks = order.marks;
  rows = sorted_rows kept.rows key.map origin order.rows;
}
order_after kept (kind.Drop key) order =
    record { entries = ordered-without kept.entries key order.entries; marks = order.marks; rows = order.rows }
order_after kept (kind.Mark k cell) order =
    record { entries = order.entries; marks = sorted_with (record { kind = k; cell = cell }) kept.marks order.marks; rows = order.rows }
order_after kept (kind.Unmark k cell) order = record {
  entries = order.entries;
  marks = IsStrictlySortedBy-filter mark_cmp (λ m. not (same_mark m (record { kind = k; cell = cell }))) kept.marks order.marks;
  rows = order.rows;
}
order_after kept kind.Settled order = record { entries = order.entries; marks = order.marks; rows = order.rows }
order_after kept (kind.Forget map link) order = record {
  entries = order.entries;
  marks = order.marks;
  rows = IsStrictlySortedBy-filter row_cmp (λ row. not (is_on map link row)) kept.rows order.rows;
}
order_after kept (kind.Done map origin) order =
    record { entries = order.entries; marks = order.marks; rows = sorted_row kept.rows map origin order.rows }

order_all : (kept : Kept) (records : List StoreRecord) → AreInOrder kept → AreInOrder (fold kept_after kept records)
order_all kept [] order = order
order_all kept (r ∷ records) order = order_all (kept_after kept r) records (order_after kept r order)

pub none_in_order : (fresh : Bool) → AreInOrder (formatted fresh)
none_in_order fresh = record { entries = tt; marks = none_sorted mark_cmp [] refl; rows = none_sorted row_cmp [] refl }

pub in_order : (fresh : Bool) (records : List StoreRecord) → AreInOrder (kept_of fresh records)
in_order fresh records = order_all (formatted fresh) records (none_in_order fresh)

fresh_after : (kept : Kept) (r : StoreRecord) → (kept_after kept r).fresh ≡ true → kept.fresh ≡ true
fresh_after kept kind.Settled still = absurd (cc)
fresh_after kept (kind.Put key version slot origin) still = still
fresh_after kept (kind.Drop key) still = still
fresh_after kept (kind.Mark k cell) still = still
fresh_after kept (kind.Unmark k cell) still = still
fresh_after kept (kind.Forget map link) still = still
fresh_after kept (kind.Done map origin) still = still

fresh_all : (kept : Kept) (records : List StoreRecord) → (fold kept_after kept records).fresh ≡ true → kept.fresh ≡ true
fresh_all kept [] still = still
fresh_all kept (r ∷ records) still = fresh_after kept r (fresh_all (kept_after kept r) records still)

-- a store that is still to be filled again was formatted so
pub fresh_back : (fresh : Bool) (records : List StoreRecord) → (kept_of fresh records).fresh ≡ true → fresh ≡ true
fresh_back fresh records still = fresh_all (formatted fresh) records still

length_placed : (R : Row → Row → Ordering) (x : Row) (xs : List Row) → length (placed R xs x) ≤ length xs + 1
length_placed R x [] = omega arith
length_placed R x (y ∷ ys) =
    elim (R x y) as (λ o. length (match_ordering o (x ∷ y ∷ ys) (x ∷ ys) (y ∷ placed R ys x)) ≤ length (y ∷ ys) + 1) [
      | Less ↦ omega arith
      | Equal ↦ omega arith
      | Greater ↦ omega (arith, length_placed R x ys)
    ]

-- one row more, or none
pub length_row : (rows : List Row) (map : ℕ) (origin : Named) → length (with_row rows map origin) ≤ length rows + 1
length_row rows map origin = length_placed row_cmp _ rows
