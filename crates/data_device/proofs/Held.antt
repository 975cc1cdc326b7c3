-- What records leave of a store that all fit: entries with slots of their own, and no more marks and rows than may be.
use Rattle.std.proofs.Common.{◌≡◌, ◌≢◌, ◌≤◌, ◌<◌, ◌==◌, ℕ, Bool, List, [], ◌∷◌, fold, subst, ap, inl, inr, arith}
use Rattle.std.proofs.lemmas.Bool.{cases_Bool}
use Rattle.std.proofs.lemmas.Bool.Decides.{nat_tests}
use Rattle.std.proofs.lemmas.List.Elements.{All-cons, All-head, All-nil, All-tail}
use Rattle.std.specs.List.{All}
use Rattle.petal_base.specs.declared.cell.Key.{Key}
use Rattle.physical_map.specs.declared.entry.Entry.{Entry}
use Rattle.physical_map.specs.Entries.{key_of, without_key}
use Rattle.physical_map.specs.Keys.{key_below, same_key, placed, IsInOrder}
use Rattle.data_device.specs.Accounts.{as_count, holders}
use Rattle.data_device.specs.Kept.{Kept, Fits, AllFit, IsWithin, formatted, kept_after, kept_of}
use Rattle.data_device.specs.declared.record.StoreRecord.{StoreRecord}
use Rattle.data_device.specs.declared.record.StoreRecord.TheVariants as kind
use Rattle.data_device.proofs.Ledgers.{holders-placed, holders-without_key, no-holder}
use Rattle.data_device.proofs.Ordered.{AreInOrder, none_in_order, order_after}

-- no two entries have a slot, and each is one of the device
pub record AreApart (slots : ℕ) (entries : List Entry) : Type 0 where
  pub once : (slot : ℕ) → holders slot entries ≤ 1
  pub below : All (λ e. e.slot < slots) entries

pub all_placed : (P : Entry → Type 0) (es : List Entry) (e : Entry) → All P es → P e → All P (placed key_of es e)
all_placed P [] e all here = All-cons P e [] here (All-nil P)
all_placed P (x ∷ xs) e all here =
    let rest = All-tail P x xs all in
    elim (cases_Bool (key_below x.key e.key)) [
      | inl before ↦ rw before (All-cons P x (placed key_of xs e) (All-head P x xs all) (all_placed P xs e rest here))
      | inr before ↦ elim (cases_Bool (same_key x.key e.key)) [
        | inl same ↦ rw (before, same) (All-cons P e xs here rest)
        | inr same ↦ rw (before, same) (All-cons P e (x ∷ xs) here all)
      ]
    ]

pub all_without : (P : Entry → Type 0) (es : List Entry) (key : Key) → All P es → All P (without_key es key)
all_without P [] key all = all
all_without P (x ∷ xs) key all =
    let rest = All-tail P x xs all in
    elim (cases_Bool (same_key x.key key)) [
      | inl same ↦ rw same rest
      | inr same ↦ rw same (All-cons P x (without_key xs key) (All-head P x xs all) (all_without P xs key rest))
    ]

placed_once : (es : List Entry) (e : Entry) (slot : ℕ) → IsInOrder key_of es → All (λ x. x.slot ≢ e.slot) es → holders slot es ≤ 1
    → holders slot (placed key_of es e) ≤ 1
placed_once es e slot order apart once =
    let all = holders-placed slot es e order in
    elim (cases_Bool (e.slot == slot)) [
      | inl is ↦
          let same : e.slot ≡ slot = grind (arith, nat_tests, is) in
          let none : holders slot es ≡ 0 = no-holder es slot (subst (λ (n : ℕ). All (λ x. x.slot ≢ n) es) same apart) in
          let own : as_count (e.slot == slot) ≡ 1 = ap as_count is in
          omega (arith, all, none, own)
      | inr is ↦ let own : as_count (e.slot == slot) ≡ 0 = ap as_count is in omega (arith, all, once, own)
    ]

apart_after : (slots : ℕ) (kept : Kept) (r : StoreRecord) → IsInOrder key_of kept.entries → Fits slots kept r → AreApart slots kept.entries
    → AreApart slots (kept_after kept r).entries
apart_after slots kept (kind.Put key version slot origin) order fits apart =
    let e : Entry = record { key = key; slot = slot; version = version } in
    record {
      once = λ s. placed_once kept.entries e s order fits.0.1 (apart.once s);
      below = all_placed (λ x. x.slot < slots) kept.entries e apart.below fits.0.0;
    }
apart_after slots kept (kind.Drop key) order fits apart = record {
  once = λ s. let all = holders-without_key s kept.entries key in let once = apart.once s in omega (arith, all, once);
  below = all_without (λ x. x.slot < slots) kept.entries key apart.below;
}
apart_after slots kept (kind.Mark k cell) order fits apart = apart
apart_after slots kept (kind.Unmark k cell) order fits apart = apart
apart_after slots kept kind.Settled order fits apart = apart
apart_after slots kept (kind.Forget map link) order fits apart = apart
apart_after slots kept (kind.Done map origin) order fits apart = apart

apart_all : (slots : ℕ) (kept : Kept) (records : List StoreRecord) → AreInOrder kept → AllFit slots kept records → AreApart slots kept.entries
    → AreApart slots (fold kept_after kept records).entries
apart_all slots kept [] order fit apart = apart
apart_all slots kept (r ∷ records) order fit apart =
    apart_all slots (kept_after kept r) records (order_after kept r order) fit.1 (apart_after slots kept r order.entries fit.0 apart)

within_all : (slots : ℕ) (kept : Kept) (records : List StoreRecord) → AllFit slots kept records → IsWithin kept → IsWithin (fold kept_after kept records)
within_all slots kept [] fit within = within
within_all slots kept (r ∷ records) fit within = within_all slots (kept_after kept r) records fit.1 fit.0.1

pub apart_of : (slots : ℕ) (fresh : Bool) (records : List StoreRecord) → AllFit slots (formatted fresh) records
    → AreApart slots (kept_of fresh records).entries
apart_of slots fresh records fit =
    apart_all slots (formatted fresh) records (none_in_order fresh) fit (record { once = λ s. omega arith; below = All-nil (λ e. e.slot < slots) })

-- marks and rows are no more than there may be where all records fit
pub within_of : (slots : ℕ) (fresh : Bool) (records : List StoreRecord) → AllFit slots (formatted fresh) records → IsWithin (kept_of fresh records)
within_of slots fresh records fit = within_all slots (formatted fresh) records fit (omega arith)
