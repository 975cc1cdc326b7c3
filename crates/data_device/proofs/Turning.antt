-- What a turn writes gives what the records gave before it, and fits the device.
use Rattle.std.proofs.Common.{◌≡◌, ◌≢◌, ◌≤◌, ◌<◌, ◌+◌, ℕ, Bool, true, false, ◌&&◌, not, ◌==◌}
use Rattle.std.proofs.Common.{List, [], ◌∷◌, ◌++◌, length, fold, map, refl, sym, ◌∙◌, ap, subst, arith}
use Rattle.std.proofs.lemmas.Bool.Decides.{nat_tests}
use Rattle.std.proofs.lemmas.List.{length-append, length-map}
use Rattle.std.proofs.lemmas.List.Elements.{All-head, All-tail}
use Rattle.std.proofs.lemmas.List.Sums.{fold-append}
use Rattle.std.specs.List.{All}
use Rattle.busy_marks.specs.declared.marks.Mark.{Mark}
use Rattle.busy_marks.specs.Marks.{with_mark}
use Rattle.busy_marks.proofs.Searches.{marks_refilled}
use Rattle.client_rows.specs.declared.row.Row.{Row}
use Rattle.client_rows.specs.Rows.{with_row}
use Rattle.client_rows.proofs.Searches.{origin_of, rows_refilled}
use Rattle.petal_base.specs.Limits.{marks_limit, max_slots}
use Rattle.physical_map.specs.declared.entry.Entry.{Entry}
use Rattle.physical_map.specs.Entries.{key_of}
use Rattle.physical_map.specs.Keys.{placed, IsInOrder}
use Rattle.physical_map.proofs.Orders.{ordered-placed}
use Rattle.physical_map.proofs.Refills.{refilled}
use Rattle.data_device.specs.Accounts.{as_count, holders}
use Rattle.data_device.specs.Kept.{Kept, AllFit, IsWithin, formatted, kept_after, kept_of}
use Rattle.data_device.specs.Turned.{Turned, put_of, mark_of, done_of, settled_of, turned, list_of, turned_of}
use Rattle.data_device.specs.declared.record.StoreRecord.{StoreRecord}
use Rattle.data_device.proofs.Held.{AreApart, apart_of, within_of}
use Rattle.data_device.proofs.Ledgers.{holder, holders-placed}
use Rattle.data_device.proofs.RecordLists.{fit_append}
use Rattle.data_device.proofs.MarkOrder.{length_with}
use Rattle.data_device.proofs.Ordered.{AreInOrder, fresh_back, in_order, length_row}

-- ### What each part gives

after_puts : (kept : Kept) (es : List Entry)
    → fold kept_after kept (map put_of es) ≡ record kept { entries = fold (placed key_of) kept.entries es }
after_puts kept [] = refl
after_puts kept (e ∷ es) = after_puts (kept_after kept (put_of e)) es

after_marks : (kept : Kept) (ms : List Mark)
    → fold kept_after kept (map mark_of ms) ≡ record kept { marks = fold with_mark kept.marks ms }
after_marks kept [] = refl
after_marks kept (m ∷ ms) = after_marks (kept_after kept (mark_of m)) ms

after_rows : (kept : Kept) (rows : List Row)
    → fold kept_after kept (map done_of rows) ≡ record kept { rows = fold (λ there row. with_row there row.map (origin_of row)) kept.rows rows }
after_rows kept [] = refl
after_rows kept (r ∷ rows) = after_rows (kept_after kept (done_of r)) rows

abbrev kept_as : List Entry → List Mark → List Row → Bool → Kept
kept_as es ms rows fresh = record { entries = es; marks = ms; rows = rows; fresh = fresh }

settled_back : (es : List Entry) (ms : List Mark) (rows : List Row) (was fresh : Bool) → (was ≡ true → fresh ≡ true)
    → fold kept_after (kept_as es ms rows fresh) (settled_of (fresh && not was)) ≡ kept_as es ms rows was
settled_back es ms rows true true still = refl
settled_back es ms rows true false still = absurd (let clash = still refl in cc)
settled_back es ms rows false true still = refl
settled_back es ms rows false false still = refl

-- ### The parts together

module _ (fresh : Bool) (es : List Entry) (ms : List Mark) (rows : List Row) (order : AreInOrder (kept_as es ms rows fresh)) where
  abbrev puts : List StoreRecord
  puts = map put_of es

  abbrev marks : List StoreRecord
  marks = map mark_of ms

  abbrev dones : List StoreRecord
  dones = map done_of rows

  behind_puts : fold kept_after (formatted fresh) puts ≡ kept_as es [] [] fresh
  behind_puts = after_puts (formatted fresh) es ∙ ap (λ (l : List Entry). kept_as l [] [] fresh) (refilled key_of [] es order.entries)

  behind_marks : fold kept_after (formatted fresh) (puts ++ marks) ≡ kept_as es ms [] fresh
  behind_marks =
      fold-append kept_after (formatted fresh) puts marks
      ∙ ap (λ (k : Kept). fold kept_after k marks) behind_puts
      ∙ after_marks (kept_as es [] [] fresh) ms
      ∙ ap (λ (l : List Mark). kept_as es l [] fresh) (marks_refilled [] ms order.marks)

  behind_dones : fold kept_after (formatted fresh) (puts ++ marks ++ dones) ≡ kept_as es ms rows fresh
  behind_dones =
      fold-append kept_after (formatted fresh) (puts ++ marks) dones
      ∙ ap (λ (k : Kept). fold kept_after k dones) behind_marks
      ∙ after_rows (kept_as es ms [] fresh) rows
      ∙ ap (λ (l : List Row). kept_as es ms l fresh) (rows_refilled [] rows order.rows)

  keeps : (was : Bool) → (was ≡ true → fresh ≡ true) → kept_of fresh (turned (list_of fresh (kept_as es ms rows was))) ≡ kept_as es ms rows was
  keeps was still =
      fold-append kept_after (formatted fresh) (puts ++ marks ++ dones) (settled_of (fresh && not was))
      ∙ ap (λ (k : Kept). fold kept_after k (settled_of (fresh && not was))) behind_dones
      ∙ settled_back es ms rows was fresh still

-- what a turn writes gives what is kept
pub kept_turned : (fresh : Bool) (kept : Kept) → AreInOrder kept → (kept.fresh ≡ true → fresh ≡ true)
    → kept_of fresh (turned (list_of fresh kept)) ≡ kept
kept_turned fresh kept order still =
    keeps fresh kept.entries kept.marks kept.rows (record { entries = order.entries; marks = order.marks; rows = order.rows }) kept.fresh still

pub turned_keeps : (fresh : Bool) (records : List StoreRecord) → kept_of fresh (turned_of fresh records) ≡ kept_of fresh records
turned_keeps fresh records = kept_turned fresh (kept_of fresh records) (in_order fresh records) (fresh_back fresh records)

-- ### It fits

fit_puts : (slots : ℕ) (kept : Kept) (es : List Entry) → IsInOrder key_of kept.entries
    → ((slot : ℕ) → holders slot kept.entries + holders slot es ≤ 1) → All (λ e. e.slot < slots) es → IsWithin kept → AllFit slots kept (map put_of es)
fit_puts slots kept [] order once below within = tt
fit_puts slots kept (e ∷ es) order once below within =
    let apart : All (λ x. x.slot ≢ e.slot) kept.entries = λ k d lt is.
    let here : 0 < holders e.slot kept.entries = rw is at (holder kept.entries k d lt) in
    let own : as_count (e.slot == e.slot) ≡ 1 = grind (arith, nat_tests) in
    let most = once e.slot in
    omega (arith, here, own, most) in (
      ((All-head (λ x. x.slot < slots) e es below, apart), within),
      fit_puts slots (kept_after kept (put_of e)) es (ordered-placed key_of kept.entries e order)
          (λ s. let all = holders-placed s kept.entries e order in let most = once s in omega (arith, all, most))
          (All-tail (λ x. x.slot < slots) e es below) within,
    )

fit_marks : (slots : ℕ) (kept : Kept) (ms : List Mark) → length kept.marks + length ms + length kept.rows ≤ marks_limit → AllFit slots kept (map mark_of ms)
fit_marks slots kept [] few = tt
fit_marks slots kept (m ∷ ms) few =
    let more = length_with m kept.marks in ((tt, omega (arith, few, more)), fit_marks slots (kept_after kept (mark_of m)) ms (omega (arith, few, more)))

fit_rows : (slots : ℕ) (kept : Kept) (rows : List Row) → length kept.marks + length kept.rows + length rows ≤ marks_limit → AllFit slots kept (map done_of rows)
fit_rows slots kept [] few = tt
fit_rows slots kept (r ∷ rows) few =
    let more = length_row kept.rows r.map (origin_of r) in
    ((tt, omega (arith, few, more)), fit_rows slots (kept_after kept (done_of r)) rows (omega (arith, few, more)))

fit_settled : (slots : ℕ) (kept : Kept) (settled : Bool) → IsWithin kept → AllFit slots kept (settled_of settled)
fit_settled slots kept true within = ((tt, within), tt)
fit_settled slots kept false within = tt

module _ (slots : ℕ) (fresh : Bool) (es : List Entry) (ms : List Mark) (rows : List Row) (order : AreInOrder (kept_as es ms rows fresh)) where
  fits : (settled : Bool) → AreApart slots es → IsWithin (kept_as es ms rows fresh)
      → AllFit slots (formatted fresh) (map put_of es ++ map mark_of ms ++ map done_of rows ++ settled_of settled)
  fits settled apart within =
      let start = formatted fresh in
      let P = map put_of es in
      let M = map mark_of ms in
      let R = map done_of rows in
      let first : AllFit slots start P = fit_puts slots start es tt (λ s. let once = apart.once s in omega (arith, once)) apart.below (omega arith) in
      let second : AllFit slots (fold kept_after start P) M =
      subst (λ (k : Kept). AllFit slots k M) (sym (behind_puts fresh es ms rows order)) (fit_marks slots (kept_as es [] [] fresh) ms (omega (arith, within))) in
      let third : AllFit slots (fold kept_after start (P ++ M)) R =
      subst (λ (k : Kept). AllFit slots k R) (sym (behind_marks fresh es ms rows order))
      (fit_rows slots (kept_as es ms [] fresh) rows (omega (arith, within))) in
      let last : AllFit slots (fold kept_after start (P ++ M ++ R)) (settled_of settled) =
      subst (λ (k : Kept). AllFit slots k (settled_of settled)) (sym (behind_dones fresh es ms rows order))
      (fit_settled slots (kept_as es ms rows fresh) settled within) in
      fit_append slots start (P ++ M ++ R) (settled_of settled) (fit_append slots start (P ++ M) R (fit_append slots start P M first second) third) last

pub turned_fits : (slots : ℕ) (fresh : Bool) (records : List StoreRecord) → AllFit slots (formatted fresh) records
    → AllFit slots (formatted fresh) (turned_of fresh records)
turned_fits slots fresh records fit =
    let kept = kept_of fresh records in
    let order = in_order fresh records in
    fits slots fresh kept.entries kept.marks kept.rows (record { entries = order.entries; marks = order.marks; rows = order.rows })
    (fresh && not kept.fresh) (apart_of slots fresh records fit) (within_of slots fresh records fit)

-- ### There is room for it

settled_one : (settled : Bool) → length (settled_of settled) ≤ 1
settled_one true = omega arith
settled_one false = omega arith

-- a half has room for what a store keeps
pub few_turned : (slots : ℕ) (l : Turned) → length l.entries ≤ slots → slots ≤ max_slots → length l.marks + length l.rows ≤ marks_limit
    → length (turned l) ≤ 29697
few_turned slots l entries few within =
    let P = map put_of l.entries in
    let M = map mark_of l.marks in
    let R = map done_of l.rows in
    let S = settled_of l.settled in
    let whole = length-append (P ++ M ++ R) S in
    let front = length-append (P ++ M) R in
    let head = length-append P M in
    let p = length-map l.entries put_of in
    let m = length-map l.marks mark_of in
    let r = length-map l.rows done_of in
    let s = settled_one l.settled in
    omega (arith, whole, front, head, p, m, r, s, entries, few, within)
