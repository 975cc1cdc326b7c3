-- Where an entry is placed or found.
use Rattle.std.proofs.Common.{◌≡◌, ℕ, suc, ◌+◌, ◌<◌, true, false, List, [], ◌∷◌, length, set, get_or, Option, None, Some, refl, sym, ◌∙◌, ap, arith, inl, inr}
use Rattle.std.proofs.lemmas.Bool.{cases_Bool}
use Rattle.std.proofs.lemmas.Bool.Decides.{nat_tests}
use Rattle.std.specs.Option.{IsSome}
use Rattle.std.specs.List.{insert, remove, prefix_len}
use Rattle.petal_base.specs.declared.cell.Key.{Key}
use Rattle.physical_map.specs.declared.entry.Entry.{Entry}
use Rattle.physical_map.specs.Entries.{key_of, slot_of, without_key}
use Rattle.physical_map.specs.Keys.{key_below, same_key, placed, IsAbove, IsInOrder}
use Rattle.physical_map.specs.Replaced.{entry_of, slot_in}
use Rattle.physical_map.proofs.Orders.{below-other, above-other, beyond, below-trans}

-- how many entries stand before a key
abbrev pub rank : List Entry → Key → ℕ
rank es key = prefix_len (λ e. key_below e.key key) es

placed-over : (es : List Entry) (e d : Entry) → rank es e.key < length es → same_key (get_or es (rank es e.key) d).key e.key ≡ true
    → placed key_of es e ≡ set es (rank es e.key) e
placed-over [] e d within same = absurd (omega arith)
placed-over (x ∷ xs) e d within same = grind (arith, nat_tests, placed-over xs e d)

placed-between : (es : List Entry) (e d : Entry) → (rank es e.key < length es → same_key (get_or es (rank es e.key) d).key e.key ≡ false)
    → placed key_of es e ≡ insert es (rank es e.key) e
placed-between [] e d other = refl
placed-between (x ∷ xs) e d other = grind (arith, nat_tests, placed-between xs e d)

pub slot-of_entry : (es : List Entry) (key : Key) → slot_in (entry_of es key) ≡ slot_of es key
slot-of_entry [] key = refl
slot-of_entry (x ∷ xs) key = elim (cases_Bool (same_key x.key key)) [
  | inl same ↦ rw same refl
  | inr other ↦ rw other (slot-of_entry xs key)
]

entry-over : (es : List Entry) (key : Key) (d : Entry) → rank es key < length es → same_key (get_or es (rank es key) d).key key ≡ true
    → entry_of es key ≡ Some (get_or es (rank es key) d)
entry-over [] key d within same = absurd (omega arith)
entry-over (x ∷ xs) key d within same = grind (arith, nat_tests, below-other x.key key, entry-over xs key d)

without-over : (es : List Entry) (key : Key) (d : Entry) → rank es key < length es → same_key (get_or es (rank es key) d).key key ≡ true
    → without_key es key ≡ remove es (rank es key)
without-over [] key d within same = absurd (omega arith)
without-over (x ∷ xs) key d within same = elim (cases_Bool (key_below x.key key)) [
  | inl before ↦
      let further = rank xs key in
      let one : 1 + further ≡ suc further = omega arith in
      let more : further < length xs = omega (arith, rw before at within) in
      let there : same_key (get_or xs further d).key key ≡ true = rw (before, one) at same in
      rw (below-other x.key key before, before, one) (ap (λ (l : List Entry). x ∷ l) (without-over xs key d more there))
  | inr before ↦
      let there : same_key x.key key ≡ true = rw before at same in
      rw (there, before) refl
]

entry-above : (es : List Entry) (key : Key) → IsAbove key_of key es → entry_of es key ≡ None
entry-above [] key above = refl
entry-above (x ∷ xs) key above = rw (above-other x.key key above.0) (entry-above xs key above.1)

pub slot-above : (es : List Entry) (key : Key) → IsAbove key_of key es → slot_of es key ≡ None
slot-above es key above = sym (slot-of_entry es key) ∙ ap slot_in (entry-above es key above)

pub without-above : (es : List Entry) (key : Key) → IsAbove key_of key es → without_key es key ≡ es
without-above [] key above = refl
without-above (x ∷ xs) key above = rw (above-other x.key key above.0) (ap (λ (l : List Entry). x ∷ l) (without-above xs key above.1))

pub further-above : (es : List Entry) (a b : Key) → key_below a b ≡ true → IsAbove key_of b es → IsAbove key_of a es
further-above [] a b below above = tt
further-above (x ∷ xs) a b below above = (below-trans a b x.key below above.0, further-above xs a b below above.1)

-- the entry at the place has another key, if there is one
abbrev pub Missing : List Entry → Key → Entry → Type 0
Missing es key d = rank es key < length es → same_key (get_or es (rank es key) d).key key ≡ false

missing-rest : (x : Entry) (xs : List Entry) (key : Key) (d : Entry) → key_below x.key key ≡ true → Missing (x ∷ xs) key d → Missing xs key d
missing-rest x xs key d before missing within =
    let one : 1 + rank xs key ≡ suc (rank xs key) = omega arith in
    let there : same_key (get_or (x ∷ xs) (rank (x ∷ xs) key) d).key key ≡ false = missing (rw before (omega arith)) in
    rw (before, one) at there

missing-above : (x : Entry) (xs : List Entry) (key : Key) (d : Entry) → key_below x.key key ≡ false → IsInOrder key_of (x ∷ xs) → Missing (x ∷ xs) key d
    → IsAbove key_of key (x ∷ xs)
missing-above x xs key d before order missing =
    let here : same_key (get_or (x ∷ xs) (rank (x ∷ xs) key) d).key key ≡ false = missing (rw before (omega arith)) in
    let other : same_key x.key key ≡ false = rw before at here in
    let next : key_below key x.key ≡ true = beyond x.key key before other in
    (next, further-above xs key x.key next order.0)

entry-missing : (es : List Entry) (key : Key) (d : Entry) → IsInOrder key_of es → Missing es key d → entry_of es key ≡ None
entry-missing [] key d order missing = refl
entry-missing (x ∷ xs) key d order missing = elim (cases_Bool (key_below x.key key)) [
  | inl before ↦ rw (below-other x.key key before) (entry-missing xs key d order.1 (missing-rest x xs key d before missing))
  | inr before ↦ entry-above (x ∷ xs) key (missing-above x xs key d before order missing)
]

without-missing : (es : List Entry) (key : Key) (d : Entry) → IsInOrder key_of es → Missing es key d → without_key es key ≡ es
without-missing [] key d order missing = refl
without-missing (x ∷ xs) key d order missing = elim (cases_Bool (key_below x.key key)) [
  | inl before ↦ rw (below-other x.key key before) (ap (λ (l : List Entry). x ∷ l) (without-missing xs key d order.1 (missing-rest x xs key d before missing)))
  | inr before ↦ without-above (x ∷ xs) key (missing-above x xs key d before order missing)
]

above-without : (es : List Entry) (k key : Key) → IsAbove key_of k es → IsAbove key_of k (without_key es key)
above-without [] k key above = tt
above-without (x ∷ xs) k key above = elim (cases_Bool (same_key x.key key)) [
  | inl same ↦ rw same above.1
  | inr same ↦ rw same (above.0, above-without xs k key above.1)
]

-- what is left after a key is dropped is in order
pub ordered-without : (es : List Entry) (key : Key) → IsInOrder key_of es → IsInOrder key_of (without_key es key)
ordered-without [] key order = tt
ordered-without (x ∷ xs) key order = elim (cases_Bool (same_key x.key key)) [
  | inl same ↦ rw same order.1
  | inr same ↦ rw same (above-without xs x.key key order.0, ordered-without xs key order.1)
]

-- The same by the place `at` that a search gave and the entry d that was read there.
there : (es : List Entry) (d : Entry) (at rank : ℕ) → at ≡ rank → d ≡ get_or es at d → get_or es rank d ≡ d
there es d at rank is here = sym (here ∙ ap (λ (j : ℕ). get_or es j d) is)

-- the entry d at the place has the key
pub record Found (es : List Entry) (key : Key) (d : Entry) (at : ℕ) : Type 0 where
  pub is : at ≡ rank es key
  pub within : at < length es
  pub here : d ≡ get_or es at d
  pub same : same_key d.key key ≡ true

found-same : (es : List Entry) (key : Key) (d : Entry) (at : ℕ) → Found es key d at → same_key (get_or es (rank es key) d).key key ≡ true
found-same es key d at f = ap (λ (x : Entry). same_key x.key key) (there es d at (rank es key) f.is f.here) ∙ f.same

found-within : (es : List Entry) (key : Key) (d : Entry) (at : ℕ) → Found es key d at → rank es key < length es
found-within es key d at f = omega (arith, f.is, f.within)

pub place-over : (es : List Entry) (e d : Entry) (at : ℕ) → Found es e.key d at → set es at e ≡ placed key_of es e
place-over es e d at f = ap (λ (j : ℕ). set es j e) f.is ∙ sym (placed-over es e d (found-within es e.key d at f) (found-same es e.key d at f))

pub entry-found : (es : List Entry) (key : Key) (d : Entry) (at : ℕ) → Found es key d at → Some d ≡ entry_of es key
entry-found es key d at f =
    sym (entry-over es key d (found-within es key d at f) (found-same es key d at f) ∙ ap (λ (x : Entry). Some x) (there es d at (rank es key) f.is f.here))

pub slot-found : (es : List Entry) (key : Key) (d : Entry) (at : ℕ) → Found es key d at → Some d.slot ≡ slot_of es key
slot-found es key d at f = ap slot_in (entry-found es key d at f) ∙ slot-of_entry es key

pub without-found : (es : List Entry) (key : Key) (d : Entry) (at : ℕ) → Found es key d at → remove es at ≡ without_key es key
without-found es key d at f = ap (λ (j : ℕ). remove es j) f.is ∙ sym (without-over es key d (found-within es key d at f) (found-same es key d at f))

-- the entry d at the place has another key, or the place is the end
pub record Absent (es : List Entry) (key : Key) (d : Entry) (at : ℕ) : Type 0 where
  pub is : at ≡ rank es key
  pub other : at < length es → (d ≡ get_or es at d) × (same_key d.key key ≡ false)

absent-missing : (es : List Entry) (key : Key) (d : Entry) (at : ℕ) → Absent es key d at → Missing es key d
absent-missing es key d at a within =
    let both = a.other (omega (arith, a.is)) in
    ap (λ (x : Entry). same_key x.key key) (there es d at (rank es key) a.is both.0) ∙ both.1

pub place-between : (es : List Entry) (e d : Entry) (at : ℕ) → Absent es e.key d at → insert es at e ≡ placed key_of es e
place-between es e d at a = ap (λ (j : ℕ). insert es j e) a.is ∙ sym (placed-between es e d (absent-missing es e.key d at a))

pub entry-absent : (es : List Entry) (key : Key) (d : Entry) (at : ℕ) → IsInOrder key_of es → Absent es key d at → None ≡ entry_of es key
entry-absent es key d at order a = sym (entry-missing es key d order (absent-missing es key d at a))

pub slot-absent : (es : List Entry) (key : Key) (d : Entry) (at : ℕ) → IsInOrder key_of es → Absent es key d at → None ≡ slot_of es key
slot-absent es key d at order a = ap slot_in (entry-absent es key d at order a) ∙ slot-of_entry es key

pub without-absent : (es : List Entry) (key : Key) (d : Entry) (at : ℕ) → IsInOrder key_of es → Absent es key d at → es ≡ without_key es key
without-absent es key d at order a = sym (without-missing es key d order (absent-missing es key d at a))

pub some-none : (o : Option ℕ) → None ≡ o → IsSome o → ⊥
some-none None is some = grind arith
some-none (Some x) is some = cc
