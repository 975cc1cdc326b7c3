-- What a binary search in entries in order finds.
use Rattle.std.proofs.Common.{◌≡◌, ℕ, zero, suc, ◌+◌, true, false, not, nat_lt, max, List, [], ◌∷◌, get_or, drop, Option, None}
use Rattle.std.proofs.Common.{Some, if◌then◌else◌, refl, ap, arith, inl, inr}
use Rattle.std.proofs.lemmas.Bool.{cases_Bool}
use Rattle.std.proofs.lemmas.Bool.Decides.{nat_tests}
use Rattle.std.proofs.lemmas.List.Sums.{prefix_len-le-length, prefix_len_passes, take_while-cons}
use Rattle.std.specs.List.{prefix_len, take_while}
use Rattle.petal_base.specs.declared.cell.Cell.{Cell}
use Rattle.petal_base.specs.declared.cell.Key.{Key}
use Rattle.physical_map.specs.declared.entry.Entry.{Entry}
use Rattle.physical_map.specs.Entries.{key_of, in_cell, chain_of, top_of, version_of}
use Rattle.physical_map.specs.Keys.{key_below, sees, newest, IsInOrder, IsAbove}
use Rattle.physical_map.proofs.Orders.{above-at, nothing-above}
use Rattle.physical_map.proofs.Places.{further-above}

-- How many entries stand at a key or before it.
abbrev pub following : Key → List Entry → ℕ
following at es = prefix_len (λ e. not (key_below at e.key)) es

pub newest-none : (es : List Entry) (at : Key) → IsInOrder key_of es → following at es ≡ 0 → newest key_of at es ≡ None
newest-none [] at order none = refl
newest-none (x ∷ xs) at order none = elim (cases_Bool (key_below at x.key)) [
  | inl above ↦ nothing-above key_of at (x ∷ xs) (above, further-above xs at x.key above order.0)
  | inr before ↦ let some : 1 + following at xs ≡ 0 = rw before at none in absurd (omega arith)
]

-- what a read finds in one entry
abbrev pub seen_in : Key → Entry → Option Entry
seen_in at e = if sees at e.key then Some e else None

seen-further : (at x e : Key) → key_below x e ≡ true → not (key_below at e) ≡ true → sees at x ≡ true → sees at e ≡ true
seen-further at x e rises within seen = grind (arith, nat_tests)

later-epoch : (at x e : Key) → key_below x e ≡ true → not (key_below at e) ≡ true → sees at x ≡ true → nat_lt x.epoch e.epoch ≡ true
later-epoch at x e rises within seen = grind (arith, nat_tests)

-- of the entries at a key and before it, a read sees the last or none
pub newest-last : (es : List Entry) (at : Key) (n : ℕ) (d : Entry) → IsInOrder key_of es → n + 1 ≡ following at es
    → newest key_of at es ≡ seen_in at (get_or es n d)
newest-last [] at n d order is = absurd (omega arith)
newest-last (x ∷ xs) at zero d order is = elim (cases_Bool (key_below at x.key)) [
  | inl above ↦ let none : 0 + 1 ≡ 0 = rw above at is in absurd (omega arith)
  | inr before ↦
      let one : 0 + 1 ≡ 1 + following at xs = rw before at is in
      rw (newest-none xs at order.1 (omega (arith, one))) refl
]
newest-last (x ∷ xs) at (suc n) d order is = elim (cases_Bool (key_below at x.key)) [
  | inl above ↦ let none : suc n + 1 ≡ 0 = rw above at is in absurd (omega arith)
  | inr before ↦
      let more : suc n + 1 ≡ 1 + following at xs = rw before at is in
      let here : n + 1 ≡ following at xs = omega (arith, more) in
      let e = get_or xs n d in
      let rises = above-at key_of x.key xs n d order.0 (omega (arith, here, prefix_len-le-length (λ (e : Entry). not (key_below at e.key)) xs)) in
      let within = prefix_len_passes (λ (e : Entry). not (key_below at e.key)) xs n d (omega (arith, here)) in
      let rest = newest-last xs at n d order.1 here in
      elim (cases_Bool (sees at x.key)) [
        | inl seen ↦ rw (seen, rest, seen-further at x.key e.key rises within seen) (rw (later-epoch at x.key e.key rises within seen) refl)
        | inr seen ↦ rw (seen, rest) refl
      ]
]

-- The entries of a cell stand together.

abbrev pub first_of : Cell → Key
first_of cell = record { map = cell.map; block = cell.block; epoch = 0 }

not-yet : (cell : Cell) (k : Key) → key_below k (first_of cell) ≡ true → in_cell cell k ≡ false
not-yet cell k before = grind (arith, nat_tests)

no-more : (cell : Cell) (k l : Key) → key_below k (first_of cell) ≡ false → in_cell cell k ≡ false → key_below k l ≡ true → in_cell cell l ≡ false
no-more cell k l before out rises = grind (arith, nat_tests)

not-before : (cell : Cell) (k l : Key) → key_below k (first_of cell) ≡ false → key_below k l ≡ true → key_below l (first_of cell) ≡ false
not-before cell k l before rises = grind (arith, nat_tests)

none-above : (cell : Cell) (k : Key) (es : List Entry) → key_below k (first_of cell) ≡ false → in_cell cell k ≡ false
    → IsAbove key_of k es → chain_of cell es ≡ []
none-above cell k [] before out above = refl
none-above cell k (x ∷ xs) before out above = rw (no-more cell k x.key before out above.0) (none-above cell k xs before out above.1)

chain-from : (cell : Cell) (x : Entry) (xs : List Entry) → key_below x.key (first_of cell) ≡ false → IsInOrder key_of (x ∷ xs)
    → chain_of cell (x ∷ xs) ≡ take_while (λ e. in_cell cell e.key) (x ∷ xs)
chain-from cell x [] before order = elim (cases_Bool (in_cell cell x.key)) [
  | inl here ↦ rw (take_while-cons (λ (e : Entry). in_cell cell e.key) x [], here) refl
  | inr out ↦ rw (take_while-cons (λ (e : Entry). in_cell cell e.key) x [], out) refl
]
chain-from cell x (y ∷ ys) before order = elim (cases_Bool (in_cell cell x.key)) [
  | inl here ↦
      rw (take_while-cons (λ (e : Entry). in_cell cell e.key) x (y ∷ ys), here)
      (ap (λ (l : List Entry). x ∷ l) (chain-from cell y ys (not-before cell x.key y.key before order.0.0) order.1))
  | inr out ↦ rw (take_while-cons (λ (e : Entry). in_cell cell e.key) x (y ∷ ys), out) (none-above cell x.key (y ∷ ys) before out order.0)
]

pub chain-part : (cell : Cell) (es : List Entry) → IsInOrder key_of es
    → chain_of cell es ≡ take_while (λ e. in_cell cell e.key) (drop (prefix_len (λ e. key_below e.key (first_of cell)) es) es)
chain-part cell [] order = refl
chain-part cell (x ∷ xs) order = elim (cases_Bool (key_below x.key (first_of cell))) [
  | inl before ↦
      let further = prefix_len (λ (e : Entry). key_below e.key (first_of cell)) xs in
      let one : 1 + further ≡ suc further = omega arith in
      rw (not-yet cell x.key before, before, one) (chain-part cell xs order.1)
  | inr before ↦ rw before (chain-from cell x xs before order)
]

pub top-chain : (cell : Cell) (es : List Entry) → top_of (chain_of cell es) ≡ version_of cell es
top-chain cell [] = refl
top-chain cell (x ∷ xs) = elim (cases_Bool (in_cell cell x.key)) [
  | inl here ↦ rw here (ap (max x.version) (top-chain cell xs))
  | inr out ↦ rw out (top-chain cell xs)
]
