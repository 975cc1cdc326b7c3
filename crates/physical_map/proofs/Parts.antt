-- The entries of a map above a block stand together.
use Rattle.std.proofs.Common.{◌≡◌, ℕ, zero, suc, ◌+◌, ◌-◌, ◌==◌, ◌&&◌, true, false, not, nat_lt, List, [], ◌∷◌, drop, take}
use Rattle.std.proofs.Common.{Option, None, Some, refl, ap, arith, inl, inr}
use Rattle.std.proofs.lemmas.Bool.{cases_Bool}
use Rattle.std.proofs.lemmas.Bool.Decides.{nat_tests}
use Rattle.std.specs.List.{prefix_len}
use Rattle.petal_base.specs.declared.cell.Key.{Key}
use Rattle.physical_map.specs.declared.entry.Entry.{Entry}
use Rattle.physical_map.specs.Entries.{key_of, above, map_entries}
use Rattle.physical_map.specs.Keys.{key_below, IsAbove, IsInOrder}
use Rattle.physical_map.specs.Next.{before_blocks}

-- entries without some of the first are in order
pub order-drop : (n : ℕ) (es : List Entry) → IsInOrder key_of es → IsInOrder key_of (drop n es)
order-drop zero es order = order
order-drop (suc n) [] order = tt
order-drop (suc n) (x ∷ xs) order = order-drop n xs order.1

module _ (map : ℕ) (after : Option ℕ) where
  -- how many entries at the front are of no later map
  abbrev pub front : List Entry → ℕ
  front es = prefix_len (λ e. not (above (Some map) e.key.map)) es

  abbrev pub past : List Entry → List Entry
  past es = drop (prefix_len (λ e. before_blocks map after e.key) es) es

  before_out : (k : Key) → before_blocks map after k ≡ true → (k.map == map && above after k.block) ≡ false
  before_out k before = grind (arith, nat_tests)

  after_in : (k : Key) → before_blocks map after k ≡ false → nat_lt map k.map ≡ false → (k.map == map && above after k.block) ≡ true
  after_in k following own = grind (arith, nat_tests)

  later_out : (k l : Key) → nat_lt map k.map ≡ true → key_below k l ≡ true → (l.map == map && above after l.block) ≡ false
  later_out k l over rises = grind (arith, nat_tests)

  over_out : (k : Key) → nat_lt map k.map ≡ true → (k.map == map && above after k.block) ≡ false
  over_out k over = grind (arith, nat_tests)

  after_later : (a : Option ℕ) (k l : Key) → before_blocks map a k ≡ false → key_below k l ≡ true → before_blocks map a l ≡ false
  after_later None k l following rises = grind (arith, nat_tests)
  after_later (Some n) k l following rises = grind (arith, nat_tests)

  none_later : (k : Key) (es : List Entry) → nat_lt map k.map ≡ true → IsAbove key_of k es → map_entries map after es ≡ []
  none_later k [] over rises = refl
  none_later k (x ∷ xs) over rises = rw (later_out k x.key over rises.0) (none_later k xs over rises.1)

  -- after those that come before, all up to the next map are the map's
  kept_cons : (x : Entry) (xs : List Entry) → before_blocks map after x.key ≡ false → IsAbove key_of x.key xs
      → map_entries map after xs ≡ take (front xs) xs → map_entries map after (x ∷ xs) ≡ take (front (x ∷ xs)) (x ∷ xs)
  kept_cons x xs following rises rest = elim (cases_Bool (nat_lt map x.key.map)) [
    | inl over ↦ rw (over, over_out x.key over) (none_later x.key xs over rises)
    | inr own ↦
        let one : 1 + front xs ≡ suc (front xs) = omega arith in
        rw (own, after_in x.key following own, one) (ap (λ (l : List Entry). x ∷ l) rest)
  ]

  kept : (k : Key) (es : List Entry) → before_blocks map after k ≡ false → IsAbove key_of k es → IsInOrder key_of es
      → map_entries map after es ≡ take (front es) es
  kept k [] following rises order = refl
  kept k (x ∷ xs) following rises order =
      let here = after_later after k x.key following rises.0 in
      kept_cons x xs here order.0 (kept x.key xs here order.0 order.1)

  pub part : (es : List Entry) → IsInOrder key_of es → map_entries map after es ≡ take (front (past es)) (past es)
  part [] order = refl
  part (x ∷ xs) order = elim (cases_Bool (before_blocks map after x.key)) [
    | inl before ↦
        let further = prefix_len (λ (e : Entry). before_blocks map after e.key) xs in
        let one : 1 + further ≡ suc further = omega arith in
        rw (before_out x.key before, before, one) (part xs order.1)
    | inr following ↦ rw following (kept_cons x xs following order.0 (kept x.key xs following order.0 order.1))
  ]
