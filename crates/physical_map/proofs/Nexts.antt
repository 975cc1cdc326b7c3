-- The next block of a map, and the next map, stand after all entries that do not count.
use Rattle.std.proofs.Common.{◌≡◌, ℕ, suc, ◌+◌, ◌≤◌, ◌<◌, ◌==◌, ◌&&◌, true, false, not, nat_lt, List, [], ◌∷◌, length, get_or, drop, Option, None}
use Rattle.std.proofs.Common.{Some, if◌then◌else◌, refl, sym, ◌∙◌, ap, subst, arith, inl, inr}
use Rattle.std.proofs.lemmas.Bool.{cases_Bool, cases_eq}
use Rattle.std.proofs.lemmas.Bool.Decides.{nat_tests}
use Rattle.std.proofs.Math.ListN.{drop_of_length-le}
use Rattle.std.proofs.Math.Seq.{drop-cons}
use Rattle.std.specs.List.{prefix_len}
use Rattle.std.specs.List.Sorted.{IsPartitionedBy}
use Rattle.petal_base.specs.declared.cell.Key.{Key}
use Rattle.physical_map.specs.declared.entry.Entry.{Entry}
use Rattle.physical_map.specs.Entries.{key_of, above, lesser, next_block_of, next_map_of}
use Rattle.physical_map.specs.Keys.{key_below, IsAbove, IsInOrder}
use Rattle.physical_map.specs.Next.{before_blocks}
use Rattle.physical_map.proofs.Orders.{order-at}

-- of a number and two others, of which it is not above the first, the first does not matter
lesser-first : (k n : ℕ) (r : Option ℕ) → k ≤ n → lesser (Some k) (lesser (Some n) r) ≡ lesser (Some k) r
lesser-first k n None le = grind (arith, nat_tests)
lesser-first k n (Some m) le = grind (arith, nat_tests)

-- Blocks.

before-earlier : (map : ℕ) (after : Option ℕ) (a b : Key) → key_below a b ≡ true → before_blocks map after b ≡ true → before_blocks map after a ≡ true
before-earlier map None a b rises before = grind (arith, nat_tests)
before-earlier map (Some n) a b rises before = grind (arith, nat_tests)

pub partitioned-blocks : (map : ℕ) (after : Option ℕ) (es : List Entry) → IsInOrder key_of es → IsPartitionedBy (λ e. before_blocks map after e.key) es
partitioned-blocks map after es order i j d le within up = elim (cases_eq i j) [
  | inl same ↦ subst (λ (n : ℕ). before_blocks map after (get_or es n d).key ≡ true) (sym same) up
  | inr apart ↦ before-earlier map after (get_or es i d).key (get_or es j d).key (order-at key_of es i j d order (omega (arith, apart)) within) up
]

-- the block of the first entry, where it is one of the map
abbrev pub first_block : ℕ → List Entry → Option ℕ
first_block map [] = None
first_block map (e ∷ es) = if e.key.map == map then Some e.key.block else None

later-block : (k l : Key) → key_below k l ≡ true → k.map ≡ l.map → k.block ≤ l.block
later-block k l rises same = grind (arith, nat_tests)

least-block : (after : Option ℕ) (k : Key) (es : List Entry) → IsAbove key_of k es → lesser (Some k.block) (next_block_of k.map after es) ≡ Some k.block
least-block after k [] rest = refl
least-block after k (x ∷ xs) rest = elim (cases_Bool (x.key.map == k.map && above after x.key.block)) [
  | inl counts ↦
      let same : k.map ≡ x.key.map = grind (arith, nat_tests) in
      rw counts (lesser-first k.block x.key.block (next_block_of k.map after xs) (later-block k x.key rest.0 same) ∙ least-block after k xs rest.1)
  | inr out ↦ rw out (least-block after k xs rest.1)
]

no-block : (map : ℕ) (after : Option ℕ) (k : Key) (es : List Entry) → nat_lt map k.map ≡ true → IsAbove key_of k es → next_block_of map after es ≡ None
no-block map after k [] following rest = refl
no-block map after k (x ∷ xs) following rest =
    let rises : key_below k x.key ≡ true = rest.0 in
    let other : (x.key.map == map) ≡ false = grind (arith, nat_tests) in
    rw other (no-block map after k xs following rest.1)

pub next-block : (map : ℕ) (after : Option ℕ) (es : List Entry) → IsInOrder key_of es
    → next_block_of map after es ≡ first_block map (drop (prefix_len (λ e. before_blocks map after e.key) es) es)
next-block map after [] order = refl
next-block map after (x ∷ xs) order = elim (cases_Bool (before_blocks map after x.key)) [
  | inl before ↦
      let further = prefix_len (λ (e : Entry). before_blocks map after e.key) xs in
      let one : 1 + further ≡ suc further = omega arith in
      let out : (x.key.map == map && above after x.key.block) ≡ false = grind (arith, nat_tests) in
      rw (out, before, one) (next-block map after xs order.1)
  | inr following ↦ elim (cases_Bool (x.key.map == map)) [
    | inl here ↦
        let same : x.key.map ≡ map = grind (arith, nat_tests) in
        let counts : above after x.key.block ≡ true = grind (arith, nat_tests) in
        rw (following, here, counts)
        (subst (λ (m : ℕ). lesser (Some x.key.block) (next_block_of m after xs) ≡ Some x.key.block) same (least-block after x.key xs order.0))
    | inr other ↦
        let past : nat_lt map x.key.map ≡ true = grind (arith, nat_tests) in
        rw (following, other) (no-block map after x.key xs past order.0)
  ]
]

-- the same by the place `at` that a search gave
pub next-block_at : (map : ℕ) (after : Option ℕ) (es : List Entry) (d : Entry) (at : ℕ) → IsInOrder key_of es
    → at ≡ prefix_len (λ e. before_blocks map after e.key) es → at < length es
    → next_block_of map after es ≡ (if (get_or es at d).key.map == map then Some (get_or es at d).key.block else None)
next-block_at map after es d at order is within =
    next-block map after es order ∙ ap (λ (n : ℕ). first_block map (drop n es)) (sym is) ∙ ap (first_block map) (drop-cons es at d within)

pub next-block_none : (map : ℕ) (after : Option ℕ) (es : List Entry) (at : ℕ) → IsInOrder key_of es
    → at ≡ prefix_len (λ e. before_blocks map after e.key) es → length es ≤ at → next_block_of map after es ≡ None
next-block_none map after es at order is past =
    next-block map after es order ∙ ap (λ (n : ℕ). first_block map (drop n es)) (sym is) ∙ ap (first_block map) (drop_of_length-le es past)

-- Maps.

before-map : (after : Option ℕ) (a b : Key) → key_below a b ≡ true → not (above after b.map) ≡ true → not (above after a.map) ≡ true
before-map None a b rises before = grind (arith, nat_tests)
before-map (Some n) a b rises before = grind (arith, nat_tests)

pub partitioned-maps : (after : Option ℕ) (es : List Entry) → IsInOrder key_of es → IsPartitionedBy (λ e. not (above after e.key.map)) es
partitioned-maps after es order i j d le within up = elim (cases_eq i j) [
  | inl same ↦ subst (λ (n : ℕ). not (above after (get_or es n d).key.map) ≡ true) (sym same) up
  | inr apart ↦ before-map after (get_or es i d).key (get_or es j d).key (order-at key_of es i j d order (omega (arith, apart)) within) up
]

abbrev pub first_map : List Entry → Option ℕ
first_map [] = None
first_map (e ∷ es) = Some e.key.map

later-map : (k l : Key) → key_below k l ≡ true → k.map ≤ l.map
later-map k l rises = grind (arith, nat_tests)

least-map : (after : Option ℕ) (k : Key) (es : List Entry) → IsAbove key_of k es → lesser (Some k.map) (next_map_of after es) ≡ Some k.map
least-map after k [] rest = refl
least-map after k (x ∷ xs) rest = elim (cases_Bool (above after x.key.map)) [
  | inl counts ↦ rw counts (lesser-first k.map x.key.map (next_map_of after xs) (later-map k x.key rest.0) ∙ least-map after k xs rest.1)
  | inr out ↦ rw out (least-map after k xs rest.1)
]

pub next-map : (after : Option ℕ) (es : List Entry) → IsInOrder key_of es
    → next_map_of after es ≡ first_map (drop (prefix_len (λ e. not (above after e.key.map)) es) es)
next-map after [] order = refl
next-map after (x ∷ xs) order = elim (cases_Bool (above after x.key.map)) [
  | inl counts ↦ rw counts (least-map after x.key xs order.0)
  | inr out ↦
      let further = prefix_len (λ (e : Entry). not (above after e.key.map)) xs in
      let one : 1 + further ≡ suc further = omega arith in
      rw (out, one) (next-map after xs order.1)
]

pub next-map_at : (after : Option ℕ) (es : List Entry) (d : Entry) (at : ℕ) → IsInOrder key_of es → at ≡ prefix_len (λ e. not (above after e.key.map)) es
    → at < length es → next_map_of after es ≡ Some (get_or es at d).key.map
next-map_at after es d at order is within =
    next-map after es order ∙ ap (λ (n : ℕ). first_map (drop n es)) (sym is) ∙ ap first_map (drop-cons es at d within)

pub next-map_none : (after : Option ℕ) (es : List Entry) (at : ℕ) → IsInOrder key_of es → at ≡ prefix_len (λ e. not (above after e.key.map)) es
    → length es ≤ at → next_map_of after es ≡ None
next-map_none after es at order is past =
    next-map after es order ∙ ap (λ (n : ℕ). first_map (drop n es)) (sym is) ∙ ap first_map (drop_of_length-le es past)
