-- The first entry of a cell that is live no longer is among those that are left, where each cell of the map of what is passed is live.
use Rattle.std.proofs.Common.{◌≡◌, ℕ, suc, ◌+◌, true, nat_le, List, [], ◌∷◌, get_or, drop, refl, sym, ap, subst, ◌∙◌, arith, inl, inr}
use Rattle.std.proofs.lemmas.Bool.{cases_Bool, cases_eq}
use Rattle.std.proofs.lemmas.Bool.Decides.{nat_tests}
use Rattle.std.specs.List.{prefix_len}
use Rattle.std.specs.List.Sorted.{IsPartitionedBy}
use Rattle.petal_base.specs.declared.cell.Key.{Key}
use Rattle.petal_base.specs.Cells.{cell_of}
use Rattle.spec_rules.specs.State.{State, live}
use Rattle.physical_map.specs.declared.entry.Entry.{Entry}
use Rattle.physical_map.specs.Entries.{key_of}
use Rattle.physical_map.specs.Keys.{key_below, IsAbove, IsInOrder}
use Rattle.physical_map.proofs.Orders.{order-at}
use Rattle.server_store.specs.Holdings.{Held, key_held, listed}
use Rattle.redistribute.specs.Swept.{first_retired}

above_listed : (k : Key) (es : List Held) → IsAbove key_held k es → IsAbove key_of k (listed es)
above_listed k [] above = tt
above_listed k (e ∷ es) above = (above.0, above_listed k es above.1)

-- entries are in order without their contents, too
pub order_listed : (es : List Held) → IsInOrder key_held es → IsInOrder key_of (listed es)
order_listed [] order = tt
order_listed (e ∷ es) order = (above_listed (key_held e) es order.0, order_listed es order.1)

-- how many entries at the front are of no map above this one
abbrev pub up_to : ℕ → List Entry → ℕ
up_to map es = prefix_len (λ e. nat_le e.key.map map) es

not_above : (map : ℕ) (a b : Key) → key_below a b ≡ true → nat_le b.map map ≡ true → nat_le a.map map ≡ true
not_above map a b rises up = grind (arith, nat_tests, rises, up)

-- so a binary search finds how many
pub partitioned_maps : (map : ℕ) (es : List Entry) → IsInOrder key_of es → IsPartitionedBy (λ e. nat_le e.key.map map) es
partitioned_maps map es order i j d le within up = elim (cases_eq i j) [
  | inl same ↦ subst (λ (n : ℕ). nat_le (get_or es n d).key.map map ≡ true) (sym same) up
  | inr apart ↦ not_above map (get_or es i d).key (get_or es j d).key (order-at key_of es i j d order (omega (arith, apart)) within) up
]

same_map : (k l : Key) → key_below k l ≡ true → nat_le l.map k.map ≡ true → k.map ≡ l.map
same_map k l rises up = grind (arith, nat_tests, rises, up)

-- after an entry of a map of which each cell is live nothing of that map is looked at
pub passed : (state : State) (k : Key) (es : List Entry) → ((block : ℕ) → live state (record { map = k.map; block = block }) ≡ true)
    → IsAbove key_of k es → first_retired state (drop (up_to k.map es) es) ≡ first_retired state es
passed state k [] lives above = refl
passed state k (x ∷ xs) lives above = elim (cases_Bool (nat_le x.key.map k.map)) [
  | inl own ↦
      let here : live state (cell_of x.key) ≡ true =
      ap (λ (map : ℕ). live state (record { map = map; block = x.key.block })) (sym (same_map k x.key above.0 own)) ∙ lives x.key.block in
      let one : 1 + up_to k.map xs ≡ suc (up_to k.map xs) = omega arith in
      rw (own, one, here) (passed state k xs lives above.1)
  | inr over ↦ rw over refl
]
