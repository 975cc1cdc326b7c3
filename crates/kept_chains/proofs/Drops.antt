-- Chains after an entry was dropped.
use Rattle.std.proofs.Common.{◌≡◌, ◌≢◌, inl, inr, ℕ, ◌+◌, Bool, true, false, not, cond, List, [], ◌∷◌, length, Option, Some, None, refl, sym, ap, ◌∙◌, arith}
use Rattle.std.proofs.lemmas.Bool.{cases_Bool}
use Rattle.std.proofs.lemmas.Bool.Decides.{nat_tests}
use Rattle.std.specs.Ordering.{nat_cmp, is_eq}
use Rattle.std.specs.BTreeMap.{is_at}
use Rattle.std.specs.Map.{lookup}
use Rattle.std.specs.FinMap.Entries as rows
use Rattle.petal_base.specs.declared.cell.Cell.{Cell}
use Rattle.petal_base.specs.declared.cell.Key.{Key}
use Rattle.petal_base.specs.Cells.{cell_of}
use Rattle.petal_table.specs.Table.{Table, at, put, without}
use Rattle.petal_table.proofs.Rows.{at-empty}
use Rattle.spec_rules.specs.Store.{Chain, Stored, cell_cmp, chain_in, chains_at, without_entry}
use Rattle.spec_rules.proofs.CellTables.{cell_cmp_total, cell_cmp_same, cell_same, cell_apart, cell_gone, cell_gone_apart}
use Rattle.physical_map.specs.Entries.{in_cell}
use Rattle.physical_map.specs.Keys.{key_below, same_key, IsAbove, IsInOrder}
use Rattle.server_store.specs.Holdings.{Held, Holdings, key_held, without_held}
use Rattle.kept_chains.specs.Chains.{chain_by}
use Rattle.kept_chains.specs.Kept.{stored_of, chains_of, store_of}
use Rattle.kept_chains.proofs.Puts.{IsSorted, at_is_find, sorted_put, without_none}
use Rattle.kept_chains.proofs.Chains.{cell_cases, well_by}
use Rattle.kept_chains.proofs.InOrder.{cell_in, cell_out, chain_is, new_first}

-- a chain as a table has it: a cell without entries has none
abbrev pub some_chain : Chain → Option Chain
some_chain [] = None
some_chain (row ∷ later) = Some (row ∷ later)

abbrev pub chain_held : Cell → List Held → Chain
chain_held cell es = chain_by key_held stored_of cell es

-- what stands at a cell
pub at_chains : (es : List Held) (q : Cell) → IsInOrder key_held es → at cell_cmp (chains_of es) q ≡ some_chain (chain_held q es)
at_chains [] q order = at-empty cell_cmp q
at_chains (e ∷ es) q order =
    let t = chains_of es in
    let c = cell_of e.entry.key in
    let row : ℕ × Stored = (e.entry.key.epoch, stored_of e) in
    let first : chains_of (e ∷ es) ≡ put cell_cmp t c (row ∷ chain_in t c) = ap (put cell_cmp t c) (new_first key_held stored_of e es order) in
    elim (cases_Bool (in_cell q e.entry.key)) [
      | inl is ↦ rw is
          (ap (λ (u : Table Cell Chain). at cell_cmp u q) first ∙ ap (at cell_cmp (put cell_cmp t c (row ∷ chain_in t c))) (cell_in q e.entry.key is)
          ∙ cell_same t c (row ∷ chain_in t c)
          ∙ ap (λ (chain : Chain). Some (row ∷ chain)) (ap (chain_in t) (sym (cell_in q e.entry.key is)) ∙ chain_is key_held stored_of es q order.1))
      | inr is ↦ rw is
          (ap (λ (u : Table Cell Chain). at cell_cmp u q) first ∙ cell_apart t c (row ∷ chain_in t c) q (cell_out q e.entry.key is) ∙ at_chains es q order.1)
    ]

above_dropped : (j k : Key) (es : List Held) → IsAbove key_held j es → IsAbove key_held j (without_held es k)
above_dropped j k [] above = tt
above_dropped j k (e ∷ es) above = elim (cases_Bool (same_key e.entry.key k)) [
  | inl same ↦ rw same above.1
  | inr same ↦ rw same (above.0, above_dropped j k es above.1)
]

pub order_dropped : (k : Key) (es : List Held) → IsInOrder key_held es → IsInOrder key_held (without_held es k)
order_dropped k [] order = tt
order_dropped k (e ∷ es) order = elim (cases_Bool (same_key e.entry.key k)) [
  | inl same ↦ rw same order.1
  | inr same ↦ rw same (above_dropped e.entry.key k es order.0, order_dropped k es order.1)
]

same_out : (q : Cell) (j k : Key) → same_key j k ≡ true → in_cell q k ≡ false → in_cell q j ≡ false
same_out q j k same out = grind (arith, nat_tests)

same_in : (q : Cell) (j k : Key) → same_key j k ≡ true → in_cell q k ≡ true → in_cell q j ≡ true
same_in q j k same own = grind (arith, nat_tests)

-- another cell's chain stays
chain_out : (es : List Held) (k : Key) (q : Cell) → in_cell q k ≡ false → chain_held q (without_held es k) ≡ chain_held q es
chain_out [] k q out = refl
chain_out (e ∷ es) k q out = elim (cases_Bool (same_key e.entry.key k)) [
  | inl same ↦ rw (same, same_out q e.entry.key k same out) refl
  | inr same ↦ elim (cases_Bool (in_cell q e.entry.key)) [
    | inl own ↦ rw (same, own) (ap (λ (chain : Chain). (e.entry.key.epoch, stored_of e) ∷ chain) (chain_out es k q out))
    | inr own ↦ rw (same, own) (chain_out es k q out)
  ]
]

later_epoch : (q : Cell) (j k : Key) → key_below j k ≡ true → in_cell q j ≡ true → in_cell q k ≡ true → is_eq (nat_cmp j.epoch k.epoch) ≡ false
later_epoch q j k below a b = grind (arith, nat_tests)

none_above : (es : List Held) (k : Key) (q : Cell) → in_cell q k ≡ true → IsAbove key_held k es → at nat_cmp (chain_held q es) k.epoch ≡ None
unfolding at
none_above [] k q own above = refl
none_above (e ∷ es) k q own above = elim (cases_Bool (in_cell q e.entry.key)) [
  | inl is ↦
      rw is (ap (λ (b : Bool). cond b (Some (stored_of e)) (lookup (is_at (nat_cmp k.epoch)) (chain_held q es))) (later_epoch q k e.entry.key above.0 own is)
      ∙ none_above es k q own above.1)
  | inr is ↦ rw is (none_above es k q own above.1)
]

other_epoch : (q : Cell) (j k : Key) → same_key j k ≡ false → in_cell q j ≡ true → in_cell q k ≡ true → is_eq (nat_cmp k.epoch j.epoch) ≡ false
other_epoch q j k differ a b = grind (arith, nat_tests)

one_epoch : (j k : Key) → same_key j k ≡ true → is_eq (nat_cmp k.epoch j.epoch) ≡ true
one_epoch j k same = grind (arith, nat_tests)

equal_epoch : (j k : Key) → same_key j k ≡ true → j.epoch ≡ k.epoch
equal_epoch j k same = grind (arith, nat_tests)

without_head : (epoch : ℕ) (row : ℕ × Stored) (later : Chain) (b : Bool) → is_eq (nat_cmp epoch row.0) ≡ b
    → without nat_cmp (row ∷ later) epoch ≡ cond (not b) (row ∷ without nat_cmp later epoch) (without nat_cmp later epoch)
unfolding without
without_head epoch row later b is = ap (λ (x : Bool). cond (not x) (row ∷ without nat_cmp later epoch) (without nat_cmp later epoch)) is

none_gone : (epoch : ℕ) → without {X = Stored} nat_cmp [] epoch ≡ []
unfolding without
none_gone epoch = refl

-- the key's own cell has its chain without the entry
chain_own : (es : List Held) (k : Key) (q : Cell) → in_cell q k ≡ true → IsInOrder key_held es
    → chain_held q (without_held es k) ≡ without nat_cmp (chain_held q es) k.epoch
chain_own [] k q own order = sym (none_gone k.epoch)
chain_own (e ∷ es) k q own order = elim (cases_Bool (same_key e.entry.key k)) [
  | inl same ↦
      let row : ℕ × Stored = (e.entry.key.epoch, stored_of e) in
      let above : at nat_cmp (chain_held q es) e.entry.key.epoch ≡ None = none_above es e.entry.key q (same_in q e.entry.key k same own) order.0 in
      let none : at nat_cmp (chain_held q es) k.epoch ≡ None = ap (at nat_cmp (chain_held q es)) (sym (equal_epoch e.entry.key k same)) ∙ above in
      rw (same, same_in q e.entry.key k same own)
      (sym (without_head k.epoch row (chain_held q es) true (one_epoch e.entry.key k same) ∙ without_none nat_cmp (chain_held q es) k.epoch none))
  | inr same ↦ elim (cases_Bool (in_cell q e.entry.key)) [
    | inl is ↦
        let row : ℕ × Stored = (e.entry.key.epoch, stored_of e) in
        rw (same, is)
        (ap (λ (chain : Chain). row ∷ chain) (chain_own es k q own order.1)
        ∙ sym (without_head k.epoch row (chain_held q es) false (other_epoch q e.entry.key k same is own)))
    | inr is ↦ rw (same, is) (chain_own es k q own order.1)
  ]
]

own_key : (k : Key) → in_cell (cell_of k) k ≡ true
own_key k = grind (arith, nat_tests)

out_key : (q : Cell) (k : Key) → q ≢ cell_of k → in_cell q k ≡ false
out_key q k ne = elim (cases_Bool (in_cell q k)) [
  | inl is ↦ absurd (ne (cell_in q k is))
  | inr is ↦ is
]

-- what stands at a cell whose chain was changed
at_changed : (t : Table Cell Chain) (c : Cell) (chain : Chain) → at cell_cmp (chains_at t c chain) c ≡ some_chain chain
at_changed t c [] = cell_gone t c
at_changed t c (row ∷ later) = cell_same t c (row ∷ later)

at_others : (t : Table Cell Chain) (c : Cell) (chain : Chain) (q : Cell) → q ≢ c → at cell_cmp (chains_at t c chain) q ≡ at cell_cmp t q
at_others t c [] q ne = cell_gone_apart t c q ne
at_others t c (row ∷ later) q ne = cell_apart t c (row ∷ later) q ne

sorted_gone : (t : Table Cell Chain) (c : Cell) → IsSorted cell_cmp t → IsSorted cell_cmp (without cell_cmp t c)
unfolding without
sorted_gone t c sorted = rows.is_sorted-where_key cell_cmp (λ x. not (is_at (cell_cmp c) x)) t sorted

sorted_changed : (t : Table Cell Chain) (c : Cell) (chain : Chain) → IsSorted cell_cmp t → IsSorted cell_cmp (chains_at t c chain)
sorted_changed t c [] sorted = sorted_gone t c sorted
sorted_changed t c (row ∷ later) sorted = sorted_put cell_cmp cell_cmp_total t c (row ∷ later) sorted

-- to drop an entry from the list is to drop it from the chains
pub chains_dropped : (es : List Held) (k : Key) → IsInOrder key_held es
    → chains_of (without_held es k) ≡ chains_at (chains_of es) (cell_of k) (without nat_cmp (chain_in (chains_of es) (cell_of k)) k.epoch)
chains_dropped es k order =
    let c = cell_of k in
    let t = chains_of es in
    let left = without_held es k in
    let chain = without nat_cmp (chain_in t c) k.epoch in
    let in_chain : chain_held c left ≡ chain =
    chain_own es k c (own_key k) order ∙ ap (λ (rest : Chain). without nat_cmp rest k.epoch) (sym (chain_is key_held stored_of es c order)) in
    rows.same_entries cell_cmp cell_cmp_total cell_cmp_same (chains_of left) (chains_at t c chain)
    (well_by key_held stored_of left).sorted (sorted_changed t c chain (well_by key_held stored_of es).sorted)
    (λ q. at_is_find cell_cmp q (chains_of left) ∙ at_chains left q (order_dropped k es order)
    ∙ elim (cell_cases q c) [
      | inl same ↦
          ap (λ (d : Cell). some_chain (chain_held d left)) same ∙ ap some_chain in_chain ∙ sym (at_changed t c chain)
          ∙ ap (at cell_cmp (chains_at t c chain)) (sym same)
      | inr ne ↦
          ap some_chain (chain_out es k q (out_key q k ne)) ∙ sym (at_chains es q order) ∙ sym (at_others t c chain q ne)
    ]
    ∙ sym (at_is_find cell_cmp q (chains_at t c chain)))

-- a drop of an entry, as the rules see the store
pub dropped_is : {D : Type 0} (old new : Holdings D) (k : Key) → IsInOrder key_held old.entries → new.entries ≡ without_held old.entries k
    → new ≡ record old { entries = new.entries; log = new.log; disk = new.disk } → store_of new ≡ without_entry (store_of old) k
dropped_is {D = D} old new k order entries rest =
    let slots : new.slots ≡ old.slots = ap (λ (s : Holdings D). s.slots) rest in
    let chains = ap chains_of entries ∙ chains_dropped old.entries k order in
    let tickets : length new.tickets ≡ length old.tickets = ap (λ (s : Holdings D). length s.tickets) rest in
    let marks = ap (λ (s : Holdings D). s.marks) rest in
    let rows = ap (λ (s : Holdings D). s.rows) rest in
    let fresh = ap (λ (s : Holdings D). s.fresh) rest in
    λ i. record { slots = slots i; chains = chains i; tickets = tickets i; marks = marks i; rows = rows i; fresh = fresh i }
