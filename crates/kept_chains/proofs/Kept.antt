-- What a store answers is what the rules read in its chains.
use Rattle.std.proofs.Common.{◌≡◌, ◌==◌, ◌≤◌, ◌+◌, ◌-◌, true, false, max, nat_eq, List, [], ◌∷◌, length, Option, Some, None, refl, sym, ap, ◌∙◌, arith, inl, inr}
use Rattle.std.proofs.lemmas.Bool.{cases_Bool}
use Rattle.std.specs.Prelude.{option_map}
use Rattle.std.specs.Cmp.Lexicographic.{pointwise}
use Rattle.std.specs.Option.{option_map_or}
use Rattle.petal_base.specs.declared.cell.Cell.{Cell}
use Rattle.petal_base.specs.declared.cell.Key.{Key}
use Rattle.petal_base.specs.Cells.{cell_of}
use Rattle.spec_rules.specs.Store as rules
use Rattle.spec_rules.proofs.Tests.{both_true, nat_lists_same, same_numbers}
use Rattle.physical_map.specs.Entries.{in_cell, version_of, top_of}
use Rattle.physical_map.specs.Keys.{placed, newest, IsInOrder}
use Rattle.server_store.specs.Holdings.{Held, Holdings, key_held, listed, free_slots, content_of}
use Rattle.kept_chains.specs.Chains.{chain_by}
use Rattle.kept_chains.specs.Kept.{stored_of, chains_of, store_of}
use Rattle.kept_chains.proofs.Chains.{chains_placed, put_again, well_by}
use Rattle.kept_chains.proofs.InOrder.{chain_is, top_is, count_is, entry_is, version_le_top}

version_by : (es : List Held) (cell : Cell) → rules.version_of (chain_by key_held stored_of cell es) ≡ version_of cell (listed es)
version_by [] cell = refl
version_by (e ∷ es) cell = elim (cases_Bool (in_cell cell e.entry.key)) [
  | inl is ↦ rw (is, version_by es cell) refl
  | inr is ↦ rw (is, version_by es cell) refl
]

-- a cell's greatest version
pub version_is : (es : List Held) (cell : Cell) → IsInOrder key_held es → version_of cell (listed es) ≡ rules.version_of (rules.chain_in (chains_of es) cell)
version_is es cell order = sym (ap rules.version_of (chain_is key_held stored_of es cell order) ∙ version_by es cell)

-- the greatest version of all
pub top_of_is : (es : List Held) → IsInOrder key_held es → top_of (listed es) ≡ rules.top_of (chains_of es)
top_of_is [] order = refl
top_of_is (e ∷ es) order = ap (max e.entry.version) (top_of_is es order.1) ∙ sym (top_is key_held stored_of e es order)

pub version_below : (es : List Held) (cell : Cell) → IsInOrder key_held es → version_of cell (listed es) ≤ rules.top_of (chains_of es)
version_below es cell order = rw (version_is es cell order) (version_le_top (chains_of es) cell)

-- how many slots are free
pub free_is : {D : Type 0} (s : Holdings D) → IsInOrder key_held s.entries → free_slots s ≡ rules.free_of (store_of s)
free_is s order = let n : rules.entries_of (chains_of s.entries) ≡ length s.entries = count_is key_held stored_of s.entries order in omega (arith, n)

bytes_are : (found : Option Held) → rules.bytes_of (option_map stored_of found) ≡ content_of found
bytes_are None = refl
bytes_are (Some held) = refl

-- what a read gives
pub content_is : (es : List Held) (k : Key) → IsInOrder key_held es
    → content_of (newest key_held k es) ≡ rules.bytes_of (rules.entry_at (rules.chain_in (chains_of es) (cell_of k)) k.epoch)
content_is es k order = sym (ap rules.bytes_of (entry_is key_held stored_of es k order) ∙ bytes_are (newest key_held k es))

-- a put of an entry
pub placed_is : (es : List Held) (h : Held) → chains_of (placed key_held es h) ≡ rules.chains_with (chains_of es) (key_held h) (stored_of h)
placed_is es h = chains_placed key_held stored_of es h

-- an entry that stands at its key
pub is_there : (o : Option rules.Stored) (x : rules.Stored) → option_map_or (rules.same_stored x) o false ≡ true → o ≡ Some x
is_there None x is = absurd (cc)
is_there (Some y) x is =
    let both = both_true (x.version == y.version) (pointwise nat_eq x.bytes y.bytes) is in
    let version_is = same_numbers x.version y.version both.0 in
    let bytes_are = nat_lists_same x.bytes y.bytes both.1 in
    λ i. Some (record { version = sym version_is i; bytes = sym bytes_are i })

-- an entry that is there already: to put it changes nothing of the store
pub stored_again : {D : Type 0} (s : Holdings D) (k : Key) (x : rules.Stored) → rules.has_stored (store_of s) k x ≡ true
    → rules.with_entry (rules.with_ticket (store_of s)) k x ≡ store_of s
stored_again s k x is =
    let chains = put_again (chains_of s.entries) k x (well_by key_held stored_of s.entries) (is_there _ x is) in
    let tickets : length s.tickets + 1 - 1 ≡ length s.tickets = omega arith in
    λ i. record { slots = s.slots; chains = chains i; tickets = tickets i; marks = s.marks; rows = s.rows; fresh = s.fresh }
