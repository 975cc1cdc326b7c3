-- Each slot in use is that of one entry or of one ticket.
use Rattle.std.specs.Prelude.{◌≡◌, ℕ, zero, suc, ◌+◌, ◌^◌, ◌<◌, ◌≤◌, ◌==◌, Bool, false, List, [], ◌∷◌, length, slice_set, Option, None, Some, if◌then◌else◌}
use Rattle.physical_map.specs.declared.entry.Entry.{Entry}
use Rattle.physical_map.specs.Entries.{key_of}
use Rattle.physical_map.specs.Keys.{IsInOrder}
use Rattle.slot_store.specs.Slots.{free_in}

-- 1 where it is so
abbrev pub as_count : Bool → ℕ
as_count b = if b then 1 else 0

-- how often a number stands in a list
abbrev pub times : ℕ → List ℕ → ℕ
times slot [] = 0
times slot (s ∷ ss) = as_count (s == slot) + times slot ss

-- how many entries have their content in a slot
abbrev pub holders : ℕ → List Entry → ℕ
holders slot [] = 0
holders slot (e ∷ es) = as_count (e.slot == slot) + holders slot es

-- 1 where the slot is in use
abbrev pub in_use : List Bool → ℕ → ℕ
in_use [] slot = 0
in_use (u ∷ us) zero = as_count u
in_use (u ∷ us) (suc slot) = in_use us slot

-- the entries and the tickets share the slots in use out, and the others are free
pub record Accounts (entries : List Entry) (tickets : List ℕ) (used : List Bool) : Type 0 where
  pub each_once : (slot : ℕ) → holders slot entries + times slot tickets ≡ in_use used slot
  pub all : length entries + length tickets + free_in used ≡ length used

-- the accounts of entries in order, and room for the entry of each ticket
pub record Sound (entries : List Entry) (tickets : List ℕ) (used : List Bool) (spare out : ℕ) : Type 0 where
  pub accounts : Accounts entries tickets used
  pub order : IsInOrder key_of entries
  pub room : length tickets ≤ spare
  pub counted : out ≡ length tickets
  pub few : length used < 2 ^ 32

-- what the entries, tickets and number of slots are
pub record Book : Type 0 where
  pub entries : List Entry
  pub tickets : List ℕ
  pub slots : ℕ

-- the slots in use without one, if there is one
abbrev pub given : List Bool → Option ℕ → List Bool
given used None = used
given used (Some slot) = slice_set used slot false
