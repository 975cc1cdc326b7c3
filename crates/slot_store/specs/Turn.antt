-- Slots in an order in which those in use come first.
use Rattle.std.specs.Prelude.{◌≡◌, ℕ, ◌+◌, ◌<◌, ◌^◌, Bool, false, nat_lt, List, length, slice_index_or, slice_set}
use Rattle.slot_store.specs.Slots.{free_in}

-- each number below n goes by f to one below n, from which g leads back
abbrev pub IsBackBy : ℕ → List ℕ → List ℕ → Type 0
IsBackBy n f g = (k : ℕ) → k < n → (slice_index_or f k 0 < n) × (slice_index_or g (slice_index_or f k 0) 0 ≡ k)

-- f with k going to j, and what went to j going where k went; g leads back
abbrev pub exchanged : List ℕ → List ℕ → ℕ → ℕ → List ℕ
exchanged f g k j = slice_set (slice_set f k j) (slice_index_or g j 0) (slice_index_or f k 0)

-- the slots in order, and the place of each; the first so many places are those of the slots in use
pub record IsInTurn (used : List Bool) (order place : List ℕ) (taken : ℕ) : Type 0 where
  pub ordered : length order ≡ length used
  pub placed : length place ≡ length used
  pub stands : IsBackBy (length used) place order
  pub holds : IsBackBy (length used) order place
  pub first : (slot : ℕ) → slot < length used → slice_index_or used slot false ≡ nat_lt (slice_index_or place slot 0) taken
  pub counted : taken + free_in used ≡ length used
  pub few : length used < 2 ^ 32
