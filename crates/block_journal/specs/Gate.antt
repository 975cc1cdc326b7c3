-- The gate of a device is its first byte. What stands on the device counts only while it is open.
use Rattle.std.specs.Prelude.{◌≡◌, ◌≢◌, ℕ, List, [], ◌∷◌, take}

-- the gate is closed
abbrev pub IsShut : List ℕ → Type 0
IsShut file = take 1 file ≢ 165 ∷ []

-- bytes that begin with an open gate
abbrev pub BeginsOpen : List ℕ → Type 0
BeginsOpen bytes = take 1 bytes ≡ 165 ∷ []
