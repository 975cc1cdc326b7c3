-- Membership in a list, and functions from numbers with one value changed.
use Rattle.std.specs.Prelude.{◌≡◌, ℕ, ◌==◌, List, [], ◌∷◌, ◌⊎◌, if◌then◌else◌}

-- it stands in the list
unfoldable pub In : {A : Type 0} → A → List A → Type 0
In x [] = ⊥
In x (y ∷ ys) = (x ≡ y) ⊎ In x ys

-- the function with this value at this number
unfoldable pub put_at : {A : Type 0} → (ℕ → A) → ℕ → A → ℕ → A
put_at f i x k = if k == i then x else f k
