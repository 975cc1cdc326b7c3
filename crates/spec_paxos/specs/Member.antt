-- Members of lists, and tables by number with one entry given again.
use Rattle.std.specs.Prelude.{ℕ, ◌≡◌, ◌⊎◌, if◌then◌else◌, ◌==◌, ◌&&◌, List, [], ◌∷◌}

-- x stands in the list
unfoldable pub In : {X : Type 0} → X → List X → Type 0
In x [] = ⊥
In x (y ∷ ys) = (x ≡ y) ⊎ In x ys

-- the table with this entry at k
unfoldable pub put : {A : Type 0} → (ℕ → A) → ℕ → A → ℕ → A
put f k x j = if j == k then x else f j

-- the table by two numbers with this entry at s and p
unfoldable pub put_at : {A : Type 0} → (ℕ → ℕ → A) → ℕ → ℕ → A → ℕ → ℕ → A
put_at f s p x i j = if (i == s) && (j == p) then x else f i j
