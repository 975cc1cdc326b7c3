-- Lists in order.
use Rattle.std.specs.Prelude.{◌≡◌, ◌<◌, ◌≤◌, ℕ, List, [], ◌∷◌, length, slice_index_or}
use Rattle.std.specs.Ordering.{match_ordering}
use Rattle.std.specs.declared.cmp.Ordering.{Ordering}
use Rattle.std.specs.declared.cmp.Ordering.TheVariants.{Less, Equal, Greater}

-- the items in order, and for how many more there is room
pub record Listed (A : Type 0) : Type 0 where
  pub items : List A
  pub spare : ℕ

-- the list with x at its place, in place of what ties with it
abbrev pub placed : {A : Type 0} → (A → A → Ordering) → List A → A → List A
placed R [] x = x ∷ []
placed R (y ∷ ys) x = match_ordering (R x y) (x ∷ y ∷ ys) (x ∷ ys) (y ∷ placed R ys x)

-- what stands there ties with x, and what stands before it comes before x
pub record Hit {A : Type 0} (R : A → A → Ordering) (x : A) (xs : List A) (at : ℕ) : Type 0 where
  pub within : at < length xs
  pub before : (k : ℕ) (d : A) → k < at → R x (slice_index_or xs k d) ≡ Greater
  pub ties : (d : A) → R x (slice_index_or xs at d) ≡ Equal

-- x goes there: what stands before it comes before x, and the rest after it
pub record Gap {A : Type 0} (R : A → A → Ordering) (x : A) (xs : List A) (at : ℕ) : Type 0 where
  pub within : at ≤ length xs
  pub before : (k : ℕ) (d : A) → k < at → R x (slice_index_or xs k d) ≡ Greater
  pub following : (k : ℕ) (d : A) → at ≤ k → k < length xs → R x (slice_index_or xs k d) ≡ Less
