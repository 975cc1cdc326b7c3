-- What a call takes from a source, and what it adds to a sink.
use Rattle.std.specs.Prelude.{◌≡◌, ◌≤◌, ◌<◌, ℕ, true, List, [], ◌++◌, length, take, drop, Option, Some, None, is_some}

-- the first n of the bytes left came, and stand at the front of the buffer, the rest of which stays as it was; none came only
-- at the end
pub record Takes (left rest old new : List ℕ) (n : ℕ) : Type 0 where
  pub enough : n ≤ length left
  pub buffer : new ≡ take n left ++ drop n old
  pub rest_is : rest ≡ drop n left
  pub ends : n ≡ 0 → 0 < length old → left ≡ []

-- some of the first bytes are gone
pub record Loses (left rest : List ℕ) : Type 0 where
  pub count : ℕ
  pub rest_is : rest ≡ drop count left

-- some of the first bytes are added
pub record Adds (old bytes new : List ℕ) : Type 0 where
  pub count : ℕ
  pub new_is : new ≡ old ++ take count bytes

-- the bytes, where they are known
abbrev pub known : Option (List ℕ) → List ℕ
known None = []
known (Some bytes) = bytes

-- the bytes of each value of a type are known
abbrev pub AreKnown : {T : Type 0} → (T → Option (List ℕ)) → Type 0
AreKnown bytes_of = (one : _) → is_some (bytes_of one) ≡ true
