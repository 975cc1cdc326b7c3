-- A group: bodies that are appended together. It is written from behind its first gate, with the other gates open and the gate
-- behind it closed, and counts from the moment when the first gate is open.
use Rattle.std.specs.Prelude.{◌≡◌, ◌<◌, ◌≤◌, ℕ, ◌+◌, ◌*◌, List, [], ◌∷◌, ◌++◌, drop, length, slice_index, slice_index_or}
use Rattle.petal_disk.specs.Disk.{part}
use Rattle.block_journal.specs.Records.{IsOpen, body_at}
use Rattle.block_journal.specs.declared.half.TheConstants.{RECORD_BYTES, BODY_BYTES}

-- bodies, each behind an open gate
abbrev pub gated : List (List ℕ) → List ℕ
gated [] = []
gated (body ∷ rest) = 165 ∷ body ++ gated rest

-- what is written of a group ahead of its first gate; behind it stands a closed gate, or nothing at the end of a half
abbrev pub group_bytes : List (List ℕ) → List ℕ → List ℕ
group_bytes bodies behind = drop 1 (gated bodies ++ behind)

-- the first k bodies of a group stand in the records from `at` on, of which there are `limit`: each body, and the gate behind it
pub record Laid (at limit k : ℕ) (file : List ℕ) (bodies : List (List ℕ)) : Type 0 where
  pub few : k ≤ length bodies
  pub bodies_there : (i : ℕ) → i < k → body_at RECORD_BYTES at file i ≡ slice_index_or bodies i []
  pub opened : (i : ℕ) → i < k → i + 1 < length bodies → IsOpen RECORD_BYTES at file (i + 1)
  pub shut : k ≡ length bodies → k < limit → ¬ IsOpen RECORD_BYTES at file k

-- a piece has n of the bodies, from that one on, each with the gate behind it
pub record Filled (bodies : List (List ℕ)) (first n : ℕ) (piece : List ℕ) : Type 0 where
  pub bodies_there : (i : ℕ) → i < n → part piece (RECORD_BYTES * i) BODY_BYTES ≡ slice_index_or bodies (first + i) []
  pub opened : (i : ℕ) → i < n → first + i + 1 < length bodies → slice_index piece (RECORD_BYTES * i + BODY_BYTES) ≡ 165
  pub shut : (i : ℕ) → i < n → first + i + 1 ≡ length bodies → slice_index piece (RECORD_BYTES * i + BODY_BYTES) ≡ 0
