-- Two halves of a journal, one behind the other, of which the later one counts. Each begins with a Head, which has a generation, and
-- its list stands behind it.
use Rattle.std.specs.Prelude.{◌≡◌, ◌⊎◌, ◌<◌, ◌≤◌, ℕ, ◌+◌, ◌^◌, ◌==◌, nat_le, Bool, true, false, if◌then◌else◌}
use Rattle.std.specs.Prelude.{List, ◌++◌, length, replicate, slice_index}
use Rattle.petal_disk.specs.Disk.{part, Torn}
use Rattle.record_fields.specs.Fields.{byte, long, IsLong}
use Rattle.block_journal.specs.Records.{Counts}
use Rattle.block_journal.specs.declared.half.Half.{Half}
use Rattle.block_journal.specs.declared.half.Half.TheVariants.{First, Second}
use Rattle.block_journal.specs.declared.half.TheConstants.{RECORD_BYTES, BODY_BYTES, HALF_BODIES, HALF_BYTES, HALVES_BYTES}

abbrev pub other_half : Half → Half
other_half First = Second
other_half Second = First

-- the first byte of a half
abbrev pub half_start : ℕ → Half → ℕ
half_start base First = base
half_start base Second = base + HALF_BYTES

-- the body of a Head: its kind, its generation, zeros
abbrev pub head_body : ℕ → List ℕ
head_body generation = byte 6 ++ long generation ++ replicate 54 0

-- the Head there counts, with this generation: its gate is open, and it is spelled
pub record HeadCounts (at generation : ℕ) (file : List ℕ) : Type 0 where
  pub opened : slice_index file at ≡ 165
  pub spelled : part file (at + 1) BODY_BYTES ≡ head_body generation
  pub fits : IsLong generation

-- one greater, and 0 behind the greatest
abbrev pub next_generation : ℕ → ℕ
next_generation generation = if generation == 18446744073709551615 then 0 else generation + 1

-- by whether the first of two is the next of the second, whether the second is the next of the first, and what is to count where
-- neither is or each is
abbrev pub later_by : Bool → Bool → Bool → Bool
later_by true false otherwise = true
later_by false true otherwise = false
later_by true true otherwise = otherwise
later_by false false otherwise = otherwise

-- the first half is the later one of two with these generations: it alone is the next of the other, or neither or each is, and it is
-- not the lesser
abbrev pub first_is_later : ℕ → ℕ → Bool
first_is_later first second = later_by (next_generation second == first) (next_generation first == second) (nat_le second first)

-- that half is the later one, with its generation and that of the other
abbrev pub IsLater : Half → ℕ → ℕ → Type 0
IsLater First generation other = first_is_later generation other ≡ true
IsLater Second generation other = first_is_later other generation ≡ false

-- the halves from base on stand for these bodies: they count in the half that is the later one among those whose Head counts
pub record CountIn (base : ℕ) (active : Half) (generation : ℕ) (file : List ℕ) (bodies : List (List ℕ)) : Type 0 where
  pub head : HeadCounts (half_start base active) generation file
  pub later : (other : ℕ) → HeadCounts (half_start base (other_half active)) other file → IsLater active generation other
  pub counts : Counts RECORD_BYTES (half_start base active + RECORD_BYTES) HALF_BODIES file bodies

abbrev pub IsListOf : ℕ → List ℕ → List (List ℕ) → Type 0
IsListOf base file bodies = (active : Half) × ((generation : ℕ) × CountIn base active generation file bodies)

-- what is kept of two halves: where they stand, which one counts, its generation, the number of its bodies, and whether the gate of
-- the other Head is open
pub record HalvesState : Type 0 where
  pub base : ℕ
  pub active : Half
  pub generation : ℕ
  pub count : ℕ
  pub idle_open : Bool

-- the bytes of the halves have offsets of 64 bits
pub record ArePlaced (state : HalvesState) : Type 0 where
  pub fits : state.base + HALVES_BYTES < 2 ^ 64
  pub within : state.count ≤ HALF_BODIES

-- a device shows what is kept of the halves, and their list
pub record Shows (state : HalvesState) (file : List ℕ) (bodies : List (List ℕ)) : Type 0 where
  pub list : CountIn state.base state.active state.generation file bodies
  pub opened : state.idle_open ≡ true → slice_index file (half_start state.base (other_half state.active)) ≡ 165
  pub shut : state.idle_open ≡ false → ¬ (slice_index file (half_start state.base (other_half state.active)) ≡ 165)

-- the halves stand for these bodies on a disk, whatever a crash leaves
pub record Stored (state : HalvesState) (seen : List ℕ) (may_leave : List ℕ → Type 0) (bodies : List (List ℕ)) : Type 0 where
  pub count : state.count ≡ length bodies
  pub now : Shows state seen bodies
  pub left : (c : List ℕ) → may_leave c → Shows state c bodies

-- one of two lists
abbrev pub OldOrNew : ℕ → List (List ℕ) → List (List ℕ) → List ℕ → Type 0
OldOrNew base old new file = IsListOf base file old ⊎ IsListOf base file new

-- what a crash may leave of a call that makes a new list: the old one or the new one, and outside the halves what it might have left
-- before
pub record LeftByChange (base : ℕ) (may_leave : List ℕ → Type 0) (old new : List (List ℕ)) (c : List ℕ) : Type 0 where
  pub list : OldOrNew base old new c
  pub from : List ℕ
  pub from_left : may_leave from
  pub outside : Torn base HALVES_BYTES from c
