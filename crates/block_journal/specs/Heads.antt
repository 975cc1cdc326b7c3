-- What is read of a Head, and of two.
use Rattle.std.specs.Prelude.{◌≡◌, ℕ, Bool, true, false, List, Option, Some, None, slice_index, if◌then◌else◌}
use Rattle.block_journal.specs.Halves.{HeadCounts, IsLater, first_is_later, other_half, half_start}
use Rattle.block_journal.specs.declared.half.Half.{Half}
use Rattle.block_journal.specs.declared.half.Half.TheVariants.{First, Second}
use Rattle.block_journal.specs.declared.head.Later.{Later}

-- whether a gate is open
pub record GateIs (opened : Bool) (at : ℕ) (file : List ℕ) : Type 0 where
  pub is_open : opened ≡ true → slice_index file at ≡ 165
  pub is_shut : opened ≡ false → ¬ (slice_index file at ≡ 165)

-- the generation of the Head there, where it counts
abbrev pub GenerationIs : Option ℕ → ℕ → List ℕ → Type 0
GenerationIs (Some generation) at file = HeadCounts at generation file × ((other : ℕ) → HeadCounts at other file → other ≡ generation)
GenerationIs None at file = (generation : ℕ) → ¬ HeadCounts at generation file

-- the later half by the generations of the Heads that count, and by whose gates are open
abbrev pub later_of : Option ℕ → Option ℕ → Bool → Bool → Option Later
later_of None None first_open second_open = None
later_of (Some first) None first_open second_open = Some (record { half = First; generation = first; idle_open = second_open })
later_of None (Some second) first_open second_open = Some (record { half = Second; generation = second; idle_open = first_open })
later_of (Some first) (Some second) first_open second_open =
    if first_is_later first second
    then Some (record { half = First; generation = first; idle_open = second_open })
    else Some (record { half = Second; generation = second; idle_open = first_open })

-- that half is the later one among those whose Head counts, and it is told whether the gate of the other Head is open
pub record IsLaterHalf (base : ℕ) (file : List ℕ) (later : Later) : Type 0 where
  pub head : HeadCounts (half_start base later.half) later.generation file
  pub other_before : (other : ℕ) → HeadCounts (half_start base (other_half later.half)) other file → IsLater later.half later.generation other
  pub idle : GateIs later.idle_open (half_start base (other_half later.half)) file

-- no Head counts
abbrev pub NoHeadCounts : ℕ → List ℕ → Type 0
NoHeadCounts base file = (half : Half) (generation : ℕ) → ¬ HeadCounts (half_start base half) generation file

-- the later half is found, where a Head counts
abbrev pub IsFound : Option Later → ℕ → List ℕ → Type 0
IsFound (Some later) base file = IsLaterHalf base file later
IsFound None base file = NoHeadCounts base file

-- a gate is not open
abbrev pub IsShutAt : ℕ → List ℕ → Type 0
IsShutAt at file = ¬ (slice_index file at ≡ 165)

-- how many bytes are written to close a gate that is open or not
abbrev pub gate_bytes : Bool → ℕ
gate_bytes true = 1
gate_bytes false = 0
