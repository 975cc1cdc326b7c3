-- Which of two halves is found to be the later one.
use Rattle.std.proofs.Common.{◌≡◌, true, false, Bool, ℕ, ◌+◌, List, length, sym, subst, refl}
use Rattle.std.specs.Prelude.{Option, Some, None, if◌then◌else◌}
use Rattle.petal_disk.specs.Disk.{Only}
use Rattle.block_journal.specs.Records.{Counts}
use Rattle.block_journal.specs.Halves.{HeadCounts, CountIn, HalvesState, Shows, Stored, first_is_later, half_start}
use Rattle.block_journal.specs.Heads.{GateIs, GenerationIs, IsFound, IsLaterHalf, NoHeadCounts, later_of}
use Rattle.block_journal.specs.declared.half.Half.TheVariants.{First, Second}
use Rattle.block_journal.specs.declared.head.Later.{Later}

neither : (base : ℕ) (file : List ℕ) → ((generation : ℕ) → ¬ HeadCounts base generation file)
    → ((generation : ℕ) → ¬ HeadCounts (base + 2097152) generation file) → NoHeadCounts base file
neither base file first second First = first
neither base file first second Second = second

both : (first second : ℕ) (first_open second_open chosen : Bool) (base : ℕ) (file : List ℕ) → first_is_later first second ≡ chosen
    → GateIs first_open base file → GenerationIs (Some first) base file → GateIs second_open (base + 2097152) file
    → GenerationIs (Some second) (base + 2097152) file
    → IsFound (if chosen
    then Some (record { half = First; generation = first; idle_open = second_open })
    else Some (record { half = Second; generation = second; idle_open = first_open })) base file
both first second first_open second_open true base file is gate one gate' other = record {
  head = one.0;
  other_before = λ it head. subst (λ (k : ℕ). first_is_later first k ≡ true) (sym (other.1 it head)) is;
  idle = gate';
}
both first second first_open second_open false base file is gate one gate' other = record {
  head = other.0;
  other_before = λ it head. subst (λ (k : ℕ). first_is_later k second ≡ false) (sym (one.1 it head)) is;
  idle = gate;
}

pub found_later : (first second : Option ℕ) (first_open second_open : Bool) (base : ℕ) (file : List ℕ) → GateIs first_open base file
    → GenerationIs first base file → GateIs second_open (base + 2097152) file → GenerationIs second (base + 2097152) file
    → IsFound (later_of first second first_open second_open) base file
found_later None None first_open second_open base file gate one gate' other = neither base file one other
found_later (Some first) None first_open second_open base file gate one gate' other =
    record { head = one.0; other_before = λ it head. absurd (other it head); idle = gate' }
found_later None (Some second) first_open second_open base file gate one gate' other =
    record { head = other.0; other_before = λ it head. absurd (one it head); idle = gate }
found_later (Some first) (Some second) first_open second_open base file gate one gate' other =
    both first second first_open second_open (first_is_later first second) base file refl gate one gate' other

-- the bodies that are read behind its Head are the list
pub found_list : (base : ℕ) (found : Later) (file : List ℕ) (bodies : List (List ℕ)) → IsLaterHalf base file found
    → Counts 64 (half_start base found.half + 64) 32767 file bodies → CountIn base found.half found.generation file bodies
found_list base found file bodies later counts = record { head = later.head; later = later.other_before; counts = counts }

-- and they are stored
pub found_stored : (base : ℕ) (found : Later) (count : ℕ) (file seen : List ℕ) (leave : List ℕ → Type 0) (bodies : List (List ℕ)) → seen ≡ file
    → Only seen leave → IsLaterHalf base file found → Counts 64 (half_start base found.half + 64) 32767 file bodies → count ≡ length bodies
    → Stored (record { base = base; active = found.half; generation = found.generation; count = count; idle_open = found.idle_open }) seen leave bodies
found_stored base found count file seen leave bodies same only later counts long =
    let state : HalvesState =
    record { base = base; active = found.half; generation = found.generation; count = count; idle_open = found.idle_open } in
    let shows : Shows state file bodies = record {
      list = found_list base found file bodies later counts;
      opened = later.idle.is_open;
      shut = later.idle.is_shut;
    } in
    let now : Shows state seen bodies = subst (λ (f : List ℕ). Shows state f bodies) (sym same) shows in
    record { count = long; now = now; left = λ c here. subst (λ (f : List ℕ). Shows state f bodies) (sym (only c here)) now }
