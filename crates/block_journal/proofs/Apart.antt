-- A write outside of both halves leaves what they stand for.
use Rattle.std.proofs.Common.{◌≡◌, inl, inr, ℕ, ◌+◌, ◌-◌, ◌*◌, ◌<◌, ◌≤◌, List, length, sym, ◌∙◌, arith}
use Rattle.petal_disk.specs.Disk.{Torn, Follows}
use Rattle.block_journal.specs.Records.{Counts}
use Rattle.block_journal.specs.Halves.{CountIn, HalvesState, HeadCounts, IsListOf, Shows, Stored, half_start, other_half}
use Rattle.block_journal.specs.declared.half.Half.{Half}
use Rattle.block_journal.proofs.Halving.{half_from, half_to, head_torn, torn_back}
use Rattle.block_journal.proofs.Slots.{Outside, apart, same_byte, same_part}

-- a range outside of a region may have any bytes
pub counts_outside : (r base limit p n : ℕ) (x y : List ℕ) (bodies : List (List ℕ)) → 0 < r → Outside p n base (r * limit) → Torn p n x y
    → Counts r base limit x bodies → Counts r base limit y bodies
counts_outside r base limit p n x y bodies wide away torn counts =
    let within : (i : ℕ) → i < limit → Outside p n (base + r * i) r = λ i lt. let le : r * i + r ≤ r * limit = apart r i limit lt in
    elim away [ inl before ↦ inl (omega arith) | inr following ↦ inr (omega arith) ] in
    let gate : (i : ℕ) → i < limit → Outside p n (base + r * i) 1 = λ i lt.
    elim (within i lt) [ inl before ↦ inl (omega arith) | inr following ↦ inr following ] in
    let body : (i : ℕ) → i < limit → Outside p n (base + r * i + 1) (r - 1) = λ i lt.
    elim (within i lt) [ inl before ↦ inl (omega arith) | inr following ↦ inr (omega arith) ] in
    record {
      few = counts.few;
      counted = λ i lt.
          let inside : i < limit = omega (arith, counts.few, lt) in (
            same_byte p n (base + r * i) x y torn (gate i inside) ∙ (counts.counted i lt).0,
            same_part p n (base + r * i + 1) (r - 1) x y torn (body i inside) ∙ (counts.counted i lt).1,
          );
      ends = λ lt opened. counts.ends lt (sym (same_byte p n (base + r * length bodies) x y torn (gate (length bodies) lt)) ∙ opened);
    }

module _ (base p n : ℕ) (x y : List ℕ) (away : Outside p n base 4194304) (torn : Torn p n x y) where
  -- what lies in a half lies outside of the range
  in_half : (half : Half) (k m : ℕ) → k + m ≤ 2097152 → Outside p n (half_start base half + k) m
  in_half half k m le =
      let from = half_from base half in
      let to = half_to base half in
      elim away [ inl before ↦ inl (omega (arith, before, to, le)) | inr following ↦ inr (omega (arith, following, from)) ]

  head_away : (half : Half) → Outside p n (half_start base half) 64
  head_away half =
      let from = half_from base half in
      let to = half_to base half in
      elim away [ inl before ↦ inl (omega (arith, before, to)) | inr following ↦ inr (omega (arith, following, from)) ]

  head_back : (half : Half) (generation : ℕ) → HeadCounts (half_start base half) generation y → HeadCounts (half_start base half) generation x
  head_back half generation = head_torn p n (half_start base half) generation y x (torn_back p n x y torn) (head_away half)

  count_apart : (half : Half) (generation : ℕ) (xs : List (List ℕ)) → CountIn base half generation x xs → CountIn base half generation y xs
  count_apart half generation xs list = record {
    head = head_torn p n (half_start base half) generation x y torn (head_away half) list.head;
    later = λ other head. list.later other (head_back (other_half half) other head);
    counts = counts_outside 64 (half_start base half + 64) 32767 p n x y xs (omega arith) (in_half half 64 (64 * 32767) (omega arith)) torn list.counts;
  }

  pub list_apart : (xs : List (List ℕ)) → IsListOf base x xs → IsListOf base y xs
  list_apart xs list = (list.0, (list.1.0, count_apart list.0 list.1.0 xs list.1.1))

shows_apart : (state : HalvesState) (p n : ℕ) (x y : List ℕ) (xs : List (List ℕ)) → Outside p n state.base 4194304 → Torn p n x y → Shows state x xs
    → Shows state y xs
shows_apart state p n x y xs away torn shows =
    let idle = half_start state.base (other_half state.active) in
    let head = head_away state.base p n x y away torn (other_half state.active) in
    let gate : Outside p n idle 1 = elim head [ inl before ↦ inl (omega (arith, before)) | inr following ↦ inr following ] in
    record {
      list = count_apart state.base p n x y away torn state.active state.generation xs shows.list;
      opened = λ is. same_byte p n idle x y torn gate ∙ shows.opened is;
      shut = λ is opened. shows.shut is (sym (same_byte p n idle x y torn gate) ∙ opened);
    }

pub stored_apart : (state : HalvesState) (p n : ℕ) (x y : List ℕ) (leave leave' : List ℕ → Type 0) (xs : List (List ℕ)) → Outside p n state.base 4194304
    → Torn p n x y → Follows (Torn p n) leave leave' → Stored state x leave xs → Stored state y leave' xs
stored_apart state p n x y leave leave' xs away torn follows stored = record {
  count = stored.count;
  now = shows_apart state p n x y xs away torn stored.now;
  left = λ c here.
      let from = follows c here in
      shows_apart state p n from.0 c xs away from.2 (stored.left from.0 from.1);
}
