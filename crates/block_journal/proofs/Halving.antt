-- What a write into one of two halves changes.
use Rattle.std.proofs.Common.{◌⊎◌, inl, inr, ℕ, ◌+◌, ◌≤◌, List, sym, ◌∙◌, arith}
use Rattle.petal_disk.specs.Disk.{Torn}
use Rattle.block_journal.specs.Records.{Counts}
use Rattle.block_journal.specs.Halves.{HeadCounts, CountIn, HalvesState, Shows, half_start, other_half}
use Rattle.block_journal.specs.declared.half.Half.{Half}
use Rattle.block_journal.specs.declared.half.Half.TheVariants.{First, Second}
use Rattle.block_journal.proofs.Slots.{Outside, same_byte, same_part}

-- each half lies within both, and apart from the other
pub half_from : (base : ℕ) (half : Half) → base ≤ half_start base half
half_from base First = omega arith
half_from base Second = omega arith

pub half_to : (base : ℕ) (half : Half) → half_start base half + 2097152 ≤ base + 4194304
half_to base First = omega arith
half_to base Second = omega arith

pub halves_apart : (base : ℕ) (half : Half)
    → (half_start base half + 2097152 ≤ half_start base (other_half half)) ⊎ (half_start base (other_half half) + 2097152 ≤ half_start base half)
halves_apart base First = inl (omega arith)
halves_apart base Second = inr (omega arith)

pub torn_back : (p n : ℕ) (x y : List ℕ) → Torn p n x y → Torn p n y x
torn_back p n x y torn = record { before = sym torn.before; after = sym torn.after; size = sym torn.size }

pub head_torn : (p n at generation : ℕ) (x y : List ℕ) → Torn p n x y → Outside p n at 64 → HeadCounts at generation x → HeadCounts at generation y
head_torn p n at generation x y torn away head = record {
  opened = same_byte p n at x y torn (elim away [ inl before ↦ inl (omega arith) | inr following ↦ inr following ]) ∙ head.opened;
  spelled = same_part p n (at + 1) 63 x y torn (elim away [ inl before ↦ inl (omega arith) | inr following ↦ inr (omega arith) ]) ∙ head.spelled;
  fits = head.fits;
}

-- a range within a half
module _ (base : ℕ) (half : Half) (p n : ℕ) (x y : List ℕ) (torn : Torn p n x y) (from : half_start base half ≤ p)
    (to : p + n ≤ half_start base half + 2097152) where
  -- leaves the other half
  pub beside : (k m : ℕ) → k + m ≤ 2097152 → Outside p n (half_start base (other_half half) + k) m
  beside k m le = elim (halves_apart base half) [ inl before ↦ inr (omega (arith, before, to, le)) | inr following ↦ inl (omega (arith, following, from, le)) ]

  pub head_beside : (generation : ℕ) → HeadCounts (half_start base (other_half half)) generation x → HeadCounts (half_start base (other_half half)) generation y
  head_beside generation = head_torn p n (half_start base (other_half half)) generation x y torn
      (elim (halves_apart base half) [ inl before ↦ inr (omega (arith, before, to)) | inr following ↦ inl (omega (arith, following, from)) ])

  pub head_beside_back : (generation : ℕ) → HeadCounts (half_start base (other_half half)) generation y
      → HeadCounts (half_start base (other_half half)) generation x
  head_beside_back generation = head_torn p n (half_start base (other_half half)) generation y x (torn_back p n x y torn)
      (elim (halves_apart base half) [ inl before ↦ inr (omega (arith, before, to)) | inr following ↦ inl (omega (arith, following, from)) ])

-- a change of the list in the later half
pub list_within : (base : ℕ) (half : Half) (generation p n : ℕ) (x y : List ℕ) (olds news : List (List ℕ)) → half_start base half + 64 ≤ p
    → p + n ≤ half_start base half + 2097152 → Torn p n x y → CountIn base half generation x olds → Counts 64 (half_start base half + 64) 32767 y news
    → CountIn base half generation y news
list_within base half generation p n x y olds news from to torn list counts = record {
  head = head_torn p n (half_start base half) generation x y torn (inl from) list.head;
  later = λ other head. list.later other (head_beside_back base half p n x y torn (omega (arith, from)) to other head);
  counts = counts;
}

-- so what is kept of the halves is shown, but for the number of bodies
pub shows_within : (state : HalvesState) (count p n : ℕ) (x y : List ℕ) (olds news : List (List ℕ)) → half_start state.base state.active + 64 ≤ p
    → p + n ≤ half_start state.base state.active + 2097152 → Torn p n x y → Shows state x olds
    → Counts 64 (half_start state.base state.active + 64) 32767 y news → Shows (record state { count = count }) y news
shows_within state count p n x y olds news from to torn shows counts =
    let idle = half_start state.base (other_half state.active) in
    let away : Outside p n idle 1 =
    elim (halves_apart state.base state.active) [ inl before ↦ inr (omega (arith, before, to)) | inr following ↦ inl (omega (arith, following, from)) ] in
    record {
      list = list_within state.base state.active state.generation p n x y olds news from to torn shows.list counts;
      opened = λ is. same_byte p n idle x y torn away ∙ shows.opened is;
      shut = λ is opened. shows.shut is (sym (same_byte p n idle x y torn away) ∙ opened);
    }
