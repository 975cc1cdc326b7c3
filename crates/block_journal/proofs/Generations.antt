-- A Head has one generation, and the next generation is that of the later half.
use Rattle.std.proofs.Common.{◌≡◌, ◌⊎◌, inl, inr, true, false, Bool, ℕ, ◌+◌, ◌<◌, ◌^◌, List, take, drop, refl, sym, ◌∙◌, ap, arith}
use Rattle.std.specs.Prelude.{◌==◌, nat_le, if◌then◌else◌}
use Rattle.std.specs.Int.{from_be_bytes}
use Rattle.std.proofs.Common.{w64}
use Rattle.std.proofs.lemmas.Bool.{cases_eq, eq-eqb, ne_eqb}
use Rattle.std.proofs.lemmas.Nat.{from_be_bytes-to_be_bytes_8}
use Rattle.block_journal.specs.Halves.{HeadCounts, IsLater, head_body, next_generation, later_by}
use Rattle.block_journal.specs.declared.half.Half.{Half}
use Rattle.block_journal.specs.declared.half.Half.TheVariants.{First, Second}

pub head_once : (at one other : ℕ) (file : List ℕ) → HeadCounts at one file → HeadCounts at other file → one ≡ other
head_once at one other file head head' =
    let same : head_body one ≡ head_body other = sym head.spelled ∙ head'.spelled in
    sym (from_be_bytes-to_be_bytes_8 one head.fits)
    ∙ ap (λ (l : List ℕ). from_be_bytes w64 (take 8 (drop 1 l))) same
    ∙ from_be_bytes-to_be_bytes_8 other head'.fits

next_cases : (generation : ℕ)
    → ((generation ≡ 18446744073709551615) × (next_generation generation ≡ 0))
    ⊎ (¬ (generation ≡ 18446744073709551615) × (next_generation generation ≡ generation + 1))
next_cases generation = elim (cases_eq generation 18446744073709551615) [
  | inl is ↦ inl (is, ap (λ (b : Bool). if b then 0 else generation + 1) (eq-eqb generation 18446744073709551615 is))
  | inr other ↦ inr (other, ap (λ (b : Bool). if b then 0 else generation + 1) (ne_eqb generation 18446744073709551615 other))
]

no_cycle : (generation : ℕ) → ¬ (next_generation (next_generation generation) ≡ generation)
no_cycle generation is = elim (next_cases generation) [
  | inl w ↦ elim (next_cases (next_generation generation)) [
    | inl v ↦ omega (arith, w.0, w.1, v.0, v.1, is)
    | inr v ↦ omega (arith, w.0, w.1, v.1, is)
  ]
  | inr w ↦ elim (next_cases (next_generation generation)) [
    | inl v ↦ omega (arith, w.1, v.0, v.1, is)
    | inr v ↦ omega (arith, w.1, v.1, is)
  ]
]

pub next_fits : (generation : ℕ) → generation < 2 ^ 64 → next_generation generation < 2 ^ 64
next_fits generation lt = elim (next_cases generation) [
  | inl w ↦ omega (arith, w.1)
  | inr w ↦ let other : ¬ (generation ≡ 18446744073709551615) = w.0 in omega (arith, w.1, other, lt)
]

pub next_is_later : (half : Half) (generation : ℕ) → IsLater half (next_generation generation) generation
next_is_later First generation =
    let next = next_generation generation in
    ap (λ (b : Bool). later_by b (next_generation next == generation) (nat_le generation next)) (eq-eqb next next refl)
    ∙ ap (λ (b : Bool). later_by true b (nat_le generation next)) (ne_eqb (next_generation next) generation (no_cycle generation))
next_is_later Second generation =
    let next = next_generation generation in
    ap (λ (b : Bool). later_by b (next == next) (nat_le next generation)) (ne_eqb (next_generation next) generation (no_cycle generation))
    ∙ ap (λ (b : Bool). later_by false b (nat_le next generation)) (eq-eqb next next refl)
