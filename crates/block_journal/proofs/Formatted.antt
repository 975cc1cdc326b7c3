-- What stands on a disk whose halves were cleared, and got the Head of an empty list.
use Rattle.std.proofs.Common.{◌≡◌, ◌≢◌, inr, false, ℕ, ◌+◌, ◌*◌, ◌<◌, ◌≤◌, List, [], ◌∷◌, length, refl, get_or, sym, ◌∙◌, ap, subst, arith}
use Rattle.std.specs.Prelude.{replicate}
use Rattle.std.proofs.lemmas.List.{get_or-replicate, length-replicate}
use Rattle.petal_disk.specs.Disk.{Torn, Only, written, part}
use Rattle.petal_disk.proofs.Tearing.{torn_written, part_written}
use Rattle.block_journal.specs.Halves.{HalvesState, Shows, Stored, head_body}
use Rattle.block_journal.specs.declared.half.Half.TheVariants.{First}
use Rattle.block_journal.proofs.Grouped.{gate_written}
use Rattle.block_journal.proofs.Slots.{byte_of_part, same_byte, same_part}

-- zeros that were written are there
pub zeros_there : (file : List ℕ) (at n : ℕ) → at + n ≤ length file → (k : ℕ) → k < n → get_or (written file at (replicate n 0)) (at + k) 0 ≡ 0
zeros_there file at n fits k lt =
    let zeros : List ℕ = replicate n 0 in
    let long : length zeros ≡ n = length-replicate {A = ℕ} n 0 in
    sym (byte_of_part (written file at zeros) at (length zeros) k (omega (arith, long, lt)))
    ∙ ap (λ (l : List ℕ). get_or l k 0) (part_written file at zeros (omega (arith, long, fits)))
    ∙ get_or-replicate n k 0 0 lt

-- the halves that were formatted
abbrev pub formatted : ℕ → HalvesState
formatted base = record { base = base; active = First; generation = 1; count = 0; idle_open = false }

module _ (base : ℕ) (f1 f2 f3 : List ℕ) (zeros : (k : ℕ) → k < 4194304 → get_or f1 (base + k) 0 ≡ 0) (fits : base + 4194304 ≤ length f1)
    (is_body : f2 ≡ written f1 (base + 1) (head_body 1)) (is_gate : f3 ≡ written f2 base (165 ∷ [])) where
  torn_body : Torn (base + 1) 63 f1 f2
  torn_body = subst (λ (f : List ℕ). Torn (base + 1) 63 f1 f) (sym is_body) (torn_written f1 (base + 1) (head_body 1) (omega (arith, fits)))

  torn_gate : Torn base 1 f2 f3
  torn_gate = subst (λ (f : List ℕ). Torn base 1 f2 f) (sym is_gate) (torn_written f2 base (165 ∷ []) (omega (arith, fits, torn_body.size)))

  body_there : part f3 (base + 1) 63 ≡ head_body 1
  body_there =
      same_part base 1 (base + 1) 63 f2 f3 torn_gate (inr (omega arith))
      ∙ ap (λ (f : List ℕ). part f (base + 1) 63) is_body
      ∙ part_written f1 (base + 1) (head_body 1) (omega (arith, fits))

  gate_there : get_or f3 base 0 ≡ 165
  gate_there = ap (λ (f : List ℕ). get_or f base 0) is_gate ∙ gate_written f2 base 165 (omega (arith, fits, torn_body.size))

  zero_there : (k : ℕ) → 64 ≤ k → k < 4194304 → get_or f3 (base + k) 0 ≡ 0
  zero_there k le lt =
      same_byte base 1 (base + k) f2 f3 torn_gate (inr (omega (arith, le)))
      ∙ same_byte (base + 1) 63 (base + k) f1 f2 torn_body (inr (omega (arith, le)))
      ∙ zeros k lt

  not_open : (k at : ℕ) → base + k ≡ at → 64 ≤ k → k < 4194304 → get_or f3 at 0 ≢ 165
  not_open k at is le lt opened =
      let none : get_or f3 at 0 ≡ 0 = ap (λ (j : ℕ). get_or f3 j 0) (sym is) ∙ zero_there k le lt in omega (arith, none, opened)

  pub formatted_shows : Shows (formatted base) f3 []
  formatted_shows = record {
    list = record {
      head = record { opened = gate_there; spelled = body_there; fits = omega arith };
      later = λ other head. absurd (not_open 2097152 (base + 2097152) refl (omega arith) (omega arith) head.opened);
      counts = record {
        few = omega arith;
        counted = λ i lt. absurd (omega (arith, lt));
        ends = λ lt opened. not_open 64 (base + 64 + 64 * 0) (omega arith) (omega arith) (omega arith) opened;
      };
    };
    opened = λ is. absurd (cc);
    shut = λ is opened. not_open 2097152 (base + 2097152) refl (omega arith) (omega arith) opened;
  }

  pub formatted_stored : (leave : List ℕ → Type 0) → Only f3 leave → Stored (formatted base) f3 leave []
  formatted_stored leave only = record {
    count = refl;
    now = formatted_shows;
    left = λ c here. subst (λ (f : List ℕ). Shows (formatted base) f []) (sym (only c here)) formatted_shows;
  }
