-- What the runs say of the bytes.
use Rattle.law_script.proofs.Imports.{[], ◌++◌, ◌+◌, ◌∙◌, ◌∷◌, ◌≡◌, AreLongest, List, Run, ap, arith, cases_eq, eq-eqb, flat_map, inl, inr, ne_eqb, onto_run}
use Rattle.law_script.proofs.Imports.{refl, replicate, run_bytes, runs, suc, sym, ℕ}

abbrev run_of : ℕ → ℕ → Run
run_of b n = record { count = n; byte = b }

one_after : (b n : ℕ) (bytes : List ℕ) → replicate (n + 1) b ++ bytes ≡ b ∷ (replicate n b ++ bytes)
one_after b n bytes = let next : n + 1 ≡ suc n = omega arith in ap (λ k. replicate k b ++ bytes) next

lays_out : (b : ℕ) (rs : List Run) → flat_map run_bytes (onto_run b rs) ≡ b ∷ flat_map run_bytes rs
lays_out b [] = refl
lays_out b (r ∷ rs) = elim (cases_eq r.byte b) [
  | inl e ↦ rw (eq-eqb r.byte b e) (one_after b r.count (flat_map run_bytes rs) ∙ ap (λ c. b ∷ (replicate r.count c ++ flat_map run_bytes rs)) (sym e))
  | inr ne ↦ rw (ne_eqb r.byte b ne) refl
]

pub flat_map-runs : (bytes : List ℕ) → flat_map run_bytes (runs bytes) ≡ bytes
unfolding runs
flat_map-runs [] = refl
flat_map-runs (b ∷ bs) = lays_out b (runs bs) ∙ ap (λ cs. b ∷ cs) (flat_map-runs bs)

longer : (b : ℕ) (r : Run) (rs : List Run) → r.byte ≡ b → AreLongest (r ∷ rs) → AreLongest (run_of b (r.count + 1) ∷ rs)
longer b r [] e are = omega arith
longer b r (next ∷ more) e are = (omega arith, (λ same. are.1 (e ∙ same)), are.2)

stays_longest : (b : ℕ) (rs : List Run) → AreLongest rs → AreLongest (onto_run b rs)
stays_longest b [] are = omega arith
stays_longest b (r ∷ rs) are = elim (cases_eq r.byte b) [
  | inl e ↦ rw (eq-eqb r.byte b e) (longer b r rs e are)
  | inr ne ↦ rw (ne_eqb r.byte b ne) (omega arith, (λ same. ne (sym same)), are)
]

pub runs_are_longest : (bytes : List ℕ) → AreLongest (runs bytes)
unfolding runs
runs_are_longest [] = tt
runs_are_longest (b ∷ bs) = stays_longest b (runs bs) (runs_are_longest bs)
