-- The lines of a text.
use Rattle.std.proofs.Common.{◌≡◌, ◌≢◌, ℕ, zero, suc, ◌<◌, List, [], ◌∷◌, length, get_or, take, drop, refl, ap, sym, ◌∙◌, arith, inl, inr}
use Rattle.std.proofs.lemmas.Bool.{cases_eq, eq-eqb, ne_eqb}
use Rattle.std.specs.List.{concat, onto_first}
use Rattle.petal_script.specs.Text.{pieces}

pub pieces_at : (i : ℕ) (text : List ℕ) → ((k : ℕ) → k < i → get_or text k 0 ≢ 10) → i < length text → get_or text i 0 ≡ 10
    → pieces text ≡ take (suc i) text ∷ pieces (drop (suc i) text)
pieces_at i [] none room is = absurd (omega arith)
pieces_at zero (b ∷ bs) none room is = rw is refl
pieces_at (suc i) (b ∷ bs) none room is =
    let other : b ≢ 10 = none 0 (omega arith) in
    let rest : pieces bs ≡ take (suc i) bs ∷ pieces (drop (suc i) bs) = pieces_at i bs (λ k h. none (suc k) (omega arith)) (omega arith) is in
    rw (ne_eqb b 10 other, rest) refl

pub pieces_none : (text : List ℕ) → 0 < length text → ((k : ℕ) → k < length text → get_or text k 0 ≢ 10) → pieces text ≡ text ∷ []
pieces_none [] room none = absurd (omega arith)
pieces_none (b ∷ []) room none = let other : b ≢ 10 = none 0 (omega arith) in rw (ne_eqb b 10 other) refl
pieces_none (b ∷ c ∷ cs) room none =
    let other : b ≢ 10 = none 0 (omega arith) in
    let rest : pieces (c ∷ cs) ≡ (c ∷ cs) ∷ [] = pieces_none (c ∷ cs) (omega arith) (λ k h. none (suc k) (omega arith)) in
    rw (ne_eqb b 10 other, rest) refl

concat_onto : (b : ℕ) (parts : List (List ℕ)) → concat (onto_first b parts) ≡ b ∷ concat parts
concat_onto b [] = refl
concat_onto b (part ∷ parts) = refl

pub concat-pieces : (text : List ℕ) → concat (pieces text) ≡ text
concat-pieces [] = refl
concat-pieces (b ∷ bs) =
    let rest : concat (pieces bs) ≡ bs = concat-pieces bs in
    elim (cases_eq b 10) [
      | inl e ↦ rw (eq-eqb b 10 e) (ap (λ t. 10 ∷ t) rest ∙ ap (λ c. c ∷ bs) (sym e))
      | inr ne ↦ rw (ne_eqb b 10 ne) (concat_onto b (pieces bs) ∙ ap (λ t. b ∷ t) rest)
    ]
