-- A line that begins with a letter.
use Rattle.std.proofs.Common.{◌≡◌, ◌∙◌, ap, ◌++◌, [], ◌∷◌, List, ℕ}
use Rattle.std.proofs.lemmas.List.{append_assoc}

pub with_letter : (text pushed rest after : List ℕ) (letter : ℕ) → pushed ≡ text ++ letter ∷ [] → after ≡ pushed ++ rest → after ≡ text ++ letter ∷ rest
with_letter text pushed rest after letter is then = then ∙ (ap (λ l. l ++ rest) is ∙ append_assoc text (letter ∷ []) rest)
