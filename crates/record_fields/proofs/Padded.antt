-- Lists with their length before them and zeros after them.
use Rattle.std.proofs.Common.{◌≡◌, ℕ, ◌+◌, ◌-◌, ◌≤◌, List, [], ◌∷◌, ◌++◌, length, take, drop, replicate, get_or, refl, ap, sym}
use Rattle.std.proofs.Common.{◌∙◌, append_assoc, arith, add-zero, length-append}
use Rattle.std.proofs.lemmas.List.{take_at, drop_at, drop-drop, get_or-drop, length-replicate}
use Rattle.record_fields.specs.Fields.{padded}

-- the length, the bytes and the zeros, written one after the other
pub padded_parts : (before xs : List ℕ) (room : ℕ) → before ++ length xs ∷ [] ++ xs ++ replicate (room - length xs) 0 ≡ before ++ padded room xs
unfolding padded
padded_parts before xs room = simp append_assoc

pub padded-length : (room : ℕ) (xs rest : List ℕ) (bytes : List ℕ) (at : ℕ) → drop at bytes ≡ padded room xs ++ rest → get_or bytes at 0 ≡ length xs
unfolding padded
padded-length room xs rest bytes at is = ap (λ n. get_or bytes n 0) (sym (add-zero at)) ∙ sym (get_or-drop at bytes 0 0) ∙ ap (λ (l : List ℕ). get_or l 0 0) is

pub padded-items : (room : ℕ) (xs rest : List ℕ) (bytes : List ℕ) (at : ℕ) → drop at bytes ≡ padded room xs ++ rest
    → take (length xs) (drop (at + 1) bytes) ≡ xs
unfolding padded
padded-items room xs rest bytes at is =
    ap (take (length xs)) (sym (drop-drop 1 at bytes) ∙ ap (λ (l : List ℕ). drop 1 l) is ∙ append_assoc xs (replicate (room - length xs) 0) rest)
    ∙ take_at xs (replicate (room - length xs) 0 ++ rest) (length xs) refl

-- what follows a padded list
pub padded-following : (room : ℕ) (xs rest : List ℕ) → length xs ≤ room → drop (room + 1) (padded room xs ++ rest) ≡ rest
unfolding padded
padded-following room xs rest fits =
    drop_at (padded room xs) rest (room + 1) (omega (arith, length-append xs (replicate (room - length xs) 0), length-replicate {A = ℕ} (room - length xs) 0))

pub padded-total : (room : ℕ) (xs : List ℕ) → length xs ≤ room → length (padded room xs) ≡ room + 1
unfolding padded
padded-total room xs fits = omega (arith, length-append xs (replicate (room - length xs) 0), length-replicate {A = ℕ} (room - length xs) 0)
