-- The letters of one job, in two lists of posts.
use Rattle.std.proofs.Common.{◌≡◌, ℕ, ◌+◌, List, [], ◌∷◌, ◌++◌, length, refl, ap, ◌∙◌, arith}
use Rattle.petal_msg.specs.declared.letter.Letter.{Letter}
use Rattle.spec_rules.specs.Server.{Post, Sender, letters_of}

pub letters_length : (who : Sender) (n : ℕ) (ps : List Post) → length (letters_of who n ps) ≡ length ps
letters_length who n [] = refl
letters_length who n (p ∷ ps) = let rest = letters_length who (n + 1) ps in omega (arith, rest)

pub letters_append : (who : Sender) (n : ℕ) (ps qs : List Post) → letters_of who n (ps ++ qs) ≡ letters_of who n ps ++ letters_of who (n + length ps) qs
letters_append who n [] qs = ap (λ (m : ℕ). letters_of who m qs) (omega arith)
letters_append who n (p ∷ ps) qs =
    let rest = letters_append who (n + 1) ps qs in
    let count : n + 1 + length ps ≡ n + length (p ∷ ps) = omega arith in
    ap (λ (more : List Letter). record { from = who.from; inc = who.inc; to = p.to; rev = who.rev; stamp = 0; nth = n; body = p.body } ∷ more)
    (rest ∙ ap (λ (m : ℕ). letters_of who (n + 1) ps ++ letters_of who m qs) count)
