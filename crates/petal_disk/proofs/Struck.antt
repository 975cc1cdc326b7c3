-- What a call that a plan strikes may leave.
use Rattle.std.proofs.Common.{◌≡◌, ℕ, ◌+◌, ◌-◌, ◌≤◌, List, drop, sym, ◌∙◌, ap, arith}
use Rattle.std.proofs.lemmas.List.{drop-drop}
use Rattle.petal_disk.specs.Disk.{Torn, Follows}

-- a tear of less is a tear of more
pub torn_more : (at m n : ℕ) (old new : List ℕ) → m ≤ n → Torn at m old new → Torn at n old new
torn_more at m n old new le torn =
    let same : at + n ≡ at + m + (n - m) = omega arith in
    let split : (xs : List ℕ) → drop (at + n) xs ≡ drop (n - m) (drop (at + m) xs) = λ xs. ap (λ (k : ℕ). drop k xs) same
    ∙ sym (drop-drop (n - m) (at + m) xs) in
    record {
      before = torn.before;
      after = split new ∙ ap (λ (l : List ℕ). drop (n - m) l) torn.after ∙ sym (split old);
      size = torn.size;
    }

pub follows_more : (at m n : ℕ) (old new : List ℕ → Type 0) → m ≤ n → Follows (Torn at m) old new → Follows (Torn at n) old new
follows_more at m n old new le follows c left = let was = follows c left in (was.0, was.1, torn_more at m n was.0 c le was.2)
