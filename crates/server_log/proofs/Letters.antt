-- Letters so far and those that are left are all letters.
use Rattle.std.proofs.Common.{◌≡◌, ℕ, zero, suc, ◌+◌, ◌-◌, ◌<◌, ◌≤◌, Bool, List, [], ◌∷◌, ◌++◌, map, filter}
use Rattle.std.proofs.Common.{append_assoc, refl, sym, ap, ◌∙◌, arith}
use Rattle.std.proofs.lemmas.List.{append-nil}
use Rattle.std.specs.List.{range_with_len}
use Rattle.petal_msg.specs.declared.letter.Letter.{Letter}
use Rattle.spec_rules.specs.Server.{Post, Sender, letters_of}

-- the numbers from this one on
range_from : (a n : ℕ) → a < n → range_with_len a (n - a) ≡ a ∷ range_with_len (a + 1) (n - (a + 1))
range_from a n h = by (n - a) refl
  where
    by : (k : ℕ) → n - a ≡ k → range_with_len a k ≡ a ∷ range_with_len (a + 1) (n - (a + 1))
    by zero e = absurd (omega arith)
    by (suc k) e = let rest : k ≡ n - (a + 1) = omega arith in ap (λ m. a ∷ range_with_len (a + 1) m) rest

none_from : (a n : ℕ) → n ≤ a → range_with_len a (n - a) ≡ []
none_from a n h = let none : n - a ≡ 0 = omega arith in ap (range_with_len a) none

-- one letter more
pub next_letter : (who : Sender) (letters more all : List Letter) (letter : Letter) (nth : ℕ) (post : Post) (left rest : List Post)
    → left ≡ post ∷ rest → letter ∷ [] ≡ letters_of who nth (post ∷ []) → more ≡ letters ++ letter ∷ []
    → letters ++ letters_of who nth left ≡ all → more ++ letters_of who (nth + 1) rest ≡ all
next_letter who letters more all letter nth post left rest here is one invariant =
    rw one (append_assoc letters (letter ∷ []) (letters_of who (nth + 1) rest)
    ∙ ap (λ (ls : List Letter). letters ++ (ls ++ letters_of who (nth + 1) rest)) is
    ∙ rw here at invariant)

-- what is left of posts to each of n servers
module _ (f : ℕ → Post) (a n : ℕ) where
  pub posts_next : a < n → map f (range_with_len a (n - a)) ≡ f a ∷ map f (range_with_len (a + 1) (n - (a + 1)))
  posts_next h = ap (map f) (range_from a n h)

  pub posts_done : n ≤ a → map f (range_with_len a (n - a)) ≡ []
  posts_done h = ap (map f) (none_from a n h)

-- one server after the other
pub next_unheard : (who : Sender) (f : ℕ → Post) (p : ℕ → Bool) (letters more all : List Letter) (nth next a n : ℕ) → a < n
    → ((rest : List ℕ) → more ++ letters_of who next (map f (filter p rest)) ≡ letters ++ letters_of who nth (map f (filter p (a ∷ rest))))
    → letters ++ letters_of who nth (map f (filter p (range_with_len a (n - a)))) ≡ all
    → more ++ letters_of who next (map f (filter p (range_with_len (a + 1) (n - (a + 1))))) ≡ all
next_unheard who f p letters more all nth next a n h step invariant =
    step (range_with_len (a + 1) (n - (a + 1)))
    ∙ ap (λ (servers : List ℕ). letters ++ letters_of who nth (map f (filter p servers))) (sym (range_from a n h)) ∙ invariant

pub last_unheard : (who : Sender) (f : ℕ → Post) (p : ℕ → Bool) (letters all : List Letter) (nth a n : ℕ) → n ≤ a
    → letters ++ letters_of who nth (map f (filter p (range_with_len a (n - a)))) ≡ all → letters ≡ all
last_unheard who f p letters all nth a n h invariant =
    sym (append-nil letters) ∙ ap (λ (servers : List ℕ). letters ++ letters_of who nth (map f (filter p servers))) (sym (none_from a n h)) ∙ invariant
