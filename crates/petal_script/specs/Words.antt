-- Words taken one by one, up to the first fault.
use Rattle.std.specs.Prelude.{◌≡◌, ℕ, Bool, nat_eq, List, [], ◌∷◌, Option, Some, None, Result, Ok, Err}
use Rattle.std.specs.Cmp.Lexicographic.{pointwise}
use Rattle.petal_script.specs.declared.cause.Cause.{Cause}
use Rattle.petal_script.specs.declared.cause.Cause.TheVariants.{BadLine}

-- its bytes
abbrev pub Word : Type 0
Word = List ℕ

-- one step and then the next, unless the first is a fault
infixl 10 ◌>>=◌
abbrev pub ◌>>=◌ : {A B : Type 0} → Result A Cause → (A → Result B Cause) → Result B Cause
(Ok x) >>= f = f x
(Err e) >>= f = Err e

-- the value, or else this fault
abbrev pub or_else : {A : Type 0} → Option A → Cause → Result A Cause
or_else (Some x) cause = Ok x
or_else None cause = Err cause

-- what a function returned, seen by view, is what the rule gives
abbrev pub Gives : {X Y : Type 0} → (X → Y) → Result X Cause → Result Y Cause → Type 0
Gives view (Ok x) rule = rule ≡ Ok (view x)
Gives view (Err e) rule = rule ≡ Err e

-- a word is this one
abbrev pub is_word : Word → Word → Bool
is_word = pointwise nat_eq

-- a word, and those after it
abbrev pub front_word : List Word → Result (Word × List Word) Cause
front_word (a ∷ words) = Ok (a, words)
front_word [] = Err BadLine

-- no word is left
abbrev pub no_word : List Word → Result (List Word) Cause
no_word [] = Ok []
no_word (a ∷ words) = Err BadLine

-- one word, and no more
unfoldable pub one_word : List Word → Result Word Cause
one_word words = do
  a ← front_word words
  none ← no_word a.1
  Ok a.0

-- two words, and no more
unfoldable pub two_words : List Word → Result (Word × Word) Cause
two_words words = do
  a ← front_word words
  b ← one_word a.1
  Ok (a.0, b)

-- three words, and no more
unfoldable pub three_words : List Word → Result (Word × Word × Word) Cause
three_words words = do
  a ← front_word words
  others ← two_words a.1
  Ok (a.0, others.0, others.1)

-- four words, and no more
unfoldable pub four_words : List Word → Result (Word × Word × Word × Word) Cause
four_words words = do
  a ← front_word words
  others ← three_words a.1
  Ok (a.0, others.0, others.1, others.2)
