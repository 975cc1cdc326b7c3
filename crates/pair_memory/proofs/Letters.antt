-- The letters of one step, one operation after the other.
use Rattle.std.proofs.Common.{◌≡◌, ℕ, ◌+◌, List, [], ◌∷◌, ◌++◌, length, length-append, append_assoc, sym, ap, ◌∙◌}
use Rattle.std.proofs.lemmas.List.{append-nil}
use Rattle.std.specs.List.{flat_map}
use Rattle.petal_msg.specs.declared.letter.Letter.{Letter}
use Rattle.spec_rules.specs.Server.{Post, Sender, letters_of}
use Rattle.spec_rules.proofs.Letters.{letters_append, letters_length}

-- how many letters there are then
pub count_letters : (who : Sender) (letters more : List Letter) (ps : List Post) → more ≡ letters ++ letters_of who (length letters) ps
    → length more ≡ length letters + length ps
count_letters who letters more ps is =
    ap length is ∙ length-append letters (letters_of who (length letters) ps) ∙ ap (λ (n : ℕ). length letters + n) (letters_length who (length letters) ps)

pub next_letters : {X : Type 0} (who : Sender) (f : X → List Post) (letters more all : List Letter) (x : X) (left rest : List X)
    → left ≡ x ∷ rest → more ≡ letters ++ letters_of who (length letters) (f x)
    → letters ++ letters_of who (length letters) (flat_map f left) ≡ all → more ++ letters_of who (length more) (flat_map f rest) ≡ all
next_letters who f letters more all x left rest here is invariant =
    let first = length letters in
    (λ i. is i ++ letters_of who (count_letters who letters more (f x) is i) (flat_map f rest))
    ∙ append_assoc letters (letters_of who first (f x)) (letters_of who (first + length (f x)) (flat_map f rest))
    ∙ ap (λ (ls : List Letter). letters ++ ls) (sym (letters_append who first (f x) (flat_map f rest)))
    ∙ rw here at invariant

pub last_letters : {X : Type 0} (who : Sender) (f : X → List Post) (letters all : List Letter) (left : List X)
    → left ≡ [] → letters ++ letters_of who (length letters) (flat_map f left) ≡ all → letters ≡ all
last_letters who f letters all left none invariant = sym (append-nil letters) ∙ rw none at invariant
