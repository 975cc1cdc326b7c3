-- The first of the words of a line.
use Rattle.std.proofs.Common.{◌≡◌, ◌≢◌, ℕ, suc, ◌+◌, ◌<◌, Bool, false, not, ◌==◌, inl, inr, List, [], ◌∷◌, length, take, drop, refl, ap, sym, ◌∙◌, arith}
use Rattle.std.proofs.lemmas.Bool.{cases_Bool, ne_eqb}
use Rattle.std.proofs.lemmas.List.Splits.{length-slice_split}
use Rattle.std.specs.List.{slice_split, filter, prefix_len, position_or_len, onto_first}
use Rattle.petal_script.specs.Text.{words_by}

one_more : (n : ℕ) → 1 + n ≡ suc n
one_more n = omega arith

pub words_trimmed : (p : ℕ → Bool) (line : List ℕ) → words_by p (drop (prefix_len p line) line) ≡ words_by p line
words_trimmed p [] = refl
words_trimmed p (b ∷ bs) =
    let rest : words_by p (drop (prefix_len p bs) bs) ≡ words_by p bs = words_trimmed p bs in
    elim (cases_Bool (p b)) [ inl is ↦ simp (is, one_more) rest | inr is ↦ simp is ]

pub none_trimmed : (p : ℕ → Bool) (line : List ℕ) → prefix_len p (drop (prefix_len p line) line) ≡ 0
none_trimmed p [] = refl
none_trimmed p (b ∷ bs) =
    let rest : prefix_len p (drop (prefix_len p bs) bs) ≡ 0 = none_trimmed p bs in
    elim (cases_Bool (p b)) [ inl is ↦ simp (is, one_more) rest | inr is ↦ simp is ]

parts_of : (p : ℕ → Bool) (line : List ℕ) → slice_split p line ≡ take (position_or_len p line) line ∷ drop 1 (slice_split p line)
parts_of p [] = refl
parts_of p (b ∷ bs) =
    let rest : slice_split p bs ≡ take (position_or_len p bs) bs ∷ drop 1 (slice_split p bs) = parts_of p bs in
    elim (cases_Bool (p b)) [ inl is ↦ simp is | inr is ↦ simp (is, one_more) (rw rest refl) ]

abbrev has_bytes : List ℕ → Bool
has_bytes word = not (length word == 0)

drop_onto : (b : ℕ) (parts : List (List ℕ)) → 0 < length parts → drop 1 (onto_first b parts) ≡ drop 1 parts
drop_onto b [] some = absurd (omega arith)
drop_onto b (part ∷ parts) some = refl

later_parts : (p : ℕ → Bool) (line : List ℕ) → filter has_bytes (drop 1 (slice_split p line)) ≡ words_by p (drop (position_or_len p line) line)
later_parts p [] = refl
later_parts p (b ∷ bs) =
    let rest : filter has_bytes (drop 1 (slice_split p bs)) ≡ words_by p (drop (position_or_len p bs) bs) = later_parts p bs in
    let some : drop 1 (onto_first b (slice_split p bs)) ≡ drop 1 (slice_split p bs) = drop_onto b (slice_split p bs) (omega (arith, length-slice_split p bs)) in
    elim (cases_Bool (p b)) [ inl is ↦ simp is | inr is ↦ simp (is, one_more, some) rest ]

keeps_first : (word : List ℕ) (words : List (List ℕ)) → 0 < length word → filter has_bytes (word ∷ words) ≡ word ∷ filter has_bytes words
keeps_first word words some = let other : length word ≢ 0 = omega arith in rw (ne_eqb (length word) 0 other) refl

pub first_of_words : (p : ℕ → Bool) (line : List ℕ) → prefix_len p line ≡ 0 → 0 < length line
    → words_by p line ≡ take (position_or_len p line) line ∷ words_by p (drop (position_or_len p line) line)
first_of_words p [] none some = absurd (omega arith)
first_of_words p (b ∷ bs) none some =
    let n : ℕ = position_or_len p (b ∷ bs) in
    let starts : p b ≡ false = elim (cases_Bool (p b)) [ inl is ↦ absurd (let no : 1 + prefix_len p bs ≡ 0 = rw is at none in omega arith) | inr is ↦ is ] in
    let many : 0 < length (take (position_or_len p (b ∷ bs)) (b ∷ bs)) = simp (starts, one_more) (omega arith) in
    ap (filter has_bytes) (parts_of p (b ∷ bs))
    ∙ keeps_first (take (position_or_len p (b ∷ bs)) (b ∷ bs)) (drop 1 (slice_split p (b ∷ bs))) many
    ∙ ap (λ words. take (position_or_len p (b ∷ bs)) (b ∷ bs) ∷ words) (later_parts p (b ∷ bs))

pub length-words : (p : ℕ → Bool) (line : List ℕ) → prefix_len p line ≡ 0 → (length (words_by p line) == 0) ≡ (length line == 0)
length-words p [] none = refl
length-words p (b ∷ bs) none =
    let first : words_by p (b ∷ bs) ≡ take (position_or_len p (b ∷ bs)) (b ∷ bs) ∷ words_by p (drop (position_or_len p (b ∷ bs)) (b ∷ bs)) =
    first_of_words p (b ∷ bs) none (omega arith) in
    let some : length (words_by p (b ∷ bs)) ≢ 0 =
    (λ e. let f : length (take (position_or_len p (b ∷ bs)) (b ∷ bs) ∷ words_by p (drop (position_or_len p (b ∷ bs)) (b ∷ bs))) ≡ 0 =
    sym (ap length first) ∙ e in omega arith) in
    let more : length (b ∷ bs) ≢ 0 = omega arith in
    ne_eqb (length (words_by p (b ∷ bs))) 0 some ∙ sym (ne_eqb (length (b ∷ bs)) 0 more)
