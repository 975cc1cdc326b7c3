-- Lines that rise: each has a place of its own among its client's lines.
use Rattle.law_answers.proofs.Imports.{[], ◌<◌, ◌==◌, ◌∙◌, ◌∷◌, ◌≡◌, AreRising, Bool, In, Line, List, Some, ap, arith, cond, false, filter, inl, inr}
use Rattle.law_answers.proofs.Imports.{lines_of, none_some, refl, same_numbers, same_some, slice_get, subst, suc, sym, true, zero, ℕ}

kept_line : (p : Line → Bool) (lines : List Line) (line : Line) → In line (filter p lines) → In line lines × (p line ≡ true)
unfolding In
kept_line p [] line h = absurd h
kept_line p (first ∷ lines) line h =
    elim (p first) as (λ b. p first ≡ b → In line (cond b (first ∷ filter p lines) (filter p lines)) → In line (first ∷ lines) × (p line ≡ true)) [
      | true ↦ λ is i. elim i [
        | inl e ↦ (inl e, ap p e ∙ is)
        | inr j ↦ (let rest = kept_line p lines line j in (inr rest.0, rest.1))
      ]
      | false ↦ λ is i. let rest = kept_line p lines line i in (inr rest.0, rest.1)
    ] refl h

kept_rise : (p : Line → Bool) (lines : List Line) → AreRising lines → AreRising (filter p lines)
kept_rise p [] h = tt
kept_rise p (first ∷ lines) h =
    let later = kept_rise p lines h.1 in
    elim (p first) as (λ b. AreRising (cond b (first ∷ filter p lines) (filter p lines))) [
      | true ↦ ((λ other i. h.0 other (kept_line p lines other i).0), later)
      | false ↦ later
    ]

pub found_in : (lines : List Line) (i : ℕ) (line : Line) → slice_get lines i ≡ Some line → In line lines
unfolding In
found_in [] i line is = none_some refl is
found_in (first ∷ lines) zero line is = inl (sym (same_some is))
found_in (first ∷ lines) (suc i) line is = inr (found_in lines i line is)

-- a line that stands further on has a greater number
further : (lines : List Line) → AreRising lines → (i j : ℕ) (one other : Line) → slice_get lines i ≡ Some one → slice_get lines j ≡ Some other → i < j
    → one.number < other.number
further [] rise i j one other is there lt = none_some refl is
further (first ∷ lines) rise i zero one other is there lt = absurd (omega arith)
further (first ∷ lines) rise zero (suc j) one other is there lt =
    subst (λ (l : Line). l.number < other.number) (same_some is) (rise.0 other (found_in lines j other there))
further (first ∷ lines) rise (suc i) (suc j) one other is there lt = further lines rise.1 i j one other is there (omega arith)

-- two lines of one number are one line
same_line : (lines : List Line) → AreRising lines → (one other : Line) → In one lines → In other lines → one.number ≡ other.number → one ≡ other
unfolding In
same_line [] rise one other h k e = absurd h
same_line (first ∷ lines) rise one other (inl h) (inl k) e = h ∙ sym k
same_line (first ∷ lines) rise one other (inl h) (inr k) e =
    let lt = rise.0 other k in let f : one.number ≡ first.number = ap (λ (l : Line). l.number) h in absurd (omega arith)
same_line (first ∷ lines) rise one other (inr h) (inl k) e =
    let lt = rise.0 one h in let f : other.number ≡ first.number = ap (λ (l : Line). l.number) k in absurd (omega arith)
same_line (first ∷ lines) rise one other (inr h) (inr k) e = same_line lines rise.1 one other h k e

-- the line at a place of a client's lines is a line of the script, and the client's
pub line_at : (lines : List Line) (c i : ℕ) (line : Line) → slice_get (lines_of lines c) i ≡ Some line → In line lines × (line.client ≡ c)
line_at lines c i line is =
    let kept = kept_line (λ l. l.client == c) lines line (found_in (lines_of lines c) i line is) in
    (kept.0, same_numbers line.client c kept.1)

-- a number is of one client
pub one_client : (lines : List Line) → AreRising lines → (c d i j : ℕ) (one other : Line) → slice_get (lines_of lines c) i ≡ Some one
    → slice_get (lines_of lines d) j ≡ Some other → one.number ≡ other.number → c ≡ d
one_client lines rise c d i j one other is there e =
    let h = line_at lines c i one is in
    let k = line_at lines d j other there in
    sym h.1 ∙ ap (λ (l : Line). l.client) (same_line lines rise one other h.0 k.0 e) ∙ k.1

-- and of one place
pub one_place : (lines : List Line) → AreRising lines → (c i j : ℕ) (one other : Line) → slice_get (lines_of lines c) i ≡ Some one
    → slice_get (lines_of lines c) j ≡ Some other → one.number ≡ other.number → i ≡ j
one_place lines rise c i j one other is there e =
    let risen = kept_rise (λ l. l.client == c) lines rise in
    let up : i < j → one.number < other.number = further (lines_of lines c) risen i j one other is there in
    let down : j < i → other.number < one.number = further (lines_of lines c) risen j i other one there is in
    grind (arith, up, down)
