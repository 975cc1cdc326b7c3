-- Lines whose numbers rise and whose phases do not fall.
use Rattle.std.proofs.Common.{◌≡◌, ℕ, ◌+◌, ◌≤◌, ◌<◌, List, [], ◌∷◌, ◌++◌, length, take, drop, get_or, ◌⊎◌, inl, inr, sym, ap, ◌∙◌, subst, arith}
use Rattle.std.proofs.lemmas.Bool.Decides.{nat_tests}
use Rattle.std.proofs.lemmas.List.{take_more, drop_more}
use Rattle.script_lines.specs.declared.request.Line.{Line}
use Rattle.spec_rules.specs.Lists.{In}
use Rattle.spec_rules.proofs.ListLemmas.{in-append}
use Rattle.server_host.specs.Playable.{AreNumbered, AreOrdered, climb}

-- the lines are in order, and none passes this number and this phase
pub record AreUpTo (lines : List Line) (number phase : ℕ) : Type 0 where
  pub numbered : AreNumbered lines
  pub ordered : AreOrdered lines
  pub numbers : (line : Line) → In line lines → line.number ≤ number
  pub phases : (line : Line) → In line lines → line.phase ≤ phase

pub none_yet : AreUpTo [] 0 0
unfolding In
none_yet = record {
  numbered = λ one other h. absurd h;
  ordered = λ one other h. absurd h;
  numbers = λ line h. absurd h;
  phases = λ line h. absurd h;
}

module _ (lines : List Line) (line : Line) (number phase : ℕ) (h : AreUpTo lines number phase) (above : number < line.number) (later : phase ≤ line.phase) where
  -- a line is one of those before, or the new one
  pub which : (one : Line) → In one (lines ++ line ∷ []) → In one lines ⊎ (one ≡ line)
  unfolding In
  which one m = elim (in-append one lines (line ∷ []) m) [ inl a ↦ inl a | inr b ↦ elim b [ inl e ↦ inr e | inr none ↦ absurd none ] ]

  numbered_too : AreNumbered (lines ++ line ∷ [])
  numbered_too one other m n same = elim (which one m) [
    | inl a ↦ elim (which other n) [
      | inl b ↦ h.numbered one other a b same
      | inr f ↦ let le = h.numbers one a in let e : other.number ≡ line.number = ap (λ (l : Line). l.number) f in absurd (omega arith)
    ]
    | inr e ↦ elim (which other n) [
      | inl b ↦ let le = h.numbers other b in let d : one.number ≡ line.number = ap (λ (l : Line). l.number) e in absurd (omega arith)
      | inr f ↦ e ∙ sym f
    ]
  ]

  ordered_too : AreOrdered (lines ++ line ∷ [])
  ordered_too one other m n le = elim (which one m) [
    | inl a ↦ elim (which other n) [
      | inl b ↦ h.ordered one other a b le
      | inr f ↦ let p = h.phases one a in let e : other.phase ≡ line.phase = ap (λ (l : Line). l.phase) f in omega arith
    ]
    | inr e ↦ elim (which other n) [
      | inl b ↦ let p = h.numbers other b in let d : one.number ≡ line.number = ap (λ (l : Line). l.number) e in absurd (omega arith)
      | inr f ↦ let p : one.phase ≡ other.phase = ap (λ (l : Line). l.phase) (e ∙ sym f) in omega arith
    ]
  ]

  numbers_too : (one : Line) → In one (lines ++ line ∷ []) → one.number ≤ line.number
  numbers_too one m = elim (which one m) [
    | inl a ↦ let le = h.numbers one a in omega arith
    | inr e ↦ let d : one.number ≡ line.number = ap (λ (l : Line). l.number) e in omega arith
  ]

  phases_too : (one : Line) → In one (lines ++ line ∷ []) → one.phase ≤ line.phase
  phases_too one m = elim (which one m) [
    | inl a ↦ let le = h.phases one a in omega arith
    | inr e ↦ let d : one.phase ≡ line.phase = ap (λ (l : Line). l.phase) e in omega arith
  ]

  pub one_up : AreUpTo (lines ++ line ∷ []) line.number line.phase
  one_up = record { numbered = numbered_too; ordered = ordered_too; numbers = numbers_too; phases = phases_too }

-- one line more, at its place
pub next_up : (lines : List Line) (i : ℕ) (line : Line) (number phase : ℕ) → i < length lines → line ≡ get_or lines i line
    → AreUpTo (take i lines) number phase → number < line.number → phase ≤ line.phase → AreUpTo (take (i + 1) lines) line.number line.phase
next_up lines i line number phase within is h above later =
    let more : take (i + 1) lines ≡ take i lines ++ line ∷ [] = take_more lines i line within ∙ ap (λ x. take i lines ++ x ∷ []) (sym is) in
    subst (λ (ls : List Line). AreUpTo ls line.number line.phase) (sym more) (one_up (take i lines) line number phase h above later)

-- where the next line goes on from this number and phase, the rest decides
climb_step : (line : Line) (rest : List Line) (number phase : ℕ) → number < line.number → phase ≤ line.phase
    → climb number phase (line ∷ rest) ≡ climb line.number line.phase rest
climb_step line rest number phase above later = grind (arith, nat_tests)

pub climb_on : (lines : List Line) (i : ℕ) (line : Line) (number phase : ℕ) → i < length lines → line ≡ get_or lines i line → number < line.number
    → phase ≤ line.phase → climb number phase (drop i lines) ≡ climb line.number line.phase (drop (i + 1) lines)
climb_on lines i line number phase within is above later =
    let more : drop i lines ≡ line ∷ drop (i + 1) lines = drop_more lines i line within ∙ ap (λ x. x ∷ drop (i + 1) lines) (sym is) in
    ap (climb number phase) more ∙ climb_step line (drop (i + 1) lines) number phase above later
