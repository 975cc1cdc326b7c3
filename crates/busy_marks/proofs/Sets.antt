-- What is set after a mark is set or taken away.
use Rattle.std.proofs.Common.{◌≡◌, Bool, true, false, ◌||◌, List, [], ◌∷◌, refl, ap, sym, ◌∙◌, inl, inr}
use Rattle.std.proofs.lemmas.Bool.{cases_Bool}
use Rattle.std.specs.BTreeSet.{insert_key}
use Rattle.std.specs.Ordering.{is_eq, match_ordering}
use Rattle.std.specs.declared.cmp.Ordering.TheVariants.{Less, Equal, Greater}
use Rattle.busy_marks.specs.declared.marks.Mark.{Mark}
use Rattle.busy_marks.specs.Marks.{mark_cmp, same_mark, has_mark, with_mark, without_mark}
use Rattle.busy_marks.proofs.Orders.{is_mark, same_itself, ties}

or_twice : (a b : Bool) → a || (a || b) ≡ a || b
or_twice true b = refl
or_twice false b = refl

or_swap : (a b c : Bool) → a || (b || c) ≡ b || (a || c)
or_swap true true c = refl
or_swap true false c = refl
or_swap false true c = refl
or_swap false false c = refl

-- a set has the mark that was set, and what it had
pub has_set : (mark other : Mark) (ms : List Mark) → has_mark other (with_mark ms mark) ≡ same_mark mark other || has_mark other ms
has_set mark other [] = refl
has_set mark other (m ∷ ms) =
    elim (mark_cmp mark m) as (λ o. mark_cmp mark m ≡ o
    → has_mark other (match_ordering o (mark ∷ m ∷ ms) (m ∷ ms) (m ∷ insert_key mark_cmp ms mark))
    ≡ same_mark mark other || (same_mark m other || has_mark other ms)) [
      | Less ↦ λ _. refl
      | Equal ↦ λ tie.
          let one = is_mark m mark (sym (ties mark m) ∙ ap is_eq tie) in
          sym (ap (λ (k : Mark). same_mark k other || (same_mark m other || has_mark other ms)) (sym one) ∙ or_twice (same_mark m other) (has_mark other ms))
      | Greater ↦ λ _. ap (λ b. same_mark m other || b) (has_set mark other ms) ∙ or_swap (same_mark m other) (same_mark mark other) (has_mark other ms)
    ] refl

pub is_set : (mark : Mark) (ms : List Mark) → has_mark mark (with_mark ms mark) ≡ true
is_set mark ms = has_set mark mark ms ∙ ap (λ b. b || has_mark mark ms) (same_itself mark)

or_right : (a b : Bool) → b ≡ true → a || b ≡ true
or_right true b on = refl
or_right false b on = on

-- a mark that was there stays where another one is set
pub set_keeps : (mark other : Mark) (ms : List Mark) → has_mark other ms ≡ true → has_mark other (with_mark ms mark) ≡ true
set_keeps mark other ms there = has_set mark other ms ∙ or_right (same_mark mark other) (has_mark other ms) there

pub set_apart : (mark other : Mark) (ms : List Mark) → same_mark mark other ≡ false → has_mark other (with_mark ms mark) ≡ has_mark other ms
set_apart mark other ms apart = has_set mark other ms ∙ ap (λ b. b || has_mark other ms) apart

-- other marks stay where one is taken away
pub unset_apart : (mark other : Mark) (ms : List Mark) → same_mark mark other ≡ false → has_mark other (without_mark ms mark) ≡ has_mark other ms
unset_apart mark other [] ne = refl
unset_apart mark other (m ∷ ms) ne = elim (cases_Bool (same_mark m mark)) [
  | inl same ↦ rw same (unset_apart mark other ms ne
      ∙ ap (λ b. b || has_mark other ms) (sym (ap (λ k. same_mark k other) (is_mark m mark same) ∙ ne)))
  | inr apart ↦ rw apart (ap (λ b. same_mark m other || b) (unset_apart mark other ms ne))
]

more_true : (a b c : Bool) → (b ≡ true → c ≡ true) → a || b ≡ true → a || c ≡ true
more_true true b c up on = refl
more_true false b c up on = up on

-- a mark that is there was there before another one went
pub unset_back : (mark other : Mark) (ms : List Mark) → has_mark other (without_mark ms mark) ≡ true → has_mark other ms ≡ true
unset_back mark other [] there = there
unset_back mark other (m ∷ ms) there = elim (cases_Bool (same_mark m mark)) [
  | inl same ↦ or_right (same_mark m other) (has_mark other ms) (unset_back mark other ms (rw same at there))
  | inr apart ↦ more_true (same_mark m other) (has_mark other (without_mark ms mark)) (has_mark other ms) (unset_back mark other ms) (rw apart at there)
]

-- a mark that is not set is not taken away
pub not_marked : (mark : Mark) (ms : List Mark) → has_mark mark ms ≡ false → without_mark ms mark ≡ ms
not_marked mark [] none = refl
not_marked mark (m ∷ ms) none = elim (cases_Bool (same_mark m mark)) [
  | inl same ↦ let here : true ≡ false = rw same at none in absurd (cc)
  | inr apart ↦ let there : has_mark mark ms ≡ false = rw apart at none in rw apart (ap (λ (l : List Mark). m ∷ l) (not_marked mark ms there))
]

-- a new mark that is taken back
pub taken_back : (mark : Mark) (ms : List Mark) → has_mark mark ms ≡ false → without_mark (with_mark ms mark) mark ≡ ms
taken_back mark [] none = rw (same_itself mark) refl
taken_back mark (m ∷ ms) none = elim (cases_Bool (same_mark m mark)) [
  | inl same ↦ let here : true ≡ false = rw same at none in absurd (cc)
  | inr apart ↦
      let there : has_mark mark ms ≡ false = rw apart at none in
      elim (mark_cmp mark m) as (λ o. mark_cmp mark m ≡ o
      → without_mark (match_ordering o (mark ∷ m ∷ ms) (m ∷ ms) (m ∷ insert_key mark_cmp ms mark)) mark ≡ m ∷ ms) [
        | Less ↦ λ _. rw (same_itself mark, apart) (ap (λ (l : List Mark). m ∷ l) (not_marked mark ms there))
        | Equal ↦ λ tie. let here : true ≡ false = sym (ap is_eq tie) ∙ ties mark m ∙ apart in absurd (cc)
        | Greater ↦ λ _. rw apart (ap (λ (l : List Mark). m ∷ l) (taken_back mark ms there))
      ] refl
]
