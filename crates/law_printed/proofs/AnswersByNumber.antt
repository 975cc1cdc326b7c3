-- The table of the answers of a list of records: what stands at a number.
use Rattle.law_answers.proofs.Imports.{[], ◌∙◌, ◌∷◌, ◌≡◌, ◌⊎◌, Answer, In, List, None, Option, Record, Some, Table, ap, at, at-empty, at_apart, at_same}
use Rattle.law_answers.proofs.Imports.{fold, inl, inr, is_some, nat_cmp, nat_cmp_total, none_some, put_rises, refl, same_or_apart, same_some, some_or_none}
use Rattle.law_answers.proofs.Imports.{sym, true, true_false, with_answer, ℕ}
use Rattle.law_copies.proofs.ChainsRise.{same_tables}
use Rattle.law_steps.specs.Ready.{IsRising}
use Rattle.spec_history.specs.Text.{answers_of, with_given}
use Rattle.law_printed.specs.Answers.{answers_in}

-- the table after more records
abbrev pub answered : Table ℕ Answer → List Record → Table ℕ Answer
answered table records = fold (λ rows own. with_given rows own.answer) table records

-- no number has two answers
abbrev pub AnswerOnce : List (ℕ × Answer) → Type 0
AnswerOnce rows = (number : ℕ) (one other : Answer) → In (number, one) rows → In (number, other) rows → one ≡ other

-- ### One record

given_rises : (t : Table ℕ Answer) (o : Option (ℕ × Answer)) → IsRising nat_cmp t → IsRising nat_cmp (with_given t o)
given_rises t None h = h
given_rises t (Some row) h = put_rises nat_cmp_total t row.0 row.1 h

-- what stands there then was given now, or before
given_from : (t : Table ℕ Answer) (o : Option (ℕ × Answer)) (n : ℕ) (a : Answer) → at nat_cmp (with_given t o) n ≡ Some a
    → (o ≡ Some (n, a)) ⊎ (at nat_cmp t n ≡ Some a)
given_from t None n a is = inr is
given_from t (Some row) n a is = elim (same_or_apart n row.0) [
  | inl same ↦
      let value : a ≡ row.1 = same_some (sym is ∙ ap (at nat_cmp (with_given t (Some row))) same ∙ at_same t row.0 row.1) in
      inl (ap (λ (r : ℕ × Answer). Some r) (λ i. (sym same i, sym value i)))
  | inr ne ↦ inr (sym (at_apart t row.0 row.1 n ne) ∙ is)
]

given_stays : (t : Table ℕ Answer) (o : Option (ℕ × Answer)) (n : ℕ) → is_some (at nat_cmp t n) ≡ true → is_some (at nat_cmp (with_given t o) n) ≡ true
given_stays t None n there = there
given_stays t (Some row) n there = elim (same_or_apart n row.0) [
  | inl same ↦ ap is_some (ap (at nat_cmp (with_given t (Some row))) same ∙ at_same t row.0 row.1)
  | inr ne ↦ ap is_some (at_apart t row.0 row.1 n ne) ∙ there
]

-- ### All records

pub answered_rises : (t : Table ℕ Answer) (records : List Record) → IsRising nat_cmp t → IsRising nat_cmp (answered t records)
answered_rises t [] h = h
answered_rises t (own ∷ later) h = answered_rises (with_given t own.answer) later (given_rises t own.answer h)

pub in_more : (o : Option (ℕ × Answer)) (rows : List (ℕ × Answer)) (row : ℕ × Answer) → In row rows → In row (with_answer o rows)
unfolding In
in_more None rows row i = i
in_more (Some new) rows row i = inr i

pub in_new : (o : Option (ℕ × Answer)) (rows : List (ℕ × Answer)) (row : ℕ × Answer) → o ≡ Some row → In row (with_answer o rows)
unfolding In
in_new None rows row e = none_some refl e
in_new (Some new) rows row e = inl (sym (same_some e))

pub in_either : (o : Option (ℕ × Answer)) (rows : List (ℕ × Answer)) (row : ℕ × Answer) → In row (with_answer o rows) → (o ≡ Some row) ⊎ In row rows
unfolding In
in_either None rows row i = inr i
in_either (Some new) rows row (inl e) = inl (ap Some (sym e))
in_either (Some new) rows row (inr i) = inr i

found_from : (t : Table ℕ Answer) (records : List Record) (n : ℕ) (a : Answer) → at nat_cmp (answered t records) n ≡ Some a
    → (at nat_cmp t n ≡ Some a) ⊎ In (n, a) (answers_in records)
found_from t [] n a is = inl is
found_from t (own ∷ later) n a is = elim (found_from (with_given t own.answer) later n a is) [
  | inl before ↦ elim (given_from t own.answer n a before) [
    | inl now ↦ inr (in_new own.answer (answers_in later) (n, a) now)
    | inr old ↦ inl old
  ]
  | inr i ↦ inr (in_more own.answer (answers_in later) (n, a) i)
]

found_still : (t : Table ℕ Answer) (records : List Record) (n : ℕ) → is_some (at nat_cmp t n) ≡ true → is_some (at nat_cmp (answered t records) n) ≡ true
found_still t [] n there = there
found_still t (own ∷ later) n there = found_still (with_given t own.answer) later n (given_stays t own.answer n there)

found_then : (t : Table ℕ Answer) (records : List Record) (n : ℕ) (a : Answer) → In (n, a) (answers_in records)
    → is_some (at nat_cmp (answered t records) n) ≡ true
unfolding In
found_then t [] n a i = absurd i
found_then t (own ∷ later) n a i = elim (in_either own.answer (answers_in later) (n, a) i) [
  | inl now ↦
      found_still (with_given t own.answer) later n
      (ap (λ o. is_some (at nat_cmp (with_given t o) n)) now ∙ ap is_some (at_same t n a))
  | inr j ↦ found_then (with_given t own.answer) later n a j
]

-- what stands at a number was answered
pub at_answered : (records : List Record) (n : ℕ) (a : Answer) → at nat_cmp (answers_of records) n ≡ Some a → In (n, a) (answers_in records)
at_answered records n a is = elim (found_from [] records n a is) [
  | inl none ↦ none_some (at-empty nat_cmp n) none
  | inr i ↦ i
]

-- and what was answered stands there
pub answered_at : (records : List Record) (n : ℕ) (a : Answer) → In (n, a) (answers_in records) → is_some (at nat_cmp (answers_of records) n) ≡ true
answered_at records n a i = found_then [] records n a i

-- ### Two lists

-- where the same is answered, and once, the tables are one
module _ (one other : List Record) (once : AnswerOnce (answers_in one)) (to : (row : ℕ × Answer) → In row (answers_in one) → In row (answers_in other))
    (back : (row : ℕ × Answer) → In row (answers_in other) → In row (answers_in one)) where
  same_at : (n : ℕ) → at nat_cmp (answers_of one) n ≡ at nat_cmp (answers_of other) n
  same_at n = elim (some_or_none (at nat_cmp (answers_of one) n)) [
    | inl here ↦
        let i = at_answered one n here.0 here.1 in
        elim (some_or_none (at nat_cmp (answers_of other) n)) [
          | inl there ↦
              here.1 ∙ ap Some (once n here.0 there.0 i (back (n, there.0) (at_answered other n there.0 there.1))) ∙ sym there.1
          | inr none ↦ true_false (answered_at other n here.0 (to (n, here.0) i)) (ap is_some none)
        ]
    | inr none ↦ elim (some_or_none (at nat_cmp (answers_of other) n)) [
      | inl there ↦
          true_false (answered_at one n there.0 (back (n, there.0) (at_answered other n there.0 there.1))) (ap is_some none)
      | inr empty ↦ none ∙ sym empty
    ]
  ]

  pub same_answers : answers_of one ≡ answers_of other
  same_answers = same_tables (answers_of one) (answers_of other) (answered_rises [] one tt) (answered_rises [] other tt) same_at
