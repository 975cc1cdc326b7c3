-- Answers of greater lines stand after.
use Rattle.law_answers.proofs.Imports.{[], ◌++◌, ◌<◌, ◌∙◌, ◌∷◌, ◌≡◌, Answer, AnsweredComeFirst, AreRising, AreSteps, AreStepsFrom, Greater, In, IsAnswered}
use Rattle.law_answers.proofs.Imports.{Line, List, None, Option, Record, Script, Setting, Some, Table, World, answer_line, answers_of, ap, arith, at, by_bool}
use Rattle.law_answers.proofs.Imports.{cond, false, flat_map, flat_map-append, fold, fold-append, inl, inr, insert_entry, is_answered, is_at, is_eq, is_some}
use Rattle.law_answers.proofs.Imports.{lookup, match_ordering, nat_cmp, nat_cmp_total, nat_tests, prefix_legal, put, refl, setting_of, start, stepped, subst}
use Rattle.law_answers.proofs.Imports.{sym, text_of, tied_itself, true, with_given, world_after, ℕ}
use Rattle.law_answers.proofs.AnsweredOnce.{Ahead, answered_more, stepped_is, ahead_after, told_after, ahead_start, told_start}

-- ### Tables

-- each row is of a lower number
abbrev AreBelow : Table ℕ Answer → ℕ → Type 0
AreBelow table number = (row : ℕ × Answer) → In row table → row.0 < number

greater : (n m : ℕ) → m < n → nat_cmp n m ≡ Greater
greater n m lt = grind (arith, nat_tests)

insert_after : (a b : Table ℕ Answer) (number : ℕ) (answer : Answer) → AreBelow a number
    → insert_entry nat_cmp (a ++ b) number answer ≡ a ++ insert_entry nat_cmp b number answer
unfolding In
insert_after [] b number answer below = refl
insert_after (row ∷ rows) b number answer below =
    let o : nat_cmp number row.0 ≡ Greater = greater number row.0 (below row (inl refl)) in
    ap (λ r. match_ordering r ((number, answer) ∷ row ∷ rows ++ b) ((row.0, answer) ∷ rows ++ b) (row ∷ insert_entry nat_cmp (rows ++ b) number answer)) o
    ∙ ap (λ more. row ∷ more) (insert_after rows b number answer (λ other i. below other (inr i)))

-- an answer of a greater number is put after
put_following : (a b : Table ℕ Answer) (number : ℕ) (answer : Answer) → AreBelow a number
    → put nat_cmp (a ++ b) number answer ≡ a ++ put nat_cmp b number answer
unfolding put
put_following a b number answer below = insert_after a b number answer below

given_after : (a b : Table ℕ Answer) (o : Option (ℕ × Answer)) → ((row : ℕ × Answer) → o ≡ Some row → AreBelow a row.0)
    → with_given (a ++ b) o ≡ a ++ with_given b o
given_after a b None below = refl
given_after a b (Some row) below = put_following a b row.0 row.1 (below row refl)

-- a row's number is found
row_found : (table : Table ℕ Answer) (row : ℕ × Answer) → In row table → is_some (at nat_cmp table row.0) ≡ true
unfolding In at
row_found [] row h = absurd h
row_found (first ∷ rows) row (inl e) =
    subst (λ (r : ℕ × Answer). is_some (lookup (is_at (nat_cmp r.0)) (first ∷ rows)) ≡ true) (sym e)
    (ap (λ r. is_some (cond (is_eq r) (Some first.1) (lookup (is_at (nat_cmp first.0)) rows))) (tied_itself nat_cmp_total first.0))
row_found (first ∷ rows) row (inr i) =
    let rest = row_found rows row i in
    elim (is_eq (nat_cmp row.0 first.0)) as (λ b. is_some (cond b (Some first.1) (lookup (is_at (nat_cmp row.0)) rows)) ≡ true) [
      | true ↦ refl
      | false ↦ rest
    ]

-- ### Histories

module _ (setting : Setting) (rise : AreRising setting.lines) where
  abbrev lines : List Line
  lines = setting.lines

  -- the table is below every line without an answer
  abbrev IsBefore : Table ℕ Answer → World → Type 0
  IsBefore a w = (line : Line) → In line lines → (IsAnswered w.answers line.number → ⊥) → AreBelow a line.number

  following : (a b : Table ℕ Answer) (w : World) (records : List Record) → Ahead lines w → IsBefore a w → AreStepsFrom setting w records
      → fold (λ rows own. with_given rows own.answer) (a ++ b) records ≡ a ++ fold (λ rows own. with_given rows own.answer) b records
  following a b w [] ahead before legal = refl
  following a b w (own ∷ later) ahead before legal =
      let s = stepped_is setting rise w own ahead legal.0 in
      let v = (stepped setting w own).world in
      let below : (row : ℕ × Answer) → own.answer ≡ Some row → AreBelow a row.0 = λ row e.
      let fresh = s.new row (sym legal.0.answer ∙ e) in
      subst (AreBelow a) fresh.is (before fresh.line fresh.there (λ h. fresh.new (subst (IsAnswered w.answers) fresh.is h))) in
      let still : IsBefore a v =
      λ line there none. before line there (λ h. none
      (subst (λ (given : List (ℕ × Answer)). IsAnswered given line.number) (sym s.answers)
      (answered_more (stepped setting w own).answer w.answers line.number h))) in
      ap (λ rows. fold (λ rows own. with_given rows own.answer) rows later) (given_after a b own.answer below)
      ∙ following a (with_given b own.answer) v later s.ahead still legal.1

  -- where what is answered comes first, its table is before what has no answer
  comes_before : (prefix : List Record) → AreStepsFrom setting (start setting) prefix → AnsweredComeFirst lines prefix
      → IsBefore (answers_of prefix) (world_after setting (start setting) prefix)
  comes_before prefix legal first line there none row i =
      let told = told_after setting rise (start setting) [] prefix (ahead_start setting rise)
      (told_start setting rise) legal in
      let found = row_found (answers_of prefix) row i in
      let one = told row.0 found in
      let no : is_answered prefix line.number ≡ false =
      by_bool (is_answered prefix line.number) (λ yes. absurd (none (told line.number yes).given)) (λ no. no) in
      let lt = first one.line line one.there there (ap (is_answered prefix) one.is ∙ found) no in
      let same = one.is in
      omega arith

  append_nil : (rows : Table ℕ Answer) → rows ++ [] ≡ rows
  append_nil [] = refl
  append_nil (row ∷ rows) = ap (λ more. row ∷ more) (append_nil rows)

  joins : (prefix suffix : List Record) → AreStepsFrom setting (start setting) (prefix ++ suffix) → AnsweredComeFirst lines prefix
      → answers_of (prefix ++ suffix) ≡ answers_of prefix ++ answers_of suffix
  joins prefix suffix legal first =
      let parts = prefix_legal setting (start setting) prefix suffix legal in
      let ahead = ahead_after setting rise (start setting) prefix (ahead_start setting rise) parts.0 in
      fold-append (λ rows own. with_given rows own.answer) [] prefix suffix
      ∙ ap (λ rows. fold (λ rows own. with_given rows own.answer) rows suffix) (sym (append_nil (answers_of prefix)))
      ∙ following (answers_of prefix) [] (world_after setting (start setting) prefix) suffix ahead (comes_before prefix parts.0 first) parts.1

pub answers_join : (script : Script) (prefix suffix : List Record) → AreRising script.lines → AreSteps script (prefix ++ suffix)
    → AnsweredComeFirst script.lines prefix → answers_of (prefix ++ suffix) ≡ answers_of prefix ++ answers_of suffix
answers_join script prefix suffix rise legal first = joins (setting_of script) rise prefix suffix legal first

pub text_joins : (script : Script) (prefix suffix : List Record) → AreRising script.lines → AreSteps script (prefix ++ suffix)
    → AnsweredComeFirst script.lines prefix → text_of (prefix ++ suffix) ≡ text_of prefix ++ text_of suffix
text_joins script prefix suffix rise legal first =
    ap (λ rows. flat_map (λ row. answer_line row.0 row.1) rows) (answers_join script prefix suffix rise legal first)
    ∙ flat_map-append (λ (row : ℕ × Answer). answer_line row.0 row.1) (answers_of prefix) (answers_of suffix)
