-- The answers of all clients' records: whose each is, and that none is given twice.
use Rattle.law_answers.proofs.Imports.{[], ◌&&◌, ◌<◌, ◌==◌, ◌∙◌, ◌∷◌, ◌≡◌, Answer, AreRising, Bool, Client, In, Line, List, None, Record, Script}
use Rattle.law_answers.proofs.Imports.{Setting, Some, ap, arith, at, by_bool, cond, filter, inl, inr, is_answered, is_some, lines_of, nat_lt}
use Rattle.law_answers.proofs.Imports.{nat_cmp, nat_tests, none_some, number_itself, some_or_none, refl, setting_of, slice_get, start, subst, sym, true, true_false, ℕ}
use Rattle.law_answers.proofs.LinesHavePlaces.{one_client, one_place}
use Rattle.law_copies.proofs.ChainsRise.{in_kept}
use Rattle.law_state.proofs.ListLookups.{get_in}
use Rattle.petal_msg.specs.declared.letter.Actor.TheVariants as actor
use Rattle.law_merge.specs.Alone.{client_along, is_by_client, of_client}
use Rattle.law_printed.specs.Answers.{AnswerAlone, answers_in}
use Rattle.law_printed.specs.Played.{HavePlayed}
use Rattle.law_printed.proofs.AnswersByNumber.{AnswerOnce, answered_at, at_answered, in_either, in_more, in_new}
use Rattle.law_printed.proofs.ClientTurns.{At, IsAnswered, IsLined, Runs, at_of, each_answers, each_is_answered, each_once, line_of, runs_alone}
use Rattle.spec_history.specs.Order.{all_answered}
use Rattle.spec_history.specs.Text.{answers_of}
use Rattle.std.specs.List.{list_all}
use Rattle.std.proofs.lemmas.Bool.{cases_lt}

-- ### Rows and their records

pub in_filtered : {A : Type 0} (p : A → Bool) (xs : List A) (x : A) → In x (filter p xs) → In x xs
unfolding In
in_filtered p [] x i = absurd i
in_filtered {A} p (y ∷ ys) x i = by_bool (p y)
    (λ t. elim (subst (λ (zs : List A). In x zs) (ap (λ b. cond b (y ∷ filter p ys) (filter p ys)) t) i) [
      | inl e ↦ inl e
      | inr j ↦ inr (in_filtered p ys x j)
    ])
    (λ f. inr (in_filtered p ys x (subst (λ (zs : List A). In x zs) (ap (λ b. cond b (y ∷ filter p ys) (filter p ys)) f) i)))

-- the record that gave the row
pub record_of : (records : List Record) (row : ℕ × Answer) → In row (answers_in records) → (own : Record) × In own records × (own.answer ≡ Some row)
unfolding In
record_of [] row i = absurd i
record_of (own ∷ later) row i = elim (in_either own.answer (answers_in later) row i) [
  | inl now ↦ (own, inl refl, now)
  | inr j ↦ (let rest = record_of later row j in (rest.0, inr rest.1, rest.2))
]

pub row_of : (records : List Record) (own : Record) (row : ℕ × Answer) → In own records → own.answer ≡ Some row → In row (answers_in records)
unfolding In
row_of [] own row i is = absurd i
row_of (first ∷ later) own row (inl e) is = in_new first.answer (answers_in later) row (ap (λ (r : Record). r.answer) (sym e) ∙ is)
row_of (first ∷ later) own row (inr i) is = in_more first.answer (answers_in later) row (row_of later own row i is)

-- none of a server's records answers
abbrev pub ServersAnswerNothing : List Record → Type 0
ServersAnswerNothing records = (own : Record) (n : ℕ) → In own records → own.actor ≡ actor.Server n → own.answer ≡ None

-- each row is of a client
pub client_row : (records : List Record) → ServersAnswerNothing records → (row : ℕ × Answer) → In row (answers_in records)
    → (c : ℕ) × In row (answers_in (of_client c records))
client_row records none row i =
    let given = record_of records row i in
    elim given.0.actor as (λ a. given.0.actor ≡ a → (c : ℕ) × In row (answers_in (of_client c records))) [
      | actor.Server n ↦ λ is. none_some (none given.0 n given.1 is) given.2
      | actor.Client c ↦ λ is. (
        c,
        row_of (of_client c records) given.0 row
            (in_kept (λ (own : Record). is_by_client c own.actor) records given.0 given.1 (ap (is_by_client c) is ∙ number_itself c)) given.2,
      )
    ] refl

pub any_row : (records : List Record) (c : ℕ) (row : ℕ × Answer) → In row (answers_in (of_client c records)) → In row (answers_in records)
any_row records c row i =
    let given = record_of (of_client c records) row i in
    row_of records given.0 row (in_filtered (λ (own : Record). is_by_client c own.actor) records given.0 given.1) given.2

-- ### Clients by themselves

module _ (script : Script) (records : List Record) (alone : AnswerAlone script records) where
  abbrev setting : Setting
  setting = setting_of script

  abbrev client_at : ℕ → Client
  client_at c = client_along setting c ((start setting).clients c) (of_client c records)

  abbrev begun : At
  begun = record { seq = 0; opened = None }

  runs : (c : ℕ) → Runs (lines_of script.lines c) begun (of_client c records) (at_of (client_at c))
  runs c = runs_alone setting c ((start setting).clients c) 0 (of_client c records) (alone.clients c)

  lined : (c : ℕ) → IsLined (lines_of script.lines c) begun
  lined c number is = none_some refl is

  -- each answer is of a line that its client has called
  pub its_line : (c : ℕ) (row : ℕ × Answer) → In row (answers_in (of_client c records))
      → IsAnswered (lines_of script.lines c) begun (at_of (client_at c)) row.0
  its_line c row i = each_answers (lines_of script.lines c) begun (of_client c records) (at_of (client_at c)) (runs c) (lined c) row i

  -- and each line that it has called, and has not open, has one
  pub its_answer : (c place : ℕ) (line : Line) → slice_get (lines_of script.lines c) place ≡ Some line → place < (client_at c).seq
      → (client_at c).asked ≡ None → (a : Answer) × In (line.number, a) (answers_in (of_client c records))
  its_answer c place line is called free =
      each_is_answered (lines_of script.lines c) begun (of_client c records) (at_of (client_at c)) (runs c) (lined c) place line is (inl (omega arith))
      (λ due. elim due [
        | inl le ↦ absurd (omega arith)
        | inr last ↦ true_false last.1 (ap (λ o. is_some (line_of o)) free)
      ])

  pub answered_once : AreRising script.lines → AnswerOnce (answers_in records)
  answered_once rise number one other i j =
      let here = client_row records alone.servers (number, one) i in
      let there = client_row records alone.servers (number, other) j in
      let a = its_line here.0 (number, one) here.1 in
      let b = its_line there.0 (number, other) there.1 in
      let same : there.0 ≡ here.0 =
      one_client script.lines rise there.0 here.0 b.place a.place b.line a.line b.is a.is (b.number_is ∙ sym a.number_is) in
      each_once script.lines rise here.0 begun (of_client here.0 records) (at_of (client_at here.0)) (runs here.0) (lined here.0) number one other here.1
      (subst (λ c. In (number, other) (answers_in (of_client c records))) same there.1)

  -- ### Phases

  module _ (rise : AreRising script.lines) (phases : ℕ) (played : HavePlayed script phases records) where
    -- an answered line is of one of the phases
    pub in_phases : (line : Line) → In line script.lines → (a : Answer) → In (line.number, a) (answers_in records) → line.phase < phases
    in_phases line there a i =
        let own = client_row records alone.servers (line.number, a) i in
        let at_line = its_line own.0 (line.number, a) own.1 in
        let place = get_in (lines_of script.lines line.client) line (in_kept (λ (l : Line). l.client == line.client) script.lines line there (number_itself line.client)) in
        let same : own.0 ≡ line.client =
        one_client script.lines rise own.0 line.client at_line.place place.0 at_line.line line at_line.is place.1 at_line.number_is in
        let is_line : slice_get (lines_of script.lines own.0) place.0 ≡ Some line =
        subst (λ c. slice_get (lines_of script.lines c) place.0 ≡ Some line) (sym same) place.1 in
        let same_place : at_line.place ≡ place.0 =
        one_place script.lines rise own.0 at_line.place place.0 at_line.line line at_line.is is_line at_line.number_is in
        let called : at_line.place < (client_at own.0).seq = elim (cases_lt at_line.place (client_at own.0).seq) [
          | inl lt ↦ lt
          | inr past ↦ absurd (at_line.done (inl past))
        ] in
        (played own.0).only place.0 line is_line (omega arith)

    pub phase_answered : (line : Line) → In line script.lines → line.phase < phases → is_answered records line.number ≡ true
    phase_answered line there before =
        let c = line.client in
        let place = get_in (lines_of script.lines c) line (in_kept (λ (l : Line). l.client == c) script.lines line there (number_itself c)) in
        let given = its_answer c place.0 line place.1 ((played c).called place.0 line place.1 before) (played c).free in
        answered_at records line.number given.0 (any_row records c (line.number, given.0) given.1)

    pub phases_answered : (line : Line) → In line script.lines → is_answered records line.number ≡ nat_lt line.phase phases
    phases_answered line there = by_bool (nat_lt line.phase phases)
        (λ yes. phase_answered line there (let e = yes in grind (arith, nat_tests, e)) ∙ sym yes)
        (λ no. by_bool (is_answered records line.number)
        (λ told. elim (some_or_none (at nat_cmp (answers_of records) line.number)) [
          | inl found ↦
              let before = in_phases line there found.0 (at_answered records line.number found.0 found.1) in
              true_false (let e = before in grind (arith, nat_tests, e)) no
          | inr none ↦ true_false told (ap is_some none)
        ])
        (λ none. none ∙ sym no))

all_lines : (p : Line → Bool) (lines : List Line) → ((line : Line) → In line lines → p line ≡ true) → list_all p lines ≡ true
unfolding In
all_lines p [] each = refl
all_lines p (line ∷ lines) each =
    ap (λ b. b && list_all p lines) (each line (inl refl)) ∙ all_lines p lines (λ other i. each other (inr i))

pub all_phases_answered : (script : Script) (records : List Record) → AnswerAlone script records → AreRising script.lines → (phases : ℕ)
    → HavePlayed script phases records → ((line : Line) → In line script.lines → line.phase < phases) → all_answered (answers_of records) script.lines ≡ true
all_phases_answered script records alone rise phases played all =
    all_lines (λ (line : Line). is_answered records line.number) script.lines
    (λ line there. phase_answered script records alone rise phases played line there (all line there))
