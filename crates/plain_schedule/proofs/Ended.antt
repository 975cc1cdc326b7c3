-- What holds of phases that have ended: they answer exactly the first lines.
use Rattle.std.proofs.Common.{◌≡◌, ◌≤◌, ◌<◌, ℕ, zero, suc, ◌+◌, ◌-◌, true, false, cond, List, [], ◌∷◌, ◌++◌, length, take, drop, Some, is_some}
use Rattle.std.proofs.Common.{refl, sym, ap, ◌∙◌, subst, ◌⊎◌, inl, inr, arith, length-drop}
use Rattle.std.proofs.lemmas.List.{take-append-drop, map-append, drop_all, drop-drop, take_all}
use Rattle.std.proofs.lemmas.Bool.Decides.{nat_tests}
use Rattle.std.proofs.Math.Seq.{take-length, take-add}
use Rattle.std.specs.Prelude.{◌==◌, nat_lt, slice_get}
use Rattle.std.specs.Cmp.{nat_cmp_total, tied_itself}
use Rattle.std.specs.Ordering.{nat_cmp, is_eq}
use Rattle.std.specs.BTreeMap.{is_at}
use Rattle.std.specs.Map.{lookup, keys_of}
use Rattle.petal_table.specs.Table.{Table, at}
use Rattle.script_lines.specs.declared.answer.Answer.{Answer}
use Rattle.script_lines.specs.declared.request.Line.{Line}
use Rattle.script_lines.specs.declared.script.Script.{Script}
use Rattle.spec_rules.specs.Lists.{In}
use Rattle.spec_rules.proofs.ListLemmas.{in-append, in_later}
use Rattle.spec_rules.specs.Plans.{unarmed}
use Rattle.spec_history.specs.Legal.{IsLegal}
use Rattle.spec_history.specs.Text.{answers_of}
use Rattle.spec_history.specs.declared.record.Record.{Record}
use Rattle.spec_rules.proofs.Tests.{by_bool, same_numbers}
use Rattle.server_host.specs.Playable.{AreOrdered}
use Rattle.spec_history.specs.Order.{AreRising, AnsweredComeFirst, AnswersPhases, IsRecordPrefix, JoinsAnswers, all_answered, is_answered}
use Rattle.plain_schedule.specs.Phases.{Progress, GoesByPhases, Ends, records_of}
use Rattle.petal_world.specs.Play.{Play}
use Rattle.plain_schedule.specs.Going.{GoesOn, WentOn}
use Rattle.plain_schedule.specs.Places.{numbers, phase_run, progress_of, KeepsPlaces, PlaysOn}
use Rattle.plain_schedule.proofs.Prefixes.{still, goes_prefix}

-- ### Keys and numbers

key_found : (table : Table ℕ Answer) (number : ℕ) → In number (keys_of table) → is_some (at nat_cmp table number) ≡ true
unfolding In at
key_found [] number h = absurd h
key_found (row ∷ rows) number (inl e) =
    subst (λ (n : ℕ). is_some (lookup (is_at (nat_cmp n)) (row ∷ rows)) ≡ true) (sym e)
    (ap (λ r. is_some (cond (is_eq r) (Some row.1) (lookup (is_at (nat_cmp row.0)) rows))) (tied_itself nat_cmp_total row.0))
key_found (row ∷ rows) number (inr i) =
    let rest = key_found rows number i in
    elim (is_eq (nat_cmp number row.0)) as (λ b. is_some (cond b (Some row.1) (lookup (is_at (nat_cmp number)) rows)) ≡ true) [
      | true ↦ refl
      | false ↦ rest
    ]

found_key : (table : Table ℕ Answer) (number : ℕ) → is_some (at nat_cmp table number) ≡ true → In number (keys_of table)
unfolding In at
found_key [] number h = let f : false ≡ true = h in absurd (cc)
found_key (row ∷ rows) number h =
    elim (is_eq (nat_cmp number row.0)) as (λ b. is_eq (nat_cmp number row.0) ≡ b
    → is_some (cond b (Some row.1) (lookup (is_at (nat_cmp number)) rows)) ≡ true → In number (row.0 ∷ keys_of rows)) [
      | true ↦ λ is some. inl (tied_same number row.0 is)
      | false ↦ λ is some. inr (found_key rows number some)
    ] refl h
  where
    tied_same : (a b : ℕ) → is_eq (nat_cmp a b) ≡ true → a ≡ b
    tied_same a b is = grind (arith, nat_tests)

number_in : (lines : List Line) (line : Line) → In line lines → In line.number (numbers lines)
unfolding In
number_in [] line h = h
number_in (first ∷ lines) line (inl e) = inl (ap (λ (l : Line). l.number) e)
number_in (first ∷ lines) line (inr i) = inr (number_in lines line i)

in_numbers : (lines : List Line) (number : ℕ) → In number (numbers lines) → (line : Line) × In line lines × (number ≡ line.number)
unfolding In
in_numbers [] number h = absurd h
in_numbers (first ∷ lines) number (inl e) = (first, inl refl, e)
in_numbers (first ∷ lines) number (inr i) = let rest = in_numbers lines number i in (rest.0, inr rest.1, rest.2)

-- ### Lines that rise

prefix_below : (prefix back : List Line) → AreRising (prefix ++ back) → (one other : Line) → In one prefix → In other back → one.number < other.number
unfolding In
prefix_below [] back rising one other h k = absurd h
prefix_below (first ∷ prefix) back rising one other (inl e) k =
    subst (λ (l : Line). l.number < other.number) (sym e) (rising.0 other (later_in prefix k))
  where
    later_in : (xs : List Line) → In other back → In other (xs ++ back)
    later_in [] i = i
    later_in (x ∷ xs) i = inr (later_in xs i)
prefix_below (first ∷ prefix) back rising one other (inr i) k = prefix_below prefix back rising.1 one other i k

-- what exactly the first lines answer comes first
first_lines : (lines : List Line) (records : List Record) (place : ℕ) → AreRising lines → keys_of (answers_of records) ≡ numbers (take place lines)
    → AnsweredComeFirst lines records
first_lines lines records place rising is one other h k given none =
    let split : take place lines ++ drop place lines ≡ lines = take-append-drop place lines in
    let own = in_numbers (take place lines) one.number (subst (In one.number) is (found_key (answers_of records) one.number given)) in
    let lies : In other (take place lines) ⊎ In other (drop place lines) =
    in-append other (take place lines) (drop place lines) (subst (In other) (sym split) k) in
    elim lies [
      | inl early ↦ (
          let found : is_answered records other.number ≡ true =
          key_found (answers_of records) other.number (subst (In other.number) (sym is) (number_in (take place lines) other early)) in
          let clash : true ≡ false = sym found ∙ none in
          absurd (cc))
      | inr late ↦ (
          let lt = prefix_below (take place lines) (drop place lines) (subst AreRising (sym split) rising) own.0 other own.1 late in
          let same = own.2 in
          omega arith)
    ]

-- where the keys are the numbers of the lines, each line has an answer
all_found : (table : Table ℕ Answer) (lines : List Line) → ((line : Line) → In line lines → In line.number (keys_of table)) → all_answered table lines ≡ true
unfolding In
all_found table [] h = refl
all_found table (line ∷ lines) h =
    let one = key_found table line.number (h line (inl refl)) in
    let rest = all_found table lines (λ other i. h other (inr i)) in
    rw one rest

-- ### Phases

lt_true : (a b : ℕ) → a < b → nat_lt a b ≡ true
lt_true a b lt = grind (arith, nat_tests)

lt_false : (a b : ℕ) → b ≤ a → nat_lt a b ≡ false
lt_false a b le = grind (arith, nat_tests)

above : (a b : ℕ) → (a == b) ≡ false → b ≤ a → b < a
above a b ne le = grind (arith, nat_tests)

-- what answers exactly the first lines answers exactly the phases of these
answers_phases : (lines : List Line) (records : List Record) (place phases : ℕ) → AreRising lines → keys_of (answers_of records) ≡ numbers (take place lines)
    → ((line : Line) → In line (take place lines) → line.phase < phases) → ((line : Line) → In line (drop place lines) → phases ≤ line.phase)
    → AnswersPhases phases lines records
answers_phases lines records place phases rising is played to_play line h =
    let split : take place lines ++ drop place lines ≡ lines = take-append-drop place lines in
    elim (in-append line (take place lines) (drop place lines) (subst (In line) (sym split) h)) [
      | inl early ↦ (
          let found : is_answered records line.number ≡ true =
          key_found (answers_of records) line.number (subst (In line.number) (sym is) (number_in (take place lines) line early)) in
          found ∙ sym (lt_true line.phase phases (played line early)))
      | inr late ↦ by_bool (is_answered records line.number)
          (λ yes.
          let own = in_numbers (take place lines) line.number (subst (In line.number) is (found_key (answers_of records) line.number yes)) in
          let lt = prefix_below (take place lines) (drop place lines) (subst AreRising (sym split) rising) own.0 line own.1 late in
          let same = own.2 in
          absurd (omega arith))
          (λ no. no ∙ sym (lt_false line.phase phases (to_play line late)))
    ]

run_within : (phase : ℕ) (lines : List Line) → phase_run phase lines ≤ length lines
run_within phase [] = omega arith
run_within phase (first ∷ lines) =
    let le = run_within phase lines in
    elim (first.phase == phase) as (λ b. cond b (suc (phase_run phase lines)) 0 ≤ suc (length lines)) [
      | true ↦ omega arith
      | false ↦ omega arith
    ]

run_phase : (phase : ℕ) (lines : List Line) (line : Line) → In line (take (phase_run phase lines) lines) → line.phase ≡ phase
unfolding In
run_phase phase [] line h = absurd h
run_phase phase (first ∷ lines) line h =
    elim (first.phase == phase)
    as (λ b. (first.phase == phase) ≡ b → In line (take (cond b (suc (phase_run phase lines)) 0) (first ∷ lines)) → line.phase ≡ phase) [
      | true ↦ λ is i. elim i [
        | inl e ↦ ap (λ (l : Line). l.phase) e ∙ same_numbers first.phase phase is
        | inr j ↦ run_phase phase lines line j
      ]
      | false ↦ λ is i. absurd i
    ] refl h

-- the lines after those of a phase are of later phases
run_following : (phase : ℕ) (lines : List Line) → AreRising lines → AreOrdered lines → ((line : Line) → In line lines → phase ≤ line.phase) → (line : Line)
    → In line (drop (phase_run phase lines) lines) → phase < line.phase
unfolding In
run_following phase [] rising ordered from line h = absurd h
run_following phase (first ∷ lines) rising ordered from line h =
    elim (first.phase == phase)
    as (λ b. (first.phase == phase) ≡ b → In line (drop (cond b (suc (phase_run phase lines)) 0) (first ∷ lines)) → phase < line.phase) [
      | true ↦ λ is i. run_following phase lines rising.1 (λ one other j k. ordered one other (inr j) (inr k)) (λ other j. from other (inr j)) line i
      | false ↦ λ is i.
          let lt : phase < first.phase = above first.phase phase is (from first (inl refl)) in
          elim i [
            | inl e ↦ subst (λ (l : Line). phase < l.phase) (sym e) lt
            | inr j ↦ (
                let below = rising.0 line j in
                let up : first.phase ≤ line.phase = ordered first line (inl refl) (inr j) (omega arith) in
                omega arith)
          ]
    ] refl h

rising_following : (prefix back : List Line) → AreRising (prefix ++ back) → AreRising back
rising_following [] back rising = rising
rising_following (first ∷ prefix) back rising = rising_following prefix back rising.1

in_rest : (lines : List Line) (place : ℕ) (line : Line) → slice_get lines place ≡ Some line → In line (drop place lines)
unfolding In
in_rest [] place line is = absurd (cc)
in_rest (first ∷ lines) zero line is = inl (cc)
in_rest (first ∷ lines) (suc place) line is = in_rest lines place line is

-- the line that is played next is of no earlier phase
pub line_to_play : (script : Script) (records : List Record) (told place phases : ℕ) → KeepsPlaces script records told place phases → (line : Line)
    → slice_get script.lines place ≡ Some line → phases ≤ line.phase
line_to_play script records told place phases k line is = k.to_play line (in_rest script.lines place line is)

-- the phase that is played next
record PlaysNext (lines : List Line) (place phases count : ℕ) : Type 0 where
  played : (line : Line) → In line (take (place + count) lines) → line.phase < phases + 1
  to_play : (line : Line) → In line (drop (place + count) lines) → phases + 1 ≤ line.phase

plays_next : (lines : List Line) (place phases : ℕ) → AreRising lines → AreOrdered lines
    → ((line : Line) → In line (take place lines) → line.phase < phases) → ((line : Line) → In line (drop place lines) → phases ≤ line.phase)
    → PlaysNext lines place phases (phase_run phases (drop place lines))
plays_next lines place phases rising ordered played to_play =
    let back = drop place lines in
    let count = phase_run phases back in
    let split : take place lines ++ back ≡ lines = take-append-drop place lines in
    let rises : AreRising back = rising_following (take place lines) back (subst AreRising (sym split) rising) in
    let lies : (line : Line) → In line back → In line lines = λ line h. subst (In line) split (in_later line (take place lines) back h) in
    record {
      played = λ line h. elim (in-append line (take place lines) (take count back) (subst (In line) (take-add place count lines) h)) [
        | inl early ↦ (let lt = played line early in omega arith)
        | inr now ↦ (let e = run_phase phases back line now in omega arith)
      ];
      to_play = λ line h.
          let lt = run_following phases back rises (λ one other j k. ordered one other (lies one j) (lies other k)) to_play line
          (subst (In line) (sym (drop-drop count place lines)) h) in
          omega arith;
    }

pub all_lines : (script : Script) (records : List Record) (told place phases : ℕ) → KeepsPlaces script records told place phases
    → length script.lines ≤ place → all_answered (answers_of (take told records)) script.lines ≡ true
all_lines script records told place phases k le =
    let within = k.place_is in
    let same : place ≡ length script.lines = omega arith in
    let whole : take place script.lines ≡ script.lines = ap (λ n. take n script.lines) same ∙ take-length script.lines in
    all_found (answers_of (take told records)) script.lines
    (λ line i. subst (In line.number) (sym (k.answered ∙ ap numbers whole)) (number_in script.lines line i))

-- ### Progress

pub goes_by_phases : (script : Script) (records : List Record) (told place phases : ℕ) → KeepsPlaces script records told place phases
    → GoesByPhases (progress_of script records told phases)
goes_by_phases script records told place phases k = record {
  legal = subst (IsLegal script) (sym (take-append-drop told records)) k.legal;
  exactly = answers_phases script.lines (take told records) place phases k.rising k.answered k.played k.to_play;
  first = first_lines script.lines (take told records) place k.rising k.answered;
}

pub start_places : (script after : Script) (records : List Record) → after ≡ script → records ≡ [] → AreRising script.lines → AreOrdered script.lines
    → JoinsAnswers script → KeepsPlaces after records 0 0 0
unfolding In
start_places script after records same none rising ordered joins = rw (same, none) (record {
  legal = record { steps = tt; obey = tt; planned = λ n. (unarmed, refl) };
  rising = rising;
  ordered = ordered;
  joins = joins;
  told_is = omega arith;
  place_is = omega arith;
  answered = refl;
  played = λ line h. absurd h;
  to_play = λ line h. omega arith;
  small = omega arith;
})

-- records more change nothing of the phases that have ended
places_still : (script : Script) (old new : List Record) (told place phases : ℕ) → KeepsPlaces script old told place phases → GoesOn old new
    → IsLegal script new → KeepsPlaces script new told place phases
places_still script old new told place phases k on legal =
    let s = still told old new k.told_is on in
    record {
      legal = legal;
      rising = k.rising;
      ordered = k.ordered;
      joins = k.joins;
      told_is = s.within;
      place_is = k.place_is;
      answered = ap (λ r. keys_of (answers_of r)) s.same ∙ k.answered;
      played = k.played;
      to_play = k.to_play;
      small = k.small;
    }

grown : (script after : Script) (old new : List Record) (told more n m : ℕ) → GoesOn old new
    → IsRecordPrefix (records_of (progress_of script old told n)) (records_of (progress_of after new more m))
grown script after old new told more n m on =
    let f = goes_prefix old new on in
    record { following = f.following; is = take-append-drop more new ∙ f.is ∙ ap (λ r. r ++ f.following) (sym (take-append-drop told old)) }

-- the phase that ends answers the next lines
places_more : (script : Script) (old new : List Record) (told place phases count : ℕ) → KeepsPlaces script old told place phases
    → GoesOn old new → IsLegal script new
    → phases < 4294967296 → count ≡ phase_run phases (drop place script.lines)
    → keys_of (answers_of (drop told new)) ≡ numbers (take count (drop place script.lines)) → KeepsPlaces script new (length new) (place + count) (phases + 1)
places_more script old new told place phases count k on legal room run exactly =
    let now = places_still script old new told place phases k on legal in
    let g = goes_by_phases script new told place phases now in
    let next : PlaysNext script.lines place phases count =
    subst (PlaysNext script.lines place phases) (sym run) (plays_next script.lines place phases k.rising k.ordered k.played k.to_play) in
    let split : new ≡ take told new ++ drop told new = sym (take-append-drop told new) in
    let joined : answers_of new ≡ answers_of (take told new) ++ answers_of (drop told new) = ap answers_of split
    ∙ now.joins (take told new) (drop told new) now.rising g.legal.steps g.first in
    record {
      legal = legal;
      rising = now.rising;
      ordered = now.ordered;
      joins = now.joins;
      told_is = omega arith;
      place_is = omega (arith, k.place_is, run, run_within phases (drop place script.lines), length-drop place script.lines);
      answered = ap (λ r. keys_of (answers_of r)) (take-length new) ∙ ap keys_of joined
          ∙ map-append (λ (row : ℕ × Answer). row.0) (answers_of (take told new)) (answers_of (drop told new))
          ∙ (rw (now.answered, exactly) (sym (ap numbers (take-add place count script.lines)
          ∙ map-append (λ (line : Line). line.number) (take place script.lines) (take count (drop place script.lines)))));
      played = next.played;
      to_play = next.to_play;
      small = omega (arith, room);
    }

ends : (script after : Script) (old new : List Record) (told phases : ℕ) (answers : Table ℕ Answer) → told ≤ length old → GoesOn old new
    → answers ≡ answers_of (drop told new) → Ends (progress_of script old told phases) (progress_of after new (length new) (phases + 1)) answers
ends script after old new told phases answers le on gave =
    let s = still told old new le on in
    record {
      phase = drop told new;
      phases = refl;
      ended = take-length new ∙ sym (take-append-drop told new) ∙ ap (λ r. r ++ drop told new) s.same;
      since = drop_all (length new) new (omega arith);
      gave = gave;
    }

-- ### What a call on the rounds does

module _ (old new : Play) (told place phases : ℕ) (k : KeepsPlaces old.script old.records told place phases) (w : WentOn old new)
    (legal : IsLegal new.script new.records) where
  still_legal : IsLegal old.script new.records
  still_legal = subst (λ (s : Script). IsLegal s new.records) w.0 legal

  pub kept : KeepsPlaces new.script new.records told place phases
  kept = subst (λ (s : Script). KeepsPlaces s new.records told place phases) (sym w.0)
      (places_still old.script old.records new.records told place phases k w.1 still_legal)

  -- the phase has ended, which answers these lines
  pub kept_next : (n count : ℕ) (lines : List Line) (answers : Table ℕ Answer) → n ≡ length new.records → phases < 4294967296 → lines ≡ old.script.lines
      → count ≡ phase_run phases (take (length lines - place) (drop place lines)) → answers ≡ answers_of (drop told new.records)
      → keys_of answers ≡ numbers (take count (drop place old.script.lines)) → KeepsPlaces new.script new.records n (place + count) (phases + 1)
  kept_next n count lines answers all room same run gave exactly =
      let run_is : count ≡ phase_run phases (drop place old.script.lines) = run
      ∙ ap (phase_run phases) (take_all (length lines - place) (drop place lines) (omega (arith, length-drop place lines)))
      ∙ ap (λ (ls : List Line). phase_run phases (drop place ls)) same in
      subst (λ (s : Script). KeepsPlaces s new.records n (place + count) (phases + 1)) (sym w.0)
      (subst (λ (m : ℕ). KeepsPlaces old.script new.records m (place + count) (phases + 1)) (sym all)
      (places_more old.script old.records new.records told place phases count k w.1 still_legal room run_is (ap keys_of (sym gave) ∙ exactly)))

  module _ (before : Progress) (view : progress_of old.script old.records told phases ≡ before) where
    pub plays_on : (n at m : ℕ) → KeepsPlaces new.script new.records n at m → PlaysOn before (progress_of new.script new.records n m)
    plays_on n at m now = record {
      script = w.0 ∙ ap (λ (p : Progress). p.script) view;
      by_phases = goes_by_phases new.script new.records n at m now;
      grows = subst (λ (p : Progress). IsRecordPrefix (records_of p) (records_of (progress_of new.script new.records n m))) view
          (grown old.script new.script old.records new.records told n phases m w.1);
    }

    pub told_stays : take told new.records ≡ before.ended
    told_stays = (still told old.records new.records k.told_is w.1).same ∙ ap (λ (p : Progress). p.ended) view

    pub ends_next : (n : ℕ) (answers : Table ℕ Answer) → n ≡ length new.records → answers ≡ answers_of (drop told new.records)
        → Ends before (progress_of new.script new.records n (phases + 1)) answers
    ends_next n answers all gave =
        subst (λ (p : Progress). Ends p (progress_of new.script new.records n (phases + 1)) answers) view
        (subst (λ (m : ℕ). Ends (progress_of old.script old.records told phases) (progress_of new.script new.records m (phases + 1)) answers) (sym all)
        (ends old.script new.script old.records new.records told phases answers k.told_is w.1 gave))
