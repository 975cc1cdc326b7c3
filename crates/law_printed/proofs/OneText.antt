-- Two lists of records that have the same answers, and a list whose answers come after those of another.
use Rattle.law_answers.proofs.Imports.{[], ◌++◌, ◌<◌, ◌≤◌, ◌∙◌, ◌∷◌, ◌≡◌, ◌⊎◌, Answer, AreRising, Bool, Client, Greater, In, Line, List, None, Option, Record}
use Rattle.law_answers.proofs.Imports.{Script, Setting, Some, Table, answer_line, ap, arith, at, by_bool, false, flat_map, flat_map-append, fold-append}
use Rattle.law_answers.proofs.Imports.{in-append, in_former, in_get, in_later, inl, inr, insert_entry, is_some, lines_of, match_ordering, nat_cmp, nat_cmp_total}
use Rattle.law_answers.proofs.Imports.{nat_lt, nat_tests, none_some, put, refl, setting_of, start, subst, sym, true, true_false, with_given, ℕ}
use Rattle.law_answers.proofs.LinesHavePlaces.{line_at}
use Rattle.law_merge.specs.Alone.{IsAlone, acted_by, IsAloneClient, client_along, of_client, reacted_by}
use Rattle.law_printed.specs.Answers.{AnswerAlone, AnswerNothing, HaveParts, answers_in}
use Rattle.law_printed.specs.Clients.{AreClients, AreOfClients, AreServers, EachIsBy, HaveAllPlayed, WentOn, all_records}
use Rattle.law_printed.specs.Played.{HavePlayed, PhasesRise}
use Rattle.law_printed.proofs.AnswersByNumber.{answered, answered_rises, at_answered, in_more, in_new, same_answers}
use Rattle.law_printed.proofs.ClientsAnswer.{all_phases_answered, any_row, answered_once, client_row, its_line, phases_answered, record_of, row_of}
use Rattle.law_printed.proofs.ClientTurns.{At, at_of, each_answers, line_of, runs_alone}
use Rattle.law_printed.proofs.ListsOfClients.{lists_alone, lists_parts, lists_played}
use Rattle.law_state.specs.Imports.{Server}
use Rattle.std.proofs.Common.{length, slice_get, suc}
use Rattle.law_state.proofs.ListLookups.{get_in, get_within}
use Rattle.law_steps.proofs.TablesOfPuts.{at_row}
use Rattle.law_steps.specs.Ready.{IsRising}
use Rattle.petal_msg.specs.declared.letter.Actor.TheVariants as actor
use Rattle.spec_history.specs.Order.{AnswersPhases, all_answered}
use Rattle.spec_history.specs.Text.{answers_of, text_of}
use Rattle.std.proofs.Common.{get_or}
use Rattle.std.proofs.lemmas.Bool.{cases_lt}
use Rattle.std.proofs.lemmas.List.Sorted.{All-permutation, IsPermutation-sym}
use Rattle.std.proofs.lemmas.Option.{get_or_from_slice_get, slice_get-get_or, slice_get_within}
use Rattle.std.specs.List.{All}
use Rattle.std.specs.List.Sorted.{IsPermutation}

-- ### Texts

pub text_same : (one other : List Record) → answers_of one ≡ answers_of other → text_of one ≡ text_of other
text_same one other e = ap (λ rows. flat_map (λ row. answer_line row.0 row.1) rows) e

pub text_joined : (before since after : List Record) → answers_of after ≡ answers_of before ++ answers_of since
    → text_of after ≡ text_of before ++ text_of since
text_joined before since after e =
    ap (λ rows. flat_map (λ row. answer_line row.0 row.1) rows) e
    ∙ flat_map-append (λ (row : ℕ × Answer). answer_line row.0 row.1) (answers_of before) (answers_of since)

-- ### Where nothing else is answered

pub others_answer_nothing : (others own history : List Record) → AnswerNothing others → ((r : Record) → In r history → In r (others ++ own))
    → (row : ℕ × Answer) → In row (answers_in history) → In row (answers_in own)
others_answer_nothing others own history none from row i =
    let given = record_of history row i in
    elim (in-append given.0 others own (from given.0 given.1)) [
      | inl other ↦ none_some (none given.0 other) given.2
      | inr mine ↦ row_of own given.0 row mine given.2
    ]

pub own_answers : (others own history : List Record) → ((r : Record) → In r (others ++ own) → In r history) → (row : ℕ × Answer)
    → In row (answers_in own) → In row (answers_in history)
own_answers others own history to row i =
    let given = record_of own row i in
    row_of history given.0 row (to given.0 (in_later given.0 others own given.1)) given.2

-- ### Lists with the same records

all_in : {X : Type 0} (P : X → Type 0) (xs : List X) (x : X) → All P xs → In x xs → P x
all_in P xs x all there =
    let at = get_in xs x there in
    subst P (get_or_from_slice_get xs at.0 x x at.1) (all at.0 x (slice_get_within xs at.0 x at.1))

each_in : {X : Type 0} (xs : List X) → All (λ y. In y xs) xs
each_in xs k d less = in_get xs k (get_or xs k d) (slice_get-get_or xs k d less)

in_shuffled : {X : Type 0} (xs ys : List X) (x : X) → IsPermutation xs ys → In x xs → In x ys
in_shuffled xs ys x moved there =
    all_in (λ y. In y ys) xs x (All-permutation (λ y. In y ys) ys xs (IsPermutation-sym xs ys moved) (each_in ys)) there

pub history_answers : (script : Script) (others own history : List Record) → AreRising script.lines → AnswerNothing others → AnswerAlone script own
    → IsPermutation (others ++ own) history → answers_of history ≡ answers_of own
history_answers script others own history rise none alone moved =
    sym (same_answers own history (answered_once script own alone rise)
    (own_answers others own history (λ r i. in_shuffled (others ++ own) history r moved i))
    (others_answer_nothing others own history none (λ r i. in_shuffled history (others ++ own) r (IsPermutation-sym (others ++ own) history moved) i)))

-- ### A table that stands before another

-- each row is of a lower number
abbrev AreBelow : Table ℕ Answer → ℕ → Type 0
AreBelow table number = (row : ℕ × Answer) → In row table → row.0 < number

greater : (n m : ℕ) → m < n → nat_cmp n m ≡ Greater
greater n m lt = grind (arith, nat_tests)

put_after : (a b : Table ℕ Answer) (number : ℕ) (answer : Answer) → AreBelow a number
    → put nat_cmp (a ++ b) number answer ≡ a ++ put nat_cmp b number answer
unfolding In put
put_after [] b number answer below = refl
put_after (row ∷ rows) b number answer below =
    let o : nat_cmp number row.0 ≡ Greater = greater number row.0 (below row (inl refl)) in
    ap (λ r. match_ordering r ((number, answer) ∷ row ∷ rows ++ b) ((row.0, answer) ∷ rows ++ b) (row ∷ insert_entry nat_cmp (rows ++ b) number answer)) o
    ∙ ap (λ more. row ∷ more) (put_after rows b number answer (λ other i. below other (inr i)))

given_after : (a b : Table ℕ Answer) (o : Option (ℕ × Answer)) → ((row : ℕ × Answer) → o ≡ Some row → AreBelow a row.0)
    → with_given (a ++ b) o ≡ a ++ with_given b o
given_after a b None below = refl
given_after a b (Some row) below = put_after a b row.0 row.1 (below row refl)

after_all : (a b : Table ℕ Answer) (records : List Record) → ((row : ℕ × Answer) → In row (answers_in records) → AreBelow a row.0)
    → answered (a ++ b) records ≡ a ++ answered b records
after_all a b [] below = refl
after_all a b (own ∷ later) below =
    ap (λ rows. answered rows later) (given_after a b own.answer (λ row e. below row (in_new own.answer (answers_in later) row e)))
    ∙ after_all a (with_given b own.answer) later (λ row i. below row (in_more own.answer (answers_in later) row i))

append_nil : (rows : Table ℕ Answer) → rows ++ [] ≡ rows
append_nil [] = refl
append_nil (row ∷ rows) = ap (λ more. row ∷ more) (append_nil rows)

joined : (before since : List Record) → ((one other : ℕ × Answer) → In one (answers_in before) → In other (answers_in since) → one.0 < other.0)
    → answers_of (before ++ since) ≡ answers_of before ++ answers_of since
joined before since less =
    fold-append (λ rows (own : Record). with_given rows own.answer) [] before since
    ∙ ap (λ rows. answered rows since) (sym (append_nil (answers_of before)))
    ∙ after_all (answers_of before) [] since (λ row i other j.
    less (other.0, other.1) row (at_answered before other.0 other.1 (row_at_key (answers_of before) other (answered_rises [] before tt) j)) i)
  where
    row_at_key : (t : Table ℕ Answer) (row : ℕ × Answer) → IsRising nat_cmp t → In row t → at nat_cmp t row.0 ≡ Some row.1
    row_at_key t row h i = at_row nat_cmp_total t row h i

-- ### Phases

alone_parts : (setting : Setting) (c : ℕ) (client : Client) (clock : ℕ) (xs ys : List Record) → IsAloneClient setting c client clock (xs ++ ys)
    → IsAloneClient setting c client clock xs × ((later : ℕ) × IsAloneClient setting c (client_along setting c client xs) later ys)
alone_parts setting c client clock [] ys alone = (tt, (clock, alone))
alone_parts setting c client clock (own ∷ xs) ys alone =
    let rest = alone_parts setting c (reacted_by setting c client own.step).client own.stamp xs ys alone.1 in
    ((alone.0, rest.0), rest.1)

module _ (script : Script) (rise : AreRising script.lines) (phases_rise : PhasesRise script.lines) (phases : ℕ) (before since after : List Record)
    (alone : AnswerAlone script after) (parts : HaveParts before since after) (played : HavePlayed script phases before) where
  abbrev setting : Setting
  setting = setting_of script

  abbrev client_then : ℕ → Client
  client_then c = client_along setting c ((start setting).clients c) (of_client c before)

  both : (c : ℕ) → IsAloneClient setting c ((start setting).clients c) 0 (of_client c before)
      × ((later : ℕ) × IsAloneClient setting c (client_then c) later (of_client c since))
  both c = alone_parts setting c ((start setting).clients c) 0 (of_client c before) (of_client c since)
      (subst (IsAloneClient setting c ((start setting).clients c) 0) (parts.clients c) (alone.clients c))

  alone_before : AnswerAlone script before
  alone_before = record {
    servers = λ own n i is. parts.servers own n (in_former own before since i) is;
    clients = λ c. (both c).0;
  }

  none_since : (own : Record) (n : ℕ) → In own since → own.actor ≡ actor.Server n → own.answer ≡ None
  none_since own n i is = parts.servers own n (in_later own before since i) is

  -- a row of before is of a line of these phases
  record IsOfLine (early : Bool) (number : ℕ) : Type 0 where
    line : Line
    there : In line script.lines
    is : line.number ≡ number
    so : nat_lt line.phase phases ≡ early

  early_line : (row : ℕ × Answer) → In row (answers_in before) → IsOfLine true row.0
  early_line row i =
      let own = client_row before alone_before.servers row i in
      let a = its_line script before alone_before own.0 row own.1 in
      let there = line_at script.lines own.0 a.place a.line a.is in
      let called : a.place < (client_then own.0).seq = elim (cases_lt a.place (client_then own.0).seq) [
        | inl lt ↦ lt
        | inr past ↦ absurd (a.done (inl past))
      ] in
      let phase = (played own.0).only a.place a.line a.is called in
      record { line = a.line; there = there.0; is = a.number_is; so = grind (arith, nat_tests, phase) }

  late_line : (row : ℕ × Answer) → In row (answers_in since) → IsOfLine false row.0
  late_line row i =
      let own = client_row since none_since row i in
      let c = own.0 in
      let lines = lines_of script.lines c in
      let begun : At = at_of (client_then c) in
      let free = ap line_of (played c).free in
      let runs = runs_alone setting c (client_then c) (both c).1.0 (of_client c since) (both c).1.1 in
      let a = each_answers lines begun (of_client c since) (at_of (client_along setting c (client_then c) (of_client c since))) runs
      (λ number is. none_some free is) row own.1 in
      let there = line_at script.lines c a.place a.line a.is in
      let past : (client_then c).seq ≤ a.place = elim a.due [ inl le ↦ le | inr last ↦ true_false last.1 (ap is_some free) ] in
      record {
        line = a.line;
        there = there.0;
        is = a.number_is;
        so = by_bool (nat_lt a.line.phase phases)
            (λ yes. let called = (played c).called a.place a.line a.is (let e = yes in grind (arith, nat_tests, e)) in absurd (omega arith)) (λ no. no);
      }

  in_order : (one other : ℕ × Answer) → In one (answers_in before) → In other (answers_in since) → one.0 < other.0
  in_order one other i j =
      let a = early_line one i in
      let b = late_line other j in
      elim (cases_lt a.line.number b.line.number) [
        | inl less ↦ (let e = a.is in let f = b.is in omega arith)
        | inr le ↦ (
            let phase = phases_rise b.line a.line b.there a.there le in
            let e = a.so in let f = b.so in absurd (grind (arith, nat_tests, e, f, phase)))
      ]

  split_row : (xs ys : List Record) (row : ℕ × Answer) → In row (answers_in (xs ++ ys)) → In row (answers_in xs) ⊎ In row (answers_in ys)
  split_row xs ys row i =
      let given = record_of (xs ++ ys) row i in
      elim (in-append given.0 xs ys given.1) [
        | inl one ↦ inl (row_of xs given.0 row one given.2)
        | inr two ↦ inr (row_of ys given.0 row two given.2)
      ]

  former_row : (xs ys : List Record) (row : ℕ × Answer) → In row (answers_in xs) → In row (answers_in (xs ++ ys))
  former_row xs ys row i =
      let given = record_of xs row i in
      row_of (xs ++ ys) given.0 row (in_former given.0 xs ys given.1) given.2

  later_row : (xs ys : List Record) (row : ℕ × Answer) → In row (answers_in ys) → In row (answers_in (xs ++ ys))
  later_row xs ys row i =
      let given = record_of ys row i in
      row_of (xs ++ ys) given.0 row (in_later given.0 xs ys given.1) given.2

  to_parts : (row : ℕ × Answer) → In row (answers_in after) → In row (answers_in (before ++ since))
  to_parts row i =
      let own = client_row after alone.servers row i in
      elim (split_row (of_client own.0 before) (of_client own.0 since) row (subst (λ records. In row (answers_in records)) (parts.clients own.0) own.1)) [
        | inl one ↦ former_row before since row (any_row before own.0 row one)
        | inr two ↦ later_row before since row (any_row since own.0 row two)
      ]

  from_parts : (row : ℕ × Answer) → In row (answers_in (before ++ since)) → In row (answers_in after)
  from_parts row i = elim (split_row before since row i) [
    | inl one ↦
        let own = client_row before alone_before.servers row one in
        any_row after own.0 row (subst (λ records. In row (answers_in records)) (sym (parts.clients own.0))
        (former_row (of_client own.0 before) (of_client own.0 since) row own.1))
    | inr two ↦
        let own = client_row since none_since row two in
        any_row after own.0 row (subst (λ records. In row (answers_in records)) (sym (parts.clients own.0))
        (later_row (of_client own.0 before) (of_client own.0 since) row own.1))
  ]

  pub phase_joined : answers_of after ≡ answers_of before ++ answers_of since
  phase_joined =
      same_answers after (before ++ since) (answered_once script after alone rise) to_parts from_parts ∙ joined before since in_order

-- ### Servers' lists

nothing_alone : (setting : Setting) (n : ℕ) (server : Server) (clock : ℕ) (records : List Record) → IsAlone setting n server clock records
    → AnswerNothing records
unfolding In
nothing_alone s n server clock [] alone own i = absurd i
nothing_alone s n server clock (first ∷ later) alone own (inl e) = ap (λ (r : Record). r.answer) e ∙ alone.0.answer
nothing_alone s n server clock (first ∷ later) alone own (inr i) =
    nothing_alone s n (acted_by s n server first.step).server first.stamp later alone.1 own i

nothing_in_all : (lists : List (List Record)) → ((k : ℕ) (list : List Record) → slice_get lists k ≡ Some list → AnswerNothing list)
    → AnswerNothing (all_records lists)
unfolding In
nothing_in_all [] none own i = absurd i
nothing_in_all (first ∷ lists) none own i = elim (in-append own first (all_records lists) i) [
  | inl here ↦ none 0 first refl own here
  | inr later ↦ nothing_in_all lists (λ k list is. none (suc k) list is) own later
]

pub lists_answers : (script : Script) (servers clients : List (List Record)) (history : List Record) → AreRising script.lines → AreServers script servers
    → AreClients script clients → IsPermutation (all_records (servers ++ clients)) history → answers_of history ≡ answers_of (all_records clients)
lists_answers script servers clients history rise alone own moved =
    history_answers script (all_records servers) (all_records clients) history rise
    (nothing_in_all servers (λ n list is.
    nothing_alone (setting_of script) n ((start (setting_of script)).servers n) 0 list (alone n list is)))
    (lists_alone script clients own)
    (subst (λ all. IsPermutation all history) (flat_map-append (λ (list : List Record). list) servers clients) moved)

-- ### Clients' lists

module _ (olds sinces news : List (List Record)) (by : EachIsBy news) (went : WentOn olds sinces news) where
  new_for : (c : ℕ) → c < length news → (new : List Record) × (slice_get news c ≡ Some new)
  new_for c lt = get_within news c lt

  olds_by : EachIsBy olds
  olds_by c old is own i =
      let lt = slice_get_within olds c old is in
      let new = new_for c (let e = went.old_size in omega arith) in
      let since = get_within sinces c (let e = went.old_size in let f = went.since_size in omega arith) in
      by c new.0 new.1 own (subst (λ records. In own records) (sym (went.each c old since.0 new.0 is since.1 new.1)) (in_former own old since.0 i))

  sinces_by : EachIsBy sinces
  sinces_by c since is own i =
      let lt = slice_get_within sinces c since is in
      let new = new_for c (let e = went.since_size in omega arith) in
      let old = get_within olds c (let e = went.old_size in let f = went.since_size in omega arith) in
      by c new.0 new.1 own (subst (λ records. In own records) (sym (went.each c old.0 since new.0 old.1 is new.1)) (in_later own old.0 since i))

pub lists_joined : (script : Script) (phases : ℕ) (olds sinces news : List (List Record)) → AreRising script.lines → PhasesRise script.lines
    → AreOfClients (length news) script.lines → AreClients script news → WentOn olds sinces news → HaveAllPlayed script phases olds
    → text_of (all_records news) ≡ text_of (all_records olds) ++ text_of (all_records sinces)
lists_joined script phases olds sinces news rise phases_rise clients own went played =
    let old_by = olds_by olds sinces news own.by went in
    let parts = lists_parts olds sinces news old_by (sinces_by olds sinces news own.by went) own.by went in
    let before = lists_played script phases olds old_by (subst (λ k. AreOfClients k script.lines) (sym went.old_size) clients) played in
    text_joined (all_records olds) (all_records sinces) (all_records news)
    (phase_joined script rise phases_rise phases (all_records olds) (all_records sinces) (all_records news) (lists_alone script news own) parts before)

-- ### The history

pub history_phases : (script : Script) (phases : ℕ) (servers clients : List (List Record)) (history : List Record) → AreRising script.lines
    → AreServers script servers → AreClients script clients → IsPermutation (all_records (servers ++ clients)) history
    → AreOfClients (length clients) script.lines → HaveAllPlayed script phases clients → AnswersPhases phases script.lines history
history_phases script phases servers clients history rise alone own moved numbers played line there =
    ap (λ answers. is_some (at nat_cmp answers line.number)) (lists_answers script servers clients history rise alone own moved)
    ∙ phases_answered script (all_records clients) (lists_alone script clients own) rise phases
    (lists_played script phases clients own.by numbers played) line there

pub history_whole : (script : Script) (phases : ℕ) (servers clients : List (List Record)) (history : List Record) → AreRising script.lines
    → AreServers script servers → AreClients script clients → IsPermutation (all_records (servers ++ clients)) history
    → AreOfClients (length clients) script.lines → HaveAllPlayed script phases clients → ((line : Line) → In line script.lines → line.phase < phases)
    → all_answered (answers_of history) script.lines ≡ true
history_whole script phases servers clients history rise alone own moved numbers played all =
    ap (λ answers. all_answered answers script.lines) (lists_answers script servers clients history rise alone own moved)
    ∙ all_phases_answered script (all_records clients) (lists_alone script clients own) rise phases
    (lists_played script phases clients own.by numbers played) all
