-- A client by itself: which line it has open, and which it has answered.
use Rattle.law_answers.proofs.Imports.{[], ◌+◌, ◌≤◌, ◌∙◌, ◌∷◌, ◌≡◌, ◌⊎◌, Answer, AreRising, Asked, Call, Client, Deliver, In, Letter, Line, List, None, Option}
use Rattle.law_answers.proofs.Imports.{Reaction, Record, Setting, Some, Step, StaysOpen, Tick, Turned, World, ap, arith, inl, inr, is_some, lines_of}
use Rattle.law_answers.proofs.Imports.{map, none_some, option_map, refl, same_some, slice_get, start, subst, sym, true, true_false, ℕ}
use Rattle.law_copies.proofs.ChainsRise.{in_mapped}
use Rattle.law_steps.proofs.ClientStepKinds.{client_turns}
use Rattle.law_steps.proofs.Imports.{Arm, Blank, Boot, Glance, MayClient, Stop, StopIn, Work}
use Rattle.law_steps.specs.DidClient as happens
use Rattle.petal_msg.specs.declared.letter.Actor.TheVariants as actor
use Rattle.script_lines.specs.declared.answer.Answer.TheVariants as answer
use Rattle.law_answers.proofs.LinesHavePlaces.{one_place}
use Rattle.law_merge.specs.Alone.{ClientMayAlone, IsAloneClient, IsFor, client_along, reacted_by}
use Rattle.law_printed.specs.Answers.{answers_in}
use Rattle.law_printed.proofs.AnswersByNumber.{AnswerOnce, in_either, in_more, in_new}
use Rattle.std.proofs.lemmas.Bool.{cases_lt}

-- ### A step

-- how many lines a client has called, and the number of the one that it has open
pub record At : Type 0 where
  pub seq : ℕ
  pub opened : Option ℕ

abbrev pub line_of : Option Asked → Option ℕ
line_of asked = option_map (λ (a : Asked). a.line) asked

abbrev pub at_of : Client → At
at_of client = record { seq = client.seq; opened = line_of client.asked }

-- from s to t it answers nothing and goes on, calls its next line, or answers the one that it has open
pub data Turns (own : List Line) (s t : At) (given : Option (ℕ × Answer)) : Type 0 where
  Rests : t.seq ≡ s.seq → t.opened ≡ s.opened → given ≡ None → Turns own s t given
  Calls : (line : Line) → s.opened ≡ None → slice_get own s.seq ≡ Some line → t.seq ≡ s.seq + 1 → t.opened ≡ Some line.number → given ≡ None
      → Turns own s t given
  Answers : (number : ℕ) (a : Answer) → s.opened ≡ Some number → t.seq ≡ s.seq → t.opened ≡ None → given ≡ Some (number, a) → Turns own s t given

-- so it does in each record
abbrev pub Runs : List Line → At → List Record → At → Type 0
Runs own s [] t = t ≡ s
Runs own s (first ∷ later) t = (m : At) × Turns own s m first.answer × Runs own m later t

module _ (setting : Setting) (c : ℕ) where
  abbrev sent_to : Step → List Letter
  sent_to (Deliver letter) = letter ∷ []
  sent_to _ = []

  -- a world in which the client takes the step: its letter was sent, and each line answered
  abbrev world_for : Client → Step → World
  world_for client what = record (start setting) {
    clients = λ d. client;
    sent = sent_to what;
    answers = map (λ (line : Line). (line.number, answer.Ok)) setting.lines;
  }

  may_there : (what : Step) (client : Client) → ClientMayAlone what setting c client → IsFor (actor.Client c) what
      → MayClient what setting (world_for client what) c
  unfolding In
  may_there (Call number) client may own = record {
    free = may.free;
    line = may.line;
    next = may.next;
    is = may.is;
    before = λ other there less. record {
      answer = answer.Ok;
      is = in_mapped (λ (line : Line). (line.number, answer.Ok)) setting.lines other there;
    };
  }
  may_there (Deliver letter) client may own = record { sent = inl refl; own = own }
  may_there Tick client may own = tt
  may_there (Work end) client may own = may
  may_there (StopIn end) client may own = may
  may_there Stop client may own = may
  may_there Blank client may own = may
  may_there (Boot end) client may own = may
  may_there (Arm which plan) client may own = may
  may_there (Glance line round) client may own = may

  abbrev T : Client → Reaction → Type 0
  T client reacted = Turns (lines_of setting.lines c) (at_of client) (at_of reacted.client) reacted.answer

  stays_of : (rev : ℕ) (old new : Option Asked) → StaysOpen rev old new → line_of new ≡ line_of old
  stays_of rev None None stays = refl
  stays_of rev None (Some new) stays = absurd stays
  stays_of rev (Some old) None stays = absurd stays
  stays_of rev (Some old) (Some new) stays = ap Some stays.line

  kind_of : (heard : ℕ → _) (client : Client) (in_call : _) (reacted : Reaction)
      → Turned heard setting.servers setting.lines c client in_call reacted → T client reacted
  kind_of heard client _ _ (happens.Goes_on reacted seq stays only) = Rests seq (stays_of _ client.asked reacted.client.asked stays) only.unanswered
  kind_of heard client _ _ (happens.Is_told reacted asked h is reads seq stays only) =
      Rests seq (stays_of _ (Some (record asked { saw_missing = true; old_way = true })) reacted.client.asked stays ∙ ap line_of (sym is)) only.unanswered
  kind_of heard client _ _ (happens.Begins reacted line asked next free seq there called only) =
      Calls line (ap line_of free) next seq (ap line_of there ∙ ap Some called.line_is) only.unanswered
  kind_of heard client _ _ (happens.Reads asked bytes h is reads) = Answers asked.line (answer.Data bytes) (ap line_of is) refl refl refl
  kind_of heard client _ _ (happens.Ends asked how h is writes) = Answers asked.line _ (ap line_of is) refl refl refl
  kind_of heard client _ _ (happens.Shown asked rev sight given h is seen) = Answers asked.line given (ap line_of is) refl refl refl
  kind_of heard client _ _ (happens.Judges after asked given is gone seq why) = Answers asked.line given (ap line_of is) seq (ap line_of gone) refl

  -- the client's own records
  pub runs_alone : (client : Client) (clock : ℕ) (records : List Record) → IsAloneClient setting c client clock records
      → Runs (lines_of setting.lines c) (at_of client) records (at_of (client_along setting c client records))
  runs_alone client clock [] alone = refl
  runs_alone client clock (own ∷ later) alone =
      let reacted = reacted_by setting c client own.step in
      let turned = (client_turns setting (world_for client own.step) c own.step (may_there own.step client alone.0.may alone.0.own_letter)).turned in (
        at_of reacted.client,
        subst (λ o. Turns (lines_of setting.lines c) (at_of client) (at_of reacted.client) o) (sym alone.0.answer) (kind_of _ client _ reacted turned),
        runs_alone reacted.client own.stamp later alone.1,
      )

-- ### Places

-- the line at this place is still to be answered
abbrev pub IsDue : At → ℕ → Type 0
IsDue s i = (s.seq ≤ i) ⊎ ((i + 1 ≡ s.seq) × (is_some s.opened ≡ true))

-- what is open is the line that was called last
pub record IsLast (own : List Line) (s : At) (number : ℕ) : Type 0 where
  pub place : ℕ
  pub line : Line
  pub last : place + 1 ≡ s.seq
  pub is : slice_get own place ≡ Some line
  pub number_is : line.number ≡ number

abbrev pub IsLined : List Line → At → Type 0
IsLined own s = (number : ℕ) → s.opened ≡ Some number → IsLast own s number

-- the row answers the line at a place that was due at s, and is not at t
pub record IsAnswered (own : List Line) (s t : At) (number : ℕ) : Type 0 where
  pub place : ℕ
  pub line : Line
  pub is : slice_get own place ≡ Some line
  pub number_is : line.number ≡ number
  pub due : IsDue s place
  pub done : IsDue t place → ⊥

module _ (own : List Line) where
  due_before : (s t : At) (o : Option (ℕ × Answer)) → Turns own s t o → (i : ℕ) → IsDue t i → IsDue s i
  due_before s t o (Rests seq opened none) i (inl le) = inl (omega arith)
  due_before s t o (Rests seq opened none) i (inr last) = inr (last.0 ∙ seq, ap is_some (sym opened) ∙ last.1)
  due_before s t o (Calls line free is seq opened none) i (inl le) = inl (omega arith)
  due_before s t o (Calls line free is seq opened none) i (inr last) = (let e = last.0 in inl (omega arith))
  due_before s t o (Answers number a was seq opened now) i (inl le) = inl (omega arith)
  due_before s t o (Answers number a was seq opened now) i (inr last) = true_false last.1 (ap is_some opened)

  due_along : (s : At) (records : List Record) (t : At) → Runs own s records t → (i : ℕ) → IsDue t i → IsDue s i
  due_along s [] t runs i due = subst (λ x. IsDue x i) runs due
  due_along s (first ∷ later) t runs i due = due_before s runs.0 first.answer runs.1 i (due_along runs.0 later t runs.2 i due)

  lined_then : (s t : At) (o : Option (ℕ × Answer)) → Turns own s t o → IsLined own s → IsLined own t
  lined_then s t o (Rests seq opened none) lined number is =
      let was = lined number (sym opened ∙ is) in
      record { place = was.place; line = was.line; last = was.last ∙ sym seq; is = was.is; number_is = was.number_is }
  lined_then s t o (Calls line free is seq opened none) lined number now =
      record { place = s.seq; line = line; last = sym seq; is = is; number_is = same_some (sym opened ∙ now) }
  lined_then s t o (Answers number a was seq opened now) lined other is = none_some opened is

  answered_now : (s t : At) (o : Option (ℕ × Answer)) → Turns own s t o → IsLined own s → (row : ℕ × Answer) → o ≡ Some row → IsAnswered own s t row.0
  answered_now s t o (Rests seq opened none) lined row is = none_some none is
  answered_now s t o (Calls line free there seq opened none) lined row is = none_some none is
  answered_now s t o (Answers number a was seq opened now) lined row is =
      let last = lined number was in
      record {
        place = last.place;
        line = last.line;
        is = last.is;
        number_is = last.number_is ∙ ap (λ (r : ℕ × Answer). r.0) (same_some (sym now ∙ is));
        due = inr (last.last, ap is_some was);
        done = λ due. elim due [
          | inl le ↦ (let e = last.last in absurd (omega arith))
          | inr still ↦ true_false still.1 (ap is_some opened)
        ];
      }

  -- each answer is of a line that was due
  pub each_answers : (s : At) (records : List Record) (t : At) → Runs own s records t → IsLined own s → (row : ℕ × Answer) → In row (answers_in records)
      → IsAnswered own s t row.0
  unfolding In
  each_answers s [] t runs lined row i = absurd i
  each_answers s (first ∷ later) t runs lined row i = elim (in_either first.answer (answers_in later) row i) [
    | inl now ↦
        let a = answered_now s runs.0 first.answer runs.1 lined row now in
        record {
          place = a.place;
          line = a.line;
          is = a.is;
          number_is = a.number_is;
          due = a.due;
          done = λ due. a.done (due_along runs.0 later t runs.2 a.place due);
        }
    | inr j ↦
        let a = each_answers runs.0 later t runs.2 (lined_then s runs.0 first.answer runs.1 lined) row j in
        record {
          place = a.place;
          line = a.line;
          is = a.is;
          number_is = a.number_is;
          due = due_before s runs.0 first.answer runs.1 a.place a.due;
          done = a.done;
        }
  ]

  -- a line that is due is answered in this step, or still due
  answered_or_due : (s t : At) (o : Option (ℕ × Answer)) → Turns own s t o → IsLined own s → (i : ℕ) (line : Line) → slice_get own i ≡ Some line
      → IsDue s i → IsDue t i ⊎ ((a : Answer) × (o ≡ Some (line.number, a)))
  answered_or_due s t o (Rests seq opened none) lined i line is (inl le) = inl (inl (omega arith))
  answered_or_due s t o (Rests seq opened none) lined i line is (inr last) = inl (inr (last.0 ∙ sym seq, ap is_some opened ∙ last.1))
  answered_or_due s t o (Calls called free there seq opened none) lined i line is (inl le) = elim (cases_lt s.seq i) [
    | inl less ↦ inl (inl (omega arith))
    | inr not_less ↦ inl (inr (omega arith, ap is_some opened))
  ]
  answered_or_due s t o (Calls called free there seq opened none) lined i line is (inr last) = true_false last.1 (ap is_some free)
  answered_or_due s t o (Answers number a was seq opened now) lined i line is (inl le) = inl (inl (omega arith))
  answered_or_due s t o (Answers number a was seq opened now) lined i line is (inr last) =
      let open_line = lined number was in
      let place : open_line.place ≡ i = (let e = open_line.last in let f = last.0 in omega arith) in
      let same : open_line.line ≡ line = same_some (sym open_line.is ∙ ap (slice_get own) place ∙ is) in
      let number_is : number ≡ line.number = sym open_line.number_is ∙ ap (λ (l : Line). l.number) same in
      inr (a, now ∙ ap (λ n. at_number n a) number_is)
    where
      at_number : ℕ → Answer → Option (ℕ × Answer)
      at_number n a = Some (n, a)

  -- each line that was due, and is no more, is answered
  pub each_is_answered : (s : At) (records : List Record) (t : At) → Runs own s records t → IsLined own s → (i : ℕ) (line : Line)
      → slice_get own i ≡ Some line → IsDue s i → (IsDue t i → ⊥) → (a : Answer) × In (line.number, a) (answers_in records)
  each_is_answered s [] t runs lined i line is due done = absurd (done (subst (λ x. IsDue x i) (sym runs) due))
  each_is_answered s (first ∷ later) t runs lined i line is due done =
      elim (answered_or_due s runs.0 first.answer runs.1 lined i line is due) [
        | inl still ↦
            let more =
            each_is_answered runs.0 later t runs.2 (lined_then s runs.0 first.answer runs.1 lined) i line is still done in
            (more.0, in_more first.answer (answers_in later) (line.number, more.0) more.1)
        | inr now ↦ (now.0, in_new first.answer (answers_in later) (line.number, now.0) now.1)
      ]

-- no line of a client is answered twice
module _ (lines : List Line) (rise : AreRising lines) (c : ℕ) where
  not_again : (s m t : At) (o : Option (ℕ × Answer)) (later : List Record) → Turns (lines_of lines c) s m o → IsLined (lines_of lines c) s
      → Runs (lines_of lines c) m later t → (number : ℕ) (one other : Answer) → o ≡ Some (number, one) → In (number, other) (answers_in later) → ⊥
  not_again s m t o later turns lined runs number one other now i =
      let own = lines_of lines c in
      let first = answered_now own s m o turns lined (number, one) now in
      let second = each_answers own m later t runs (lined_then own s m o turns lined) (number, other) i in
      let place : second.place ≡ first.place =
      one_place lines rise c second.place first.place second.line first.line second.is first.is (second.number_is ∙ sym first.number_is) in
      first.done (subst (IsDue m) place second.due)

  pub each_once : (s : At) (records : List Record) (t : At) → Runs (lines_of lines c) s records t → IsLined (lines_of lines c) s
      → AnswerOnce (answers_in records)
  unfolding In
  each_once s [] t runs lined number one other i j = absurd i
  each_once s (first ∷ later) t runs lined number one other i j =
      let turns = runs.1 in
      elim (in_either first.answer (answers_in later) (number, one) i) [
        | inl now ↦ elim (in_either first.answer (answers_in later) (number, other) j) [
          | inl too ↦ ap (λ (row : ℕ × Answer). row.1) (same_some (sym now ∙ too))
          | inr after ↦ absurd (not_again s runs.0 t first.answer later turns lined runs.2 number one other now after)
        ]
        | inr before ↦ elim (in_either first.answer (answers_in later) (number, other) j) [
          | inl now ↦ absurd (not_again s runs.0 t first.answer later turns lined runs.2 number other one now before)
          | inr after ↦
              each_once runs.0 later t runs.2 (lined_then (lines_of lines c) s runs.0 first.answer turns lined) number one other before after
        ]
      ]
