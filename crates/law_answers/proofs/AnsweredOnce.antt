-- No line is answered twice: what a client has open, and what it has still to call, has no answer.
use Rattle.law_answers.proofs.Imports.{[], ◌++◌, ◌+◌, ◌∙◌, ◌∷◌, ◌≡◌, ◌≤◌, ◌⊎◌, Actor, Answer, AreRising, AreSteps, AreStepsFrom, Asked, Begins, Body, Bool}
use Rattle.law_answers.proofs.Imports.{Client, Follows, Goes_on, Heard, In, IsAnswered, IsMoment, IsOpenLine, Is_told, Judges, Line, List, MayActor, None}
use Rattle.law_answers.proofs.Imports.{Option, Reaction, Reads, Record, Run, Script, Setting, Some, StaysOpen, Step, StepResult, Table, Turned, World, after}
use Rattle.law_answers.proofs.Imports.{all_put_apart, answer_of, answers_in, ap, arith, at, at-empty, at_apart, by_bool, by_run, client_state, client_step}
use Rattle.law_answers.proofs.Imports.{client_turns, fold, inl, inr, is_answered, is_call, is_some, last_moment, lines_of, moment_more, nat_cmp, next_line}
use Rattle.law_answers.proofs.Imports.{none_some, prefix_legal, refl, same_or_apart, same_some, setting_of, slice_get, start, step, stepped, subst, sym, true}
use Rattle.law_answers.proofs.Imports.{true_false, with_answer, with_given, world_after, ℕ}
use Rattle.law_answers.proofs.LinesHavePlaces.{line_at, one_client, one_place}
use Rattle.petal_msg.specs.declared.letter.Actor.TheVariants as actor
use Rattle.law_steps.specs.DidClient as happens
use Rattle.script_lines.specs.declared.answer.Answer.TheVariants as answer

-- ### Answers given

pub answered_more : (o : Option (ℕ × Answer)) (given : List (ℕ × Answer)) (number : ℕ) → IsAnswered given number → IsAnswered (with_answer o given) number
unfolding In
answered_more None given number h = h
answered_more (Some row) given number h = record { answer = h.answer; is = inr h.is }

pub pair_is : {line number : ℕ} {one other : Answer} → (let o : Option (ℕ × Answer) = Some (line, one) in o) ≡ Some (number, other)
    → (line ≡ number) × (one ≡ other)
pair_is e = let f = same_some e in (ap (λ (x : ℕ × Answer). x.0) f, ap (λ (x : ℕ × Answer). x.1) f)

pub in_answers : (o : Option (ℕ × Answer)) (given : List (ℕ × Answer)) (row : ℕ × Answer) → In row (with_answer o given) → (o ≡ Some row) ⊎ In row given
unfolding In
in_answers None given row i = inr i
in_answers (Some new) given row (inl e) = inl (ap Some (sym e))
in_answers (Some new) given row (inr i) = inr i

-- each answer was given by one of a run's records
pub record WasAnswered (records : List Record) (row : ℕ × Answer) : Type 0 where
  pub moment : IsMoment records
  pub open moment use *
  pub answered : own.answer ≡ Some row

pub was_answered : (run : Run) (row : ℕ × Answer) → In row (after run).answers → WasAnswered run.records row
unfolding In
was_answered =
    by_run (λ run. (row : ℕ × Answer) → In row (after run).answers → WasAnswered run.records row) (λ script sound legal row i. absurd i) (λ it old row i.
    elim (in_answers it.own.answer (after it.prior).answers row (subst (In row) (answers_in it) i)) [
      | inl new ↦ record { moment = last_moment it.prior.records it.own; answered = new }
      | inr before ↦ (let was = old row before in record { moment = moment_more it.prior.records it.own was.moment; answered = was.answered })
    ])

-- ### One client

-- the number is that of a line that the client has called last
record IsOpenAt (lines : List Line) (c called number : ℕ) : Type 0 where
  place : ℕ
  line : Line
  is : slice_get (lines_of lines c) place ≡ Some line
  last : place + 1 ≡ called
  number_is : line.number ≡ number

-- the client has still to answer the line at this place: it has still to call it, or has it open
abbrev IsDue : Client → ℕ → Type 0
IsDue client i = (client.seq ≤ i) ⊎ ((i + 1 ≡ client.seq) × (is_some client.asked ≡ true))

-- what the client has still to answer has no answer
abbrev AreNew : List Line → List (ℕ × Answer) → ℕ → Client → Type 0
AreNew lines given c client = (i : ℕ) (line : Line) → slice_get (lines_of lines c) i ≡ Some line → IsDue client i → IsAnswered given line.number → ⊥

abbrev HasLine : List Line → ℕ → Client → Type 0
HasLine lines c client = (asked : Asked) → client.asked ≡ Some asked → IsOpenAt lines c client.seq asked.line

pub record IsAhead (lines : List Line) (given : List (ℕ × Answer)) (c : ℕ) (client : Client) : Type 0 where
  due : AreNew lines given c client
  asked : HasLine lines c client

-- what the client answered is the line that it had open, and that is open no more
record IsOwn (lines : List Line) (c : ℕ) (client to : Client) (number : ℕ) : Type 0 where
  at : IsOpenAt lines c client.seq number
  open at use *
  was_due : IsDue client place
  done : IsDue to place → ⊥

-- the client after its step
record IsTurned (lines : List Line) (c : ℕ) (client : Client) (reacted : Reaction) : Type 0 where
  due : (i : ℕ) → IsDue reacted.client i → IsDue client i
  asked : HasLine lines c reacted.client
  own : (row : ℕ × Answer) → reacted.answer ≡ Some row → IsOwn lines c client reacted.client row.0

module _ (lines : List Line) (heard : ℕ → Body → Type 0) (servers c : ℕ) (client : Client) (lined : HasLine lines c client) where
  is_open : (asked : Asked) → client.asked ≡ Some asked → is_some client.asked ≡ true
  is_open asked is = ap is_some is

  was_open : (rev : ℕ) (o new : Option Asked) → StaysOpen rev o new → is_some new ≡ true → is_some o ≡ true
  was_open rev None None stays e = e
  was_open rev None (Some new) stays e = absurd stays
  was_open rev (Some old) new stays e = refl

  -- what stays open is at the line that it was
  stays_at : (rev : ℕ) (o : Option Asked) → ((old : Asked) → o ≡ Some old → IsOpenAt lines c client.seq old.line) → (now : Asked)
      → StaysOpen rev o (Some now) → IsOpenAt lines c client.seq now.line
  stays_at rev None was now stays = absurd stays
  stays_at rev (Some old) was now stays = subst (IsOpenAt lines c client.seq) (sym stays.line) (was old refl)

  goes_on : (reacted : Reaction) → reacted.client.seq ≡ client.seq → (rev : ℕ) (o : Option Asked)
      → ((old : Asked) → o ≡ Some old → IsOpenAt lines c client.seq old.line) → (is_some o ≡ true → is_some client.asked ≡ true)
      → StaysOpen rev o reacted.client.asked → reacted.answer ≡ None → IsTurned lines c client reacted
  goes_on reacted seq rev o was there stays none = record {
    due = λ i d. elim d [ inl le ↦ inl (omega arith) | inr last ↦ inr (last.0 ∙ seq, there (was_open rev o reacted.client.asked stays last.1)) ];
    asked = λ now e. subst (λ k. IsOpenAt lines c k now.line) (sym seq) (stays_at rev o was now (subst (StaysOpen rev o) e stays));
    own = λ row e. none_some none e;
  }

  -- the request that was open is answered
  closes : (reacted : Reaction) (asked : Asked) (given : Answer) → client.asked ≡ Some asked → reacted.client.asked ≡ None
      → reacted.client.seq ≡ client.seq → reacted.answer ≡ Some (asked.line, given) → IsTurned lines c client reacted
  closes reacted asked given is gone seq answer = record {
    due = λ i d. elim d [ inl le ↦ inl (omega arith) | inr last ↦ true_false last.1 (ap is_some gone) ];
    asked = λ now e. none_some gone e;
    own = λ row e.
        let o = lined asked is in
        let last = o.last in
        record {
          at = subst (λ (r : ℕ × Answer). IsOpenAt lines c client.seq r.0) (same_some (sym answer ∙ e)) o;
          was_due = inr (o.last, is_open asked is);
          done = λ d. elim d [ inl le ↦ absurd (omega arith) | inr later ↦ true_false later.1 (ap is_some gone) ];
        };
  }

  turned : (in_call : Bool) (reacted : Reaction) → Turned heard servers lines c client in_call reacted → IsTurned lines c client reacted
  turned _ _ (Goes_on reacted seq stays only) = goes_on reacted seq _ client.asked lined (λ e. e) stays only.unanswered
  turned _ _ (Is_told reacted asked h is reads seq stays only) =
      goes_on reacted seq _ (Some (record asked { saw_missing = true; old_way = true }))
      (λ old e. subst (λ (x : Asked). IsOpenAt lines c client.seq x.line) (same_some e) (lined asked is)) (λ e. is_open asked is) stays only.unanswered
  turned _ _ (Begins reacted line asked is free seq there called only) = record {
    due = λ i d. elim d [ inl le ↦ inl (omega arith) | inr last ↦ (let at = last.0 in inl (omega arith)) ];
    asked = λ other e. record {
      place = client.seq;
      line = line;
      is = is;
      last = sym seq;
      number_is = sym called.line_is ∙ ap (λ (x : Asked). x.line) (same_some (sym there ∙ e));
    };
    own = λ row e. none_some only.unanswered e;
  }
  turned _ _ (Reads asked bytes h is reads) = closes _ asked (answer.Data bytes) is refl refl refl
  turned _ _ (happens.Ends asked how h is writes) = closes _ asked (answer_of how) is refl refl refl
  turned _ _ (happens.Shown asked rev sight given h is seen) = closes _ asked given is refl refl refl
  turned _ _ (Judges after asked given is gone seq why) = closes _ asked given is gone seq refl

-- ### Worlds

-- the number is that of a line without an answer
pub record IsNew (lines : List Line) (w : World) (number : ℕ) : Type 0 where
  pub line : Line
  pub there : In line lines
  pub is : line.number ≡ number
  pub new : IsAnswered w.answers number → ⊥

abbrev pub Ahead : List Line → World → Type 0
Ahead lines w = (c : ℕ) → IsAhead lines w.answers c (w.clients c)

-- what a step leaves and answers
pub record IsStepped (lines : List Line) (w : World) (s : StepResult) : Type 0 where
  pub ahead : Ahead lines s.world
  pub answers : s.world.answers ≡ with_answer s.answer w.answers
  pub new : (row : ℕ × Answer) → s.answer ≡ Some row → IsNew lines w row.0

module _ (setting : Setting) (rise : AreRising setting.lines) where
  abbrev lines : List Line
  lines = setting.lines

  steps : (who : Actor) (what : Step) (w : World) (stamp : ℕ) → Ahead lines w → MayActor who what setting w → IsStepped lines w (step who what setting w stamp)
  unfolding step
  steps (actor.Server n) what w stamp ahead may = record { ahead = ahead; answers = refl; new = λ row e. none_some refl e }
  steps (actor.Client c) what w stamp ahead may =
      let reacted = client_step what (client_state setting w c) c (w.clients c) (next_line lines c (w.clients c)) in
      let t = turned lines (Heard w (actor.Client c)) setting.servers c (w.clients c) (ahead c).asked (is_call what) reacted
      (client_turns setting w c what may.1).turned in
      let new : (d : ℕ) (client : Client) → ((i : ℕ) → IsDue client i → IsDue (w.clients d) i)
      → (d ≡ c → (i : ℕ) → IsDue client i → IsDue reacted.client i) → AreNew lines (with_answer reacted.answer w.answers) d client =
      λ d client was here i line is due h. elim (in_answers reacted.answer w.answers (line.number, h.answer) h.is) [
        | inr old ↦ (ahead d).due i line is (was i due) (record { answer = h.answer; is = old })
        | inl now ↦
            let o = t.own (line.number, h.answer) now in
            let same = one_client lines rise d c i o.place line o.line is o.is (sym o.number_is) in
            let there = subst (λ k. slice_get (lines_of lines k) i ≡ Some line) same is in
            o.done (subst (IsDue reacted.client) (one_place lines rise c i o.place line o.line there o.is (sym o.number_is)) (here same i due))
      ] in
      record {
        ahead = all_put_apart w.clients c reacted.client (λ d client. IsAhead lines (with_answer reacted.answer w.answers) d client)
            (λ d ne. record { due = new d (w.clients d) (λ i due. due) (λ e. absurd (ne e)); asked = (ahead d).asked })
            (record { due = new c reacted.client t.due (λ e i due. due); asked = t.asked });
        answers = refl;
        new = λ row e.
            let o = t.own row e in
            record {
              line = o.line;
              there = (line_at lines c o.place o.line o.is).0;
              is = o.number_is;
              new = λ h. (ahead c).due o.place o.line o.is o.was_due (subst (IsAnswered w.answers) (sym o.number_is) h);
            };
      }

  pub stepped_is : (w : World) (own : Record) → Ahead lines w → Follows setting w own → IsStepped lines w (stepped setting w own)
  stepped_is w own ahead follows = steps own.actor own.step w own.stamp ahead follows.may.may

  pub ahead_after : (w : World) (records : List Record) → Ahead lines w → AreStepsFrom setting w records → Ahead lines (world_after setting w records)
  ahead_after w [] ahead legal = ahead
  ahead_after w (own ∷ later) ahead legal = ahead_after (stepped setting w own).world later (stepped_is w own ahead legal.0).ahead legal.1

  -- ### What the records answer is what the world has answered

  -- the number is that of a line of the script that was answered
  pub record IsTold (w : World) (number : ℕ) : Type 0 where
    pub given : IsAnswered w.answers number
    pub line : Line
    pub there : In line lines
    pub is : line.number ≡ number

  abbrev pub AreTold : World → Table ℕ Answer → Type 0
  AreTold w table = (number : ℕ) → is_some (at nat_cmp table number) ≡ true → IsTold w number

  told_on : (w v : World) (o : Option (ℕ × Answer)) → v.answers ≡ with_answer o w.answers → (number : ℕ) → IsTold w number → IsTold v number
  told_on w v o e number told = record {
    given = subst (λ given. IsAnswered given number) (sym e) (answered_more o w.answers number told.given);
    line = told.line;
    there = told.there;
    is = told.is;
  }

  told_more : (w v : World) (table : Table ℕ Answer) (o : Option (ℕ × Answer)) → v.answers ≡ with_answer o w.answers
      → ((row : ℕ × Answer) → o ≡ Some row → IsNew lines w row.0) → AreTold w table → AreTold v (with_given table o)
  unfolding In
  told_more w v table None e new t number h = told_on w v None e number (t number h)
  told_more w v table (Some row) e new t number h = elim (same_or_apart number row.0) [
    | inl same ↦
        let fresh = new row refl in
        let given : IsAnswered v.answers row.0 = record { answer = row.1; is = subst (In (row.0, row.1)) (sym e) (inl refl) } in
        record { given = subst (IsAnswered v.answers) (sym same) given; line = fresh.line; there = fresh.there; is = fresh.is ∙ sym same }
    | inr ne ↦ told_on w v (Some row) e number (t number (ap is_some (sym (at_apart table row.0 row.1 number ne)) ∙ h))
  ]

  pub told_after : (w : World) (table : Table ℕ Answer) (records : List Record) → Ahead lines w → AreTold w table → AreStepsFrom setting w records
      → AreTold (world_after setting w records) (fold (λ rows own. with_given rows own.answer) table records)
  told_after w table [] ahead t legal = t
  told_after w table (own ∷ later) ahead t legal =
      let s = stepped_is w own ahead legal.0 in
      let v = (stepped setting w own).world in
      let same : own.answer ≡ (stepped setting w own).answer = legal.0.answer in
      let more = told_more w v table own.answer (s.answers ∙ ap (λ o. with_answer o w.answers) (sym same)) (λ row e. s.new row (sym same ∙ e)) t in
      told_after v (with_given table own.answer) later s.ahead more legal.1

  pub ahead_start : Ahead lines (start setting)
  unfolding In
  ahead_start c = record { due = λ i line is due h. h.is; asked = λ asked e. none_some refl e }

  pub told_start : AreTold (start setting) []
  told_start number h = true_false h (ap is_some (at-empty nat_cmp number))

  pub open_line : (prefix : List Record) (own : Record) → AreStepsFrom setting (start setting) (prefix ++ own ∷ []) → (number : ℕ) (given : Answer)
      → own.answer ≡ Some (number, given) → IsOpenLine lines prefix number
  open_line prefix own legal number given e =
      let parts = prefix_legal setting (start setting) prefix (own ∷ []) legal in
      let w = world_after setting (start setting) prefix in
      let ahead = ahead_after (start setting) prefix ahead_start parts.0 in
      let told = told_after (start setting) [] prefix ahead_start told_start parts.0 in
      let fresh = (stepped_is w own ahead parts.1.0).new (number, given) (sym parts.1.0.answer ∙ e) in
      record {
        line = fresh.line;
        there = fresh.there;
        is = fresh.is;
        open_yet = by_bool (is_answered prefix number) (λ yes. absurd (fresh.new (told number yes).given)) (λ no. no);
      }

pub once : (script : Script) (prefix : List Record) (own : Record) → AreRising script.lines → AreSteps script (prefix ++ own ∷ [])
    → (number : ℕ) (given : Answer) → own.answer ≡ Some (number, given) → IsOpenLine script.lines prefix number
once script prefix own rise legal = open_line (setting_of script) rise prefix own legal
