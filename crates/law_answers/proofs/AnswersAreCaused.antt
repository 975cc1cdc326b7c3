-- Each answer has its cause, by the step that gave it, in view of the log at the end of the history.
use Rattle.law_answers.proofs.Imports.{[], ◌++◌, ◌+◌, ◌<◌, ◌==◌, ◌∙◌, ◌∷◌, ◌≡◌, ◌≤◌, Actor, Answer, AreCaused, AreRising, Asked, Begins, Blanks_it, Body}
use Rattle.law_answers.proofs.Imports.{Bool, By_verdict, By_witness, CauseOf, Client, Command, Ending, Ends, Fails_it, Firm, Goes_on, HasProperTuples}
use Rattle.law_answers.proofs.Imports.{HasVerdict, HasWitness, Has_no_space, Heard, In, IsJudged, IsPrefix, IsReason, IsSeenAs, Is_settled, Is_told, Judges}
use Rattle.law_answers.proofs.Imports.{Line, List, MayActor, None, OneMore, Option, Reaction, Reads, Request, Run, Setting, Shown, Sight, Some, Starts_it}
use Rattle.law_answers.proofs.Imports.{State, Step, Stops_at, Stops_it, Turned, WasTold, Witness, World, after, answer_of, ap, append_assoc, arith, asker}
use Rattle.law_answers.proofs.Imports.{asking_after, at_moment, between, both_true, by_test, chosen_log, chosen_state, client_state, client_step}
use Rattle.law_answers.proofs.Imports.{client_turns, command_of, false, firm_in, firm_then, first_at_start, first_state, follows_in, history_grows, in_get}
use Rattle.law_answers.proofs.Imports.{is_in, is_read, is_snap, is_witness, is_write, latest, length, length-append, lines_of, log_below, log_plain}
use Rattle.law_answers.proofs.Imports.{log_steady, longer, may_answer, named, next_line, none_some, prefix_on, put_same, reacts, refl, refusal, same_numbers}
use Rattle.law_answers.proofs.Imports.{same_some, setting_of, slice_get, state_after, state_at, stays_sent, step, stepped_in, subst, suc, sym, take}
use Rattle.law_answers.proofs.Imports.{take-append_seam, true, true_false, verdict_for, zero, ℕ}
use Rattle.law_answers.proofs.Lines.{IsOpenFor, open_for}
use Rattle.law_answers.proofs.AnswersFitRequests.{verdict_said, cause_fits, read_may, refusal_fits, verdict_fits, write_may}
use Rattle.law_answers.proofs.AnsweredOnce.{WasAnswered, was_answered}
use Rattle.law_answers.specs.AskedCommands.{AreAsked}
use Rattle.law_answers.proofs.LinesHavePlaces.{line_at, one_client, one_place}
use Rattle.law_answers.proofs.CommandsWereAsked.{commands_are_asked}
use Rattle.law_answers.proofs.OldNumbersStayOld.{judged_low}
use Rattle.law_answers.proofs.Verdicts.{has_at, judged_at_once, judged_first, judged_made, placed_before, placed_first}
use Rattle.law_answers.proofs.RequestsStayDone.{plain_prefix}
use Rattle.law_answers.proofs.KnownDisksAreServed.{never_unavailable}
use Rattle.petal_msg.specs.declared.letter.Actor.TheVariants as actor
use Rattle.petal_msg.specs.declared.operation.Ending.TheVariants as ending
use Rattle.script_lines.specs.declared.answer.Answer.TheVariants as answer
use Rattle.script_lines.specs.declared.request.Request.TheVariants as request

-- ### Prefixes of a list

get_next : {X : Type 0} (xs : List X) (x : X) (ys : List X) → slice_get (xs ++ x ∷ ys) (length xs) ≡ Some x
get_next [] x ys = refl
get_next (y ∷ xs) x ys = get_next xs x ys

-- ### Entries

witness_is : (me seq : ℕ) (entry : Command) → is_witness me seq entry ≡ true → (turn : ℕ) × (entry ≡ Witness me seq turn)
witness_is me seq (Witness client number turn) h =
    let both = both_true (client == me) (number == seq) h in
    let one : client ≡ me = same_numbers client me both.0 in
    let two : number ≡ seq = same_numbers number seq both.1 in
    (turn, cc)
witness_is me seq _ h = absurd (cc)

no_command_read : (c seq : ℕ) (asked : Request) → is_read asked ≡ true → command_of c seq asked ≡ None
no_command_read c seq (request.Disk name tuple) h = absurd (cc)
no_command_read c seq (request.Snap name snap) h = absurd (cc)
no_command_read c seq (request.Move name tuple) h = absurd (cc)
no_command_read c seq _ h = refl

no_command_write : (c seq : ℕ) (asked : Request) → is_write asked ≡ true → command_of c seq asked ≡ None
no_command_write c seq (request.Disk name tuple) h = absurd (cc)
no_command_write c seq (request.Snap name snap) h = absurd (cc)
no_command_write c seq (request.Move name tuple) h = absurd (cc)
no_command_write c seq _ h = refl

module _ (setting : Setting) (last : World) (plain : HasProperTuples setting.servers (chosen_log setting last))
    (commands : AreAsked setting.lines (chosen_log setting last)) where
  -- the answer of the line of this number has its cause
  pub record HasCause (number : ℕ) (given : Answer) : Type 0 where
    pub client : ℕ
    pub before : ℕ
    pub line : Line
    pub is : slice_get (lines_of setting.lines client) before ≡ Some line
    pub number_is : line.number ≡ number
    pub cause : CauseOf setting last client (before + 1) line.request (command_of client (before + 1) line.request) given

  -- a cause in view of the open request
  caused_by : (c : ℕ) (asked : Asked) (given : Answer) → IsOpenFor setting.lines c asked
      → CauseOf setting last c asked.seq asked.request (command_of c asked.seq asked.request) given → HasCause asked.line given
  caused_by c asked given o cause = record {
    client = c;
    before = o.before;
    line = o.line;
    is = o.is;
    number_is = sym o.line_is;
    cause =
        subst (λ r. CauseOf setting last c (o.before + 1) r (command_of c (o.before + 1) r) given) o.request_is
        (subst (λ k. CauseOf setting last c k asked.request (command_of c k asked.request) given) o.seq_is cause);
  }

  witness_causes : (c seq : ℕ) (asked : Request) (given : Answer) → HasWitness setting last c seq asked given → CauseOf setting last c seq asked None given
  witness_causes c seq asked answer.NoDisk h = h
  witness_causes c seq asked answer.NoSnap h = h
  witness_causes c seq asked answer.Unavailable h = h
  witness_causes c seq asked answer.Ok h = h.fits
  witness_causes c seq asked (answer.Data bytes) h = h.fits
  witness_causes c seq asked answer.NoSpace h = h.fits
  witness_causes c seq asked answer.Exists h = h.fits
  witness_causes c seq asked answer.Moving h = h.fits
  witness_causes c seq asked answer.Failed h = h.fits

  -- the request's verdict after so many entries comes of its own command
  verdict_causes : (k c seq : ℕ) (asked : Request) (given : Answer) → k ≤ length (chosen_log setting last)
      → ((i : ℕ) (command : Command) → slice_get (chosen_log setting last) i ≡ Some command → asker command ≡ Some (c, seq)
      → command_of c seq asked ≡ Some command)
      → verdict_for seq (latest (state_at setting last k) c) ≡ Some given → HasVerdict setting last c seq asked given
  verdict_causes k c seq asked given low own so =
      let log = chosen_log setting last in
      let few = judged_low setting.servers log plain c seq k given low so in
      let first = judged_first setting.servers log plain c seq few asked own k low given so in
      let upto : first.0 + 1 ≤ length log = (let le = first.1 in omega arith) in
      let was = (has_at setting.servers log plain c seq few asked own (first.0 + 1) upto).told given first.2 in
      let placed = was.0 in
      let before = placed_before setting.servers log plain c seq few asked own (first.0 + 1) given first.2 placed in
      let at_once : is_snap asked ≡ false → first.0 ≡ placed.place =
      judged_at_once setting.servers log plain c seq few asked own first.0 upto given first.2 first.3 placed (omega arith) in
      record {
        place = placed.place;
        judged = first.0;
        command = placed.command;
        own = placed.of_it;
        is = placed.is;
        first = placed_first setting.servers log plain c seq few asked own given placed;
        since = omega arith;
        within = omega arith;
        so = first.2;
        until = first.3;
        at_once = at_once;
        taken = placed.taken;
        unknown = placed.unknown;
        moving = placed.moving;
        still = placed.still;
        free = placed.free;
        known = placed.known;
        made = λ ok. judged_made setting.servers log plain c seq few asked own first.0 upto given first.2 placed at_once (was.1 ok) ok;
        fits = verdict_fits (state_at setting last placed.place) c seq asked given placed.command (latest (state_at setting last (first.0 + 1)) c)
            placed.of_it first.2 placed.taken placed.unknown placed.moving;
      }

  -- a command of the open request's number is its own
  own_command : (c : ℕ) (asked : Asked) → IsOpenFor setting.lines c asked → (i : ℕ) (command : Command) → slice_get (chosen_log setting last) i ≡ Some command
      → asker command ≡ Some (c, asked.seq) → command_of c asked.seq asked.request ≡ Some command
  own_command c asked o i command there named =
      let a = commands c asked.seq command named (in_get (chosen_log setting last) i command there) in
      let same : a.before ≡ o.before = (let e = a.seq_is in let f = o.seq_is in omega arith) in
      let line : o.line ≡ a.line = same_some (sym o.is ∙ ap (slice_get (lines_of setting.lines c)) (sym same) ∙ a.is) in
      ap (command_of c asked.seq) (o.request_is ∙ ap (λ (l : Line). l.request) line) ∙ a.own

  judged_cause : (c : ℕ) (before after : List Command) (asked : Asked) (given : Answer) → IsOpenFor setting.lines c asked
      → (asked.saw_missing ≡ true → WasTold last c asked.seq) → IsPrefix after (chosen_log setting last)
      → IsJudged setting.servers c before after asked given → HasCause asked.line given
  judged_cause c before after asked given o was_told part judged = caused_by c asked given o (by judged.reason)
    where
      upto : List Command
      upto = judged.prefix ++ judged.entry ∷ []

      whole : chosen_log setting last ≡ upto ++ (judged.rest ++ part.later)
      whole =
          part.is ∙ ap (λ log. log ++ part.later) judged.lies ∙ append_assoc judged.prefix (judged.entry ∷ judged.rest) part.later
          ∙ sym (append_assoc judged.prefix (judged.entry ∷ []) (judged.rest ++ part.later))

      upto_state : state_at setting last (length upto) ≡ state_after setting.servers upto
      upto_state = ap (state_after setting.servers) (ap (take (length upto)) whole ∙ take-append_seam upto (judged.rest ++ part.later))

      by : IsReason c asked given (state_after setting.servers upto) judged.entry
          → CauseOf setting last c asked.seq asked.request (command_of c asked.seq asked.request) given
      by (By_verdict command own so) =
          let many = ap length whole ∙ length-append upto (judged.rest ++ part.later) in
          subst (λ k. CauseOf setting last c asked.seq asked.request k given) (sym own)
          (verdict_causes (length upto) c asked.seq asked.request given (omega arith)
          (own_command c asked o) (ap (λ (s : State). verdict_for asked.seq (latest s c)) upto_state ∙ so))
      by (By_witness none is so) =
          let w = witness_is c asked.seq judged.entry is in
          let many : length upto ≡ length judged.prefix + 1 = length-append judged.prefix (judged.entry ∷ []) in
          let state : state_at setting last (length judged.prefix + 1) ≡ state_after setting.servers upto =
          ap (state_at setting last) (sym many) ∙ upto_state in
          let there : slice_get (chosen_log setting last) (length judged.prefix) ≡ Some judged.entry =
          ap (λ log. slice_get log (length judged.prefix)) (whole ∙ append_assoc judged.prefix (judged.entry ∷ []) (judged.rest ++ part.later))
          ∙ get_next judged.prefix judged.entry (judged.rest ++ part.later) in
          subst (λ k. CauseOf setting last c asked.seq asked.request k given) (sym none)
          (witness_causes c asked.seq asked.request given (record {
            place = length judged.prefix;
            turn = w.0;
            told = asked.saw_missing;
            why = was_told;
            is = there ∙ ap Some w.1;
            so = ap (λ (s : State). refusal s asked.saw_missing asked.request) state ∙ so;
            fits = refusal_fits (state_after setting.servers upto) asked.saw_missing asked.request given so;
          }))

  -- ### A client's turn

  answer_given : (number line : ℕ) (given told : Answer) → (let pair : Option (ℕ × Answer) = Some (line, told) in pair) ≡ Some (number, given)
      → HasCause line told → HasCause number given
  answer_given number line given told e h = subst (λ (x : ℕ × Answer). HasCause x.0 x.1) (same_some e) h

  read_cause : (c seq : ℕ) (asked : Request) (bytes : List ℕ) → is_read asked ≡ true
      → CauseOf setting last c seq asked (command_of c seq asked) (answer.Data bytes)
  read_cause c seq asked bytes is = subst (λ o. CauseOf setting last c seq asked o (answer.Data bytes)) (sym (no_command_read c seq asked is))
      (read_may asked bytes is)

  write_cause : (c seq : ℕ) (asked : Request) (how : Ending) → is_write asked ≡ true → CauseOf setting last c seq asked (command_of c seq asked) (answer_of how)
  write_cause c seq asked ending.Written is = subst (λ o. CauseOf setting last c seq asked o answer.Ok) (sym (no_command_write c seq asked is))
      (write_may asked ending.Written is)
  write_cause c seq asked ending.Full is = subst (λ o. CauseOf setting last c seq asked o answer.NoSpace) (sym (no_command_write c seq asked is))
      (write_may asked ending.Full is)

  -- an answer that a glance gives needs no entry
  seen_cause : (state : State) (c : ℕ) (asked : Asked) (sight : Sight) (given : Answer) → IsSeenAs state asked sight given
      → CauseOf setting last c asked.seq asked.request (command_of c asked.seq asked.request) given
  seen_cause state c asked sight given = by
    where
      so : (r : Request) (a : Answer) → asked.request ≡ r → given ≡ a → CauseOf setting last c asked.seq r (command_of c asked.seq r) a
          → CauseOf setting last c asked.seq asked.request (command_of c asked.seq asked.request) given
      so r a is e cause =
          subst (λ a. CauseOf setting last c asked.seq asked.request (command_of c asked.seq asked.request) a) (sym e)
          (subst (λ r. CauseOf setting last c asked.seq r (command_of c asked.seq r) a) (sym is) cause)

      by : IsSeenAs state asked sight given → CauseOf setting last c asked.seq asked.request (command_of c asked.seq asked.request) given
      by (Stops_it server is e) = so _ _ is e refl
      by (Stops_at server at is e) = so _ _ is e refl
      by (Fails_it server which kind at is e) = so _ _ is e refl
      by (Starts_it server is e) = so _ _ is e
          (by_test (CauseOf setting last c asked.seq (request.Start server) None) sight.running answer.Ok answer.Failed (λ t. refl) (λ t. refl))
      by (Blanks_it server is e) = so _ _ is e
          (by_test (CauseOf setting last c asked.seq (request.Blank server) None) sight.running answer.Ok answer.Failed (λ t. refl) (λ t. refl))
      by (Has_no_space is full e) = so _ _ is e refl
      by (Is_settled is round seen all e) = so _ _ is e refl

  -- what a client answers has its cause
  turn_caused : (heard : ℕ → Body → Type 0) (c : ℕ) (client : Client) (in_call : Bool) (reacted : Reaction)
      → ((asked : Asked) → client.asked ≡ Some asked → IsOpenFor setting.lines c asked)
      → ((asked : Asked) → client.asked ≡ Some asked → asked.saw_missing ≡ true → WasTold last c asked.seq)
      → IsPrefix reacted.client.applied (chosen_log setting last) → Turned heard setting.servers setting.lines c client in_call reacted
      → (number : ℕ) (given : Answer) → reacted.answer ≡ Some (number, given) → HasCause number given
  turn_caused heard c client _ _ opened was part (Goes_on reacted seq stays says) number given e = none_some says.unanswered e
  turn_caused heard c client _ _ opened was part (Is_told reacted asked told is reads seq stays says) number given e = none_some says.unanswered e
  turn_caused heard c client _ _ opened was part (Begins reacted line asked next free seq now called says) number given e = none_some says.unanswered e
  turn_caused heard c client _ _ opened was part (Reads asked bytes told is read) number given e =
      answer_given number asked.line given (answer.Data bytes) e
      (caused_by c asked (answer.Data bytes) (opened asked is) (read_cause c asked.seq asked.request bytes read))
  turn_caused heard c client _ _ opened was part (Ends asked how told is write) number given e =
      answer_given number asked.line given (answer_of how) e
      (caused_by c asked (answer_of how) (opened asked is) (write_cause c asked.seq asked.request how write))
  turn_caused heard c client _ _ opened was part (Shown asked rev sight shown told is seen) number given e =
      answer_given number asked.line given shown e (caused_by c asked shown (opened asked is) (seen_cause _ c asked sight shown seen))
  turn_caused heard c client _ _ opened was part (Judges after asked told is gone seq judged) number given e =
      answer_given number asked.line given told e (judged_cause c client.applied after.applied asked told (opened asked is) (was asked is) part judged)

-- ### Histories

take_prefix : (log : List Command) (k : ℕ) → IsPrefix (take k log) log
take_prefix [] zero = record { later = []; is = refl }
take_prefix [] (suc k) = record { later = []; is = refl }
take_prefix (e ∷ log) zero = record { later = e ∷ log; is = refl }
take_prefix (e ∷ log) (suc k) = let rest = take_prefix log k in record { later = rest.later; is = ap (λ xs. e ∷ xs) rest.is }

-- in view of the log at a history's end
module _ (run : Run) where
  open run use {script, sound, records, legal}

  abbrev setting : Setting
  setting = setting_of script

  abbrev last : World
  last = after run

  plain_end : HasProperTuples script.servers (chosen_log setting last)
  plain_end = (firm_in run).plain

  commands : AreAsked script.lines (chosen_log setting last)
  commands = commands_are_asked script records sound legal

  module _ (number : ℕ) (given : Answer) (m : WasAnswered records (number, given)) where
    abbrev it : OneMore
    it = at_moment run m.moment

    abbrev w : World
    w = after it.prior

    was_told : (c : ℕ) (asked : Asked) → (w.clients c).asked ≡ Some asked → asked.saw_missing ≡ true → WasTold last c asked.seq
    was_told c asked e told =
        let t = ((asking_after script m.prefix sound it.prior.legal).known.ways c asked e).told told in
        record { letter = t.1.letter; sent = stays_sent run m.prefix (m.own ∷ m.following) m.is t.1.letter t.1.there; to = t.1.to; is = t.1.is }

    by_step : (who : Actor) (what : Step) → MayActor who what setting w → Firm setting (step who what setting w m.own.stamp).world
        → IsPrefix (chosen_log setting (step who what setting w m.own.stamp).world) (chosen_log setting last)
        → (step who what setting w m.own.stamp).answer ≡ Some (number, given) → HasCause setting last plain_end commands number given
    unfolding step
    by_step (actor.Server n) what may firm grown e = none_some refl e
    by_step (actor.Client c) what may firm grown e =
        let reacted = client_step what (client_state setting w c) c (w.clients c) (next_line script.lines c (w.clients c)) in
        let v = (reacts w c m.own.stamp reacted).world in
        let applied = subst (λ (client : Client). IsPrefix client.applied (chosen_log setting v)) (put_same w.clients c reacted.client) (firm.clients c) in
        turn_caused setting last plain_end commands (Heard w (actor.Client c)) c (w.clients c) _ reacted
        (open_for script m.prefix sound it.prior.legal c) (was_told c) (prefix_on _ (chosen_log setting v) _ applied grown)
        (client_turns setting w c what may.1).turned number given e

    cause_of : HasCause setting last plain_end commands number given
    cause_of =
        by_step m.own.actor m.own.step (follows_in it).may.may (firm_then it)
        (subst (λ (v : World). IsPrefix (chosen_log setting v) (chosen_log setting last)) (stepped_in it)
        (history_grows script records sound legal (longer it).records m.following (m.is ∙ sym (append_assoc m.prefix (m.own ∷ []) m.following))))
        (sym (follows_in it).answer ∙ m.answered)

  has_cause : (number : ℕ) (given : Answer) → In (number, given) last.answers → HasCause setting last plain_end commands number given
  has_cause number given i = cause_of number given (was_answered run (number, given) i)

  pub causes_after : AreRising script.lines → AreCaused setting last
  causes_after rise line before given there told = by (has_cause line.number given told)
    where
      by : HasCause setting last plain_end commands line.number given
          → CauseOf setting last line.client (before + 1) line.request (command_of line.client (before + 1) line.request) given
      by h =
          let client : h.client ≡ line.client = one_client script.lines rise h.client line.client h.before before h.line line h.is there h.number_is in
          let here : slice_get (lines_of script.lines line.client) h.before ≡ Some h.line = subst
          (λ c. slice_get (lines_of script.lines c) h.before ≡ Some h.line) client h.is in
          let place : h.before ≡ before = one_place script.lines rise line.client h.before before h.line line here there h.number_is in
          let same : h.line ≡ line = same_some (sym here ∙ ap (slice_get (lines_of script.lines line.client)) place ∙ there) in
          subst (λ c. CauseOf setting last c (before + 1) line.request (command_of c (before + 1) line.request) given) client
          (subst (λ k. CauseOf setting last h.client (k + 1) line.request (command_of h.client (k + 1) line.request) given) place
          (subst (λ (l : Line). CauseOf setting last h.client (h.before + 1) l.request (command_of h.client (h.before + 1) l.request) given) same h.cause))

  -- an answer is one that its line's request may get
  pub fits_after : (line : Line) (given : Answer) → In line script.lines → In (line.number, given) last.answers
      → may_answer line.request given ≡ true
  fits_after line given there told =
      let h = has_cause line.number given told in
      let same : h.line ≡ line = sound.numbered h.line line (line_at script.lines h.client h.before h.line h.is).0 there h.number_is in
      subst (λ (l : Line). may_answer l.request given ≡ true) same
      (cause_fits setting last h.client (h.before + 1) h.line.request (command_of h.client (h.before + 1) h.line.request) given h.cause)

  -- where every server still is In as its first incarnation, no answer is `Unavailable`
  pub never_unavailable_after : ((n : ℕ) → n < script.servers → is_in (chosen_state setting last) n 1 ≡ true) → (number : ℕ)
      → In (number, answer.Unavailable) last.answers → ⊥
  never_unavailable_after ins number told = by (has_cause number answer.Unavailable told)
    where
      is_gone : Answer → Bool
      is_gone answer.Unavailable = true
      is_gone _ = false

      cause_never : (c seq : ℕ) (asked : Request) (o : Option Command) → CauseOf setting last c seq asked o answer.Unavailable → ⊥
      cause_never c seq asked (Some command) h =
          true_false refl (verdict_said (λ g. is_gone g ≡ false) refl refl refl refl seq (latest (state_at setting last (h.judged + 1)) c)
          answer.Unavailable h.so)
      cause_never c seq asked None h =
          let whole = chosen_log setting last in
          let prefix = take (h.place + 1) whole in
          let proper : HasProperTuples script.servers prefix = plain_prefix script.servers whole (h.place + 1) plain_end in
          let table = log_plain script.servers prefix proper in
          let many = table.many in
          let upto = log_below script.servers [] prefix proper (record { later = prefix; is = refl }) in
          let below = log_below script.servers prefix whole plain_end (take_prefix whole (h.place + 1)) in
          never_unavailable script.servers (state_at setting last (h.place + 1)) table (log_steady script.servers prefix proper)
          (λ n low.
          let one = subst (λ k. n < k) many low in
          between (first_state script.servers) (state_at setting last (h.place + 1)) (chosen_state setting last) n 1 (upto.ages n) (below.ages n)
          (first_at_start script.servers n one) (ins n one)) h.told asked h.so

      by : HasCause setting last plain_end commands number answer.Unavailable → ⊥
      by h = cause_never h.client (h.before + 1) h.line.request (command_of h.client (h.before + 1) h.line.request) h.cause
