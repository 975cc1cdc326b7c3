-- What the lines that name a server are answered by: each by its own glance, which tells what it saw. And why a start or a blank
-- fails: its glance comes right after the boot that its line gave, and finds the server stopped.
use Rattle.law_answers.proofs.Imports.{[], ◌++◌, ◌+◌, ◌<◌, ◌==◌, ◌∙◌, ◌∷◌, ◌≡◌, ◌≢◌, ◌≤◌, Actor, Answer, AreRising, AreSteps, Arm, Asked, Begins, Blank}
use Rattle.law_answers.proofs.Imports.{Blanked, Bool, Boot, Booted, Call, Client, Control, Deed, Deliver, Ends, Glance, Goes_on, Heard, In, IsDone, IsFree}
use Rattle.law_answers.proofs.Imports.{IsGlanceDue, IsMoment, IsSeenAs, IsSettleGlance, IsSound, Is_told, Judges, Letter, Line, List, MayActor, MayGlance}
use Rattle.law_answers.proofs.Imports.{MayServer, None, Option, Reaction, Reads, Record, Script, Server, Setting, Shown, Some, StaysOpen, Step, Stop, StopIn}
use Rattle.law_answers.proofs.Imports.{Stopped, Tick, Turned, Work, WorkEnd, World, acts, all_put, answer_of, ap, append-nil, append_assoc, arith, by_test}
use Rattle.law_answers.proofs.Imports.{client_state, client_step, client_turns, controls, false, glanced_in, here_of, in-append, inl, inr, lines_of, names}
use Rattle.law_answers.proofs.Imports.{next_line, none_some, operator, prefix_legal, put_apart, put_same, reacts, refl, same_numbers, same_some, server_state}
use Rattle.law_answers.proofs.Imports.{server_step, setting_of, shown, slice_get, start, stays, step, subst, sym, true, true_false, world_after, world_more, ℕ}
use Rattle.law_answers.proofs.Lines.{open_last, IsOpenFor, asks_to_boot, line_of, open_for}
use Rattle.law_answers.proofs.ClientHistorySteps.{step_seq}
use Rattle.law_answers.proofs.AnsweredOnce.{in_answers, pair_is}
use Rattle.law_answers.proofs.LinesHavePlaces.{line_at, one_place}
use Rattle.law_answers.specs.FailureCauses.{IsReasonToFail, HasReasonToFail}
use Rattle.law_answers.specs.Glances.{IsGlance, Tells}
use Rattle.law_answers.specs.Lines.{AsksToBoot}
use Rattle.law_answers.proofs.LettersMuteOfRevisions.{IsMute, is_mute}
use Rattle.law_answers.proofs.WhatLettersSay.{Mute, Rev, Sight, server_says, client_says}
use Rattle.law_answers.proofs.FailuresAreCaused.{seen_failed, ending_not, reason_not, not_read, not_written, not_judged, glanced_at, AnsweredAs, seen_as}
use Rattle.law_answers.proofs.FailuresAreCaused.{told_by, boots_named, done_booted, boot_why}
use Rattle.petal_msg.specs.declared.body.Body.TheVariants as body
use Rattle.petal_msg.specs.declared.letter.Actor.TheVariants as actor
use Rattle.script_lines.specs.declared.answer.Answer.TheVariants as answer

-- ### A history

module _ (script : Script) (records : List Record) (sound : IsSound script) (rise : AreRising script.lines)
    (legal : AreSteps script records) where
  abbrev setting : Setting
  setting = setting_of script

  abbrev lines : List Line
  lines = script.lines

  abbrev Fails : ℕ → Type 0
  Fails number = HasReasonToFail setting (start setting) records number

  -- one of the records is a glance of this line at the server, which the answer tells of
  pub record Glanced (line : Line) (n : ℕ) (given : Answer) : Type 0 where
    pub moment : IsMoment records
    pub open moment use *
    pub so : IsGlance setting (world_after setting (start setting) prefix) own line n given

  -- the operator's line at this place has this number
  record IsOperators (number place : ℕ) : Type 0 where
    line : Line
    is : slice_get (lines_of lines operator) place ≡ Some line
    number_is : line.number ≡ number

  -- a letter shows whether a server runs, at the glance of this line, which the operator has called. The last one that it has
  -- called was then glanced at, where it names a server
  record IsShown (w : World) (letter : Letter) (number : ℕ) (running : Bool) : Type 0 where
    to : letter.to ≡ actor.Client operator
    place : ℕ
    of : IsOperators number place
    open of use *
    called : place < (w.clients operator).seq
    last : (n : ℕ) → (names line.request).server ≡ Some n → place + 1 ≡ (w.clients operator).seq → w.control.glanced ≡ Some number
    fails : (n : ℕ) → AsksToBoot line.request n → running ≡ false → Fails number
    glance : (n : ℕ) (given : Answer) → (names line.request).server ≡ Some n → AnsweredAs line.request running given → Glanced line n given

  -- the operator's open line has booted the server, and was not glanced at
  record IsBooted (w : World) (n : ℕ) : Type 0 where
    asked : Asked
    is : (w.clients operator).asked ≡ Some asked
    boots : AsksToBoot asked.request n
    fresh : w.control.glanced ≢ Some asked.line
    fails : (w.servers n).life.running ≡ false → Fails asked.line

  -- what is so of an answer
  record IsSeen (number : ℕ) (given : Answer) : Type 0 where
    fails : given ≡ answer.Failed → Fails number
    glance : (line : Line) (n : ℕ) → In line lines → line.number ≡ number → (names line.request).server ≡ Some n → Glanced line n given

  -- what is kept: of letters that show a server, of the server at the operator's hand, of numbers of requests, and of answers
  record Kept (w : World) : Type 0 where
    shows : (letter : Letter) (line round : ℕ) (running : Bool) (inc : ℕ) (full : Bool) → In letter w.sent
        → letter.body ≡ body.Seen line round running inc full → IsShown w letter line running
    hand : (n : ℕ) → w.control.hand ≡ Some (n, Booted) → IsBooted w n
    answers : (number : ℕ) (given : Answer) → In (number, given) w.answers → IsSeen number given

  -- ### One step

  module _ (prefix : List Record) (own : Record) (following : List Record) (lies : records ≡ prefix ++ own ∷ following)
      (kept : Kept (world_after setting (start setting) prefix)) where
    abbrev w : World
    w = world_after setting (start setting) prefix

    prefix_is_legal : AreSteps script prefix
    prefix_is_legal = (prefix_legal setting (start setting) prefix (own ∷ following) (subst (AreSteps script) lies legal)).0

    opened : (c : ℕ) (asked : Asked) → (w.clients c).asked ≡ Some asked → IsOpenFor lines c asked
    opened = open_for script prefix sound prefix_is_legal

    newest : (c : ℕ) (asked : Asked) → (w.clients c).asked ≡ Some asked → asked.seq ≡ (w.clients c).seq
    newest = open_last script prefix sound prefix_is_legal

    -- ### A server's step

    -- what was shown stays so
    shown_on : (v : World) → v.clients ≡ w.clients → (letter : Letter) (number : ℕ) (running : Bool) (s : IsShown w letter number running)
        → ((n : ℕ) → (names s.line.request).server ≡ Some n → s.place + 1 ≡ (w.clients operator).seq → v.control.glanced ≡ Some number)
        → IsShown v letter number running
    shown_on v same letter number running s last = record {
      to = s.to;
      place = s.place;
      of = s.of;
      called = subst (λ (clients : ℕ → Client). s.place < (clients operator).seq) (sym same) s.called;
      last = λ n named e. last n named (e ∙ ap (λ (clients : ℕ → Client). (clients operator).seq) same);
      fails = s.fails;
      glance = s.glance;
    }

    -- the world after a server's step
    abbrev served : ℕ → Step → World
    served n what = (acts setting w n what own.stamp (server_step what (server_state setting w n) n (w.servers n))).world

    -- a line's one glance is kept, and that of a settle leaves the operator's hand as it was
    due_kept : (l r : ℕ) → r ≡ 0 → (glanced_in l r w.control).glanced ≡ Some l
    due_kept l r once = ap (λ round. (glanced_in l round w.control).glanced) once

    settle_left : (l r : ℕ) → 0 < r → glanced_in l r w.control ≡ w.control
    settle_left l r counts = by_test (λ (control : Control). control ≡ w.control) (r == 0) _ _
        (λ e. absurd (let none : r ≡ 0 = same_numbers r 0 e in omega arith)) (λ e. refl)

    old_shown : (n : ℕ) (what : Step) → MayServer what setting w n → (letter : Letter) (number : ℕ) (running : Bool)
        → IsShown w letter number running → IsShown (served n what) letter number running
    old_shown n (Glance l r) (inl may) letter number running s =
        let o = opened operator may.asked may.opened.is in
        let last = newest operator may.asked may.opened.is in
        let at = o.seq_is in
        shown_on (served n (Glance l r)) refl letter number running s (λ k named e.
        let place : s.place ≡ o.before = omega arith in
        let line : s.line ≡ o.line = same_some (sym s.is ∙ ap (slice_get (lines_of lines operator)) place ∙ o.is) in
        due_kept l r may.once ∙ ap Some (sym may.line_is ∙ o.line_is ∙ sym (ap (λ (x : Line). x.number) line) ∙ s.number_is))
    old_shown n (Glance l r) (inr may) letter number running s =
        shown_on (served n (Glance l r)) refl letter number running s
        (λ k named e. ap (λ (control : Control). control.glanced) (settle_left l r may.counts) ∙ s.last k named e)
    old_shown n _ may letter number running s = shown_on _ refl letter number running s s.last

    shown_is : (l r : ℕ) (server : Server) (line round : ℕ) (running : Bool) (inc : ℕ) (full : Bool)
        → shown l r server ≡ body.Seen line round running inc full → (l ≡ line) × (server.life.running ≡ running)
    shown_is l r server line round running inc full =
        by_test (λ said. said ≡ body.Seen line round running inc full → (l ≡ line) × (server.life.running ≡ running))
        server.life.running _ _
        (λ on e. let same : true ≡ running = cc in (cc, on ∙ same)) (λ off e. let same : false ≡ running = cc in (cc, off ∙ same))

    -- what a line's one glance shows: where it finds the server of a start or a blank stopped, that line has booted it
    new_due : (n l r : ℕ) → own.actor ≡ actor.Server n → own.step ≡ Glance l r → (may : IsGlanceDue w n l r) (letter : Letter) (line : ℕ)
        (running : Bool) → letter.to ≡ actor.Client operator → l ≡ line → (w.servers n).life.running ≡ running
        → IsShown (served n (Glance l r)) letter line running
    new_due n l r who does may letter line running to same runs =
        let o = opened operator may.asked may.opened.is in
        let last = newest operator may.asked may.opened.is in
        let at = o.seq_is in
        let done = subst (λ q. IsDone q n (w.servers n).life.running w.control.hand) o.request_is may.done in
        record {
          to = to;
          place = o.before;
          of = record { line = o.line; is = o.is; number_is = sym o.line_is ∙ may.line_is ∙ same };
          called = omega arith;
          last = λ k named e. due_kept l r may.once ∙ ap Some same;
          fails = λ m asks off.
              elim (done_booted o.line.request m n _ _ asks done) [
                | inl on ↦ true_false on (runs ∙ off)
                | inr there ↦
                    let b = kept.hand n there in
                    let one : b.asked ≡ may.asked = same_some (sym b.is ∙ may.opened.is) in
                    subst Fails (ap (λ (x : Asked). x.line) one ∙ may.line_is ∙ same) (b.fails (runs ∙ off))
              ];
          glance = λ m given named seen.
              let at = glanced_at o.line.request n m _ _ done named in
              record {
                moment = record { prefix = prefix; own = own; following = following; is = lies };
                so = record {
                  asked = may.asked;
                  opened = line_of lines w may.asked o may.opened;
                  who = who ∙ ap actor.Server at;
                  what = does ∙ ap (λ k. Glance k r) (sym may.line_is ∙ o.line_is) ∙ ap (Glance o.line.number) may.once;
                  tells = subst (λ k. Tells o.line.request (w.servers k).life.running given) at
                      (told_by o.line.request n _ _ given done (subst (λ on. AnsweredAs o.line.request on given) (sym runs) seen));
                };
              };
        }

    -- a settle names no server
    new_settle : (n l r : ℕ) → (may : IsSettleGlance setting w l r) (letter : Letter) (line : ℕ) (running : Bool) → letter.to ≡ actor.Client operator
        → l ≡ line → IsShown (served n (Glance l r)) letter line running
    new_settle n l r may letter line running to same = record {
      to = to;
      place = may.place;
      of = record { line = may.own; is = may.is; number_is = may.line_is ∙ same };
      called = may.called;
      last = λ m named e. none_some unnamed named;
      fails = λ m asks off. none_some unnamed (boots_named may.own.request m asks);
      glance = λ m given named seen. none_some unnamed named;
    }
      where
        unnamed : (names may.own.request).server ≡ None
        unnamed = ap (λ q. (names q).server) may.request_is

    new_shown : (n l r : ℕ) → own.actor ≡ actor.Server n → own.step ≡ Glance l r → (may : MayGlance setting w n l r) (letter : Letter) (line : ℕ)
        (running : Bool) → letter.to ≡ actor.Client operator → l ≡ line → (w.servers n).life.running ≡ running
        → IsShown (served n (Glance l r)) letter line running
    new_shown n l r who does (inl may) letter line running to same runs = new_due n l r who does may letter line running to same runs
    new_shown n l r who does (inr may) letter line running to same runs = new_settle n l r may letter line running to same

    mute_not : (letter : Letter) (line round : ℕ) (running : Bool) (inc : ℕ) (full : Bool) → letter.body ≡ body.Seen line round running inc full
        → IsMute letter.body → ⊥
    mute_not letter line round running inc full e mute = true_false (ap (λ said. is_mute said) (sym e) ∙ mute) refl

    server_shows : (n : ℕ) (what : Step) → own.actor ≡ actor.Server n → own.step ≡ what → MayServer what setting w n → (letter : Letter)
        (line round : ℕ) (running : Bool) (inc : ℕ) (full : Bool) → In letter (served n what).sent
        → letter.body ≡ body.Seen line round running inc full → IsShown (served n what) letter line running
    server_shows n what who does may letter line round running inc full i e = elim (in-append letter _ w.sent i) [
      | inr old ↦ old_shown n what may letter line running (kept.shows letter line round running inc full old e)
      | inl new ↦ elim (server_says setting w n what own.stamp may letter new) [
        | Mute mute ↦ absurd (mute_not letter line round running inc full e mute)
        | Rev seq other told ↦ absurd (let f : body.WrongRev seq ≡ body.Seen line round running inc full = sym other ∙ e in cc)
        | Sight l r glance to mine so rev ↦
            let seen = shown_is l r (w.servers n) line round running inc full (sym so ∙ e) in
            subst (λ x. IsShown (served n x) letter line running) (sym glance)
            (new_shown n l r who (does ∙ glance) (subst (λ x. MayServer x setting w n) glance may) letter line running to seen.0 seen.1)
      ]
    ]

    -- another server takes a step: not the one at the operator's hand
    hand_on : (n : ℕ) (what : Step) → controls what n w.control ≡ w.control → IsFree w n → (m : ℕ) → w.control.hand ≡ Some (m, Booted)
        → IsBooted (served n what) m
    hand_on n what same free m e =
        let b = kept.hand m e in
        let apart : m ≢ n = λ k. free Booted (subst (λ j. w.control.hand ≡ Some (j, Booted)) k e) in
        record {
          asked = b.asked;
          is = b.is;
          boots = b.boots;
          fresh = λ g. b.fresh (sym (ap (λ (control : Control). control.glanced) same) ∙ g);
          fails = λ rests. b.fails (sym (ap (λ (x : Server). x.life.running) (put_apart w.servers n _ m apart)) ∙ rests);
        }

    -- a step that leaves its server as it is, which may be the one at the operator's hand
    hand_left : (n : ℕ) (what : Step) → controls what n w.control ≡ w.control
        → (server_step what (server_state setting w n) n (w.servers n)).server ≡ w.servers n → (m : ℕ) → w.control.hand ≡ Some (m, Booted)
        → IsBooted (served n what) m
    hand_left n what same left m e =
        let b = kept.hand m e in
        record {
          asked = b.asked;
          is = b.is;
          boots = b.boots;
          fresh = λ g. b.fresh (sym (ap (λ (control : Control). control.glanced) same) ∙ g);
          fails = λ rests. b.fails (sym (all_put w.servers n _ (λ k (x : Server). x.life.running ≡ (w.servers k).life.running)
              (λ k. refl) (ap (λ (x : Server). x.life.running) left) m) ∙ rests);
        }

    -- a boot puts its server there
    booted : (n : ℕ) (end : WorkEnd) → own.actor ≡ actor.Server n → own.step ≡ Boot end → MayServer (Boot end) setting w n
        → IsBooted (served n (Boot end)) n
    booted n end who does may =
        let o = opened operator may.asked may.opened.is in
        let asks = asks_to_boot may.asked.request n w.control.hand may.boots in
        record {
          asked = may.asked;
          is = may.opened.is;
          boots = asks;
          fresh = may.opened.first;
          fails = λ rests. record {
            moment = record { prefix = prefix; own = own; following = following; is = lies };
            server = n;
            asked = may.asked;
            line = o.line;
            number_is = sym o.line_is;
            boots = subst (λ r. AsksToBoot r n) o.request_is asks;
            given = line_of lines w may.asked o may.opened;
            who = who;
            why = subst (IsReasonToFail w n) (sym does)
                (boot_why w n (here_of (server_state setting w n) n (w.servers n)) end
                (sym (ap (λ (x : Server). x.life.running) (put_same w.servers n _)) ∙ rests));
          };
        }

    server_hand : (n : ℕ) (what : Step) → own.actor ≡ actor.Server n → own.step ≡ what → MayServer what setting w n → (m : ℕ)
        → (served n what).control.hand ≡ Some (m, Booted) → IsBooted (served n what) m
    server_hand n (Call line) who does may m e = absurd may
    server_hand n (Deliver letter) who does may m e = hand_on n (Deliver letter) refl may.free m e
    server_hand n Tick who does may m e = hand_on n Tick refl may.free m e
    server_hand n (Work end) who does may m e = hand_on n (Work end) refl may.acts.free m e
    server_hand n (StopIn end) who does may m e = hand_on n (StopIn end) refl may.acts.free m e
    server_hand n Stop who does may m e = let f : Stopped ≡ Booted = ap (λ (x : ℕ × Deed). x.1) (same_some e) in absurd (cc)
    server_hand n Blank who does may m e = let f : Blanked ≡ Booted = ap (λ (x : ℕ × Deed). x.1) (same_some e) in absurd (cc)
    server_hand n (Boot end) who does may m e =
        subst (IsBooted (served n (Boot end))) (ap (λ (x : ℕ × Deed). x.0) (same_some e)) (booted n end who does may)
    server_hand n (Arm which plan) who does may m e = hand_left n (Arm which plan) refl refl m e
    server_hand n (Glance line round) who does (inl may) m e = none_some (ap (λ at. (glanced_in line at w.control).hand) may.once) e
    server_hand n (Glance line round) who does (inr may) m e =
        let left = settle_left line round may.counts in
        hand_left n (Glance line round) left refl m (sym (ap (λ (control : Control). control.hand) left) ∙ e)

    server_keeps : (n : ℕ) (what : Step) → own.actor ≡ actor.Server n → own.step ≡ what → MayServer what setting w n → Kept (served n what)
    server_keeps n what who does may = record {
      shows = server_shows n what who does may;
      hand = server_hand n what who does may;
      answers = kept.answers;
    }

    -- ### A client's step

    -- the request is still open
    record StillOpen (asked : Asked) (client : Client) : Type 0 where
      now : Asked
      is : client.asked ≡ Some now
      line : now.line ≡ asked.line
      request : now.request ≡ asked.request

    still_open : (rev : ℕ) (o : Option Asked) (client : Client) → StaysOpen rev o client.asked → (asked : Asked) → o ≡ Some asked
        → StillOpen asked client
    still_open rev None client stays asked e = none_some refl e
    still_open rev (Some old) client stays asked e =
        by client.asked refl (subst (λ x. StaysOpen rev (Some x) client.asked) (same_some e) stays)
      where
        by : (o : Option Asked) → client.asked ≡ o → StaysOpen rev (Some asked) o → StillOpen asked client
        by None is none = absurd none
        by (Some now) is same = record { now = now; is = is; line = same.line; request = same.request }

    -- a line that names a server stays open as long as that was not glanced at
    abbrev Stays : Client → Client → Type 0
    Stays old new = (asked : Asked) (n : ℕ) → old.asked ≡ Some asked → (names asked.request).server ≡ Some n → w.control.glanced ≢ Some asked.line
        → StillOpen asked new

    -- a client goes on, and what it answers is seen
    record IsTurned (old : Client) (reacted : Reaction) : Type 0 where
      stays : Stays old reacted.client
      seen : (number : ℕ) (given : Answer) → reacted.answer ≡ Some (number, given) → IsSeen number given

    -- a client hears of its open line only once that was glanced at: so it is the operator, and the line the last that it called
    record IsOwn (letter : Letter) (c : ℕ) (asked : Asked) (running : Bool) : Type 0 where
      glanced : (n : ℕ) → (names asked.request).server ≡ Some n → w.control.glanced ≡ Some asked.line
      fails : (n : ℕ) → AsksToBoot asked.request n → running ≡ false → Fails asked.line
      glance : (line : Line) (n : ℕ) (given : Answer) → In line lines → line.number ≡ asked.line → (names line.request).server ≡ Some n
          → AnsweredAs asked.request running given → Glanced line n given

    heard_own : (c : ℕ) (asked : Asked) (rev round : ℕ) (running : Bool) (inc : ℕ) (full : Bool)
        → (told : Heard w (actor.Client c) rev (body.Seen asked.line round running inc full)) → (w.clients c).asked ≡ Some asked
        → IsOwn told.letter c asked running
    heard_own c asked rev round running inc full told is =
        let s = kept.shows told.letter asked.line round running inc full told.sent told.is in
        let o = opened c asked is in
        let last = newest c asked is in
        let at = o.seq_is in
        let to : actor.Client c ≡ actor.Client operator = sym told.own ∙ s.to in
        let same : c ≡ operator = cc in
        let here = subst (λ k. slice_get (lines_of lines k) s.place ≡ Some s.line) (sym same) s.is in
        let place : s.place ≡ o.before = one_place lines rise c s.place o.before s.line o.line here o.is (s.number_is ∙ o.line_is) in
        let line : s.line ≡ o.line = same_some (sym here ∙ ap (slice_get (lines_of lines c)) place ∙ o.is) in
        let seqs : (w.clients c).seq ≡ (w.clients operator).seq = ap (λ k. (w.clients k).seq) same in
        let asks : s.line.request ≡ asked.request = ap (λ (x : Line). x.request) line ∙ sym o.request_is in
        record {
          glanced = λ n named. s.last n (ap (λ r. (names r).server) asks ∙ named) (omega arith);
          fails = λ n boots off. s.fails n (subst (λ r. AsksToBoot r n) (sym asks) boots) off;
          glance = λ one n given there at named seen.
              let itself : s.line ≡ one =
              sound.numbered s.line one (line_at lines operator s.place s.line s.is).0 there (s.number_is ∙ sym at) in
              subst (λ x. Glanced x n given) itself
              (s.glance n given (ap (λ (x : Line). (names x.request).server) itself ∙ named)
              (subst (λ r. AnsweredAs r running given) (sym asks) seen));
        }

    -- what was shown stays so
    shown_later : (v : World) → (w.clients operator).seq ≤ (v.clients operator).seq → v.control ≡ w.control → (letter : Letter) (number : ℕ)
        (running : Bool) → IsShown w letter number running → IsShown v letter number running
    shown_later v up same letter number running s =
        let called = s.called in
        record {
          to = s.to;
          place = s.place;
          of = s.of;
          called = omega arith;
          last = λ n named at.
              let still : (v.clients operator).seq ≡ (w.clients operator).seq = omega arith in
              ap (λ (control : Control). control.glanced) same ∙ s.last n named (at ∙ still);
          fails = s.fails;
          glance = s.glance;
        }

    module _ (c : ℕ) where
      abbrev client : Client
      client = w.clients c

      same_named : (asked other : Asked) (n : ℕ) → client.asked ≡ Some asked → client.asked ≡ Some other → (names other.request).server ≡ Some n
          → (names asked.request).server ≡ Some n
      same_named asked other n is there named = ap (λ (x : Asked). (names x.request).server) (same_some (sym is ∙ there)) ∙ named

      -- the open request is that of the line of its number, and names the server that the line does
      asks_of : (asked : Asked) → client.asked ≡ Some asked → (line : Line) (n : ℕ) → In line lines → line.number ≡ asked.line
          → (names line.request).server ≡ Some n → (names asked.request).server ≡ Some n
      asks_of asked is line n there at named =
          let o = opened c asked is in
          let same : o.line ≡ line = sound.numbered o.line line (line_at lines c o.before o.line o.is).0 there (sym o.line_is ∙ sym at) in
          ap (λ r. (names r).server) (o.request_is ∙ ap (λ (x : Line). x.request) same) ∙ named

      silent : (reacted : Reaction) → reacted.answer ≡ None → Stays client reacted.client → IsTurned client reacted
      silent reacted none stays = record { stays = stays; seen = λ number told e. none_some none e }

      -- the open request, which names no server, is answered
      closes : (asked : Asked) → client.asked ≡ Some asked → ((n : ℕ) → (names asked.request).server ≡ Some n → ⊥) → (reacted : Reaction)
          (given : Answer) → reacted.answer ≡ Some (asked.line, given) → given ≢ answer.Failed → IsTurned client reacted
      closes asked is none reacted given answers well = record {
        stays = λ other n there named fresh. absurd (none n (same_named asked other n is there named));
        seen = λ number told e.
            let f = pair_is (sym answers ∙ e) in
            record {
              fails = λ failed. absurd (well (f.1 ∙ failed));
              glance = λ line n there same named. absurd (none n (asks_of asked is line n there (same ∙ sym f.0) named));
            };
      }

      turned : (in_call : Bool) (reacted : Reaction) → Turned (Heard w (actor.Client c)) setting.servers lines c client in_call reacted
          → IsTurned client reacted
      turned _ _ (Goes_on reacted seq stays says) =
          silent reacted says.unanswered (λ asked n is named fresh. still_open _ client.asked reacted.client stays asked is)
      turned _ _ (Is_told reacted asked heard is read seq stays says) =
          silent reacted says.unanswered (λ other n there named fresh. absurd (not_read asked.request n (same_named asked other n is there named) read))
      turned _ _ (Begins reacted line asked next free seq now called says) =
          silent reacted says.unanswered (λ asked n is named fresh. none_some free is)
      turned _ _ (Reads asked bytes heard is read) =
          closes asked is (λ n named. not_read asked.request n named read) _ (answer.Data bytes) refl (λ failed. cc)
      turned _ _ (Ends asked how heard is write) =
          closes asked is (λ n named. not_written asked.request n named write) _ (answer_of how) refl (ending_not how)
      turned _ _ (Shown asked rev sight given heard is seen) =
          let h = heard_own c asked rev sight.round sight.running sight.inc sight.full heard is in
          record {
            stays = λ other n there named fresh.
                absurd (fresh (h.glanced n (same_named asked other n is there named)
                ∙ ap (λ (x : Asked). Some x.line) (same_some (sym is ∙ there))));
            seen = λ number told e.
                let f = pair_is e in
                record {
                  fails = λ failed.
                      let off = seen_failed _ asked sight (subst (IsSeenAs _ asked sight) (f.1 ∙ failed) seen) in
                      subst Fails f.0 (h.fails off.server off.boots off.rests);
                  glance = λ line n there same named.
                      h.glance line n told there (same ∙ sym f.0) named
                      (seen_as _ asked sight told n (asks_of asked is line n there (same ∙ sym f.0) named)
                      (subst (IsSeenAs _ asked sight) f.1 seen));
                };
          }
      turned _ _ (Judges after asked given is gone seq judged) =
          closes asked is (λ n named. not_judged c asked n given _ _ named judged.reason) _ given refl
          (λ failed. reason_not c asked given _ _ failed judged.reason)

    client_keeps : (c : ℕ) (what : Step) → MayActor (actor.Client c) what setting w
        → Kept (step (actor.Client c) what setting w own.stamp).world
    unfolding step
    client_keeps c what may =
        let reacted = client_step what (client_state setting w c) c (w.clients c) (next_line lines c (w.clients c)) in
        let t = turned c _ reacted (client_turns setting w c what may.1).turned in
        let v = (reacts w c own.stamp reacted).world in
        let stays = all_put w.clients c reacted.client (λ k client. Stays (w.clients k) client)
        (λ k asked n is named fresh. record { now = asked; is = is; line = refl; request = refl }) t.stays operator in
        let up = step_seq setting w (actor.Client c) what own.stamp may operator in
        record {
          shows = λ letter line round running inc full i e. elim (in-append letter _ w.sent i) [
            | inl new ↦ absurd (mute_not letter line round running inc full e (client_says setting w c what own.stamp may.1 letter new))
            | inr old ↦ shown_later v up refl letter line running (kept.shows letter line round running inc full old e)
          ];
          hand = λ n e.
              let b = kept.hand n e in
              let s = stays b.asked n b.is (boots_named b.asked.request n b.boots) b.fresh in
              record {
                asked = s.now;
                is = s.is;
                boots = subst (λ r. AsksToBoot r n) (sym s.request) b.boots;
                fresh = λ h. b.fresh (h ∙ ap Some s.line);
                fails = λ rests. subst Fails (sym s.line) (b.fails rests);
              };
          answers = λ number told i. elim (in_answers reacted.answer w.answers (number, told) i) [
            | inl now ↦ t.seen number told now
            | inr old ↦ kept.answers number told old
          ];
        }

    -- ### The record's step

    record_keeps : (who : Actor) (what : Step) → own.actor ≡ who → own.step ≡ what → MayActor who what setting w
        → Kept (step who what setting w own.stamp).world
    unfolding step
    record_keeps (actor.Server n) what who does may = server_keeps n what who does may.1
    record_keeps (actor.Client c) what who does may = client_keeps c what may

  kept_after : (prefix later : List Record) → records ≡ prefix ++ later → Kept (world_after setting (start setting) prefix)
      → Kept (world_after setting (start setting) records)
  kept_after prefix [] is kept = subst (λ done. Kept (world_after setting (start setting) done)) (sym (is ∙ append-nil prefix)) kept
  kept_after prefix (own ∷ later) is kept =
      let may = (prefix_legal setting (start setting) prefix (own ∷ later) (subst (AreSteps script) is legal)).1.0.may.may in
      kept_after (prefix ++ own ∷ []) later (is ∙ sym (append_assoc prefix (own ∷ []) later))
      (subst Kept (sym (world_more setting (start setting) prefix own)) (record_keeps prefix own later is kept own.actor own.step refl refl may))

  start_kept : Kept (start setting)
  unfolding In
  start_kept = record {
    shows = λ letter line round running inc full i e. absurd i;
    hand = λ n e. none_some refl e;
    answers = λ number given i. absurd i;
  }

  abbrev last : World
  last = world_after setting (start setting) records

  all_kept : Kept last
  all_kept = kept_after [] records refl start_kept

  pub fails_for_a_reason : (number : ℕ) → In (number, answer.Failed) last.answers → Fails number
  fails_for_a_reason number i = (all_kept.answers number answer.Failed i).fails refl

  pub was_glanced : (line : Line) (n : ℕ) (given : Answer) → In line lines → (names line.request).server ≡ Some n
      → In (line.number, given) last.answers → Glanced line n given
  was_glanced line n given there named i = (all_kept.answers line.number given i).glance line n there refl named

  -- a line that names a server, and for which a server was shown, is not glanced at again
  pub glanced_before : (line : Line) (m : ℕ) → In line lines → (names line.request).server ≡ Some m → (letter : Letter) (round : ℕ)
      (running : Bool) (inc : ℕ) (full : Bool) → In letter last.sent → letter.body ≡ body.Seen line.number round running inc full
      → (n later : ℕ) → MayGlance setting last n line.number later → ⊥
  glanced_before line m there named letter round running inc full i e n later (inr may) =
      let itself : may.own ≡ line =
      sound.numbered may.own line (line_at lines operator may.place may.own may.is).0 there may.line_is in
      none_some (ap (λ (x : Line). (names x.request).server) (sym itself) ∙ ap (λ q. (names q).server) may.request_is) named
  glanced_before line m there named letter round running inc full i e n later (inl may) =
      let s = all_kept.shows letter line.number round running inc full i e in
      let o = open_for script records sound legal operator may.asked may.opened.is in
      let newest = open_last script records sound legal operator may.asked may.opened.is in
      let at = o.seq_is in
      let place : s.place ≡ o.before =
      one_place lines rise operator s.place o.before s.line o.line s.is o.is (s.number_is ∙ sym may.line_is ∙ o.line_is) in
      let itself : o.line ≡ line =
      sound.numbered o.line line (line_at lines operator o.before o.line o.is).0 there (sym o.line_is ∙ may.line_is) in
      let at_line : s.line ≡ o.line = same_some (sym s.is ∙ ap (slice_get (lines_of lines operator)) place ∙ o.is) in
      let names_it = ap (λ (x : Line). (names x.request).server) (at_line ∙ itself) ∙ named in
      may.opened.first (s.last m names_it (omega arith) ∙ ap Some (sym may.line_is))
