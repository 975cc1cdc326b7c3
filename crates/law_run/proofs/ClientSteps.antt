-- What the machine is told of a client's step is allowed, and keeps it tied to the world.
use Rattle.law_run.proofs.Imports.{[], if◌then◌else◌, ◌++◌, ◌+◌, ◌<◌, ◌∙◌, ◌∷◌, ◌≡◌, ◌⊎◌, Answer, Asked, Begin, Begins, Blanks_it, Bool, By_verdict}
use Rattle.law_run.proofs.Imports.{By_witness, Client, Command, DiskView, End, Ending, Event, Fails_it, Goes_on, Has_no_space, Heard, IsCalled, IsJudged}
use Rattle.law_run.proofs.Imports.{IsOpen, IsReason, IsSeenAs, IsUnderWay, Is_settled, Is_told, Judges, Line, List, May, MayEnd, None, Obeys, OnlySays, Open}
use Rattle.law_run.proofs.Imports.{Option, Reaction, Reads, Request, Shown, Sight, Some, Starts_it, State, StaysOpen, Stops_at, Stops_it, World, Write}
use Rattle.law_run.proofs.Imports.{WriteEnd, after, answer_of, answers, ap, arith, begun, by_bool, cell_asked, change_by, command_of, end_by, end_of, ended}
use Rattle.law_run.proofs.Imports.{events_with, false, find, flat_map, freezes, inl, inr, is_read, is_some, is_write, length, makes, next_line, none_some}
use Rattle.law_run.proofs.Imports.{open_of, open_write, put_same, reacts, refl, refusal, replay, same_some, subst, sym, takes, true, write_asked, write_by}
use Rattle.law_run.proofs.Imports.{write_refusal, ℕ}
use Rattle.spec_rules.specs.State.{lead}
use Rattle.law_steps.specs.DidClient.{Ends}
use Rattle.law_run.specs.WritesGoOn.{held_in, is_held, Seat}
use Rattle.law_run.specs.MachineTies.{Follow}
use Rattle.law_run.proofs.ChosenDisks.{rows_in}
use Rattle.law_run.proofs.Machine.{disks_after, after_mindful, begin_seat, begin_others, end_seat, end_others}
use Rattle.law_run.proofs.ContentChanges.{open_own}
use Rattle.law_run.proofs.ClientFrames.{ClientStep, TurnFollow, Turn, after_turn, no_looks, unwritten, nothing_taken, nothing_made, nothing_frozen}
use Rattle.law_run.proofs.ClientFrames.{turn_follow, look_here}
use Rattle.spec_machine.specs.declared.event.WriteEnd.TheVariants as write_end
use Rattle.petal_msg.specs.declared.body.Body.TheVariants as body
use Rattle.petal_msg.specs.declared.letter.Actor.TheVariants as actor
use Rattle.petal_msg.specs.declared.operation.Ending.TheVariants as ending
use Rattle.script_lines.specs.declared.answer.Answer.TheVariants as answer
use Rattle.script_lines.specs.declared.request.Request.TheVariants as request
use Rattle.spec_history.specs.Events as events

-- how a write ends that a reply ends so
abbrev ends_as : Ending → WriteEnd
ends_as ending.Written = write_end.Ok
ends_as ending.Full = write_end.NoSpace

ends_so : (how : Ending) → end_of (answer_of how) ≡ Some (ends_as how)
ends_so ending.Written = refl
ends_so ending.Full = refl

-- no write of this request
not_write : (c seq : ℕ) (asked : Request) → is_read asked ≡ true → write_by c seq asked ≡ None
not_write c seq (request.Write name block pattern) e = let f : false ≡ true = e in absurd cc
not_write c seq _ e = refl

seen_no_write : (state : State) (c seq : ℕ) (asked : Asked) (sight : Sight) (given : Answer) → IsSeenAs state asked sight given
    → write_by c seq asked.request ≡ None
seen_no_write state c seq asked sight given (Stops_it server is gives) = ap (write_by c seq) is
seen_no_write state c seq asked sight given (Stops_at server at is gives) = ap (write_by c seq) is
seen_no_write state c seq asked sight given (Fails_it server which kind at is gives) = ap (write_by c seq) is
seen_no_write state c seq asked sight given (Starts_it server is gives) = ap (write_by c seq) is
seen_no_write state c seq asked sight given (Blanks_it server is gives) = ap (write_by c seq) is
seen_no_write state c seq asked sight given (Has_no_space is full gives) = ap (write_by c seq) is
seen_no_write state c seq asked sight given (Is_settled is round all settled gives) = ap (write_by c seq) is

a_write : (c seq : ℕ) (asked : Request) → is_write asked ≡ true → (write : Write) × (write_by c seq asked ≡ Some write)
a_write c seq (request.Write name block pattern) e = (_, refl)
a_write c seq _ e = let f : false ≡ true = e in absurd cc

-- the beginning of a write, in a call
abbrev pub begins_by : ℕ → Bool → World → List Event
begins_by c true next = begun (open_write next c)
begins_by c false next = []

-- a request that stays open is of the same write
stays_write : (rev c : ℕ) (old new : Option Asked) → StaysOpen rev old new → write_asked c new ≡ write_asked c old
stays_write rev c None None s = refl
stays_write rev c (Some old) (Some new) s = λ i. write_by c (s.seq i) (s.request i)
stays_write rev c None (Some new) s = absurd s
stays_write rev c (Some old) None s = absurd s

stays_back : (rev : ℕ) (old new : Client) (seq : ℕ) → StaysOpen rev old.asked new.asked → IsOpen new seq → IsOpen old seq
stays_back rev old new seq stays h = by old.asked new.asked refl refl stays
  where
    by : (o n : Option Asked) → old.asked ≡ o → new.asked ≡ n → StaysOpen rev o n → IsOpen old seq
    by None None e f s = none_some f h.is
    by (Some one) (Some two) e f s =
        record { asked = one; is = e; same = sym s.seq ∙ ap (λ (a : Asked). a.seq) (same_some (sym f ∙ h.is)) ∙ h.same }
    by None (Some two) e f s = absurd s
    by (Some one) None e f s = absurd s

-- the write may end as it is answered
record EndsSo (opened : List Open) (write : Write) (given : Answer) : Type 0 where
  how : WriteEnd
  is : end_of given ≡ Some how
  may : MayEnd opened write how

-- a write that can't be served ends otherwise than as written
refused_end : (state : State) (o : Option DiskView) (block : ℕ) (given : Answer) (opened : List Open) (write : Write) → write_refusal state o block ≡ Some given
    → IsUnderWay opened write → EndsSo opened write given
refused_end state None block given opened write e under_way =
    subst (EndsSo opened write) (same_some e) (record { how = write_end.NoDisk; is = refl; may = under_way })
refused_end state (Some disk) block given opened write e under_way = by_bool (is_some (lead state (cell_asked state disk block false)))
    (λ t. none_some (ap (λ b. if b then None else Some answer.Unavailable) t) e)
    (λ f. subst (EndsSo opened write) (same_some (sym (ap (λ b. if b then None else Some answer.Unavailable) f) ∙ e))
    (record { how = write_end.Unavailable; is = refl; may = under_way }))

judged_end : (c seq : ℕ) (told : Bool) (asked : Request) (write : Write) (given : Answer) (state : State) (opened : List Open)
    → write_by c seq asked ≡ Some write
    → refusal state told asked ≡ Some given → IsUnderWay opened write → EndsSo opened write given
unfolding refusal
judged_end c seq told (request.Write name block pattern) write given state opened is e under_way =
    refused_end state (find state name) block given opened write e under_way
judged_end c seq told _ write given state opened is e under_way = none_some refl is

-- a write has no command of its own
no_command : (c seq : ℕ) (asked : Request) (write : Write) → write_by c seq asked ≡ Some write → command_of c seq asked ≡ None
no_command c seq (request.Write name block pattern) write e = refl
no_command c seq _ write e = none_some refl e

module _ (this : ClientStep) where
  abbrev client : Client
  client = this.w.clients this.c

  abbrev lines : List Line
  lines = this.setting.lines

  -- what is told of a client's step
  pub record ClientTold (in_call : Bool) (reacted : Reaction) : Type 0 where
    pub es : List Event
    pub is : events_with (begins_by this.c in_call (after_turn this reacted)) (takes (change_by this.setting this.w (after_turn this reacted)))
        (makes (change_by this.setting this.w (after_turn this reacted)) ++ freezes (change_by this.setting this.w (after_turn this reacted))
        ++ flat_map (look_here this reacted) (reacts this.w this.c this.stamp reacted).letters)
        (events.ended (open_write this.w this.c) reacted.answer) ≡ Some es
    pub may : Obeys this.m es
    pub follows : Follow this.setting (rows_in this.setting this.w) (after_turn this reacted) (replay this.m es)

  ended_none : (o : Option Write) → events.ended o None ≡ Some []
  ended_none None = refl
  ended_none (Some write) = refl

  -- nothing is told
  silent : (in_call : Bool) (reacted : Reaction) → Turn this in_call reacted
      → begins_by this.c in_call (after_turn this reacted) ≡ []
      → events.ended (open_write this.w this.c) reacted.answer ≡ Some [] → TurnFollow this.w this.m this.m this.c reacted.client → ClientTold in_call reacted
  silent in_call reacted turned begins ends turn = record {
    es = [];
    is = (λ i. events_with (begins i) (nothing_taken this reacted i)
        (nothing_made this reacted i ++ nothing_frozen this reacted i ++ no_looks this in_call reacted turned i) (ends i));
    may = tt;
    follows = turn_follow this this.m reacted turn (unwritten this in_call reacted turned);
  }

  quiet_turn : (to : Client) → Seat (write_asked this.c to.asked) (open_of this.m.opened this.c)
      → ((seq : ℕ) → IsOpen to seq → (IsOpen client seq × (is_held this.m this.c ≡ true → is_held this.m this.c ≡ true)) ⊎ (client.seq < seq))
      → TurnFollow this.w this.m this.m this.c to
  quiet_turn to seat helds = record { disks = refl; mindful = this.follow.stores.mindful; others = λ j ne. refl; seat = seat; helds = helds }

  unanswered : (reacted : Reaction) → OnlySays this.setting.servers this.c reacted → events.ended (open_write this.w this.c) reacted.answer ≡ Some []
  unanswered reacted only = ap (events.ended (open_write this.w this.c)) only.unanswered ∙ ended_none (open_write this.w this.c)

  goes_on_told : (reacted : Reaction) (seq : reacted.client.seq ≡ client.seq)
      (stays : StaysOpen (length reacted.client.applied) client.asked reacted.client.asked)
      (only : OnlySays this.setting.servers this.c reacted) → ClientTold false reacted
  goes_on_told reacted seq stays only =
      silent false reacted (Goes_on reacted seq stays only) refl (unanswered reacted only)
      (quiet_turn reacted.client
      (subst (λ o. Seat o (open_of this.m.opened this.c))
      (sym (stays_write (length reacted.client.applied) this.c client.asked reacted.client.asked stays)) (this.follow.seats this.c))
      (λ seq h. inl (stays_back (length reacted.client.applied) client reacted.client seq stays h, λ t. t)))

  -- a read that was told that the new map has nothing stays open
  told_told : (reacted : Reaction) (asked : Asked) (h : Heard this.w (actor.Client this.c) asked.rev (body.NotHere asked.seq))
      (is : client.asked ≡ Some asked) (reads : is_read asked.request ≡ true) (seq : reacted.client.seq ≡ client.seq)
      (stays : StaysOpen (length reacted.client.applied) (Some (record asked { saw_missing = true; old_way = true })) reacted.client.asked)
      (only : OnlySays this.setting.servers this.c reacted) → ClientTold false reacted
  told_told reacted asked h is reads seq stays only =
      let turned : Asked = record asked { saw_missing = true; old_way = true } in
      let rev = length reacted.client.applied in
      silent false reacted (Is_told reacted asked h is reads seq stays only) refl (unanswered reacted only)
      (quiet_turn reacted.client
      (subst (λ o. Seat o (open_of this.m.opened this.c))
      (ap (write_asked this.c) is ∙ sym (stays_write rev this.c (Some turned) reacted.client.asked stays)) (this.follow.seats this.c))
      (λ number o.
      let b = stays_back rev (record client { asked = Some turned }) reacted.client number stays o in
      inl (record { asked = asked; is = is; same = ap (λ (a : Asked). a.seq) (same_some b.is) ∙ b.same }, λ t. t)))

  -- nothing was open
  no_write : client.asked ≡ None → open_write this.w this.c ≡ None
  no_write free = ap (write_asked this.c) free

  empty_seat : open_write this.w this.c ≡ None → open_of this.m.opened this.c ≡ None
  empty_seat none = subst (λ o. Seat o (open_of this.m.opened this.c)) none (this.follow.seats this.c)

  open_now : (reacted : Reaction) → open_write (after_turn this reacted) this.c ≡ write_asked this.c reacted.client.asked
  open_now reacted = ap (λ (x : Client). write_asked this.c x.asked) (put_same this.w.clients this.c reacted.client)

  begins_told : (reacted : Reaction) (line : Line) (asked : Asked) (is : next_line lines this.c client ≡ Some line) (free : client.asked ≡ None)
      (seq : reacted.client.seq ≡ client.seq + 1) (there : reacted.client.asked ≡ Some asked)
      (called : IsCalled line (client.seq + 1) (length client.applied) asked)
      (only : OnlySays this.setting.servers this.c reacted) → ClientTold true reacted
  begins_told reacted line asked is free seq there called only = by (write_by this.c (client.seq + 1) line.request) refl
    where
      turned : Turn this true reacted
      turned = Begins reacted line asked is free seq there called only

      asked_is : write_asked this.c reacted.client.asked ≡ write_by this.c (client.seq + 1) line.request
      asked_is = ap (write_asked this.c) there ∙ (λ i. write_by this.c (called.seq_is i) (called.request_is i))

      newer : (number : ℕ) → IsOpen reacted.client number → client.seq < number
      newer number h =
          let f : client.seq + 1 ≡ number = sym called.seq_is ∙ ap (λ (a : Asked). a.seq) (same_some (sym there ∙ h.is)) ∙ h.same in omega arith

      by : (o : Option Write) → write_by this.c (client.seq + 1) line.request ≡ o → ClientTold true reacted
      by None e = silent true reacted turned (ap begun (open_now reacted ∙ asked_is ∙ e)) (unanswered reacted only)
          (quiet_turn reacted.client
          (subst (λ o. Seat o (open_of this.m.opened this.c)) (sym (asked_is ∙ e)) (empty_seat (no_write free)))
          (λ number h. inr (newer number h)))
      by (Some write) e =
          let own : write.client ≡ this.c = open_own (after_turn this reacted) this.c write (open_now reacted ∙ asked_is ∙ e) in
          let none : open_of this.m.opened write.client ≡ None = ap (open_of this.m.opened) own ∙ empty_seat (no_write free) in
          let k = after this.m (Begin write) in
          record {
            es = Begin write ∷ [];
            is = (λ i. events_with (begun ((open_now reacted ∙ asked_is ∙ e) i)) (nothing_taken this reacted i)
                (nothing_made this reacted i ++ nothing_frozen this reacted i ++ no_looks this true reacted turned i) (unanswered reacted only i));
            may = (none, tt);
            follows = turn_follow this k reacted (record {
              disks = disks_after this.m (Begin write);
              mindful = after_mindful this.m (Begin write);
              others = λ j ne. begin_others this.m write j this.follow.stores.mindful (λ f. ne (f ∙ own));
              seat = subst (λ o. Seat o (open_of k.opened this.c)) (sym (asked_is ∙ e))
                  (subst (λ i. Seat (Some write) (open_of k.opened i)) own (begin_seat this.m write none));
              helds = λ number h. inr (newer number h);
            }) (unwritten this true reacted turned);
          }

  -- the open request was no write, and is gone
  gone_told : (reacted : Reaction) → Turn this false reacted → open_write this.w this.c ≡ None → reacted.client.asked ≡ None → ClientTold false reacted
  gone_told reacted turned none gone =
      silent false reacted turned refl (ap (λ o. events.ended o reacted.answer) none)
      (quiet_turn reacted.client (subst (λ o. Seat (write_asked this.c o) (open_of this.m.opened this.c)) (sym gone) (empty_seat none))
      (λ number o. none_some gone o.is))

  -- it was a write, which ends
  write_told : (reacted : Reaction) → Turn this false reacted → (write : Write) → open_write this.w this.c ≡ Some write → reacted.client.asked ≡ None
      → (how : WriteEnd) → events.ended (Some write) reacted.answer ≡ Some (End write how ∷ []) → May this.m (End write how) → ClientTold false reacted
  write_told reacted turned write there gone how is may =
      let own : write.client ≡ this.c = open_own this.w this.c write there in
      let event = End write how in
      let k = after this.m event in
      record {
        es = event ∷ [];
        is = (λ i. events_with [] (nothing_taken this reacted i)
            (nothing_made this reacted i ++ nothing_frozen this reacted i ++ no_looks this false reacted turned i)
            ((ap (λ o. events.ended o reacted.answer) there ∙ is) i));
        may = (may, tt);
        follows = turn_follow this k reacted (record {
          disks = disks_after this.m event;
          mindful = after_mindful this.m event;
          others = λ j ne. end_others this.m write how j this.follow.stores.mindful (λ f. ne (f ∙ own));
          seat = subst (λ o. Seat (write_asked this.c o) (open_of k.opened this.c)) (sym gone)
              (subst (λ i. open_of k.opened i ≡ None) own (end_seat this.m write how));
          helds = λ number o. none_some gone o.is;
        }) (unwritten this false reacted turned);
      }

  -- a write ends as its reply says
  may_end : (write : Write) (how : Ending) (asked : Asked) → write.client ≡ this.c → open_write this.w this.c ≡ Some write → client.asked ≡ Some asked
      → Heard this.w (actor.Client this.c) asked.rev (ended asked.seq how) → May this.m (End write (ends_as how))
  may_end write ending.Written asked own is there h =
      let seat : Seat (Some write) (open_of this.m.opened this.c) = subst (λ o. Seat o (open_of this.m.opened this.c)) is (this.follow.seats this.c) in
      let held : is_held this.m this.c ≡ true =
      this.follow.letters h.letter this.c asked.seq h.sent h.own h.is (record { asked = asked; is = there; same = refl }) in
      ap (open_of this.m.opened) own ∙ seat.1 ∙ (λ i. Some (record { write = write; held = (sym (ap held_in seat.1) ∙ held) i }))
  may_end write ending.Full asked own is there h =
      let seat : Seat (Some write) (open_of this.m.opened this.c) = subst (λ o. Seat o (open_of this.m.opened this.c)) is (this.follow.seats this.c) in
      record { held = seat.0; is = ap (open_of this.m.opened) own ∙ seat.1 }

  ends_told : (asked : Asked) (how : Ending) (h : Heard this.w (actor.Client this.c) asked.rev (ended asked.seq how)) (is : client.asked ≡ Some asked)
      (writes : is_write asked.request ≡ true)
      → ClientTold false (answers client asked (answer_of how))
  ends_told asked how h is writes =
      let wr = a_write this.c asked.seq asked.request writes in
      let there : open_write this.w this.c ≡ Some wr.0 = ap (write_asked this.c) is ∙ wr.1 in
      write_told _ (Ends asked how h is writes) wr.0 there refl (ends_as how) (ap (end_by wr.0) (ends_so how))
      (may_end wr.0 how asked (open_own this.w this.c wr.0 there) there is h)

  -- an entry of the log answers: a write ends as one that could not be served
  judges_told : (later : Client) (asked : Asked) (given : Answer) (is : client.asked ≡ Some asked) (gone : later.asked ≡ None) (seq : later.seq ≡ client.seq)
      (judged : IsJudged this.setting.servers this.c client.applied later.applied asked given)
      → ClientTold false (record { client = later; posts = []; answer = Some (asked.line, given) })
  judges_told later asked given is gone seq judged = by (write_by this.c asked.seq asked.request) refl
    where
      turned : Turn this false (record { client = later; posts = []; answer = Some (asked.line, given) })
      turned = Judges later asked given is gone seq judged

      may_so : (write : Write) → write_by this.c asked.seq asked.request ≡ Some write → IsUnderWay this.m.opened write
          → (state : State) (entry : Command) → IsReason this.c asked given state entry
          → EndsSo this.m.opened write given
      may_so write e under_way state entry (By_verdict command own verdict) = none_some (no_command this.c asked.seq asked.request write e) own
      may_so write e under_way state entry (By_witness none own refused) =
          judged_end this.c asked.seq asked.saw_missing asked.request write given state this.m.opened e refused under_way

      by : (o : Option Write) → write_by this.c asked.seq asked.request ≡ o
          → ClientTold false (record { client = later; posts = []; answer = Some (asked.line, given) })
      by None e = gone_told _ turned (ap (write_asked this.c) is ∙ e) gone
      by (Some write) e =
          let there : open_write this.w this.c ≡ Some write = ap (write_asked this.c) is ∙ e in
          let seat : Seat (Some write) (open_of this.m.opened this.c) = subst (λ o. Seat o (open_of this.m.opened this.c)) there (this.follow.seats this.c) in
          let own : write.client ≡ this.c = open_own this.w this.c write there in
          let under_way : IsUnderWay this.m.opened write = record { held = seat.0; is = ap (open_of this.m.opened) own ∙ seat.1 } in
          let so = may_so write e under_way _ _ judged.reason in
          write_told _ turned write there gone so.how (ap (end_by write) so.is) so.may

  pub turn_told : (in_call : Bool) (reacted : Reaction) → Turn this in_call reacted
      → ClientTold in_call reacted
  turn_told _ _ (Goes_on reacted seq stays only) = goes_on_told reacted seq stays only
  turn_told _ _ (Is_told reacted asked h is reads seq stays only) = told_told reacted asked h is reads seq stays only
  turn_told _ _ (Begins reacted line asked is free seq there called only) = begins_told reacted line asked is free seq there called only
  turn_told _ _ (Reads asked bytes h is reads) =
      gone_told _ (Reads asked bytes h is reads) (ap (write_asked this.c) is ∙ not_write this.c asked.seq asked.request reads) refl
  turn_told _ _ (Ends asked how h is writes) = ends_told asked how h is writes
  turn_told _ _ (Shown asked rev sight given h is shown) =
      gone_told _ (Shown asked rev sight given h is shown) (ap (write_asked this.c) is ∙ seen_no_write _ this.c asked.seq asked sight given shown) refl
  turn_told _ _ (Judges later asked given is gone seq judged) = judges_told later asked given is gone seq judged
