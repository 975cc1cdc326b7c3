-- Each kind of step of a client keeps what is known of requests.
use Rattle.law_requests.proofs.Imports.{[], if◌then◌else◌, ◌++◌, ◌+◌, ◌-◌, ◌<◌, ◌∙◌, ◌∷◌, ◌≡◌, ◌≤◌, A_read, A_write, Actor, Anew, Answer, As_it_was, Asked}
use Rattle.law_requests.proofs.Imports.{Begins, Blanks_it, Body, Bool, By_verdict, By_witness, Cell, Client, Command, DiskView, Ending, Fails_it, Firm}
use Rattle.law_requests.proofs.Imports.{Goes_on, HasProperTuples, Has_no_space, Heard, In, IsCalled, IsJudged, IsPrefix, IsReason, IsSame, IsSeenAs}
use Rattle.law_requests.proofs.Imports.{Is_settled, Is_told, Judges, Letter, Line, List, None, Of_the_log, OnlySays, Option, Pattern, Post, Reaction, Reads}
use Rattle.law_requests.proofs.Imports.{Says, Setting, Shown, Sight, Some, Starts_it, State, StaysOpen, Stops_at, Stops_it, Turned, WasSent, World, ap}
use Rattle.law_requests.proofs.Imports.{append_assoc, arith, by_bool, cell_asked, chosen_log, command_of, ended, false, find, found_epoch, in_once, inl, inr}
use Rattle.law_requests.proofs.Imports.{is_in, is_lead, is_read, is_some, is_the_so, is_write, lead, length, line_by, lines_of, log_plain, log_rev, none_some}
use Rattle.law_requests.proofs.Imports.{pattern_block, prefix_itself, prefix_long, prefix_more, prefix_on, prefix_plain, prefix_within, put_same, refl}
use Rattle.law_requests.proofs.Imports.{refusal, same_or_apart, same_some, slice_get, some_or_none, state_after, subject_of, subst, sym, true, true_false}
use Rattle.law_requests.proofs.Imports.{was_open, write_refusal, ℕ}
use Rattle.law_requests.specs.AskedRequests.{HasItsWay, IsWrite, IsAsked, IsOpenFrom, WasToldAt}
use Rattle.law_requests.specs.KnownRequests.{Lives, Seen, seen, IsLate, Is_past, Had_no_lead, Had_another, IsSent, EndKnown, EndKnownAt, Known, AskingBy}
use Rattle.law_requests.proofs.WritesAtLaterPrefixes.{write_stays}
use Rattle.law_requests.proofs.RequestsKnownLater.{one_cell, logged_untold, untold}
use Rattle.law_requests.proofs.LeadsAtTwoPlaces.{led_stage}
use Rattle.law_requests.proofs.IncarnationsGoOn.{dones_rise, lives_still}
use Rattle.law_requests.proofs.OpenWhileRunning.{chosen_prefix}
use Rattle.law_requests.proofs.ClientStepsKeepRequests.{Closed, TurnOk, seen_with}
use Rattle.petal_msg.specs.declared.body.Body.TheVariants as body
use Rattle.petal_msg.specs.declared.letter.Actor.TheVariants as actor
use Rattle.petal_msg.specs.declared.operation.Ending.TheVariants as ending
use Rattle.script_lines.specs.declared.answer.Answer.TheVariants as answer
use Rattle.script_lines.specs.declared.request.Request.TheVariants as request
use Rattle.law_steps.specs.DidClient as turns

-- a write of a disk that is found is refused only where its cell has no lead
refused_unled : (state : State) (told : Bool) (name : List ℕ) (block : ℕ) (pattern : Pattern) (disk : DiskView) (given : Answer) → find state name ≡ Some disk
    → refusal state told (request.Write name block pattern) ≡ Some given → lead state (cell_asked state disk block false) ≡ None
unfolding refusal
refused_unled state told name block pattern disk given found refused = elim (some_or_none (lead state (cell_asked state disk block false))) [
  | inr none ↦ none
  | inl some ↦ none_some (ap (λ o. write_refusal state o block) found
      ∙ ap (λ (o : Option ℕ). if is_some o then None else Some answer.Unavailable) some.1) refused
]

counted : (n : ℕ) → (n + 1) - 1 ≡ n
counted n = omega arith

module _ (setting : Setting) (w : World) (lives : Lives) (firm : Firm setting w) (asking : AskingBy setting w lives) (c : ℕ) (within : c < 9)
    (sent_then : List Letter) (more_sent : (letter : Letter) → In letter w.sent → In letter sent_then) where
  abbrev lines : List Line
  lines = setting.lines

  abbrev client : Client
  client = w.clients c

  -- the client's entries only grow, and are plain
  abbrev IsFurther : Client → Type 0
  IsFurther to = IsPrefix client.applied to.applied × HasProperTuples setting.servers to.applied

  abbrev own_state : State
  own_state = state_after setting.servers client.applied

  abbrev T : Client → List Post → Type 0
  T to posts = TurnOk setting w lives (seen_with lives w sent_then c to) c to posts

  -- ### What a client sends for its open request

  module _ (to : Client) (onward : IsFurther to) where
    abbrev own : State
    own = state_after setting.servers to.applied

    abbrev after : Seen
    after = seen_with lives w sent_then c to

    now : after.clients c ≡ to
    now = put_same w.clients c to

    says_known : ((asked : Asked) → to.asked ≡ Some asked → IsAsked lines c to asked) → ((asked : Asked) → to.asked ≡ Some asked → HasItsWay w.sent c asked)
        → (from : Actor) (post : Post) → Says own c to.asked post → Known setting after from post.to (length to.applied) post.body
    says_known known ways from _ (Of_the_log post e) = untold setting after from post.to (length to.applied) post.body (logged_untold (subject_of post.body) e)
    says_known known ways from _ (A_write asked name block pattern disk who is asks found rev) =
        let a = known asked is in
        let write : IsWrite own lines c asked.seq (cell_asked own disk block false) (pattern_block pattern) = record {
          by_line = record { line = a.line; is = a.is; name = name; block = block; pattern = pattern; asks = sym a.asks ∙ asks };
          disk = disk;
          found = found;
          cell_is = refl;
          bytes_is = refl;
        } in
        let long : asked.rev ≡ length to.applied = rev ∙ log_rev setting.servers to.applied in
        let still : IsOpenFrom to asked.seq (length to.applied) =
        record { now = record { asked = asked; is = is; same = refl }; sent = omega arith } in
        record {
          sent = record {
            at = record {
              prefix = to.applied;
              lies = subst (λ (x : Client). IsPrefix to.applied x.applied) (sym now) (prefix_itself to.applied);
              long = refl;
            };
            served = write;
            epoch = found_epoch setting.servers own (log_plain setting.servers to.applied onward.1) name disk found block;
            old = subst (λ (x : Client). asked.seq ≤ x.seq) (sym now) (let last = a.last in omega arith);
          };
          still = inl (subst (λ (x : Client). IsOpenFrom x asked.seq (length to.applied)) (sym now) still);
        }
    says_known known ways from _ (A_read asked name snap block disk epoch who is asks found e rev) =
        let a = known asked is in
        let long : asked.rev ≡ length to.applied = rev ∙ log_rev setting.servers to.applied in
        record {
          at = record {
            prefix = to.applied;
            lies = subst (λ (x : Client). IsPrefix to.applied x.applied) (sym now) (prefix_itself to.applied);
            long = refl;
          };
          told = asked.old_way;
          why = λ old.
              let h = (ways asked is).old_way old in
              record { letter = h.letter; there = more_sent h.letter h.there; to = h.to; is = h.is; at = h.at ∙ long };
          read = record {
            by_line = record { line = a.line; is = a.is; name = name; snap = snap; block = block; asks = sym a.asks ∙ asks };
            disk = disk;
            found = found;
            cell_is = refl;
            epoch_is = e;
          };
        }

  -- what stays open is what was. A read may have been told in this step that the new map has nothing, by a letter of its latest send's revision
  same_known : (to : Client) → IsPrefix client.applied to.applied → (old new : Asked) → IsAsked lines c client old → IsSame (length to.applied) old new
      → to.seq ≡ client.seq → IsAsked lines c to new
  same_known to more old new a same seq =
      record {
        line = a.line;
        is = ap (line_by lines c) same.seq ∙ a.is;
        number = same.line ∙ a.number;
        asks = same.request ∙ a.asks;
        last = same.seq ∙ a.last ∙ sym seq;
        reached = reached same.sent;
        within = within;
      }
    where
      reached : WasSent (length to.applied) old new → new.rev ≤ length to.applied
      reached (As_it_was rev way) = let le = a.reached in let up = prefix_long client.applied to.applied more in omega arith
      reached (Anew rev way) = omega arith

  same_way : (rev : ℕ) (old new : Asked) → HasItsWay w.sent c old → IsSame rev old new → HasItsWay w.sent c new
  same_way rev old new h same = record {
    told = λ e.
        let k = h.told (sym same.told ∙ e) in
        (k.0, subst (λ (s : ℕ). WasToldAt w.sent c s k.0) (sym same.seq) k.1);
    old_way = by same.sent;
  }
    where
      by : WasSent rev old new → new.old_way ≡ true → WasToldAt w.sent c new.seq new.rev
      by (As_it_was at way) e = subst (λ (s : ℕ). WasToldAt w.sent c s new.rev) (sym same.seq)
          (subst (λ (r : ℕ). WasToldAt w.sent c old.seq r) (sym at) (h.old_way (sym way ∙ e)))
      by (Anew at way) e = true_false e way

  -- its latest send is no earlier
  stays_open : (to : Client) (seq rev : ℕ) (old : Asked) → old.seq ≡ seq → rev ≤ old.rev → rev ≤ length to.applied → (o : Option Asked) → to.asked ≡ o
      → StaysOpen (length to.applied) (Some old) o → IsOpenFrom to seq rev
  stays_open to seq rev old same le far None is stays = absurd stays
  stays_open to seq rev old same le far (Some new) is stays = record {
    now = record { asked = new; is = is; same = stays.seq ∙ same };
    sent = by stays.sent;
  }
    where
      by : WasSent (length to.applied) old new → rev ≤ new.rev
      by (As_it_was at way) = omega arith
      by (Anew at way) = omega arith

  -- what was open, perhaps with what it was told now, goes on
  goes_ok : (reacted : Reaction) → IsFurther reacted.client → reacted.client.seq ≡ client.seq → (open_then : Option Asked)
      → ((old : Asked) → open_then ≡ Some old → IsAsked lines c client old × HasItsWay w.sent c old)
      → ((seq rev : ℕ) → IsOpenFrom client seq rev → (old : Asked) × (open_then ≡ Some old) × (old.seq ≡ seq) × (rev ≤ old.rev))
      → StaysOpen (length reacted.client.applied) open_then reacted.client.asked → OnlySays setting.servers c reacted
      → T reacted.client reacted.posts
  goes_ok reacted onward seq open_then was same stays only =
      let to = reacted.client in
      let rev = length to.applied in
      let before : (asked : Asked) → to.asked ≡ Some asked → (old : Asked) × (open_then ≡ Some old) × IsSame rev old asked =
      λ asked is. was_open rev open_then asked (subst (StaysOpen rev open_then) is stays) in
      let known : (asked : Asked) → to.asked ≡ Some asked → IsAsked lines c to asked =
      λ asked is. let b = before asked is in same_known to onward.0 b.0 asked (was b.0 b.1).0 b.2 seq in
      let ways : (asked : Asked) → to.asked ≡ Some asked → HasItsWay w.sent c asked =
      λ asked is. let b = before asked is in same_way rev b.0 asked (was b.0 b.1).1 b.2 in
      let longer = prefix_long client.applied to.applied onward.0 in
      record {
        seqs = omega arith;
        asked = known;
        ways = ways;
        closes = λ s sent le h.
            let old = same s sent h in
            inl (stays_open to s sent old.0 old.2 old.3 (omega arith) to.asked refl (subst (λ o. StaysOpen rev o to.asked) old.1 stays));
        says = λ post i from. says_known to onward known ways from post (only.says post i);
      }

  -- as it was
  as_it_was : (asked : Asked) → client.asked ≡ Some asked → IsAsked lines c client asked × HasItsWay w.sent c asked
  as_it_was asked is = (asking.asked c asked is, asking.ways c asked is)

  open_was : (seq rev : ℕ) (h : IsOpenFrom client seq rev) → (old : Asked) × (client.asked ≡ Some old) × (old.seq ≡ seq) × (rev ≤ old.rev)
  open_was seq rev h = (h.now.asked, h.now.is, h.now.same, h.sent)

  -- or told now that the new map has nothing
  as_told : (asked : Asked) → client.asked ≡ Some asked → Heard w (actor.Client c) asked.rev (body.NotHere asked.seq) → (old : Asked)
      → Some (record asked { saw_missing = true; old_way = true }) ≡ Some old → IsAsked lines c client old × HasItsWay w.sent c old
  as_told asked is h old e =
      let a = asking.asked c asked is in
      let letter : WasToldAt w.sent c asked.seq asked.rev = record { letter = h.letter; there = h.sent; to = h.own; is = h.is; at = h.at } in
      let both : IsAsked lines c client (record asked { saw_missing = true; old_way = true })
      × HasItsWay w.sent c (record asked { saw_missing = true; old_way = true }) = (
        record { line = a.line; is = a.is; number = a.number; asks = a.asks; last = a.last; reached = a.reached; within = a.within },
        record { told = λ t. (asked.rev, letter); old_way = λ t. letter },
      ) in
      subst (λ (x : Asked). IsAsked lines c client x × HasItsWay w.sent c x) (same_some e) both

  told_was : (asked : Asked) → client.asked ≡ Some asked → (seq rev : ℕ) (h : IsOpenFrom client seq rev)
      → (old : Asked) × (Some (record asked { saw_missing = true; old_way = true }) ≡ Some old) × (old.seq ≡ seq) × (rev ≤ old.rev)
  told_was asked is seq rev h =
      let same : h.now.asked ≡ asked = same_some (sym h.now.is ∙ is) in (
        record asked { saw_missing = true; old_way = true },
        refl,
        ap (λ (x : Asked). x.seq) (sym same) ∙ h.now.same,
        subst (λ (x : Asked). rev ≤ x.rev) same h.sent,
      )

  -- nothing was open
  begins_ok : (reacted : Reaction) → IsFurther reacted.client → (line : Line) (asked : Asked)
      → line_by lines c (client.seq + 1) ≡ Some line → client.asked ≡ None → reacted.client.seq ≡ client.seq + 1 → reacted.client.asked ≡ Some asked
      → IsCalled line (client.seq + 1) (length client.applied) asked → OnlySays setting.servers c reacted → T reacted.client reacted.posts
  begins_ok reacted onward line asked is free seq there called only =
      let one : IsAsked lines c reacted.client asked = record {
        line = line;
        is = ap (line_by lines c) called.seq_is ∙ is;
        number = called.line_is;
        asks = called.request_is;
        last = called.seq_is ∙ sym seq;
        reached = let e = called.rev_is in let up = prefix_long client.applied reacted.client.applied onward.0 in omega arith;
        within = within;
      } in
      let known : (other : Asked) → reacted.client.asked ≡ Some other → IsAsked lines c reacted.client other =
      λ other e. subst (IsAsked lines c reacted.client) (same_some (sym there ∙ e)) one in
      let ways : (other : Asked) → reacted.client.asked ≡ Some other → HasItsWay w.sent c other =
      λ other e. subst (HasItsWay w.sent c) (same_some (sym there ∙ e))
      (record { told = λ t. true_false t called.untold; old_way = λ t. true_false t called.new_way }) in
      record {
        seqs = omega arith;
        asked = known;
        ways = ways;
        closes = λ s sent le h. none_some free h.now.is;
        says = λ post i from. says_known reacted.client onward known ways from post (only.says post i);
      }

  -- ### The open request is answered

  abbrev Closes : Client → Asked → Type 0
  Closes to asked = (rev : ℕ) → rev ≤ asked.rev → Closed setting w lives (seen_with lives w sent_then c to) c asked.seq rev

  answers_ok : (asked : Asked) → client.asked ≡ Some asked → (to : Client) → Closes to asked → to.seq ≡ client.seq → to.asked ≡ None → T to []
  unfolding In
  answers_ok asked is to closed last gone = record {
    seqs = omega arith;
    asked = λ other e. none_some gone e;
    ways = λ other e. none_some gone e;
    closes = λ s rev le h. inr (
        let same : h.now.asked ≡ asked = same_some (sym h.now.is ∙ is) in
        let before : rev ≤ asked.rev = subst (λ (x : Asked). rev ≤ x.rev) same h.sent in
        subst (λ (i : ℕ). Closed setting w lives (seen_with lives w sent_then c to) c i rev)
        (ap (λ (x : Asked). x.seq) (sym same) ∙ h.now.same) (closed rev before));
    says = λ post h. absurd h;
  }

  -- the open request is the one that its line asks for
  write_asked : (asked : Asked) → client.asked ≡ Some asked → (at : State) (cell : Cell) (bytes : List ℕ)
      → (write : IsWrite at lines c asked.seq cell bytes) → asked.request ≡ request.Write write.name write.block write.pattern
  write_asked asked is at cell bytes write =
      let a = asking.asked c asked is in a.asks ∙ ap (λ (l : Line). l.request) (same_some (sym a.is ∙ write.is)) ∙ write.asks

  -- one that is no write has sent none
  read_closed : (to : Client) (asked : Asked) → client.asked ≡ Some asked → is_read asked.request ≡ true → Closes to asked
  read_closed to asked is reads rev le cell epoch bytes sent =
      true_false reads (ap is_read (write_asked asked is (state_after setting.servers sent.at.prefix) cell bytes sent.served))

  seen_closed : (to : Client) (asked : Asked) → client.asked ≡ Some asked → (sight : Sight) (given : Answer)
      → IsSeenAs own_state asked sight given → Closes to asked
  seen_closed to asked is sight given shown rev le cell epoch bytes sent =
      true_false (ap is_write (write_asked asked is (state_after setting.servers sent.at.prefix) cell bytes sent.served)) (no_write shown)
    where
      no_write : IsSeenAs own_state asked sight given → is_write asked.request ≡ false
      no_write (Stops_it server so e) = ap is_write so
      no_write (Stops_at server at so e) = ap is_write so
      no_write (Fails_it server which kind at so e) = ap is_write so
      no_write (Starts_it server so e) = ap is_write so
      no_write (Blanks_it server so e) = ap is_write so
      no_write (Has_no_space so full e) = ap is_write so
      no_write (Is_settled so round seen all e) = ap is_write so

  -- an entry that answers a write finds its cell without a lead
  record HadNoLead (prefix applied : List Command) (cell : Cell) : Type 0 where
    log : List Command
    more : IsPrefix prefix log
    lies : IsPrefix log applied
    unled : lead (state_after setting.servers log) cell ≡ None

  judged_unled : (to : Client) → IsFurther to → (asked : Asked) (given : Answer)
      → client.asked ≡ Some asked → IsJudged setting.servers c client.applied to.applied asked given
      → (rev : ℕ) (cell : Cell) (epoch : ℕ) (bytes : List ℕ)
      → (sent : IsSent setting (seen lives w) (record { client = c; seq = asked.seq; cell = cell; epoch = epoch; bytes = bytes }) rev)
      → HadNoLead sent.at.prefix to.applied cell
  judged_unled to onward asked given is judged rev cell epoch bytes sent = by judged.reason
    where
      by : IsReason c asked given (state_after setting.servers (judged.prefix ++ judged.entry ∷ [])) judged.entry
          → HadNoLead sent.at.prefix to.applied cell
      by (By_verdict command its so) =
          none_some (ap (command_of c asked.seq) (write_asked asked is (state_after setting.servers sent.at.prefix) cell bytes sent.served)) its
      by (By_witness none witness so) =
          let served = sent.served in
          let log = judged.prefix ++ judged.entry ∷ [] in
          let lies : IsPrefix log to.applied =
          record { later = judged.rest; is = judged.lies ∙ sym (append_assoc judged.prefix (judged.entry ∷ []) judged.rest) } in
          let plain = prefix_plain setting.servers log to.applied onward.1 lies in
          let at = state_after setting.servers log in
          let before : IsPrefix sent.at.prefix log =
          prefix_on sent.at.prefix client.applied log sent.at.lies
          (prefix_on client.applied judged.prefix log judged.new (prefix_more judged.prefix judged.entry)) in
          record {
            log = log;
            more = before;
            lies = lies;
            unled = elim (some_or_none (lead at cell)) [
              | inr none ↦ none
              | inl led ↦ (
                  let stage = led_stage setting.servers log plain cell led.0 (is_the_so (lead at cell) led.0 led.1) in
                  let now = write_stays setting.servers sent.at.prefix log plain before lines c asked.seq cell bytes served stage.0 stage.1 in
                  let one : asked.request ≡ request.Write now.name now.block now.pattern = write_asked asked is at cell bytes now in
                  ap (lead at) now.cell_is
                  ∙ refused_unled at asked.saw_missing now.name now.block now.pattern now.disk given now.found
                  (ap (refusal at asked.saw_missing) {x = request.Write now.name now.block now.pattern} (sym one) ∙ so))
            ];
          }

  judged_closed : (to : Client) → IsFurther to → (asked : Asked) (given : Answer)
      → client.asked ≡ Some asked → IsJudged setting.servers c client.applied to.applied asked given → Closes to asked
  judged_closed to onward asked given is judged rev le cell epoch bytes sent n inc led =
      let h = judged_unled to onward asked given is judged rev cell epoch bytes sent in
      Had_no_lead h.log h.more (subst (λ (x : Client). IsPrefix h.log x.applied) (sym (put_same w.clients c to)) h.lies) h.unled

  -- by a reply: its sender is past the write as the incarnation that it was then, and led the write's cell as none but that one. A cell that has
  -- been left had no lead by then
  module _ (to : Client) (onward : IsFurther to) (asked : Asked) (is : client.asked ≡ Some asked) (server : ℕ)
      (end : EndKnown setting (seen lives w) c asked.seq server asked.rev) where
    abbrev end_state : State
    end_state = state_after setting.servers end.at.prefix

    end_chosen : IsPrefix end.at.prefix (chosen_log setting w)
    end_chosen = prefix_on end.at.prefix _ (chosen_log setting w) end.at.lies (firm.servers server)

    end_plain : HasProperTuples setting.servers end.at.prefix
    end_plain = prefix_plain setting.servers end.at.prefix _ firm.plain end_chosen

    end_known : IsPrefix end.at.prefix to.applied
    end_known =
        let long = end.at.long in
        let reached = (asking.asked c asked is).reached in
        prefix_on end.at.prefix client.applied to.applied
        (prefix_within end.at.prefix client.applied (chosen_log setting w) end_chosen (firm.clients c) (omega arith)) onward.0

    -- the sender led just this cell
    end_led : (cell : Cell) → end.cell ≡ cell → (prefix : List Command) → IsPrefix prefix end.at.prefix → (n inc : ℕ)
        → IsLate setting.servers (seen_with lives w sent_then c to) prefix c asked.seq cell n inc
    end_led cell same prefix before n inc =
        let end_leads : is_lead end_state server cell ≡ true =
        subst (λ (q : Cell). is_lead end_state server q ≡ true) same end.led.leads in
        elim (same_or_apart server n) [
          | inl e ↦ by_bool (is_in end_state n inc)
              (λ still.
              let seat : is_in end_state n end.inc ≡ true = subst (λ i. is_in end_state i end.inc ≡ true) e end.led.seated in
              let one_inc : end.inc ≡ inc = in_once end_state n end.inc inc seat still in
              let past : asked.seq < lives.done n inc c =
              subst (λ i. asked.seq < lives.done n i c) one_inc (subst (λ i. asked.seq < lives.done i end.inc c) e end.past) in
              let more = dones_rise lives w w asking.lived (lives_still lives w asking.lived) n inc c in
              Is_past (omega arith))
              (λ gone. Had_another end.at.prefix server before end.at.lies end_leads (λ same. gone))
          | inr ne ↦ Had_another end.at.prefix server before end.at.lies end_leads (λ same. absurd (ne same))
        ]

    end_closed : Closes to asked
    end_closed rev le cell epoch bytes sent n inc led =
        let one = sent.at.long in
        let two = end.at.long in
        let before : IsPrefix sent.at.prefix end.at.prefix =
        prefix_within sent.at.prefix end.at.prefix (chosen_log setting w) (chosen_prefix setting w firm c rev sent.at) end_chosen (omega arith) in
        elim (some_or_none (lead end_state cell)) [
          | inr none ↦ Had_no_lead end.at.prefix before
              (subst (λ (x : Client). IsPrefix end.at.prefix x.applied) (sym (put_same w.clients c to)) end_known) none
          | inl leader ↦ (
              let stage = led_stage setting.servers end.at.prefix end_plain cell leader.0 (is_the_so (lead end_state cell) leader.0 leader.1) in
              let now = write_stays setting.servers sent.at.prefix end.at.prefix end_plain before lines c asked.seq cell bytes sent.served stage.0 stage.1 in
              end_led cell (one_cell end_state lines c asked.seq end.cell cell end.bytes bytes end.write now) sent.at.prefix before n inc)
        ]

  known_end : (seq rev : ℕ) (from : Actor) → EndKnownAt setting (seen lives w) seq rev from (actor.Client c)
      → (server : ℕ) × EndKnown setting (seen lives w) c seq server rev
  known_end seq rev (actor.Server n) k = (n, k)
  known_end seq rev (actor.Client d) k = absurd k

  ended_known : (seq rev : ℕ) (how : Ending) → Heard w (actor.Client c) rev (ended seq how) → (server : ℕ) × EndKnown setting (seen lives w) c seq server rev
  ended_known seq rev how h =
      by how (subst (λ (b : Body). Known setting (seen lives w) h.letter.from (actor.Client c) rev b) h.is
      (subst (λ (r : ℕ). Known setting (seen lives w) h.letter.from (actor.Client c) r h.letter.body) h.at
      (subst (λ (a : Actor). Known setting (seen lives w) h.letter.from a h.letter.rev h.letter.body) h.own (asking.letters h.letter h.sent))))
    where
      by : (how : Ending) → Known setting (seen lives w) h.letter.from (actor.Client c) rev (ended seq how)
          → (server : ℕ) × EndKnown setting (seen lives w) c seq server rev
      by ending.Written k = known_end seq rev h.letter.from k
      by ending.Full k = known_end seq rev h.letter.from k

  pub turn_ok : (in_call : Bool) (reacted : Reaction) → IsFurther reacted.client
      → Turned (Heard w (actor.Client c)) setting.servers lines c client in_call reacted → T reacted.client reacted.posts
  turn_ok _ _ onward (Goes_on reacted seq stays only) = goes_ok reacted onward seq client.asked as_it_was open_was stays only
  turn_ok _ _ onward (Is_told reacted asked h is reads seq stays only) =
      goes_ok reacted onward seq _ (as_told asked is h) (told_was asked is) stays only
  turn_ok _ _ onward (Begins reacted line asked is free seq there called only) =
      begins_ok reacted onward line asked (ap (slice_get (lines_of lines c)) (counted client.seq) ∙ is) free seq there called only
  turn_ok _ _ onward (Reads asked bytes h is reads) = answers_ok asked is _ (read_closed _ asked is reads) refl refl
  turn_ok _ _ onward (turns.Ends asked how h is writes) =
      let end = ended_known asked.seq asked.rev how h in answers_ok asked is _ (end_closed _ onward asked is end.0 end.1) refl refl
  turn_ok _ _ onward (Shown asked rev sight given h is shown) = answers_ok asked is _ (seen_closed _ asked is sight given shown) refl refl
  turn_ok _ _ onward (Judges after asked given is gone seq judged) =
      answers_ok asked is after (judged_closed after onward asked given is judged) seq gone
