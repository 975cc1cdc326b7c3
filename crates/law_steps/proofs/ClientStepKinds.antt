-- Each step of a client is one of the kinds that the relation names.
use Rattle.law_steps.proofs.Imports.{[], if◌then◌else◌, ◌&&◌, ◌++◌, ◌+◌, ◌==◌, ◌∙◌, ◌∷◌, ◌≡◌, Actor, Answer, Asked, Body, Bool, Call, Client, Command}
use Rattle.law_steps.proofs.Imports.{Deliver, DiskView, In, IsPrefix, Learning, Letter, Line, List, MayClient, None, Option, Pattern, Post, Reaction, Request}
use Rattle.law_steps.proofs.Imports.{Setting, Sight, Some, State, Step, Tick, World, about, after, answered_where, answers, ap, append_assoc, asking}
use Rattle.law_steps.proofs.Imports.{asks_and_sends, both_true, by_bool, by_test, called, calls, cell_asked, client_state, client_step, command_of, epoch_for}
use Rattle.law_steps.proofs.Imports.{false, find, fold-append, goes_out, goes_out_where, goes_the_old_way, heard, hears, hears_any, hears_of, in-append, inl}
use Rattle.law_steps.proofs.Imports.{inr, is_read, is_settled, is_some, is_witness, is_write, judged, judged_by, latest, length, line_in, log_rev, map}
use Rattle.law_steps.proofs.Imports.{nat_le, newly_asked, next_entries, next_line, not, only, pattern_block, post_in_turn, post_to, posts_for, prefix_itself}
use Rattle.law_steps.proofs.Imports.{prefix_more, prefix_on, prefix_same, read_posts, read_posts_at, refl, refusal, replies, rests, rounds, same_numbers}
use Rattle.law_steps.proofs.Imports.{sees, sees_for, sees_from, sends_or_proposes, servers_of, settles, state_after, stays_open, subst, sym, takes_all}
use Rattle.law_steps.proofs.Imports.{takes_entries, takes_entry, then_goes_out, ticked, to_propose, true, verdict_for, was_true, way_now, with_sight}
use Rattle.law_steps.proofs.Imports.{witnessed, write_posts, ℕ}
use Rattle.law_steps.specs.DidStep.{Heard}
use Rattle.law_steps.specs.DidClient.{Turned, Says, Of_the_log, A_write, A_read, OnlySays, IsSame, WasSent, As_it_was, Anew, StaysOpen, IsReason, By_verdict}
use Rattle.law_steps.specs.DidClient.{By_witness, IsJudged, Stops_it, Stops_at, Fails_it, Starts_it, Blanks_it, Has_no_space, Is_settled, Goes_on, Is_told}
use Rattle.law_steps.specs.DidClient.{Begins, Reads, Ends, Shown, Judges}
use Rattle.petal_msg.specs.declared.body.Body.TheVariants as body
use Rattle.petal_msg.specs.declared.letter.Actor.TheVariants as actor
use Rattle.petal_msg.specs.declared.operation.Ending.TheVariants as ending
use Rattle.script_lines.specs.declared.answer.Answer.TheVariants as answer
use Rattle.script_lines.specs.declared.request.Request.TheVariants as request
use Rattle.spec_state.specs.State as states

-- a client's step is made in a call, or else
abbrev pub is_call : Step → Bool
is_call what = is_some (line_in what)

-- ### What stays open

same_itself : (rev : ℕ) (asked : Asked) → IsSame rev asked asked
same_itself rev asked = record { line = refl; seq = refl; request = refl; told = refl; sent = As_it_was refl refl }

sent_on : (rev : ℕ) (a b c : Asked) → WasSent rev a b → WasSent rev b c → WasSent rev a c
sent_on rev a b c one (Anew at way) = Anew at way
sent_on rev a b c (As_it_was at way) (As_it_was same_rev same_way) = As_it_was (same_rev ∙ at) (same_way ∙ way)
sent_on rev a b c (Anew at way) (As_it_was same_rev same_way) = Anew (same_rev ∙ at) (same_way ∙ way)

-- it is so too of one that differs in other things
sent_as : (rev : ℕ) (old new other : Asked) → other.rev ≡ new.rev → other.old_way ≡ new.old_way → WasSent rev old new → WasSent rev old other
sent_as rev old new other same_rev same_way sent = sent_on rev old new other sent (As_it_was same_rev same_way)

-- one that has not gone the old way does not do so when it is sent
still_new : (rev : ℕ) (old new : Asked) → old.old_way ≡ false → WasSent rev old new → new.old_way ≡ false
still_new rev old new e (As_it_was at way) = way ∙ e
still_new rev old new e (Anew at way) = way

-- one that was open from a revision on is sent at it
sent_rev : (rev : ℕ) (old new : Asked) → old.rev ≡ rev → WasSent rev old new → new.rev ≡ rev
sent_rev rev old new e (As_it_was at way) = at ∙ e
sent_rev rev old new e (Anew at way) = at

and_true : (a b : Bool) → b ≡ true → (a && b) ≡ a
and_true true b e = e
and_true false b e = refl

and_false : (a b : Bool) → b ≡ false → (a && b) ≡ false
and_false true b e = e
and_false false b e = refl

-- how it is sent at a state
way_sent : (state : State) (asked : Asked) → WasSent state.rev asked (record asked { turn = asked.turn + 1; rev = state.rev; old_way = way_now state asked })
way_sent state asked = by_bool (asked.rev == state.rev)
    (λ same. As_it_was (sym (same_numbers asked.rev state.rev same)) (and_true asked.old_way (asked.rev == state.rev) same))
    (λ apart. Anew refl (and_false asked.old_way (asked.rev == state.rev) apart))

same_on : (rev : ℕ) (a b c : Asked) → IsSame rev a b → IsSame rev b c → IsSame rev a c
same_on rev a b c one two = record {
  line = two.line ∙ one.line;
  seq = two.seq ∙ one.seq;
  request = two.request ∙ one.request;
  told = two.told ∙ one.told;
  sent = sent_on rev a b c one.sent two.sent;
}

stays_itself : (rev : ℕ) (o : Option Asked) → StaysOpen rev o o
stays_itself rev None = tt
stays_itself rev (Some asked) = same_itself rev asked

stays_on : (rev : ℕ) (a b c : Option Asked) → StaysOpen rev a b → StaysOpen rev b c → StaysOpen rev a c
stays_on rev None None None one two = tt
stays_on rev None None (Some c) one two = absurd two
stays_on rev None (Some b) c one two = absurd one
stays_on rev (Some a) None c one two = absurd one
stays_on rev (Some a) (Some b) None one two = absurd two
stays_on rev (Some a) (Some b) (Some c) one two = same_on rev a b c one two

still_open : (rev : ℕ) (old : Asked) (o : Option Asked) → StaysOpen rev (Some old) o → (now : Asked) × (o ≡ Some now) × IsSame rev old now
still_open rev old None h = absurd h
still_open rev old (Some now) h = (now, refl, h)

pub was_open : (rev : ℕ) (o : Option Asked) (now : Asked) → StaysOpen rev o (Some now) → (old : Asked) × (o ≡ Some old) × IsSame rev old now
was_open rev None now h = absurd h
was_open rev (Some old) now h = (old, refl, h)

-- ### What is sent

module _ (state : State) (c : ℕ) where
  post_says : (open_now : Option Asked) (o : Option ℕ) (said : Body) (post : Post)
      → ((to : ℕ) → Says state c open_now (record { to = actor.Server to; body = said })) → In post (post_to o said) → Says state c open_now post
  unfolding In
  post_says open_now None said post h i = absurd i
  post_says open_now (Some to) said post h i = only (Says state c open_now) _ post i (h to)

  module _ (open_now : Option Asked) (asked : Asked) (is : open_now ≡ Some asked) where
    write_says : asked.rev ≡ state.rev → (name : List ℕ) (block : ℕ) (pattern : Pattern) → asked.request ≡ request.Write name block pattern
        → (o : Option DiskView) → find state name ≡ o → (post : Post) → In post (write_posts state o c asked.seq block (pattern_block pattern))
        → Says state c open_now post
    unfolding In
    write_says rev name block pattern asks None found post h = absurd h
    write_says rev name block pattern asks (Some disk) found post h =
        post_says open_now _ _ post (λ to. A_write asked name block pattern disk to is asks found rev) h

    read_says : asked.rev ≡ state.rev → (name : List ℕ) (snap : Option (List ℕ)) (block turn : ℕ) → asked.request ≡ request.Read name snap block
        → (o : Option DiskView) → find state name ≡ o → (post : Post)
        → In post (read_posts state o snap c asked.seq (record { block = block; turn = turn; old_way = asked.old_way })) → Says state c open_now post
    unfolding In
    read_says rev name snap block turn asks None found post h = absurd h
    read_says rev name snap block turn asks (Some disk) found post h = at_epoch (epoch_for state disk snap) refl h
      where
        at_epoch : (o : Option ℕ) → epoch_for state disk snap ≡ o → In post (read_posts_at state (cell_asked state disk block asked.old_way) o c asked.seq turn)
            → Says state c open_now post
        at_epoch None e i = absurd i
        at_epoch (Some epoch) e i = post_says open_now _ _ post (λ to. A_read asked name snap block disk epoch to is asks found e rev) i

    posts_say : asked.rev ≡ state.rev → (turn : ℕ) (what : Request) → asked.request ≡ what → (post : Post)
        → In post (posts_for state c asked.seq turn asked.old_way what) → Says state c open_now post
    unfolding In
    posts_say rev turn (request.Write name block pattern) e post h = write_says rev name block pattern e _ refl post h
    posts_say rev turn (request.Read name snap block) e post h = read_says rev name snap block turn e _ refl post h
    posts_say rev turn _ e post h = absurd h

  -- a reaction that answers nothing and leaves open what was
  record IsQuiet (client : Client) (open_before : Option Asked) (reacted : Reaction) : Type 0 where
    seq : reacted.client.seq ≡ client.seq
    applied : reacted.client.applied ≡ client.applied
    stays : StaysOpen state.rev open_before reacted.client.asked
    says : (post : Post) → In post reacted.posts → Says state c reacted.client.asked post
    unanswered : reacted.answer ≡ None

  rests_quiet : (client : Client) (o : Option Asked) → client.asked ≡ o → IsQuiet client o (rests client)
  unfolding In
  rests_quiet client o e = record {
    seq = refl;
    applied = refl;
    stays = subst (StaysOpen state.rev o) (sym e) (stays_itself state.rev o);
    says = λ post i. absurd i;
    unanswered = refl;
  }

  goes_quiet : (client : Client) (asked : Asked) → IsQuiet client (Some asked) (goes_out state c client asked)
  goes_quiet client asked = by (to_propose state c asked)
    where
      by : (o : Option Command) → IsQuiet client (Some asked) (sends_or_proposes state c client asked o)
      by None = record {
        seq = refl;
        applied = refl;
        stays = record { line = refl; seq = refl; request = refl; told = refl; sent = way_sent state asked };
        says = λ post i. posts_say _ (record asked { turn = asked.turn + 1; rev = state.rev; old_way = way_now state asked })
            refl refl asked.turn asked.request refl post i;
        unanswered = refl;
      }
      by (Some command) = record {
        seq = refl;
        applied = refl;
        stays = same_itself state.rev asked;
        says = λ post i. only (Says state c (Some asked)) _ post i (Of_the_log _ refl);
        unanswered = refl;
      }

  where_quiet : (client : Client) (o : Option Asked) → client.asked ≡ o → IsQuiet client o (goes_out_where state c client o)
  where_quiet client None e = rests_quiet client None e
  where_quiet client (Some asked) e = goes_quiet client asked

  asking_quiet : (client : Client) (o : Option Asked) (reacted : Reaction) → IsQuiet client o reacted → IsQuiet client o (asking state client reacted)
  unfolding In
  asking_quiet client o reacted q = record {
    seq = q.seq;
    applied = q.applied;
    stays = q.stays;
    says = λ post i. elim (in-append post (post_in_turn client (body.Ask state.rev)) reacted.posts i) [
      | inl now ↦ only (Says state c reacted.client.asked) _ post now (Of_the_log _ refl)
      | inr later ↦ q.says post later
    ];
    unanswered = q.unanswered;
  }

-- ### One client

module _ (servers : ℕ) (lines : List Line) (w : World) (c : ℕ) where
  abbrev client : Client
  client = w.clients c

  abbrev state : State
  state = state_after servers client.applied

  -- the step is of a kind, and takes back no entry
  pub record Turning (in_call : Bool) (reacted : Reaction) : Type 0 where
    pub turned : Turned (Heard w (actor.Client c)) servers lines c client in_call reacted
    pub grows : IsPrefix client.applied reacted.client.applied

  abbrev T : Reaction → Type 0
  T reacted = Turning false reacted

  only_says : (before : Client) (o : Option Asked) (reacted : Reaction) → IsQuiet (state_after servers before.applied) c before o reacted
      → OnlySays servers c reacted
  only_says before o reacted q = record {
    says = λ post i. subst (λ log. Says (state_after servers log) c reacted.client.asked post) (sym q.applied) (q.says post i);
    unanswered = q.unanswered;
  }

  -- the revision is that of the state
  stays_at : (before : Client) (o : Option Asked) (reacted : Reaction) → IsQuiet (state_after servers before.applied) c before o reacted
      → StaysOpen (length reacted.client.applied) o reacted.client.asked
  stays_at before o reacted q =
      subst (λ k. StaysOpen k o reacted.client.asked) (log_rev servers before.applied ∙ ap length (sym q.applied)) q.stays

  goes_on : (reacted : Reaction) → IsQuiet state c client client.asked reacted → T reacted
  goes_on reacted q = record {
    turned = Goes_on reacted q.seq (stays_at client client.asked reacted q) (only_says client client.asked reacted q);
    grows = prefix_same client.applied reacted.client.applied q.applied;
  }

  rests_turns : T (rests client)
  rests_turns = goes_on (rests client) (rests_quiet state c client client.asked refl)

  -- ### A call

  called_turns : (line : Line) → next_line lines c client ≡ Some line → client.asked ≡ None → Turning true (called state c client line.number line.request)
  called_turns line is free =
      let before : Client = record client { seq = client.seq + 1 } in
      let new = newly_asked state line (client.seq + 1) in
      let reacted = goes_out state c before new in
      let q = goes_quiet state c before new in
      let still = still_open state.rev new reacted.client.asked q.stays in
      record {
        turned = Begins reacted line still.0 is free q.seq still.1
            (record {
              line_is = still.2.line;
              seq_is = still.2.seq;
              request_is = still.2.request;
              rev_is = sent_rev state.rev new still.0 refl still.2.sent ∙ log_rev servers client.applied;
              untold = still.2.told;
              new_way = still_new state.rev new still.0 refl still.2.sent;
            })
            (only_says before (Some new) reacted q);
        grows = prefix_same client.applied reacted.client.applied q.applied;
      }

  call_turns : (line : Line) → next_line lines c client ≡ Some line → client.asked ≡ None → Turning true (calls state c client (next_line lines c client))
  call_turns line is free = subst (λ o. Turning true (calls state c client o)) (sym is) (called_turns line is free)

  -- ### A reply

  heard_as : {said other : Body} {rev rev' : ℕ} → said ≡ other → rev ≡ rev' → Heard w (actor.Client c) rev said → Heard w (actor.Client c) rev' other
  heard_as {said} {other} {rev} {rev'} e f h = subst (λ k. Heard w (actor.Client c) k other) f (subst (Heard w (actor.Client c) rev) e h)

  again : (asked : Asked) → client.asked ≡ Some asked → T (asks_and_sends state c client asked)
  again asked is = goes_on _ (asking_quiet state c client client.asked _
      (subst (λ o. IsQuiet state c client o (goes_out state c client asked)) (sym is) (goes_quiet state c client asked)))

  ends_turn : {reacted : Reaction} → reacted.client.applied ≡ client.applied
      → Turned (Heard w (actor.Client c)) servers lines c client false reacted → T reacted
  ends_turn {reacted} e t = record { turned = t; grows = prefix_same client.applied reacted.client.applied e }

  -- ### A glance

  -- a settle stays open, with its round as it is then
  stays_turn : (asked other : Asked) → client.asked ≡ Some asked → IsSame state.rev asked other → T (stays_open client other)
  unfolding In
  stays_turn asked other is same = goes_on (stays_open client other) (record {
    seq = refl;
    applied = refl;
    stays = subst (λ o. StaysOpen state.rev o (Some other)) (sym is) same;
    says = λ post i. absurd i;
    unanswered = refl;
  })

  abbrev Shows : Asked → ℕ → Sight → Type 0
  Shows asked rev sight = Heard w (actor.Client c) rev (body.Seen asked.line sight.round sight.running sight.inc sight.full)

  round_turns : (asked : Asked) (rev : ℕ) (sight : Sight) → client.asked ≡ Some asked → Shows asked rev sight → asked.request ≡ request.Settle
      → sight.round ≡ asked.round → T (rounds state client (with_sight asked sight))
  round_turns asked rev sight is h what at =
      let now = with_sight asked sight in
      by_test T (not (length now.seen == servers_of state)) (stays_open client now) _
      (λ t. stays_turn asked now is (record { line = refl; seq = refl; request = refl; told = refl; sent = As_it_was refl refl }))
      (λ all. by_test T (is_settled state (map (λ row. row.1) now.seen)) (answers client now answer.Ok) _
      (λ t. ends_turn refl (Shown asked rev sight answer.Ok h is
      (Is_settled what at (same_numbers (length now.seen) (servers_of state) (was_true (length now.seen == servers_of state) all)) t refl)))
      (λ t. stays_turn asked (record now { round = now.round + 1; seen = [] }) is
      (record { line = refl; seq = refl; request = refl; told = refl; sent = As_it_was refl refl })))

  settle_turns : (asked : Asked) (rev : ℕ) (sight : Sight) → client.asked ≡ Some asked → Shows asked rev sight → asked.request ≡ request.Settle
      → T (settles state client asked sight)
  settle_turns asked rev sight is h what =
      by_test T sight.full (answers client asked answer.NoSpace) _
      (λ full. ends_turn refl (Shown asked rev sight answer.NoSpace h is (Has_no_space what full refl)))
      (λ t. by_test T ((sight.round == asked.round) && nat_le sight.rev state.rev) (rounds state client (with_sight asked sight)) (rests client)
      (λ same. round_turns asked rev sight is h what
      (same_numbers sight.round asked.round (both_true (sight.round == asked.round) (nat_le sight.rev state.rev) same).0)) (λ t. rests_turns))

  seen_for_turns : (asked : Asked) (rev : ℕ) (sight : Sight) → client.asked ≡ Some asked → Shows asked rev sight → (what : Request) → asked.request ≡ what
      → T (sees_for state client asked sight what)
  seen_for_turns asked rev sight is h (request.Stop server) e = ends_turn refl (Shown asked rev sight answer.Ok h is (Stops_it server e refl))
  seen_for_turns asked rev sight is h (request.StopAt server at) e = ends_turn refl (Shown asked rev sight answer.Ok h is (Stops_at server at e refl))
  seen_for_turns asked rev sight is h (request.Fault server which kind at) e =
      ends_turn refl (Shown asked rev sight answer.Ok h is (Fails_it server which kind at e refl))
  seen_for_turns asked rev sight is h (request.Start server) e =
      ends_turn refl (Shown asked rev sight (if sight.running then answer.Ok else answer.Failed) h is (Starts_it server e refl))
  seen_for_turns asked rev sight is h (request.Blank server) e =
      ends_turn refl (Shown asked rev sight (if sight.running then answer.Ok else answer.Failed) h is (Blanks_it server e refl))
  seen_for_turns asked rev sight is h request.Settle e = settle_turns asked rev sight is h e
  seen_for_turns asked rev sight is h _ e = rests_turns

  seen_turns : (rev : ℕ) (sight : Sight) → Heard w (actor.Client c) rev (body.Seen sight.line sight.round sight.running sight.inc sight.full)
      → (o : Option Asked) → client.asked ≡ o → T (sees state client o sight)
  seen_turns rev sight h None is = rests_turns
  seen_turns rev sight h (Some asked) is = by_test T (sight.line == asked.line) (sees_for state client asked sight asked.request) (rests client)
      (λ t. seen_for_turns asked rev sight is
      (heard_as (ap (λ k. body.Seen k sight.round sight.running sight.inc sight.full) (same_numbers sight.line asked.line t)) refl h) asked.request refl)
      (λ t. rests_turns)

  seen_from_turns : (rev : ℕ) (sight : Sight) → Heard w (actor.Client c) rev (body.Seen sight.line sight.round sight.running sight.inc sight.full)
      → (who : Actor) → T (sees_from state client who sight)
  seen_from_turns rev sight h (actor.Server n) = seen_turns rev (record sight { server = n }) h client.asked refl
  seen_from_turns rev sight h (actor.Client d) = rests_turns

  -- ### Other replies

  -- the new map has nothing: the read goes to the old one
  told_turns : (asked : Asked) → Heard w (actor.Client c) asked.rev (body.NotHere asked.seq) → client.asked ≡ Some asked → is_read asked.request ≡ true
      → T (goes_the_old_way state c client asked)
  told_turns asked h is read =
      let now : Asked = record asked { saw_missing = true; old_way = true } in
      let reacted = goes_out state c client now in
      let q = goes_quiet state c client now in
      record {
        turned = Is_told reacted asked h is read q.seq (stays_at client (Some now) reacted q) (only_says client (Some now) reacted q);
        grows = prefix_same client.applied reacted.client.applied q.applied;
      }

  hears_turns : (asked : Asked) (rev : ℕ) → client.asked ≡ Some asked → (said : Body) → Heard w (actor.Client c) rev said
      → T (hears state c client asked rev said)
  hears_turns asked rev is (body.Data seq bytes) h = by_test T (replies asked rev (about (body.Data seq bytes)) && is_read asked.request) _ _
      (λ t. let tests = both_true (replies asked rev (about (body.Data seq bytes))) (is_read asked.request) t in
      let same = both_true (seq == asked.seq) (rev == asked.rev) tests.0 in
      ends_turn refl (Reads asked bytes (heard_as (ap (λ k. body.Data k bytes) (same_numbers seq asked.seq same.0)) (same_numbers rev asked.rev same.1) h)
      is tests.1)) (λ t. rests_turns)
  hears_turns asked rev is (body.Written seq) h = by_test T (replies asked rev (about (body.Written seq)) && is_write asked.request) _ _
      (λ t. let tests = both_true (replies asked rev (about (body.Written seq))) (is_write asked.request) t in
      let same = both_true (seq == asked.seq) (rev == asked.rev) tests.0 in
      ends_turn refl (Ends asked ending.Written (heard_as (ap body.Written (same_numbers seq asked.seq same.0)) (same_numbers rev asked.rev same.1) h)
      is tests.1)) (λ t. rests_turns)
  hears_turns asked rev is (body.Full seq) h = by_test T (replies asked rev (about (body.Full seq)) && is_write asked.request) _ _
      (λ t. let tests = both_true (replies asked rev (about (body.Full seq))) (is_write asked.request) t in
      let same = both_true (seq == asked.seq) (rev == asked.rev) tests.0 in
      ends_turn refl (Ends asked ending.Full (heard_as (ap body.Full (same_numbers seq asked.seq same.0)) (same_numbers rev asked.rev same.1) h) is tests.1))
      (λ t. rests_turns)
  hears_turns asked rev is (body.BlockBusy seq) h = by_test T (replies asked rev (about (body.BlockBusy seq))) _ _ (λ t. again asked is) (λ t. rests_turns)
  hears_turns asked rev is (body.Held seq) h = by_test T (replies asked rev (about (body.Held seq))) _ _ (λ t. again asked is) (λ t. rests_turns)
  hears_turns asked rev is (body.WrongRev seq) h = by_test T (replies asked rev (about (body.WrongRev seq))) _ _ (λ t. again asked is) (λ t. rests_turns)
  hears_turns asked rev is (body.NotHere seq) h = by_test T (replies asked rev (about (body.NotHere seq)) && is_read asked.request) _ _
      (λ t. let tests = both_true (replies asked rev (about (body.NotHere seq))) (is_read asked.request) t in
      let same = both_true (seq == asked.seq) (rev == asked.rev) tests.0 in
      told_turns asked (heard_as (ap body.NotHere (same_numbers seq asked.seq same.0)) (same_numbers rev asked.rev same.1) h) is tests.1) (λ t. rests_turns)
  hears_turns asked rev is _ h = rests_turns

  reply_turns : (letter : Letter) (o : Option Asked) → client.asked ≡ o → In letter w.sent → letter.to ≡ actor.Client c → T (hears_of state c client o letter)
  reply_turns letter None e h own = rests_turns
  reply_turns letter (Some asked) e h own = hears_turns asked letter.rev e letter.body (record { letter = letter; sent = h; own = own; at = refl; is = refl })

  -- ### News

  -- on its way through the entries, the request is open still, or an entry has answered it. It is not sent before the last of
  -- them is applied, so no other revision comes into it than `rev`
  data IsSoFar (rev : ℕ) (now : Learning) : Type 0 where
    Open_still : now.answer ≡ None → StaysOpen rev client.asked now.client.asked → IsSoFar rev now
    Is_answered : (asked : Asked) (given : Answer) → client.asked ≡ Some asked → now.client.asked ≡ None → now.answer ≡ Some (asked.line, given)
        → IsJudged servers c client.applied now.client.applied asked given → IsSoFar rev now

  record Learnt (rev : ℕ) (now : Learning) : Type 0 where
    state_is : now.state ≡ state_after servers now.client.applied
    seq : now.client.seq ≡ client.seq
    grows : IsPrefix client.applied now.client.applied
    far : IsSoFar rev now

  reason_same : (rev : ℕ) (old new : Asked) (given : Answer) (at : State) (entry : Command) → IsSame rev old new → IsReason c new given at entry
      → IsReason c old given at entry
  reason_same rev old new given at entry same (By_verdict command own so) =
      By_verdict command ((λ i. command_of c (sym same.seq i) (sym same.request i)) ∙ own) (ap (λ k. verdict_for k (latest at c)) (sym same.seq) ∙ so)
  reason_same rev old new given at entry same (By_witness none is so) =
      By_witness ((λ i. command_of c (sym same.seq i) (sym same.request i)) ∙ none) (ap (λ k. is_witness c k entry) (sym same.seq) ∙ is)
      ((λ i. refusal at (sym same.told i) (sym same.request i)) ∙ so)

  judged_more : (before now : List Command) (asked : Asked) (given : Answer) (entry : Command) → IsJudged servers c before now asked given
      → IsJudged servers c before (now ++ entry ∷ []) asked given
  judged_more before now asked given entry j = record {
    prefix = j.prefix;
    entry = j.entry;
    rest = j.rest ++ entry ∷ [];
    lies = ap (λ xs. xs ++ entry ∷ []) j.lies ∙ append_assoc j.prefix (j.entry ∷ j.rest) (entry ∷ []);
    new = j.new;
    reason = j.reason;
  }

  -- the client with one entry more, before it is looked at
  abbrev with_one : Learning → Command → Learning
  with_one now entry = record now { state = after now.state entry; client = record now.client { applied = now.client.applied ++ entry ∷ [] } }

  abbrev log_then : Learning → Command → List Command
  log_then now entry = now.client.applied ++ entry ∷ []

  state_then : (now : Learning) (entry : Command) → now.state ≡ state_after servers now.client.applied
      → after now.state entry ≡ state_after servers (log_then now entry)
  state_then now entry e = ap (λ s. after s entry) e ∙ sym (fold-append after (states.start servers) now.client.applied (entry ∷ []))

  module _ (rev : ℕ) where
    -- an entry that leaves the open request, and one that answers it
    leaves_open : (now : Learning) (entry : Command) → Learnt rev now → now.answer ≡ None → (later : Learning) → later.state ≡ after now.state entry
        → later.client.seq ≡ now.client.seq → later.client.applied ≡ log_then now entry → later.answer ≡ now.answer
        → StaysOpen rev client.asked later.client.asked → Learnt rev later
    leaves_open now entry l none later at seq applied same stays = record {
      state_is = at ∙ state_then now entry l.state_is ∙ ap (state_after servers) (sym applied);
      seq = seq ∙ l.seq;
      grows = prefix_on client.applied now.client.applied later.client.applied l.grows (record { later = entry ∷ []; is = applied });
      far = Open_still (same ∙ none) stays;
    }

    gives : (now : Learning) (entry : Command) → Learnt rev now → (old asked : Asked) → client.asked ≡ Some old → IsSame rev old asked → (given : Answer)
        → IsReason c asked given (after now.state entry) entry → (later : Learning) → later.state ≡ after now.state entry
        → later.client.seq ≡ now.client.seq → later.client.applied ≡ log_then now entry → later.client.asked ≡ None
        → later.answer ≡ Some (asked.line, given) → Learnt rev later
    gives now entry l old asked is same given reason later at seq applied gone answered = record {
      state_is = at ∙ state_then now entry l.state_is ∙ ap (state_after servers) (sym applied);
      seq = seq ∙ l.seq;
      grows = prefix_on client.applied now.client.applied later.client.applied l.grows (record { later = entry ∷ []; is = applied });
      far = Is_answered old given is gone (answered ∙ λ i. Some (same.line i, given)) (record {
        prefix = now.client.applied;
        entry = entry;
        rest = [];
        lies = applied;
        new = l.grows;
        reason = reason_same rev old asked given _ entry same
            (subst (λ s. IsReason c asked given s entry) (state_then now entry l.state_is) reason);
      });
    }

    entry_judged : (now : Learning) (entry : Command) → Learnt rev now → now.answer ≡ None → (o : Option Asked) → now.client.asked ≡ o
        → StaysOpen rev client.asked o → Learnt rev (judged c entry (with_one now entry) o)
    entry_judged now entry l none None e stays =
        leaves_open now entry l none (with_one now entry) refl refl refl refl (subst (StaysOpen rev client.asked) (sym e) stays)
    entry_judged now entry l none (Some asked) e stays =
        let was = was_open rev client.asked asked stays in
        let old = was.0 in
        let still : Learnt rev (with_one now entry) =
        leaves_open now entry l none (with_one now entry) refl refl refl refl (subst (StaysOpen rev client.asked) (sym e) stays) in
        let by_command : (command : Command) → command_of c asked.seq asked.request ≡ Some command → (o : Option Answer)
        → verdict_for asked.seq (latest (after now.state entry) c) ≡ o → Learnt rev (answered_where (with_one now entry) asked o) =
        λ command own o so. elim o
        as (λ o. verdict_for asked.seq (latest (after now.state entry) c) ≡ o → Learnt rev (answered_where (with_one now entry) asked o)) [
          | None ↦ λ so. still
          | Some given ↦ λ so. gives now entry l old asked was.1 was.2 given (By_verdict command own so) _ refl refl refl refl refl
        ] so in
        let by_state : command_of c asked.seq asked.request ≡ None → is_witness c asked.seq entry ≡ true → (o : Option Answer)
        → refusal (after now.state entry) asked.saw_missing asked.request ≡ o → Learnt rev (witnessed (with_one now entry) asked o) =
        λ own is o so. elim o
        as (λ o. refusal (after now.state entry) asked.saw_missing asked.request ≡ o → Learnt rev (witnessed (with_one now entry) asked o)) [
          | None ↦ λ so. leaves_open now entry l none _ refl refl refl refl
              (subst (λ x. StaysOpen rev x (Some (record asked { witnesses = asked.witnesses + 1 }))) (sym was.1)
              (record {
                line = was.2.line;
                seq = was.2.seq;
                request = was.2.request;
                told = was.2.told;
                sent = sent_as rev old asked (record asked { witnesses = asked.witnesses + 1 }) refl refl was.2.sent;
              }))
          | Some given ↦ λ so. gives now entry l old asked was.1 was.2 given (By_witness own is so) _ refl refl refl refl refl
        ] so in
        elim (command_of c asked.seq asked.request)
        as (λ o. command_of c asked.seq asked.request ≡ o → Learnt rev (judged_by c entry (with_one now entry) asked o)) [
          | Some command ↦ λ own. by_command command own _ refl
          | None ↦ λ own. by_test (Learnt rev) (is_witness c asked.seq entry) _ _ (λ is. by_state own is _ refl) (λ t. still)
        ] refl

    takes_one : (now : Learning) (entry : Command) → Learnt rev now → Learnt rev (takes_entry c now entry)
    takes_one now entry l = by l.far
      where
        by : IsSoFar rev now → Learnt rev (takes_entry c now entry)
        by (Open_still none stays) = entry_judged now entry l none now.client.asked refl stays
        by (Is_answered asked given is gone answered j) =
            subst (λ o. Learnt rev (judged c entry (with_one now entry) o)) (sym gone) (record {
              state_is = state_then now entry l.state_is;
              seq = l.seq;
              grows = prefix_on client.applied now.client.applied (log_then now entry) l.grows (prefix_more now.client.applied entry);
              far = Is_answered asked given is gone answered (judged_more client.applied now.client.applied asked given entry j);
            })

    takes_each : (now : Learning) (entries : List Command) → Learnt rev now → Learnt rev (takes_all c now entries)
    takes_each now [] l = l
    takes_each now (entry ∷ entries) l = takes_each (takes_entry c now entry) entries (takes_one now entry l)

  out_turns : (now : Learning) → Learnt (length now.client.applied) now → T (then_goes_out c now)
  out_turns now l = by l.far
    where
      quiet : IsQuiet (state_after servers now.client.applied) c now.client now.client.asked (goes_out_where now.state c now.client now.client.asked)
      quiet = subst (λ s. IsQuiet s c now.client now.client.asked (goes_out_where now.state c now.client now.client.asked)) l.state_is
          (where_quiet now.state c now.client now.client.asked refl)

      by : IsSoFar (length now.client.applied) now → T (then_goes_out c now)
      by (Open_still none stays) =
          let out = goes_out_where now.state c now.client now.client.asked in
          let rev = length out.client.applied in
          let before : StaysOpen rev client.asked now.client.asked =
          subst (λ log. StaysOpen (length log) client.asked now.client.asked) (sym quiet.applied) stays in
          let reacted = then_goes_out c now in
          record {
            turned = Goes_on reacted (quiet.seq ∙ l.seq)
                (stays_on rev client.asked now.client.asked out.client.asked before (stays_at now.client now.client.asked out quiet))
                (record { says = (only_says now.client now.client.asked out quiet).says; unanswered = none });
            grows = prefix_on client.applied now.client.applied out.client.applied l.grows (prefix_same now.client.applied out.client.applied quiet.applied);
          }
      by (Is_answered asked given is gone answered j) =
          let e : then_goes_out c now ≡ record { client = now.client; posts = []; answer = Some (asked.line, given) } =
          λ i. record (goes_out_where now.state c now.client (gone i)) { answer = answered i } in
          subst T (sym e) (record { turned = Judges now.client asked given is gone l.seq j; grows = l.grows })

  news_turns : (entries : List Command) → T (takes_entries state c client entries)
  news_turns [] = rests_turns
  news_turns (entry ∷ entries) =
      let begun : Learning = record { state = state; client = client; answer = None } in
      let now = takes_all c begun (entry ∷ entries) in
      let rev = length now.client.applied in
      out_turns now (takes_each rev begun (entry ∷ entries) (record {
        state_is = refl;
        seq = refl;
        grows = prefix_itself client.applied;
        far = Open_still refl (stays_itself rev client.asked);
      }))

  heard_turns : (letter : Letter) → In letter w.sent → letter.to ≡ actor.Client c → (said : Body) → letter.body ≡ said
      → T (hears_any state c client letter said)
  heard_turns letter h own (body.News from commands) e = news_turns (next_entries client from commands)
  heard_turns letter h own (body.Seen line round running inc full) e =
      seen_from_turns letter.rev (record { server = 0; rev = letter.rev; line = line; round = round; running = running; inc = inc; full = full })
      (record { letter = letter; sent = h; own = own; at = refl; is = e }) letter.from
  heard_turns letter h own _ e = reply_turns letter client.asked refl h own

-- a client's step is of a kind
pub client_turns : (setting : Setting) (w : World) (c : ℕ) (what : Step) → MayClient what setting w c
    → Turning setting.servers setting.lines w c (is_call what)
    (client_step what (client_state setting w c) c (w.clients c) (next_line setting.lines c (w.clients c)))
unfolding heard ticked
client_turns setting w c (Call number) may = call_turns setting.servers setting.lines w c may.line may.next may.free
client_turns setting w c (Deliver letter) may = heard_turns setting.servers setting.lines w c letter may.sent may.own letter.body refl
client_turns setting w c Tick may =
    let client = w.clients c in
    let state = client_state setting w c in
    goes_on setting.servers setting.lines w c _ (asking_quiet state c client client.asked _ (where_quiet state c client client.asked refl))
client_turns setting w c _ may = absurd may
