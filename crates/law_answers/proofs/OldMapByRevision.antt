-- A read that asks the old map asks it as long as the revision of its latest send stays the same.
use Rattle.law_answers.proofs.Imports.{[], if◌then◌else◌, ◌&&◌, ◌++◌, ◌+◌, ◌==◌, ◌∙◌, ◌∷◌, ◌≡◌, Actor, Answer, Asked, Body, Bool, Client, Command, Learning}
use Rattle.law_answers.proofs.Imports.{Letter, List, None, Option, Reaction, Request, Sight, Some, State, about, answered_where, answers, ap, asks_and_sends}
use Rattle.law_answers.proofs.Imports.{by_test, command_of, goes_out, goes_out_where, goes_the_old_way, heard, hears, hears_any, hears_of, is_read}
use Rattle.law_answers.proofs.Imports.{is_settled, is_witness, is_write, judged, judged_by, latest, length, map, nat_le, next_entries, none_some, not}
use Rattle.law_answers.proofs.Imports.{number_itself, refl, refusal, replies, rests, rounds, same_some, sees, sees_for, sees_from, sends_or_proposes}
use Rattle.law_answers.proofs.Imports.{servers_of, settles, stays_open, subst, sym, takes_all, takes_entries, takes_entry, ticked, to_propose, true}
use Rattle.law_answers.proofs.Imports.{verdict_for, way_now, with_sight, witnessed, ℕ}
use Rattle.spec_state.specs.Command.{after}
use Rattle.petal_msg.specs.declared.body.Body.TheVariants as body
use Rattle.petal_msg.specs.declared.letter.Actor.TheVariants as actor
use Rattle.script_lines.specs.declared.answer.Answer.TheVariants as answer
use Rattle.script_lines.specs.declared.request.Request.TheVariants as request

-- the request that is open then asks the old map, if the one before did at the same revision
abbrev pub Stays : Option Asked → Option Asked → Type 0
Stays old now = (was new : Asked) → old ≡ Some was → now ≡ Some new → was.old_way ≡ true → new.rev ≡ was.rev → new.old_way ≡ true

-- it is the same, as far as its way is concerned
abbrev IsSo : Option Asked → Option Asked → Type 0
IsSo old now = (new : Asked) → now ≡ Some new → (was : Asked) × (old ≡ Some was) × (new.rev ≡ was.rev) × (new.old_way ≡ was.old_way)

stays_itself : (o : Option Asked) → Stays o o
stays_itself o was new is now old rev = let same : was ≡ new = same_some (sym is ∙ now) in ap (λ (a : Asked). a.old_way) (sym same) ∙ old

stays_none : (o now : Option Asked) → now ≡ None → Stays o now
stays_none o now none was new is there old rev = none_some none there

so_stays : (o now : Option Asked) → IsSo o now → Stays o now
so_stays o now so was new is there old rev = let k = so new there in k.3 ∙ ap (λ (a : Asked). a.old_way) (same_some (sym k.1 ∙ is)) ∙ old

-- ### Sending

and_itself : (a b : Bool) → a ≡ true → b ≡ true → (a && b) ≡ true
and_itself a b e f = cc

module _ (state : State) (c : ℕ) where
  -- one that goes out
  sends_stays : (client : Client) (asked : Asked) (o : Option Command) → Stays (Some asked) (sends_or_proposes state c client asked o).client.asked
  sends_stays client asked None was new is there old rev =
      let same : asked ≡ was = same_some is in
      let sent : record asked { turn = asked.turn + 1; rev = state.rev; old_way = way_now state asked } ≡ new = same_some there in
      let at : asked.rev ≡ state.rev = ap (λ (a : Asked). a.rev) same ∙ sym rev ∙ ap (λ (a : Asked). a.rev) (sym sent) in
      ap (λ (a : Asked). a.old_way) (sym sent)
      ∙ and_itself asked.old_way (asked.rev == state.rev) (ap (λ (a : Asked). a.old_way) same ∙ old)
      (ap (λ k. k == state.rev) at ∙ number_itself state.rev)
  sends_stays client asked (Some command) was new is there old rev = stays_itself (Some asked) was new is there old rev

  out_stays : (client : Client) (asked : Asked) → Stays (Some asked) (goes_out state c client asked).client.asked
  out_stays client asked = sends_stays client asked (to_propose state c asked)

  where_stays : (client : Client) (o : Option Asked) → client.asked ≡ o → Stays o (goes_out_where state c client o).client.asked
  where_stays client None e = stays_none None client.asked e
  where_stays client (Some asked) e = out_stays client asked

  -- ### A reply

  abbrev S : Client → Reaction → Type 0
  S client reacted = Stays client.asked reacted.client.asked

  rests_stays : (client : Client) → S client (rests client)
  rests_stays client = stays_itself client.asked

  gives_stays : (client : Client) (asked : Asked) (given : Answer) → S client (answers client asked given)
  gives_stays client asked given = stays_none client.asked None refl

  sent_again : (client : Client) (asked : Asked) → client.asked ≡ Some asked → S client (asks_and_sends state c client asked)
  sent_again client asked is = subst (λ o. Stays o (goes_out state c client asked).client.asked) (sym is) (out_stays client asked)

  old_stays : (client : Client) (asked : Asked) → client.asked ≡ Some asked → S client (goes_the_old_way state c client asked)
  old_stays client asked is was new open_then there old rev =
      let same : asked ≡ was = same_some (sym is ∙ open_then) in
      out_stays client (record asked { saw_missing = true; old_way = true }) (record asked { saw_missing = true; old_way = true }) new refl there refl
      (rev ∙ ap (λ (a : Asked). a.rev) (sym same))

  hears_stays : (client : Client) (asked : Asked) (rev : ℕ) → client.asked ≡ Some asked → (said : Body) → S client (hears state c client asked rev said)
  hears_stays client asked rev is (body.Data seq bytes) =
      by_test (S client) (replies asked rev (about (body.Data seq bytes)) && is_read asked.request) _ _
      (λ t. gives_stays client asked (answer.Data bytes)) (λ f. rests_stays client)
  hears_stays client asked rev is (body.Written seq) =
      by_test (S client) (replies asked rev (about (body.Written seq)) && is_write asked.request) _ _
      (λ t. gives_stays client asked answer.Ok) (λ f. rests_stays client)
  hears_stays client asked rev is (body.Full seq) =
      by_test (S client) (replies asked rev (about (body.Full seq)) && is_write asked.request) _ _
      (λ t. gives_stays client asked answer.NoSpace) (λ f. rests_stays client)
  hears_stays client asked rev is (body.NotHere seq) =
      by_test (S client) (replies asked rev (about (body.NotHere seq)) && is_read asked.request) _ _
      (λ t. old_stays client asked is) (λ f. rests_stays client)
  hears_stays client asked rev is (body.BlockBusy seq) =
      by_test (S client) (replies asked rev (about (body.BlockBusy seq))) _ _ (λ t. sent_again client asked is) (λ f. rests_stays client)
  hears_stays client asked rev is (body.Held seq) =
      by_test (S client) (replies asked rev (about (body.Held seq))) _ _ (λ t. sent_again client asked is) (λ f. rests_stays client)
  hears_stays client asked rev is (body.WrongRev seq) =
      by_test (S client) (replies asked rev (about (body.WrongRev seq))) _ _ (λ t. sent_again client asked is) (λ f. rests_stays client)
  hears_stays client asked rev is _ = rests_stays client

  reply_stays : (client : Client) (letter : Letter) (o : Option Asked) → client.asked ≡ o → S client (hears_of state c client o letter)
  reply_stays client letter None is = rests_stays client
  reply_stays client letter (Some asked) is = hears_stays client asked letter.rev is letter.body

  -- ### A glance

  open_so : (client : Client) (asked other : Asked) → client.asked ≡ Some asked → other.rev ≡ asked.rev → other.old_way ≡ asked.old_way
      → S client (stays_open client other)
  open_so client asked other is rev way = so_stays client.asked (Some other) (λ new e.
      let same : other ≡ new = same_some e in
      (asked, is, ap (λ (a : Asked). a.rev) (sym same) ∙ rev, ap (λ (a : Asked). a.old_way) (sym same) ∙ way))

  rounds_stay : (client : Client) (asked now : Asked) → client.asked ≡ Some asked → now.rev ≡ asked.rev → now.old_way ≡ asked.old_way
      → S client (rounds state client now)
  rounds_stay client asked now is rev way =
      by_test (S client) (not (length now.seen == servers_of state)) _ _ (λ t. open_so client asked now is rev way)
      (λ all. by_test (S client) (is_settled state (map (λ row. row.1) now.seen)) _ _ (λ t. gives_stays client now answer.Ok)
      (λ t. open_so client asked (record now { round = now.round + 1; seen = [] }) is rev way))

  settles_stay : (client : Client) (asked : Asked) (sight : Sight) → client.asked ≡ Some asked → S client (settles state client asked sight)
  settles_stay client asked sight is =
      by_test (S client) sight.full _ _ (λ full. gives_stays client asked answer.NoSpace)
      (λ t. by_test (S client) ((sight.round == asked.round) && nat_le sight.rev state.rev) _ _
      (λ same. rounds_stay client asked (with_sight asked sight) is refl refl) (λ f. rests_stays client))

  seen_for_stays : (client : Client) (asked : Asked) (sight : Sight) → client.asked ≡ Some asked → (what : Request)
      → S client (sees_for state client asked sight what)
  seen_for_stays client asked sight is (request.Stop server) = gives_stays client asked answer.Ok
  seen_for_stays client asked sight is (request.StopAt server at) = gives_stays client asked answer.Ok
  seen_for_stays client asked sight is (request.Fault server which kind at) = gives_stays client asked answer.Ok
  seen_for_stays client asked sight is (request.Start server) = gives_stays client asked (if sight.running then answer.Ok else answer.Failed)
  seen_for_stays client asked sight is (request.Blank server) = gives_stays client asked (if sight.running then answer.Ok else answer.Failed)
  seen_for_stays client asked sight is request.Settle = settles_stay client asked sight is
  seen_for_stays client asked sight is _ = rests_stays client

  seen_stays : (client : Client) (sight : Sight) (o : Option Asked) → client.asked ≡ o → S client (sees state client o sight)
  seen_stays client sight None is = rests_stays client
  seen_stays client sight (Some asked) is =
      by_test (S client) (sight.line == asked.line) _ _ (λ t. seen_for_stays client asked sight is asked.request) (λ f. rests_stays client)

  from_stays : (client : Client) (sight : Sight) (who : Actor) → S client (sees_from state client who sight)
  from_stays client sight (actor.Server n) = seen_stays client (record sight { server = n }) client.asked refl
  from_stays client sight (actor.Client d) = rests_stays client

-- ### News

so_itself : (o : Option Asked) → IsSo o o
so_itself o new e = (new, e, refl, refl)

none_so : (o now : Option Asked) → now ≡ None → IsSo o now
none_so o now none new there = none_some none there

module _ (c : ℕ) where
  judged_so : (entry : Command) (now : Learning) (o : Option Asked) → now.client.asked ≡ o → IsSo now.client.asked (judged c entry now o).client.asked
  judged_so entry now None is = so_itself now.client.asked
  judged_so entry now (Some asked) is = by (command_of c asked.seq asked.request)
    where
      J : Learning → Type 0
      J later = IsSo now.client.asked later.client.asked

      where_so : (o : Option Answer) → J (answered_where now asked o)
      where_so None = so_itself now.client.asked
      where_so (Some given) = none_so now.client.asked None refl

      witnessed_so : (o : Option Answer) → J (witnessed now asked o)
      witnessed_so None = λ new e.
          let same : record asked { witnesses = asked.witnesses + 1 } ≡ new = same_some e in
          (asked, is, ap (λ (a : Asked). a.rev) (sym same), ap (λ (a : Asked). a.old_way) (sym same))
      witnessed_so (Some given) = none_so now.client.asked None refl

      by : (o : Option Command) → J (judged_by c entry now asked o)
      by (Some command) = where_so (verdict_for asked.seq (latest now.state c))
      by None = by_test J (is_witness c asked.seq entry) _ _ (λ t. witnessed_so (refusal now.state asked.saw_missing asked.request))
          (λ f. so_itself now.client.asked)

  so_on : (one two three : Option Asked) → IsSo one two → IsSo two three → IsSo one three
  so_on one two three a b new e =
      let k = b new e in
      let m = a k.0 k.1 in
      (m.0, m.1, k.2 ∙ m.2, k.3 ∙ m.3)

  all_so : (now : Learning) (entries : List Command) → IsSo now.client.asked (takes_all c now entries).client.asked
  all_so now [] = so_itself now.client.asked
  all_so now (entry ∷ entries) =
      let with_one : Learning =
      record now { state = after now.state entry; client = record now.client { applied = now.client.applied ++ entry ∷ [] } } in
      so_on now.client.asked (takes_entry c now entry).client.asked (takes_all c (takes_entry c now entry) entries).client.asked
      (judged_so entry with_one now.client.asked refl) (all_so (takes_entry c now entry) entries)

  news_stay : (state : State) (client : Client) (entries : List Command) → Stays client.asked (takes_entries state c client entries).client.asked
  news_stay state client [] was new is there old rev = stays_itself client.asked was new is there old rev
  news_stay state client (entry ∷ entries) was new is there old rev =
      let begun : Learning = record { state = state; client = client; answer = None } in
      let now = takes_all c begun (entry ∷ entries) in
      by now (all_so begun (entry ∷ entries)) there
    where
      by : (now : Learning) → IsSo client.asked now.client.asked
          → (goes_out_where now.state c now.client now.client.asked).client.asked ≡ Some new → new.old_way ≡ true
      by now so e = between now.client.asked refl e
        where
          between : (o : Option Asked) → now.client.asked ≡ o → (goes_out_where now.state c now.client o).client.asked ≡ Some new → new.old_way ≡ true
          between None none e = none_some none e
          between (Some asked) here e =
              let k = so asked here in
              let same : k.0 ≡ was = same_some (sym k.1 ∙ is) in
              out_stays now.state c now.client asked asked new refl e (k.3 ∙ ap (λ (a : Asked). a.old_way) same ∙ old)
              (rev ∙ ap (λ (a : Asked). a.rev) (sym same) ∙ sym k.2)

any_stays : (state : State) (c : ℕ) (client : Client) (letter : Letter) (said : Body) → Stays client.asked (hears_any state c client letter said).client.asked
any_stays state c client letter (body.News from commands) = news_stay c state client (next_entries client from commands)
any_stays state c client letter (body.Seen line round running inc full) =
    from_stays state c client (record { server = 0; rev = letter.rev; line = line; round = round; running = running; inc = inc; full = full }) letter.from
any_stays state c client letter _ = reply_stays state c client letter client.asked refl

-- ### A step

-- with a letter
pub heard_stays : (state : State) (c : ℕ) (client : Client) (letter : Letter) → Stays client.asked (heard state c client letter).client.asked
unfolding heard
heard_stays state c client letter = any_stays state c client letter letter.body

-- and at a tick
pub tick_stays : (state : State) (c : ℕ) (client : Client) → Stays client.asked (ticked state c client).client.asked
unfolding ticked
tick_stays state c client = where_stays state c client client.asked refl
