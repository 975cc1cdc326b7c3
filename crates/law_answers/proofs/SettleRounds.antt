-- What a client's step does to the round of a settle: it keeps it, begins with none, or takes up what a glance showed.
use Rattle.law_answers.proofs.Imports.{[], if◌then◌else◌, ◌&&◌, ◌++◌, ◌+◌, ◌==◌, ◌∙◌, ◌∷◌, ◌≡◌, ◌≢◌, Actor, Answer, Asked, Body, Bool, Call, Client, Command}
use Rattle.law_answers.proofs.Imports.{Deliver, In, Learning, Letter, Line, List, MayClient, None, Option, Reaction, Request, Setting, Sight, Some, State}
use Rattle.law_answers.proofs.Imports.{Step, Tick, World, about, answered_where, answers, ap, asks_and_sends, both_true, by_test, calls, client_state}
use Rattle.law_answers.proofs.Imports.{client_step, command_of, false, goes_out, goes_out_where, goes_the_old_way, heard, hears, hears_any, hears_of, is_read}
use Rattle.law_answers.proofs.Imports.{is_witness, is_write, judged, judged_by, latest, next_entries, next_line, none_some, refl, refusal, replies, rests}
use Rattle.law_answers.proofs.Imports.{same_numbers, same_some, sees, sees_for, sees_from, sends_or_proposes, settles, subst, sym, takes_all, takes_entries}
use Rattle.law_answers.proofs.Imports.{takes_entry, then_goes_out, ticked, to_propose, true, true_false, verdict_for, witnessed, ℕ}
use Rattle.spec_state.specs.Command.{after}
use Rattle.petal_msg.specs.declared.body.Body.TheVariants as body
use Rattle.petal_msg.specs.declared.letter.Actor.TheVariants as actor
use Rattle.script_lines.specs.declared.answer.Answer.TheVariants as answer
use Rattle.script_lines.specs.declared.request.Request.TheVariants as request

-- the request is open as before, in the same round
pub record SameRound (old new : Asked) : Type 0 where
  pub line : new.line ≡ old.line
  pub request : new.request ≡ old.request
  pub round : new.round ≡ old.round
  pub seen : new.seen ≡ old.seen

round_itself : (asked : Asked) → SameRound asked asked
round_itself asked = record { line = refl; request = refl; round = refl; seen = refl }

round_on : (a b c : Asked) → SameRound a b → SameRound b c → SameRound a c
round_on a b c one two = record {
  line = two.line ∙ one.line;
  request = two.request ∙ one.request;
  round = two.round ∙ one.round;
  seen = two.seen ∙ one.seen;
}

-- what is open was so in the same round, or has seen no server yet
pub data IsRounded (before : Option Asked) (new : Asked) : Type 0 where
  Keeps : (old : Asked) → before ≡ Some old → SameRound old new → IsRounded before new
  Starts : new.seen ≡ [] → IsRounded before new

abbrev AreRounded : Option Asked → Option Asked → Type 0
AreRounded before now = (new : Asked) → now ≡ Some new → IsRounded before new

-- it answers no settle
abbrev pub IsUnsettled : Option Asked → Option (ℕ × Answer) → Type 0
IsUnsettled before given = (asked : Asked) → before ≡ Some asked → asked.request ≡ request.Settle → given ≡ None

-- a glance showed this of a server, in a letter of this one's to the client
pub record HasSight (w : World) (c : ℕ) (sight : Sight) : Type 0 where
  pub letter : Letter
  pub sent : In letter w.sent
  pub own : letter.to ≡ actor.Client c
  pub «from» : letter.from ≡ actor.Server sight.server
  pub rev : letter.rev ≡ sight.rev
  pub is : letter.body ≡ body.Seen sight.line sight.round sight.running sight.inc sight.full

pub data Rounds (w : World) (state : State) (c : ℕ) (client : Client) (reacted : Reaction) : Type 0 where
  Quiet : AreRounded client.asked reacted.client.asked → IsUnsettled client.asked reacted.answer → Rounds w state c client reacted
  Sees : (asked : Asked) (sight : Sight) → client.asked ≡ Some asked → asked.request ≡ request.Settle → HasSight w c sight
      → sight.line ≡ asked.line
      → reacted ≡ settles state client asked sight → Rounds w state c client reacted

-- ### What goes out

goes_same : (state : State) (c : ℕ) (client : Client) (asked new : Asked) → (goes_out state c client asked).client.asked ≡ Some new
    → SameRound asked new
goes_same state c client asked new = by (to_propose state c asked)
  where
    by : (o : Option Command) → (sends_or_proposes state c client asked o).client.asked ≡ Some new → SameRound asked new
    by None e = subst (SameRound asked) (same_some e) (record { line = refl; request = refl; round = refl; seen = refl })
    by (Some command) e = subst (SameRound asked) (same_some e) (round_itself asked)

goes_unanswered : (state : State) (c : ℕ) (client : Client) (asked : Asked) → (goes_out state c client asked).answer ≡ None
goes_unanswered state c client asked = by (to_propose state c asked)
  where
    by : (o : Option Command) → (sends_or_proposes state c client asked o).answer ≡ None
    by None = refl
    by (Some command) = refl

where_rounded : (state : State) (c : ℕ) (client : Client) (o : Option Asked) → client.asked ≡ o
    → AreRounded o (goes_out_where state c client o).client.asked × ((goes_out_where state c client o).answer ≡ None)
where_rounded state c client None none = ((λ new e. none_some none e), refl)
where_rounded state c client (Some asked) is =
    ((λ new e. Keeps asked refl (goes_same state c client asked new e)), goes_unanswered state c client asked)

not_settle : (test : Request → Bool) (asked : Asked) → test request.Settle ≡ false → test asked.request ≡ true
    → asked.request ≢ request.Settle
not_settle test asked off on is = true_false on (ap test is ∙ off)

module _ (w : World) (state : State) (c : ℕ) (client : Client) where
  abbrev R : Reaction → Type 0
  R reacted = Rounds w state c client reacted

  rests_rounds : R (rests client)
  rests_rounds = Quiet (λ new e. Keeps new e (round_itself new)) (λ asked is settle. refl)

  sends_rounds : (asked : Asked) → client.asked ≡ Some asked → R (asks_and_sends state c client asked)
  sends_rounds asked is =
      Quiet (λ new e. Keeps asked is (goes_same state c client asked new e)) (λ other there settle. goes_unanswered state c client asked)

  -- the old map is asked
  old_rounds : (asked : Asked) → client.asked ≡ Some asked → R (goes_the_old_way state c client asked)
  old_rounds asked is =
      let told : Asked = record asked { saw_missing = true; old_way = true } in
      Quiet
      (λ new e. Keeps asked is (round_on asked told new (record { line = refl; request = refl; round = refl; seen = refl })
      (goes_same state c client told new e)))
      (λ other there settle. goes_unanswered state c client told)

  answers_rounds : (asked : Asked) (given : Answer) → client.asked ≡ Some asked → asked.request ≢ request.Settle
      → R (answers client asked given)
  answers_rounds asked given is other = Quiet (λ new e. none_some refl e)
      (λ one there settle. absurd (other (ap (λ (x : Asked). x.request) (same_some (sym is ∙ there)) ∙ settle)))

  -- ### A reply

  replies_rounds : (asked : Asked) → client.asked ≡ Some asked → (rev : ℕ) (said : Body) → R (hears state c client asked rev said)
  replies_rounds asked is rev (body.Data seq bytes) =
      by_test R (replies asked rev (about (body.Data seq bytes)) && is_read asked.request) _ _
      (λ t. answers_rounds asked (answer.Data bytes) is (not_settle is_read asked refl (both_true _ (is_read asked.request) t).1))
      (λ t. rests_rounds)
  replies_rounds asked is rev (body.Written seq) =
      by_test R (replies asked rev (about (body.Written seq)) && is_write asked.request) _ _
      (λ t. answers_rounds asked answer.Ok is (not_settle is_write asked refl (both_true _ (is_write asked.request) t).1))
      (λ t. rests_rounds)
  replies_rounds asked is rev (body.Full seq) =
      by_test R (replies asked rev (about (body.Full seq)) && is_write asked.request) _ _
      (λ t. answers_rounds asked answer.NoSpace is (not_settle is_write asked refl (both_true _ (is_write asked.request) t).1))
      (λ t. rests_rounds)
  replies_rounds asked is rev (body.BlockBusy seq) =
      by_test R (replies asked rev (about (body.BlockBusy seq))) _ _ (λ t. sends_rounds asked is) (λ t. rests_rounds)
  replies_rounds asked is rev (body.Held seq) = by_test R (replies asked rev (about (body.Held seq))) _ _ (λ t. sends_rounds asked is)
      (λ t. rests_rounds)
  replies_rounds asked is rev (body.WrongRev seq) =
      by_test R (replies asked rev (about (body.WrongRev seq))) _ _ (λ t. sends_rounds asked is) (λ t. rests_rounds)
  replies_rounds asked is rev (body.NotHere seq) =
      by_test R (replies asked rev (about (body.NotHere seq)) && is_read asked.request) _ _ (λ t. old_rounds asked is) (λ t. rests_rounds)
  replies_rounds asked is rev _ = rests_rounds

  reply_rounds : (letter : Letter) (o : Option Asked) → client.asked ≡ o → R (hears_of state c client o letter)
  reply_rounds letter None none = rests_rounds
  reply_rounds letter (Some asked) is = replies_rounds asked is letter.rev letter.body

  -- ### News

  -- on the way through the entries
  record Learnt (now : Learning) : Type 0 where
    kept : (new : Asked) → now.client.asked ≡ Some new → (old : Asked) × (client.asked ≡ Some old) × SameRound old new
    unsettled : IsUnsettled client.asked now.answer

  -- an entry that answers what is open answers no settle
  answered_learnt : (now next : Learning) (asked : Asked) → Learnt now → now.client.asked ≡ Some asked → next.client.asked ≡ None
      → asked.request ≢ request.Settle → Learnt next
  answered_learnt now next asked l is gone other = record {
    kept = λ new e. none_some gone e;
    unsettled = λ one there settle.
        let k = l.kept asked is in
        absurd (other (k.2.request ∙ ap (λ (x : Asked). x.request) (same_some (sym k.1 ∙ there)) ∙ settle));
  }

  where_learnt : (now : Learning) (asked : Asked) → Learnt now → now.client.asked ≡ Some asked → asked.request ≢ request.Settle
      → (o : Option Answer)
      → Learnt (answered_where now asked o)
  where_learnt now asked l is other None = l
  where_learnt now asked l is other (Some given) = answered_learnt now _ asked l is refl other

  witnessed_learnt : (now : Learning) (asked : Asked) → Learnt now → now.client.asked ≡ Some asked → (o : Option Answer)
      → (asked.request ≡ request.Settle → o ≡ None) → Learnt (witnessed now asked o)
  witnessed_learnt now asked l is None none = record {
    kept = λ new e.
        let k = l.kept asked is in (
          k.0,
          k.1,
          round_on k.0 asked new k.2
              (subst (SameRound asked) (same_some e) (record { line = refl; request = refl; round = refl; seen = refl })),
        );
    unsettled = l.unsettled;
  }
  witnessed_learnt now asked l is (Some given) none = answered_learnt now _ asked l is refl (λ settle. none_some (none settle) refl)

  never_refused : (s : State) (told : Bool) (asked : Request) → asked ≡ request.Settle → refusal s told asked ≡ None
  unfolding refusal
  never_refused s told asked e = ap (λ r. refusal s told r) e

  judged_learnt : (entry : Command) (now : Learning) (asked : Asked) → Learnt now → now.client.asked ≡ Some asked → (o : Option Command)
      → command_of c asked.seq asked.request ≡ o → Learnt (judged_by c entry now asked o)
  judged_learnt entry now asked l is (Some command) own =
      where_learnt now asked l is (λ settle. none_some (ap (command_of c asked.seq) settle) own)
      (verdict_for asked.seq (latest now.state c))
  judged_learnt entry now asked l is None own =
      by_test Learnt (is_witness c asked.seq entry) _ _
      (λ t. witnessed_learnt now asked l is (refusal now.state asked.saw_missing asked.request) (never_refused now.state asked.saw_missing asked.request))
      (λ t. l)

  one_learnt : (entry : Command) (now : Learning) → Learnt now → (o : Option Asked) → now.client.asked ≡ o → Learnt (judged c entry now o)
  one_learnt entry now l None none = l
  one_learnt entry now l (Some asked) is = judged_learnt entry now asked l is (command_of c asked.seq asked.request) refl

  all_learnt : (entries : List Command) (now : Learning) → Learnt now → Learnt (takes_all c now entries)
  all_learnt [] now l = l
  all_learnt (entry ∷ entries) now l =
      let next : Learning =
      record now { state = after now.state entry; client = record now.client { applied = now.client.applied ++ entry ∷ [] } } in
      all_learnt entries (takes_entry c now entry)
      (one_learnt entry next (record { kept = l.kept; unsettled = l.unsettled }) now.client.asked refl)

  out_rounds : (now : Learning) → Learnt now → R (then_goes_out c now)
  out_rounds now l = Quiet (λ new e. by now.client.asked refl new e) l.unsettled
    where
      by : (o : Option Asked) → now.client.asked ≡ o → AreRounded client.asked (goes_out_where now.state c now.client o).client.asked
      by None none new e = none_some none e
      by (Some asked) is new e =
          let k = l.kept asked is in Keeps k.0 k.1 (round_on k.0 asked new k.2 (goes_same now.state c now.client asked new e))

  news_rounds : (entries : List Command) → R (takes_entries state c client entries)
  news_rounds [] = rests_rounds
  news_rounds (entry ∷ entries) =
      let begun : Learning = record { state = state; client = client; answer = None } in
      out_rounds _ (all_learnt (entry ∷ entries) begun
      (record { kept = λ new e. (new, e, round_itself new); unsettled = λ asked is settle. refl }))

  -- ### A glance

  for_rounds : (asked : Asked) (sight : Sight) → client.asked ≡ Some asked → HasSight w c sight → sight.line ≡ asked.line → (what : Request)
      → asked.request ≡ what → R (sees_for state client asked sight what)
  for_rounds asked sight is has same (request.Stop server) e =
      answers_rounds asked answer.Ok is (λ settle. let f : request.Stop server ≡ request.Settle = sym e ∙ settle in cc)
  for_rounds asked sight is has same (request.StopAt server at) e =
      answers_rounds asked answer.Ok is (λ settle. let f : request.StopAt server at ≡ request.Settle = sym e ∙ settle in cc)
  for_rounds asked sight is has same (request.Fault server which kind at) e =
      answers_rounds asked answer.Ok is (λ settle. let f : request.Fault server which kind at ≡ request.Settle = sym e ∙ settle in cc)
  for_rounds asked sight is has same (request.Start server) e =
      answers_rounds asked (if sight.running then answer.Ok else answer.Failed) is
      (λ settle. let f : request.Start server ≡ request.Settle = sym e ∙ settle in cc)
  for_rounds asked sight is has same (request.Blank server) e =
      answers_rounds asked (if sight.running then answer.Ok else answer.Failed) is
      (λ settle. let f : request.Blank server ≡ request.Settle = sym e ∙ settle in cc)
  for_rounds asked sight is has same request.Settle e = Sees asked sight is e has same refl
  for_rounds asked sight is has same _ e = rests_rounds

  seen_rounds : (sight : Sight) → HasSight w c sight → (o : Option Asked) → client.asked ≡ o → R (sees state client o sight)
  seen_rounds sight has None none = rests_rounds
  seen_rounds sight has (Some asked) is =
      by_test R (sight.line == asked.line) _ _
      (λ t. for_rounds asked sight is has (same_numbers sight.line asked.line t) asked.request refl) (λ t. rests_rounds)

  from_rounds : (letter : Letter) → In letter w.sent → letter.to ≡ actor.Client c → (sight : Sight) → letter.rev ≡ sight.rev
      → letter.body ≡ body.Seen sight.line sight.round sight.running sight.inc sight.full → (who : Actor) → letter.from ≡ who
      → R (sees_from state client who sight)
  from_rounds letter sent own sight rev is (actor.Server n) e =
      seen_rounds (record sight { server = n }) (record { letter = letter; sent = sent; own = own; «from» = e; rev = rev; is = is })
      client.asked refl
  from_rounds letter sent own sight rev is (actor.Client d) e = rests_rounds

  letter_rounds : (letter : Letter) → In letter w.sent → letter.to ≡ actor.Client c → (said : Body) → letter.body ≡ said
      → R (hears_any state c client letter said)
  letter_rounds letter sent own (body.News from commands) e = news_rounds (next_entries client from commands)
  letter_rounds letter sent own (body.Seen line round running inc full) e =
      from_rounds letter sent own
      (record { server = 0; rev = letter.rev; line = line; round = round; running = running; inc = inc; full = full }) refl e letter.from
      refl
  letter_rounds letter sent own _ e = reply_rounds letter client.asked refl

-- ### A step

called_rounds : (w : World) (state : State) (c : ℕ) (client : Client) → client.asked ≡ None → (o : Option Line)
    → Rounds w state c client (calls state c client o)
called_rounds w state c client free None = rests_rounds w state c client
called_rounds w state c client free (Some line) =
    Quiet (λ new e. Starts (goes_same state c (record client { seq = client.seq + 1 }) _ new e).seen) (λ asked is settle. none_some free is)

pub client_rounds : (setting : Setting) (w : World) (c : ℕ) (what : Step) → MayClient what setting w c
    → Rounds w (client_state setting w c) c (w.clients c)
    (client_step what (client_state setting w c) c (w.clients c) (next_line setting.lines c (w.clients c)))
unfolding heard ticked
client_rounds setting w c (Call number) may = called_rounds w (client_state setting w c) c (w.clients c) may.free
    (next_line setting.lines c (w.clients c))
client_rounds setting w c (Deliver letter) may = letter_rounds w (client_state setting w c) c
    (w.clients c) letter may.sent may.own letter.body refl
client_rounds setting w c Tick may =
    let r = where_rounded (client_state setting w c) c (w.clients c) (w.clients c).asked refl in Quiet r.0 (λ asked is settle. r.1)
client_rounds setting w c _ may = absurd may
