-- Each step of a client keeps what is kept of a world.
use Rattle.law_log.proofs.Imports.{[], if◌then◌else◌, ◌&&◌, ◌++◌, ◌+◌, ◌-◌, ◌<◌, ◌==◌, ◌∙◌, ◌∷◌, ◌≡◌, ◌≤◌, ◌⊎◌, Actor, Among, Answer, Asked, Body, Bool, Cell}
use Rattle.law_log.proofs.Imports.{Client, Command, DiskView, Learning, Letter, Line, List, None, Option, Reaction, Request, Sight, Some, State, Turn}
use Rattle.law_log.proofs.Imports.{Witness, about, after, answered_where, answers, ap, arith, asking, asks_and_sends, by_test, called, cell_asked, command_of}
use Rattle.law_log.proofs.Imports.{epoch_for, false, first_round, get_drop, get_last, goes_out, goes_out_where, goes_the_old_way, heard, hears, hears_any}
use Rattle.law_log.proofs.Imports.{hears_of, in-append, in_turn, inl, inr, is_read, is_settled, is_witness, is_write, judged, judged_by, latest, lead, length}
use Rattle.law_log.proofs.Imports.{lines_of, map, nat_le, nat_tests, next_entries, none_some, not, only, or_command, post_in_turn, posts_for, read_posts}
use Rattle.law_log.proofs.Imports.{read_posts_at, readers, refl, refusal, replies, rests, rounds, same_some, sees, sees_for, sees_from, sends_or_proposes}
use Rattle.law_log.proofs.Imports.{servers_of, settles, slice_get, stays_open, subst, suc, sym, takes_all, takes_entries, takes_entry, then_goes_out, ticked}
use Rattle.law_log.proofs.Imports.{to_propose, true, true≢false, verdict_for, way_now, with_sight, witness_where, witnessed, write_posts, ℕ, ⊤}
use Rattle.spec_rules.specs.Posts.{Post}
use Rattle.law_log.specs.AgreedLog.{IsOpen}
use Rattle.law_log.proofs.PairJobsLeaveLog.{IsDated, posted_dated}
use Rattle.law_log.proofs.ScheduleTurns.{no_posts}
use Rattle.petal_msg.specs.declared.body.Body.TheVariants as body
use Rattle.petal_msg.specs.declared.letter.Actor.TheVariants as actor
use Rattle.script_lines.specs.declared.answer.Answer.TheVariants as answer
use Rattle.script_lines.specs.declared.request.Request.TheVariants as request

-- what a client posts: no letter of a ballot, no News and no Down, and a command only of its open request
abbrev pub IsClients : (Command → Type 0) → Body → Type 0
IsClients PairState (body.Down server inc) = ⊥
IsClients PairState (body.Propose command) = PairState command
IsClients PairState (body.Pax said) = ⊥
IsClients PairState (body.News after commands) = ⊥
IsClients PairState _ = ⊤

dated_clients : (PairState : Command → Type 0) (what : Body) → IsDated what → IsClients PairState what
dated_clients PairState (body.Down server inc) h = absurd (true≢false h)
dated_clients PairState (body.Propose command) h = absurd (true≢false h)
dated_clients PairState (body.Pax said) h = absurd (true≢false h)
dated_clients PairState (body.News after commands) h = absurd (true≢false h)
dated_clients PairState _ h = tt

-- the command is of a client's request of this number
pub record IsOf (lines : List Line) (me called : ℕ) (command : Command) : Type 0 where
  pub before : ℕ
  pub line : Line
  pub is : slice_get (lines_of lines me) before ≡ Some line
  pub past : before < called
  pub so : (command_of me (before + 1) line.request ≡ Some command) ⊎ ((turn : ℕ) × (command ≡ Witness me (before + 1) turn))

-- a client after a step. What it has applied was told
pub record IsFine (Told : ℕ → Command → Type 0) (lines : List Line) (me : ℕ) (client : Client) : Type 0 where
  pub applied : (i : ℕ) (command : Command) → slice_get client.applied i ≡ Some command → Told (i + 1) command
  pub asked : (asked : Asked) → client.asked ≡ Some asked → IsOpen lines me client.seq asked

pub record Reacts (Told : ℕ → Command → Type 0) (lines : List Line) (me before : ℕ) (reacted : Reaction) : Type 0 where
  pub later : before ≤ reacted.client.seq
  pub fine : IsFine Told lines me reacted.client
  pub posts : (post : Post) → Among post reacted.posts → IsClients (IsOf lines me reacted.client.seq) post.body

-- what a call of the line opens, as its client's request of this number
abbrev pub newly_asked : State → Line → ℕ → Asked
newly_asked state line seq = record {
  line = line.number;
  seq = seq;
  request = line.request;
  turn = 0;
  rev = state.rev;
  witnesses = 0;
  saw_missing = false;
  old_way = false;
  round = first_round line.request;
  seen = [];
}

-- ### What is posted

read_dated : (state : State) (cell : Cell) (epoch : Option ℕ) (client seq turn : ℕ) (post : Post)
    → Among post (read_posts_at state cell epoch client seq turn) → IsDated post.body
read_dated state cell None client seq turn post i = no_posts post i
read_dated state cell (Some epoch) client seq turn post i = posted_dated (in_turn (readers state cell) turn) (body.Read client seq cell epoch) refl post i

reads_dated : (state : State) (o : Option DiskView) (snap : Option (List ℕ)) (client seq : ℕ) (at : Turn) (post : Post)
    → Among post (read_posts state o snap client seq at) → IsDated post.body
reads_dated state None snap client seq at post i = no_posts post i
reads_dated state (Some disk) snap client seq at post i =
    read_dated state (cell_asked state disk at.block at.old_way) (epoch_for state disk snap) client seq at.turn post i

writes_dated : (state : State) (o : Option DiskView) (client seq block : ℕ) (bytes : List ℕ) (post : Post)
    → Among post (write_posts state o client seq block bytes) → IsDated post.body
writes_dated state None client seq block bytes post i = no_posts post i
writes_dated state (Some disk) client seq block bytes post i =
    posted_dated (lead state (cell_asked state disk block false)) (body.Write client seq (cell_asked state disk block false) disk.epoch bytes) refl post i

request_dated : (state : State) (client seq turn : ℕ) (old_way : Bool) (asked : Request) (post : Post)
    → Among post (posts_for state client seq turn old_way asked) → IsDated post.body
request_dated state client seq turn old_way (request.Write name block pattern) post i = writes_dated state _ client seq block _ post i
request_dated state client seq turn old_way (request.Read name snap block) post i =
    reads_dated state _ snap client seq (record { block = block; turn = turn; old_way = old_way }) post i
request_dated state client seq turn old_way _ post i = no_posts post i

length_one : (xs : List Command) (x : Command) → length (xs ++ x ∷ []) ≡ length xs + 1
length_one [] x = omega arith
length_one (y ∷ xs) x = let rest = length_one xs x in omega arith

next_told : (Told : ℕ → Command → Type 0) (client : Client) (after : ℕ) (commands : List Command)
    → ((i : ℕ) (c : Command) → slice_get commands i ≡ Some c → Told (after + i + 1) c)
    → (i : ℕ) (c : Command) → slice_get (next_entries client after commands) i ≡ Some c → Told (length client.applied + i + 1) c
next_told Told client after commands told i c e =
    by_test (λ entries. slice_get entries i ≡ Some c → Told (length client.applied + i + 1) c) (nat_le after (length client.applied)) _ _
    (λ le e.
    let at = told (length client.applied - after + i) c (get_drop (length client.applied - after) commands i c e) in
    let few : after ≤ length client.applied = grind (arith, nat_tests) in
    let same : after + (length client.applied - after + i) + 1 ≡ length client.applied + i + 1 = omega arith in
    subst (λ place. Told place c) same at)
    (λ more e. none_some refl e) e

module _ (Told : ℕ → Command → Type 0) (lines : List Line) (me : ℕ) (state : State) where
  abbrev Fine : Client → Type 0
  Fine = IsFine Told lines me

  resting : (client : Client) → Fine client → Reacts Told lines me client.seq (rests client)
  resting client f = record { later = omega arith; fine = f; posts = λ post i. no_posts post i }

  -- an open request, sent again
  open_as : (called : ℕ) (asked other : Asked) → other.seq ≡ asked.seq → other.request ≡ asked.request → IsOpen lines me called asked
      → IsOpen lines me called other
  open_as called asked other seq same o = record { before = o.before; line = o.line; is = o.is; seq = seq ∙ o.seq; request = same ∙ o.request; past = o.past }

  open_now : (called : ℕ) (asked other : Asked) → Some asked ≡ Some other → IsOpen lines me called asked → IsOpen lines me called other
  open_now called asked other e o = subst (IsOpen lines me called) (same_some e) o

  own_command : (called : ℕ) (asked : Asked) (c : Command) → IsOpen lines me called asked → to_propose state me asked ≡ Some c → IsOf lines me called c
  own_command called asked c o e = by (command_of me asked.seq asked.request) refl (refusal state asked.saw_missing asked.request) e
    where
      by : (first : Option Command) → command_of me asked.seq asked.request ≡ first → (cause : Option Answer)
          → or_command first (witness_where cause me asked) ≡ Some c → IsOf lines me called c
      by (Some d) is cause e = record {
        before = o.before;
        line = o.line;
        is = o.is;
        past = o.past;
        so = inl (ap (λ (x : ℕ × Request). command_of me x.0 x.1) (λ i. (sym o.seq i, sym o.request i)) ∙ is ∙ e);
      }
      by None is (Some cause) e = record {
        before = o.before;
        line = o.line;
        is = o.is;
        past = o.past;
        so = inr (asked.witnesses, sym (same_some e) ∙ ap (λ k. Witness me k asked.witnesses) o.seq);
      }
      by None is None e = none_some refl e

  goes : (client : Client) (asked : Asked) → ((i : ℕ) (command : Command) → slice_get client.applied i ≡ Some command → Told (i + 1) command)
      → IsOpen lines me client.seq asked → Reacts Told lines me client.seq (goes_out state me client asked)
  goes client asked applied o = by (to_propose state me asked) refl
    where
      by : (what : Option Command) → to_propose state me asked ≡ what → Reacts Told lines me client.seq (sends_or_proposes state me client asked what)
      by None is = record {
        later = omega arith;
        fine = record {
          applied = applied;
          asked = λ other e. open_now client.seq (record asked { turn = asked.turn + 1; rev = state.rev; old_way = way_now state asked }) other e
              (open_as client.seq asked _ refl refl o);
        };
        posts = λ post i. dated_clients _ post.body (request_dated state me asked.seq asked.turn (way_now state asked) asked.request post i);
      }
      by (Some c) is = record {
        later = omega arith;
        fine = record { applied = applied; asked = λ other e. open_now client.seq asked other e o };
        posts = λ post i. only (λ (x : Post). IsClients (IsOf lines me client.seq) x.body) _ post i (own_command client.seq asked c o is);
      }

  goes_where : (client : Client) (asked : Option Asked) → Fine client → client.asked ≡ asked
      → Reacts Told lines me client.seq (goes_out_where state me client asked)
  goes_where client None f e = resting client f
  goes_where client (Some asked) f e = goes client asked f.applied (f.asked asked e)

  asks_too : (client : Client) (before : ℕ) (reacted : Reaction) → Reacts Told lines me before reacted
      → Reacts Told lines me before (asking state client reacted)
  asks_too client before reacted r = record {
    later = r.later;
    fine = record { applied = r.fine.applied; asked = r.fine.asked };
    posts = λ post i. elim (in-append post (post_in_turn client (body.Ask state.rev)) reacted.posts i) [
      | inl ask ↦ only (λ (x : Post). IsClients (IsOf lines me reacted.client.seq) x.body) _ post ask tt
      | inr old ↦ r.posts post old
    ];
  }

  wider : (before earlier : ℕ) (reacted : Reaction) → earlier ≤ before → Reacts Told lines me before reacted → Reacts Told lines me earlier reacted
  wider before earlier reacted le r = record { later = (let f = r.later in omega arith); fine = r.fine; posts = r.posts }

  calling : (client : Client) (line : Line) → Fine client → slice_get (lines_of lines me) client.seq ≡ Some line
      → Reacts Told lines me client.seq (called state me client line.number line.request)
  calling client line f is =
      wider (client.seq + 1) client.seq _ (omega arith)
      (goes (record client { seq = client.seq + 1 }) (newly_asked state line (client.seq + 1)) f.applied
      (record { before = client.seq; line = line; is = is; seq = refl; request = refl; past = omega arith }))

  -- ### A reply

  answering : (client : Client) (asked : Asked) (given : Answer) → Fine client → Reacts Told lines me client.seq (answers client asked given)
  answering client asked given f = record {
    later = omega arith;
    fine = record { applied = f.applied; asked = λ other e. none_some refl e };
    posts = λ post i. no_posts post i;
  }

  again : (client : Client) (asked : Asked) → Fine client → client.asked ≡ Some asked → Reacts Told lines me client.seq (asks_and_sends state me client asked)
  again client asked f e = asks_too client client.seq _ (goes client asked f.applied (f.asked asked e))

  -- it goes on by the old map
  the_old_way : (client : Client) (asked : Asked) → Fine client → client.asked ≡ Some asked
      → Reacts Told lines me client.seq (goes_the_old_way state me client asked)
  the_old_way client asked f e =
      goes client (record asked { saw_missing = true; old_way = true }) f.applied (open_as client.seq asked _ refl refl (f.asked asked e))

  -- a settle goes on, with its round as it is then
  staying : (client : Client) (asked other : Asked) → Fine client → IsOpen lines me client.seq asked → other.seq ≡ asked.seq → other.request ≡ asked.request
      → Reacts Told lines me client.seq (stays_open client other)
  staying client asked other f o seq same = record {
    later = omega arith;
    fine = record { applied = f.applied; asked = λ third e. open_now client.seq other third e (open_as client.seq asked other seq same o) };
    posts = λ post i. no_posts post i;
  }

  round_on : (client : Client) (asked other : Asked) → Fine client → IsOpen lines me client.seq asked → other.seq ≡ asked.seq → other.request ≡ asked.request
      → Reacts Told lines me client.seq (rounds state client other)
  round_on client asked other f o seq same =
      by_test (Reacts Told lines me client.seq) (not (length other.seen == servers_of state)) _ _ (λ _. staying client asked other f o seq same)
      (λ _. by_test (Reacts Told lines me client.seq) (is_settled state (map (λ row. row.1) other.seen)) _ _ (λ _. answering client other answer.Ok f)
      (λ _. staying client asked (record other { round = other.round + 1; seen = [] }) f o seq same))

  settling : (client : Client) (asked : Asked) (sight : Sight) → Fine client → IsOpen lines me client.seq asked
      → Reacts Told lines me client.seq (settles state client asked sight)
  settling client asked sight f o =
      by_test (Reacts Told lines me client.seq) sight.full _ _ (λ _. answering client asked answer.NoSpace f)
      (λ _. by_test (Reacts Told lines me client.seq)
      ((sight.round == asked.round) && nat_le sight.rev state.rev) _ _ (λ _. round_on client asked (with_sight asked sight) f o refl refl)
      (λ _. resting client f))

  seen_for : (client : Client) (asked : Asked) (sight : Sight) (what : Request) → Fine client → IsOpen lines me client.seq asked
      → Reacts Told lines me client.seq (sees_for state client asked sight what)
  seen_for client asked sight (request.Stop server) f o = answering client asked answer.Ok f
  seen_for client asked sight (request.StopAt server at) f o = answering client asked answer.Ok f
  seen_for client asked sight (request.Fault server which kind at) f o = answering client asked answer.Ok f
  seen_for client asked sight (request.Start server) f o = answering client asked (if sight.running then answer.Ok else answer.Failed) f
  seen_for client asked sight (request.Blank server) f o = answering client asked (if sight.running then answer.Ok else answer.Failed) f
  seen_for client asked sight request.Settle f o = settling client asked sight f o
  seen_for client asked sight _ f o = resting client f

  seen : (client : Client) (asked : Option Asked) (sight : Sight) → Fine client → client.asked ≡ asked
      → Reacts Told lines me client.seq (sees state client asked sight)
  seen client None sight f e = resting client f
  seen client (Some asked) sight f e =
      by_test (Reacts Told lines me client.seq) (sight.line == asked.line) _ _ (λ _. seen_for client asked sight asked.request f (f.asked asked e))
      (λ _. resting client f)

  seen_from : (client : Client) (who : Actor) (sight : Sight) → Fine client → Reacts Told lines me client.seq (sees_from state client who sight)
  seen_from client (actor.Server n) sight f = seen client client.asked (record sight { server = n }) f refl
  seen_from client (actor.Client c) sight f = resting client f

  replied : (client : Client) (asked : Asked) → Fine client → client.asked ≡ Some asked → (rev : ℕ) (what : Body)
      → Reacts Told lines me client.seq (hears state me client asked rev what)
  replied client asked f e rev (body.Data seq bytes) =
      by_test (Reacts Told lines me client.seq) (replies asked rev (about (body.Data seq bytes)) && is_read asked.request) _ _
      (λ _. answering client asked _ f) (λ _. resting client f)
  replied client asked f e rev (body.Written seq) =
      by_test (Reacts Told lines me client.seq) (replies asked rev (about (body.Written seq)) && is_write asked.request) _ _
      (λ _. answering client asked _ f) (λ _. resting client f)
  replied client asked f e rev (body.Full seq) =
      by_test (Reacts Told lines me client.seq) (replies asked rev (about (body.Full seq)) && is_write asked.request) _ _ (λ _. answering client asked _ f)
      (λ _. resting client f)
  replied client asked f e rev (body.BlockBusy seq) =
      by_test (Reacts Told lines me client.seq) (replies asked rev (about (body.BlockBusy seq))) _ _ (λ _. again client asked f e) (λ _. resting client f)
  replied client asked f e rev (body.Held seq) =
      by_test (Reacts Told lines me client.seq) (replies asked rev (about (body.Held seq))) _ _ (λ _. again client asked f e) (λ _. resting client f)
  replied client asked f e rev (body.WrongRev seq) =
      by_test (Reacts Told lines me client.seq) (replies asked rev (about (body.WrongRev seq))) _ _ (λ _. again client asked f e) (λ _. resting client f)
  replied client asked f e rev (body.NotHere seq) =
      by_test (Reacts Told lines me client.seq) (replies asked rev (about (body.NotHere seq)) && is_read asked.request) _ _
      (λ _. the_old_way client asked f e) (λ _. resting client f)
  replied client asked f e rev _ = resting client f

  replied_of : (client : Client) (asked : Option Asked) (letter : Letter) → Fine client → client.asked ≡ asked
      → Reacts Told lines me client.seq (hears_of state me client asked letter)
  replied_of client None letter f e = resting client f
  replied_of client (Some asked) letter f e = replied client asked f e letter.rev letter.body

-- ### News

module _ (Told : ℕ → Command → Type 0) (lines : List Line) (me : ℕ) (state : State) where
  record Kept (now next : Learning) : Type 0 where
    applied : next.client.applied ≡ now.client.applied
    seq : next.client.seq ≡ now.client.seq
    fine : IsFine Told lines me next.client

  kept_answer : (now : Learning) (asked : Asked) (o : Option Answer) → IsFine Told lines me now.client → Kept now (answered_where now asked o)
  kept_answer now asked None f = record { applied = refl; seq = refl; fine = f }
  kept_answer now asked (Some given) f = record { applied = refl; seq = refl; fine = record { applied = f.applied; asked = λ other e. none_some refl e } }

  kept_witness : (now : Learning) (asked : Asked) (o : Option Answer) → IsFine Told lines me now.client → now.client.asked ≡ Some asked
      → Kept now (witnessed now asked o)
  kept_witness now asked None f e = record {
    applied = refl;
    seq = refl;
    fine = record {
      applied = f.applied;
      asked = λ other is. open_now Told lines me state now.client.seq (record asked { witnesses = asked.witnesses + 1 }) other is
          (open_as Told lines me state now.client.seq asked _ refl refl (f.asked asked e));
    };
  }
  kept_witness now asked (Some given) f e = record { applied = refl; seq = refl; fine = record { applied = f.applied; asked = λ other e. none_some refl e } }

  kept_by : (entry : Command) (now : Learning) (asked : Asked) (o : Option Command) → IsFine Told lines me now.client → now.client.asked ≡ Some asked
      → Kept now (judged_by me entry now asked o)
  kept_by entry now asked (Some command) f e = kept_answer now asked (verdict_for asked.seq (latest now.state me)) f
  kept_by entry now asked None f e =
      by_test (Kept now) (is_witness me asked.seq entry) _ _ (λ _. kept_witness now asked (refusal now.state asked.saw_missing asked.request) f e)
      (λ _. record { applied = refl; seq = refl; fine = f })

  kept_judged : (entry : Command) (now : Learning) (asked : Option Asked) → IsFine Told lines me now.client → now.client.asked ≡ asked
      → Kept now (judged me entry now asked)
  kept_judged entry now None f e = record { applied = refl; seq = refl; fine = f }
  kept_judged entry now (Some asked) f e = kept_by entry now asked (command_of me asked.seq asked.request) f e

  one_entry : (now : Learning) (entry : Command) → IsFine Told lines me now.client → Told (length now.client.applied + 1) entry
      → IsFine Told lines me (takes_entry me now entry).client × ((takes_entry me now entry).client.applied ≡ now.client.applied ++ entry ∷ []) ×
      ((takes_entry me now entry).client.seq ≡ now.client.seq)
  one_entry now entry f told =
      let next : Learning = record now { state = after now.state entry; client = record now.client { applied = now.client.applied ++ entry ∷ [] } } in
      let grown : IsFine Told lines me next.client = record {
        applied = λ i command e. elim (get_last now.client.applied entry i command e) [
          | inl old ↦ f.applied i command old
          | inr last ↦ subst (λ (x : ℕ × Command). Told (x.0 + 1) x.1) (λ k. (sym last.0 k, sym last.1 k)) told
        ];
        asked = f.asked;
      } in
      let k = kept_judged entry next now.client.asked grown refl in
      (k.fine, k.applied, k.seq)

  all_entries : (entries : List Command) (now : Learning) → IsFine Told lines me now.client
      → ((i : ℕ) (c : Command) → slice_get entries i ≡ Some c → Told (length now.client.applied + i + 1) c)
      → IsFine Told lines me (takes_all me now entries).client × ((takes_all me now entries).client.seq ≡ now.client.seq)
  all_entries [] now f told = (f, refl)
  all_entries (entry ∷ entries) now f told =
      let first : length now.client.applied + 0 + 1 ≡ length now.client.applied + 1 = omega arith in
      let one = one_entry now entry f (subst (λ place. Told place entry) first (told 0 entry refl)) in
      let many : length (takes_entry me now entry).client.applied ≡ length now.client.applied + 1 = ap length one.1 ∙ length_one now.client.applied entry in
      let rest = all_entries entries (takes_entry me now entry) one.0
      (λ i c e. let at : length now.client.applied + suc i + 1 ≡ length (takes_entry me now entry).client.applied + i + 1 = omega arith in
      subst (λ place. Told place c) at (told (suc i) c e)) in
      (rest.0, rest.1 ∙ one.2)

  news_out : (now : Learning) → IsFine Told lines me now.client → Reacts Told lines me now.client.seq (then_goes_out me now)
  news_out now f =
      let r = goes_where Told lines me now.state now.client now.client.asked f refl in record { later = r.later; fine = r.fine; posts = r.posts }

  news_taken : (client : Client) (entries : List Command) → IsFine Told lines me client
      → ((i : ℕ) (c : Command) → slice_get entries i ≡ Some c → Told (length client.applied + i + 1) c)
      → Reacts Told lines me client.seq (takes_entries state me client entries)
  news_taken client [] f told = resting Told lines me state client f
  news_taken client (entry ∷ entries) f told =
      let now = takes_all me (record { state = state; client = client; answer = None }) (entry ∷ entries) in
      let all = all_entries (entry ∷ entries) (record { state = state; client = client; answer = None }) f told in
      let r = news_out now all.0 in
      record { later = (let f = r.later in let g = all.1 in omega arith); fine = r.fine; posts = r.posts }

  heard_letter : (client : Client) (letter : Letter) → IsFine Told lines me client
      → ((after : ℕ) (commands : List Command) → letter.body ≡ body.News after commands → (i : ℕ) (c : Command) → slice_get commands i ≡ Some c
      → Told (after + i + 1) c)
      → (what : Body) → letter.body ≡ what → Reacts Told lines me client.seq (hears_any state me client letter what)
  heard_letter client letter f told (body.News after commands) e =
      news_taken client (next_entries client after commands) f (next_told Told client after commands (told after commands e))
  heard_letter client letter f told (body.Seen line round running inc full) e = seen_from Told lines me state client letter.from _ f
  heard_letter client letter f told _ e = replied_of Told lines me state client client.asked letter f refl

module _ (Told : ℕ → Command → Type 0) (lines : List Line) (me : ℕ) (state : State) (client : Client) (f : IsFine Told lines me client) where
  pub calls_so : (line : Line) → slice_get (lines_of lines me) client.seq ≡ Some line
      → Reacts Told lines me client.seq (called state me client line.number line.request)
  calls_so line is = calling Told lines me state client line f is

  pub hears_so : (letter : Letter)
      → ((after : ℕ) (commands : List Command) → letter.body ≡ body.News after commands → (i : ℕ) (c : Command) → slice_get commands i ≡ Some c
      → Told (after + i + 1) c)
      → Reacts Told lines me client.seq (heard state me client letter)
  unfolding heard
  hears_so letter told = let r = heard_letter Told lines me state client letter f told letter.body refl in
      record { later = r.later; fine = r.fine; posts = r.posts }

  pub ticks_so : Reacts Told lines me client.seq (ticked state me client)
  unfolding ticked
  ticks_so =
      let r = asks_too Told lines me state client client.seq _ (goes_where Told lines me state client client.asked f refl) in
      record { later = r.later; fine = r.fine; posts = r.posts }
