-- Each read that is answered with data is looked at once.
use Rattle.law_answers.proofs.Imports.{[], if◌then◌else◌, ◌++◌, ◌-◌, ◌∙◌, ◌∷◌, ◌≡◌, ◌⊎◌, AreRising, AreSteps, Body, Bool, Event, Follows, Grounded, HasData}
use Rattle.law_answers.proofs.Imports.{In, IsMoment, Letter, Line, List, Look, MayActor, MayClient, MayDeliver, NotThere, Option, Record, Request, Run}
use Rattle.law_answers.proofs.Imports.{Setting, Some, WasSent, World, accepted, ap, append-nil, append_assoc, at_moment, before_part, by_bool, false}
use Rattle.law_answers.proofs.Imports.{flat_map, follows_in, inl, inr, is_ask, length, line_by, log_rev, look_for, none_some, old_data, one_client, reads_old}
use Rattle.law_answers.proofs.Imports.{reads_old_is, refl, rev_of, same_data, same_seq, same_some, setting_of, start, stepped, subst, sym, true, true_false}
use Rattle.law_answers.proofs.Imports.{turns, was_sent, world_after, ℕ}
use Rattle.law_answers.proofs.ListPositions.{AreOne, further, one_moment, sooner, AreOrdered, Are_one, Is_former, Is_latter, ordered}
use Rattle.script_lines.specs.Requests.{is_read}
use Rattle.law_answers.proofs.LinesHavePlaces.{line_at}
use Rattle.law_answers.specs.ReadLinks.{IsReadFrom}
use Rattle.law_answers.specs.Looks.{HasItsLook, IsCalledIn, IsLookedAtOnce, beside, letter_looks, look_beside, look_beside_data, of_line, record_looks}
use Rattle.law_answers.specs.Looks.{looks_at}
use Rattle.law_answers.proofs.OneRecordAnswers.{Answers, accepted_by, deliver_is, same_line, the_answer, the_one, world_split}
use Rattle.law_answers.proofs.LettersTellLooks.{By_data, By_turning, IsToldBy, TellsIt, beside_one, line_looks, none_of_line, told_by}
use Rattle.law_answers.proofs.RecordsInOrder.{From_client, From_server, IsSentFrom, follows_on, sent_after, sent_by, sent_once}
use Rattle.law_answers.proofs.OneReplyEachRead.{IsReply, answers_read, is_of_read}
use Rattle.law_answers.proofs.SearchesFindLooks.{HasTurn, finds, found, is_accepted}
use Rattle.law_answers.proofs.ReadsWereCalled.{read_called, read_turned}
use Rattle.law_answers.proofs.LawsBelow.{stands_after}
use Rattle.law_answers.proofs.ClientHistorySteps.{own_says}
use Rattle.law_answers.proofs.ReadersServeLinks.{unlost}
use Rattle.law_answers.proofs.ReadsTurnToOldMap.{IsTurn, IsTurnOf, WasTurned, turn_is_seen, turn_of, turns_once}
use Rattle.petal_msg.specs.declared.body.Body.TheVariants as body
use Rattle.petal_msg.specs.declared.letter.Actor.TheVariants as actor
use Rattle.script_lines.specs.declared.answer.Answer.TheVariants as answer
use Rattle.script_lines.specs.declared.request.Request.TheVariants as request

-- ### Words

replies_are : (what : Body) (seq : ℕ) → answers_read what ≡ Some seq → (is_of_read what ≡ true) × (is_ask what ≡ false)
replies_are (body.Data k bytes) seq e = (refl, refl)
replies_are (body.NotHere k) seq e = (refl, refl)
replies_are _ seq e = none_some refl e

-- a read, by its parts
record IsReadOf (asked : Request) : Type 0 where
  name : List ℕ
  snap : Option (List ℕ)
  block : ℕ
  is : asked ≡ request.Read name snap block

as_read : (asked : Request) → is_read asked ≡ true → IsReadOf asked
as_read (request.Read name snap block) e = record { name = name; snap = snap; block = block; is = refl }
as_read _ e = true_false e refl

-- what a record tells that sent one letter
one_look : (setting : Setting) (w next : World) (own : Record) (later : List Record) (letter : Letter) (number : ℕ) (look : Event) (events : List Event)
    → own.sent ≡ letter ∷ [] → letter_looks setting w next own.actor later letter letter.body ≡ beside number events → events ≡ look ∷ []
    → of_line number (record_looks setting w next own later) ≡ (number, look) ∷ []
one_look setting w next own later letter number look events alone is one =
    ap (λ letters. of_line number (flat_map (λ l. letter_looks setting w next own.actor later l l.body) letters)) alone
    ∙ ap (of_line number) (append-nil (letter_looks setting w next own.actor later letter letter.body) ∙ is)
    ∙ beside_one number look events one

module _ (run : Run) (rise : AreRising run.script.lines) where
  open run use {script, sound, records}

  abbrev setting : Setting
  setting = setting_of script

  abbrev At : List Record → World
  At rs = world_after setting (start setting) rs

  legal_at : (m : IsMoment records) → AreSteps script m.prefix
  legal_at m = (at_moment run m).prior.legal

  -- what the laws below know of the world before this moment
  abbrev grounded_at : IsMoment records → Grounded
  grounded_at m =
      let st = stands_after script m.prefix sound (legal_at m) in
      record { setting = setting; state = st.state; w = At m.prefix; firm = st.ground.ready.firm; ground = st.ground }

  -- ### Replies

  -- a server sent the letter as its reply to a read
  record IsReplied (m : IsMoment records) (letter : Letter) : Type 0 where
    server : ℕ
    who : m.own.actor ≡ actor.Server server
    reply : IsReply setting (At m.prefix) server m.own.stamp m.own.sent letter

  replied : (m : IsMoment records) (letter : Letter) → In letter m.own.sent → (seq : ℕ) → answers_read letter.body ≡ Some seq → IsReplied m letter
  replied m letter i seq is =
      let of = replies_are letter.body seq is in
      by of.1 (sent_by script sound m.prefix m.own m.following (subst (AreSteps script) m.is run.legal) letter i of.0)
    where
      by : is_ask letter.body ≡ false → IsSentFrom setting (At m.prefix) m.own letter → IsReplied m letter
      by none (From_server n who r) = record { server = n; who = who; reply = r }
      by none (From_client c who may j) = true_false (own_says setting (At m.prefix) c m.own.step may m.own.stamp letter j) none

  -- it was sent by one record
  one_sender : (letter : Letter) (seq : ℕ) → answers_read letter.body ≡ Some seq → (x y : IsMoment records) → In letter x.own.sent → In letter y.own.sent
      → AreOne x y
  one_sender letter seq is x y i j = one_moment x y (λ between same. not_twice x y between same i j) (λ between same. not_twice y x between same j i)
    where
      not_twice : (x y : IsMoment records) (between : List Record) → y.prefix ≡ x.prefix ++ x.own ∷ between → In letter x.own.sent → In letter y.own.sent → ⊥
      not_twice x y between same i j =
          let r = replied y letter j seq is in
          sent_once script sound x.prefix x.own between (subst (AreSteps script) same (legal_at y)) y.own
          (subst (λ rs. Follows setting (At rs) y.own) same (follows_in (at_moment run y))) letter r.server i r.who r.reply.«from» r.reply.at

  -- the read was called before the server handled it
  reply_called : (m : IsMoment records) (letter : Letter) → IsReplied m letter → (client seq : ℕ) → letter.to ≡ actor.Client client
      → answers_read letter.body ≡ Some seq → (line : Line) → line_by script.lines client seq ≡ Some line → line.client ≡ client → IsCalledIn m.prefix line
  reply_called m letter r client seq to is line by_line mine =
      let c = one_client (sym r.reply.to ∙ to) in
      let k = same_some (sym r.reply.is ∙ is) in
      let called = read_called script sound m.prefix (legal_at m) r.server r.reply.client r.reply.seq
      r.reply.cell r.reply.epoch r.reply.readable.asked line ((λ j. line_by script.lines (c j) (k j)) ∙ by_line) in
      record { call = called.call; there = called.there; who = called.who ∙ ap actor.Client (c ∙ sym mine); what = called.what }

  -- ### One answer

  module _ (m : IsMoment records) (number : ℕ) (bytes : List ℕ) (answered : m.own.answer ≡ Some (number, answer.Data bytes)) where
    abbrev a : Answers script.lines (At m.prefix) m.own number bytes
    a = the_answer run rise m number bytes answered

    abbrev n : ℕ
    n = a.line.number

    abbrev reply_is : answers_read a.letter.body ≡ Some a.seq
    reply_is = ap answers_read a.says

    -- where its data were sent
    abbrev w : WasSent m.prefix a.letter
    w = was_sent (at_moment run m).prior a.letter a.sent

    abbrev s : IsMoment records
    s = sooner m w.moment

    s_reply : IsReplied s a.letter
    s_reply = replied s a.letter w.sent a.seq reply_is

    -- a letter with data for the read is accepted for its line alone
    line_of : (x : IsMoment records) (letter : Letter) → In letter x.own.sent → (xs : List ℕ) → letter.body ≡ body.Data a.seq xs
        → letter.to ≡ actor.Client a.client → (k : ℕ) → accepted x.following letter ≡ Some k → k ≡ number
    line_of x letter i xs says to k acc =
        same_line run rise m number bytes answered x letter k (accepted_by run rise x letter i k acc) a.seq xs says to refl

    -- and one that is accepted for the line is the letter of its answer
    letter_of : (x : IsMoment records) (letter : Letter) → In letter x.own.sent → accepted x.following letter ≡ Some number → letter ≡ a.letter
    letter_of x letter i acc = the_one run rise m number bytes answered x letter (accepted_by run rise x letter i number acc)

    accepted_here : accepted s.following a.letter ≡ Some n
    accepted_here =
        let k = is_accepted w.following m.own m.following a.letter number bytes a.what answered in
        k.1 ∙ ap Some (line_of s a.letter w.sent bytes a.says a.to k.0 k.1 ∙ sym a.number_is)

    in_lines : In a.line script.lines × (a.line.client ≡ a.client)
    in_lines = line_at script.lines a.client (a.seq - 1) a.line a.is

    asks : IsReadOf a.line.request
    asks = as_read a.line.request a.reads

    abbrev look : Event
    look = Look asks.name asks.snap asks.block bytes

    abbrev events : List Event
    events = look_for script.lines (Some n) bytes

    one_event : events ≡ look ∷ []
    one_event = line_looks script.lines rise a.line in_lines.0 asks.name asks.snap asks.block asks.is bytes

    -- the letter is the answer's, and the record is the one that sent it
    sent_here : (x : IsMoment records) (letter : Letter) → In letter x.own.sent → accepted x.following letter ≡ Some number → AreOne x s
    sent_here x letter i acc = one_sender a.letter a.seq reply_is x s (subst (λ l. In l x.own.sent) (letter_of x letter i acc) i) w.sent

    abbrev is_old : Bool
    is_old = reads_old setting (At s.prefix) s.own.actor

    old_as : (x : IsMoment records) → AreOne x s → reads_old setting (At x.prefix) x.own.actor ≡ is_old
    old_as x same = λ i. reads_old setting (At (same.prefix_is i)) (same.own_is i).actor

    -- what a search by the old map has found
    record IsFoundBy (x : IsMoment records) (letter : Letter) (seq : ℕ) : Type 0 where
      turned : List Record
      turning : Record
      between : List Record
      is : s.prefix ≡ (x.prefix ++ x.own ∷ turned) ++ turning ∷ between
      so : turns letter (At (x.prefix ++ x.own ∷ turned)) turning (stepped setting (At (x.prefix ++ x.own ∷ turned)) turning).world ≡ true
      to : letter.to ≡ actor.Client a.client
      rev : letter.rev ≡ a.letter.rev
      seq_is : seq ≡ a.seq
      old : is_old ≡ true

    search_found : (x : IsMoment records) (letter : Letter) (seq : ℕ) (given : ℕ × List ℕ)
        → old_data setting (stepped setting (At x.prefix) x.own).world x.following (record { letter = letter; seq = seq }) false ≡ Some given
        → given.0 ≡ number → IsFoundBy x letter seq
    search_found x letter seq given is number_is =
        let next = (stepped setting (At x.prefix) x.own).world in
        let f = found setting next x.following false (record { letter = letter; seq = seq }) given is in
        let y = further x (record { prefix = f.prefix; own = f.own; following = f.following; is = f.is }) in
        let acc : accepted f.following f.letter ≡ Some number = f.has.accepts ∙ ap Some number_is in
        let same = sent_here y f.letter f.sent acc in
        let letter_is = letter_of y f.letter f.sent acc in
        by f.prefix f.turn (sym same.prefix_is) (f.has.to ∙ ap (λ (l : Letter). l.to) letter_is ∙ a.to) (f.has.rev ∙ ap (λ (l : Letter). l.rev) letter_is)
        (same_seq (sym f.has.says ∙ ap (λ (l : Letter). l.body) letter_is ∙ a.says))
        (sym (old_as y same) ∙ ap (λ u. reads_old setting u f.own.actor) (world_split setting (start setting) x.prefix x.own f.prefix) ∙ f.old)
      where
        by : (rs : List Record) → (false ≡ true) ⊎ HasTurn setting (stepped setting (At x.prefix) x.own).world rs letter
            → s.prefix ≡ x.prefix ++ x.own ∷ rs → letter.to ≡ actor.Client a.client → letter.rev ≡ a.letter.rev → seq ≡ a.seq → is_old ≡ true
            → IsFoundBy x letter seq
        by rs (inl never) same to rev seq_is old = true_false never refl
        by rs (inr t) same to rev seq_is old = record {
          turned = t.prefix;
          turning = t.own;
          between = t.following;
          is = same ∙ ap (λ xs. x.prefix ++ x.own ∷ xs) t.is ∙ sym (append_assoc x.prefix (x.own ∷ t.prefix) (t.own ∷ t.following));
          so = subst (λ u. turns letter u t.own (stepped setting u t.own).world ≡ true)
              (sym (world_split setting (start setting) x.prefix x.own t.prefix)) t.so;
          to = to;
          rev = rev;
          seq_is = seq_is;
          old = old;
        }

    -- ### Where the data were not read by an old map

    abbrev Once : Type 0
    Once = IsLookedAtOnce setting records a.line look m

    told_at : (other : IsMoment records) (l : ℕ × Event) → In l (looks_at setting records other)
        → IsToldBy setting (At other.prefix) (stepped setting (At other.prefix) other.own).world other.own other.following l.0
    told_at other l i = told_by setting (At other.prefix) (stepped setting (At other.prefix) other.own).world other.own other.following l i

    only_new : is_old ≡ false → (other : IsMoment records) (l : ℕ × Event) → In l (looks_at setting records other) → l.0 ≡ n → other.prefix ≡ s.prefix
    only_new off other l i same = by (told_at other l i).letter (told_at other l i).there (told_at other l i).tells
      where
        by : (letter : Letter) → In letter other.own.sent
            → TellsIt setting (At other.prefix) (stepped setting (At other.prefix) other.own).world other.own.actor other.following letter l.0
            → other.prefix ≡ s.prefix
        by letter there (By_data seq xs says new acc) = (sent_here other letter there (acc ∙ ap Some (same ∙ a.number_is))).prefix_is
        by letter there (By_turning seq given says is number_is) =
            true_false (search_found other letter seq given is (number_is ∙ same ∙ a.number_is)).old off

    new_way : is_old ≡ false → Once
    new_way off =
        let next = (stepped setting (At s.prefix) s.own).world in
        record {
          moment = s;
          told = one_look setting (At s.prefix) next s.own s.following a.letter n look events s_reply.reply.alone
              (ap (letter_looks setting (At s.prefix) next s.own.actor s.following a.letter) a.says
              ∙ ap (λ b. if b then [] else look_beside script.lines (accepted s.following a.letter) bytes) off
              ∙ ap (λ o. look_beside script.lines o bytes) accepted_here) one_event;
          alone = λ other ne. none_of_line n (looks_at setting records other) (λ l i same. ne (ap length (only_new off other l i same)));
          server = s_reply.server;
          who = s_reply.who;
          called = reply_called s a.letter s_reply a.client a.seq a.to reply_is a.line a.is in_lines.1;
          between = w.following;
          answered = w.is;
        }

    -- ### Where they were

    -- the client had turned to the old map
    turned : is_old ≡ true → WasTurned setting s.prefix a.client a.seq a.letter.rev
    turned on =
        let r = s_reply.reply in
        let leaves = sym (reads_old_is (grounded_at s) s_reply.server r.client r.seq r.cell r.epoch r.readable.asked)
        ∙ ap (reads_old setting (At s.prefix)) (sym s_reply.who) ∙ on in
        let t = read_turned script sound s.prefix (legal_at s) s_reply.server r.client r.seq r.cell r.epoch r.readable.asked leaves in
        let c = one_client (sym r.to ∙ a.to) in
        let k = same_some (sym r.is ∙ reply_is) in
        let rev = r.rev ∙ log_rev script.servers ((At s.prefix).servers s_reply.server).log.applied in
        subst (WasTurned setting s.prefix a.client a.seq) (sym rev)
        (subst (λ q. WasTurned setting s.prefix a.client q (rev_of ((At s.prefix).servers s_reply.server).log)) k
        (subst (λ d. WasTurned setting s.prefix d r.seq (rev_of ((At s.prefix).servers s_reply.server).log)) c t))

    module _ (on : is_old ≡ true) where
      abbrev t : WasTurned setting s.prefix a.client a.seq a.letter.rev
      t = turned on

      abbrev not_here : Letter
      not_here = t.letter

      abbrev turn_at : IsMoment records
      turn_at = sooner s (record { prefix = t.prefix; own = t.own; following = t.following; is = t.is })

      comes : MayDeliver (At t.prefix) (actor.Client a.client) not_here
      comes = subst (λ x. MayClient x setting (At t.prefix) a.client) t.turn.what
          (subst (λ x. MayActor x t.own.step setting (At t.prefix)) t.turn.who (follows_in (at_moment run turn_at)).may.may).1

      -- where the letter was sent that made it turn
      abbrev u : WasSent t.prefix not_here
      u = was_sent (at_moment run turn_at).prior not_here comes.sent

      abbrev between_o : List Record
      between_o = u.following ++ t.own ∷ t.following

      s_prefix_is : s.prefix ≡ u.prefix ++ u.own ∷ between_o
      s_prefix_is = t.is ∙ ap (λ rs. rs ++ t.own ∷ t.following) u.is ∙ append_assoc u.prefix (u.own ∷ u.following) (t.own ∷ t.following)

      abbrev o : IsMoment records
      o = sooner s (record { prefix = u.prefix; own = u.own; following = between_o; is = s_prefix_is })

      abbrev reply_n : answers_read not_here.body ≡ Some a.seq
      reply_n = ap answers_read t.turn.said

      o_reply : IsReplied o not_here
      o_reply = replied o not_here u.sent a.seq reply_n

      abbrev next : World
      next = (stepped setting (At o.prefix) o.own).world

      abbrev told : NotThere
      told = record { letter = not_here; seq = a.seq }

      world_s : world_after setting next between_o ≡ At s.prefix
      world_s = sym (world_split setting (start setting) o.prefix o.own between_o) ∙ ap At (sym s_prefix_is)

      world_t : world_after setting next u.following ≡ At t.prefix
      world_t = sym (world_split setting (start setting) u.prefix u.own u.following) ∙ ap At (sym u.is)

      turns_there : HasTurn setting next between_o not_here
      turns_there = record {
        prefix = u.following;
        own = t.own;
        following = t.following;
        is = refl;
        so = subst (λ u. turns not_here u t.own (stepped setting u t.own).world ≡ true) (sym world_t)
            (turn_is_seen script sound (At t.prefix) t.own not_here a.client a.seq a.letter.rev t.turn);
      }

      has : HasData told s.following a.letter (n, bytes)
      has = record { says = a.says; to = comes.own ∙ sym a.to; rev = t.turn.at; accepts = accepted_here }

      -- the search finds these data, and no others
      some : (given : ℕ × List ℕ) × (old_data setting next o.following told false ≡ Some given)
      some = finds setting next between_o s.own s.following false told a.letter (n, bytes)
          (ap (λ u. reads_old setting u s.own.actor) world_s ∙ on) w.sent has (inr turns_there)

      given_is : (given : ℕ × List ℕ) → old_data setting next o.following told false ≡ Some given → (given.0 ≡ n) × (given.1 ≡ bytes)
      given_is given is =
          let f = found setting next o.following false told given is in
          let y = further o (record { prefix = f.prefix; own = f.own; following = f.following; is = f.is }) in
          let number_is = line_of y f.letter f.sent given.1 f.has.says (sym f.has.to ∙ comes.own) given.0 f.has.accepts in
          let letter_is = letter_of y f.letter f.sent (f.has.accepts ∙ ap Some number_is) in (
            number_is ∙ sym a.number_is,
            same_data (sym f.has.says ∙ ap (λ (l : Letter). l.body) letter_is ∙ a.says),
          )

      search_is : look_beside_data script.lines (old_data setting next o.following told false) ≡ beside n events
      search_is =
          let g = given_is some.0 some.1 in
          ap (look_beside_data script.lines) some.1 ∙ (λ i. look_beside script.lines (Some (g.0 i)) (g.1 i))

      -- ### No other record tells a look

      turned_same : (other : IsMoment records) (letter : Letter) → In letter other.own.sent → (seq : ℕ) → letter.body ≡ body.NotHere seq
          → IsFoundBy other letter seq → other.prefix ≡ o.prefix
      turned_same other letter there seq said f = by (ordered t.prefix t.own t.following turned_prefix f.turning f.between (sym t.is ∙ f.is))
        where
          turned_prefix : List Record
          turned_prefix = other.prefix ++ other.own ∷ f.turned

          turned_legal : AreSteps script (turned_prefix ++ f.turning ∷ f.between)
          turned_legal = subst (AreSteps script) f.is (legal_at s)

          fine : AreSteps script turned_prefix
          fine = before_part script turned_prefix (f.turning ∷ f.between) turned_legal

          k : IsTurnOf script sound (At turned_prefix) f.turning letter seq
          k = turn_of script sound turned_prefix f.turning fine (follows_on script sound turned_prefix f.turning f.between turned_legal) letter seq
              (sent_after script sound other.prefix other.own f.turned fine letter there) said f.so

          turn_too : IsTurn setting (At turned_prefix) f.turning letter a.client a.seq a.letter.rev
          turn_too =
              subst (λ d. IsTurn setting (At turned_prefix) f.turning letter d a.seq a.letter.rev) (one_client (sym k.to ∙ f.to))
              (subst (λ q. IsTurn setting (At turned_prefix) f.turning letter k.client q a.letter.rev) f.seq_is
              (subst (λ r. IsTurn setting (At turned_prefix) f.turning letter k.client seq r) f.rev k.turn))

          by : AreOrdered t.prefix t.own t.following turned_prefix f.turning f.between → other.prefix ≡ o.prefix
          by (Are_one same own_is rest) =
              let letter_is : letter ≡ not_here =
              deliver_is letter not_here (sym turn_too.what ∙ ap (λ (r : Record). r.step) (sym own_is) ∙ t.turn.what) in
              (one_sender not_here a.seq reply_n other o (subst (λ l. In l other.own.sent) letter_is there) u.sent).prefix_is
          by (Is_former between same rest) =
              absurd (turns_once script sound t.prefix t.own between f.turning (subst (AreSteps script) same fine) not_here letter
              a.client a.seq a.letter.rev t.turn (subst (λ rs. IsTurn setting (At rs) f.turning letter a.client a.seq a.letter.rev) same turn_too))
          by (Is_latter between same rest) =
              absurd (turns_once script sound turned_prefix f.turning between t.own (subst (AreSteps script) same (legal_at turn_at)) letter
              not_here a.client a.seq a.letter.rev turn_too
              (subst (λ rs. IsTurn setting (At rs) t.own not_here a.client a.seq a.letter.rev) same t.turn))

      only_old : (other : IsMoment records) (l : ℕ × Event) → In l (looks_at setting records other) → l.0 ≡ n → other.prefix ≡ o.prefix
      only_old other l i same = by (told_at other l i).letter (told_at other l i).there (told_at other l i).tells
        where
          by : (letter : Letter) → In letter other.own.sent
              → TellsIt setting (At other.prefix) (stepped setting (At other.prefix) other.own).world other.own.actor other.following letter l.0
              → other.prefix ≡ o.prefix
          by letter there (By_data seq xs says off acc) =
              true_false on (sym (old_as other (sent_here other letter there (acc ∙ ap Some (same ∙ a.number_is)))) ∙ off)
          by letter there (By_turning seq given says is number_is) =
              turned_same other letter there seq says
              (search_found other letter seq given is (number_is ∙ same ∙ a.number_is))

      old_way : Once
      old_way = record {
        moment = o;
        told = one_look setting (At o.prefix) next o.own o.following not_here n look events o_reply.reply.alone
            (ap (letter_looks setting (At o.prefix) next o.own.actor o.following not_here) t.turn.said ∙ search_is) one_event;
        alone = λ other ne. none_of_line n (looks_at setting records other) (λ l i same. ne (ap length (only_old other l i same)));
        server = o_reply.server;
        who = o_reply.who;
        called = reply_called o not_here o_reply a.client a.seq comes.own reply_n a.line a.is in_lines.1;
        between = between_o ++ s.own ∷ w.following;
        answered = w.is ∙ ap (λ rs. rs ++ s.own ∷ w.following) s_prefix_is ∙ append_assoc o.prefix (o.own ∷ between_o) (s.own ∷ w.following);
      }

    pub its_look : HasItsLook setting records m number bytes
    its_look = record {
      line = a.line;
      there = in_lines.0;
      number_is = a.number_is;
      client_is = a.who ∙ ap actor.Client (sym in_lines.1);
      name = asks.name;
      snap = asks.snap;
      block = asks.block;
      asks = asks.is;
      once = by_bool is_old old_way new_way;
    }

    -- ### The link

    pub its_link : IsReadFrom setting records m number bytes
    its_link =
        let r = s_reply.reply in
        let c = one_client (sym r.to ∙ a.to) in
        let k = same_some (sym r.is ∙ reply_is) in
        record {
          moment = s;
          between = w.following;
          answered = w.is;
          letter = a.letter;
          sent = w.sent;
          says = a.says ∙ ap (λ q. body.Data q bytes) (sym k);
          accepted = a.what;
          server = s_reply.server;
          who = s_reply.who;
          client = r.client;
          seq = r.seq;
          cell = r.cell;
          epoch = r.epoch;
          handled = r.readable.asked;
          line = a.line;
          line_is = (λ i. line_by script.lines (c i) (k i)) ∙ a.is;
          number_is = a.number_is;
          called = reply_called s a.letter s_reply a.client a.seq a.to reply_is a.line a.is in_lines.1;
          bytes_are = r.shown a.seq bytes a.says;
          link = unlost (grounded_at s) s_reply.server r.cell r.runs r.readable.seated r.readable.readable;
        }
