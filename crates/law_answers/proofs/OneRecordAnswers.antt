-- Which record answers a line with data: one alone, and so one letter alone is accepted for the line.
use Rattle.law_answers.proofs.Imports.{[], ◌++◌, ◌∙◌, ◌∷◌, ◌≡◌, Actor, Answer, AreRising, At, Deliver, In, IsAnswered, IsMoment, Letter, Line, List, MayActor}
use Rattle.law_answers.proofs.Imports.{MayClient, MayDeliver, Record, Run, Setting, Some, Step, World, accepted, after, answers_in, ap, append_assoc}
use Rattle.law_answers.proofs.Imports.{at_moment, follows_in, inl, line_by, longer, none_some, one_client, refl, same_name, same_seq, same_some, setting_of}
use Rattle.law_answers.proofs.Imports.{since, start, step, stepped, subst, sym, true, with_answer, world_after, ℕ}
use Rattle.law_answers.proofs.ListPositions.{AreOne, further, one_moment}
use Rattle.script_lines.specs.Requests.{is_read}
use Rattle.law_answers.proofs.AnsweredOnce.{ahead_after, ahead_start, answered_more, stepped_is}
use Rattle.law_answers.proofs.RecordsInOrder.{asked_at, named_at, sent_after}
use Rattle.law_answers.proofs.SearchesFindLooks.{accepted_in}
use Rattle.law_answers.proofs.ClientHistorySteps.{own_answers}
use Rattle.petal_msg.specs.declared.body.Body.TheVariants as body
use Rattle.petal_msg.specs.declared.letter.Actor.TheVariants as actor
use Rattle.script_lines.specs.declared.answer.Answer.TheVariants as answer
use Rattle.law_answers.proofs.ClientHistorySteps as steps

-- this record answers the line of this number with data: a client hears them in the letter, for its read of the line
pub record Answers (lines : List Line) (w : World) (own : Record) (number : ℕ) (bytes : List ℕ) : Type 0 where
  pub client : ℕ
  pub who : own.actor ≡ actor.Client client
  pub letter : Letter
  pub what : own.step ≡ Deliver letter
  pub sent : In letter w.sent
  pub to : letter.to ≡ actor.Client client
  pub seq : ℕ
  pub says : letter.body ≡ body.Data seq bytes
  pub line : Line
  pub is : line_by lines client seq ≡ Some line
  pub number_is : line.number ≡ number
  pub reads : is_read line.request ≡ true

-- a client answers
record IsClients (setting : Setting) (w : World) (who : Actor) (what : Step) (number : ℕ) (bytes : List ℕ) : Type 0 where
  client : ℕ
  who_is : who ≡ actor.Client client
  may : MayClient what setting w client
  so : steps.IsAnswered setting w client what number bytes

who_answers : (setting : Setting) (w : World) (who : Actor) (what : Step) (stamp : ℕ) → MayActor who what setting w → (number : ℕ) (bytes : List ℕ)
    → (step who what setting w stamp).answer ≡ Some (number, answer.Data bytes) → IsClients setting w who what number bytes
unfolding step
who_answers setting w (actor.Server n) what stamp may number bytes e = none_some refl e
who_answers setting w (actor.Client c) what stamp may number bytes e =
    record { client = c; who_is = refl; may = may.1; so = own_answers setting w c what may.1 number bytes e }

answered_first : (number : ℕ) (given : Answer) (before : List (ℕ × Answer)) → IsAnswered (with_answer (Some (number, given)) before) number
unfolding In
answered_first number given before = record { answer = given; is = inl refl }

-- what a record answers stays answered
answered_since : (run : Run) (m : IsMoment run.records) (number : ℕ) (given : Answer) → m.own.answer ≡ Some (number, given)
    → IsAnswered (after run).answers number
answered_since run m number given e =
    let it = at_moment run m in
    since (λ run. IsAnswered (after run).answers number) (λ it old.
    subst (λ given. IsAnswered given number) (sym (answers_in it)) (answered_more it.own.answer (after it.prior).answers number old))
    run (longer it).records m.following (m.is ∙ sym (append_assoc m.prefix (m.own ∷ []) m.following)) (λ legal.
    subst (λ given. IsAnswered given number) (sym (answers_in it))
    (subst (λ o. IsAnswered (with_answer o (after it.prior).answers) number) (sym e) (answered_first number given (after it.prior).answers)))

-- the world after a record and others
pub world_split : (setting : Setting) (w : World) (prefix : List Record) (own : Record) (later : List Record)
    → world_after setting w (prefix ++ own ∷ later) ≡ world_after setting (stepped setting (world_after setting w prefix) own).world later
world_split setting w [] own later = refl
world_split setting w (x ∷ prefix) own later = world_split setting (stepped setting w x).world prefix own later

pub deliver_is : (one other : Letter) → Deliver one ≡ Deliver other → one ≡ other
deliver_is one other e = cc

module _ (run : Run) where
  open run use {script, sound, records}

  abbrev setting : Setting
  setting = setting_of script

  pub answers_at : (m : IsMoment records) (number : ℕ) (bytes : List ℕ) → m.own.answer ≡ Some (number, answer.Data bytes)
      → Answers script.lines (At script m.prefix) m.own number bytes
  answers_at m number bytes e =
      let it = at_moment run m in
      let follows = follows_in it in
      let k = who_answers setting (At script m.prefix) m.own.actor m.own.step m.own.stamp follows.may.may number bytes (sym follows.answer ∙ e) in
      let a = k.so in
      let asks = asked_at script sound m.prefix it.prior.legal k.client a.asked a.is in
      let comes : MayDeliver (At script m.prefix) (actor.Client k.client) a.told.letter =
      subst (λ x. MayClient x setting (At script m.prefix) k.client) a.told.is k.may in
      record {
        client = k.client;
        who = k.who_is;
        letter = a.told.letter;
        what = a.told.is;
        sent = comes.sent;
        to = comes.own;
        seq = a.asked.seq;
        says = a.told.said;
        line = asks.line;
        is = asks.is;
        number_is = sym asks.number ∙ a.line_is;
        reads = ap is_read (sym asks.asks) ∙ a.reads;
      }

  module _ (rise : AreRising script.lines) where
    -- once the line has been answered it is not answered again
    not_again : (m : IsMoment records) (prefix : List Record) (own : Record) (between : List Record) → m.prefix ≡ prefix ++ own ∷ between → (number : ℕ)
        (one two : Answer) → own.answer ≡ Some (number, one) → m.own.answer ≡ Some (number, two) → ⊥
    not_again m prefix own between is number one two first again =
        let it = at_moment run m in
        let later = follows_in it in
        let fresh = stepped_is setting rise (At script m.prefix) m.own
        (ahead_after setting rise (start setting) m.prefix (ahead_start setting rise) it.prior.legal) later in
        (fresh.new (number, two) (sym later.answer ∙ again)).new
        (answered_since it.prior (record { prefix = prefix; own = own; following = between; is = is }) number one first)

    -- two records that answer one line are one
    one_answer : (x y : IsMoment records) (number : ℕ) (one two : Answer) → x.own.answer ≡ Some (number, one) → y.own.answer ≡ Some (number, two)
        → AreOne x y
    one_answer x y number one two first again =
        one_moment x y (λ between same. not_again y x.prefix x.own between same number one two first again)
        (λ between same. not_again x y.prefix y.own between same number two one again first)

    -- the record that accepts a letter which was sent here
    pub record IsAcceptedBy (m : IsMoment records) (letter : Letter) (number : ℕ) : Type 0 where
      pub other : IsMoment records
      pub between : List Record
      pub is : other.prefix ≡ m.prefix ++ m.own ∷ between
      pub bytes : List ℕ
      pub answered : other.own.answer ≡ Some (number, answer.Data bytes)
      pub so : Answers script.lines (At script other.prefix) other.own number bytes
      pub letter_is : letter ≡ so.letter

    pub accepted_by : (m : IsMoment records) (letter : Letter) → In letter m.own.sent → (number : ℕ) → accepted m.following letter ≡ Some number
        → IsAcceptedBy m letter number
    accepted_by m letter i number f =
        let k = accepted_in m.following letter number f in
        let y = further m (record { prefix = k.prefix; own = k.own; following = k.following; is = k.is }) in
        let a = answers_at y number k.so.bytes k.so.answers in
        let other_is : k.so.other ≡ a.letter = deliver_is k.so.other a.letter (sym k.so.what ∙ a.what) in
        let fine = (at_moment run y).prior.legal in
        record {
          other = y;
          between = k.prefix;
          is = refl;
          bytes = k.so.bytes;
          answered = k.so.answers;
          so = a;
          letter_is = (named_at script sound y.prefix fine).unique letter a.letter (sent_after script sound m.prefix m.own k.prefix fine letter i) a.sent
              (subst (λ l. same_name letter l ≡ true) other_is k.so.same);
        }

    -- ### The line's answer

    module _ (m : IsMoment records) (number : ℕ) (bytes : List ℕ) (answered : m.own.answer ≡ Some (number, answer.Data bytes)) where
      abbrev pub the_answer : Answers script.lines (At script m.prefix) m.own number bytes
      the_answer = answers_at m number bytes answered

      -- data for the read of the same number and client are accepted for the same line
      pub same_line : (x : IsMoment records) (letter : Letter) (k : ℕ) → IsAcceptedBy x letter k → (seq : ℕ) (xs : List ℕ)
          → letter.body ≡ body.Data seq xs → letter.to ≡ actor.Client the_answer.client → seq ≡ the_answer.seq → k ≡ number
      same_line x letter k a seq xs says to seq_is =
          let one_client : a.so.client ≡ the_answer.client =
          one_client (sym a.so.to ∙ ap (λ (l : Letter). l.to) (sym a.letter_is) ∙ to) in
          let one_seq : a.so.seq ≡ the_answer.seq =
          same_seq (sym a.so.says ∙ ap (λ (l : Letter). l.body) (sym a.letter_is) ∙ says) ∙ seq_is in
          let line : a.so.line ≡ the_answer.line =
          same_some (sym a.so.is ∙ (λ i. line_by script.lines (one_client i) (one_seq i)) ∙ the_answer.is) in
          sym a.so.number_is ∙ ap (λ (l : Line). l.number) line ∙ the_answer.number_is

      -- one that is accepted for this line is the letter of its answer
      pub the_one : (x : IsMoment records) (letter : Letter) → IsAcceptedBy x letter number → letter ≡ the_answer.letter
      the_one x letter a =
          let same = one_answer m a.other number (answer.Data bytes) (answer.Data a.bytes) answered a.answered in
          a.letter_is ∙ deliver_is a.so.letter the_answer.letter (sym a.so.what ∙ ap (λ (r : Record). r.step) (sym same.own_is) ∙ the_answer.what)
