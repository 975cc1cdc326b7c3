-- How reads come to ask the old map: by one delivery alone for each revision; and what is open was called.
use Rattle.law_answers.proofs.Imports.{[], ◌&&◌, ◌++◌, ◌<◌, ◌∙◌, ◌∷◌, ◌≡◌, ◌≤◌, ◌⊎◌, Actor, AreSteps, Asked, At, Bool, Call, Deliver, Follows, In, IsMoment}
use Rattle.law_answers.proofs.Imports.{IsSound, Letter, Line, List, MayClient, MayDeliver, None, OneMore, Option, Record, Run, Script, Setting, Some, Step}
use Rattle.law_answers.proofs.Imports.{World, after, ap, append_assoc, arith, before_part, both_true, by_run, delivers, false, follows_in, goes_old}
use Rattle.law_answers.proofs.Imports.{in_former, in_later, inl, inr, is_call, is_old_way, last_moment, longer, moment_more, next_line, none_some, not}
use Rattle.law_answers.proofs.Imports.{not_true, refl, run_of, same_name, same_some, setting_in, setting_of, since, start, stepped, stepped_in, subst, sym}
use Rattle.law_answers.proofs.Imports.{true, true_false, turns, world_after, ℕ}
use Rattle.law_answers.proofs.ClientReadSteps.{As_before, HasWay, Is_called, Later, OnWay, Turns, Was_open}
use Rattle.law_answers.proofs.RecordsInOrder.{asked_at, named_at, next_is}
use Rattle.law_answers.proofs.SearchesFindLooks.{name_itself}
use Rattle.law_answers.proofs.ClientHistorySteps.{By_its_step, Delivers, Is_still, StepWay, step_seq, step_way}
use Rattle.petal_msg.specs.declared.body.Body.TheVariants as body
use Rattle.petal_msg.specs.declared.letter.Actor.TheVariants as actor

-- the client's open request of this number, of this revision and way
pub record IsAskedSo (w : World) (c seq rev : ℕ) (way : Bool) : Type 0 where
  pub asked : Asked
  pub is : (w.clients c).asked ≡ Some asked
  pub seq_is : asked.seq ≡ seq
  pub rev_is : asked.rev ≡ rev
  pub way_is : asked.old_way ≡ way

-- with the delivery of this letter, which says that the new map has nothing, the client's read turns to the old one
pub record IsTurn (setting : Setting) (w : World) (own : Record) (letter : Letter) (c seq rev : ℕ) : Type 0 where
  pub who : own.actor ≡ actor.Client c
  pub what : own.step ≡ Deliver letter
  pub said : letter.body ≡ body.NotHere seq
  pub at : letter.rev ≡ rev
  pub before : IsAskedSo w c seq rev false
  pub after : IsAskedSo (stepped setting w own).world c seq rev true

-- a record of the history does so
pub record WasTurned (setting : Setting) (records : List Record) (c seq rev : ℕ) : Type 0 where
  pub moment : IsMoment records
  pub open moment use *
  pub letter : Letter
  pub turn : IsTurn setting (world_after setting (start setting) prefix) own letter c seq rev

-- a record of the history is the call of the line by the client
pub record WasCalled (records : List Record) (c number : ℕ) : Type 0 where
  pub call : Record
  pub there : In call records
  pub who : call.actor ≡ actor.Client c
  pub what : call.step ≡ Call number

called_as : (setting : Setting) (w : World) (c : ℕ) (what : Step) → true ≡ is_call what → MayClient what setting w c → (line : Line)
    → next_line setting.lines c (w.clients c) ≡ Some line → what ≡ Call line.number
called_as setting w c (Call number) e may line next = ap Call (sym may.is ∙ ap (λ (l : Line). l.number) (same_some (sym may.next ∙ next)))
called_as setting w c _ e may line next = true_false refl e

module _ (script : Script) (sound : IsSound script) where
  abbrev setting : Setting
  setting = setting_of script

  -- what is open was called, and where it asks the old map, a delivery made it do so
  record Kept (records : List Record) (w : World) : Type 0 where
    turned : (c : ℕ) (asked : Asked) → (w.clients c).asked ≡ Some asked → asked.old_way ≡ true → WasTurned setting records c asked.seq asked.rev
    called : (c : ℕ) (asked : Asked) → (w.clients c).asked ≡ Some asked → WasCalled records c asked.line

  -- ### One step

  module _ (done : List Record) (own : Record) (legal : AreSteps script done) (follows : Follows setting (At script done) own)
      (kept : Kept done (At script done)) where
    abbrev v : World
    v = (stepped setting (At script done) own).world

    abbrev more : List Record
    more = done ++ own ∷ []

    ways : (c : ℕ) (new : Asked) → (v.clients c).asked ≡ Some new → StepWay setting (At script done) own.actor own.step c new
    ways = step_way setting (At script done) (asked_at script sound done legal) own.actor own.step own.stamp follows.may.may

    turned_on : (c seq rev : ℕ) → WasTurned setting done c seq rev → WasTurned setting more c seq rev
    turned_on c seq rev t = record { moment = moment_more done own t.moment; letter = t.letter; turn = t.turn }

    called_on : (c number : ℕ) → WasCalled done c number → WasCalled more c number
    called_on c number k = record { call = k.call; there = in_former k.call done (own ∷ []) k.there; who = k.who; what = k.what }

    turned_now : (c : ℕ) (new : Asked) → (v.clients c).asked ≡ Some new → new.old_way ≡ true → own.actor ≡ actor.Client c → (in_call : Bool)
        → HasWay (Delivers own.step) setting.lines c ((At script done).clients c) new in_call → WasTurned setting more c new.seq new.rev
    turned_now c new is way who _ (Is_called line next free number seq new_way) = true_false way new_way
    turned_now c new is way who _ (Was_open old was seq line on) = by on
      where
        by : OnWay (Delivers own.step) old new → WasTurned setting more c new.seq new.rev
        by (As_before at same) = turned_on c new.seq new.rev
            (subst (λ r. WasTurned setting done c new.seq r) (sym at)
            (subst (λ s. WasTurned setting done c s old.rev) (sym seq) (kept.turned c old was (sym same ∙ way))))
        by (Later lt new_way) = true_false way new_way
        by (Turns told off at on_now) = record {
          moment = last_moment done own;
          letter = told.letter;
          turn = record {
            who = who;
            what = told.is;
            said = told.said ∙ ap body.NotHere (sym seq);
            at = told.at ∙ sym at;
            before = record { asked = old; is = was; seq_is = sym seq; rev_is = sym at; way_is = off };
            after = record { asked = new; is = is; seq_is = refl; rev_is = refl; way_is = way };
          };
        }

    called_now : (c : ℕ) (new : Asked) → own.actor ≡ actor.Client c → MayClient own.step setting (At script done) c → (in_call : Bool)
        → in_call ≡ is_call own.step
        → HasWay (Delivers own.step) setting.lines c ((At script done).clients c) new in_call → WasCalled more c new.line
    unfolding In
    called_now c new who may _ e (Is_called line next free number seq new_way) = record {
      call = own;
      there = in_later own done (own ∷ []) (inl refl);
      who = who;
      what = called_as setting (At script done) c own.step e may line next ∙ ap Call (sym number);
    }
    called_now c new who may _ e (Was_open old was seq line on) = called_on c new.line (subst (WasCalled done c) (sym line) (kept.called c old was))

    kept_more : Kept more v
    kept_more = record {
      turned = λ c new is way. by_turn c new is way (ways c new is);
      called = λ c new is. by_call c new (ways c new is);
    }
      where
        by_turn : (c : ℕ) (new : Asked) → (v.clients c).asked ≡ Some new → new.old_way ≡ true → StepWay setting (At script done) own.actor own.step c new
            → WasTurned setting more c new.seq new.rev
        by_turn c new is way (Is_still was) = turned_on c new.seq new.rev (kept.turned c new was way)
        by_turn c new is way (By_its_step who may has) = turned_now c new is way who (is_call own.step) has

        by_call : (c : ℕ) (new : Asked) → StepWay setting (At script done) own.actor own.step c new → WasCalled more c new.line
        by_call c new (Is_still was) = called_on c new.line (kept.called c new was)
        by_call c new (By_its_step who may has) = called_now c new who may (is_call own.step) refl has

-- ### A history

kept_in : (run : Run) → Kept run.script run.sound run.records (after run)
kept_in =
    by_run (λ run. Kept run.script run.sound run.records (after run))
    (λ script sound legal. record { turned = λ c asked e. none_some refl e; called = λ c asked e. none_some refl e })
    (λ it kept. subst (Kept it.prior.script it.prior.sound (longer it).records) (sym (stepped_in it))
    (kept_more it.prior.script it.prior.sound it.prior.records it.own it.prior.legal (follows_in it) kept))

-- a read that asks the old map was turned to it at the revision of its latest send
pub was_turned : (run : Run) (c : ℕ) (asked : Asked) → ((after run).clients c).asked ≡ Some asked → asked.old_way ≡ true
    → WasTurned (setting_in run) run.records c asked.seq asked.rev
was_turned run = (kept_in run).turned

-- an open request was called
pub was_called : (run : Run) (c : ℕ) (asked : Asked) → ((after run).clients c).asked ≡ Some asked → WasCalled run.records c asked.line
was_called run = (kept_in run).called

-- ### One turn for each revision

-- the client is past the turn of this request at this revision
record IsPast (w : World) (c seq rev : ℕ) : Type 0 where
  low : seq ≤ (w.clients c).seq
  past : (asked : Asked) → (w.clients c).asked ≡ Some asked → asked.seq ≡ seq → (rev < asked.rev) ⊎ ((asked.rev ≡ rev) × (asked.old_way ≡ true))

module _ (it : OneMore) where
  open it use {prior.{script, sound, records as done, legal}, own}

  abbrev before : World
  before = after it.prior

  past_next : (c seq rev : ℕ) → IsPast before c seq rev → IsPast (stepped (setting_in it.prior) before own).world c seq rev
  past_next c seq rev p = record {
    low = let up = step_seq (setting_in it.prior) before own.actor own.step own.stamp (follows_in it).may.may c in let low = p.low in omega arith;
    past = λ new is at. by new at
        (step_way (setting_in it.prior) before (asked_at script sound done legal) own.actor own.step own.stamp (follows_in it).may.may c new is);
  }
    where
      on_way : (new old : Asked) → new.seq ≡ seq → (before.clients c).asked ≡ Some old → new.seq ≡ old.seq → OnWay (Delivers own.step) old new
          → (rev < new.rev) ⊎ ((new.rev ≡ rev) × (new.old_way ≡ true))
      on_way new old at was same on = elim (p.past old was (sym same ∙ at)) [
        | inl lt ↦ further lt on
        | inr here ↦ from_here here.0 here.1 on
      ]
        where
          further : rev < old.rev → OnWay (Delivers own.step) old new → (rev < new.rev) ⊎ ((new.rev ≡ rev) × (new.old_way ≡ true))
          further lt (As_before at' way) = inl (omega arith)
          further lt (Later up way) = inl (omega arith)
          further lt (Turns told off at' way) = inl (omega arith)

          from_here : old.rev ≡ rev → old.old_way ≡ true → OnWay (Delivers own.step) old new → (rev < new.rev) ⊎ ((new.rev ≡ rev) × (new.old_way ≡ true))
          from_here e t (As_before at' way) = inr (at' ∙ e, way ∙ t)
          from_here e t (Later up way) = inl (omega arith)
          from_here e t (Turns told off at' way) = true_false t off

      has : (new : Asked) → new.seq ≡ seq → (in_call : Bool) → HasWay (Delivers own.step) script.lines c (before.clients c) new in_call
          → (rev < new.rev) ⊎ ((new.rev ≡ rev) × (new.old_way ≡ true))
      has new at _ (Is_called line next free number above new_way) = let low = p.low in absurd (omega arith)
      has new at _ (Was_open old was same line on) = on_way new old at was same on

      by : (new : Asked) → new.seq ≡ seq → StepWay (setting_in it.prior) before own.actor own.step c new
          → (rev < new.rev) ⊎ ((new.rev ≡ rev) × (new.old_way ≡ true))
      by new at (Is_still was) = p.past new was at
      by new at (By_its_step who may way) = has new at (is_call own.step) way

past_since : (run : Run) (prefix later : List Record) → run.records ≡ prefix ++ later → (c seq rev : ℕ) → IsPast (At run.script prefix) c seq rev
    → IsPast (after run) c seq rev
past_since run prefix later is c seq rev p =
    since (λ run. IsPast (after run) c seq rev) (λ it old. subst (λ u. IsPast u c seq rev) (sym (stepped_in it))
    (past_next it c seq rev old)) run prefix later is (λ legal. p)

module _ (script : Script) (sound : IsSound script) where
  abbrev of_script : Setting
  of_script = setting_of script

  -- a read does not turn to the old map a second time at one revision
  pub turns_once : (prefix : List Record) (own : Record) (between : List Record) (other : Record) → AreSteps script (prefix ++ own ∷ between)
      → (letter again : Letter) (c seq rev : ℕ)
      → IsTurn of_script (At script prefix) own letter c seq rev → IsTurn of_script (At script (prefix ++ own ∷ between)) other again c seq rev → ⊥
  turns_once prefix own between other legal letter again c seq rev one two =
      let e = append_assoc prefix (own ∷ []) between in
      let joined : AreSteps script ((prefix ++ own ∷ []) ++ between) = subst (AreSteps script) (sym e) legal in
      let next = next_is script sound prefix own in
      let after : IsAskedSo (At script (prefix ++ own ∷ [])) c seq rev true = subst (λ u. IsAskedSo u c seq rev true) (sym next) one.after in
      let last = (asked_at script sound (prefix ++ own ∷ []) (before_part script (prefix ++ own ∷ []) between joined) c after.asked after.is).last in
      let at = after.seq_is in
      let start_past : IsPast (At script (prefix ++ own ∷ [])) c seq rev = record {
        low = omega arith;
        past = λ asked is same.
            let it : after.asked ≡ asked = same_some (sym after.is ∙ is) in
            inr (ap (λ (a : Asked). a.rev) (sym it) ∙ after.rev_is, ap (λ (a : Asked). a.old_way) (sym it) ∙ after.way_is);
      } in
      let end = past_since (run_of script sound (prefix ++ own ∷ between) legal) (prefix ++ own ∷ []) between (sym e) c seq rev start_past in
      elim (end.past two.before.asked two.before.is two.before.seq_is) [
        | inl lt ↦ (let r = two.before.rev_is in absurd (omega arith))
        | inr here ↦ true_false here.1 two.before.way_is
      ]

  -- ### Turns, as the search sees them

  open_old : (o : Option Asked) → is_old_way o ≡ true → (asked : Asked) × (o ≡ Some asked) × (asked.old_way ≡ true)
  open_old None e = true_false e refl
  open_old (Some asked) e = (asked, refl, e)

  -- the record turns the read of whom the letter is to
  pub record IsTurnOf (w : World) (own : Record) (letter : Letter) (seq : ℕ) : Type 0 where
    pub client : ℕ
    pub to : letter.to ≡ actor.Client client
    pub turn : IsTurn of_script w own letter client seq letter.rev

  module _ (prefix : List Record) (own : Record) (legal : AreSteps script prefix) (follows : Follows of_script (At script prefix) own)
      (letter : Letter) (seq : ℕ)
      (sent : In letter (At script prefix).sent) (said : letter.body ≡ body.NotHere seq) where
    abbrev w : World
    w = At script prefix

    abbrev next : World
    next = (stepped of_script (At script prefix) own).world

    abbrev R : Type 0
    R = IsTurnOf w own letter seq

    module _ (c : ℕ) (who : own.actor ≡ actor.Client c) (d : delivers letter own.step ≡ true) (off : is_old_way (w.clients c).asked ≡ false)
        (new : Asked) (is : (next.clients c).asked ≡ Some new) (way : new.old_way ≡ true) where
      still_off : (old : Asked) → (w.clients c).asked ≡ Some old → old.old_way ≡ true → R
      still_off old was t = true_false t (sym (ap is_old_way was) ∙ off)

      on_way : (old : Asked) → (w.clients c).asked ≡ Some old → new.seq ≡ old.seq → MayClient own.step of_script w c → OnWay (Delivers own.step) old new → R
      on_way old was same may (As_before at way') = still_off old was (sym way' ∙ way)
      on_way old was same may (Later lt way') = true_false way way'
      on_way old was same may (Turns told off' at way') =
          let comes : MayDeliver w (actor.Client c) told.letter = subst (λ x. MayClient x of_script w c) told.is may in
          let names : same_name letter told.letter ≡ true = sym (ap (delivers letter) told.is) ∙ d in
          let one : letter ≡ told.letter = (named_at script sound prefix legal).unique letter told.letter sent comes.sent names in
          let both : body.NotHere old.seq ≡ body.NotHere seq = sym told.said ∙ ap (λ (l : Letter). l.body) (sym one) ∙ said in
          let seq_is : old.seq ≡ seq = cc in
          let rev_is : letter.rev ≡ old.rev = ap (λ (l : Letter). l.rev) one ∙ told.at in
          record {
            client = c;
            to = ap (λ (l : Letter). l.to) one ∙ comes.own;
            turn = record {
              who = who;
              what = told.is ∙ ap Deliver (sym one);
              said = said;
              at = refl;
              before = record { asked = old; is = was; seq_is = seq_is; rev_is = sym rev_is; way_is = off' };
              after = record { asked = new; is = is; seq_is = same ∙ seq_is; rev_is = at ∙ sym rev_is; way_is = way };
            };
          }

      has : MayClient own.step of_script w c → (in_call : Bool) → HasWay (Delivers own.step) of_script.lines c (w.clients c) new in_call → R
      has may _ (Is_called line next' free number above new_way) = true_false way new_way
      has may _ (Was_open old was same line on) = on_way old was same may on

      by_way : StepWay of_script w own.actor own.step c new → R
      by_way (Is_still was) = still_off new was way
      by_way (By_its_step who' may way') = has may (is_call own.step) way'

    by_who : (who : Actor) → own.actor ≡ who → delivers letter own.step ≡ true → goes_old w who ≡ false → goes_old next who ≡ true → R
    by_who (actor.Server n) who d off on = true_false on refl
    by_who (actor.Client c) who d off on =
        let o = open_old (next.clients c).asked on in
        by_way c who d off o.0 o.1 o.2
        (step_way of_script w (asked_at script sound prefix legal) own.actor own.step own.stamp follows.may.may c o.0 o.1)

    pub turn_of : turns letter (At script prefix) own (stepped of_script (At script prefix) own).world ≡ true → R
    turn_of e =
        let outer = both_true (delivers letter own.step && not (goes_old w own.actor)) (goes_old next own.actor) e in
        let inner = both_true (delivers letter own.step) (not (goes_old w own.actor)) outer.0 in
        by_who own.actor refl inner.0 (not_true (goes_old w own.actor) inner.1) outer.1

  -- and such a record is seen as one
  pub turn_is_seen : (w : World) (own : Record) (letter : Letter) (c seq rev : ℕ) → IsTurn of_script w own letter c seq rev
      → turns letter w own (stepped of_script w own).world ≡ true
  turn_is_seen w own letter c seq rev t =
      three (delivers letter own.step) (goes_old w own.actor) (goes_old (stepped of_script w own).world own.actor)
      (ap (delivers letter) t.what ∙ name_itself letter)
      (ap (goes_old w) t.who ∙ ap is_old_way t.before.is ∙ t.before.way_is)
      (ap (goes_old (stepped of_script w own).world) t.who ∙ ap is_old_way t.after.is ∙ t.after.way_is)
    where
      three : (a b d : Bool) → a ≡ true → b ≡ false → d ≡ true → (a && not b && d) ≡ true
      three true false true e f g = refl
      three true false false e f g = g
      three true true d e f g = true_false refl f
      three false b d e f g = e
