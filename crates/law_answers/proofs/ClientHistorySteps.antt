-- A client's step of a history, as its open request, its letters and its answer see it.
use Rattle.law_answers.proofs.Imports.{[], if◌then◌else◌, ◌+◌, ◌∙◌, ◌∷◌, ◌≡◌, ◌≤◌, Actor, Asked, Begins, Body, Bool, Call, Cell, Client, Deliver, Ends}
use Rattle.law_answers.proofs.Imports.{Goes_on, Heard, In, IsAsked, Is_told, Judges, Letter, List, MayActor, MayClient, Reaction, Reads, Setting, Shown, Some}
use Rattle.law_answers.proofs.Imports.{Step, Tick, Turned, Turning, World, ap, arith, client_sender, client_state, client_step, client_turns, false, inl, inr}
use Rattle.law_answers.proofs.Imports.{is_ask, is_call, is_read, length, next_line, prefix_long, put_apart, put_same, reacts, refl, said, same_or_apart}
use Rattle.law_answers.proofs.Imports.{state_after, step, subst, sym, true, true_false, turned_asks, ℕ}
use Rattle.law_answers.proofs.ClientReadSteps.{As_before, Asks, HasWay, Is_called, Later, OnWay, Turns, Was_open, turned_answers, turned_asks_read, turned_way}
use Rattle.law_answers.proofs.OldMapByRevision.{Stays, heard_stays, tick_stays}
use Rattle.petal_msg.specs.declared.body.Body.TheVariants as body
use Rattle.petal_msg.specs.declared.letter.Actor.TheVariants as actor
use Rattle.script_lines.specs.declared.answer.Answer.TheVariants as answer

-- the step is the delivery of a letter of this revision that says this
pub record Delivers (what : Step) (rev : ℕ) (says : Body) : Type 0 where
  pub letter : Letter
  pub is : what ≡ Deliver letter
  pub at : letter.rev ≡ rev
  pub said : letter.body ≡ says

-- the letter that the step delivers
abbrev given_in : Step → List Letter
given_in (Deliver letter) = letter ∷ []
given_in _ = []

module _ (setting : Setting) (w : World) (c : ℕ) where
  -- the world as the step sees it: no other letter was sent
  abbrev alone : Step → World
  alone what = record w { sent = given_in what }

  abbrev H : Step → ℕ → Body → Type 0
  H what = Heard (alone what) (actor.Client c)

  delivered : (what : Step) (rev : ℕ) (says : Body) → H what rev says → Delivers what rev says
  unfolding In
  delivered (Deliver letter) rev says h = by h.sent
    where
      by : In h.letter (letter ∷ []) → Delivers (Deliver letter) rev says
      by (inl e) = record { letter = letter; is = refl; at = ap (λ (l : Letter). l.rev) (sym e) ∙ h.at; said = ap (λ (l : Letter). l.body) (sym e) ∙ h.is }
      by (inr none) = absurd none
  delivered _ rev says h = absurd h.sent

  may_alone : (what : Step) → MayClient what setting w c → MayClient what setting (alone what) c
  unfolding In
  may_alone (Call number) may = record { free = may.free; line = may.line; next = may.next; is = may.is; before = may.before }
  may_alone (Deliver letter) may = record { sent = inl refl; own = may.own }
  may_alone Tick may = tt
  may_alone _ may = absurd may

  -- what the client does
  abbrev pub reacted_to : Step → Reaction
  reacted_to what = client_step what (client_state setting w c) c (w.clients c) (next_line setting.lines c (w.clients c))

  turns_so : (what : Step) → MayClient what setting w c → Turning setting.servers setting.lines (alone what) c (is_call what) (reacted_to what)
  turns_so what may = client_turns setting (alone what) c what (may_alone what may)

  stays_so : (what : Step) → MayClient what setting w c → is_call what ≡ false → Stays (w.clients c).asked (reacted_to what).client.asked
  stays_so (Call number) may none = true_false refl none
  stays_so (Deliver letter) may none = heard_stays (client_state setting w c) c (w.clients c) letter
  stays_so Tick may none = tick_stays (client_state setting w c) c (w.clients c)
  stays_so _ may none = absurd may

  way_as : (what : Step) (old new : Asked) → OnWay (H what) old new → OnWay (Delivers what) old new
  way_as what old new (As_before at way) = As_before at way
  way_as what old new (Later at way) = Later at way
  way_as what old new (Turns h was at way) = Turns (delivered what old.rev (body.NotHere old.seq) h) was at way

  has_way_as : (what : Step) (client : Client) (new : Asked) (in_call : Bool) → HasWay (H what) setting.lines c client new in_call
      → HasWay (Delivers what) setting.lines c client new in_call
  has_way_as what client new _ (Is_called line next free number seq way) = Is_called line next free number seq way
  has_way_as what client new _ (Was_open old is seq line way) = Was_open old is seq line (way_as what old new way)

  -- the request that is open after it
  own_way : (what : Step) → MayClient what setting w c → ((asked : Asked) → (w.clients c).asked ≡ Some asked → IsAsked setting.lines c (w.clients c) asked)
      → (new : Asked) → (reacted_to what).client.asked ≡ Some new → HasWay (Delivers what) setting.lines c (w.clients c) new (is_call what)
  own_way what may asked new is =
      let t = turns_so what may in
      let long = prefix_long (w.clients c).applied (reacted_to what).client.applied t.grows in
      has_way_as what (w.clients c) new (is_call what)
      (turned_way (H what) setting.lines c (w.clients c) new setting.servers (is_call what) (reacted_to what) t.turned (stays_so what may)
      (λ old e. let low = (asked old e).reached in omega arith) is)

  -- its number is the next one after a call, and else stays
  seq_is : (in_call : Bool) (what : Step) (reacted : Reaction) → Turned (H what) setting.servers setting.lines c (w.clients c) in_call reacted
      → reacted.client.seq ≡ (w.clients c).seq + (if in_call then 1 else 0)
  seq_is _ what _ (Goes_on reacted same stays says) = omega arith
  seq_is _ what _ (Is_told reacted asked told was reads same stays says) = omega arith
  seq_is _ what _ (Begins reacted line asked next free same now called says) = same
  seq_is _ what _ (Reads asked bytes told was reads) = omega arith
  seq_is _ what _ (Ends asked how told was writes) = omega arith
  seq_is _ what _ (Shown asked rev sight given told was seen) = omega arith
  seq_is _ what _ (Judges after asked given was gone same judged) = omega arith

  turned_seq : (what : Step) → MayClient what setting w c → (reacted_to what).client.seq ≡ (w.clients c).seq + (if is_call what then 1 else 0)
  turned_seq what may = seq_is (is_call what) what (reacted_to what) (turns_so what may).turned

  pub call_seq : (number : ℕ) → MayClient (Call number) setting w c → (reacted_to (Call number)).client.seq ≡ (w.clients c).seq + 1
  call_seq number may = turned_seq (Call number) may

  own_seq : (what : Step) → MayClient what setting w c → (w.clients c).seq ≤ (reacted_to what).client.seq
  own_seq what may = let same = turned_seq what may in omega arith

  -- the letters that it sends for a read
  pub own_asks : (what : Step) → MayClient what setting w c → (stamp : ℕ) (letter : Letter) → In letter (reacts w c stamp (reacted_to what)).letters
      → (client seq : ℕ) (cell : Cell) (epoch : ℕ) → letter.body ≡ body.Read client seq cell epoch
      → Asks (state_after setting.servers (reacted_to what).client.applied) c (reacted_to what).client.asked client seq cell
      × (letter.rev ≡ length (reacted_to what).client.applied)
  own_asks what may stamp letter i client seq cell epoch is =
      let r = reacted_to what in
      let s = said (client_sender c r.client) stamp 0 r.posts letter i in (
        turned_asks_read (H what) setting.servers setting.lines c (w.clients c) (is_call what) r (turns_so what may).turned s.post s.there client seq cell epoch
            (sym s.body ∙ is),
        s.rev,
      )

  -- it sends reads, writes and words of the agreed log
  pub own_says : (what : Step) → MayClient what setting w c → (stamp : ℕ) (letter : Letter) → In letter (reacts w c stamp (reacted_to what)).letters
      → is_ask letter.body ≡ true
  own_says what may stamp letter i =
      let r = reacted_to what in
      let s = said (client_sender c r.client) stamp 0 r.posts letter i in
      ap is_ask s.body
      ∙ turned_asks (H what) setting.servers setting.lines c (w.clients c) (is_call what) r (turns_so what may).turned s.post s.there

  -- an answer with data is that to the letter which it hears
  pub record IsAnswered (what : Step) (number : ℕ) (bytes : List ℕ) : Type 0 where
    pub asked : Asked
    pub is : (w.clients c).asked ≡ Some asked
    pub reads : is_read asked.request ≡ true
    pub line_is : asked.line ≡ number
    pub told : Delivers what asked.rev (body.Data asked.seq bytes)

  pub own_answers : (what : Step) → MayClient what setting w c → (number : ℕ) (bytes : List ℕ)
      → (reacted_to what).answer ≡ Some (number, answer.Data bytes) → IsAnswered what number bytes
  own_answers what may number bytes e =
      let a = turned_answers (H what) setting.servers setting.lines c (w.clients c) (is_call what) (reacted_to what) (turns_so what may).turned
      number bytes e in
      record { asked = a.asked; is = a.is; reads = a.reads; line_is = a.line_is; told = delivered what a.asked.rev (body.Data a.asked.seq bytes) a.told }

-- ### Each step

-- the client's request that is open after a step: that of before, or by its own step
pub data StepWay (setting : Setting) (w : World) (who : Actor) (what : Step) (c : ℕ) (new : Asked) : Type 0 where
  Is_still : (w.clients c).asked ≡ Some new → StepWay setting w who what c new
  By_its_step : who ≡ actor.Client c → MayClient what setting w c → HasWay (Delivers what) setting.lines c (w.clients c) new (is_call what)
      → StepWay setting w who what c new

pub step_way : (setting : Setting) (w : World) → ((c : ℕ) (asked : Asked) → (w.clients c).asked ≡ Some asked → IsAsked setting.lines c (w.clients c) asked)
    → (who : Actor) (what : Step) (stamp : ℕ) → MayActor who what setting w → (c : ℕ) (new : Asked)
    → ((step who what setting w stamp).world.clients c).asked ≡ Some new → StepWay setting w who what c new
unfolding step
step_way setting w asked (actor.Server n) what stamp may c new is = Is_still is
step_way setting w asked (actor.Client d) what stamp may c new is = elim (same_or_apart c d) [
  | inr ne ↦ Is_still (ap (λ (x : Client). x.asked) (sym (put_apart w.clients d (reacted_to setting w d what).client c ne)) ∙ is)
  | inl same ↦
      let here : ((reacts w d stamp (reacted_to setting w d what)).world.clients d).asked ≡ Some new =
      subst (λ k. ((reacts w d stamp (reacted_to setting w d what)).world.clients k).asked ≡ Some new) same is in
      subst (λ k. StepWay setting w (actor.Client d) what k new) (sym same)
      (By_its_step refl may.1 (own_way setting w d what may.1 (asked d) new
      (ap (λ (x : Client). x.asked) (sym (put_same w.clients d (reacted_to setting w d what).client)) ∙ here)))
]

pub step_seq : (setting : Setting) (w : World) (who : Actor) (what : Step) (stamp : ℕ) → MayActor who what setting w → (c : ℕ)
    → (w.clients c).seq ≤ ((step who what setting w stamp).world.clients c).seq
unfolding step
step_seq setting w (actor.Server n) what stamp may c = omega arith
step_seq setting w (actor.Client d) what stamp may c = elim (same_or_apart c d) [
  | inr ne ↦
      let e : ((reacts w d stamp (reacted_to setting w d what)).world.clients c).seq ≡ (w.clients c).seq =
      ap (λ (x : Client). x.seq) (put_apart w.clients d (reacted_to setting w d what).client c ne) in
      omega arith
  | inl same ↦
      subst (λ k. (w.clients k).seq ≤ ((reacts w d stamp (reacted_to setting w d what)).world.clients k).seq) (sym same)
      (let e : ((reacts w d stamp (reacted_to setting w d what)).world.clients d).seq ≡ (reacted_to setting w d what).client.seq =
      ap (λ (x : Client). x.seq) (put_same w.clients d (reacted_to setting w d what).client) in
      let up = own_seq setting w d what may.1 in
      omega arith)
]
