-- A read looks where its data are sent: whoever accepts them later had asked for this.
use Rattle.law_run.proofs.Imports.{[], if◌then◌else◌, ◌&&◌, ◌==◌, ◌∙◌, ◌∷◌, ◌≡◌, ◌⊎◌, Actor, AreStepsFrom, Asked, Body, Bool, Client, Deliver, Event, In}
use Rattle.law_run.proofs.Imports.{IsPrefix, Letter, Line, List, Look, MayActor, MayLook, None, Obeys, Option, Plain, Record, Request, Setting, Some, State}
use Rattle.law_run.proofs.Imports.{Step, World, accepted, accepts, after, ap, both_true, by_bool, by_test, chosen_log, client_state, counts, data_line, false}
use Rattle.law_run.proofs.Imports.{first_of, heard, hears, hears_any, hears_of, in-append, in_get, in_later, in_filter, inl, inr, is_read, line_by, look_by}
use Rattle.law_run.proofs.Imports.{look_for, look_of, none_some, refl, replay, same_numbers, same_some, step, stepped, subst, sym, true, true_false, ℕ}
use Rattle.spec_history.specs.Events.{same_name}
use Rattle.law_run.specs.WritesGoOn.{IsMindful, Onward}
use Rattle.law_run.specs.MachineTies.{Ground}
use Rattle.law_run.proofs.Machine.{disks_after, after_mindful, look_onward, onward_itself, onward_joined}
use Rattle.petal_msg.specs.declared.body.Body.TheVariants as body
use Rattle.petal_msg.specs.declared.letter.Actor.TheVariants as actor
use Rattle.script_lines.specs.declared.answer.Answer.TheVariants as answer
use Rattle.script_lines.specs.declared.request.Request.TheVariants as request

-- ### Looks

-- each event is a look at this block with these bytes
abbrev pub AllLooks : List ℕ → Option (List ℕ) → ℕ → List ℕ → List Event → Type 0
AllLooks name snap block bytes es = (e : Event) → In e es → e ≡ Look name snap block bytes

pub record Looked (m : Plain) (es : List Event) : Type 0 where
  pub may : Obeys m es
  pub disks : (replay m es).disks ≡ m.disks
  pub mindful : IsMindful (replay m es)
  pub onward : Onward m (replay m es)

pub looked : (m : Plain) (name : List ℕ) (snap : Option (List ℕ)) (block : ℕ) (bytes : List ℕ) → MayLook m.disks name snap block bytes → IsMindful m
    → (es : List Event) → AllLooks name snap block bytes es → Looked m es
unfolding In
looked m name snap block bytes may mindful [] all = record { may = tt; disks = refl; mindful = mindful; onward = onward_itself m }
looked m name snap block bytes may mindful (e ∷ es) all =
    let look = Look name snap block bytes in
    let k = after m look in
    let same : k.disks ≡ m.disks = disks_after m look in
    let rest = looked k name snap block bytes (subst (λ ds. MayLook ds name snap block bytes) (sym same) may) (after_mindful m look) es
    (λ x h. all x (inr h)) in
    subst (λ x. Looked m (x ∷ es)) (sym (all e (inl refl))) (record {
      may = (may, rest.may);
      disks = rest.disks ∙ same;
      mindful = rest.mindful;
      onward = onward_joined m k (replay k es) (look_onward m name snap block bytes mindful) rest.onward;
    })

-- ### Who accepts a letter

pub one_client : {c d : ℕ} → actor.Client c ≡ actor.Client d → c ≡ d
one_client e = cc

-- the line of a request is one of the script's
pub line_in : (lines : List Line) (c seq : ℕ) (line : Line) → line_by lines c seq ≡ Some line → In line lines
line_in lines c seq line e = (in_filter (λ l. l.client == c) lines line (in_get _ _ line e)).0

-- the request of the line that accepts is that of the letter's number
pub record Accepts (lines : List Line) (letter : Letter) (seq number : ℕ) : Type 0 where
  pub client : ℕ
  pub to : letter.to ≡ actor.Client client
  pub line : Line
  pub is : line_by lines client seq ≡ Some line
  pub number_is : line.number ≡ number

pub some_first : (one two : Option ℕ) (number : ℕ) → first_of one two ≡ Some number → (one ≡ Some number) ⊎ (two ≡ Some number)
some_first None two number e = inr e
some_first (Some k) two number e = inl e

-- the ground holds at each world on the way, and what is chosen only grows
abbrev pub AreGrounded : Setting → State → World → List Record → Type 0
AreGrounded setting state w [] = Ground setting state w
AreGrounded setting state w (own ∷ later) =
    Ground setting state w × IsPrefix (chosen_log setting w) (chosen_log setting (stepped setting w own).world)
    × AreGrounded setting state (stepped setting w own).world later

-- at the first of them
pub ground_now : (setting : Setting) (state : State) (w : World) (records : List Record) → AreGrounded setting state w records → Ground setting state w
ground_now setting state w [] grounded = grounded
ground_now setting state w (own ∷ later) grounded = grounded.0

module _ (setting : Setting) (state : State) where
  abbrev lines : List Line
  lines = setting.lines

  -- a client that answers with data had asked under this number
  hears_data : (own : State) (c : ℕ) (client : Client) (asked : Asked) (rev seq : ℕ) (bytes : List ℕ) (number : ℕ)
      → data_line (hears own c client asked rev (body.Data seq bytes)).answer ≡ Some number → (seq ≡ asked.seq) × (asked.line ≡ number)
  hears_data own c client asked rev seq bytes number e =
      by_bool (counts asked rev seq && is_read asked.request)
      (λ t.
      let tests = both_true (counts asked rev seq) (is_read asked.request) t in
      let same = both_true (seq == asked.seq) (rev == asked.rev) tests.0 in
      let given : Some asked.line ≡ Some number =
      sym (ap (λ b. data_line (if b then Rattle.spec_rules.specs.Clients.answers client asked
      (answer.Data bytes) else Rattle.spec_rules.specs.Clients.rests client).answer) t) ∙ e in
      (same_numbers seq asked.seq same.0, same_some given))
      (λ f. none_some (ap (λ b. data_line (if b then Rattle.spec_rules.specs.Clients.answers client asked
      (answer.Data bytes) else Rattle.spec_rules.specs.Clients.rests client).answer) f) e)

  open_accepts : (w : World) → Ground setting state w → (own : State) (letter : Letter) (seq : ℕ) (bytes : List ℕ) (number c : ℕ) (o : Option Asked)
      → (w.clients c).asked ≡ o → letter.to ≡ actor.Client c → letter.body ≡ body.Data seq bytes
      → data_line (hears_of own c (w.clients c) o letter).answer ≡ Some number → Accepts lines letter seq number
  open_accepts w ground own letter seq bytes number c None is to says e = none_some refl e
  open_accepts w ground own letter seq bytes number c (Some asked) is to says e =
      let h = hears_data own c (w.clients c) asked letter.rev seq bytes number
      (subst (λ (b : Body). data_line (hears own c (w.clients c) asked letter.rev b).answer ≡ Some number) says e) in
      let a = ground.asking.asked c asked is in
      record { client = c; to = to; line = a.line; is = ap (line_by lines c) h.0 ∙ a.is; number_is = sym a.number ∙ h.1 }

  delivery_accepts : (w : World) → Ground setting state w → (who : Actor) (letter other : Letter) (stamp seq : ℕ) (bytes : List ℕ) (number : ℕ)
      → MayActor who (Deliver other) setting w → In letter w.sent → letter.body ≡ body.Data seq bytes → same_name letter other ≡ true
      → data_line (step who (Deliver other) setting w stamp).answer ≡ Some number → Accepts lines letter seq number
  unfolding step heard
  delivery_accepts w ground (actor.Server n) letter other stamp seq bytes number may h says same e = none_some refl e
  delivery_accepts w ground (actor.Client c) letter other stamp seq bytes number may h says same e =
      let one : letter ≡ other = ground.named.unique letter other h may.1.sent same in
      let own = client_state setting w c in
      let heard_so : data_line (hears_any own c (w.clients c) letter letter.body).answer ≡ Some number =
      subst (λ (l : Letter). data_line (hears_any own c (w.clients c) l l.body).answer ≡ Some number) (sym one) e in
      open_accepts w ground own letter seq bytes number c (w.clients c).asked refl (subst (λ (l : Letter). l.to ≡ actor.Client c) (sym one) may.1.own) says
      (as_data own c (w.clients c) letter seq bytes number says heard_so)
    where
      as_data : (own : State) (c : ℕ) (client : Client) (letter : Letter) (seq : ℕ) (bytes : List ℕ) (number : ℕ) → letter.body ≡ body.Data seq bytes
          → data_line (hears_any own c client letter letter.body).answer ≡ Some number
          → data_line (hears_of own c client client.asked letter).answer ≡ Some number
      as_data own c client letter seq bytes number says e =
          subst (λ (b : Body). data_line (hears_any own c client letter b).answer ≡ Some number) says e

  record_accepts : (w : World) → Ground setting state w → (who : Actor) (what : Step) (letter : Letter) (stamp seq : ℕ) (bytes : List ℕ) (number : ℕ)
      → MayActor who what setting w → In letter w.sent → letter.body ≡ body.Data seq bytes
      → accepts letter what (step who what setting w stamp).answer ≡ Some number → Accepts lines letter seq number
  record_accepts w ground who (Deliver other) letter stamp seq bytes number may h says e =
      by_bool (same_name letter other)
      (λ t. delivery_accepts w ground who letter other stamp seq bytes number may h says t
      (sym (ap (λ b. if b then data_line (step who (Deliver other) setting w stamp).answer else None) t) ∙ e))
      (λ f. none_some (ap (λ b. if b then data_line (step who (Deliver other) setting w stamp).answer else None) f) e)
  record_accepts w ground who _ letter stamp seq bytes number may h says e = none_some refl e

  sent_later : (w : World) (who : Actor) (what : Step) (stamp : ℕ) (letter : Letter) → In letter w.sent → In letter (step who what setting w stamp).world.sent
  unfolding step
  sent_later w (actor.Server n) what stamp letter h = in_later letter _ w.sent h
  sent_later w (actor.Client c) what stamp letter h = in_later letter _ w.sent h

  -- whoever accepts the letter in one of these records had asked for it. At each world on the way the ground holds
  pub who_accepts : (w : World) (records : List Record) → AreGrounded setting state w records → AreStepsFrom setting w records
      → (letter : Letter) (seq : ℕ) (bytes : List ℕ) (number : ℕ) → In letter w.sent → letter.body ≡ body.Data seq bytes → accepted records letter
      ≡ Some number → Accepts lines letter seq number
  who_accepts w [] grounded legal letter seq bytes number h says e = none_some refl e
  who_accepts w (own ∷ later) grounded legal letter seq bytes number h says e =
      let follows = legal.0 in
      let next = (stepped setting w own).world in
      elim (some_first (accepts letter own.step own.answer) (accepted later letter) number e) [
        | inl now ↦ record_accepts w grounded.0 own.actor own.step letter own.stamp seq bytes number follows.may.may h says
            (subst (λ o. accepts letter own.step o ≡ Some number) follows.answer now)
        | inr following ↦ who_accepts next later grounded.2 legal.1 letter seq bytes number (sent_later w own.actor own.step own.stamp letter h) says following
      ]

-- ### What is told of a letter

in_looks : (lines : List Line) (number : ℕ) (bytes : List ℕ) (e : Event) → In e (look_for lines (Some number) bytes)
    → (line : Line) × In line lines × (line.number ≡ number) × In e (look_by line.request bytes)
unfolding In
in_looks [] number bytes e h = absurd h
in_looks (line ∷ lines) number bytes e h =
    elim (in-append e (if line.number == number then look_by line.request bytes else []) (look_for lines (Some number) bytes) h) [
      | inl now ↦
          by_test (λ es. In e es → (other : Line) × In other (line ∷ lines) × (other.number ≡ number) × In e (look_by other.request bytes))
          (line.number == number) _ _
          (λ t i. (line, inl refl, same_numbers line.number number t, i)) (λ f i. absurd i) now
      | inr later ↦ let found = in_looks lines number bytes e later in (found.0, inr found.1, found.2, found.3)
    ]

look_is : (asked : Request) (name : List ℕ) (snap : Option (List ℕ)) (block : ℕ) (bytes : List ℕ) (e : Event) → asked ≡ request.Read name snap block
    → In e (look_by asked bytes) → e ≡ Look name snap block bytes
unfolding In
look_is asked name snap block bytes e is h = elim (subst (λ r. In e (look_by r bytes)) is h) [ inl same ↦ same | inr none ↦ absurd none ]

-- a letter with data that is accepted, or not
pub letter_looks : (lines : List Line) → ((one other : Line) → In one lines → In other lines → one.number ≡ other.number → one ≡ other)
    → (letter : Letter) (seq client : ℕ) (name : List ℕ) (snap : Option (List ℕ)) (block : ℕ) (bytes : List ℕ) (line : Line)
    → letter.to ≡ actor.Client client
    → line_by lines client seq ≡ Some line → line.request ≡ request.Read name snap block
    → (o : Option ℕ) → ((number : ℕ) → o ≡ Some number → Accepts lines letter seq number) → AllLooks name snap block bytes (look_for lines o bytes)
unfolding In
letter_looks lines numbered letter seq client name snap block bytes line to is asks None accepts e h = absurd h
letter_looks lines numbered letter seq client name snap block bytes line to is asks (Some number) accepts e h =
    let a = accepts number refl in
    let found = in_looks lines number bytes e h in
    let same_client : a.client ≡ client = one_client (sym a.to ∙ to) in
    let same_line : a.line ≡ line = same_some (sym a.is ∙ ap (λ c. line_by lines c seq) same_client ∙ is) in
    let the_line : found.0 ≡ line =
    numbered found.0 line found.1 (line_in lines client seq line is) (found.2 ∙ sym a.number_is ∙ ap (λ (l : Line). l.number) same_line) in
    look_is found.0.request name snap block bytes e (ap (λ (l : Line). l.request) the_line ∙ asks) found.3

-- a letter of these kinds may tell of a look: it answers a read, or says that the new map has nothing
abbrev pub is_looked : Body → Bool
is_looked (body.Data seq bytes) = true
is_looked (body.NotHere seq) = true
is_looked _ = false

pub no_look : (setting : Setting) (w next : World) (who : Actor) (later : List Record) (letter : Letter) (said : Body) → is_looked said ≡ false
    → look_of setting w next who later letter said ≡ []
no_look setting w next who later letter (body.Data seq bytes) e = true_false refl e
no_look setting w next who later letter (body.NotHere seq) e = true_false refl e
no_look setting w next who later letter _ e = refl
