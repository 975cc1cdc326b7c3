-- The records of a legal history: what each follows on, and where a letter was sent.
use Rattle.law_answers.proofs.Imports.{[], ◌++◌, ◌∙◌, ◌∷◌, ◌≡◌, Acted, Actor, AreSteps, Asked, At, Blank, Firm, Follows, Grounded, In, IsAsked, IsSound}
use Rattle.law_answers.proofs.Imports.{Letter, List, MayActor, MayClient, Named, Record, Script, Setting, Some, Step, World, acts, ap, append_assoc, arith}
use Rattle.law_answers.proofs.Imports.{asking_after, before_part, clock_of, own_steady, prefix_legal, reacts, refl, run_of, sent_since, server_serves}
use Rattle.law_answers.proofs.Imports.{server_state, server_step, setting_of, start, step, stepped, subst, sym, true, true_false, world_more, ℕ}
use Rattle.law_answers.proofs.OneReplyEachRead.{IsReply, Is_apart, IsSentBy, Replies, is_of_read, sends}
use Rattle.law_answers.proofs.LawsBelow.{Stands, stands_after}
use Rattle.law_answers.proofs.ClientHistorySteps.{reacted_to}
use Rattle.petal_msg.specs.declared.letter.Actor.TheVariants as actor

-- who sent a letter of a read: a server as its reply to one, or a client
pub data IsSentFrom (setting : Setting) (w : World) (own : Record) (letter : Letter) : Type 0 where
  From_server : (n : ℕ) → own.actor ≡ actor.Server n → IsReply setting w n own.stamp own.sent letter → IsSentFrom setting w own letter
  From_client : (c : ℕ) → own.actor ≡ actor.Client c → MayClient own.step setting w c
      → In letter (reacts w c own.stamp (reacted_to setting w c own.step)).letters → IsSentFrom setting w own letter

module _ (setting : Setting) where
  -- ### What a step sends for reads

  step_sends : (w : World) → Stands setting w → (who : Actor) (what : Step) (stamp : ℕ) → MayActor who what setting w
      → Firm setting (step who what setting w stamp).world → (own : Record) → own.actor ≡ who → own.step ≡ what → own.stamp ≡ stamp
      → own.sent ≡ (step who what setting w stamp).letters → (letter : Letter) → In letter (step who what setting w stamp).letters
      → is_of_read letter.body ≡ true → IsSentFrom setting w own letter
  unfolding step In
  step_sends w s (actor.Client c) what stamp may firm own who_is what_is stamp_is sent_is letter i of_read =
      From_client c who_is (subst (λ x. MayClient x setting w c) (sym what_is) may.1)
      (subst (λ k. In letter (reacts w c k (reacted_to setting w c own.step)).letters) (sym stamp_is)
      (subst (λ x. In letter (reacts w c stamp (reacted_to setting w c x)).letters) (sym what_is) i))
  step_sends w s (actor.Server n) Blank stamp may firm own who_is what_is stamp_is sent_is letter i of_read = absurd i
  step_sends w s (actor.Server n) what stamp may firm own who_is what_is stamp_is sent_is letter i of_read =
      let acted : Acted = server_step what (server_state setting w n) n (w.servers n) in
      let g : Grounded = record { setting = setting; state = s.state; w = w; firm = s.ground.ready.firm; ground = s.ground } in
      by (sends g s.steady n stamp what acted (server_serves setting w s.ground.ready.rests s.ground.ready.firm n
      (own_steady setting w s.ground.ready.firm n) stamp what refl may.1 firm) letter i)
    where
      letters : List Letter
      letters = (acts setting w n what stamp (server_step what (server_state setting w n) n (w.servers n))).letters

      by : IsSentBy setting w n stamp letters letter → IsSentFrom setting w own letter
      by (Is_apart apart) = true_false of_read apart
      by (Replies r) = From_server n who_is
          (subst (λ k. IsReply setting w n k own.sent letter) (sym stamp_is) (subst (λ ls. IsReply setting w n stamp ls letter) (sym sent_is) r))

module _ (script : Script) (sound : IsSound script) where
  abbrev setting_now : Setting
  setting_now = setting_of script

  pub follows_on : (prefix : List Record) (own : Record) (following : List Record) → AreSteps script (prefix ++ own ∷ following)
      → Follows setting_now (At script prefix) own
  follows_on prefix own following legal = (prefix_legal setting_now (start setting_now) prefix (own ∷ following) legal).1.0

  pub legal_upto : (prefix : List Record) (own : Record) (following : List Record) → AreSteps script (prefix ++ own ∷ following)
      → AreSteps script (prefix ++ own ∷ [])
  legal_upto prefix own following legal =
      before_part script (prefix ++ own ∷ []) following (subst (AreSteps script) (sym (append_assoc prefix (own ∷ []) following)) legal)

  -- the world after one more
  pub next_is : (prefix : List Record) (own : Record) → At script (prefix ++ own ∷ []) ≡ (stepped setting_now (At script prefix) own).world
  next_is prefix own = world_more setting_now (start setting_now) prefix own

  pub asked_at : (records : List Record) → AreSteps script records → (c : ℕ) (asked : Asked) → ((At script records).clients c).asked ≡ Some asked
      → IsAsked script.lines c ((At script records).clients c) asked
  asked_at records legal = (asking_after script records sound legal).known.asked

  pub named_at : (records : List Record) → AreSteps script records → Named (At script records)
  named_at records legal = (stands_after script records sound legal).ground.named

  -- what a record sent stays sent
  pub sent_after : (prefix : List Record) (own : Record) (between : List Record) → AreSteps script (prefix ++ own ∷ between) → (letter : Letter)
      → In letter own.sent → In letter (At script (prefix ++ own ∷ between)).sent
  sent_after prefix own between legal letter i =
      sent_since (run_of script sound (prefix ++ own ∷ between) legal) (record { prefix = prefix; own = own; following = between; is = refl }) letter i

  pub sent_by : (prefix : List Record) (own : Record) (following : List Record) → AreSteps script (prefix ++ own ∷ following) → (letter : Letter)
      → In letter own.sent → is_of_read letter.body ≡ true → IsSentFrom setting_now (At script prefix) own letter
  sent_by prefix own following legal letter i of_read =
      let follows = follows_on prefix own following legal in
      let firm : Firm setting_now (stepped setting_now (At script prefix) own).world =
      subst (Firm setting_now) (next_is prefix own)
      (stands_after script (prefix ++ own ∷ []) sound (legal_upto prefix own following legal)).ground.ready.firm in
      step_sends setting_now (At script prefix)
      (stands_after script prefix sound (before_part script prefix (own ∷ following) legal)) own.actor own.step own.stamp
      follows.may.may firm own refl refl refl follows.sent letter (subst (In letter) follows.sent i) of_read

  -- no reply is sent twice
  pub sent_once : (prefix : List Record) (own : Record) (between : List Record) → AreSteps script (prefix ++ own ∷ between) → (other : Record)
      → Follows setting_now (At script (prefix ++ own ∷ between)) other → (letter : Letter) (n : ℕ) → In letter own.sent
      → other.actor ≡ actor.Server n → letter.«from» ≡ actor.Server n → letter.stamp ≡ other.stamp → ⊥
  sent_once prefix own between fine other later letter n i who from_is at =
      let done = prefix ++ own ∷ between in
      let early = (named_at done fine).early letter (sent_after prefix own between fine letter i) in
      let lt = later.stamp in
      let clock : clock_of (At script done) letter.«from» ≡ clock_of (At script done) other.actor = ap (clock_of (At script done)) (from_is ∙ sym who) in
      omega arith
