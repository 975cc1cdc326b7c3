-- What a server does with a read is one of the kinds that the relation names.
use Rattle.law_steps.proofs.Imports.{if◌then◌else◌, ◌&&◌, ◌||◌, ◌≡◌, Body, Bool, Cell, Copying, JobContext, JobResult, None, Option, PairState, Pending, Some}
use Rattle.law_steps.proofs.Imports.{Stored, by_test, bytes_of, chain_in, coming, copying_on, entry_at, false, held, is_all_held, is_in, is_lead, is_some}
use Rattle.law_steps.proofs.Imports.{is_under_way, none_some, on_read, pending_on, readable, refl, reply_of, said, says, subst, true, true_false, ℕ}
use Rattle.law_steps.specs.DidRead.{IsReadable, Not_here, Shows}
use Rattle.law_steps.specs.Did.{Did, Ignores, Refuses, For_a_read, By_copy_for_a_read, A_read, By_read}
use Rattle.law_steps.proofs.BusyLetters.{busy_not_held, busy_seq, held_not_busy, held_seq}
use Rattle.petal_msg.specs.declared.body.Body.TheVariants as body
use Rattle.petal_msg.specs.declared.letter.Actor.TheVariants as actor
use Rattle.petal_msg.specs.declared.operation.Reply.TheVariants as reply

module _ (heard : Body → Type 0) (here : JobContext) (own : PairState) (seated : is_in here.state here.me here.inc ≡ true) where
  abbrev D : JobResult → Type 0
  D done = Did heard here own done

  -- an operation or a copy at the lead keeps it back
  busy : (client seq : ℕ) (cell : Cell) (epoch : ℕ) → heard (body.Read client seq cell epoch) → is_lead here.state here.me cell ≡ true
      → (o : Option Pending) → pending_on own cell ≡ o → (copy : Option Copying) → copying_on own cell ≡ copy → (is_some o || is_some copy) ≡ true
      → D (says own (actor.Client client) (body.BlockBusy seq))
  busy client seq cell epoch h lead (Some op) e copy f t = Refuses (actor.Client client) (body.BlockBusy seq) (record { refused = refl; other = refl })
      (λ k g. For_a_read client cell epoch op (subst (λ i. heard (body.Read client i cell epoch)) (busy_seq g) h) lead e)
      (λ k g. busy_not_held g)
  busy client seq cell epoch h lead None e (Some copy) f t = Refuses (actor.Client client) (body.BlockBusy seq) (record { refused = refl; other = refl })
      (λ k g. By_copy_for_a_read client cell epoch copy (subst (λ i. heard (body.Read client i cell epoch)) (busy_seq g) h) lead f)
      (λ k g. busy_not_held g)
  busy client seq cell epoch h lead None e None f t = true_false t refl

  -- the entry is shown where there is one, or else zeros, but not in a region that is on its way
  replied : (client seq : ℕ) (cell : Cell) (epoch : ℕ) → IsReadable heard here own client seq cell epoch → (o : Option Stored)
      → entry_at (chain_in own.store.chains cell) epoch ≡ o → D (says own (actor.Client client) (said seq (reply_of here.state cell o)))
  replied client seq cell epoch may (Some entry) e =
      subst (λ x. D (says own (actor.Client client) (body.Data seq (bytes_of x)))) e
      (By_read _ (Shows client seq cell epoch may (λ none. none_some none e)))
  replied client seq cell epoch may None e =
      by_test (λ r. D (says own (actor.Client client) (said seq r))) (coming here.state cell) _ _
      (λ on. By_read _ (Not_here client seq cell epoch may on e))
      (λ off. subst (λ x. D (says own (actor.Client client) (body.Data seq (bytes_of x)))) e
      (By_read _ (Shows client seq cell epoch may (λ none. off))))

  shown : (client seq : ℕ) (cell : Cell) (epoch : ℕ) → heard (body.Read client seq cell epoch) → readable here.state here.me cell ≡ true
      → (all lead some : Bool) → is_all_held (held here.state cell) ≡ all → is_lead here.state here.me cell ≡ lead → is_under_way own cell ≡ some
      → D (says own (actor.Client client) (said seq
      (if all then reply.Held else if lead && some then reply.BlockBusy else reply_of here.state cell (entry_at (chain_in own.store.chains cell) epoch))))
  shown client seq cell epoch h r true lead some all e f = Refuses (actor.Client client) (body.Held seq) (record { refused = refl; other = refl })
      (λ k g. held_not_busy g)
      (λ k g. A_read client cell epoch (subst (λ i. heard (body.Read client i cell epoch)) (held_seq g) h) all)
  shown client seq cell epoch h r false true true all e f = busy client seq cell epoch h e (pending_on own cell) refl (copying_on own cell) refl f
  shown client seq cell epoch h r false true false all e f =
      replied client seq cell epoch (record { asked = h; seated = seated; readable = r; unheld = all; idle = λ t. f }) _ refl
  shown client seq cell epoch h r false false some all e f =
      replied client seq cell epoch (record { asked = h; seated = seated; readable = r; unheld = all; idle = λ t. true_false t e }) _ refl

  pub did_read : (client seq : ℕ) (cell : Cell) (epoch : ℕ) → heard (body.Read client seq cell epoch) → D (on_read here own client seq cell epoch)
  unfolding on_read
  did_read client seq cell epoch h = by_test D (readable here.state here.me cell) _ _ (λ r. shown client seq cell epoch h r _ _ _ refl refl refl) (λ t. Ignores)
