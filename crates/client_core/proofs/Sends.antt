-- What a call, and the entries of a letter, send and leave: the rule's outcome from the parts that the code computes.
use Rattle.std.proofs.Common.{◌≡◌, ℕ, ◌+◌, List, length, Option, Some, None, refl, sym, ◌∙◌, ap, subst}
use Rattle.petal_command.specs.declared.command.Command.{Command}
use Rattle.petal_msg.specs.declared.letter.Actor.TheVariants as actor
use Rattle.petal_msg.specs.declared.letter.Letter.{Letter}
use Rattle.script_lines.specs.declared.request.Request.{Request}
use Rattle.spec_rules.specs.State.{State, servers_of}
use Rattle.spec_rules.specs.Server.{letters_of}
use Rattle.spec_rules.specs.Clients.{Client, Asked, asks_to_propose, called, goes_out, goes_out_where, sends}
use Rattle.spec_rules.specs.Clients.{sends_or_proposes, then_goes_out, to_propose}
use Rattle.client_core.specs.ClientView.{ClientView, at_core, state_of}
use Rattle.client_core.specs.Open.{fresh, goes_old_where, on_way, sent_last, turned, way_of, with_send, with_witnesses}
use Rattle.client_core.specs.Sending.{sent_by, sent_where}
use Rattle.client_core.specs.Posting.{posts_of}
use Rattle.client_core.specs.Learning.{learnt}
use Rattle.client_core.specs.declared.learning.Learning.{Learning as Here}
use Rattle.client_core.specs.declared.judging.Fate.TheVariants.{Waits}
use Rattle.client_core.specs.declared.reaction.Reaction.{Reaction}
use Rattle.client_core.specs.declared.open.Way.{Way}
use Rattle.client_core.specs.declared.sending.Sent.{Sent}

-- the request goes out as it stands
pub as_it_stands : (state : State) (me asks : ℕ) (asked : Asked) (witnesses : ℕ) (way : Way) (sent : Sent) → witnesses ≡ asked.witnesses → way ≡ way_of asked
    → ((client : Client) → goes_out state me (record client { asks = asks }) (on_way asked witnesses way) ≡ sent_by client (on_way asked witnesses way) sent)
    → (client : Client) → goes_out state me (record client { asks = asks }) asked ≡ sent_by client asked sent
as_it_stands state me asks asked witnesses way sent same way_is is client =
    let goes : Asked → Type 0 = λ (a : Asked). goes_out state me (record client { asks = asks }) a ≡ sent_by client a sent in
    subst goes (λ i. on_way asked (same i) (way_is i)) (is client)

-- the open request goes out at the client's state
pub open_sent : (core : ClientView) (state : State) (asked : Asked) (sent : Sent) → state ≡ state_of core → core.client.asked ≡ Some asked
    → ((client : Client) → goes_out state core.me (record client { asks = core.client.asks }) asked ≡ sent_by client asked sent)
    → goes_out_where (state_of core) core.me core.client core.client.asked ≡ sent_where core.client sent
open_sent core state asked sent at_state is_open is = rw (← at_state) (rw is_open (is core.client))

-- the open request goes out in another state, with more entries applied
pub open_sent_in : (core : ClientView) (state : State) (log : List Command) (witnesses : ℕ) (asked : Asked) (way : Way) (sent : Sent)
    → core.client.asked ≡ Some asked
    → way ≡ way_of asked
    → ((client : Client) → goes_out state core.me (record client { asks = core.client.asks }) (on_way asked witnesses way)
    ≡ sent_by client (on_way asked witnesses way) sent)
    → goes_out_where state core.me (record core.client { applied = log; asked = with_witnesses witnesses core.client.asked })
    (with_witnesses witnesses core.client.asked)
    ≡ sent_where (record core.client { applied = log; asked = with_witnesses witnesses core.client.asked }) sent
open_sent_in core state log witnesses asked way sent is_open way_is is =
    let client : Client = record core.client { applied = log; asked = Some (record asked { witnesses = witnesses }) } in
    let goes : Asked → Type 0 = λ (a : Asked). goes_out state core.me (record client { asks = core.client.asks }) a ≡ sent_by client a sent in
    rw is_open (subst goes (λ i. on_way asked witnesses (way_is i)) (is client))

-- it goes the old way
pub old_way_sent : (core : ClientView) (state : State) (asked : Asked) (witnesses : ℕ) (way : Way) (sent : Sent) → state ≡ state_of core
    → core.client.asked ≡ Some asked
    → witnesses ≡ asked.witnesses → way ≡ turned
    → ((client : Client) → goes_out state core.me (record client { asks = core.client.asks }) (on_way asked witnesses way)
    ≡ sent_by client (on_way asked witnesses way) sent)
    → goes_old_where (state_of core) core.me core.client core.client.asked ≡ sent_where core.client sent
old_way_sent core state asked witnesses way sent at_state is_open same way_is is =
    let goes : Asked → Type 0 = λ (a : Asked). goes_out state core.me (record core.client { asks = core.client.asks }) a ≡ sent_by core.client a sent in
    rw (← at_state) (rw is_open (subst goes (λ i. on_way asked (same i) (way_is i)) (is core.client)))

-- a call
pub called_is : (core new : ClientView) (line : ℕ) (request : Request) (asked : Asked) (sent : Sent) (letters : List Letter)
    → asked ≡ fresh line (core.client.seq + 1) request (state_of core).rev
    → ((client : Client) → goes_out (state_of core) core.me (record client { asks = core.client.asks }) asked ≡ sent_by client asked sent)
    → letters ≡ letters_of (record { from = actor.Client core.me; inc = 0; rev = length core.client.applied }) 0 (posts_of sent.post)
    → new ≡ record core { client = record core.client { seq = asked.seq; asks = sent.asks; asked = Some (sent_last sent.last asked) } }
    → ◌≡◌ {A = ClientView × Reaction} (new, record { letters = letters; answer = None })
    (at_core core (called (state_of core) core.me core.client line request))
called_is core new line request asked sent letters asked_is sent_is letters_are new_is =
    let goes : called (state_of core) core.me core.client line request ≡ goes_out (state_of core) core.me (record core.client { seq = asked.seq }) asked =
    rw asked_is refl in
    rw (new_is, letters_are) (ap (at_core core) (sym (goes ∙ sent_is (record core.client { seq = asked.seq }))))

-- what is known where the request waits still
learnt_waits : (client : Client) (asked : Option Asked) (now : Here) (witnesses : ℕ) → now.fate ≡ Waits witnesses
    → learnt client asked now
    ≡ record { state = now.state; client = record client { applied = now.applied.items; asked = with_witnesses witnesses asked }; answer = None }
learnt_waits client None now witnesses is = refl
learnt_waits client (Some asked) now witnesses is = rw is refl

-- the entries of a letter, where the request waits still
pub waited_is : (core new : ClientView) (now : Here) (witnesses : ℕ) (sent : Sent) (letters : List Letter) → now.fate ≡ Waits witnesses
    → goes_out_where now.state core.me (record core.client { applied = now.applied.items; asked = with_witnesses witnesses core.client.asked })
    (with_witnesses witnesses core.client.asked)
    ≡ sent_where (record core.client { applied = now.applied.items; asked = with_witnesses witnesses core.client.asked }) sent
    → letters ≡ letters_of (record { from = actor.Client core.me; inc = 0; rev = length now.applied.items }) 0 (posts_of sent.post)
    → new ≡ record core {
      client = record core.client {
        applied = now.applied.items;
        asks = sent.asks;
        asked = with_send sent.last (with_witnesses witnesses core.client.asked);
      };
    }
    → ◌≡◌ {A = ClientView × Reaction} (new, record { letters = letters; answer = None })
    (at_core core (then_goes_out core.me (learnt core.client core.client.asked now)))
waited_is core new now witnesses sent letters waits sent_is letters_are new_is =
    rw (new_is, letters_are, learnt_waits core.client core.client.asked now witnesses waits, sent_is) refl

-- ### The parts of a send

-- what is to be proposed is proposed
pub goes_by_command : (state : State) (me asks servers witnesses : ℕ) (asked : Asked) (way : Way) (command : Command) → servers ≡ servers_of state
    → to_propose state me (on_way asked witnesses way) ≡ Some command → (sent : Sent)
    → ((client : Client) (witnesses : ℕ) → servers ≡ servers_of state
    → asks_to_propose state (record client { asks = asks }) (on_way asked witnesses way) command ≡ sent_by client (on_way asked witnesses way) sent)
    → (client : Client) → goes_out state me (record client { asks = asks }) (on_way asked witnesses way) ≡ sent_by client (on_way asked witnesses way) sent
goes_by_command state me asks servers witnesses asked way command count wanted sent is client =
    ap (λ (to : Option Command). sends_or_proposes state me (record client { asks = asks }) (on_way asked witnesses way) to) wanted ∙ is client witnesses count

-- where nothing is, it goes to its servers
pub goes_by_sending : (state : State) (me asks witnesses : ℕ) (asked : Asked) (way : Way) → to_propose state me (on_way asked witnesses way) ≡ None
    → (sent : Sent)
    → ((client : Client) (witnesses : ℕ) → sends state me (record client { asks = asks }) (on_way asked witnesses way)
    ≡ sent_by client (on_way asked witnesses way) sent)
    → (client : Client) → goes_out state me (record client { asks = asks }) (on_way asked witnesses way) ≡ sent_by client (on_way asked witnesses way) sent
goes_by_sending state me asks witnesses asked way nothing sent is client =
    ap (λ (to : Option Command). sends_or_proposes state me (record client { asks = asks }) (on_way asked witnesses way) to) nothing ∙ is client witnesses
