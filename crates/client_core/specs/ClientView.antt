-- A client's core, and what a step of it leaves, sends and answers.
use Rattle.std.specs.Prelude.{ℕ, ◌==◌, ◌||◌, Bool, Option, Some, None}
use Rattle.spec_state.specs.Command.{state_after}
use Rattle.spec_rules.specs.State.{State}
use Rattle.spec_rules.specs.Server.{letters_of}
use Rattle.spec_rules.specs.Clients.{Asked, Client, client_sender}
use Rattle.spec_rules.specs.Clients as rules
use Rattle.spec_rules.specs.World.{greatest_u32, round_of, turn_of}
use Rattle.client_core.specs.Open.{settle_in}
use Rattle.client_core.specs.Orders.{order_in, order_of}
use Rattle.client_core.specs.declared.order.Order.{Order}
use Rattle.client_core.specs.declared.reaction.Reaction.{Reaction}

-- a client's number, how many servers there are, and what the rules know of it
pub record ClientView : Type 0 where
  pub me : ℕ
  pub servers : ℕ
  pub client : Client

-- its global state: what the entries make that it has applied
abbrev pub state_of : ClientView → State
state_of core = state_after core.servers core.client.applied

-- a rule's outcome, at this core: the core after it, and the letters and the answer that it gives
abbrev pub at_core : ClientView → rules.Reaction → ClientView × Reaction
at_core core reacted = (
  record core { client = reacted.client },
  record { letters = letters_of (client_sender core.me reacted.client) 0 reacted.posts; answer = reacted.answer },
)

-- a number of the client is the greatest of its type
abbrev pub is_spent : Client → Bool
is_spent client =
    (client.seq == greatest_u32) || (turn_of client.asked == greatest_u32) || (round_of client.asked == greatest_u32)

-- the open request's line, with what it asks of which server
abbrev pub ordered : Option Asked → Option (ℕ × Order × ℕ)
ordered None = None
ordered (Some asked) = order_in asked (order_of asked.request)

-- the open request's line and its round, where it is a settle
abbrev pub settle_of : Option Asked → Option (ℕ × ℕ)
settle_of None = None
settle_of (Some asked) = settle_in asked asked.request
