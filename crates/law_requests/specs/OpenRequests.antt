-- Where the request of a pending operation is open still.
use Rattle.law_requests.specs.Imports.{Cell, Pending, Setting, World, at, cell_cmp, chosen_state, is_alone_on, is_clients, is_in, lead, server_state}
use Rattle.std.specs.Prelude.{◌≡◌, ◌≢◌, Some, false, true, ℕ}
use Rattle.law_requests.specs.AskedRequests.{IsOpen}
use Rattle.spec_rules.specs.State as state

-- no server but this one holds the cell's link alone, by its own state
abbrev pub NoOtherHolds : Setting → World → ℕ → Cell → Type 0
NoOtherHolds setting w n cell = (other : ℕ) → other ≢ n → is_alone_on (server_state setting w other) other cell ≡ false

-- by what is chosen the server is In as the incarnation that it is by its own state
pub record IsStill (setting : Setting) (w : World) (n : ℕ) : Type 0 where
  pub inc : ℕ
  pub own : is_in (server_state setting w n) n inc ≡ true
  pub now : is_in (chosen_state setting w) n inc ≡ true

-- where the server runs; and, also after it stopped, where the cell has a lead by what is chosen, which has not joined again since
-- its own state, and no other server yet knows that it holds the link alone. So where the cell is in Both by what is chosen, and
-- where the operation is of the primary and the secondary doesn't know yet that it is alone
pub record AreOpen (setting : Setting) (w : World) : Type 0 where
  pub running : (n : ℕ) (cell : Cell) (op : Pending) → at cell_cmp (w.servers n).own.pairs.pending cell ≡ Some op
      → is_clients op.kind ≡ true → (w.servers n).life.running ≡ true → IsOpen (w.clients op.client) op.seq
  pub led : (n leader : ℕ) (cell : Cell) (op : Pending) → at cell_cmp (w.servers n).own.pairs.pending cell ≡ Some op
      → is_clients op.kind ≡ true → lead (chosen_state setting w) cell ≡ Some leader → IsStill setting w leader → NoOtherHolds setting w n cell
      → IsOpen (w.clients op.client) op.seq
  pub in_both : (n : ℕ) (cell : Cell) (op : Pending) → at cell_cmp (w.servers n).own.pairs.pending cell ≡ Some op
      → is_clients op.kind ≡ true → state.in_both (chosen_state setting w) cell ≡ true → IsOpen (w.clients op.client) op.seq
  pub beside : (n m leader : ℕ) (cell : Cell) (op : Pending) → at cell_cmp (w.servers n).own.pairs.pending cell ≡ Some op
      → is_clients op.kind ≡ true → state.primary (chosen_state setting w) cell ≡ Some n → state.secondary (chosen_state setting w) cell ≡ Some m
      → lead (chosen_state setting w) cell ≡ Some leader → IsStill setting w leader → is_alone_on (server_state setting w m) m cell ≡ false
      → IsOpen (w.clients op.client) op.seq
