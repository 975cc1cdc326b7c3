-- One cell as its two servers have it, and what is kept of it.
use Rattle.law_copies.specs.Imports.{AtRest, Body, Busy, Cell, Chain, Key, LastOp, PairState, Pending, Stale, State, Store, Table, World, at, cell_cmp}
use Rattle.law_copies.specs.Imports.{chain_in, is_clients, is_marked, live, one_put_ahead, primary, progress, secondary}
use Rattle.std.specs.Prelude.{◌+◌, ◌<◌, ◌≡◌, ◌≤◌, ◌⊎◌, Bool, List, None, Option, Some, false, true, ℕ}
use Rattle.std.specs.Ordering.{nat_cmp}
use Rattle.petal_msg.specs.declared.body.Body.TheVariants as body

-- the two copies, the operation that is pending at the first server and the number of its next one, and the last operation that
-- the second one took part in
pub record Pair : Type 0 where
  pub first : Chain
  pub second : Chain
  pub pending : Option Pending
  pub next : ℕ
  pub last : Option LastOp

abbrev pub pair_of : PairState → PairState → Cell → Pair
pair_of lead other cell = record {
  first = chain_in lead.store.chains cell;
  second = chain_in other.store.chains cell;
  pending = at cell_cmp lead.pairs.pending cell;
  next = lead.pairs.next;
  last = at cell_cmp other.pairs.last cell;
}

-- these two servers keep the cell, whoever serves it
pub record IsPair (state : State) (cell : Cell) (n m : ℕ) : Type 0 where
  pub leads : primary state cell ≡ Some n
  pub follows : secondary state cell ≡ Some m

-- above each number that operations on the cell have had
abbrev pub ceiling_of : Option Pending → ℕ → ℕ
ceiling_of None next = next
ceiling_of (Some op) next = op.op + 1

abbrev pub ceiling : Pair → ℕ
ceiling pair = ceiling_of pair.pending pair.next

-- the number of the operation that is pending, or of the next one
abbrev pub number_of : Option Pending → ℕ → ℕ
number_of None next = next
number_of (Some op) next = op.op

abbrev pub far : Pair → ℕ
far pair = progress pair.last

-- the first server has not put: the copies are equal, and where the operation has its slot the second one set it apart
pub record IsEven (first second : Chain) (at : ℕ) (op : Pending) : Type 0 where
  pub even : first ≡ second
  pub not_past : at < op.op + op.op + 1
  pub begun : op.stage.reserved ≡ true → op.op + op.op ≤ at

-- the first server has put: it is one put ahead, or the second one has followed
pub record IsAhead (first second : Chain) (at : ℕ) (op : Pending) : Type 0 where
  pub begun : op.op + op.op ≤ at
  pub ahead : at ≡ op.op + op.op → first ≡ one_put_ahead second op
  pub even : op.op + op.op + 1 ≤ at → first ≡ second

abbrev pub Working : Chain → Chain → ℕ → Pending → (put : Bool) → Type 0
Working first second at op false = IsEven first second at op
Working first second at op true = IsAhead first second at op

-- the two copies, where the second server is so far
abbrev pub AreCopies : Chain → Chain → ℕ → Option Pending → Type 0
AreCopies first second at None = first ≡ second
AreCopies first second at (Some op) = Working first second at op op.stage.put

pub record PairOk (pair : Pair) : Type 0 where
  pub copies : AreCopies pair.first pair.second (far pair) pair.pending
  pub below : far pair < ceiling pair + ceiling pair
  pub fresh : ceiling pair ≤ pair.next
  pub counted : 1 ≤ number_of pair.pending pair.next

-- this operation is pending, and the second server was asked to follow
pub record IsPutting (pending : Option Pending) (number : ℕ) (key : Key) (bytes : List ℕ) : Type 0 where
  pub op : Pending
  pub is : pending ≡ Some op
  pub number_is : op.op ≡ number
  pub put : op.stage.put ≡ true
  pub key_is : op.key ≡ key
  pub bytes_is : op.bytes ≡ bytes

-- time goes on
pub record Grows (old new : Pair) : Type 0 where
  pub onward : far old ≤ far new
  pub higher : ceiling old ≤ ceiling new
  pub putting : (number : ℕ) (key : Key) (bytes : List ℕ) → IsPutting old.pending number key bytes
      → IsPutting new.pending number key bytes ⊎ (number + number + 1 ≤ far new)

pub record Keeps (old new : Pair) : Type 0 where
  pub ok : PairOk new
  pub grows : Grows old new

-- what is known of a letter that was ever sent, where the cell stands so
abbrev pub Known : Pair → Body → Type 0
Known pair (body.Reserve number cell) = number < ceiling pair
Known pair (body.Reserved number cell) = number + number ≤ far pair
Known pair (body.PairFull number cell) = number < ceiling pair
Known pair (body.Replicate number key version origin bytes) = IsPutting pair.pending number key bytes ⊎ (number + number + 1 ≤ far pair)
Known pair (body.Replicated number cell) = number + number + 1 ≤ far pair
Known pair _ = Unit {0}

abbrev pub owns_of : World → ℕ → PairState
owns_of w n = (w.servers n).own

-- ### Marks

-- an operation whose stage says that its block is marked finds it so; and one for an entry that moves finds nothing of its epoch, until it
-- has put
pub record HasMarks (op : Pending) (store : Store) (cell : Cell) : Type 0 where
  pub busy : op.stage.busy ≡ true → is_marked store Busy cell ≡ true
  pub stale : op.stage.stale ≡ true → is_marked store Stale cell ≡ true
  pub lacks : is_clients op.kind ≡ false → op.stage.put ≡ false → at nat_cmp (chain_in store.chains cell) op.key.epoch ≡ None

-- each operation of a table does that is of a cell which is live by this state: what is left of retired ones is swept
abbrev pub HaveMarks : State → Table Cell Pending → Store → Type 0
HaveMarks state pending store = (cell : Cell) (op : Pending) → live state cell ≡ true → at cell_cmp pending cell ≡ Some op → HasMarks op store cell

-- an operation that a server remembers rests, and its block is still marked as its stage says
pub record IsRecalled (op : Pending) (store : Store) (cell : Cell) : Type 0 where
  pub rests : AtRest op.stage
  pub marks : HasMarks op store cell
