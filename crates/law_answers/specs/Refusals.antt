-- Why a request was refused.
use Rattle.law_answers.specs.Imports.{Actor, Asked, Body, Cell, Command, Finished, FoundNoSlot, Handled, In, IsBusy, IsHeldBack, IsMoment, IsPrefix}
use Rattle.law_answers.specs.Imports.{IsReadable, JobContext, Letter, PairState, Pending, Record, Setting, Settle, Step, Work, World, at, cell_cmp, chain_in}
use Rattle.law_answers.specs.Imports.{chosen_log, coming, done_to, entry_at, first, free_of, is_clients, is_in, is_lead, own_place, pending_on, second}
use Rattle.law_answers.specs.Imports.{server_state, start, state_after, world_after}
use Rattle.std.specs.Prelude.{◌<◌, ◌≡◌, ◌≤◌, ◌⊎◌, List, None, Some, length, true, ℕ}
use Rattle.std.specs.Ordering.{nat_cmp}
use Rattle.law_answers.specs.FullCauses.{HasFullServer}
use Rattle.petal_msg.specs.declared.body.Body.TheVariants as body
use Rattle.petal_msg.specs.declared.letter.Actor.TheVariants as actor
use Rattle.petal_msg.specs.declared.operation.Ending.TheVariants as ending
use Rattle.spec_rules.specs.declared.step.WorkEnd.TheVariants as work_end

-- ### No slot

-- the server's job refused this request since there was no slot. At the cell's lead, by its own state, the request is newer than
-- what the lead has finished for its client, nothing is pending on the cell, and no slot is free. At the second server, by its
-- own state, the operation of the request, which is pending at the first one, also where that has stopped, is newer than the
-- last one on the cell, of which no slot is left over, and none is free
pub data HadNoSlot (setting : Setting) (w : World) (who : Actor) (what : Step) (client seq : ℕ) : Type 0 where
  At_the_lead : (n : ℕ) (cell : Cell) (epoch : ℕ) (bytes : List ℕ) → who ≡ actor.Server n → what ≡ Work work_end.Done
      → is_lead (server_state setting w n) n cell ≡ true → Handled w n (body.Write client seq cell epoch bytes)
      → done_to (at nat_cmp (w.servers n).own.pairs.finished client) ≤ seq → pending_on (w.servers n).own cell ≡ None
      → free_of (w.servers n).own.store ≡ 0 → HadNoSlot setting w who what client seq
  At_the_second : (n m : ℕ) (cell : Cell) (op : Pending) → who ≡ actor.Server m → what ≡ Work work_end.Done
      → first (server_state setting w m) cell ≡ Some n → second (server_state setting w m) cell ≡ Some m
      → at cell_cmp (w.servers n).own.pairs.pending cell ≡ Some op → is_clients op.kind ≡ true → op.client ≡ client → op.seq ≡ seq
      → Handled w m (body.Reserve op.op cell) → FoundNoSlot (w.servers m).own cell op.op → HadNoSlot setting w who what client seq

-- one of these records tells of such a step
pub record WasRefused (setting : Setting) (records : List Record) (client seq : ℕ) : Type 0 where
  pub moment : IsMoment records
  pub open moment use *
  pub reason : HadNoSlot setting (world_after setting (start setting) prefix) own.actor own.step client seq

-- the request that the client has open, which this line's answer ends
pub record IsOpenFor (w : World) (client line : ℕ) : Type 0 where
  pub asked : Asked
  pub is : (w.clients client).asked ≡ Some asked
  pub number : asked.line ≡ line

-- it was refused for want of a slot; or it is a settle, and one of its glances found a server of which a copy, or an entry that it was to move,
-- had found no slot
abbrev pub HasNoSpace : Setting → List Record → (client line : ℕ) → Asked → Type 0
HasNoSpace setting records client line asked =
    WasRefused setting records client asked.seq ⊎ ((asked.request ≡ Settle) × HasFullServer setting records line)

-- the answer has a reason
pub record HasReason (setting : Setting) (records : List Record) (client line : ℕ) : Type 0 where
  pub opened : IsOpenFor (world_after setting (start setting) records) client line
  pub refused : HasNoSpace setting records client line opened.asked

-- ### A busy block

-- a server's step found another operation, or a copy, under way on the block that it leads
pub record FoundBusy (setting : Setting) (w : World) (who : Actor) (seq : ℕ) : Type 0 where
  pub server : ℕ
  pub is : who ≡ actor.Server server
  pub busy : IsBusy (Handled w server) (own_place setting w server) (w.servers server).own seq

-- ### A request that is held back

-- a server's step found that a fence, or a ballot of its own for the link's Caught, holds back the request that it handled
pub record FoundHeld (setting : Setting) (w : World) (who : Actor) (seq : ℕ) : Type 0 where
  pub server : ℕ
  pub is : who ≡ actor.Server server
  pub held : IsHeldBack (Handled w server) (own_place setting w server) (w.servers server).own seq

-- ### What the new map has nothing of

-- the server may read the cell that this client's read asked for, which is coming by its own state, and no fence holds its reads; and its chain
-- has no entry at the epoch or below
pub record HasNothingOf (heard : Body → Type 0) (here : JobContext) (own : PairState) (to : Actor) (seq : ℕ) : Type 0 where
  pub client : ℕ
  pub to_client : to ≡ actor.Client client
  pub cell : Cell
  pub epoch : ℕ
  pub may : IsReadable heard here own client seq cell epoch
  pub comes : coming here.state cell ≡ true
  pub none : entry_at (chain_in own.store.chains cell) epoch ≡ None

-- a server's step found that it has nothing of what this client's read asked for
pub record FoundNothing (setting : Setting) (w : World) (who to : Actor) (seq : ℕ) : Type 0 where
  pub server : ℕ
  pub is : who ≡ actor.Server server
  pub nothing : HasNothingOf (Handled w server) (own_place setting w server) (w.servers server).own to seq
  pub open nothing use *

-- ### What is kept

-- the letter speaks of the operation of this number of the cell's first server, by the entries that its revision counts: of this
-- incarnation's, which has given that number out
pub record IsNumbered (setting : Setting) (w : World) (letter : Letter) (number : ℕ) (cell : Cell) : Type 0 where
  pub server : ℕ
  pub inc : ℕ
  pub prefix : List Command
  pub stands : IsPrefix prefix (chosen_log setting w)
  pub long : length prefix ≡ letter.rev
  pub seated : is_in (state_after setting.servers prefix) server inc ≡ true
  pub leads : first (state_after setting.servers prefix) cell ≡ Some server
  pub begun : inc ≤ (w.servers server).life.inc
  pub given : (w.servers server).life.inc ≡ inc → number < (w.servers server).own.pairs.next

-- and R holds of the request of that operation, as long as it is pending there, if it is a client's write
pub record IsDeclined (R : ℕ → ℕ → Type 0) (setting : Setting) (w : World) (letter : Letter) (number : ℕ) (cell : Cell) : Type 0 where
  pub by : IsNumbered setting w letter number cell
  pub to : letter.to ≡ actor.Server by.server
  pub refused : (op : Pending) → (w.servers by.server).life.inc ≡ by.inc
      → at cell_cmp (w.servers by.server).own.pairs.pending cell ≡ Some op
      → op.op ≡ number → is_clients op.kind ≡ true → R op.client op.seq

-- where R holds of each request that was refused so far: of each that a letter tells of, or a server that runs remembers, and of the
-- operation of which a second server told its lead that it has no slot. Numbers count from 1 in each life, so that such a letter says
-- nothing of the operations of a later one
pub record Refusals (R : ℕ → ℕ → Type 0) (setting : Setting) (w : World) : Type 0 where
  pub letters : (letter : Letter) (c seq : ℕ) → In letter w.sent → letter.to ≡ actor.Client c → letter.body ≡ body.Full seq → R c seq
  pub finished : (n c : ℕ) (last : Finished) → (w.servers n).life.running ≡ true → at nat_cmp (w.servers n).own.pairs.finished c ≡ Some last
      → last.ending ≡ ending.Full → R c last.seq
  pub numbered : (n : ℕ) (cell : Cell) (op : Pending) → at cell_cmp (w.servers n).own.pairs.pending cell ≡ Some op
      → op.op < (w.servers n).own.pairs.next
  pub reserves : (letter : Letter) (number : ℕ) (cell : Cell) → In letter w.sent → letter.body ≡ body.Reserve number cell
      → IsNumbered setting w letter number cell
  pub declined : (letter : Letter) (number : ℕ) (cell : Cell) → In letter w.sent → letter.body ≡ body.PairFull number cell
      → IsDeclined R setting w letter number cell
