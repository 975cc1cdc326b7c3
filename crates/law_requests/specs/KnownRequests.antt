-- What is kept of requests: of those that are open, pending or finished, and of the letters that speak of them.
use Rattle.law_requests.specs.Imports.{Actor, Asked, Body, Cell, Client, Command, Drained, In, IsPrefix, Letter, PairState, Pending, Setting, State, Wanted}
use Rattle.law_requests.specs.Imports.{World, at, cell_cmp, chosen_log, coming, done_to, epoch_at, held, is_clients, is_in, is_lead, is_writes_held, lead}
use Rattle.law_requests.specs.Imports.{server_state, state_after}
use Rattle.std.specs.Prelude.{[], if◌then◌else◌, ◌++◌, ◌+◌, ◌<◌, ◌==◌, ◌∷◌, ◌≡◌, ◌≤◌, ◌⊎◌, Bool, List, None, Some, false, length, true, ℕ}
use Rattle.std.specs.Ordering.{nat_cmp}
use Rattle.law_requests.specs.AskedRequests.{IsWrite, IsRead, IsAsked, IsOpenFrom, HasItsWay, WasToldAt}
use Rattle.petal_msg.specs.declared.body.Body.TheVariants as body
use Rattle.petal_msg.specs.declared.letter.Actor.TheVariants as actor

-- what is known of clients, which letters were sent, which entries each server has applied, also before it stopped, and above which number
-- each of its incarnations has finished each client's requests
pub record Seen : Type 0 where
  pub clients : ℕ → Client
  pub sent : List Letter
  pub logs : ℕ → List Command
  pub done : (server inc client : ℕ) → ℕ

-- above the last request that this own has finished for the client
abbrev pub done_by : PairState → ℕ → ℕ
done_by own c = done_to (at nat_cmp own.pairs.finished c)

-- ### Incarnations

-- as which incarnation each server ran last, and above which number each incarnation has finished each client's requests: what
-- a server forgets at a boot stays known of the incarnation that it was
pub record Lives : Type 0 where
  pub ran : ℕ → ℕ
  pub done : (server inc client : ℕ) → ℕ

-- after a step that leads to this world
abbrev pub lives_after : Lives → World → Lives
lives_after lives w =
    let ran : ℕ → ℕ = λ n. if (w.servers n).life.running then (w.servers n).life.inc else lives.ran n in
    record { ran = ran; done = λ n inc c. if inc == ran n then done_by (w.servers n).own c else lives.done n inc c }

-- who runs does so as the incarnation that it ran as last, and has that one's memory; a later one has none yet
pub record AreLives (w : World) (lives : Lives) : Type 0 where
  pub ran : (n : ℕ) → (w.servers n).life.running ≡ true → lives.ran n ≡ (w.servers n).life.inc
  pub begun : (n : ℕ) → lives.ran n ≤ (w.servers n).life.inc
  pub tied : (n c : ℕ) → lives.done n (lives.ran n) c ≡ done_by (w.servers n).own c
  pub unborn : (n inc c : ℕ) → lives.ran n < inc → lives.done n inc c ≡ 0

abbrev pub seen : Lives → World → Seen
seen lives w = record { clients = w.clients; sent = w.sent; logs = λ n. (w.servers n).log.applied; done = lives.done }

-- the server is In as this incarnation, and leads the cell
pub record LedBy (state : State) (n inc : ℕ) (cell : Cell) : Type 0 where
  pub seated : is_in state n inc ≡ true
  pub leads : is_lead state n cell ≡ true

-- the prefix of a log that has so many entries as the revision says
pub record IsAt (log : List Command) (rev : ℕ) : Type 0 where
  pub prefix : List Command
  pub lies : IsPrefix prefix log
  pub long : length prefix ≡ rev

-- ### Writes

-- why an incarnation that led the cell by these entries can't take a client's write any more: it is past it; or the cell had
-- no lead by a later state of the client; or another server, or this one as another incarnation, led it by a later state of its own
pub data IsLate (servers : ℕ) (v : Seen) (prefix : List Command) (client seq : ℕ) (cell : Cell) (n inc : ℕ) : Type 0 where
  Is_past : seq < v.done n inc client → IsLate servers v prefix client seq cell n inc
  Had_no_lead : (log : List Command) → IsPrefix prefix log → IsPrefix log (v.clients client).applied → lead (state_after servers log) cell ≡ None
      → IsLate servers v prefix client seq cell n inc
  Had_another : (log : List Command) (other : ℕ) → IsPrefix prefix log → IsPrefix log (v.logs other)
      → is_lead (state_after servers log) other cell ≡ true → (other ≡ n → is_in (state_after servers log) n inc ≡ false)
      → IsLate servers v prefix client seq cell n inc

-- whoever leads the cell by the state that these entries make can't take the write any more
abbrev pub AreLate : (servers : ℕ) → Seen → Wanted → List Command → Type 0
AreLate servers v want prefix =
    (n inc : ℕ) → LedBy (state_after servers prefix) n inc want.cell → IsLate servers v prefix want.client want.seq want.cell n inc

-- a write that its client has sent at this revision: its request is a write of this cell by the state of that revision, and it is of the epoch
-- that the cell's disk has by that state
pub record IsSent (setting : Setting) (v : Seen) (want : Wanted) (rev : ℕ) : Type 0 where
  pub at : IsAt (v.clients want.client).applied rev
  pub served : IsWrite (state_after setting.servers at.prefix) setting.lines want.client want.seq want.cell want.bytes
  pub epoch : want.epoch ≡ epoch_at (state_after setting.servers at.prefix) want.cell
  pub old : want.seq ≤ (v.clients want.client).seq

-- and its request is open, or the server that leads the cell at that revision can't take it any more
pub record WriteKnown (setting : Setting) (v : Seen) (want : Wanted) (rev : ℕ) : Type 0 where
  pub sent : IsSent setting v want rev
  pub still : IsOpenFrom (v.clients want.client) want.seq rev ⊎ AreLate setting.servers v want sent.at.prefix

-- a read that its client has sent at this revision, by the state of that revision: it asks an old map only where a letter of this revision told it to
pub record ReadKnown (setting : Setting) (v : Seen) (client seq : ℕ) (cell : Cell) (epoch rev : ℕ) : Type 0 where
  pub at : IsAt (v.clients client).applied rev
  pub told : Bool
  pub read : IsRead (state_after setting.servers at.prefix) setting.lines client seq told cell epoch
  pub why : told ≡ true → WasToldAt v.sent client seq rev

-- of a reply that ends a write: its sender led the cell at its revision, by whose state it is the write's cell, and is past the write
pub record EndKnown (setting : Setting) (v : Seen) (client seq server rev : ℕ) : Type 0 where
  pub inc : ℕ
  pub cell : Cell
  pub bytes : List ℕ
  pub old : seq ≤ (v.clients client).seq
  pub at : IsAt (v.logs server) rev
  pub write : IsWrite (state_after setting.servers at.prefix) setting.lines client seq cell bytes
  pub led : LedBy (state_after setting.servers at.prefix) server inc cell
  pub past : seq < v.done server inc client

-- of a reply that the new map has nothing of what a read asked for: the read was sent at this revision to a cell that is coming by its state,
-- of the new map of a disk whose move has the cell's region on its way
pub record NothingKnown (setting : Setting) (v : Seen) (client seq rev : ℕ) : Type 0 where
  pub cell : Cell
  pub epoch : ℕ
  pub at : IsAt (v.clients client).applied rev
  pub read : IsRead (state_after setting.servers at.prefix) setting.lines client seq false cell epoch
  pub comes : coming (state_after setting.servers at.prefix) cell ≡ true

-- ### Letters

abbrev pub EndKnownAt : Setting → Seen → (seq rev : ℕ) → (from to : Actor) → Type 0
EndKnownAt setting v seq rev (actor.Server n) (actor.Client c) = EndKnown setting v c seq n rev
EndKnownAt setting v seq rev _ _ = ⊥

abbrev pub NothingKnownAt : Setting → Seen → (seq rev : ℕ) → (to : Actor) → Type 0
NothingKnownAt setting v seq rev (actor.Client c) = NothingKnown setting v c seq rev
NothingKnownAt setting v seq rev (actor.Server n) = ⊥

-- what is known of a letter that was ever sent
abbrev pub Known : Setting → Seen → (from to : Actor) → (rev : ℕ) → Body → Type 0
Known setting v from to rev (body.Write client seq cell epoch bytes) =
    WriteKnown setting v (record { client = client; seq = seq; cell = cell; epoch = epoch; bytes = bytes }) rev
Known setting v from to rev (body.Read client seq cell epoch) = ReadKnown setting v client seq cell epoch rev
Known setting v from to rev (body.Written seq) = EndKnownAt setting v seq rev from to
Known setting v from to rev (body.Full seq) = EndKnownAt setting v seq rev from to
Known setting v from to rev (body.NotHere seq) = NothingKnownAt setting v seq rev to
Known setting v from to rev _ = Unit {0}

abbrev pub KnownLetter : Setting → Seen → Letter → Type 0
KnownLetter setting v letter = Known setting v letter.from letter.to letter.rev letter.body

-- ### Operations

-- what the operation was opened for
abbrev pub asked_for : Cell → Pending → Wanted
asked_for cell op = record { client = op.client; seq = op.seq; cell = cell; epoch = op.key.epoch; bytes = op.bytes }

-- by these entries, and by all from there to those, this incarnation is In and leads the cell
abbrev pub IsLedAlong : (servers : ℕ) → (prefix whole : List Command) → (n inc : ℕ) → Cell → Type 0
IsLedAlong servers prefix whole n inc cell = (log : List Command) → IsPrefix prefix log → IsPrefix log whole
    → LedBy (state_after servers log) n inc cell

-- a write that is pending at this incarnation was sent at the revision at which it was opened, and no fence held the cell's writes there;
-- from there on the incarnation has led the cell, as far as it had come while the write was pending; and it is not past it
pub record PendingFor (setting : Setting) (v : Seen) (n inc : ℕ) (want : Wanted) (rev : ℕ) : Type 0 where
  pub known : WriteKnown setting v want rev
  pub unfenced : is_writes_held (held (state_after setting.servers known.sent.at.prefix) want.cell) ≡ false
  pub upto : List Command
  pub opened : IsPrefix known.sent.at.prefix upto
  pub applied : IsPrefix upto (v.logs n)
  pub along : IsLedAlong setting.servers known.sent.at.prefix upto n inc want.cell
  pub unfinished : v.done n inc want.client ≤ want.seq

-- something is pending or was finished
pub data IsUsed (own : PairState) : Type 0 where
  Has_pending : (cell : Cell) (op : Pending) → at cell_cmp own.pairs.pending cell ≡ Some op → IsUsed own
  Has_finished : (c : ℕ) → 1 ≤ done_by own c → IsUsed own

-- of what is pending only the clients' writes are requests
pub record AskingBy (setting : Setting) (w : World) (lives : Lives) : Type 0 where
  pub lived : AreLives w lives
  pub asked : (c : ℕ) (asked : Asked) → (w.clients c).asked ≡ Some asked → IsAsked setting.lines c (w.clients c) asked
  pub ways : (c : ℕ) (asked : Asked) → (w.clients c).asked ≡ Some asked → HasItsWay w.sent c asked
  pub letters : (letter : Letter) → In letter w.sent → KnownLetter setting (seen lives w) letter
  pub pending : (n : ℕ) (cell : Cell) (op : Pending) → at cell_cmp (w.servers n).own.pairs.pending cell ≡ Some op
      → is_clients op.kind ≡ true → PendingFor setting (seen lives w) n (lives.ran n) (asked_for cell op) op.rev
  pub come : (n : ℕ) (cell : Cell) (op : Pending) (is : at cell_cmp (w.servers n).own.pairs.pending cell ≡ Some op)
      (clients : is_clients op.kind ≡ true) → (pending n cell op is clients).upto ≡ (w.servers n).log.applied
  pub finished : (n c : ℕ) → done_by (w.servers n).own c ≤ (w.clients c).seq + 1
  pub used : (n : ℕ) → IsUsed (w.servers n).own → is_in (server_state setting w n) n (lives.ran n) ≡ true

-- the same, of the incarnations that there were
pub record Asking (setting : Setting) (w : World) : Type 0 where
  pub lives : Lives
  pub known : AskingBy setting w lives

-- ### Reports to fences

-- of the reports of the incarnations that ran last which are chosen: the server had come so far, and what a client has pending on a cell of which
-- the fence held the writes there was opened later
pub record KnowsReports (setting : Setting) (w : World) (lives : Lives) : Type 0 where
  pub reached : (n fence : ℕ) (until : List Command) → IsPrefix (until ++ Drained n (lives.ran n) fence ∷ []) (chosen_log setting w)
      → IsPrefix until (w.servers n).log.applied
  pub later : (n fence : ℕ) (until : List Command) → IsPrefix (until ++ Drained n (lives.ran n) fence ∷ []) (chosen_log setting w)
      → (cell : Cell) (op : Pending) → at cell_cmp (w.servers n).own.pairs.pending cell ≡ Some op → is_clients op.kind ≡ true
      → is_writes_held (held (state_after setting.servers until) cell) ≡ true → length until < op.rev
