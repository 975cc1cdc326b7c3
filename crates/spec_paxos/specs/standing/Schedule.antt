-- All servers, what their state devices keep, every letter ever sent, and what may happen next.
use Rattle.std.specs.Prelude.{ℕ, ◌+◌, ◌≤◌, ◌≡◌, ◌⊎◌, Bool, true, if◌then◌else◌, List, [], ◌∷◌, nat_lt, ◌&&◌, slice_get, Option, Some, None}
use Rattle.petal_command.specs.declared.ballot.Ballot.{Ballot}
use Rattle.petal_command.specs.declared.command.Command.{Command}
use Rattle.spec_paxos.specs.Member.{In, put}
use Rattle.spec_paxos.specs.Quorum.{IsMajority}
use Rattle.spec_paxos.specs.standing.Letters.{Letter, Prepare, Accept, Chosen}
use Rattle.spec_paxos.specs.standing.Kept.{StateRecord, Inc, PromiseFrom, inc_of, committed}
use Rattle.spec_paxos.specs.standing.Kept.{Accepted as Vote, Chosen as Learnt}
use Rattle.spec_paxos.specs.standing.Acceptor.{is_unpromised_from, on_prepare, prepare_reply, on_accept, accept_reply}
use Rattle.spec_paxos.specs.standing.Proposer.{Phase, Idle, Heard, Nothing, Stands, Decided, Refused, Step, Proposal, starting, hear, propose}

-- how many servers there are, and how many acceptances a promise lists at most
pub record Setting : Type 0 where
  pub servers : ℕ
  pub most : ℕ

-- at most 256 servers, and a promise that may list something
pub record Fits (o : Setting) : Type 0 where
  pub small : o.servers ≤ 256
  pub some : 1 ≤ o.most

-- a letter that was sent, and by whom
pub data Sent : Type 0 where
  sent : (from : ℕ) → (body : Letter) → Sent

pub record World : Type 0 where
  pub devices : ℕ → List StateRecord  -- the records on each server's state device
  pub proposers : ℕ → Option Phase  -- what each server's proposer is about; none while the server is stopped
  pub letters : List Sent  -- every letter ever sent

-- how a server comes out of what it does: it does all of it, or stops before or after its commit and sends nothing
pub data End : Type 0 where
  Goes : End
  StopsBefore : End
  StopsAfter : End

-- a proposer starts a ballot from a place on; a standing one proposes for a place; a letter ever sent, by its number, is
-- handed to a server; a server stops; a stopped server boots
pub data Event : Type 0 where
  Starts : (server from round : ℕ) → (end : End) → Event
  Proposes : (server place : ℕ) → (want : Command) → Event
  Handed : (which to : ℕ) → (end : End) → Event
  Stops : (server : ℕ) → Event
  Boots : (server : ℕ) → (end : End) → Event

abbrev pub keep : World → ℕ → List StateRecord → World
keep w s records = record w { devices = put w.devices s records }

abbrev pub commit : World → ℕ → StateRecord → World
commit w s entry = keep w s (committed (w.devices s) entry)

abbrev pub send : World → ℕ → Letter → World
send w s l = record w { letters = sent s l ∷ w.letters }

abbrev pub turn : World → ℕ → Option Phase → World
turn w s q = record w { proposers = put w.proposers s q }

abbrev pub ended : World → World → World → ℕ → End → World
ended before committed done s Goes = done
ended before committed done s StopsBefore = turn before s None
ended before committed done s StopsAfter = turn committed s None

-- each ballot is started once: the starter's own acceptor commits its promise first
abbrev pub started : World → ℕ → ℕ → Ballot → End → World
started w s from b end =
    let kept = commit w s (PromiseFrom from b) in
    ended w kept (send (turn kept s (Some (starting from b))) s (Prepare from b)) s end

abbrev pub starts : ℕ → World → ℕ → Option Phase → ℕ → Ballot → End → World
starts n w s None from b end = w
starts n w s (Some q) from b end = if nat_lt s n && is_unpromised_from (w.devices s) from b then started w s from b end else w

abbrev pub puts : World → ℕ → Option Letter → World
puts w s None = w
puts w s (Some l) = send w s l

abbrev pub proposed : World → ℕ → Proposal → World
proposed w s step = turn (puts w s step.letter) s (Some step.phase)

abbrev pub proposes : World → ℕ → Option Phase → ℕ → Command → World
proposes w s None place want = w
proposes w s (Some q) place want = proposed w s (propose q place want)

abbrev pub acts : World → ℕ → Heard → World
acts w s Nothing = w
acts w s (Stands from until) = w
acts w s (Decided place command) = send w s (Chosen place command)
acts w s (Refused b) = w

abbrev pub comes_out : World → ℕ → Step → World
comes_out w s step = turn (acts w s step.heard) s (Some step.phase)

-- a running server whose proposer is about q handles a letter
abbrev pub handed : Setting → World → ℕ → Phase → ℕ → Letter → End → World
handed o w s q server (Prepare from b) end =
    let kept = keep w s (on_prepare (w.devices s) from b) in
    ended w kept (send kept s (prepare_reply o.most (w.devices s) from b)) s end
handed o w s q server (Accept place b c) end =
    let kept = keep w s (on_accept (w.devices s) place b c) in
    ended w kept (send kept s (accept_reply (w.devices s) place b)) s end
handed o w s q server (Chosen place c) end =
    let kept = commit w s (Learnt place c) in
    ended w kept kept s end
handed o w s q server l end = ended w w (comes_out w s (hear o.servers o.most q server l)) s end

-- a stopped server drops what comes
abbrev pub arrives : Setting → World → ℕ → Option Phase → Option Sent → End → World
arrives o w s None l end = w
arrives o w s (Some q) None end = w
arrives o w s (Some q) (Some (sent server body)) end = handed o w s q server body end

-- a stopped server raises its incarnation and starts with what is on its device
abbrev pub boots : World → ℕ → Option Phase → End → World
boots w s None end =
    let kept = commit w s (Inc (inc_of (w.devices s) + 1)) in
    ended w kept (turn kept s (Some Idle)) s end
boots w s (Some q) end = w

abbrev pub happens : Setting → World → Event → World
happens o w (Starts s from round end) = starts o.servers w s (w.proposers s) from (record { round = round; server = s }) end
happens o w (Proposes s place want) = proposes w s (w.proposers s) place want
happens o w (Handed which to end) = arrives o w to (w.proposers to) (slice_get w.letters which) end
happens o w (Stops s) = turn w s None
happens o w (Boots s end) = boots w s (w.proposers s) end

abbrev pub run : Setting → List Event → World → World
run o [] w = w
run o (e ∷ es) w = run o es (happens o w e)

-- all run with their first incarnation alone, and nothing was sent
abbrev pub begin : World
begin = record { devices = λ s. Inc 1 ∷ []; proposers = λ s. Some Idle; letters = [] }

-- the command has, in one ballot, the votes of a majority of the n servers
abbrev pub IsChosen : ℕ → World → ℕ → Command → Type 0
IsChosen n w place command =
    (ballot : Ballot) × (who : ℕ → Bool) × IsMajority n who × ((s : ℕ) → who s ≡ true → In (Vote place ballot command) (w.devices s))

-- one of the events proposes this command for this place
abbrev pub IsWanted : List Event → ℕ → Command → Type 0
IsWanted [] place command = ⊥
IsWanted (Starts s from round end ∷ es) place command = IsWanted es place command
IsWanted (Proposes s p want ∷ es) place command = ((p ≡ place) × (want ≡ command)) ⊎ IsWanted es place command
IsWanted (Handed which to end ∷ es) place command = IsWanted es place command
IsWanted (Stops s ∷ es) place command = IsWanted es place command
IsWanted (Boots s end ∷ es) place command = IsWanted es place command
