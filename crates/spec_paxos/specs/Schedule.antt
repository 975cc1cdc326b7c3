-- All servers, what their state devices keep, every letter ever sent, and what may happen next.
use Rattle.std.specs.Prelude.{ℕ, ◌+◌, ◌≡◌, ◌⊎◌, Bool, true, if◌then◌else◌, List, [], ◌∷◌, nat_lt, ◌&&◌, slice_get, Option, Some, None}
use Rattle.petal_command.specs.declared.ballot.Ballot.{Ballot}
use Rattle.petal_command.specs.declared.command.Command.{Command}
use Rattle.petal_command.specs.declared.pax.Pax.{Pax}
use Rattle.petal_command.specs.declared.pax.Pax.TheVariants.{Prepare, Accept, Chosen}
use Rattle.spec_paxos.specs.declared.phase.Phase.{Phase}
use Rattle.spec_paxos.specs.declared.phase.Phase.TheVariants.{Idle}
use Rattle.spec_paxos.specs.declared.phase.Heard.{Heard}
use Rattle.spec_paxos.specs.declared.phase.Heard.TheVariants.{Nothing, Send, Refused}
use Rattle.spec_paxos.specs.declared.phase.Heard.TheVariants.{Chosen as Decided}
use Rattle.spec_paxos.specs.Member.{In, put, put_at}
use Rattle.spec_paxos.specs.Quorum.{IsMajority}
use Rattle.spec_paxos.specs.Acceptor.{Acceptor, nothing_kept, is_open, is_unpromised, promise, accept, on_prepare, prepare_reply, accept_reply}
use Rattle.spec_paxos.specs.Proposer.{Step, collecting, hear}

-- an acceptance that reached a state device: of which server, at which place, in which ballot, of which command
pub data Vote : Type 0 where
  vote : (server place : ℕ) → (ballot : Ballot) → (command : Command) → Vote

-- a letter that was sent, and by whom
pub data Sent : Type 0 where
  sent : (from : ℕ) → (body : Pax) → Sent

pub record World : Type 0 where
  pub acceptors : ℕ → ℕ → Acceptor  -- what each server's state device keeps for each place
  pub known : ℕ → ℕ → Option Command  -- the chosen commands on it, by place
  pub incs : ℕ → ℕ  -- the incarnation on it
  pub proposers : ℕ → Option Phase  -- what each server's proposer is about; none while the server is stopped
  pub letters : List Sent  -- every letter ever sent
  pub votes : List Vote  -- every acceptance that ever reached a state device

-- how a server comes out of what it does: it does all of it, or stops before or after its commit and sends nothing
pub data End : Type 0 where
  Goes : End
  StopsBefore : End
  StopsAfter : End

-- a proposer starts; a letter ever sent, by its number, is handed to a server; a server stops; a stopped server boots
pub data Event : Type 0 where
  Starts : (server place round : ℕ) → (want : Command) → (end : End) → Event
  Handed : (which to : ℕ) → (end : End) → Event
  Stops : (server : ℕ) → Event
  Boots : (server : ℕ) → (end : End) → Event

abbrev pub keep : World → ℕ → ℕ → Acceptor → World
keep w s p a = record w { acceptors = put_at w.acceptors s p a }

abbrev pub cast : World → Vote → World
cast w x = record w { votes = x ∷ w.votes }

abbrev pub learn : World → ℕ → ℕ → Command → World
learn w s p v = record w { known = put_at w.known s p (Some v) }

abbrev pub raise : World → ℕ → World
raise w s = record w { incs = put w.incs s (w.incs s + 1) }

abbrev pub send : World → ℕ → Pax → World
send w s l = record w { letters = sent s l ∷ w.letters }

abbrev pub turn : World → ℕ → Option Phase → World
turn w s q = record w { proposers = put w.proposers s q }

abbrev pub ended : World → World → World → ℕ → End → World
ended before committed done s Goes = done
ended before committed done s StopsBefore = turn before s None
ended before committed done s StopsAfter = turn committed s None

-- each ballot is started once: the starter's own acceptor commits its promise first
abbrev pub starting : World → ℕ → ℕ → Ballot → World
starting w s p b = keep w s p (promise (w.acceptors s p) b)

abbrev pub started : World → ℕ → ℕ → Ballot → Command → End → World
started w s p b want end =
    let kept = starting w s p b in
    ended w kept (send (turn kept s (Some (collecting p b want))) s (Prepare p b)) s end

abbrev pub starts : ℕ → World → ℕ → Option Phase → ℕ → Ballot → Command → End → World
starts n w s None p b want end = w
starts n w s (Some q) p b want end = if nat_lt s n && is_unpromised (w.acceptors s p) b then started w s p b want end else w

-- an acceptance that is durable is a vote
abbrev pub voted : World → ℕ → ℕ → Ballot → Command → World
voted w s p b v = if is_open (w.acceptors s p) b then cast (keep w s p (accept b v)) (vote s p b v) else w

abbrev pub acts : World → ℕ → Heard → World
acts w s Nothing = w
acts w s (Send l) = send w s l
acts w s (Decided p v) = send w s (Chosen p v)
acts w s (Refused b) = w

abbrev pub comes_out : World → ℕ → Step → World
comes_out w s step = turn (acts w s step.heard) s (Some step.phase)

-- a running server whose proposer is about q handles a letter
abbrev pub handed : ℕ → World → ℕ → Phase → ℕ → Pax → End → World
handed n w s q from (Prepare p b) end =
    let kept = keep w s p (on_prepare (w.acceptors s p) b) in
    ended w kept (send kept s (prepare_reply p (w.acceptors s p) b)) s end
handed n w s q from (Accept p b v) end =
    let kept = voted w s p b v in
    ended w kept (send kept s (accept_reply p (w.acceptors s p) b)) s end
handed n w s q from (Chosen p v) end = ended w (learn w s p v) (learn w s p v) s end
handed n w s q from l end = ended w w (comes_out w s (hear n q from l)) s end

-- a stopped server drops what comes
abbrev pub arrives : ℕ → World → ℕ → Option Phase → Option Sent → End → World
arrives n w s None l end = w
arrives n w s (Some q) None end = w
arrives n w s (Some q) (Some (sent from body)) end = handed n w s q from body end

-- a stopped server raises its incarnation and starts with what is on its device
abbrev pub boots : World → ℕ → Option Phase → End → World
boots w s None end = ended w (raise w s) (turn (raise w s) s (Some Idle)) s end
boots w s (Some q) end = w

abbrev pub happens : ℕ → World → Event → World
happens n w (Starts s p round want end) = starts n w s (w.proposers s) p (record { round = round; server = s }) want end
happens n w (Handed which to end) = arrives n w to (w.proposers to) (slice_get w.letters which) end
happens n w (Stops s) = turn w s None
happens n w (Boots s end) = boots w s (w.proposers s) end

abbrev pub run : ℕ → List Event → World → World
run n [] w = w
run n (e ∷ es) w = run n es (happens n w e)

-- all run with nothing kept and nothing sent
abbrev pub begin : World
begin = record { acceptors = λ s p. nothing_kept; known = λ s p. None; incs = λ s. 1; proposers = λ s. Some Idle; letters = []; votes = [] }

-- the command has, in one ballot, the votes of a majority of the n servers
abbrev pub IsChosen : ℕ → World → ℕ → Command → Type 0
IsChosen n w place command =
    (ballot : Ballot) × (who : ℕ → Bool) × IsMajority n who × ((s : ℕ) → who s ≡ true → In (vote s place ballot command) w.votes)

-- one of the events starts a ballot for this command at this place
abbrev pub IsWanted : List Event → ℕ → Command → Type 0
IsWanted [] place command = ⊥
IsWanted (Starts s p round want end ∷ es) place command = ((p ≡ place) × (want ≡ command)) ⊎ IsWanted es place command
IsWanted (Handed which to end ∷ es) place command = IsWanted es place command
IsWanted (Stops s ∷ es) place command = IsWanted es place command
IsWanted (Boots s end ∷ es) place command = IsWanted es place command
