-- How a world is seen as a world of agreement's schedules, by which the law of agreement applies to it.
use Rattle.std.specs.Prelude.{ℕ, ◌+◌, ◌≡◌, ◌↔◌, ◌<◌, Bool, true, false, List, slice_get, Option, Some, None}
use Rattle.petal_command.specs.declared.ballot.Ballot.{Ballot}
use Rattle.petal_command.specs.declared.command.Command.{Command}
use Rattle.petal_command.specs.declared.pax.Pax.{Pax}
use Rattle.petal_command.specs.declared.pax.Pax.TheVariants.{Prepare, Accept, Chosen}
use Rattle.petal_msg.specs.declared.body.Body.TheVariants as body
use Rattle.petal_msg.specs.declared.letter.Actor.TheVariants as actor
use Rattle.petal_msg.specs.declared.letter.Letter.{Letter}
use Rattle.spec_paxos.specs.Kept.{acceptor_of, known_at, inc_of}
use Rattle.spec_paxos.specs.Member.{In}
use Rattle.spec_paxos.specs.Proposer.{has_majority}
use Rattle.spec_paxos.specs.Schedule as schedule
use Rattle.spec_paxos.specs.declared.phase.Phase.{Phase}
use Rattle.spec_paxos.specs.declared.phase.Phase.TheVariants.{Idle, Collecting, Voting}
use Rattle.spec_paxos.specs.declared.record.StateRecord.TheVariants.{Accepted}
use Rattle.spec_rules.specs.Lists.{In as Among}
use Rattle.spec_rules.specs.World.{World, devices}

-- some server told that the command is chosen for the place
pub record IsAnnounced (p : schedule.World) (place : ℕ) (command : Command) : Type 0 where
  pub from : ℕ
  pub is : In (schedule.sent from (Chosen place command)) p.letters

-- a proposer that is idle may be about anything in the schedule, where it goes on with a ballot that this one gave up; one
-- that isn't is about the same there
abbrev pub IsAbout : Phase → Phase → Type 0
IsAbout Idle there = Unit {0}
IsAbout (Collecting place ballot want heard best) there = there ≡ Collecting place ballot want heard best
IsAbout (Voting place ballot command heard) there = there ≡ Voting place ballot command heard

-- a proposer of a running server; a stopped one has none
abbrev pub IsProposer : (running : Bool) → Phase → Option Phase → Type 0
IsProposer running here None = running ≡ false
IsProposer running here (Some there) = (running ≡ true) × IsAbout here there

-- what a proposer is about was asked for there
abbrev pub IsAskedFor : schedule.World → ℕ → (servers : ℕ) → Phase → Type 0
IsAskedFor p s servers Idle = Unit {0}
IsAskedFor p s servers (Collecting place ballot want heard best) = In (schedule.sent s (Prepare place ballot)) p.letters
IsAskedFor p s servers (Voting place ballot command heard) =
    In (schedule.sent s (Accept place ballot command)) p.letters
    × (has_majority servers heard ≡ true → In (schedule.sent s (Chosen place command)) p.letters)

-- the world of a schedule has what this one's state devices, proposers and letters have. A broadcast is one letter there.
-- What a tick sends again was sent there. What a News tells, and what is known, was told there by a letter that says it is
-- chosen: so learning from a News is handing that letter over
pub record IsSeenAs (servers : ℕ) (w : World) (p : schedule.World) : Type 0 where
  pub acceptors : (s place : ℕ) → p.acceptors s place ≡ acceptor_of (devices w s) place
  pub known : (s place : ℕ) → p.known s place ≡ known_at (devices w s) place
  pub incs : (s : ℕ) → p.incs s ≡ inc_of (devices w s)
  pub proposers : (s : ℕ) → s < servers → IsProposer (w.servers s).life.running (w.servers s).log.phase (p.proposers s)
  pub asked : (s : ℕ) → s < servers → IsAskedFor p s servers (w.servers s).log.phase
  pub votes : (s place : ℕ) (ballot : Ballot) (command : Command)
      → In (schedule.vote s place ballot command) p.votes ↔ In (Accepted place ballot command) (devices w s)
  pub letters : (letter : Letter) (from : ℕ) (said : Pax) → Among letter w.sent → letter.from ≡ actor.Server from → letter.body ≡ body.Pax said
      → In (schedule.sent from said) p.letters
  pub told : (s place : ℕ) (command : Command) → known_at (devices w s) place ≡ Some command → IsAnnounced p place command
  pub news : (letter : Letter) (after i : ℕ) (commands : List Command) (command : Command) → Among letter w.sent → letter.body ≡ body.News after commands
      → slice_get commands i ≡ Some command → IsAnnounced p (after + i + 1) command

-- the events of a schedule that leave such a world
pub record HasSchedule (servers : ℕ) (w : World) : Type 0 where
  pub events : List schedule.Event
  pub is : IsSeenAs servers w (schedule.run servers events schedule.begin)
