-- Ballots at a server: what it wants chosen, the ballots that it starts, and those that it takes part in ("Paxos Made
-- Simple", 2001).
use Rattle.std.specs.Prelude.{ℕ, ◌+◌, ◌-◌, ◌%◌, ◌==◌, ◌&&◌, ◌||◌, not, max, Bool, false, nat_lt, List, [], ◌∷◌, ◌++◌, map}
use Rattle.std.specs.Prelude.{filter, fold, if◌then◌else◌, Option, Some, None}
use Rattle.std.specs.List.{range_with_len}
use Rattle.petal_command.specs.Same.{has_command, same_command}
use Rattle.petal_command.specs.declared.ballot.Ballot.{Ballot}
use Rattle.petal_command.specs.declared.command.Command.{Command}
use Rattle.petal_command.specs.declared.command.Command.TheVariants.{Leave}
use Rattle.petal_command.specs.declared.pax.Pax.{Pax}
use Rattle.petal_command.specs.declared.pax.Pax.TheVariants.{Prepare, Accept, Chosen}
use Rattle.petal_msg.specs.declared.body.Body.{Body}
use Rattle.petal_msg.specs.declared.body.Body.TheVariants as body
use Rattle.petal_msg.specs.declared.letter.Actor.{Actor}
use Rattle.petal_msg.specs.declared.letter.Actor.TheVariants as actor
use Rattle.spec_paxos.specs.Acceptor.{is_open, prepare_reply, accept_reply}
use Rattle.spec_paxos.specs.Proposer.{Step, collecting, hear, has_majority, is_in}
use Rattle.spec_paxos.specs.declared.phase.Heard.{Heard}
use Rattle.spec_paxos.specs.declared.phase.Heard.TheVariants.{Nothing, Send, Refused}
use Rattle.spec_paxos.specs.declared.phase.Heard.TheVariants.{Chosen as Decided}
use Rattle.spec_paxos.specs.declared.phase.Phase.{Phase}
use Rattle.spec_paxos.specs.declared.phase.Phase.TheVariants.{Idle, Collecting, Voting}
use Rattle.spec_paxos.specs.declared.record.StateRecord.TheVariants.{Promise, Accepted}
use Rattle.spec_rules.specs.Entries.{learns}
use Rattle.spec_state.specs.State.{State, inc_of, is_up_as}
use Rattle.spec_rules.specs.Log.{Log, LogDone, Voter, state_in, rev_of, next_place, acceptor, commits, with_phase, keeps, posts_all, posts_one}
use Rattle.spec_rules.specs.Posts.{Post}
use Rattle.spec_rules.specs.declared.job.Job.{Job}
use Rattle.spec_rules.specs.declared.job.Job.TheVariants as job

-- the log has so many places
abbrev pub greatest_place : ℕ
greatest_place = 16384

-- ### What is wanted

-- the Leave of an incarnation that is In
abbrev pub is_due : State → Command → Bool
is_due state (Leave server inc) = is_up_as state server inc
is_due state _ = false

-- its own Leave, where the incarnation of it that is In is an earlier one
abbrev pub own_leave : ℕ → ℕ → Option ℕ → List Command
own_leave me inc None = []
own_leave me inc (Some earlier) = if nat_lt earlier inc then Leave me earlier ∷ [] else []

-- Leaves come by server and incarnation
abbrev pub leave_before : Command → Command → Bool
leave_before (Leave server inc) (Leave other later) = nat_lt server other || (server == other) && nat_lt inc later
leave_before _ _ = false

-- the list with this Leave in its place, once
abbrev pub with_leave : List Command → Command → List Command
with_leave [] leave = leave ∷ []
with_leave (first ∷ rest) leave =
    if same_command first leave then first ∷ rest
    else if leave_before leave first then leave ∷ first ∷ rest
    else first ∷ with_leave rest leave

-- what a server wants chosen, the most urgent first: the Leaves of incarnations that have stopped and are In, what it wants
-- by its own part, and then what clients asked it to propose
abbrev pub wanted : Voter → Log → (own_wants : List Command) → List Command
wanted voter log own_wants =
    let state = state_in voter.servers log in
    fold with_leave (filter (is_due state) log.leaves) (own_leave voter.me voter.inc (inc_of state voter.me)) ++ own_wants ++ log.wants

-- an incarnation has stopped
unfoldable pub on_down : Log → (server inc : ℕ) → LogDone
on_down log server inc = keeps (record log { leaves = with_leave log.leaves (Leave server inc) })

-- a client's command is wanted where it is neither applied nor wanted already
unfoldable pub on_propose : Log → Command → LogDone
on_propose log command =
    if has_command log.applied command || has_command log.wants command then keeps log
    else keeps (record log { wants = log.wants ++ command ∷ [] })

-- ### Letters of a ballot

abbrev pub post_of : Body → ℕ → Post
post_of said n = record { to = actor.Server n; body = said }

-- to each server, the sender too
abbrev pub to_all : Voter → Pax → List Post
to_all voter said = map (post_of (body.Pax said)) (range_with_len 0 voter.servers)

-- to each server that was not heard yet
abbrev pub to_unheard : Voter → List Bool → Pax → List Post
to_unheard voter heard said =
    map (post_of (body.Pax said)) (filter (λ n. not (is_in heard n)) (range_with_len 0 voter.servers))

-- ### Starting a ballot

abbrev pub round_of : Option Ballot → ℕ
round_of None = 0
round_of (Some ballot) = ballot.round

-- one above each round that its acceptor promised at the next place, or that it was refused with there
abbrev pub next_round : Log → ℕ
next_round log = max (round_of (acceptor log (next_place log)).promised) log.refused + 1

-- its own acceptor commits the promise before it asks for others
abbrev pub starts_ballot : Voter → Log → ℕ → Ballot → Command → LogDone
starts_ballot voter log place ballot want =
    posts_all (with_phase (commits log (Promise place ballot)) (collecting place ballot want)) (to_all voter (Prepare place ballot))

-- the command for which a ballot starts: the first that is wanted, where the proposer is idle and the log has a place left
abbrev pub first_wanted : Phase → (rev : ℕ) → List Command → Option Command
first_wanted Idle rev (want ∷ wants) = if nat_lt rev greatest_place then Some want else None
first_wanted _ rev _ = None

abbrev pub starts_for : Voter → Log → Option Command → LogDone
starts_for voter log None = keeps log
starts_for voter log (Some want) = starts_ballot voter log (next_place log) (record { round = next_round log; server = voter.me }) want

-- a proposer that is idle starts a ballot for the first of these commands, at the next place
unfoldable pub starts : Voter → Log → List Command → LogDone
starts voter log wants = starts_for voter log (first_wanted log.phase (rev_of log) wants)

-- ### Taking part

abbrev pub on_prepare : Log → (from place : ℕ) → Ballot → LogDone
on_prepare log from place ballot =
    posts_one (if is_open (acceptor log place) ballot then commits log (Promise place ballot) else log)
    (actor.Server from) (body.Pax (prepare_reply place (acceptor log place) ballot))

abbrev pub on_accept : Log → (from place : ℕ) → Ballot → Command → LogDone
on_accept log from place ballot command =
    posts_one (if is_open (acceptor log place) ballot then commits log (Accepted place ballot command) else log)
    (actor.Server from) (body.Pax (accept_reply place (acceptor log place) ballot))

-- a proposer that is refused is idle, and remembers the round
abbrev pub gives_way : Log → Ballot → Log
gives_way log promised = record log { phase = Idle; refused = max log.refused promised.round }

-- what a proposer says of a letter goes to each server
abbrev pub proposes : Voter → Log → Step → Heard → LogDone
proposes voter log step Nothing = keeps (with_phase log step.phase)
proposes voter log step (Send said) = posts_all (with_phase log step.phase) (to_all voter said)
proposes voter log step (Decided place command) = posts_all (with_phase log step.phase) (to_all voter (Chosen place command))
proposes voter log step (Refused promised) = keeps (gives_way log promised)

abbrev pub comes_out : Voter → Log → Step → LogDone
comes_out voter log step = proposes voter log step step.heard

abbrev pub hears_of_ballot : Voter → Log → ℕ → Pax → LogDone
hears_of_ballot voter log from (Prepare place ballot) = on_prepare log from place ballot
hears_of_ballot voter log from (Accept place ballot command) = on_accept log from place ballot command
hears_of_ballot voter log from (Chosen place command) = learns log place command
hears_of_ballot voter log from said = comes_out voter log (hear voter.servers log.phase from said)

-- only servers speak of ballots
unfoldable pub on_pax : Voter → Log → Actor → Pax → LogDone
on_pax voter log (actor.Server n) said = hears_of_ballot voter log n said
on_pax voter log (actor.Client c) said = keeps log

-- ### A tick

-- what of the ballot is not yet answered; once a majority has accepted, that its command is chosen
abbrev pub ballot_posts : Voter → Phase → List Post
ballot_posts voter Idle = []
ballot_posts voter (Collecting place ballot want heard best) = to_unheard voter heard (Prepare place ballot)
ballot_posts voter (Voting place ballot command heard) =
    if has_majority voter.servers heard then to_all voter (Chosen place command)
    else to_unheard voter heard (Accept place ballot command)

-- one of the other servers, in turn, is asked what follows
abbrev pub ask_posts : Voter → Log → List Post
ask_posts voter log = post_of (body.Ask (rev_of log)) ((voter.me + 1 + log.asks) % voter.servers) ∷ []

-- the next one is asked at the next tick
abbrev pub asks_next : Voter → Log → Log
asks_next voter log = record log { asks = (log.asks + 1) % (voter.servers - 1) }

abbrev pub start_jobs : Phase → List Command → List Job
start_jobs Idle (want ∷ wants) = job.Start ∷ []
start_jobs _ _ = []
