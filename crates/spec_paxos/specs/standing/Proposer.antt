-- What a proposer does at a letter about the ballot that it started last, and for which places it proposes.
use Rattle.std.specs.Prelude.{ℕ, Bool, true, false, not, if◌then◌else◌, ◌==◌, ◌&&◌, ◌++◌, nat_lt, nat_le, List, [], ◌∷◌, length, set, Option, Some, None}
use Rattle.petal_command.specs.declared.ballot.Ballot.{Ballot}
use Rattle.petal_command.specs.declared.command.Command.{Command}
use Rattle.petal_command.specs.Ballot.{same}
use Rattle.spec_paxos.specs.Proposer.{nobody, has_majority, higher, to_propose, is_for, counts}
use Rattle.spec_paxos.specs.standing.Letters.{Report, Letter, Promise, Accept, Accepted, Refuse}
use Rattle.spec_paxos.specs.standing.Kept.{least}

-- a ballot, and what the promises that were heard of it tell
pub record Told : Type 0 where
  pub from : ℕ  -- the place from which on it was started
  pub ballot : Ballot
  pub until : Option ℕ  -- the last place up to which each of the promises tells all, none where each does everywhere
  pub reported : List Report  -- what they list

-- the place proposed for last, the command, and for each server whether it accepted
pub record Ask : Type 0 where
  pub place : ℕ
  pub command : Command
  pub heard : List Bool

-- what a proposer is about
pub data Phase : Type 0 where
  -- nothing was started
  Idle : Phase
  -- it asked for promises. `heard` tells for each server whether it promised
  Started : (told : Told) → (heard : List Bool) → Phase
  -- a majority promised. The ballot stands until it is refused
  Standing : (told : Told) → (stands : Bool) → (asked : Option Ask) → Phase

-- what a proposer says of a letter
pub data Heard : Type 0 where
  Nothing : Heard
  -- the ballot stands from this place on, up to that one
  Stands : (from : ℕ) → (until : Option ℕ) → Heard
  -- a majority accepted the command in one ballot
  Decided : (place : ℕ) → (command : Command) → Heard
  -- a server promised this higher ballot
  Refused : (promised : Ballot) → Heard

pub record Step : Type 0 where
  pub phase : Phase
  pub heard : Heard

pub record Proposal : Type 0 where
  pub phase : Phase
  pub letter : Option Letter

-- ### What was reported

abbrev pub best_with : ℕ → Report → Option (Ballot × Command) → Option (Ballot × Command)
best_with place r best = if r.0 == place then higher best (Some (r.1, r.2)) else best

-- what was reported of the highest ballot at the place
abbrev pub reported_at : List Report → ℕ → Option (Ballot × Command)
reported_at [] place = None
reported_at (r ∷ rest) place = best_with place r (reported_at rest place)

-- with one promise more
abbrev pub tells : Told → Option ℕ → List Report → Told
tells told until accepted = record told { until = least told.until until; reported = accepted ++ told.reported }

-- ### What it does

-- the proposer that starts
abbrev pub starting : ℕ → Ballot → Phase
starting from ballot = Started (record { from = from; ballot = ballot; until = None; reported = [] }) nobody

abbrev pub still : Phase → Step
still q = record { phase = q; heard = Nothing }

-- a promise more was counted: with a majority the ballot stands
abbrev pub collected : ℕ → Told → List Bool → Step
collected n told heard =
    if has_majority n heard
    then record { phase = Standing told true None; heard = Stands told.from told.until }
    else still (Started told heard)

-- an acceptance more was counted: the one that completes a majority makes the command chosen
abbrev pub counted : ℕ → Told → Bool → Ask → List Bool → Step
counted n told stands ask heard =
    if not (has_majority n ask.heard) && has_majority n heard
    then record { phase = Standing told stands (Some (record ask { heard = heard })); heard = Decided ask.place ask.command }
    else still (Standing told stands (Some (record ask { heard = heard })))

-- of n servers, in whose promises are so many acceptances at most
abbrev pub hear : (n most : ℕ) → Phase → ℕ → Letter → Step
hear n most (Started told heard) server (Promise from b until accepted) =
    if is_for from b told.from told.ballot && counts n heard server && nat_le (length accepted) most
    then collected n (tells told until accepted) (set heard server true)
    else still (Started told heard)
hear n most (Standing told stands (Some ask)) server (Accepted place b) =
    if is_for place b ask.place told.ballot && counts n ask.heard server
    then counted n told stands ask (set ask.heard server true)
    else still (Standing told stands (Some ask))
hear n most (Started told heard) server (Refuse place b promised) =
    if same b told.ballot
    then record { phase = Started told heard; heard = Refused promised }
    else still (Started told heard)
hear n most (Standing told stands asked) server (Refuse place b promised) =
    if same b told.ballot
    then record { phase = Standing told false asked; heard = Refused promised }
    else still (Standing told stands asked)
hear n most q server l = still q

-- ### For which places it proposes

abbrev pub is_within : Option ℕ → ℕ → Bool
is_within None place = true
is_within (Some until) place = nat_le place until

-- the place is behind the one proposed for last
abbrev pub is_behind : Option Ask → ℕ → Bool
is_behind None place = true
is_behind (Some ask) place = nat_lt ask.place place

-- the ballot stands, the place is inside its range, and this ballot proposed neither for it nor for a greater one
abbrev pub may_propose : Told → Bool → Option Ask → ℕ → Bool
may_propose told stands asked place = stands && nat_le told.from place && is_within told.until place && is_behind asked place

abbrev pub asking : ℕ → Command → Ask
asking place command = record { place = place; command = command; heard = nobody }

-- asks for acceptances of the command at the place
abbrev pub asks : Told → ℕ → Command → Proposal
asks told place command = record { phase = Standing told true (Some (asking place command)); letter = Some (Accept place told.ballot command) }

-- proposes what was reported at the place, else what is wanted
abbrev pub propose : Phase → ℕ → Command → Proposal
propose (Standing told stands asked) place want =
    if may_propose told stands asked place
    then asks told place (to_propose want (reported_at told.reported place))
    else record { phase = Standing told stands asked; letter = None }
propose q place want = record { phase = q; letter = None }
