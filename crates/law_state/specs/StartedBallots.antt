-- Ballots that the holder of a link has started for its Caught, as it has them in mind.
use Rattle.law_state.specs.Imports.{Caught, Command, LinkId, PairState, Progress, Server, at, link_cmp}
use Rattle.std.specs.Prelude.{◌<◌, ◌≡◌, ◌≤◌, ◌⊎◌, Bool, false, length, true, ℕ}
use Rattle.std.specs.Option.{option_map_or}

abbrev pub is_caught : Command → Bool
is_caught (Caught of link holder inc other other_inc) = true
is_caught _ = false

-- the server has started a ballot for the link's Caught, and has not forgotten it
abbrev pub is_flagged : PairState → LinkId → Bool
is_flagged own id = option_map_or (λ (p : Progress). p.caught) (at link_cmp own.copies.progress id) false

-- the server has applied so many entries and, as long as no more, has such a ballot after them in mind
pub record HasFlag (server : Server) (rev : ℕ) (id : LinkId) : Type 0 where
  pub reached : rev ≤ length server.log.applied
  pub flagged : length server.log.applied ≡ rev → is_flagged server.own id ≡ true

-- this incarnation of the holder has started a ballot for the link's Caught after so many entries: where it is still the server's,
-- the server has it in mind, also when it has stopped
abbrev pub HasStarted : (actors : ℕ → Server) → (holder inc rev : ℕ) → LinkId → Type 0
HasStarted actors holder inc rev id = (inc < (actors holder).life.inc) ⊎ ((inc ≡ (actors holder).life.inc) × HasFlag (actors holder) rev id)
