-- What servers were at the places of a link. What two servers of a link tell each other belongs to one place of it; so a server's
-- own part is kept here as it last was at each place, and is there while the other server is still at that place.
use Rattle.law_copies.specs.Imports.{Cell, Command, IsPrefix, LinkRow, PairState, Pairs, Record, Server, Setting, State, Store, World, blank_joins_in}
use Rattle.law_copies.specs.Imports.{cell_link, is_in, no_copies, no_pairs, places_from, serves, stage_at, start, start_world, state_after, state_in}
use Rattle.law_copies.specs.Imports.{with_store, world_after}
use Rattle.std.specs.Prelude.{[], if◌then◌else◌, ◌&&◌, ◌++◌, ◌<◌, ◌==◌, ◌≡◌, ◌≤◌, ◌⊎◌, Bool, List, Option, Some, false, nat_eq, nat_lt, option_map, true, ℕ}
use Rattle.std.specs.Option.{option_map_or}

-- the cell is not retired by this state
abbrev pub AliveIn : State → Cell → Type 0
AliveIn state cell = stage_at state cell < 4

abbrev pub is_alive : State → Cell → Bool
is_alive state cell = nat_lt (stage_at state cell) 4

-- of each server and each place of a cell's link, the server's own part as it last was while the server was there and was In as itself, and
-- the cell was not retired by its own entries: what is left of a retired cell is dropped, and nobody speaks of it any more
abbrev pub Visits : Type 0
Visits = (server place : ℕ) → Cell → Option PairState

-- the place of a link by these entries
abbrev pub place_by : Setting → List Command → LinkRow → ℕ
place_by setting prefix row = places_from (start setting.servers) prefix row

-- the world with these stores
abbrev pub with_stores : World → (ℕ → Store) → World
with_stores w stores = record w { servers = λ n. with_store (w.servers n) (stores n) }

-- the stores by these entries, of all that servers ever had: one for each number of their Joins with an empty store
abbrev pub store_by : Setting → (stores : ℕ → ℕ → Store) → List Command → ℕ → Store
store_by setting stores prefix n = stores n (blank_joins_in setting prefix n)

-- the cell's link, by these entries
abbrev pub IsLinked : Setting → List Command → Cell → LinkRow → Type 0
IsLinked setting prefix cell row = cell_link (state_after setting.servers prefix) cell ≡ Some row

-- what a server has in memory of a place: nothing, where it was not there; with this store
abbrev pub half : Option PairState → Store → PairState
half visit store = record {
  pairs = option_map_or (λ (own : PairState). own.pairs) visit no_pairs;
  copies = option_map_or (λ (own : PairState). own.copies) visit no_copies;
  filled = option_map_or (λ (own : PairState). own.filled) visit [];
  store = store;
}

-- the place of the cell's link by the server's own entries
abbrev pub place_on : Setting → Server → Cell → Option ℕ
place_on setting server cell = option_map (λ row. place_by setting server.log.applied row) (cell_link (state_in setting.servers server.log) cell)

-- the server is at this place, and In as itself, and the cell is not retired
abbrev pub is_at : Setting → ℕ → Server → (place : ℕ) → Cell → Bool
is_at setting n server place cell =
    is_in (state_in setting.servers server.log) n server.life.inc
    && (is_alive (state_in setting.servers server.log) cell && option_map_or (nat_eq place) (place_on setting server cell) false)

-- the visits once a server is so
abbrev pub visited : Setting → Visits → (k : ℕ) → Server → Visits
visited setting visits k server n place cell = if (n == k) && is_at setting k server place cell then Some server.own else visits n place cell

-- after some of these records the server was at this place, and In as itself, with these operations; and as often as it was so since, it had
-- the same
pub record WasThere (setting : Setting) (records : List Record) (n place : ℕ) (cell : Cell) (pairs : Pairs) : Type 0 where
  pub before : List Record
  pub later : List Record
  pub is : records ≡ before ++ later
  pub there : is_at setting n ((world_after setting (start_world setting) before).servers n) place cell ≡ true
  pub had : ((world_after setting (start_world setting) before).servers n).own.pairs ≡ pairs
  pub since : (prefix suffix : List Record) → later ≡ prefix ++ suffix
      → is_at setting n ((world_after setting (start_world setting) (before ++ prefix)).servers n) place cell ≡ true
      → ((world_after setting (start_world setting) (before ++ prefix)).servers n).own.pairs ≡ pairs

-- the server was at the place that the link has by its own entries, and as it is now
pub record IsHere (setting : Setting) (w : World) (visits : Visits) (n : ℕ) (cell : Cell) (row : LinkRow) : Type 0 where
  pub own : PairState
  pub is : visits n (place_by setting (w.servers n).log.applied row) cell ≡ Some own
  pub same : own ≡ (w.servers n).own

-- by these entries the cell's link is at this place, and the cell is not retired
pub record IsPlaced (setting : Setting) (prefix : List Command) (cell : Cell) (place : ℕ) : Type 0 where
  pub row : LinkRow
  pub linked : IsLinked setting prefix cell row
  pub alive : AliveIn (state_after setting.servers prefix) cell
  pub at : place_by setting prefix row ≡ place

-- a server has been only at places of its own entries, with the cell not retired there
pub record HasBeen (setting : Setting) (w : World) (n place : ℕ) (cell : Cell) : Type 0 where
  pub prefix : List Command
  pub within : IsPrefix prefix (w.servers n).log.applied
  pub placed : IsPlaced setting prefix cell place
  pub open placed use *

-- no server of the cell's link has been at a later place than this one at which it served the link
abbrev pub IsLast : (reached : Cell → ℕ) → Setting → List Command → Cell → LinkRow → Type 0
IsLast reached setting prefix cell row = reached cell ≤ place_by setting prefix row

-- the greatest place of a cell's link at which a server that serves the link has been: such a server was there
pub record HasReached (setting : Setting) (top : List Command) (visits : Visits) (cell : Cell) (place : ℕ) : Type 0 where
  pub prefix : List Command
  pub is_prefix : IsPrefix prefix top
  pub placed : IsPlaced setting prefix cell place
  pub open placed use *
  pub server : ℕ
  pub serving : serves server row row.state ≡ true
  pub own : PairState
  pub visited : visits server place cell ≡ Some own

-- the holder has been at a place of the cell's link after as many Joins of the other server with an empty store
pub record HasFilled (setting : Setting) (top : List Command) (visits : Visits) (prefix : List Command) (cell : Cell) (holder other : ℕ) : Type 0 where
  pub more : List Command
  pub within : IsPrefix more top
  pub row : LinkRow
  pub linked : IsLinked setting more cell row
  pub joins : blank_joins_in setting more other ≡ blank_joins_in setting prefix other
  pub own : PairState
  pub visited : visits holder (place_by setting more row) cell ≡ Some own

-- places of servers that serve the link, and of none other, are counted
pub record AreReached (setting : Setting) (top : List Command) (visits : Visits) (reached : Cell → ℕ) : Type 0 where
  pub below : (prefix : List Command) (cell : Cell) (row : LinkRow) (n : ℕ) (own : PairState) → IsPrefix prefix top → IsLinked setting prefix cell row
      → serves n row row.state ≡ true → visits n (place_by setting prefix row) cell ≡ Some own → place_by setting prefix row ≤ reached cell
  pub by : (cell : Cell) → (reached cell ≡ 0) ⊎ HasReached setting top visits cell (reached cell)
