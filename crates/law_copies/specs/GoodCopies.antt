-- What is kept of the two copies of each cell: at each place of its link, and at the stores as they are now.
use Rattle.law_copies.specs.Imports.{Body, Both, Cell, Command, In, IsMarked, IsPrefix, IsRising, IsToBeCopied, LastCopy, Letter, LinkRow, Only, PairState}
use Rattle.law_copies.specs.Imports.{Pending, Record, Setting, State, Store, WasStarted, World, about, at, blank_joins_in, cell_cmp, cell_link, chain_in}
use Rattle.law_copies.specs.Imports.{id_of, is_between, is_clients, is_flagged, is_in, last_copy, live, needs_full_copy, no_progress, other_of, progress_on}
use Rattle.law_copies.specs.Imports.{server_state, stage_at, state_after, subject_of}
use Rattle.std.specs.Prelude.{[], ◌+◌, ◌<◌, ◌≡◌, ◌≤◌, ◌⊎◌, Bool, List, None, Option, Some, false, is_some, length, true, ℕ}
use Rattle.std.specs.Ordering.{nat_cmp}
use Rattle.law_copies.specs.CopyProgress.{AreAlike, AreCopying, IsOfLink, IsPage, IsTold, NotCopied, links_of}
use Rattle.law_copies.specs.Pair.{HaveMarks, IsRecalled, Known, Pair, PairOk, far, pair_of}
use Rattle.law_copies.specs.LoneSteps.{AreFilled, IsBare}
use Rattle.law_copies.specs.Visits.{AliveIn, AreReached, HasBeen, HasFilled, IsHere, IsLast, IsLinked, Visits, WasThere, half, place_by, store_by}
use Rattle.petal_msg.specs.declared.body.Body.TheVariants as body

abbrev pub store_of : World → ℕ → Store
store_of w n = (w.servers n).own.store

-- what the holder had left to copy, as it was at the place, it has by this store
abbrev pub StaysLeft : LinkRow → Cell → PairState → Store → Type 0
StaysLeft row cell own store = (IsMarked own.store cell → IsMarked store cell)
    × (IsToBeCopied row own.store cell → NotCopied (Some own) row cell.block → IsToBeCopied row store cell)

-- the two copies of a cell in Both, by these stores and by what its servers had in memory of the place
abbrev pub pair_at : (ℕ → Store) → Visits → (place : ℕ) → Cell → (n m : ℕ) → Pair
pair_at stores visits place cell n m = pair_of (half (visits n place cell) (stores n)) (half (visits m place cell) (stores m)) cell

-- a cell in Both, whose servers have been at no later place at which they served it
pub record AreTwins (stores : ℕ → Store) (visits : Visits) (place : ℕ) (cell : Cell) (n m : ℕ) : Type 0 where
  pub pair : PairOk (pair_at stores visits place cell n m)
  pub recalled : (own : PairState) (op : Pending) → visits n place cell ≡ Some own → at cell_cmp own.pairs.pending cell ≡ Some op
      → IsRecalled op (stores n) cell
  -- until it has put a fill, the second server has nothing of its epoch; nor has the first one, until it has put
  pub lacks : (own : PairState) (op : Pending) → visits n place cell ≡ Some own → at cell_cmp own.pairs.pending cell ≡ Some op
      → is_clients op.kind ≡ false → far (pair_at stores visits place cell n m) ≤ op.op + op.op
      → at nat_cmp (chain_in (stores m).chains cell) op.key.epoch ≡ None

-- a cell that one server holds alone, likewise: what the other server has is what it had at the place, if it was there
pub record AreBeside (stores : ℕ → Store) (visits : Visits) (place : ℕ) (row : LinkRow) (cell : Cell) (holder other : ℕ) : Type 0 where
  pub alike : AreAlike row cell (stores holder) (stores other) (visits holder place cell)
  pub still : (own : PairState) → visits other place cell ≡ Some own → chain_in own.store.chains cell ≡ chain_in (stores other).chains cell

module _ (setting : Setting) (top : List Command) (stores : ℕ → ℕ → Store) (visits : Visits) (reached : Cell → ℕ) where
  -- the stores by these entries
  abbrev by : List Command → ℕ → Store
  by = store_by setting stores

  -- the cell is not retired by what is chosen last: what is retired is swept, so nothing is said of its stores. What its servers had in memory at the
  -- places of its link stays so
  abbrev IsAlive : Cell → Type 0
  IsAlive cell = AliveIn (state_after setting.servers top) cell

  -- at a prefix of the log at which the cell's link is in Both
  pub record BothOk (prefix : List Command) (cell : Cell) (row : LinkRow) : Type 0 where
    pub twins : IsAlive cell → IsLast reached setting prefix cell row → AreTwins (by prefix) visits (place_by setting prefix row) cell row.primary row.secondary

  -- at one at which one server holds it alone
  pub record AloneOk (prefix : List Command) (cell : Cell) (row : LinkRow) (holder : ℕ) : Type 0 where
    pub copying : AreCopying (links_of (state_after setting.servers prefix) cell.map) row cell
        (visits holder (place_by setting prefix row) cell) (visits (other_of holder row) (place_by setting prefix row) cell)
    pub beside : IsAlive cell → IsLast reached setting prefix cell row
        → AreBeside (by prefix) visits (place_by setting prefix row) row cell holder (other_of holder row)
    -- what was left to copy at the holder is so still, while the other server has been at no later place
    pub stays : IsAlive cell → (own : PairState) → visits holder (place_by setting prefix row) cell ≡ Some own
        → ((place : ℕ) → place_by setting prefix row < place → visits (other_of holder row) place cell ≡ None)
        → StaysLeft row cell own (by prefix holder)
    -- where all is to be copied to the other server, it has nothing until the holder has been at such a place
    pub unfilled : IsAlive cell → needs_full_copy row.state ≡ true → (chain_in (by prefix (other_of holder row)).chains cell ≡ [])
        ⊎ HasFilled setting top visits prefix cell holder (other_of holder row)

  -- what is known of a letter by the link at the front of its sender
  pub record SaidOk (prefix : List Command) (said : Body) (cell : Cell) (row : LinkRow) : Type 0 where
    pub both : IsAlive cell → row.state ≡ Both → IsLast reached setting prefix cell row → (about said).cell ≡ Some cell
        → Known (pair_at (by prefix) visits (place_by setting prefix row) cell row.primary row.secondary) said
    pub alone : (holder : ℕ) (whole : Bool) → row.state ≡ Only holder whole → (about said).cell ≡ Some cell
        → IsTold row (visits holder (place_by setting prefix row) cell) (visits (other_of holder row) (place_by setting prefix row) cell) said
    pub page : IsAlive cell → (holder : ℕ) (whole : Bool) (after block : Option ℕ) → row.state ≡ Only holder whole
        → said ≡ body.Hello row.map row.link after block
        → IsLast reached setting prefix cell row
        → IsPage cell (by prefix (other_of holder row)) (visits (other_of holder row) (place_by setting prefix row) cell) after block
    -- and that the other server was there, at each place
    pub met : (holder : ℕ) (whole : Bool) (after block : Option ℕ) → row.state ≡ Only holder whole → said ≡ body.Hello row.map row.link after block
        → is_some (visits (other_of holder row) (place_by setting prefix row) cell) ≡ true

-- of a cell that is not live yet by this state a server has nothing, and has heard of no operation; and where its map is not made yet it
-- counts no pages of a link of the map
pub record IsUnheard (state : State) (own : PairState) (cell : Cell) : Type 0 where
  pub bare : IsBare own cell
  pub last : at cell_cmp own.pairs.last cell ≡ None
  pub pages : cell_link state cell ≡ None → (row : LinkRow) → row.map ≡ cell.map → progress_on own row ≡ no_progress

-- what is kept after these records, of each prefix of the log up to this one
pub record Good (setting : Setting) (records : List Record) (top : List Command) (w : World) : Type 0 where
  pub visits : Visits
  pub reached : Cell → ℕ
  pub reaching : AreReached setting top visits reached
  -- each server's stores, by the number of its Joins with an empty store: the last one is what it has now
  pub stores : (n joins : ℕ) → Store
  pub now : (n : ℕ) → stores n (blank_joins_in setting top n) ≡ store_of w n
  pub here : (n : ℕ) (cell : Cell) (row : LinkRow) → IsLinked setting (w.servers n).log.applied cell row
      → is_in (server_state setting w n) n (w.servers n).life.inc ≡ true → AliveIn (server_state setting w n) cell → IsHere setting w visits n cell row
  pub been : (n place : ℕ) (cell : Cell) (own : PairState) → visits n place cell ≡ Some own → HasBeen setting w n place cell
  pub came : (n place : ℕ) (cell : Cell) (own : PairState) → visits n place cell ≡ Some own → WasThere setting records n place cell own.pairs
  pub born : (cell : Cell) → stage_at (state_after setting.servers top) cell ≡ 0 → (n : ℕ) → chain_in (store_of w n).chains cell ≡ []
  pub unheard : (n : ℕ) (cell : Cell) → stage_at (server_state setting w n) cell ≡ 0
      → IsUnheard (server_state setting w n) (w.servers n).own cell
  pub rising : (n : ℕ) (cell : Cell) → IsRising nat_cmp (chain_in (store_of w n).chains cell)
  pub ever : (n joins : ℕ) (cell : Cell) → IsRising nat_cmp (chain_in (stores n joins).chains cell)
  pub counts : (n : ℕ) → 1 ≤ (w.servers n).own.pairs.next
  pub filled : (n : ℕ) → AreFilled (store_of w n).chains
  -- of a server that was blanked, while it runs
  pub marks : (n : ℕ) → ((w.servers n).life.running ≡ true) ⊎ (w.before_blank n ≡ None)
      → HaveMarks (server_state setting w n) (w.servers n).own.pairs.pending (store_of w n)
  pub both : (prefix : List Command) (cell : Cell) (row : LinkRow) → IsPrefix prefix top → IsLinked setting prefix cell row → row.state ≡ Both
      → BothOk setting top stores visits reached prefix cell row
  pub alone : (prefix : List Command) (cell : Cell) (row : LinkRow) (holder : ℕ) (whole : Bool) → IsPrefix prefix top
      → IsLinked setting prefix cell row → row.state ≡ Only holder whole → AloneOk setting top stores visits reached prefix cell row holder
  pub revs : (letter : Letter) → In letter w.sent → is_between (subject_of letter.body) ≡ true → letter.rev ≤ length top
  pub letters : (letter : Letter) → In letter w.sent → (prefix : List Command) (cell : Cell) (row : LinkRow) → IsPrefix prefix top
      → length prefix ≡ letter.rev → IsLinked setting prefix cell row → AliveIn (state_after setting.servers prefix) cell
      → SaidOk setting top stores visits reached prefix letter.body cell row
  -- two servers speak of live cells alone, by the state of which they speak
  pub lives : (letter : Letter) → In letter w.sent → is_between (subject_of letter.body) ≡ true → (prefix : List Command) → IsPrefix prefix top
      → length prefix ≡ letter.rev → (cell : Cell) → (about letter.body).cell ≡ Some cell → live (state_after setting.servers prefix) cell ≡ true
  -- a server remembers copies of live cells alone
  pub copied : (n : ℕ) (cell : Cell) (last : LastCopy) → last_copy (w.servers n).own cell ≡ Some last → live (server_state setting w n) cell ≡ true
  -- a page tells of a block of its own link
  pub pages : (letter : Letter) → In letter w.sent → (prefix : List Command) → IsPrefix prefix top → length prefix ≡ letter.rev → (map link block : ℕ)
      (after : Option ℕ) → letter.body ≡ body.Hello map link after (Some block)
      → IsOfLink (state_after setting.servers prefix) (record { map = map; block = block }) link
  pub started : (holder inc : ℕ) (whole : Bool) (prefix : List Command) (cell : Cell) (row : LinkRow) → IsPrefix prefix top
      → IsLinked setting prefix cell row → AliveIn (state_after setting.servers prefix) cell → row.state ≡ Only holder whole
      → is_in (state_after setting.servers prefix) holder inc ≡ true
      → WasStarted setting records holder inc prefix (id_of row)
      → (own : PairState) × (visits holder (place_by setting prefix row) cell ≡ Some own) × (is_flagged own (id_of row) ≡ true)
