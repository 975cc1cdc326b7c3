-- What the new map has of a region that is on its way, and what still comes. All of it is told by the letters that say that an entry is there:
-- what such a letter tells of stays there; a fill is under way only of an entry of which none was sent; and a link is noted after letters of
-- all its entries.
use Rattle.law_moves.specs.Imports.{Cell, Chain, Command, HasNewer, In, IsFilledFrom, IsPrefix, IsServing, Key, Letter, LinkRow, Moved, Pending, Setting}
use Rattle.law_moves.specs.Imports.{World, at, cell_cmp, cell_link, cell_of, chain_in, chosen_log, chosen_state, comes_before, id_of, is_clients, is_in, kept}
use Rattle.law_moves.specs.Imports.{key_at, link_cmp, region_of, source, stage_at, state_after, target}
use Rattle.std.specs.Prelude.{[], ◌++◌, ◌<◌, ◌∷◌, ◌≡◌, ◌≤◌, List, None, Some, false, is_some, length, true, ℕ}
use Rattle.std.specs.Ordering.{nat_cmp}
use Rattle.petal_msg.specs.declared.body.Body.TheVariants as body

-- the chain has an entry of this epoch
abbrev pub Has : Chain → ℕ → Type 0
Has chain epoch = is_some (at nat_cmp chain epoch) ≡ true

-- an old lead was told that the new map has this entry
pub record WasFilled (w : World) (key : Key) : Type 0 where
  pub letter : Letter
  pub sent : In letter w.sent
  pub is : letter.body ≡ body.Filled key

-- the entry is at each server that serves the cell's link: by what is chosen, while the cell is live; and at one that runs, by each prefix from its
-- own on by which it is In as itself
pub record IsThere (setting : Setting) (w : World) (cell : Cell) (epoch : ℕ) : Type 0 where
  pub now : (n : ℕ) → 1 ≤ stage_at (chosen_state setting w) cell → stage_at (chosen_state setting w) cell ≤ 3
      → IsServing (chosen_state setting w) n cell → Has (chain_in (kept setting w n).chains cell) epoch
  pub own : (n : ℕ) (prefix : List Command) → (w.servers n).life.running ≡ true → IsPrefix (w.servers n).log.applied prefix
      → IsPrefix prefix (chosen_log setting w) → is_in (state_after setting.servers prefix) n (w.servers n).life.inc ≡ true
      → 1 ≤ stage_at (state_after setting.servers prefix) cell → stage_at (state_after setting.servers prefix) cell ≤ 3
      → IsServing (state_after setting.servers prefix) n cell → Has (chain_in (w.servers n).own.store.chains cell) epoch

-- the bytes of an entry are those of the frozen one
abbrev pub IsOf : Chain → (epoch : ℕ) → List ℕ → Type 0
IsOf before epoch bytes = (version : ℕ) × (at nat_cmp before epoch ≡ Some (record { version = version; bytes = bytes }))

-- an entry that moves, at this revision: it is a frozen one of the cell's source, and of all that is newer after it a letter says that it is there
pub record IsFrozen (setting : Setting) (w : World) (rev : ℕ) (key : Key) (bytes : List ℕ) : Type 0 where
  pub prefix : List Command
  pub lies : IsPrefix prefix (chosen_log setting w)
  pub long : length prefix ≡ rev
  pub old : Cell
  pub from : source (state_after setting.servers prefix) (cell_of key) ≡ Some old
  pub before : Chain
  pub frozen : w.frozen old ≡ Some before
  pub entry : IsOf before key.epoch bytes
  pub newer : (epoch : ℕ) → key.epoch < epoch → Has before epoch → WasFilled w (key_at (cell_of key) epoch)

-- by these entries a cell is leaving for another one, whose link is this row's
pub record IsOnWay (servers : ℕ) (prefix : List Command) (old new : Cell) (row : LinkRow) : Type 0 where
  pub stage : stage_at (state_after servers prefix) old ≡ 3
  pub to : target (state_after servers prefix) old ≡ Some new
  pub linked : cell_link (state_after servers prefix) old ≡ Some row

-- each frozen entry of the cell is at the new one, by a letter
abbrev pub AllFilled : World → (old new : Cell) → (Which : ℕ → Type 0) → Type 0
AllFilled w old new Which = (before : Chain) (epoch : ℕ) → w.frozen old ≡ Some before → Has before epoch → Which epoch → WasFilled w (key_at new epoch)

-- the key isn't after the last one of its link and region of which the old lead was told
pub record IsToldOf (last : Key) (old : Cell) (epoch : ℕ) : Type 0 where
  pub region : region_of old.block ≡ region_of last.block
  pub so : comes_before last (key_at old epoch) ≡ false

pub record AreFilled (setting : Setting) (w : World) : Type 0 where
  -- letters ever sent
  pub sent : (letter : Letter) (key : Key) (bytes : List ℕ) → In letter w.sent → letter.body ≡ body.Fill key bytes → IsFrozen setting w letter.rev key bytes
  pub filled : (key : Key) → WasFilled w key → IsThere setting w (cell_of key) key.epoch
  -- operations of running servers: the region is on its way still, no letter says that the entry is there, and until it is put it is not
  pub opened : (m : ℕ) (cell : Cell) (op : Pending) → (w.servers m).life.running ≡ true → at cell_cmp (w.servers m).own.pairs.pending cell ≡ Some op
      → is_clients op.kind ≡ false → stage_at (chosen_state setting w) cell ≡ 1
  pub asked : (m : ℕ) (cell : Cell) (op : Pending) → at cell_cmp (w.servers m).own.pairs.pending cell ≡ Some op → is_clients op.kind ≡ false
      → IsFrozen setting w op.rev op.key op.bytes
  pub unsaid : (m : ℕ) (cell : Cell) (op : Pending) → (w.servers m).life.running ≡ true → at cell_cmp (w.servers m).own.pairs.pending cell ≡ Some op
      → is_clients op.kind ≡ false → WasFilled w op.key → ⊥
  pub lacks : (m : ℕ) (cell : Cell) (op : Pending) → (w.servers m).life.running ≡ true → at cell_cmp (w.servers m).own.pairs.pending cell ≡ Some op
      → is_clients op.kind ≡ false → op.stage.put ≡ false → at nat_cmp (chain_in (w.servers m).own.store.chains cell) op.key.epoch ≡ None
  -- chains: what is newer is there
  pub stored : (cell : Cell) (n epoch : ℕ) (before : Chain) → stage_at (chosen_state setting w) cell ≡ 1 → IsFilledFrom setting w cell before
      → IsServing (chosen_state setting w) n cell → Has (chain_in (kept setting w n).chains cell) epoch
      → HasNewer before epoch (chain_in (kept setting w n).chains cell)
  -- what an old lead remembers, and what each Moved says
  pub told : (y : ℕ) (prefix : List Command) (old new : Cell) (row : LinkRow) (last : Key) → (w.servers y).life.running ≡ true
      → IsPrefix prefix (chosen_log setting w) → IsOnWay setting.servers prefix old new row → at link_cmp (w.servers y).own.filled (id_of row) ≡ Some last
      → AllFilled w old new (IsToldOf last old)
  pub moved : (prefix : List Command) (region : ℕ) (old new : Cell) (row : LinkRow)
      → IsPrefix (prefix ++ Moved old.map region row.link ∷ []) (chosen_log setting w)
      → IsOnWay setting.servers prefix old new row → region_of old.block ≡ region → AllFilled w old new (λ epoch. Unit {0})

-- by these entries the cell's region is on its way, and the link of the old map's cell is noted, or it has just come
pub record HasComeOver (setting : Setting) (w : World) (cell : Cell) : Type 0 where
  pub all : (n epoch : ℕ) (before : Chain) (old : Cell) (prefix : List Command) → IsPrefix prefix (chosen_log setting w)
      → source (state_after setting.servers prefix) cell ≡ Some old → w.frozen old ≡ Some before → IsServing (chosen_state setting w) n cell
      → Has before epoch → Has (chain_in (kept setting w n).chains cell) epoch

-- a region that has moved has all that was frozen, while its cells are live
abbrev pub HaveComeOver : Setting → World → Type 0
HaveComeOver setting w = (cell : Cell) → 2 ≤ stage_at (chosen_state setting w) cell → stage_at (chosen_state setting w) cell ≤ 3 → HasComeOver setting w cell
