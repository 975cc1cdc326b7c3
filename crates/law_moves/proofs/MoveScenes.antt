-- Of whom in a history the lemmas of moves are told.
use Rattle.law_moves.proofs.Imports.{◌≡◌, ◌≢◌, ◌≤◌, Both, Cell, Command, IsLinked, IsPrefix, Key, Letter, LinkRow, List, Named, Option, Pairs, Pending}
use Rattle.law_moves.proofs.Imports.{Setting, Some, World, at, cell_cmp, cell_of, chosen_log, chosen_state, false, id_of, is_clients, is_in, leads_link}
use Rattle.law_moves.proofs.Imports.{length, link_named, pending_on, place_by, region_to_move, server_state, stage_at, state_after, true, ℕ}
use Rattle.law_moves.specs.Fills.{IsFrozen, IsThere, WasFilled}
use Rattle.petal_msg.specs.declared.body.Body.TheVariants as body

-- ### Servers

-- a server that runs, and by its own state is In and leads the link of a cell, which is not retired by what is chosen
pub record LeadsAt (setting : Setting) (w : World) (cell : Cell) (n : ℕ) : Type 0 where
  pub runs : (w.servers n).life.running ≡ true
  pub seat : is_in (server_state setting w n) n (w.servers n).life.inc ≡ true
  pub low : stage_at (chosen_state setting w) cell ≤ 3
  pub leads : leads_link (server_state setting w n) n cell ≡ true

-- two servers that do so of one cell, which is born by either's own state, and an operation that the first one has pending on it
pub record TwoLeads (setting : Setting) (w : World) : Type 0 where
  pub m : ℕ
  pub k : ℕ
  pub apart : m ≢ k
  pub cell : Cell
  pub one : LeadsAt setting w cell m
  pub one_born : 1 ≤ stage_at (server_state setting w m) cell
  pub op : Pending
  pub is : pending_on (w.servers m).own cell ≡ Some op
  pub other : LeadsAt setting w cell k
  pub other_born : 1 ≤ stage_at (server_state setting w k) cell

-- a server that runs, is In by its own state, and has a region of a link to move
pub record IsMover (setting : Setting) (w : World) (y : ℕ) : Type 0 where
  pub runs : (w.servers y).life.running ≡ true
  pub seat : is_in (server_state setting w y) y (w.servers y).life.inc ≡ true
  pub row : LinkRow
  pub there : link_named (server_state setting w y) (id_of row) ≡ Some row
  pub region : ℕ
  pub moves : region_to_move (server_state setting w y) y row ≡ Some region

-- a server that runs, and is In by a prefix by which it is the second one of a link in Both, of a cell that is not retired
pub record IsSecondAt (setting : Setting) (w : World) : Type 0 where
  pub m : ℕ
  pub f : List Command
  pub cell : Cell
  pub row : LinkRow
  pub runs : (w.servers m).life.running ≡ true
  pub on : IsPrefix (w.servers m).log.applied f
  pub lies : IsPrefix f (chosen_log setting w)
  pub seat : is_in (state_after setting.servers f) m (w.servers m).life.inc ≡ true
  pub linked : IsLinked setting f cell row
  pub both : row.state ≡ Both
  pub second : row.secondary ≡ m
  pub low : stage_at (state_after setting.servers f) cell ≤ 3

-- ### What they are asked, and have under way

-- a letter of a prefix that asks for an entry of a cell
pub record AsksToPut (f : List Command) (cell : Cell) : Type 0 where
  pub letter : Letter
  pub number : ℕ
  pub key : Key
  pub version : ℕ
  pub origin : Option Named
  pub bytes : List ℕ
  pub is : letter.body ≡ body.Replicate number key version origin bytes
  pub of : cell_of key ≡ cell
  pub rev : letter.rev ≡ length f

-- a fill that a server had pending at the place that the link has by these entries
pub record FillAtPlace (setting : Setting) (log : List Command) : Type 0 where
  pub n : ℕ
  pub place : ℕ
  pub cell : Cell
  pub pairs : Pairs
  pub op : Pending
  pub row : LinkRow
  pub is : at cell_cmp pairs.pending cell ≡ Some op
  pub fills : is_clients op.kind ≡ false
  pub linked : IsLinked setting log cell row
  pub spot : place_by setting log row ≡ place

-- what is known already of fills in a world
pub record FillsSo (setting : Setting) (v : World) : Type 0 where
  pub there : (key : Key) → WasFilled v key → IsThere setting v (cell_of key) key.epoch
  pub asked : (m : ℕ) (cell : Cell) (op : Pending) → at cell_cmp (v.servers m).own.pairs.pending cell ≡ Some op → is_clients op.kind ≡ false
      → IsFrozen setting v op.rev op.key op.bytes
  pub numbered : (m : ℕ) (cell : Cell) (op : Pending) → at cell_cmp (v.servers m).own.pairs.pending cell ≡ Some op → 1 ≤ op.op
