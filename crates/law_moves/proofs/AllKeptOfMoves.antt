-- What is kept of moves after the records of a history, all of it: each step keeps it where it held after each prefix of the records.
use Rattle.law_moves.proofs.Imports.{◌++◌, ◌+◌, ◌≡◌, ◌≤◌, At, Cell, Chain, Command, In, IsPrefix, Key, LinkId, List, OneMore, Pending, Record, Script}
use Rattle.law_moves.proofs.Imports.{Setting, Some, WasThere, World, at, cell_cmp, cell_of, chain_in, chosen_log, chosen_state, epoch_at, false, is_clients}
use Rattle.law_moves.proofs.Imports.{link_cmp, place_by, progress, setting_of, stage_at, state_after, true, ℕ}
use Rattle.law_moves.specs.Fills.{AreFilled, Has, WasFilled}
use Rattle.law_moves.specs.FrozenCopies.{AreStill}
use Rattle.law_moves.proofs.NewestByLetters.{AllNewest}
use Rattle.law_moves.proofs.MoveScenes.{AsksToPut, FillAtPlace, IsSecondAt}

-- what is frozen is of no epoch above that of the cell's disk
abbrev pub AreFrozenEarly : Setting → World → Type 0
AreFrozenEarly setting w = (cell : Cell) (before : Chain) (epoch : ℕ) → w.frozen cell ≡ Some before → Has before epoch
    → epoch ≤ epoch_at (chosen_state setting w) cell

-- the last key of a link of which a server was told is of the link's map, and of a region that was leaving by some of the server's entries
pub record HasBegun (setting : Setting) (log : List Command) (id : LinkId) (last : Key) : Type 0 where
  pub map : last.map ≡ id.map
  pub prefix : List Command
  pub lies : IsPrefix prefix log
  pub leaves : stage_at (state_after setting.servers prefix) (cell_of last) ≡ 3

abbrev pub HaveBegun : Setting → World → Type 0
HaveBegun setting w = (y : ℕ) (id : LinkId) (last : Key) → at link_cmp (w.servers y).own.filled id ≡ Some last
    → HasBegun setting (w.servers y).log.applied id last

-- of a cell that is leaving, or has left, no second server will put what its lead asked for: each such letter of a prefix of the log at which the
-- server is second is one that it followed, at this place
abbrev pub HaveFollowed : Setting → World → Type 0
HaveFollowed setting w = (s : IsSecondAt setting w) (a : AsksToPut s.f s.cell) → 3 ≤ stage_at (chosen_state setting w) s.cell → In a.letter w.sent
    → (place_by setting (w.servers s.m).log.applied s.row ≡ place_by setting s.f s.row)
    × (a.number + a.number + 1 ≤ progress (at cell_cmp (w.servers s.m).own.pairs.last s.cell))

-- a fill that a server had pending when it was last at the place that a link has by what is chosen: no letter says that its entry is there
abbrev pub AreUnsaid : Setting → List Record → World → Type 0
AreUnsaid setting records w = (a : FillAtPlace setting (chosen_log setting w)) → WasThere setting records a.n a.place a.cell a.pairs → WasFilled w a.op.key → ⊥

-- what was told to be there was told of a cell that is live, or has been
abbrev pub AreBorn : Setting → World → Type 0
AreBorn setting w = (key : Key) → WasFilled w key → 1 ≤ stage_at (chosen_state setting w) (cell_of key)

-- a fill that a server has put is there
abbrev pub HavePut : World → Type 0
HavePut w = (m : ℕ) (cell : Cell) (op : Pending) → (w.servers m).life.running ≡ true → at cell_cmp (w.servers m).own.pairs.pending cell ≡ Some op
    → is_clients op.kind ≡ false → op.stage.put ≡ true → Has (chain_in (w.servers m).own.store.chains cell) op.key.epoch

-- operations are numbered from 1
abbrev pub AreNumbered : World → Type 0
AreNumbered w = (m : ℕ) (cell : Cell) (op : Pending) → at cell_cmp (w.servers m).own.pairs.pending cell ≡ Some op → 1 ≤ op.op

pub record Knows (setting : Setting) (records : List Record) (w : World) : Type 0 where
  pub still : AreStill setting w
  pub filled : AreFilled setting w
  pub early : AreFrozenEarly setting w
  pub begun : HaveBegun setting w
  pub followed : HaveFollowed setting w
  pub visits : AreUnsaid setting records w
  pub born : AreBorn setting w
  pub puts : HavePut w
  pub newest : AllNewest setting w
  pub numbered : AreNumbered w

-- after these records, and after each prefix of them
abbrev pub Known : Script → List Record → Type 0
Known script records = Knows (setting_of script) records (At script records)

abbrev pub AllKnown : Script → List Record → Type 0
AllKnown script records = (before later : List Record) → records ≡ before ++ later → Known script before

-- before the last record of a history
abbrev pub WasKnown : OneMore → Type 0
WasKnown it = Known it.prior.script it.prior.records

abbrev pub WereKnown : OneMore → Type 0
WereKnown it = AllKnown it.prior.script it.prior.records
