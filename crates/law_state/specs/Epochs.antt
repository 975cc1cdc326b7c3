-- What is chosen before a cell's era rises.
use Rattle.law_state.specs.Imports.{Cell, Command, Drained, Hold, IsPrefix, held, is_in, is_writes_held, state_after}
use Rattle.std.specs.Prelude.{[], ◌++◌, ◌∷◌, ◌≡◌, Bool, List, true, ℕ}
pub use Rattle.law_state.specs.Homes.{epoch_at, era_at}

-- after this prefix of the log stands the server's report to the active fence, by which such a hold of the cell is so there; and the server
-- is In as this incarnation
pub record HasReportedBy (which : Hold → Bool) (servers : ℕ) (prefix whole : List Command) (n inc : ℕ) (cell : Cell) : Type 0 where
  pub until : List Command
  pub fence : ℕ
  pub following : IsPrefix prefix until
  pub stands : IsPrefix (until ++ Drained n inc fence ∷ []) whole
  pub seated : is_in (state_after servers until) n inc ≡ true
  pub holds : which (held (state_after servers until) cell) ≡ true

-- by which the cell's writes are held there
abbrev pub HasReported : (servers : ℕ) → (prefix whole : List Command) → (n inc : ℕ) → Cell → Type 0
HasReported servers prefix whole n inc cell = HasReportedBy is_writes_held servers prefix whole n inc cell
