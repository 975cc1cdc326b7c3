-- What a new map has of a block, or what letters tell of it, is newest: of each later frozen entry a letter says that it is there.
use Rattle.law_moves.proofs.Imports.{◌<◌, ◌≡◌, ◌≤◌, AreWithin, BeforeBlank, Cell, Chain, Command, In, IsPrefix, IsWithin, Letter, List, OfKey, Setting, Some}
use Rattle.law_moves.proofs.Imports.{World, chosen_log, chosen_state, key_at, none_some, none_within, refl, source, stage_at, start, state_after, ℕ}
use Rattle.law_moves.specs.Fills.{Has, WasFilled}

-- the cell is live, or has been; and of each frozen entry that is later a letter says that it is there. This is said until the cell's region has
-- come
pub record IsNewest (setting : Setting) (w : World) (cell : Cell) (epoch : ℕ) : Type 0 where
  pub born : 1 ≤ stage_at (chosen_state setting w) cell
  pub newest : (f : List Command) (old : Cell) (before : Chain) (later : ℕ) → IsPrefix f (chosen_log setting w)
      → source (state_after setting.servers f) cell ≡ Some old → stage_at (state_after setting.servers f) cell ≤ 1 → w.frozen old ≡ Some before
      → epoch < later → Has before later → WasFilled w (key_at cell later)

pub record AllNewest (setting : Setting) (w : World) : Type 0 where
  pub now : (n : ℕ) → AreWithin (IsNewest setting w) (w.servers n).own.store.chains
  pub before : (n : ℕ) (b : BeforeBlank) → w.before_blank n ≡ Some b → AreWithin (IsNewest setting w) b.store.chains
  pub letters : (letter : Letter) → In letter w.sent → OfKey (IsWithin (IsNewest setting w)) letter.body

pub start_newest : (setting : Setting) → AllNewest setting (start setting)
unfolding In
start_newest setting = record {
  now = λ n. none_within (IsNewest setting (start setting));
  before = λ n b is. none_some refl is;
  letters = λ letter i. absurd i;
}
