-- Entries that move are of cells whose region was on its way when they were sent, and when an operation was opened for them.
use Rattle.law_jobs.specs.Imports.{Command, In, IsPrefix, Letter, Setting, World, cell_cmp, cell_of, chosen_log, coming, state_after}
use Rattle.law_steps.specs.Imports.{Cell, Key, Pending, at}
use Rattle.std.specs.Prelude.{◌≡◌, List, Some, length, true, ℕ}
use Rattle.petal_msg.specs.declared.body.Body.TheVariants as body
use Rattle.petal_msg.specs.declared.operation.OpKind.TheVariants as kind

-- the cell was under the new map of a move, in the region that was on its way, by the entries of this revision
pub record WasComing (setting : Setting) (w : World) (rev : ℕ) (cell : Cell) : Type 0 where
  pub prefix : List Command
  pub lies : IsPrefix prefix (chosen_log setting w)
  pub long : length prefix ≡ rev
  pub coming : coming (state_after setting.servers prefix) cell ≡ true

-- of each letter ever sent, and of what is pending at each server, also at one that has stopped
pub record AreComing (setting : Setting) (w : World) : Type 0 where
  pub sent : (letter : Letter) (key : Key) (bytes : List ℕ) → In letter w.sent → letter.body ≡ body.Fill key bytes
      → WasComing setting w letter.rev (cell_of key)
  pub opened : (n : ℕ) (cell : Cell) (op : Pending) → at cell_cmp (w.servers n).own.pairs.pending cell ≡ Some op → op.kind ≡ kind.Fill
      → WasComing setting w op.rev cell
