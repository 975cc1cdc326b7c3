-- What holds of queues and pending operations in every world: the ground on which each step is one of the kinds named.
use Rattle.law_steps.specs.Imports.{Cell, Firm, In, IsBelow, IsPrefix, Pending, Record, Setting, State, Table, World, at, cell_cmp, chosen_log, chosen_state}
use Rattle.law_steps.specs.Imports.{has_proposed, is_in, server_state, stepped}
use Rattle.std.specs.Prelude.{[], ◌∷◌, ◌≡◌, Bool, List, Some, true, ℕ}
use Rattle.std.specs.declared.cmp.Ordering.TheVariants.{Less}
use Rattle.std.specs.declared.cmp.Ordering.{Ordering}
use Rattle.law_steps.specs.Operations.{IsStaged}
use Rattle.law_steps.specs.RestingCopies.{AreResting}
use Rattle.law_steps.specs.DidStep.{AreQueued}

-- each row is below those after it
abbrev pub IsRising : {K X : Type 0} → (K → K → Ordering) → Table K X → Type 0
IsRising R [] = Unit {0}
IsRising {K} {X} R (row ∷ rows) = ((other : K × X) → In other rows → R row.0 other.0 ≡ Less) × IsRising R rows

-- the operations that are pending at a server rest, each on its own cell, which the server leads by this state and doesn't hold back
pub record IsReady (state : State) (me : ℕ) (held : Cell → Bool) (pending : Table Cell Pending) : Type 0 where
  pub staged : (cell : Cell) (op : Pending) → at cell_cmp pending cell ≡ Some op → IsStaged state me held cell op
  pub rising : IsRising cell_cmp pending

-- and what waits in a queue was sent: at each server's own state, also that in which it stopped. A server that runs has operations
-- only while it is In as itself. What is remembered of copies is of links as they are there
pub record Rests (setting : Setting) (w : World) : Type 0 where
  pub queues : (n : ℕ) → AreQueued w n (w.servers n).queue
  pub pending : (n : ℕ) → IsReady (server_state setting w n) n (has_proposed (server_state setting w n) (w.servers n).own) (w.servers n).own.pairs.pending
  pub seated : (n : ℕ) (cell : Cell) (op : Pending) → (w.servers n).life.running ≡ true → at cell_cmp (w.servers n).own.pairs.pending cell ≡ Some op
      → is_in (server_state setting w n) n (w.servers n).life.inc ≡ true
  pub copying : (n : ℕ) → IsRising cell_cmp (w.servers n).own.copies.pending
  pub resting : (n : ℕ) → AreResting (server_state setting w n) n (w.servers n).own

-- the same, with what is known of the log, and this state stands at least as far as what is chosen
pub record Ready (setting : Setting) (state : State) (w : World) : Type 0 where
  pub rests : Rests setting w
  pub firm : Firm setting w
  pub below : IsBelow (chosen_state setting w) state

-- ### Histories

-- each world on the way knows its log, and what is chosen stays chosen
abbrev pub AreFirm : Setting → World → List Record → Type 0
AreFirm setting w [] = Firm setting w
AreFirm setting w (own ∷ later) =
    let next = (stepped setting w own).world in
    Firm setting w × IsPrefix (chosen_log setting w) (chosen_log setting next) × AreFirm setting next later
