-- The copies of a cell that is leaving: whoever serves its link has what was frozen when its region's fence took effect.
use Rattle.law_moves.specs.Imports.{Cell, Command, IsPrefix, IsServing, Setting, World, chain_in, chosen_log, chosen_state, is_in, kept, stage_at, state_after}
use Rattle.std.specs.Prelude.{◌≡◌, ◌≤◌, List, None, Some, true, ℕ}

pub record AreStill (setting : Setting) (w : World) : Type 0 where
  -- by what is chosen: each copy that counts
  pub now : (n : ℕ) (cell : Cell) → stage_at (chosen_state setting w) cell ≡ 3 → IsServing (chosen_state setting w) n cell
      → w.frozen cell ≡ Some (chain_in (kept setting w n).chains cell)
  -- and of a server that runs, by each prefix from its own on by which it is In as itself and serves the link, also where the cell is retired since
  pub own : (n : ℕ) (prefix : List Command) (cell : Cell) → (w.servers n).life.running ≡ true → IsPrefix (w.servers n).log.applied prefix
      → IsPrefix prefix (chosen_log setting w) → is_in (state_after setting.servers prefix) n (w.servers n).life.inc ≡ true
      → stage_at (state_after setting.servers prefix) cell ≡ 3 → IsServing (state_after setting.servers prefix) n cell
      → w.frozen cell ≡ Some (chain_in (w.servers n).own.store.chains cell)
  -- nothing is frozen before
  pub early : (cell : Cell) → stage_at (chosen_state setting w) cell ≤ 2 → w.frozen cell ≡ None
