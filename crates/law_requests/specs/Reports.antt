-- What a server that has reported to a fence doesn't have pending.
use Rattle.law_requests.specs.Imports.{Cell, Command, Drained, IsPrefix, Pending, Setting, World, at, cell_cmp, chosen_log, is_clients}
use Rattle.std.specs.Prelude.{[], ◌++◌, ◌∷◌, ◌≡◌, List, Some, true, ℕ}
pub use Rattle.spec_history.specs.Claims.{AreHeldAlong}

-- where a running server's report to a fence is chosen, nothing of a client is pending there on a cell whose writes were held from the state at
-- the report's place up to the server's own
abbrev pub WritesNothingHeld : Setting → World → Type 0
WritesNothingHeld setting w =
    (n fence : ℕ) (until : List Command) → (w.servers n).life.running ≡ true
    → IsPrefix (until ++ Drained n (w.servers n).life.inc fence ∷ []) (chosen_log setting w)
    → (cell : Cell) → AreHeldAlong setting.servers until (w.servers n).log.applied cell
    → (op : Pending) → at cell_cmp (w.servers n).own.pairs.pending cell ≡ Some op → is_clients op.kind ≡ true → ⊥
