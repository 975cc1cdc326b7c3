-- A running server that is In as itself, and what is so of the world then.
use Rattle.law_copies.proofs.Imports.{◌≡◌, Setting, Store, World, blank_joins_in, chosen_log, is_in, server_state, true, ℕ}
use Rattle.law_copies.proofs.CopiesGround.{Ground}

-- a running server that is In as itself: its store is the one that counts, and no Join of it with an empty store is chosen after its
-- own entries
pub record IsAtWork (setting : Setting) (w : World) (stores : ℕ → Store) (k : ℕ) : Type 0 where
  pub runs : (w.servers k).life.running ≡ true
  pub seat : is_in (server_state setting w k) k (w.servers k).life.inc ≡ true
  pub real : stores k ≡ (w.servers k).own.store
  pub counts : blank_joins_in setting (w.servers k).log.applied k ≡ blank_joins_in setting (chosen_log setting w) k

-- such a server
pub record AtSeat : Type 0 where
  pub ground : Ground
  pub open ground use {setting, records, w, stores, good, firm, rests}
  pub k : ℕ
  pub works : IsAtWork setting w stores k
