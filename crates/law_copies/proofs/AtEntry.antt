-- A running server that applies an entry, and what is so of the world then.
use Rattle.law_copies.proofs.Imports.{[], ◌++◌, ◌∷◌, ◌≡◌, Command, Server, Setting, Store, World, blank_joins_in, chosen_log, is_in, server_state, state_in}
use Rattle.law_copies.proofs.Imports.{true, ℕ}
use Rattle.law_copies.specs.Visits.{with_stores}
use Rattle.law_copies.proofs.CopiesGround.{Ground}
use Rattle.law_copies.proofs.AtStep.{AtStep, IsStep, at_step}
use Rattle.law_copies.proofs.LeftByEntry.{IsCrossed}

-- its step, by the stores that count: it drops what the entry drops, and where it is In as itself then its store counts
pub record IsEntry (setting : Setting) (w : World) (stores : ℕ → Store) (v : World) (k : ℕ) (server : Server) (entry : Command) : Type 0 where
  pub step : IsStep setting (chosen_log setting w) (with_stores w stores) v k server
  pub runs : (w.servers k).life.running ≡ true
  pub more : server.log.applied ≡ (w.servers k).log.applied ++ entry ∷ []
  pub left : IsCrossed (server_state setting w k) entry ((with_stores w stores).servers k).own server.own
  pub inc : server.life.inc ≡ (w.servers k).life.inc
  pub counts : is_in (state_in setting.servers server.log) k server.life.inc ≡ true
      → blank_joins_in setting server.log.applied k ≡ blank_joins_in setting (chosen_log setting w) k

-- such a step
pub record AtEntry : Type 0 where
  pub ground : Ground
  pub open ground use {setting, records, w, stores, good, firm, rests}
  pub entry : Command
  pub v : World
  pub k : ℕ
  pub server : Server
  pub is : IsEntry setting w stores v k server entry
  pub open is use {step, runs, more, left, inc, counts}

abbrev pub at_entry : (ground : Ground) {v : World} {k : ℕ} {server : Server} {entry : Command}
    → IsEntry ground.setting ground.w ground.stores v k server entry → AtEntry
at_entry ground {v} {k} {server} {entry} is = record { ground = ground; v = v; k = k; server = server; entry = entry; is = is }

abbrev pub step_of : AtEntry → AtStep
step_of it = at_step it.good it.step
