-- A step of a server, over what was good before it.
use Rattle.law_copies.proofs.Imports.{◌≡◌, ◌≢◌, Command, HasProperTuples, IsPrefix, List, None, Record, Server, Setting, World, ℕ}
use Rattle.law_copies.specs.GoodCopies.{Good}

-- the world after a step of this server, which leaves each other server as it is, and does not take the server beyond the log so far
pub record IsStep (setting : Setting) (top : List Command) (w v : World) (k : ℕ) (server : Server) : Type 0 where
  pub here : v.servers k ≡ server
  pub others : (n : ℕ) → n ≢ k → v.servers n ≡ w.servers n
  pub plain : HasProperTuples setting.servers top
  pub before : (n : ℕ) → IsPrefix (w.servers n).log.applied top
  pub onward : IsPrefix (w.servers k).log.applied server.log.applied
  pub within : IsPrefix server.log.applied top
  pub blanks : (n : ℕ) → v.before_blank n ≡ None → w.before_blank n ≡ None

-- a step of a server, by the log so far, and what was so of the world before it
pub record AtStep : Type 0 where
  pub setting : Setting
  pub records : List Record
  pub top : List Command
  pub w : World
  pub v : World
  pub k : ℕ
  pub server : Server
  pub good : Good setting records top w
  pub step : IsStep setting top w v k server

abbrev pub at_step : {setting : Setting} {records : List Record} {top : List Command} {w v : World} {k : ℕ} {server : Server}
    → Good setting records top w → IsStep setting top w v k server → AtStep
at_step {setting} {records} {top} {w} {v} {k} {server} good step =
    record { setting = setting; records = records; top = top; w = w; v = v; k = k; server = server; good = good; step = step }
