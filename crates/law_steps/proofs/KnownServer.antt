-- A server of a world in which all rests, before a step of it.
use Rattle.law_steps.proofs.Imports.{Body, Firm, IsSteady, JobContext, Log, PairState, Server, Setting, World, server_state, ℕ}
use Rattle.law_steps.specs.DidStep.{Handled, own_place}
use Rattle.law_steps.specs.Ready.{Rests}

-- such a server, with the stamp of its step
pub record KnownServer : Type 0 where
  pub setting : Setting
  pub w : World
  pub rests : Rests setting w
  pub firm : Firm setting w
  pub n : ℕ
  pub steady : IsSteady (server_state setting w n)
  pub stamp : ℕ

-- where it is, what it has, and what it handles
pub record Parts : Type 1 where
  pub here : JobContext
  pub server : Server
  pub own : PairState
  pub log : Log
  pub hears_server : Body → Type 0

abbrev pub parts_of : KnownServer → Parts
parts_of it = record {
  here = own_place it.setting it.w it.n;
  server = it.w.servers it.n;
  own = (it.w.servers it.n).own;
  log = (it.w.servers it.n).log;
  hears_server = Handled it.w it.n;
}
