-- What a settle is answered by: its glances, round by round.
use Rattle.law_answers.specs.Imports.{Answer, Glance, IsMoment, Record, Server, Setting, World, client_state, is_settled, operator, server_state, world_after}
use Rattle.std.specs.Prelude.{if◌then◌else◌, ◌<◌, ◌≡◌, ◌≤◌, List, None, Option, Some, length, slice_get, true, ℕ}
use Rattle.petal_msg.specs.declared.letter.Actor.TheVariants as actor
use Rattle.script_lines.specs.declared.answer.Answer.TheVariants as answer

-- as which incarnation the server runs, if it does
abbrev pub runs_as : Server → Option ℕ
runs_as server = if server.life.running then Some server.life.inc else None

-- one of the records is a glance of the line at this server, in this round
pub record HasGlanceAt (setting : Setting) (w : World) (records : List Record) (line round server : ℕ) : Type 0 where
  pub moment : IsMoment records
  pub open moment use *
  pub within : server < setting.servers
  pub who : own.actor ≡ actor.Server server
  pub what : own.step ≡ Glance line round

-- and the server ran then as this, or not; where it ran, it was at no later revision than this one
pub record HasShown (setting : Setting) (w : World) (records : List Record) (line round server : ℕ) (shown : Option ℕ) (rev : ℕ) : Type 0 where
  pub at : HasGlanceAt setting w records line round server
  pub so : shown ≡ runs_as ((world_after setting w at.prefix).servers server)
  pub known : ((world_after setting w at.prefix).servers server).life.running ≡ true
      → (server_state setting (world_after setting w at.prefix) server).rev ≤ rev

-- one of the line's glances found a server that ran, and which remembered that a slot was wanting, for its last copy or the last entry that it was to move
pub record HasFoundFull (setting : Setting) (w : World) (records : List Record) (line : ℕ) : Type 0 where
  pub round : ℕ
  pub server : ℕ
  pub at : HasGlanceAt setting w records line round server
  pub runs : ((world_after setting w at.prefix).servers server).life.running ≡ true
  pub full : ((world_after setting w at.prefix).servers server).own.copies.full ≡ true

-- at one of the records the operator had seen each server in one round of the line's glances, none of them at a later revision than its
-- own was then; and as these showed them, all was settled by the operator's state
pub record WasSettled (setting : Setting) (w : World) (records : List Record) (line : ℕ) : Type 0 where
  pub moment : IsMoment records
  pub open moment use *
  pub who : own.actor ≡ actor.Client operator
  pub round : ℕ
  pub shown : List (Option ℕ)
  pub all : length shown ≡ setting.servers
  pub each : (server : ℕ) (seen : Option ℕ) → slice_get shown server ≡ Some seen
      → HasShown setting w prefix line round server seen (client_state setting (world_after setting w prefix) operator).rev
  pub settled : is_settled (client_state setting (world_after setting w prefix) operator) shown ≡ true

-- a settle is answered `ok` where all was settled, and `nospace` where a slot was wanting, and nothing else
abbrev pub HasSettled : Setting → World → List Record → (line : ℕ) → Answer → Type 0
HasSettled setting w records line answer.Ok = WasSettled setting w records line
HasSettled setting w records line answer.NoSpace = HasFoundFull setting w records line
HasSettled setting w records line _ = ⊥
