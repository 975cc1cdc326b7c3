-- Which phases a client has played.
use Rattle.std.specs.Prelude.{◌≡◌, ◌<◌, ◌≤◌, ℕ, List, None, Some, slice_get}
use Rattle.script_lines.specs.declared.request.Line.{Line}
use Rattle.script_lines.specs.declared.script.Script.{Script}
use Rattle.spec_rules.specs.Clients.{Client}
use Rattle.spec_rules.specs.Lists.{In}
use Rattle.spec_rules.specs.World.{Setting, lines_of, setting_of, start}
use Rattle.spec_history.specs.declared.record.Record.{Record}
use Rattle.law_merge.specs.Alone.{client_along, of_client}

-- the client has nothing open, and has called exactly its lines of the first so many phases
pub record HasPlayed (setting : Setting) (phases c : ℕ) (client : Client) : Type 0 where
  pub free : client.asked ≡ None
  pub called : (place : ℕ) (line : Line) → slice_get (lines_of setting.lines c) place ≡ Some line → line.phase < phases → place < client.seq
  pub only : (place : ℕ) (line : Line) → slice_get (lines_of setting.lines c) place ≡ Some line → place < client.seq → line.phase < phases

-- so it is by its own records
abbrev pub HasPlayedBy : Script → (phases c : ℕ) → List Record → Type 0
HasPlayedBy script phases c records =
    HasPlayed (setting_of script) phases c (client_along (setting_of script) c ((start (setting_of script)).clients c) records)

-- so has each
abbrev pub HavePlayed : Script → (phases : ℕ) → List Record → Type 0
HavePlayed script phases records = (c : ℕ) → HasPlayedBy script phases c (of_client c records)

-- phases rise with the numbers of lines
abbrev pub PhasesRise : List Line → Type 0
PhasesRise lines = (one other : Line) → In one lines → In other lines → one.number ≤ other.number → one.phase ≤ other.phase
