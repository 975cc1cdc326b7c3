-- The end of a phase.
use Rattle.law_merge.specs.Imports.{Client, Line, Record, Script, Setting, lines_of, setting_of, start}
use Rattle.std.specs.Prelude.{◌≡◌, ◌<◌, ℕ, List, None, Some, slice_get}
use Rattle.law_merge.specs.Alone.{client_along, of_client}

-- the client has nothing open, and has called each of its lines of the phases before this one
pub record HasDone (setting : Setting) (phase c : ℕ) (client : Client) : Type 0 where
  pub free : client.asked ≡ None
  pub called : (place : ℕ) (line : Line) → slice_get (lines_of setting.lines c) place ≡ Some line → line.phase < phase → place < client.seq

-- so has each, by its own records
abbrev pub HaveDone : Script → (phase : ℕ) → List Record → Type 0
HaveDone script phase records =
    (c : ℕ) → HasDone (setting_of script) phase c (client_along (setting_of script) c ((start (setting_of script)).clients c) (of_client c records))
