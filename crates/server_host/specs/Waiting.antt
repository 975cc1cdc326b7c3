-- The lines that are not answered, each with its phase.
use Rattle.std.specs.Prelude.{◌≡◌, ℕ, ◌≤◌, List, ◌⊎◌, Some}
use Rattle.std.specs.Ordering.{nat_cmp}
use Rattle.petal_table.specs.Table.{Table, at}
use Rattle.script_lines.specs.declared.answer.Answer.{Answer}
use Rattle.script_lines.specs.declared.request.Line.{Line}
use Rattle.spec_rules.specs.Lists.{In}
use Rattle.spec_rules.specs.World.{IsAnswered}

-- a line of this number and phase
pub record IsLine (lines : List Line) (number phase : ℕ) : Type 0 where
  pub line : Line
  pub there : In line lines
  pub number_is : line.number ≡ number
  pub phase_is : line.phase ≡ phase

-- exactly the lines without an answer wait
pub record Await (lines : List Line) (given : List (ℕ × Answer)) (rows : Table ℕ ℕ) : Type 0 where
  pub each : (line : Line) → In line lines → IsAnswered given line.number ⊎ (at nat_cmp rows line.number ≡ Some line.phase)
  pub only : (number phase : ℕ) → at nat_cmp rows number ≡ Some phase → (IsAnswered given number → ⊥) × IsLine lines number phase

-- later lines are of the same phase or of later ones
abbrev pub AreRising : Table ℕ ℕ → Type 0
AreRising rows = (n m p q : ℕ) → at nat_cmp rows n ≡ Some p → at nat_cmp rows m ≡ Some q → n ≤ m → p ≤ q

-- no line of an earlier phase waits
abbrev pub AreAfter : Table ℕ ℕ → ℕ → Type 0
AreAfter rows phase = (n p : ℕ) → at nat_cmp rows n ≡ Some p → phase ≤ p
