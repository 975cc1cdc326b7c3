-- Of which scripts a world can be made.
use Rattle.std.specs.Prelude.{◌≡◌, ℕ, ◌≤◌, ◌&&◌, Bool, true, List, [], ◌∷◌, nat_lt, nat_le}
use Rattle.script_lines.specs.declared.request.Line.{Line}
use Rattle.spec_rules.specs.Lists.{In}

-- lines of one number are one line
abbrev pub AreNumbered : List Line → Type 0
AreNumbered lines = (one other : Line) → In one lines → In other lines → one.number ≡ other.number → one ≡ other

-- phases rise with the numbers of lines
abbrev pub AreOrdered : List Line → Type 0
AreOrdered lines = (one other : Line) → In one lines → In other lines → one.number ≤ other.number → one.phase ≤ other.phase

-- each line has a greater number than the one before it, the first of them than this, and no earlier phase
abbrev pub climb : ℕ → ℕ → List Line → Bool
climb number phase [] = true
climb number phase (line ∷ lines) = nat_lt number line.number && nat_le phase line.phase && climb line.number line.phase lines
