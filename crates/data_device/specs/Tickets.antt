-- Tickets as a list of their slots.
use Rattle.std.specs.Prelude.{ℕ, ◌==◌, List, [], ◌∷◌, if◌then◌else◌}

-- the list without the first of these numbers
abbrev pub without : List ℕ → ℕ → List ℕ
without [] slot = []
without (s ∷ ss) slot = if s == slot then ss else s ∷ without ss slot
