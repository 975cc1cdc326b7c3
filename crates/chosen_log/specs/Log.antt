-- Learnt places: rows of a place and its command, by rising place.
use Rattle.std.specs.Prelude.{ℕ, ◌+◌, ◌≤◌, ◌≡◌, List, length, slice_get, Option, is_some, if◌then◌else◌}
use Rattle.std.specs.Ordering.{nat_cmp}
use Rattle.std.specs.BTreeMap.{insert_entry, is_at}
use Rattle.std.specs.Map.{lookup}
use Rattle.petal_command.specs.declared.command.Command.{Command}

-- the command of a learnt place
abbrev pub learnt : List (ℕ × Command) → ℕ → Option Command
learnt rows place = lookup (is_at (nat_cmp place)) rows

-- the place is learnt too, where it was not
abbrev pub with_learnt : List (ℕ × Command) → ℕ → Command → List (ℕ × Command)
with_learnt rows place command = if is_some (learnt rows place) then rows else insert_entry nat_cmp rows place command

-- these are the commands of the places 1, 2 and so on, up to the first place that is not learnt
abbrev pub IsLongestRun : List (ℕ × Command) → List Command → Type 0
IsLongestRun rows run = (k : ℕ) → k ≤ length run → slice_get run k ≡ learnt rows (k + 1)
