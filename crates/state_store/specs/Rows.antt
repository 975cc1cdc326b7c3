-- Rows of a place and what is kept for it, by rising place. A place without a row has nothing kept.
use Rattle.std.specs.Prelude.{ℕ, List, Option, unwrap_or}
use Rattle.std.specs.Ordering.{nat_cmp}
use Rattle.std.specs.BTreeMap.{is_at}
use Rattle.std.specs.Map.{lookup}
use Rattle.spec_paxos.specs.declared.record.Row.{Row}
use Rattle.spec_paxos.specs.Kept.{empty_row}

abbrev pub found_row : List (ℕ × Row) → ℕ → Option Row
found_row rows place = lookup (is_at (nat_cmp place)) rows

abbrev pub row_at : List (ℕ × Row) → ℕ → Row
row_at rows place = unwrap_or (found_row rows place) empty_row
