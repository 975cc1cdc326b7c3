-- The first entry, and the first mark, of a cell that is live no longer.
use Rattle.std.specs.Prelude.{ℕ, not, List, filter, find, Option, None, option_and_then, option_map, if◌then◌else◌}
use Rattle.petal_base.specs.declared.cell.Cell.{Cell}
use Rattle.petal_base.specs.declared.cell.Key.{Key}
use Rattle.petal_base.specs.Cells.{cell_of}
use Rattle.busy_marks.specs.Marks.{has_mark, next_marked, next_marked_map}
use Rattle.busy_marks.specs.declared.marks.Mark.{Mark}
use Rattle.busy_marks.specs.declared.marks.MarkKind.{MarkKind}
use Rattle.busy_marks.specs.declared.marks.MarkKind.TheVariants.{Busy, Stale}
use Rattle.spec_rules.specs.State.{State, live}
use Rattle.physical_map.specs.declared.entry.Entry.{Entry}
use Rattle.physical_map.specs.Entries.{key_of}

abbrev pub first_retired : State → List Entry → Option Key
first_retired state entries = option_map key_of (find (λ entry. not (live state (cell_of entry.key))) entries)

abbrev pub retired_marks : State → List Mark → List Mark
retired_marks state marks = filter (λ mark. not (live state mark.cell)) marks

-- the cell with a mark on the least map, and there on the least block
abbrev pub first_marked : List Mark → Option Cell
first_marked marks =
    option_and_then (λ (map : ℕ). option_map (λ (block : ℕ). record { map = map; block = block }) (next_marked map None marks))
    (next_marked_map None marks)

-- of the marks on a cell that has one the first
abbrev pub first_kind : List Mark → Cell → MarkKind
first_kind marks cell = if has_mark (record { kind = Busy; cell = cell }) marks then Busy else Stale
