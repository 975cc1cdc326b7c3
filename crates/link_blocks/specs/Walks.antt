-- The blocks of a link here.
use Rattle.std.specs.Prelude.{ℕ, ◌-◌, ◌^◌, ◌++◌, ◌&&◌, not, Bool, List, [], map, filter, if◌then◌else◌, Option, None, Some}
use Rattle.busy_marks.specs.declared.marks.Mark.{Mark}
use Rattle.busy_marks.specs.declared.marks.MarkKind.{MarkKind}
use Rattle.busy_marks.specs.Marks.{above}
use Rattle.global_tables.specs.declared.link.LinkRow.{LinkRow}
use Rattle.petal_base.specs.declared.cell.Cell.{Cell}
use Rattle.petal_table.specs.Table.{Table}
use Rattle.spec_rules.specs.Copies.{cell_at, is_kept_on}
use Rattle.spec_rules.specs.Server.{PairState}
use Rattle.spec_rules.specs.State.{State, needs_full_copy}
use Rattle.spec_rules.specs.Store.{Chain, Store, is_marked}
use Rattle.spec_rules.specs.Writes.{is_under_way}
use Rattle.pair_memory.specs.PairMemory.{PairMemory, pairs_of}

-- the link's blocks among marks
abbrev pub marked_on : State → LinkRow → List Mark → List ℕ
marked_on state row marks = map (λ mark. mark.cell.block) (filter (λ mark. is_kept_on state row mark.cell) marks)

-- the link's blocks among chains
abbrev pub stored_on : State → LinkRow → Table Cell Chain → List ℕ
stored_on state row chains = map (λ chain. chain.0.block) (filter (λ chain. is_kept_on state row chain.0) chains)

-- those that are left to copy, where the other server came back with nothing also the stored ones above the last copied one
abbrev pub left_on : State → LinkRow → List Mark → Table Cell Chain → Option ℕ → List ℕ
left_on state row marks chains copied =
    marked_on state row marks ++ (if needs_full_copy row.state then filter (above copied) (stored_on state row chains) else [])

-- the block lies on the link, and its cell is live
abbrev pub on_link : State → LinkRow → ℕ → Bool
on_link state row block = is_kept_on state row (cell_at row block)

-- a side's part with a store
abbrev pub side_own : PairMemory → Store → PairState
side_own side store = record { pairs = pairs_of side; copies = side.copies; filled = side.filled; store = store }

-- and it has a mark of this kind without anything under way
abbrev pub idle_on : State → LinkRow → PairState → MarkKind → ℕ → Bool
idle_on state row own kind block =
    is_kept_on state row (cell_at row block) && (is_marked own.store kind (cell_at row block) && not (is_under_way own (cell_at row block)))

-- how many numbers of blocks are above this one
abbrev pub room_above : Option ℕ → ℕ
room_above None = 2 ^ 64
room_above (Some block) = 2 ^ 64 - 1 - block
