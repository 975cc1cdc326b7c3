-- Sets of marks as lists in order, and the next block or map in them.
use Rattle.std.specs.Prelude.{ℕ, Bool, true, false, ◌&&◌, ◌==◌, nat_lt, not, List, [], ◌∷◌, Option, None, Some, if◌then◌else◌, filter}
use Rattle.std.specs.BTreeSet.{insert_key}
use Rattle.std.specs.List.{list_any}
use Rattle.std.specs.Ordering.{nat_cmp, ordering_then}
use Rattle.std.specs.declared.cmp.Ordering.{Ordering}
use Rattle.busy_marks.specs.declared.marks.Mark.{Mark}
use Rattle.busy_marks.specs.declared.marks.MarkKind.{MarkKind}
use Rattle.busy_marks.specs.declared.marks.MarkKind.TheVariants.{Busy, Stale}

-- marks in order, and for how many more there is room
pub record Marked : Type 0 where
  pub marks : List Mark
  pub spare : ℕ

abbrev pub same_kind : MarkKind → MarkKind → Bool
same_kind Busy Busy = true
same_kind Stale Stale = true
same_kind Busy Stale = false
same_kind Stale Busy = false

-- the same kind of mark on the same cell
abbrev pub same_mark : Mark → Mark → Bool
same_mark a b = same_kind a.kind b.kind && a.cell.map == b.cell.map && a.cell.block == b.cell.block

-- the place of a kind of mark among those on one cell
abbrev pub kind_rank : MarkKind → ℕ
kind_rank Busy = 0
kind_rank Stale = 1

-- by map, then by block, then by kind
abbrev pub mark_cmp : Mark → Mark → Ordering
mark_cmp a b = ordering_then (ordering_then (nat_cmp a.cell.map b.cell.map) (nat_cmp a.cell.block b.cell.block)) (nat_cmp (kind_rank a.kind) (kind_rank b.kind))

-- whether a mark is in the list
abbrev pub has_mark : Mark → List Mark → Bool
has_mark mark marks = list_any (λ m. same_mark m mark) marks

-- the list with the mark, at its place in the order where it is new
abbrev pub with_mark : List Mark → Mark → List Mark
with_mark marks mark = insert_key mark_cmp marks mark

-- the list without the mark
abbrev pub without_mark : List Mark → Mark → List Mark
without_mark marks mark = filter (λ m. not (same_mark m mark)) marks

-- above a number, if there is one
abbrev pub above : Option ℕ → ℕ → Bool
above None n = true
above (Some after) n = nat_lt after n

-- the lesser of two numbers, where there are two
abbrev pub lesser : Option ℕ → Option ℕ → Option ℕ
lesser None b = b
lesser (Some a) None = Some a
lesser (Some a) (Some b) = if nat_lt b a then Some b else Some a

-- of the marks on a map's cells, the least block above a number
abbrev pub next_marked : ℕ → Option ℕ → List Mark → Option ℕ
next_marked map after [] = None
next_marked map after (m ∷ ms) =
    if m.cell.map == map && above after m.cell.block
    then lesser (Some m.cell.block) (next_marked map after ms)
    else next_marked map after ms

-- of all marks, the least map above a number
abbrev pub next_marked_map : Option ℕ → List Mark → Option ℕ
next_marked_map after [] = None
next_marked_map after (m ∷ ms) =
    if above after m.cell.map then lesser (Some m.cell.map) (next_marked_map after ms) else next_marked_map after ms
