-- The order of marks, in numbers.
use Rattle.std.proofs.Common.{◌≡◌, ℕ, Bool, true, false, ◌&&◌, ◌||◌, ◌==◌, nat_lt, nat_le, Option}
use Rattle.std.proofs.Common.{None, Some, refl, ◌∙◌, arith}
use Rattle.std.proofs.lemmas.Bool.Decides.{nat_tests}
use Rattle.std.specs.declared.cmp.Ordering.{Ordering}
use Rattle.std.specs.declared.cmp.Ordering.TheVariants.{Less}
use Rattle.std.specs.Ordering.{nat_cmp, ordering_then, is_eq, is_le, is_lt}
use Rattle.std.specs.BTreeMap.Range.{is_from_start}
use Rattle.busy_marks.specs.declared.marks.Mark.{Mark}
use Rattle.busy_marks.specs.declared.marks.MarkKind.{MarkKind}
use Rattle.busy_marks.specs.declared.marks.MarkKind.TheVariants.{Busy, Stale}
use Rattle.petal_base.specs.declared.cell.Cell.{Cell}
use Rattle.busy_marks.specs.Marks.{mark_cmp, same_mark, same_kind, kind_rank, above}
use Rattle.busy_marks.specs.Searches.{after_block, from_map}

same_kind_itself : (kind : MarkKind) → same_kind kind kind ≡ true
same_kind_itself Busy = refl
same_kind_itself Stale = refl

pub same_itself : (mark : Mark) → same_mark mark mark ≡ true
same_itself mark = let kind = same_kind_itself mark.kind in grind (arith, nat_tests, kind)

is_kind : (a b : MarkKind) → same_kind a b ≡ true → a ≡ b
is_kind Busy Busy e = refl
is_kind Stale Stale e = refl
is_kind Busy Stale e = cc
is_kind Stale Busy e = cc

both_true : (a b : Bool) → a && b ≡ true → (a ≡ true) × (b ≡ true)
both_true true b e = (refl, e)
both_true false b e = cc

-- two marks that pass the test are one
pub is_mark : (a b : Mark) → same_mark a b ≡ true → a ≡ b
is_mark a b e =
    let tests = both_true _ (a.cell.block == b.cell.block) e in
    let first = both_true (same_kind a.kind b.kind) (a.cell.map == b.cell.map) tests.0 in
    let kind = is_kind a.kind b.kind first.0 in
    let map : a.cell.map ≡ b.cell.map = grind (arith, nat_tests, first.1) in
    let block : a.cell.block ≡ b.cell.block = grind (arith, nat_tests, tests.1) in
    λ i. record { kind = kind i; cell = record { map = map i; block = block i } }

-- marks that tie are the same
tie_is : (a b : Mark) (j k : MarkKind)
    → is_eq (ordering_then (ordering_then (nat_cmp a.cell.map b.cell.map) (nat_cmp a.cell.block b.cell.block)) (nat_cmp (kind_rank j) (kind_rank k)))
    ≡ (same_kind k j && b.cell.map == a.cell.map && b.cell.block == a.cell.block)
tie_is a b Busy Busy = grind (arith, nat_tests)
tie_is a b Busy Stale = grind (arith, nat_tests)
tie_is a b Stale Busy = grind (arith, nat_tests)
tie_is a b Stale Stale = grind (arith, nat_tests)

pub ties : (a b : Mark) → is_eq (mark_cmp a b) ≡ same_mark b a
ties a b = tie_is a b a.kind b.kind

-- the marks of a map's blocks above a number, and of later maps
reach_first : (map : ℕ) (m : Mark) (k : MarkKind)
    → is_le (ordering_then (ordering_then (nat_cmp map m.cell.map) (nat_cmp 0 m.cell.block)) (nat_cmp 0 (kind_rank k))) ≡ nat_le map m.cell.map
reach_first map m Busy = grind (arith, nat_tests)
reach_first map m Stale = grind (arith, nat_tests)

reach_later : (map block : ℕ) (m : Mark) (k : MarkKind)
    → is_lt (ordering_then (ordering_then (nat_cmp map m.cell.map) (nat_cmp block m.cell.block)) (nat_cmp 1 (kind_rank k)))
    ≡ (nat_lt map m.cell.map || (m.cell.map == map && nat_lt block m.cell.block))
reach_later map block m Busy = grind (arith, nat_tests)
reach_later map block m Stale = grind (arith, nat_tests)

pub reach : (map : ℕ) (after : Option ℕ) (m : Mark)
    → is_from_start mark_cmp (after_block map after) m ≡ (nat_lt map m.cell.map || (m.cell.map == map && above after m.cell.block))
reach map None m = reach_first map m m.kind ∙ grind (arith, nat_tests)
reach map (Some after) m = reach_later map after m m.kind

-- the marks of a map and of later ones
pub reach_map : (map : ℕ) (m : Mark) → is_from_start mark_cmp (from_map map) m ≡ nat_le map m.cell.map
reach_map map m = reach_first map m m.kind

-- a mark before another is on its map or an earlier one, and there on its block or an earlier one
before_is : (a b : Mark) (j k : MarkKind)
    → ordering_then (ordering_then (nat_cmp a.cell.map b.cell.map) (nat_cmp a.cell.block b.cell.block)) (nat_cmp (kind_rank j) (kind_rank k)) ≡ Less
    → (nat_le a.cell.map b.cell.map ≡ true) × (b.cell.map == a.cell.map ≡ true → nat_le a.cell.block b.cell.block ≡ true)
before_is a b j k less = (grind (arith, nat_tests, less), λ same. grind (arith, nat_tests, less, same))

pub before : (a b : Mark) → mark_cmp a b ≡ Less
    → (nat_le a.cell.map b.cell.map ≡ true) × (b.cell.map == a.cell.map ≡ true → nat_le a.cell.block b.cell.block ≡ true)
before a b = before_is a b a.kind b.kind

-- the order agrees with this one on marks of these kinds
abbrev AgreesAt : (Mark → Mark → Ordering) → (j k : MarkKind) → Type 0
AgreesAt cmp j k =
    (c d : Cell) → cmp (record { cell = c; kind = j }) (record { cell = d; kind = k })
    ≡ mark_cmp (record { cell = c; kind = j }) (record { cell = d; kind = k })

at_kinds : (cmp : Mark → Mark → Ordering) → AgreesAt cmp Busy Busy → AgreesAt cmp Busy Stale → AgreesAt cmp Stale Busy → AgreesAt cmp Stale Stale
    → (j k : MarkKind) → AgreesAt cmp j k
at_kinds cmp bb bs sb ss Busy Busy = bb
at_kinds cmp bb bs sb ss Busy Stale = bs
at_kinds cmp bb bs sb ss Stale Busy = sb
at_kinds cmp bb bs sb ss Stale Stale = ss

-- an order that agrees with this one at each pair of kinds is this one
pub order_is : (cmp : Mark → Mark → Ordering) → AgreesAt cmp Busy Busy → AgreesAt cmp Busy Stale → AgreesAt cmp Stale Busy → AgreesAt cmp Stale Stale
    → cmp ≡ mark_cmp
order_is cmp bb bs sb ss = λ i a b. at_kinds cmp bb bs sb ss a.kind b.kind a.cell b.cell i
