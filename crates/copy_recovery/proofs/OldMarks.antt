-- Which old marks go.
use Rattle.std.proofs.Common.{◌≡◌, ◌<◌, ◌≤◌, ◌==◌, ℕ, zero, suc, true, false, List, [], ◌∷◌, length, take, refl, arith}
use Rattle.std.proofs.lemmas.Bool.Decides.{nat_tests}
use Rattle.busy_marks.specs.declared.marks.MarkKind.{MarkKind}
use Rattle.busy_marks.specs.declared.marks.MarkKind.TheVariants as mark
use Rattle.global_tables.specs.declared.link.LinkRow.{LinkRow}
use Rattle.petal_base.specs.declared.cell.Cell.{Cell}
use Rattle.spec_rules.specs.Copies.{clears_old_marks, takes_marks}
use Rattle.spec_rules.specs.Server.{PairState, silent}
use Rattle.spec_rules.specs.State.{State}
use Rattle.copy_recovery.specs.Tidying.{takes_all}

-- where there is no cell nothing is done
pub none_taken : (own : PairState) (row : LinkRow) (kind : MarkKind) (cells : List Cell) → (length cells == 0) ≡ true
    → silent own ≡ takes_marks own row kind cells
none_taken own row kind [] none = refl
none_taken own row kind (cell ∷ cells) none = absurd (grind (arith, nat_tests, none))

-- where there is one they all go
pub all_taken : (own : PairState) (row : LinkRow) (kind : MarkKind) (cells : List Cell) → (length cells == 0) ≡ false
    → takes_all own row kind cells ≡ takes_marks own row kind cells
all_taken own row kind [] some = absurd (grind (arith, nat_tests, some))
all_taken own row kind (cell ∷ cells) some = refl

-- where some have a busy mark, these go
pub busy_first : (state : State) (own : PairState) (row : LinkRow) (into : List Cell) (count : ℕ) → 0 < count → count ≤ length into
    → takes_marks own row mark.Busy (take count into) ≡ clears_old_marks state own row (take count into)
busy_first state own row [] count some few = absurd (omega (arith, some, few))
busy_first state own row (cell ∷ cells) zero some few = absurd (omega (arith, some))
busy_first state own row (cell ∷ cells) (suc count) some few = refl
