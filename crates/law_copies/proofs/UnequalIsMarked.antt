-- The two copies of a cell in Both are equal, or the first is one put ahead and marked. So an unequal block is marked once one server
-- is left alone.
use Rattle.law_copies.proofs.Imports.{◌+◌, ◌≡◌, ◌⊎◌, AtRest, Bool, Busy, Cell, LinkRow, None, Option, PairState, Pending, Some, Stage, ap, arith, at}
use Rattle.law_copies.proofs.Imports.{cases_lt, cell_cmp, false, inl, inr, is_copying, is_marked, one_put_ahead, refl, sym, true}
use Rattle.law_copies.specs.CopyProgress.{IsCovered, Is_equal, Is_marked_here, Is_marked_there}
use Rattle.law_copies.specs.Pair.{Pair, pair_of, far, IsRecalled, Working, AreCopies, PairOk}

-- ### Two copies that are not equal

-- where the first server is one put ahead, its operation rests in the stage that is marked busy
pub record IsOneAhead (pair : Pair) : Type 0 where
  pub op : Pending
  pub is : pair.pending ≡ Some op
  pub ahead : pair.first ≡ one_put_ahead pair.second op
  pub busy : op.stage.busy ≡ true

pub copied : (pair : Pair) → PairOk pair → ((op : Pending) → pair.pending ≡ Some op → AtRest op.stage) → (pair.first ≡ pair.second) ⊎ IsOneAhead pair
copied pair ok rests = by pair.pending refl ok.copies
  where
    working : (op : Pending) → pair.pending ≡ Some op → (put : Bool) → op.stage.put ≡ put → Working pair.first pair.second (far pair) op put
        → (pair.first ≡ pair.second) ⊎ IsOneAhead pair
    working op is false e even = inl even.even
    working op is true e ahead = elim (cases_lt (far pair) (op.op + op.op + 1)) [
      | inl before ↦
          let stage = is_copying op.stage (rests op is) e in
          let begun = ahead.begun in
          inr (record { op = op; is = is; ahead = ahead.ahead (omega arith); busy = ap (λ (s : Stage). s.busy) stage })
      | inr past ↦ inl (ahead.even past)
    ]

    by : (o : Option Pending) → pair.pending ≡ o → AreCopies pair.first pair.second (far pair) o → (pair.first ≡ pair.second) ⊎ IsOneAhead pair
    by None is same = inl same
    by (Some op) is copies = working op is op.stage.put refl copies

-- ### Where one server is left alone

-- the first server remembers each operation that is pending there
abbrev pub AreRecalled : PairState → Cell → Type 0
AreRecalled first cell = (op : Pending) → at cell_cmp first.pairs.pending cell ≡ Some op → IsRecalled op first.store cell

equal_or_busy : (first second : PairState) (cell : Cell) → PairOk (pair_of first second cell) → AreRecalled first cell
    → ((pair_of first second cell).first ≡ (pair_of first second cell).second) ⊎ (is_marked first.store Busy cell ≡ true)
equal_or_busy first second cell ok recalled = elim (copied (pair_of first second cell) ok (λ op is. (recalled op is).rests)) [
  | inl same ↦ inl same
  | inr ahead ↦ inr ((recalled ahead.op ahead.is).marks.busy ahead.busy)
]

-- the first one: an unequal block is marked there
pub covered_first : (row : LinkRow) (first second : PairState) (cell : Cell) (visit : Option PairState)
    → PairOk (pair_of first second cell) → AreRecalled first cell
    → IsCovered row cell first.store second.store visit
covered_first row first second cell visit ok recalled = elim (equal_or_busy first second cell ok recalled) [
  | inl same ↦ Is_equal same
  | inr busy ↦ Is_marked_here (inl busy)
]

-- the second one, which has not been at the place: the block is marked at the other server
pub covered_second : (row : LinkRow) (first second : PairState) (cell : Cell) → PairOk (pair_of first second cell) → AreRecalled first cell
    → IsCovered row cell second.store first.store None
covered_second row first second cell ok recalled = elim (equal_or_busy first second cell ok recalled) [
  | inl same ↦ Is_equal (sym same)
  | inr busy ↦ Is_marked_there (inl busy) tt
]
