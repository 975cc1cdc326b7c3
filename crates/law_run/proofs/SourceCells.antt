-- From which cell the entries of a cell that is coming come: it is the same by each state by which it is coming.
use Rattle.law_run.proofs.Imports.{if◌then◌else◌, ◌==◌, ◌∙◌, ◌≡◌, AreDisks, Cell, Command, DiskRow, Fenced, HasProperTuples, In, IsPrefix, IsSettledState}
use Rattle.law_run.proofs.Imports.{List, Move, New, None, Old, Option, RegionState, Some, State, ap, arith, has_map, home_of, inl, inr, is_fenced, log_disks}
use Rattle.law_run.proofs.Imports.{log_plain, move_region, named_cell, named_map, number_itself, old_cell, old_map, option_and_then, option_map, refl}
use Rattle.law_run.proofs.Imports.{region_of, some_or_none, source, source_in, source_same, stage_at, state_after, sym, true, true_false, ℕ}
use Rattle.law_run.proofs.ChosenDisks.{cell_comes, cell_named}
use Rattle.law_run.proofs.ContentsByCells.{is_between}

-- a region that is on its way is one of a move
moves_between : (row : DiskRow) (b : ℕ) → is_between row b ≡ true → (m : Move) × (row.moving ≡ Some m)
moves_between row b between = elim (some_or_none row.moving) [
  | inl m ↦ m
  | inr none ↦ true_false between (ap (λ (m : Option Move). is_fenced (move_region (region_of b) m)) none)
]

own_map : (row : DiskRow) (b : ℕ) → is_between row b ≡ true → row.map ≡ (named_cell row b).map
own_map row b between = sym (by (home_of row b) between)
  where
    by : (r : RegionState) → is_fenced r ≡ true → named_map row.map row.moving r ≡ row.map
    by Old e = true_false e refl
    by Fenced e = refl
    by New e = true_false e refl

-- by the row of its disk
pub source_here : (servers : ℕ) (s : State) → IsSettledState servers s → AreDisks s → (cell : Cell) (row : DiskRow) → In row s.disks.rows
    → has_map cell.map row ≡ true → stage_at s cell ≡ 1 → source s cell ≡ Some (old_cell row cell.block)
source_here servers s p disks cell row h has one =
    let between = cell_comes servers s p disks row h cell has one in
    let m = moves_between row cell.block between in
    let named = cell_named servers s p disks row h cell has (omega (arith, one)) (omega (arith, one)) in
    let map_is : row.map ≡ cell.map = own_map row cell.block between ∙ ap (λ (c : Cell). c.map) (sym named) in
    let own : (row.map == cell.map) ≡ true = ap (λ n. row.map == n) (sym map_is) ∙ number_itself row.map in
    ap (option_and_then (source_in cell)) (disks.owned cell.map row h has)
    ∙ ap (λ b. if b then option_map (λ (move : Move). record { map = move.old_map; block = cell.block }) row.moving else None) own
    ∙ ap (option_map (λ (move : Move). record { map = move.old_map; block = cell.block })) m.1
    ∙ (λ i. Some (record { map = sym (ap (old_map row.map) m.1) i; block = cell.block }))

-- so it is by each prefix by which it had a source
pub source_stays : (servers : ℕ) (prefix whole : List Command) → HasProperTuples servers whole → IsPrefix prefix whole → (cell old : Cell)
    → source (state_after servers prefix) cell ≡ Some old → (row : DiskRow) → In row (state_after servers whole).disks.rows
    → has_map cell.map row ≡ true → stage_at (state_after servers whole) cell ≡ 1 → old ≡ old_cell row cell.block
source_stays servers prefix whole plain is_prefix cell old e row h has one =
    sym (source_same servers prefix whole plain is_prefix cell old (old_cell row cell.block) e
    (source_here servers (state_after servers whole) (log_plain servers whole plain) (log_disks servers whole plain) cell row h has one))
