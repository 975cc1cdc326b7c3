-- A slot that was set apart for a cell.
use Rattle.std.proofs.Common.{◌≡◌, ℕ, Some, IsSome, sym, subst, ap, ◌∙◌, arith}
use Rattle.std.specs.Prelude.{Contains}
use Rattle.petal_base.specs.declared.cell.Cell.{Cell}
use Rattle.petal_table.specs.Table.{Table, at}
use Rattle.spec_rules.specs.Store.{cell_cmp}
use Rattle.spec_rules.proofs.CellTables.{cell_same}
use Rattle.kept_chains.specs.Holdings.{Holdings}
use Rattle.pair_memory.specs.Slots.{IsKept}

module _ {D : Type 0} (old_table new_table : Table Cell ℕ) (old new : Holdings D) (cell : Cell) (kept : IsKept old_table new_table old new cell) where
  pub kept_there : at cell_cmp new_table cell ≡ Some kept.slot
  kept_there = ap (λ (t : Table Cell ℕ). at cell_cmp t cell) kept.table ∙ cell_same old_table cell kept.slot

  pub kept_some : IsSome (at cell_cmp new_table cell)
  kept_some = grind (arith, kept_there)

  pub kept_out : (slot : ℕ) → at cell_cmp new_table cell ≡ Some slot → Contains new.tickets slot
  kept_out slot is =
      let same : kept.slot ≡ slot = (let e : Some kept.slot ≡ Some slot = sym kept_there ∙ is in cc) in
      subst (Contains new.tickets) same kept.out
