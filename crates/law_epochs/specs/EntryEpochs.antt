-- Which epochs the entries of a store are of.
use Rattle.std.specs.Prelude.{◌≡◌, ◌≢◌, ◌≤◌, ℕ, List, [], Some}
use Rattle.std.specs.Ordering.{nat_cmp}
use Rattle.petal_base.specs.declared.cell.Cell.{Cell}
use Rattle.petal_command.specs.declared.command.Command.{Command}
use Rattle.petal_table.specs.Table.{at}
use Rattle.spec_state.specs.Command.{state_after}
use Rattle.spec_rules.specs.Blanked.{BeforeBlank}
use Rattle.spec_rules.specs.Store.{Store, Stored, chain_in}
use Rattle.spec_rules.specs.World.{World}
use Rattle.law_state.specs.Homes.{epoch_at, stage_at}

-- each entry is of an epoch that its cell's disk has, or has had, by these entries of the log; and each cell with an entry is live by them, or
-- has been
pub record AreEarly (servers : ℕ) (prefix : List Command) (store : Store) : Type 0 where
  pub known : (cell : Cell) (epoch : ℕ) (entry : Stored) → at nat_cmp (chain_in store.chains cell) epoch ≡ Some entry
      → epoch ≤ epoch_at (state_after servers prefix) cell
  pub lived : (cell : Cell) → chain_in store.chains cell ≢ [] → 1 ≤ stage_at (state_after servers prefix) cell

-- so are those of each server's store, and of the one from before its device was made blank, by what the server has applied
pub record HaveEarlyEntries (servers : ℕ) (w : World) : Type 0 where
  pub now : (n : ℕ) → AreEarly servers (w.servers n).log.applied (w.servers n).own.store
  pub before : (n : ℕ) (before : BeforeBlank) → w.before_blank n ≡ Some before → AreEarly servers (w.servers n).log.applied before.store
