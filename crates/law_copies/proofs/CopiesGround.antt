-- A world before a step, by the stores that count, and what is so of it.
use Rattle.law_copies.proofs.Imports.{Firm, List, Record, Rests, Setting, Store, World, chosen_log, ℕ}
use Rattle.law_copies.specs.GoodCopies.{Good}
use Rattle.law_copies.specs.Visits.{with_stores}

-- a history's records, the world after them, and what the laws below and the invariant of copies say of it
pub record Ground : Type 0 where
  pub setting : Setting
  pub records : List Record
  pub w : World
  pub stores : ℕ → Store
  pub good : Good setting records (chosen_log setting w) (with_stores w stores)
  pub firm : Firm setting w
  pub rests : Rests setting w
