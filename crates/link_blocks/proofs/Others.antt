-- The other server of a link is one that a command can name.
use Rattle.std.proofs.Common.{◌≡◌, ◌<◌, ℕ, Bool, true, false, if◌then◌else◌, Some, None, ◌==◌, subst}
use Rattle.global_tables.specs.Link.{other_of}
use Rattle.global_tables.specs.declared.link.LinkRow.{LinkRow}
use Rattle.link_table.specs.Numbers.{IsNumbered}
use Rattle.spec_rules.specs.State.{State, other_in}

other_below : (me : ℕ) (row : LinkRow) → IsNumbered row → other_of me row < 8
other_below me row is = by (row.primary == me)
  where
    by : (b : Bool) → (if b then row.secondary else row.primary) < 8
    by true = is.2
    by false = is.1

pub other_numbered : (state : State) (me : ℕ) (row : LinkRow) (other : ℕ) → IsNumbered row → other_in state me row ≡ Some other → other < 8
other_numbered state me row other is found = by _ found
  where
    by : (b : Bool) → (if b then Some (other_of me row) else None) ≡ Some other → other < 8
    by true found = let same : other_of me row ≡ other = cc in subst (λ n. n < 8) same (other_below me row is)
    by false found = absurd (cc)
