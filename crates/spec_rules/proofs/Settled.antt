-- A server's own Join, by which its store waits for nobody any more, leaves the rest of its own part as it is.
use Rattle.std.proofs.Common.{◌≡◌, refl}
use Rattle.petal_command.specs.declared.command.Command.{Command}
use Rattle.spec_rules.specs.Crossing.{is_blank_join, settled_by}
use Rattle.spec_rules.specs.Server.{JobContext, PairState}
use Rattle.spec_rules.specs.Store.{Store, settled}
use Rattle.spec_rules.proofs.Tests.{by_test}

-- the store is another one only in whether it waits
pub record IsSettling (old new : PairState) : Type 0 where
  pub pairs : new.pairs ≡ old.pairs
  pub copies : new.copies ≡ old.copies
  pub slots : new.store.slots ≡ old.store.slots
  pub chains : new.store.chains ≡ old.store.chains
  pub tickets : new.store.tickets ≡ old.store.tickets
  pub marks : new.store.marks ≡ old.store.marks

-- what holds whatever the store is, holds after it
pub by_settled : (P : PairState → Type 0) (here : JobContext) (entry : Command) (own : PairState) → ((store : Store) → P (record own { store = store }))
    → P (settled_by here entry own)
by_settled P here entry own h = by_test P (is_blank_join entry here.me here.inc) _ own (λ joins. h (settled own.store)) (λ other. h own.store)

pub settling : (here : JobContext) (entry : Command) (own : PairState) → IsSettling own (settled_by here entry own)
settling here entry own = by_test (IsSettling own) (is_blank_join entry here.me here.inc) _ own
    (λ joins. record { pairs = refl; copies = refl; slots = refl; chains = refl; tickets = refl; marks = refl })
    (λ other. record { pairs = refl; copies = refl; slots = refl; chains = refl; tickets = refl; marks = refl })
