use Rattle.std.proofs.Common.{◌∙◌, sym}
use Rattle.kept_chains.proofs.Walks.{read_is}
use Rattle.kept_chains.proofs.walk.read_nth.Goals as goal

pub returns-in_ok-bytes-in-Some-clause-entry : goal.returns-in_ok-bytes-in-Some-clause-entry
returns-in_ok-bytes-in-Some-clause-entry g c = λ observed.
    read_is c.args.store.now.entries c.args.cell c.args.place _ _ _ (sym c.in-Some.is ∙ c.nth.ensures.found) (c.in_ok-bytes-in-Some.ensures.bytes observed)
