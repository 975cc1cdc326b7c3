use Rattle.std.proofs.Common.{ℕ, ◌+◌, ap, ◌∙◌, arith}
use Rattle.kept_chains.proofs.Kept.{version_is, version_below, top_of_is}
use Rattle.kept_chains.proofs.store.next_version.Goals as goal

pub overflow_add-result : goal.overflow_add-result
overflow_add-result g c =
    let below = version_below c.args.store.now.entries c.args.cell c.free.ensures.order in
    let top = top_of_is c.args.store.now.entries c.free.ensures.order in
    omega (arith, below, top, c.requires, c.version.ensures)

pub returns : goal.returns
returns g c = ap (λ (n : ℕ). n + 1) (c.version.ensures ∙ version_is c.args.store.now.entries c.args.cell c.free.ensures.order)
