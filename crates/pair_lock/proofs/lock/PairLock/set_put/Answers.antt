use Rattle.std.proofs.Common.{refl, sym, ◌∙◌, ap}
use Rattle.petal_table.specs.Table.{at}
use Rattle.pair_lock.specs.Pairs.{at_version, versioned}
use Rattle.spec_rules.specs.Store.{cell_cmp}
use Rattle.pair_lock.proofs.Pairs.{kept_by_set, set_is_versioned}
use Rattle.pair_lock.proofs.lock.PairLock.set_put.Goals as goal

pub invariant_of-self-2 : goal.invariant_of-self-2
unfolding at
invariant_of-self-2 c =
    let w = at_version c.in-Some.pending.now c.args.version c.args.stage in
    rw c.advance.ensures (rw (c.get_mut.follows.holds w).0
    (kept_by_set _ c.args.cell c.in-Some.pending.now w c.get_mut.ensures.ordered (sym c.in-Some.ensures.value) refl c.self.invariant))

pub returns-clause-table : goal.returns-clause-table
unfolding at
returns-clause-table c =
    let w = at_version c.in-Some.pending.now c.args.version c.args.stage in
    rw c.advance.ensures
    ((c.get_mut.follows.holds w).0
    ∙ set_is_versioned _ c.args.cell c.in-Some.pending.now c.args.version c.args.stage c.get_mut.ensures.ordered (sym c.in-Some.ensures.value)
    ∙ ap (λ t. versioned t c.args.cell c.args.version c.args.stage (at cell_cmp t c.args.cell)) c.self.view_is)
