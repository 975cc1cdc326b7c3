use Rattle.std.proofs.Common.{Some, sym, ap, ◌∙◌}
use Rattle.petal_msg.specs.declared.body.Body.{Body}
use Rattle.spec_rules.specs.Copies.{page_asked, page_for}
use Rattle.spec_rules.specs.Server.{post_to}
use Rattle.kept_chains.specs.Kept.{store_of}
use Rattle.pair_memory.specs.PairMemory.{own_of}
use Rattle.copy_recovery.proofs.again.page_awaited.Goals as goal

pub returns-in-Ask : goal.returns-in-Ask
returns-in-Ask g c =
    let own = own_of c.args.side.now c.args.store.now in
    let other = sym c.other_in.ensures ∙ c.in_ok-other.was in
    let next = sym c.next_copy.ensures ∙ c.in-Ask.is in
    ap (λ (said : Body). post_to (Some c.in_ok-other.other) said) (c.page_wanted.ensures (store_of c.args.store.now))
    ∙ sym (ap (page_for c.args.here.now.state own c.args.row.now) other ∙ ap (page_asked own c.args.row.now c.in_ok-other.other) next)
