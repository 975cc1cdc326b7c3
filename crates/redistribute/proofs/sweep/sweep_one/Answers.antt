use Rattle.std.proofs.Common.{Some, sym, subst, ap, ◌∙◌}
use Rattle.petal_msg.specs.declared.retired.Retired.{Retired}
use Rattle.spec_rules.specs.State.{State}
use Rattle.spec_rules.specs.Server.{JobResult}
use Rattle.spec_rules.specs.Sweeping.{next_retired, sweeps, sweeps_with}
use Rattle.kept_chains.specs.Kept.{store_of}
use Rattle.pair_memory.specs.JobResult.{IsDone, held}
use Rattle.pair_memory.specs.PairMemory.{own_of}
use Rattle.pair_memory.proofs.Said.{said_done}
use Rattle.redistribute.proofs.Retired.{retired_there}
use Rattle.redistribute.proofs.sweep.sweep_one.Goals as goal

pub drop_one-requires-clause-there : goal.drop_one-requires-clause-there
drop_one-requires-clause-there g c = λ _ _.
    retired_there c.args.here.now.state c.args.store.now c.in-Some-Key.key c.free.ensures.order
    (ap (λ (s : State). next_retired s (store_of c.args.store.now)) (sym c.state.ensures) ∙ sym c.next_retired.ensures ∙ c.in-Some-Key.is
    ∙ ap (λ (what : Retired). Some what) c.in-Some-Key.field-0-is)

pub returns-in-None : goal.returns-in-None
unfolding sweeps
returns-in-None g c =
    let law = g.met.D.Disk g.world.𝓛 g.world.𝓜 g.world.𝓡 ((λ s x. x), (λ x. x), (λ x. x), λ x. x) in
    let here = c.args.here.now in
    let side = c.args.side.now in
    let store = c.args.store.now in
    let none = sym c.in-None.is ∙ c.next_retired.ensures ∙ ap (λ (s : State). next_retired s (store_of store)) c.state.ensures in
    subst (λ (r : JobResult). IsDone g.D.Disk here (held side store) (held side store) c.silent.result r) (ap (sweeps_with (own_of side store)) none)
    (said_done g.D.Disk law.stays law.only_now here side side store store c.silent.result _ c.silent.ensures)
