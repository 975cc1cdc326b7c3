use Rattle.std.proofs.Common.{refl, sym, ◌∙◌}
use Rattle.spec_rules.specs.Writes.{operation}
use Rattle.pair_memory.specs.PairMemory.{own_of}
use Rattle.write_pair.specs.Wanted.{wanted}
use Rattle.write_pair.proofs.Begun.{busy_is, kept_is, pending_is, write_is}
use Rattle.write_pair.proofs.Refused.{said_as}
use Rattle.write_pair.proofs.lead.write.take_newer.Goals as goal

pub returns-clause-job : goal.returns-clause-job
returns-clause-job g c =
    let here = c.args.here.now in
    let own = own_of c.args.side.now c.args.store.now in
    let want = wanted c.args.want.now in
    rw (← (write_is here own (operation here own.pairs.next want) want refl
    (sym c.is_pending_for.ensures ∙ c.if-is_pending_for.false) (sym c.is_kept_back.ensures ∙ c.if-is_kept_back.false)
    (sym c.is_under_way.ensures ∙ c.if-is_under_way.false)))
    c.open_write.ensures.job

pub returns-then-is_pending_for-clause-job : goal.returns-then-is_pending_for-clause-job
returns-then-is_pending_for-clause-job g c =
    let law = g.met.D.Disk g.world.𝓛 g.world.𝓜 g.world.𝓡 ((λ s x. x), (λ x. x), (λ x. x), λ x. x) in
    said_as g.D.Disk law.stays law.only_now c.args.here.now _ _ _ _ c.silent.result _ _ c.silent.ensures
    (pending_is c.args.here.now (own_of c.args.side.now c.args.store.now) (wanted c.args.want.now) (sym c.is_pending_for.ensures ∙ c.if-is_pending_for.true))

pub returns-then-is_kept_back-clause-job : goal.returns-then-is_kept_back-clause-job
returns-then-is_kept_back-clause-job g c =
    let law = g.met.D.Disk g.world.𝓛 g.world.𝓜 g.world.𝓡 ((λ s x. x), (λ x. x), (λ x. x), λ x. x) in
    said_as g.D.Disk law.stays law.only_now c.args.here.now _ _ _ _ c.say.result _ _ c.say.ensures
    (kept_is c.args.here.now (own_of c.args.side.now c.args.store.now) (wanted c.args.want.now) (sym c.is_pending_for.ensures ∙ c.if-is_pending_for.false)
    (sym c.is_kept_back.ensures ∙ c.if-is_kept_back.true))

pub returns-then-is_under_way-clause-job : goal.returns-then-is_under_way-clause-job
returns-then-is_under_way-clause-job g c =
    let law = g.met.D.Disk g.world.𝓛 g.world.𝓜 g.world.𝓡 ((λ s x. x), (λ x. x), (λ x. x), λ x. x) in
    said_as g.D.Disk law.stays law.only_now c.args.here.now _ _ _ _ c.say-then-is_under_way.result _ _ c.say-then-is_under_way.ensures
    (busy_is c.args.here.now (own_of c.args.side.now c.args.store.now) (wanted c.args.want.now) (sym c.is_pending_for.ensures ∙ c.if-is_pending_for.false)
    (sym c.is_kept_back.ensures ∙ c.if-is_kept_back.false) (sym c.is_under_way.ensures ∙ c.if-is_under_way.true))
