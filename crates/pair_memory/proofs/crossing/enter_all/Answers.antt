use Rattle.std.proofs.Common.{sym, ◌∙◌}
use Rattle.pair_memory.proofs.Entering.{entered_failed, entered_plain, entered_settled}
use Rattle.pair_memory.proofs.crossing.enter_all.Goals as goal

pub returns-then-not-is_blank_join : goal.returns-then-not-is_blank_join
returns-then-not-is_blank_join g c =
    let law = g.met.D.Disk g.world.𝓛 g.world.𝓜 g.world.𝓡 ((λ s x. x), (λ x. x), (λ x. x), λ x. x) in
    entered_plain g.D.Disk law.stays law.only_now c.args.here.now c.args.entry.now c.args.side.now c.cross.new.side c.args.store.now c.cross.new.store
    c.cross.ensures (sym c.is_blank_join.ensures ∙ c.if-not-is_blank_join.true) tt

pub returns-in-Ok : goal.returns-in-Ok
returns-in-Ok g c =
    let law = g.met.D.Disk g.world.𝓛 g.world.𝓜 g.world.𝓡 ((λ s x. x), (λ x. x), (λ x. x), λ x. x) in
    entered_settled g.D.Disk law.stays law.only_now c.args.here.now c.args.entry.now c.args.side.now c.cross.new.side c.args.store.now c.cross.new.store
    c.cross.ensures c.settle.new.store (sym c.is_blank_join.ensures ∙ c.if-not-is_blank_join.false) tt c.in-Ok.ensures.commit

pub returns-in-Err : goal.returns-in-Err
returns-in-Err g c =
    let law = g.met.D.Disk g.world.𝓛 g.world.𝓜 g.world.𝓡 ((λ s x. x), (λ x. x), (λ x. x), λ x. x) in
    entered_failed g.D.Disk law.stays law.only_now c.args.here.now c.args.entry.now c.args.side.now c.cross.new.side c.args.store.now c.cross.new.store
    c.cross.ensures c.settle.new.store (sym c.is_blank_join.ensures ∙ c.if-not-is_blank_join.false) c.in-Err.field-0 c.in-Err.ensures.errors
    c.in-Err.ensures.commit
