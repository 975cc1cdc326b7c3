-- The first job, by the part that does it.
use Rattle.std.proofs.Common.{◌≡◌, [], rules}
use Rattle.server_core.proofs.Working.{log_first, none_first, not_idle, pairs_first}
use Rattle.server_core.proofs.server.ServerCore.work.Goals as goal

pub returns-in_default : goal.returns-in_default
returns-in_default g c =
    let law = g.met.D.Disk g.world.𝓛 g.world.𝓜 g.world.𝓡 ((λ s x. x), (λ x. x), (λ x. x), λ x. x) in
    let also = g.met.E.Disk g.world.𝓛 g.world.𝓜 g.world.𝓡 ((λ s x. x), (λ x. x), (λ x. x), λ x. x) in
    let core = c.self.inside.parts in
    let none : core.queue ≡ [] = search rules in
    rw (← c.self.view_is)
    (none_first g.D.Disk g.E.Disk law.stays law.only_now also.stays also.only_now core c.args.store.now c.args.state.now none
    (rw (← c.self.view_is) at c.requires.tickets))

pub returns-in-OfPairs : goal.returns-in-OfPairs
returns-in-OfPairs g c =
    let law = g.met.D.Disk g.world.𝓛 g.world.𝓜 g.world.𝓡 ((λ s x. x), (λ x. x), (λ x. x), λ x. x) in
    let also = g.met.E.Disk g.world.𝓛 g.world.𝓜 g.world.𝓡 ((λ s x. x), (λ x. x), (λ x. x), λ x. x) in
    let core = c.self.inside.parts in
    rw (← c.self.view_is, c.as_some.ensures)
    (pairs_first g.D.Disk g.E.Disk law.stays law.only_now also.stays also.only_now core c.work_pair.new.self c.args.store.now c.work_pair.new.store
    c.args.state.now c.work_pair.result (not_idle core.queue _ c.in-Some.ensures.some) c.work_pair.ensures)

pub returns-in-Applies : goal.returns-in-Applies
returns-in-Applies g c =
    let law = g.met.D.Disk g.world.𝓛 g.world.𝓜 g.world.𝓡 ((λ s x. x), (λ x. x), (λ x. x), λ x. x) in
    let also = g.met.E.Disk g.world.𝓛 g.world.𝓜 g.world.𝓡 ((λ s x. x), (λ x. x), (λ x. x), λ x. x) in
    let core = c.self.inside.parts in
    rw (← c.self.view_is, c.as_some-in-Applies.ensures)
    (pairs_first g.D.Disk g.E.Disk law.stays law.only_now also.stays also.only_now core c.work_apply.new.self c.args.store.now c.work_apply.new.store
    c.args.state.now c.work_apply.result (not_idle core.queue _ c.in-Some.ensures.some) c.work_apply.ensures)

pub returns-in-OfLog : goal.returns-in-OfLog
returns-in-OfLog g c =
    let law = g.met.D.Disk g.world.𝓛 g.world.𝓜 g.world.𝓡 ((λ s x. x), (λ x. x), (λ x. x), λ x. x) in
    let also = g.met.E.Disk g.world.𝓛 g.world.𝓜 g.world.𝓡 ((λ s x. x), (λ x. x), (λ x. x), λ x. x) in
    let core = c.self.inside.parts in
    rw (← c.self.view_is, c.as_some-in-OfLog.ensures)
    (log_first g.D.Disk g.E.Disk law.stays law.only_now also.stays also.only_now core c.work_log.new.self c.args.store.now c.args.state.now
    c.work_log.new.state c.work_log.result (not_idle core.queue _ c.in-Some.ensures.some) (rw (← c.self.view_is) at c.requires.tickets)
    c.work_log.ensures)
