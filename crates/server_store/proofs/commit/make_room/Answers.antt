use Rattle.std.proofs.Common.{◌≡◌, ◌∙◌, ap}
use Rattle.std.proofs.lemmas.Result.{on_ok_weaker}
use Rattle.petal_disk.proofs.Moments.{started, weaker}
use Rattle.data_device.specs.Kept.{kept_of}
use Rattle.data_device.specs.Turned.{Turned, turned}
use Rattle.data_device.proofs.Turning.{turned_keeps}
use Rattle.server_store.proofs.Commits.{held-following, keeps_turned, shown_left, shown_turned}
use Rattle.server_store.proofs.commit.make_room.Goals as goal

pub returns-then-has_room-clause-any_moment : goal.returns-then-has_room-clause-any_moment
returns-then-has_room-clause-any_moment g c observed slots picture h =
    let laws = g.met.D.Disk g.world.𝓛 g.world.𝓜 g.world.𝓡 ((λ s x. x), (λ x. x), (λ x. x), λ x. x) in
    started g.D.Disk.moment g.D.Disk.left_since _ _ (λ x left. shown_left slots c.args.log.now picture _ _ h x (laws.only_now c.args.disk.now x left))

pub returns-clause-contents : goal.returns-clause-contents
returns-clause-contents g c observed es = held-following es _ _ (c.turn.ensures.outside observed)

pub returns-clause-keeps : goal.returns-clause-keeps
returns-clause-keeps g c observed slots picture h =
    let log = c.args.log.now in
    on_ok_weaker c.turn.result (λ logs. keeps_turned slots log c.turn.new.self picture _ _ _ _ h c.turn.ensures.kept (c.turn.ensures.outside observed)
    (c.turn.ensures.crash observed slots h.logs) logs) (c.turn.ensures.logs observed slots h.logs)

pub returns-clause-either : goal.returns-clause-either
returns-clause-either g c observed slots picture h =
    let log = c.args.log.now in
    let same = ap (λ (l : Turned). kept_of log.fresh (turned l)) c.requires.list ∙ turned_keeps log.fresh log.records in
    shown_turned slots log _ picture _ _ h.shown (c.turn.ensures.outside observed) same (c.turn.ensures.either observed slots h.logs)

pub returns-clause-any_moment : goal.returns-clause-any_moment
returns-clause-any_moment g c observed slots picture h =
    let log = c.args.log.now in
    let same = ap (λ (l : Turned). kept_of log.fresh (turned l)) c.requires.list ∙ turned_keeps log.fresh log.records in
    weaker g.D.Disk.moment g.D.Disk.left_since _ _ _ _ (c.turn.ensures.any_moment observed slots h.logs)
    (λ x l. shown_turned slots log _ picture l.from x (h.left l.from l.from_left) l.outside same l.list)
