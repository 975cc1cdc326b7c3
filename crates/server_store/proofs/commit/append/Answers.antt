use Rattle.std.proofs.Common.{[]}
use Rattle.petal_disk.proofs.Moments.{weaker}
use Rattle.data_device.specs.Kept.{kept_of}
use Rattle.server_store.proofs.Commits.{held-following, keeps_after, committed, shows_others, on_ok}
use Rattle.server_store.proofs.commit.append.Goals as goal

pub returns-clause-contents : goal.returns-clause-contents
returns-clause-contents g c observed es = held-following es _ _ (c.append_all.ensures.outside observed)

pub returns-clause-keeps : goal.returns-clause-keeps
returns-clause-keeps g c observed slots picture h =
    let log = c.args.log.now in
    let rs = c.args.changes.now in
    let kept = kept_of log.fresh log.records in
    let fits = c.requires.fits slots in
    on_ok c.append_all.result _ _ _
    (λ records after. keeps_after slots log picture rs [] c.append_all.new.self _ _ _ _ h (shows_others _ kept rs c.requires.changes)
    (λ d i. shows_others d kept rs c.requires.changes) (c.append_all.ensures.outside observed)
    (c.append_all.ensures.crash observed slots h.logs fits) c.append_all.ensures.fresh records after)
    c.append_all.ensures.ok (c.append_all.ensures.logs observed slots h.logs fits)

pub returns-clause-either : goal.returns-clause-either
returns-clause-either g c observed slots picture h =
    let log = c.args.log.now in
    let rs = c.args.changes.now in
    let kept = kept_of log.fresh log.records in
    committed slots log picture rs [] _ _ h.shown (c.append_all.ensures.outside observed) (shows_others _ kept rs c.requires.changes)
    (c.append_all.ensures.either observed slots h.logs (c.requires.fits slots))

pub returns-clause-any_moment : goal.returns-clause-any_moment
returns-clause-any_moment g c observed slots picture h =
    let log = c.args.log.now in
    let rs = c.args.changes.now in
    let kept = kept_of log.fresh log.records in
    weaker g.D.Disk.moment g.D.Disk.left_since _ _ _ _ (c.append_all.ensures.any_moment observed slots h.logs (c.requires.fits slots))
    (λ x l. committed slots log picture rs [] l.from x (h.left l.from l.from_left) l.outside (shows_others l.from kept rs c.requires.changes) l.list)
