use Rattle.std.proofs.Common.{◌∙◌, List, ap, inl}
use Rattle.petal_disk.proofs.Moments.{joined, weaker}
use Rattle.data_device.specs.Kept.{AllFit, Kept}
use Rattle.server_store.proofs.Steps.{either_as, of_error}
use Rattle.server_store.proofs.commit.commit.Goals as goal

pub append-requires-clause-fits : goal.append-requires-clause-fits
append-requires-clause-fits g c _ _ slots = rw c.make_room.ensures.kept (c.requires.fits slots)

pub returns-in_err-make_room-clause-either : goal.returns-in_err-make_room-clause-either
returns-in_err-make_room-clause-either g c observed slots picture h = inl (c.make_room.ensures.either observed slots picture h)

pub returns-in_err-make_room-clause-any_moment : goal.returns-in_err-make_room-clause-any_moment
returns-in_err-make_room-clause-any_moment g c observed slots picture h =
    weaker g.D.Disk.moment g.D.Disk.left_since _ _ _ _ (c.make_room.ensures.any_moment observed slots picture h) (λ x shown. inl shown)

pub returns-clause-contents : goal.returns-clause-contents
returns-clause-contents g c observed es = c.append.ensures.contents observed es ∙ c.make_room.ensures.contents observed es

pub returns-clause-keeps : goal.returns-clause-keeps
returns-clause-keeps g c observed slots picture h =
    c.append.ensures.keeps observed slots picture (c.in_ok-make_room.ensures.keeps observed slots picture h)

pub returns-clause-either : goal.returns-clause-either
returns-clause-either g c observed slots picture h =
    either_as _ slots c.args.log.now c.make_room.new.log picture c.args.changes.now _ c.make_room.ensures.fresh c.make_room.ensures.kept
    (c.append.ensures.either observed slots picture (c.in_ok-make_room.ensures.keeps observed slots picture h))

pub returns-clause-any_moment : goal.returns-clause-any_moment
returns-clause-any_moment g c observed slots picture h =
    joined g.D.Disk.moment g.D.Disk.left_since _ _ _ _ _
    (weaker g.D.Disk.moment g.D.Disk.left_since _ _ _ _ (c.make_room.ensures.any_moment observed slots picture h) (λ x shown. inl shown))
    (c.append.ensures.any_moment observed slots picture (c.in_ok-make_room.ensures.keeps observed slots picture h))
    (λ x shown. either_as x slots c.args.log.now c.make_room.new.log picture c.args.changes.now _ c.make_room.ensures.fresh c.make_room.ensures.kept shown)
