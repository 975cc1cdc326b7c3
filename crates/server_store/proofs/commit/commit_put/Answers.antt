use Rattle.std.proofs.Common.{◌∙◌, [], ◌∷◌, inl}
use Rattle.petal_disk.proofs.Moments.{joined, weaker}
use Rattle.data_device.specs.declared.record.StoreRecord.TheVariants as kind
use Rattle.server_store.proofs.Steps.{either_as}
use Rattle.server_store.proofs.commit.commit_put.Goals as goal

pub returns-in_err-make_room-clause-contents : goal.returns-in_err-make_room-clause-contents
returns-in_err-make_room-clause-contents g c observed es free = c.make_room.ensures.contents observed es

pub returns-in_err-make_room-clause-either : goal.returns-in_err-make_room-clause-either
returns-in_err-make_room-clause-either g c observed picture h fit = inl (c.make_room.ensures.either observed _ picture h)

pub returns-in_err-make_room-clause-any_moment : goal.returns-in_err-make_room-clause-any_moment
returns-in_err-make_room-clause-any_moment g c observed picture h fit =
    weaker g.D.Disk.moment g.D.Disk.left_since _ _ _ _ (c.make_room.ensures.any_moment observed _ picture h) (λ x shown. inl shown)

pub returns-clause-contents : goal.returns-clause-contents
returns-clause-contents g c observed es free = c.append_put.ensures.contents observed es free ∙ c.make_room.ensures.contents observed es

pub returns-clause-keeps : goal.returns-clause-keeps
returns-clause-keeps g c observed picture h fit =
    c.append_put.ensures.keeps observed picture (c.in_ok-make_room.ensures.keeps observed _ picture h) (rw c.make_room.ensures.kept fit)

pub returns-clause-either : goal.returns-clause-either
returns-clause-either g c observed picture h fit =
    let e = c.args.entry.now in
    either_as _ _ c.args.log.now c.make_room.new.log picture (kind.Put e.key e.version e.slot c.args.origin.now ∷ []) _ c.make_room.ensures.fresh
    c.make_room.ensures.kept
    (c.append_put.ensures.either observed picture (c.in_ok-make_room.ensures.keeps observed _ picture h) (rw c.make_room.ensures.kept fit))

pub returns-clause-any_moment : goal.returns-clause-any_moment
returns-clause-any_moment g c observed picture h fit =
    let e = c.args.entry.now in
    joined g.D.Disk.moment g.D.Disk.left_since _ _ _ _ _
    (weaker g.D.Disk.moment g.D.Disk.left_since _ _ _ _ (c.make_room.ensures.any_moment observed _ picture h) (λ x shown. inl shown))
    (c.append_put.ensures.any_moment observed picture (c.in_ok-make_room.ensures.keeps observed _ picture h) (rw c.make_room.ensures.kept fit))
    (λ x shown. either_as x _ c.args.log.now c.make_room.new.log picture (kind.Put e.key e.version e.slot c.args.origin.now ∷ []) _ c.make_room.ensures.fresh
    c.make_room.ensures.kept shown)
